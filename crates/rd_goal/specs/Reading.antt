-- What is read of a goal's words so far, and what stands in its rows by then.
use Rattle.std.specs.Prelude.{ℕ, ◌≡◌, ◌≢◌, ◌+◌, ◌-◌, ◌<◌, ◌≤◌, ◌++◌, ◌∷◌, Bool, true, false, List, []}
use Rattle.std.specs.Prelude.{◌&&◌, codes, drop, filter, if◌then◌else◌, length, nat_eq, not, take}
use Rattle.std.specs.Prelude.{is_some, option_and_then, position}
use Rattle.std.specs.Str.{bytes_eq}
use Rattle.rd_text.specs.Words.{is_some_word, is_space, name_of}
use Rattle.rd_text.specs.declared.kind.Kind.{Kind}
use Rattle.rd_state.specs.Snapshot.{Snapshot}
use Rattle.rd_names.specs.Apps.{AppView}
use Rattle.rd_names.specs.Names.{names_of}
use Rattle.rd_condition.specs.declared.condition.Amount.{Amount}
use Rattle.rd_condition.specs.declared.condition.Amount.TheVariants as amount
use Rattle.rd_condition.specs.declared.condition.Condition.TheVariants.{Compares, InPhase}
use Rattle.rd_goal.specs.Goals.{holds_in, truth_among, truths_of}
use Rattle.rd_goal.specs.Written.{Formula, IsForm, IsPlaceForm, IsProper, IsWhyNoGoal, IsWordAt}
use Rattle.rd_goal.specs.Written.{Itself, Numeral}
use Rattle.rd_goal.specs.Written.{Sign, StandFor, and_sign, binding, compared_with}
use Rattle.rd_goal.specs.Written.{comparison_word, is_true_in}
use Rattle.rd_goal.specs.Written.{not_sign, open_sign, or_sign, signs_of, signs_of_amount}
use Rattle.rd_goal.specs.declared.claim.Claim.{Claim}
use Rattle.rd_goal.specs.declared.claim.Claim.TheVariants.{Holds, Masked, Among, At, Waits, Runs}
use Rattle.rd_goal.specs.declared.claim.Claim.TheVariants.{SomeFailed, Finished, Asleep}
use Rattle.rd_goal.specs.declared.goal.GoalRow.{GoalRow}
use Rattle.rd_goal.specs.declared.goal.GoalRow.TheVariants as row
use Rattle.rd_goal.specs.declared.reading.NoGoal.{NoGoal}
use Rattle.rd_goal.specs.declared.reading.NoGoal.TheVariants.{Ends}
use Rattle.rd_goal.specs.declared.reading.PendingOperator.{PendingOperator}
use Rattle.rd_goal.specs.declared.reading.PendingOperator.TheVariants as operator
use Rattle.rd_goal.specs.declared.reading.Wanted.TheVariants.{Claim as ClaimWanted}
use Rattle.rd_goal.specs.declared.words.Joining.{Joining}
use Rattle.rd_goal.specs.declared.words.Joining.TheVariants as joining
use Rattle.rd_state.specs.declared.phase.Place.{Place}

-- ---- texts

-- what stands between two places of a text
abbrev pub part_of : List ℕ → ℕ → ℕ → List ℕ
part_of text from to = take (to - from) (drop from text)

-- the part as a word, unless it is empty
abbrev pub word_in : List ℕ → List (List ℕ)
word_in part = filter is_some_word (part ∷ [])

-- the byte as a word, unless it is a space
abbrev pub parenthesis_in : ℕ → List (List ℕ)
parenthesis_in byte = if is_space byte then [] else (byte ∷ []) ∷ []

-- ---- words

-- what a goal is read from: words, and the application that they stand in
pub record GoalSource : Type 0 where
  pub app : AppView
  pub words : List (List ℕ)

-- how many of the words are read, and those that aren't read yet
pub record WordsView : Type 0 where
  pub source : GoalSource
  pub read : ℕ
  pub ahead : List (List ℕ)

-- the words of which none is read
abbrev pub unread : AppView → List (List ℕ) → WordsView
unread app words =
    record { source = record { app = app; words = words }; read = 0; ahead = words }

-- The word was read last.
abbrev pub IsLast : WordsView → List ℕ → Type 0
IsLast words word = IsWordAt words.source.words words.read word

-- the word that comes next is this one
abbrev pub is_next : List (List ℕ) → List ℕ → Bool
is_next [] word = false
is_next (next ∷ others) word = bytes_eq next word

-- the word that comes next belongs to the claim that is being read: it joins nothing
abbrev pub is_operand_next : List (List ℕ) → Bool
is_operand_next ahead = not (nat_eq (length ahead) 0) && not (is_next ahead (codes "and"))
    && not (is_next ahead (codes "or")) && not (is_next ahead (codes ")"))

-- the word that comes next names something of that kind
abbrev pub is_name_next : Kind → AppView → List (List ℕ) → Bool
is_name_next kind app [] = false
is_name_next kind app (next ∷ others) =
    is_some (option_and_then (λ name. position (bytes_eq name) (names_of kind app.names)) (name_of next))

-- The words that stand for these are read.
pub record Reads (signs : List Sign) (old new : WordsView) : Type 0 where
  pub words : List (List ℕ)
  pub written : StandFor old.source.app signs words
  pub ahead : old.ahead ≡ words ++ new.ahead
  pub source : new.source ≡ old.source

-- what stands behind a formula, as a word
abbrev pub joining_word : Joining → List ℕ
joining_word joining.And = codes "and"
joining_word joining.Or = codes "or"
joining_word joining.Close = codes ")"

-- The words are no goal for that cause.
abbrev pub IsWhyNot : GoalSource → NoGoal → Type 0
IsWhyNot source why = IsWhyNoGoal source.app source.words why

-- The same, and they don't end where a claim is wanted.
pub record IsRefusal (source : GoalSource) (why : NoGoal) : Type 0 where
  pub right : IsWhyNot source why
  pub inside : why ≢ Ends ClaimWanted

-- ---- claims

-- some bits of the amount can be compared
abbrev pub has_bits : Amount → Bool
has_bits (amount.Items queue) = false
has_bits (amount.Bytes stream) = false
has_bits (amount.Messages message) = false
has_bits (amount.Bits group) = true
has_bits (amount.Register task register) = true
has_bits (amount.Pc task) = false
has_bits (amount.Value task index) = true
has_bits amount.Tick = false

-- The claim compares the amount, and behind that is written so.
abbrev pub IsAbout : Amount → Claim → List Sign → Type 0
IsAbout amount (Holds (Compares compared comparison bound)) signs =
    (compared ≡ amount) × (signs ≡ compared_with comparison bound)
IsAbout amount (Holds (InPhase task name)) signs = ⊥
IsAbout amount (Masked compared mask comparison bound) signs = (compared ≡ amount)
    × (signs ≡ Itself (codes "&") ∷ Numeral mask ∷ compared_with comparison bound)
IsAbout amount (Among compared comparison other) signs = (compared ≡ amount)
    × (signs ≡ Itself (comparison_word comparison) ∷ signs_of_amount other)
IsAbout amount (At task pc) signs = ⊥
IsAbout amount (Waits task place) signs = ⊥
IsAbout amount (Runs task) signs = ⊥
IsAbout amount SomeFailed signs = ⊥
IsAbout amount Finished signs = ⊥
IsAbout amount Asleep signs = ⊥

-- What stands behind the amount in the claim is read.
pub record ReadsAbout (amount : Amount) (old new : WordsView) (claim : Claim) : Type 0 where
  pub signs : List Sign
  pub about : IsAbout amount claim signs
  pub reads : Reads signs old new

-- What stands behind the amount's first word is read.
pub record ReadsAmount (first : List ℕ) (old new : WordsView) (amount : Amount) : Type 0 where
  pub signs : List Sign
  pub form : signs_of_amount amount ≡ Itself first ∷ signs
  pub reads : Reads signs old new

-- What stands behind the place's first word is read.
pub record ReadsPlace (first : List ℕ) (old new : WordsView) (place : Place) : Type 0 where
  pub signs : List Sign
  pub form : IsPlaceForm place (Itself first ∷ signs)
  pub reads : Reads signs old new

-- What stands behind the claim's first word is read.
pub record ReadsBehind (first : List ℕ) (old new : WordsView) (claim : Claim) : Type 0 where
  pub signs : List Sign
  pub form : IsForm claim (Itself first ∷ signs)
  pub reads : Reads signs old new

-- The claim is read.
pub record ReadsClaim (old new : WordsView) (claim : Claim) : Type 0 where
  pub signs : List Sign
  pub form : IsForm claim signs
  pub reads : Reads signs old new

-- ---- formulas

-- what is begun and waits for a formula: a parenthesis, a `not`, a formula with `and` or `or` behind
-- it
pub data Unfinished : Type 0 where
  Opens : Unfinished
  Denies : Unfinished
  Ands : Formula → Unfinished
  Ors : Formula → Unfinished

abbrev pub operator_of : Unfinished → PendingOperator
operator_of Opens = operator.Open
operator_of Denies = operator.Not
operator_of (Ands one) = operator.Both
operator_of (Ors one) = operator.Either

abbrev pub strength_of : PendingOperator → ℕ
strength_of operator.Open = 0
strength_of operator.Either = 1
strength_of operator.Both = 2
strength_of operator.Not = 3

-- how it is written
abbrev pub signs_before : Unfinished → List Sign
signs_before Opens = open_sign ∷ []
signs_before Denies = not_sign ∷ []
signs_before (Ands one) = signs_of one ++ and_sign ∷ []
signs_before (Ors one) = signs_of one ++ or_sign ∷ []

-- how all that is begun is written, of which what was begun last stands first
abbrev pub signs_begun : List Unfinished → List Sign
signs_begun [] = []
signs_begun (last ∷ before) = signs_begun before ++ signs_before last

-- how much what was begun last binds
abbrev pub last_strength : List Unfinished → ℕ
last_strength [] = 0
last_strength (last ∷ before) = strength_of (operator_of last)

-- how much a formula must bind that ends what was begun last
abbrev pub least_for : Unfinished → ℕ
least_for Opens = 1
least_for Denies = 3
least_for (Ands one) = 3
least_for (Ors one) = 2

abbrev pub least_behind : List Unfinished → ℕ
least_behind [] = 1
least_behind (last ∷ before) = least_for last

-- The row is true just where the formula is.
pub record IsRowFor (rows : List GoalRow) (formula : Formula) (row : ℕ) : Type 0 where
  pub within : row < length rows
  pub truth : (s : Snapshot) → truth_among (truths_of s rows) row ≡ is_true_in s formula

-- Of the operands these are left below the one that what was begun last has.
abbrev pub IsBegunOn : List GoalRow → Unfinished → List ℕ → List ℕ → Type 0
IsBegunOn rows Opens below operands = operands ≡ below
IsBegunOn rows Denies below operands = operands ≡ below
IsBegunOn rows (Ands one) below operands = (row : ℕ) × (operands ≡ below ++ row ∷ [])
    × IsRowFor rows one row × IsProper one × (2 ≤ binding one)
IsBegunOn rows (Ors one) below operands = (row : ℕ) × (operands ≡ below ++ row ∷ [])
    × IsRowFor rows one row × IsProper one

-- What joins stands behind what binds less.
abbrev pub StandsBehind : Unfinished → List Unfinished → Type 0
StandsBehind Opens before = Unit {0}
StandsBehind Denies before = Unit {0}
StandsBehind (Ands one) before = last_strength before < 2
StandsBehind (Ors one) before = last_strength before < 1

-- These operators wait, on these operands.
abbrev pub AreBegun : List GoalRow → List Unfinished → List PendingOperator → List ℕ → Type 0
AreBegun rows [] pending operands = (pending ≡ []) × (operands ≡ [])
AreBegun rows (last ∷ before) pending operands = (others : List PendingOperator)
    × (below : List ℕ) × AreBegun rows before others below × StandsBehind last before
    × (pending ≡ others ++ operator_of last ∷ []) × IsBegunOn rows last below operands

-- what a draft has: what is ahead of it, its rows, the rows that no other joins, and the operators
-- that wait
pub record DraftView : Type 0 where
  pub words : WordsView
  pub rows : List GoalRow
  pub operands : List ℕ
  pub pending : List PendingOperator

-- A formula is wanted behind what is written so.
pub record IsWanting (draft : DraftView) (signs : List Sign) : Type 0 where
  pub begun : List Unfinished
  pub waits : AreBegun draft.rows begun draft.pending draft.operands
  pub written : signs ≡ signs_begun begun

-- What is written so ends in a formula that binds at least so much, behind what is begun.
pub record EndsIn (begun : List Unfinished) (least : ℕ) (draft : DraftView) (signs : List Sign)
    : Type 0 where
  pub formula : Formula
  pub proper : IsProper formula
  pub binds : least ≤ binding formula
  pub fits : least_behind begun ≤ binding formula
  pub row : ℕ
  pub is_row : IsRowFor draft.rows formula row
  pub is_last : row + 1 ≡ length draft.rows
  pub below : List ℕ
  pub operands : draft.operands ≡ below ++ row ∷ []
  pub waits : AreBegun draft.rows begun draft.pending below
  pub written : signs ≡ signs_begun begun ++ signs_of formula

abbrev pub HasFormula : ℕ → DraftView → List Sign → Type 0
HasFormula least draft signs = (begun : List Unfinished) × EndsIn begun least draft signs

-- The same, and nothing waits that binds as much.
abbrev pub IsSettled : ℕ → DraftView → List Sign → Type 0
IsSettled least draft signs = (begun : List Unfinished)
    × (last_strength begun < least) × EndsIn begun least draft signs

-- A formula is wanted next, or one has ended.
abbrev pub IsAmid : Bool → DraftView → List Sign → Type 0
IsAmid true draft signs = IsWanting draft signs
IsAmid false draft signs = HasFormula 3 draft signs

-- More is read, and by then a formula is wanted next, or not.
pub record ReadsOn (old new : DraftView) (signs : List Sign) (is_wanted : Bool) : Type 0 where
  pub more : List Sign
  pub reads : Reads more old.words new.words
  pub amid : IsAmid is_wanted new (signs ++ more)

-- ---- rows

-- the draft with one row more, on these operands, which is the last operand then
abbrev pub with_row : DraftView → List ℕ → GoalRow → DraftView
with_row draft below row = record draft {
  rows = draft.rows ++ row ∷ [];
  operands = below ++ length draft.rows ∷ [];
}

-- The last operands are joined by the operator.
abbrev pub IsJoined : PendingOperator → DraftView → DraftView → Type 0
IsJoined operator.Open old new = ⊥
IsJoined operator.Not old new = (below : List ℕ) (other : ℕ)
    → old.operands ≡ below ++ other ∷ [] → new ≡ with_row old below (row.Not other)
IsJoined operator.Both old new = (below : List ℕ) (one other : ℕ)
    → old.operands ≡ (below ++ one ∷ []) ++ other ∷ [] → new ≡ with_row old below (row.Both one other)
IsJoined operator.Either old new = (below : List ℕ) (one other : ℕ)
    → old.operands ≡ (below ++ one ∷ []) ++ other ∷ []
    → new ≡ with_row old below (row.Either one other)

-- The last operand is taken, and is this row.
abbrev pub IsTaken : DraftView → DraftView → ℕ → Type 0
IsTaken old new row = (below : List ℕ) (other : ℕ) → old.operands ≡ below ++ other ∷ []
    → (row ≡ other) × (new ≡ record old { operands = below })

-- The goal holds where the formula is true that is written so.
pub record IsRead (signs : List Sign) (goal : List GoalRow) : Type 0 where
  pub formula : Formula
  pub proper : IsProper formula
  pub written : signs ≡ signs_of formula
  pub holds : (s : Snapshot) → holds_in goal s ≡ is_true_in s formula
