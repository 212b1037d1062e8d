-- How goals are written.
use Rattle.std.specs.Prelude.{ℕ, ◌≡◌, ◌≢◌, ◌<◌, ◌≤◌, ◌⊎◌, ◌&&◌, ◌||◌, ◌+◌, ◌++◌, ◌∷◌, ◌==◌}
use Rattle.std.specs.Prelude.{Bool, not, List, [], None, Some, codes, if◌then◌else◌, length}
use Rattle.std.specs.Prelude.{slice_get}
use Rattle.rd_app.specs.Application.{code_of}
use Rattle.rd_app.specs.declared.instr.TheConstants.{REGISTERS}
use Rattle.rd_text.specs.Words.{number_of}
use Rattle.rd_text.specs.declared.kind.Kind.{Kind}
use Rattle.rd_text.specs.declared.kind.Kind.TheVariants as kind
use Rattle.rd_names.specs.Apps.{AppView}
use Rattle.rd_names.specs.Names.{names_of}
use Rattle.rd_queue.specs.declared.waiting_list.WaitingList.{WaitingList}
use Rattle.rd_queue.specs.declared.waiting_list.WaitingList.TheVariants as part
use Rattle.rd_stream.specs.declared.side.Side.{Side}
use Rattle.rd_stream.specs.declared.side.Side.TheVariants as side
use Rattle.rd_state.specs.Snapshot.{Snapshot}
use Rattle.rd_state.specs.declared.phase.Held.TheVariants as held
use Rattle.rd_state.specs.declared.phase.Listed.TheVariants as listed
use Rattle.rd_state.specs.declared.phase.Place.{Place}
use Rattle.rd_state.specs.declared.phase.Place.TheVariants as sort
use Rattle.rd_condition.specs.declared.condition.Amount.{Amount}
use Rattle.rd_condition.specs.declared.condition.Amount.TheVariants as amount
use Rattle.rd_condition.specs.declared.condition.Comparison.{Comparison}
use Rattle.rd_condition.specs.declared.condition.Comparison.TheVariants.{Equal, Greater, Less}
use Rattle.rd_condition.specs.declared.condition.Condition.TheVariants.{Compares, InPhase}
use Rattle.rd_condition.specs.declared.condition.PhaseName.{PhaseName}
use Rattle.rd_condition.specs.declared.condition.PhaseName.TheVariants as name
use Rattle.rd_goal.specs.Claims.{is_so}
use Rattle.rd_goal.specs.Goals.{holds_in}
use Rattle.rd_goal.specs.declared.claim.Claim.{Claim}
use Rattle.rd_goal.specs.declared.claim.Claim.TheVariants.{Holds, Masked, Among, At, Waits, Runs}
use Rattle.rd_goal.specs.declared.claim.Claim.TheVariants.{SomeFailed, Finished, Asleep}
use Rattle.rd_goal.specs.declared.goal.GoalRow.{GoalRow}
use Rattle.rd_goal.specs.declared.reading.NoGoal.{NoGoal}
use Rattle.rd_goal.specs.declared.reading.NoGoal.TheVariants as why
use Rattle.rd_goal.specs.declared.reading.Wanted.{Wanted}
use Rattle.rd_goal.specs.declared.reading.Wanted.TheVariants as wanted

-- ---- texts

abbrev pub is_parenthesis : ℕ → Bool
is_parenthesis byte = byte == 40 || byte == 41

-- a byte, with a space on either side where it is a parenthesis
abbrev pub spaced_byte : ℕ → List ℕ
spaced_byte byte = if is_parenthesis byte then 32 ∷ byte ∷ 32 ∷ [] else byte ∷ []

-- a text with a space on either side of each parenthesis
abbrev pub spaced : List ℕ → List ℕ
spaced [] = []
spaced (byte ∷ text) = spaced_byte byte ++ spaced text

-- ---- words

-- what a word stands for: itself; the thing of a kind with that number, by its name; a number
pub data Sign : Type 0 where
  Itself : List ℕ → Sign
  Named : Kind → ℕ → Sign
  Numeral : ℕ → Sign

-- The word stands for that.
abbrev pub StandsFor : AppView → Sign → List ℕ → Type 0
StandsFor app (Itself text) word = word ≡ text
StandsFor app (Named kind number) word = slice_get (names_of kind app.names) number ≡ Some word
StandsFor app (Numeral number) word = number_of word ≡ Some number

-- The words stand for these, one for each.
abbrev pub StandFor : AppView → List Sign → List (List ℕ) → Type 0
StandFor app [] words = words ≡ []
StandFor app (sign ∷ signs) [] = ⊥
StandFor app (sign ∷ signs) (word ∷ words) = StandsFor app sign word × StandFor app signs words

abbrev pub named_task : ℕ → Sign
named_task task = Named kind.Task task

-- ---- claims

-- how an amount is written
abbrev pub signs_of_amount : Amount → List Sign
signs_of_amount (amount.Items queue) = Itself (codes "count") ∷ Named kind.Queue queue ∷ []
signs_of_amount (amount.Bytes stream) = Itself (codes "bytes") ∷ Named kind.Stream stream ∷ []
signs_of_amount (amount.Messages message) = Itself (codes "msgs") ∷ Named kind.Message message ∷ []
signs_of_amount (amount.Bits group) = Itself (codes "bits") ∷ Named kind.Group group ∷ []
signs_of_amount (amount.Register task register) =
    Itself (codes "reg") ∷ named_task task ∷ Numeral register ∷ []
signs_of_amount (amount.Pc task) = Itself (codes "pc") ∷ named_task task ∷ []
signs_of_amount (amount.Value task index) =
    Itself (codes "note") ∷ named_task task ∷ Numeral index ∷ []
signs_of_amount amount.Tick = Itself (codes "tick") ∷ []

abbrev pub comparison_word : Comparison → List ℕ
comparison_word Equal = codes "="
comparison_word Less = codes "<"
comparison_word Greater = codes ">"

-- how it is written with what an amount is compared
abbrev pub compared_with : Comparison → ℕ → List Sign
compared_with comparison bound = Itself (comparison_word comparison) ∷ Numeral bound ∷ []

-- what a phase is called
abbrev pub phase_word : PhaseName → List ℕ
phase_word name.Run = codes "run"
phase_word name.Again = codes "again"
phase_word name.Given = codes "given"
phase_word name.Wait = codes "wait"
phase_word name.Ended = codes "ended"
phase_word name.Failed = codes "failed"

-- how it is written that a task is in such a phase, where that has a short form
abbrev pub IsShortForm : ℕ → PhaseName → List Sign → Type 0
IsShortForm task name.Run signs = ⊥
IsShortForm task name.Again signs = ⊥
IsShortForm task name.Given signs = ⊥
IsShortForm task name.Wait signs = signs ≡ Itself (codes "waits") ∷ named_task task ∷ []
IsShortForm task name.Ended signs = signs ≡ Itself (codes "ended") ∷ named_task task ∷ []
IsShortForm task name.Failed signs = signs ≡ Itself (codes "failed") ∷ named_task task ∷ []

abbrev pub list_word : WaitingList → List ℕ
list_word part.Receiving = codes "recv"
list_word part.Sending = codes "send"

-- how a side of a buffer is written: whichever kind it is, of a stream buffer, of a message buffer
abbrev pub side_word : Side → List ℕ
side_word side.Reader = codes "read"
side_word side.Writer = codes "write"

abbrev pub stream_word : Side → List ℕ
stream_word side.Reader = codes "sread"
stream_word side.Writer = codes "swrite"

abbrev pub message_word : Side → List ℕ
message_word side.Reader = codes "mread"
message_word side.Writer = codes "mwrite"

-- The signs are one of these two words, and that thing.
abbrev pub IsEither : List ℕ → List ℕ → Sign → List Sign → Type 0
IsEither one other thing signs =
    (signs ≡ Itself one ∷ thing ∷ []) ⊎ (signs ≡ Itself other ∷ thing ∷ [])

-- The place is written so.
abbrev pub IsPlaceForm : Place → List Sign → Type 0
IsPlaceForm (sort.Listed (listed.Queue queue list)) signs =
    signs ≡ Itself (list_word list) ∷ Named kind.Queue queue ∷ []
IsPlaceForm (sort.Listed (listed.QueueSet queue_set)) signs =
    signs ≡ Itself (codes "select") ∷ Named kind.QueueSet queue_set ∷ []
IsPlaceForm (sort.Listed (listed.Group group)) signs =
    signs ≡ Itself (codes "group") ∷ Named kind.Group group ∷ []
IsPlaceForm (sort.Held (held.Stream stream side)) signs =
    IsEither (side_word side) (stream_word side) (Named kind.Stream stream) signs
IsPlaceForm (sort.Held (held.Message message side)) signs =
    IsEither (side_word side) (message_word side) (Named kind.Message message) signs
IsPlaceForm (sort.Entry index) signs = signs ≡ Itself (codes "note") ∷ Numeral index ∷ []

-- The word by itself is the claim.
abbrev pub IsAlone : List ℕ → Claim → Type 0
IsAlone word (Holds condition) = ⊥
IsAlone word (Masked amount mask comparison bound) = ⊥
IsAlone word (Among amount comparison other) = ⊥
IsAlone word (At task pc) = ⊥
IsAlone word (Waits task place) = ⊥
IsAlone word (Runs task) = ⊥
IsAlone word SomeFailed = word ≡ codes "failed"
IsAlone word Finished = word ≡ codes "finished"
IsAlone word Asleep = word ≡ codes "asleep"

-- The claim is written so.
abbrev pub IsForm : Claim → List Sign → Type 0
IsForm (Holds (Compares amount comparison bound)) signs =
    signs ≡ signs_of_amount amount ++ compared_with comparison bound
IsForm (Holds (InPhase task name)) signs =
    (signs ≡ Itself (codes "phase") ∷ named_task task ∷ Itself (phase_word name) ∷ [])
    ⊎ IsShortForm task name signs
IsForm (Masked amount mask comparison bound) signs =
    signs ≡ signs_of_amount amount
    ++ (Itself (codes "&") ∷ Numeral mask ∷ compared_with comparison bound)
IsForm (Among amount comparison other) signs =
    signs ≡ signs_of_amount amount ++ (Itself (comparison_word comparison) ∷ signs_of_amount other)
IsForm (At task pc) signs = signs ≡ Itself (codes "at") ∷ named_task task ∷ Numeral pc ∷ []
IsForm (Waits task place) signs = (there : List Sign) × IsPlaceForm place there
    × (signs ≡ Itself (codes "waits") ∷ named_task task ∷ there)
IsForm (Runs task) signs = signs ≡ Itself (codes "runs") ∷ named_task task ∷ []
IsForm SomeFailed signs = signs ≡ Itself (codes "failed") ∷ []
IsForm Finished signs = signs ≡ Itself (codes "finished") ∷ []
IsForm Asleep signs = signs ≡ Itself (codes "asleep") ∷ []

-- ---- formulas

-- a formula as it is written: a claim with its signs; one in parentheses; one that is denied; two
-- that are joined
pub data Formula : Type 0 where
  Claimed : Claim → List Sign → Formula
  Grouped : Formula → Formula
  Denied : Formula → Formula
  AllOf : Formula → Formula → Formula
  AnyOf : Formula → Formula → Formula

abbrev pub open_sign : Sign
open_sign = Itself (codes "(")

abbrev pub close_sign : Sign
close_sign = Itself (codes ")")

abbrev pub not_sign : Sign
not_sign = Itself (codes "not")

abbrev pub and_sign : Sign
and_sign = Itself (codes "and")

abbrev pub or_sign : Sign
or_sign = Itself (codes "or")

abbrev pub signs_of : Formula → List Sign
signs_of (Claimed claim signs) = signs
signs_of (Grouped inner) = open_sign ∷ (signs_of inner ++ close_sign ∷ [])
signs_of (Denied inner) = not_sign ∷ signs_of inner
signs_of (AllOf one other) = signs_of one ++ and_sign ∷ signs_of other
signs_of (AnyOf one other) = signs_of one ++ or_sign ∷ signs_of other

-- how much a formula binds: what is denied more than `and`, and that more than `or`
abbrev pub binding : Formula → ℕ
binding (Claimed claim signs) = 3
binding (Grouped inner) = 3
binding (Denied inner) = 3
binding (AllOf one other) = 2
binding (AnyOf one other) = 1

-- Its claims are written so, and no part that binds less stands where one that binds more is read;
-- of equal ones the left one is read first.
abbrev pub IsProper : Formula → Type 0
IsProper (Claimed claim signs) = IsForm claim signs
IsProper (Grouped inner) = IsProper inner
IsProper (Denied inner) = IsProper inner × (3 ≤ binding inner)
IsProper (AllOf one other) =
    IsProper one × IsProper other × (2 ≤ binding one) × (3 ≤ binding other)
IsProper (AnyOf one other) = IsProper one × IsProper other × (2 ≤ binding other)

-- Is it true in the state?
abbrev pub is_true_in : Snapshot → Formula → Bool
is_true_in s (Claimed claim signs) = is_so s claim
is_true_in s (Grouped inner) = is_true_in s inner
is_true_in s (Denied inner) = not (is_true_in s inner)
is_true_in s (AllOf one other) = is_true_in s one && is_true_in s other
is_true_in s (AnyOf one other) = is_true_in s one || is_true_in s other

-- ---- goals

-- The words are a formula, and the goal holds where that is true.
pub record IsGoalOfWords (app : AppView) (words : List (List ℕ)) (goal : List GoalRow) : Type 0 where
  pub formula : Formula
  pub proper : IsProper formula
  pub written : StandFor app (signs_of formula) words
  pub holds : (s : Snapshot) → holds_in goal s ≡ is_true_in s formula

-- ---- no goals

-- The word stands at that place; the first one is 1.
abbrev pub IsWordAt : List (List ℕ) → ℕ → List ℕ → Type 0
IsWordAt words at word = (before : ℕ) × (at ≡ before + 1) × (slice_get words before ≡ Some word)

-- The word is none of these.
abbrev pub IsNoneOf : List (List ℕ) → List ℕ → Type 0
IsNoneOf [] word = Unit {0}
IsNoneOf (one ∷ others) word = (word ≢ one) × IsNoneOf others word

-- The word is the name of something of that kind.
abbrev pub IsNameOf : AppView → Kind → List ℕ → Type 0
IsNameOf app kind word = (number : ℕ) × StandsFor app (Named kind number) word

-- The word is no number below the limit.
abbrev pub IsNoneBelow : ℕ → List ℕ → Type 0
IsNoneBelow limit word = (number : ℕ) → number_of word ≡ Some number → limit ≤ number

-- the words that begin a place, but for those that say which kind of buffer it is
abbrev pub place_words : List (List ℕ)
place_words = codes "recv" ∷ codes "send" ∷ codes "select" ∷ codes "read" ∷ codes "write"
    ∷ codes "group" ∷ codes "note" ∷ []

-- the words that begin a formula, but for a claim
abbrev pub opening_words : List (List ℕ)
opening_words = codes "not" ∷ codes "(" ∷ []

-- the words that begin an amount, but for a register
abbrev pub amount_words : List (List ℕ)
amount_words = codes "count" ∷ codes "bytes" ∷ codes "msgs" ∷ codes "bits" ∷ codes "pc"
    ∷ codes "note" ∷ codes "tick" ∷ []

-- the words that begin another claim than that of an amount
abbrev pub claim_words : List (List ℕ)
claim_words = codes "reg" ∷ codes "phase" ∷ codes "at" ∷ codes "waits" ∷ codes "ended"
    ∷ codes "runs" ∷ codes "failed" ∷ codes "finished" ∷ codes "asleep" ∷ []

-- the words that may stand behind a formula
abbrev pub joining_words : List (List ℕ)
joining_words = codes "and" ∷ codes "or" ∷ codes ")" ∷ []

-- The word isn't what is wanted.
abbrev pub IsNot : AppView → Wanted → List ℕ → Type 0
IsNot app wanted.Claim word =
    IsNoneOf opening_words word × IsNoneOf claim_words word × IsNoneOf amount_words word
IsNot app wanted.Number word = number_of word ≡ None
IsNot app wanted.Register word = IsNoneBelow REGISTERS word
IsNot app wanted.Index word = IsNoneBelow app.runs.entries word
IsNot app wanted.Instruction word = (task : ℕ) × (task < length app.runs.tasks)
    × IsNoneBelow (length (code_of app.runs task)) word
IsNot app wanted.Queue word = ¬ IsNameOf app kind.Queue word
IsNot app wanted.QueueSet word = ¬ IsNameOf app kind.QueueSet word
IsNot app wanted.Stream word = ¬ IsNameOf app kind.Stream word
IsNot app wanted.Message word = ¬ IsNameOf app kind.Message word
IsNot app wanted.Group word = ¬ IsNameOf app kind.Group word
IsNot app wanted.Task word = ¬ IsNameOf app kind.Task word
IsNot app wanted.Comparison word = (comparison : Comparison) → word ≢ comparison_word comparison
IsNot app wanted.Phase word = (name : PhaseName) → word ≢ phase_word name
IsNot app wanted.Place word = IsNoneOf place_words word
    × ((side : Side) → (word ≢ stream_word side) × (word ≢ message_word side))
IsNot app wanted.Join word = IsNoneOf joining_words word

-- The word at that place isn't what is wanted.
abbrev pub IsWrongAt : AppView → List (List ℕ) → Wanted → ℕ → Type 0
IsWrongAt app words what at = (word : List ℕ) × IsWordAt words at word × IsNot app what word

-- The words are no goal for that cause.
abbrev pub IsWhyNoGoal : AppView → List (List ℕ) → NoGoal → Type 0
IsWhyNoGoal app words (why.Wanted what at) = IsWrongAt app words what at
IsWhyNoGoal app words (why.Ends what) = Unit {0}
IsWhyNoGoal app words (why.Either at) = (word : List ℕ) × IsWordAt words at word
    × IsNameOf app kind.Stream word × IsNameOf app kind.Message word
IsWhyNoGoal app words (why.Unopened at) = IsWordAt words at (codes ")")
IsWhyNoGoal app words why.Unclosed = Unit {0}
IsWhyNoGoal app words why.TooLong = Unit {0}
IsWhyNoGoal app words why.NoMemory = Unit {0}

-- Behind this word a formula is wanted.
abbrev pub WantsFormula : List ℕ → Type 0
WantsFormula word = (word ≡ codes "(") ⊎ (word ≡ codes "not") ⊎ (word ≡ codes "and")
    ⊎ (word ≡ codes "or")

-- There is no word, or the last one wants a formula behind it.
abbrev pub IsCutOff : List (List ℕ) → Type 0
IsCutOff words = (words ≡ []) ⊎ ((before : List (List ℕ)) × (last : List ℕ)
    × (words ≡ before ++ last ∷ []) × WantsFormula last)
