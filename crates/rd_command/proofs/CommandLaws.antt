-- A command that is read is spelled by its words, and what spells a command is read.
use Rattle.std.proofs.Common.{◌≡◌, ◌∙◌, ℕ, Bool, true, false, cond, nat_eq, List, [], ◌∷◌, ◌++◌, Option, Some, None, option_and_then, refl, sym, ap, subst}
use Rattle.std.specs.Prelude.{Err, IfOk, Ok, Result, is_some}
use Rattle.std.specs.List.{find}
use Rattle.std.specs.Option.{option_or}
use Rattle.std.specs.Result.{result_ok}
use Rattle.std.specs.Str.{bytes_eq}
use Rattle.std.proofs.lemmas.Bool.{eqb-true}
use Rattle.std.proofs.lemmas.Slice.Eq.{bytes_eq-Decides}
use Rattle.rd_text.specs.declared.kind.Kind.{Kind}
use Rattle.rd_text.specs.declared.kind.Kind.TheVariants as kind
use Rattle.rd_command.specs.declared.keyword.AmountKeyword.{AmountKeyword}
use Rattle.rd_command.specs.declared.keyword.AmountKeyword.TheVariants as compared
use Rattle.rd_command.specs.declared.keyword.ConditionKeyword.{ConditionKeyword}
use Rattle.rd_command.specs.declared.keyword.ConditionKeyword.TheVariants.{Compares, InPhase}
use Rattle.rd_command.specs.declared.keyword.EditKeyword.{EditKeyword}
use Rattle.rd_command.specs.declared.keyword.EditKeyword.TheVariants as poked
use Rattle.rd_command.specs.declared.keyword.InterruptKeyword.{InterruptKeyword}
use Rattle.rd_command.specs.declared.keyword.InterruptKeyword.TheVariants as raised
use Rattle.rd_command.specs.declared.keyword.CommandKeyword.{CommandKeyword}
use Rattle.rd_command.specs.declared.keyword.CommandKeyword.TheVariants.{Ask, AskByWatch, TakeWheel, GiveWheel, Watch, Unwatch, Show, Look}
use Rattle.rd_command.specs.declared.keyword.CommandKeyword.TheVariants as keyword
use Rattle.rd_command.specs.declared.keyword.RequestKeyword.{RequestKeyword}
use Rattle.rd_command.specs.declared.keyword.RequestKeyword.TheVariants as asked
use Rattle.rd_command.specs.declared.keyword.SearchKeyword.{SearchKeyword}
use Rattle.rd_command.specs.declared.keyword.SearchKeyword.TheVariants as sought
use Rattle.rd_command.specs.declared.view.Overview.{Overview}
use Rattle.rd_command.specs.declared.view.Overview.TheVariants as overview
use Rattle.rd_command.specs.declared.keyword.CommandParameter.{CommandParameter}
use Rattle.rd_command.specs.declared.keyword.CommandParameter.TheVariants.{Count}
use Rattle.rd_command.specs.declared.keyword.CommandParameter.TheVariants as parameter
use Rattle.rd_command.specs.Commands.{AreFormed, AreOperands, CommandView, FindsWhatIsSpelled, NoLineIsTwoCommands, Spells, command_among, command_from, command_of, command_spelled}
use Rattle.rd_command.specs.Forms.{after_condition, after_texts, after_words, are_operands, is_all, is_formed, watch_number, watch_of}
use Rattle.rd_command.specs.Keywords.{Operands, Plain, WithCondition, Spelling, condition_keyword_of, condition_keywords, condition_row, keywords, parameters_of, spelling_of, text_of}
use Rattle.rd_command.proofs.Steps.{first_is, option_if, some_if, then_some, then_some_is}

same_bytes : (xs ys : List ℕ) → bytes_eq xs ys ≡ true → xs ≡ ys
same_bytes xs ys e = (bytes_eq-Decides xs ys).0 e

-- ---- what is read is spelled

-- the texts are those that the words begin with
texts_taken : (texts words left : List (List ℕ)) → after_texts texts words ≡ Some left → words ≡ texts ++ left
texts_taken [] words left e = let is : words ≡ left = cc in is
texts_taken (text ∷ texts) [] left e = absurd cc
texts_taken (text ∷ texts) (word ∷ words) left e =
    elim (bytes_eq word text) as (λ b. (bytes_eq word text ≡ b) → cond b (after_texts texts words) None ≡ Some left → word ∷ words ≡ (text ∷ texts) ++ left) [
      | true ↦ λ same. λ e. ap (λ (word : List ℕ). word ∷ words) (same_bytes word text same) ∙ ap (λ (words : List (List ℕ)). text ∷ words) (texts_taken texts words left e)
      | false ↦ λ same. λ e. absurd cc
    ] refl e

formed_takes : (parameters : List CommandParameter) (words : List (List ℕ)) → is_all (after_words parameters words) ≡ true → AreFormed parameters words
formed_takes [] [] e = refl
formed_takes [] (word ∷ words) e = absurd cc
formed_takes (parameter ∷ others) [] e = absurd cc
formed_takes (parameter ∷ others) (word ∷ words) e =
    elim (is_formed parameter word) as
    (λ b. (is_formed parameter word ≡ b) → is_all (cond b (after_words others words) None) ≡ true → AreFormed (parameter ∷ others) (word ∷ words)) [
      | true ↦ λ formed. λ e. (word, words, refl, formed, formed_takes others words e)
      | false ↦ λ formed. λ e. absurd cc
    ] refl e

-- words for operands, and then for others
words_then : (parameters others : List CommandParameter) (words : List (List ℕ))
    → after_words (parameters ++ others) words ≡ option_and_then (after_words others) (after_words parameters words)
words_then [] others words = refl
words_then (parameter ∷ parameters) others [] = refl
words_then (parameter ∷ parameters) others (word ∷ words) =
    elim (is_formed parameter word) as
    (λ b. cond b (after_words (parameters ++ others) words) None ≡ option_and_then (after_words others) (cond b (after_words parameters words) None)) [
      | true ↦ words_then parameters others words
      | false ↦ refl
    ]

text_found : (word : List ℕ) (others : List ConditionKeyword) (k : ConditionKeyword)
    → find (λ k. bytes_eq word (text_of (condition_row k))) others ≡ Some k → word ≡ text_of (condition_row k)
text_found word [] k e = absurd cc
text_found word (first ∷ others) k e =
    elim (bytes_eq word (text_of (condition_row first))) as
    (λ b. (bytes_eq word (text_of (condition_row first)) ≡ b) → cond b (Some first) (find (λ k. bytes_eq word (text_of (condition_row k))) others) ≡ Some k → word ≡ text_of (condition_row k)) [
      | true ↦ λ same. λ e.
          same_bytes word (text_of (condition_row first)) same ∙ ap (λ (k : ConditionKeyword). text_of (condition_row k)) (let one : first ≡ k = cc in one)
      | false ↦ λ same. text_found word others k
    ] refl e

condition_takes : (parameters : List CommandParameter) (word : List ℕ) (words : List (List ℕ)) (found : Option ConditionKeyword) → condition_keyword_of word ≡ found
    → is_all (option_and_then (after_words parameters) (option_and_then (λ keyword. after_words (parameters_of (condition_row keyword)) words) found)) ≡ true
    → AreOperands (WithCondition parameters) (word ∷ words)
condition_takes parameters word words None is e = absurd cc
condition_takes parameters word words (Some k) is e = (
  k,
  words,
  ap (λ (word : List ℕ). word ∷ words) (text_found word condition_keywords k is),
  formed_takes (parameters_of (condition_row k) ++ parameters) words (ap is_all (words_then (parameters_of (condition_row k)) parameters words) ∙ e),
)

operands_take : (operands : Operands) (words : List (List ℕ)) → are_operands operands words ≡ true → AreOperands operands words
operands_take (Plain parameters) words e = formed_takes parameters words e
operands_take (WithCondition parameters) [] e = absurd cc
operands_take (WithCondition parameters) (word ∷ words) e = condition_takes parameters word words (condition_keyword_of word) refl e

found_takes : (verb : List ℕ) (more : List (List ℕ)) (operands : Operands) (k : CommandKeyword) (words : List (List ℕ)) (command : CommandView)
    → option_and_then (λ left. cond (are_operands operands left) (Some (record { keyword = k; operands = left })) None) (after_texts more words) ≡ Some command
    → (command.keyword ≡ k) × (words ≡ more ++ command.operands) × AreOperands operands command.operands
found_takes verb more operands k words command e =
    let left = then_some (λ left. cond (are_operands operands left) (Some (record { keyword = k; operands = left })) None) (after_texts more words) command e in
    let made : CommandView = record { keyword = k; operands = left.0 } in
    let formed = some_if (are_operands operands left.0) made command left.2 in
    subst (λ (command : CommandView). (command.keyword ≡ k) × (words ≡ more ++ command.operands) × AreOperands operands command.operands) formed.1
    (refl, texts_taken more words left.0 left.1, operands_take operands left.0 formed.0)

pub spelling_takes : (of : Spelling) (k : CommandKeyword) (first : List ℕ) (words : List (List ℕ)) (command : CommandView) → command_spelled of k first words ≡ Some command
    → (command.keyword ≡ k) × (first ∷ words ≡ of.verb ∷ (of.more ++ command.operands)) × AreOperands of.operands command.operands
spelling_takes of k first words command e =
    let found =
    option_if (bytes_eq first of.verb)
    (option_and_then (λ left. cond (are_operands of.operands left) (Some (record { keyword = k; operands = left })) None) (after_texts of.more words)) command e in
    let taken = found_takes of.verb of.more of.operands k words command found.1 in (
      taken.0,
      ap (λ (first : List ℕ). first ∷ words) (same_bytes first of.verb found.0) ∙ ap (λ (words : List (List ℕ)). of.verb ∷ words) taken.1,
      taken.2,
    )

spelled_takes : (k : CommandKeyword) (first : List ℕ) (words : List (List ℕ)) (command : CommandView) → command_spelled (spelling_of k) k first words ≡ Some command
    → Spells (first ∷ words) command
spelled_takes k first words command e =
    let taken = spelling_takes (spelling_of k) k first words command e in
    let same : k ≡ command.keyword = sym taken.0 in
    record {
      written = subst (λ (k : CommandKeyword). first ∷ words ≡ (spelling_of k).verb ∷ ((spelling_of k).more ++ command.operands)) same taken.1;
      formed = subst (λ (k : CommandKeyword). AreOperands (spelling_of k).operands command.operands) same taken.2;
    }

pub either_takes : (spelled others : Option CommandView) (command : CommandView) (Good : CommandView → Type 0)
    → ((found : CommandView) → spelled ≡ Some found → Good found) → (others ≡ Some command → Good command)
    → option_or spelled others ≡ Some command → Good command
either_takes (Some found) others command Good now later e = let is : found ≡ command = cc in subst Good is (now found refl)
either_takes None others command Good now later e = later e

among_takes : (others : List CommandKeyword) (first : List ℕ) (words : List (List ℕ)) (command : CommandView) → command_among others first words ≡ Some command
    → Spells (first ∷ words) command
among_takes [] first words command e = absurd cc
among_takes (k ∷ others) first words command e =
    either_takes (command_spelled (spelling_of k) k first words) (command_among others first words) command (Spells (first ∷ words))
    (λ found is. spelled_takes k first words found is) (among_takes others first words command) e

pub command_takes : (words : List (List ℕ)) (command : CommandView) → command_of words ≡ Some command → Spells words command
unfolding command_from
command_takes [] command e = absurd cc
command_takes (first ∷ words) command e = among_takes keywords first words command e

-- ---- what spells a command is read

formed_again : (parameters : List CommandParameter) (words : List (List ℕ)) → AreFormed parameters words → after_words parameters words ≡ Some []
formed_again [] words h = ap Some h
formed_again (parameter ∷ others) words h =
    ap (after_words (parameter ∷ others)) h.2 ∙ ap (λ b. cond b (after_words others h.1) None) h.3 ∙ formed_again others h.1 h.4

-- no keyword of a condition is written as another
amount_again : (k : AmountKeyword) → condition_keyword_of (text_of (condition_row (Compares k))) ≡ Some (Compares k)
amount_again compared.Items = refl
amount_again compared.Bytes = refl
amount_again compared.Messages = refl
amount_again compared.Bits = refl
amount_again compared.Register = refl
amount_again compared.Pc = refl
amount_again compared.Value = refl
amount_again compared.Tick = refl

pub condition_again : (k : ConditionKeyword) → condition_keyword_of (text_of (condition_row k)) ≡ Some k
condition_again (Compares k) = amount_again k
condition_again InPhase = refl

operands_again : (operands : Operands) (words : List (List ℕ)) → AreOperands operands words → are_operands operands words ≡ true
operands_again (Plain parameters) words h = ap is_all (formed_again parameters words h)
operands_again (WithCondition parameters) words h =
    let own = parameters_of (condition_row h.0) in
    let found : after_condition (text_of (condition_row h.0) ∷ h.1) ≡ after_words own h.1 =
    then_some_is (λ keyword. after_words (parameters_of (condition_row keyword)) h.1) (condition_keyword_of (text_of (condition_row h.0))) h.0 (after_words own h.1)
    (condition_again h.0) refl in
    ap (λ words. is_all (option_and_then (after_words parameters) (after_condition words))) h.2
    ∙ ap (λ after. is_all (option_and_then (after_words parameters) after)) found
    ∙ ap is_all (sym (words_then own parameters h.1) ∙ formed_again (own ++ parameters) h.1 h.3)

-- the command of a keyword with these operands
abbrev spoken : CommandKeyword → List (List ℕ) → CommandView
spoken k left = record { keyword = k; operands = left }

-- no keyword of a command is written as another
abbrev IsFound : CommandKeyword → Type 0
IsFound k =
    (left : List (List ℕ)) → are_operands (spelling_of k).operands left ≡ true
    → command_among keywords (spelling_of k).verb ((spelling_of k).more ++ left) ≡ Some (spoken k left)

-- its keyword is the first with these words
found_first : (k : CommandKeyword) (left : List (List ℕ)) (other : Option CommandView) → are_operands (spelling_of k).operands left ≡ true
    → option_or (cond (are_operands (spelling_of k).operands left) (Some (spoken k left)) None) other ≡ Some (spoken k left)
found_first k left other formed = first_is (are_operands (spelling_of k).operands left) (spoken k left) other formed

poke_again : (k : EditKeyword) → IsFound (Ask (asked.Poke k))
poke_again poked.Register = λ left formed. found_first (Ask (asked.Poke poked.Register)) left _ formed
poke_again poked.Data = λ left formed. found_first (Ask (asked.Poke poked.Data)) left _ formed
poke_again poked.Pc = λ left formed. found_first (Ask (asked.Poke poked.Pc)) left _ formed
poke_again poked.Value = λ left formed. found_first (Ask (asked.Poke poked.Value)) left _ formed
poke_again poked.Bits = λ left formed. found_first (Ask (asked.Poke poked.Bits)) left _ formed
poke_again poked.Item = λ left formed. found_first (Ask (asked.Poke poked.Item)) left _ formed
poke_again poked.Byte = λ left formed. found_first (Ask (asked.Poke poked.Byte)) left _ formed

raise_again : (k : InterruptKeyword) → IsFound (Ask (asked.Interrupt k))
raise_again raised.Send = λ left formed. found_first (Ask (asked.Interrupt raised.Send)) left _ formed
raise_again raised.Notify = λ left formed. found_first (Ask (asked.Interrupt raised.Notify)) left _ formed

show_again : (k : Kind) → IsFound (Show k)
show_again kind.Queue = λ left formed. found_first (Show kind.Queue) left _ formed
show_again kind.QueueSet = λ left formed. found_first (Show kind.QueueSet) left _ formed
show_again kind.Stream = λ left formed. found_first (Show kind.Stream) left _ formed
show_again kind.Message = λ left formed. found_first (Show kind.Message) left _ formed
show_again kind.Group = λ left formed. found_first (Show kind.Group) left _ formed
show_again kind.Task = λ left formed. found_first (Show kind.Task) left _ formed

look_again : (k : Overview) → IsFound (Look k)
look_again overview.Moves = λ left formed. found_first (Look overview.Moves) left _ formed
look_again overview.Wheel = λ left formed. found_first (Look overview.Wheel) left _ formed
look_again overview.Watches = λ left formed. found_first (Look overview.Watches) left _ formed

-- a watch is no condition, since no keyword of a condition begins with w
watch_is_no_condition : (word : List ℕ) → is_some (watch_of word) ≡ true → condition_keyword_of word ≡ None
watch_is_no_condition [] e = absurd cc
watch_is_no_condition (first ∷ digits) e =
    elim (nat_eq first 119) as
    (λ b. (nat_eq first 119 ≡ b) → is_some (cond b (watch_number digits) None) ≡ true → condition_keyword_of (first ∷ digits) ≡ None) [
      | true ↦ λ is. λ e. ap (λ n. condition_keyword_of (n ∷ digits)) (eqb-true first 119 is)
      | false ↦ λ is. λ e. absurd cc
    ] refl e

no_condition_left : (parameters : List CommandParameter) (word : List ℕ) (words : List (List ℕ)) → is_some (watch_of word) ≡ true
    → are_operands (WithCondition parameters) (word ∷ words) ≡ false
no_condition_left parameters word words e =
    ap
    (λ found.
    is_all (option_and_then (after_words parameters) (option_and_then (λ keyword. after_words (parameters_of (condition_row keyword)) words) found)))
    (watch_is_no_condition word e)

-- words for a watch and others are not for a condition and others
watch_left : (parameters others : List CommandParameter) (words : List (List ℕ)) → are_operands (Plain (parameter.Watch ∷ parameters)) words ≡ true
    → are_operands (WithCondition others) words ≡ false
watch_left parameters others [] e = absurd cc
watch_left parameters others (word ∷ words) e =
    no_condition_left others word words
    (elim (is_some (watch_of word)) as
    (λ b. (is_some (watch_of word) ≡ b) → is_all (cond b (after_words parameters words) None) ≡ true → is_some (watch_of word) ≡ true) [
      | true ↦ λ is. λ e. is
      | false ↦ λ is. λ e. absurd cc
    ] refl e)

-- the second of two, where the first isn't
second_is : {X : Type 0} (a b : Bool) (x y : X) (other : Option X) → a ≡ false → b ≡ true
    → option_or (cond a (Some x) None) (option_or (cond b (Some y) None) other) ≡ Some y
second_is true b x y other e f = absurd cc
second_is false true x y other e f = refl
second_is false false x y other e f = absurd cc

-- one that is sought by a watch is the second, behind that which is sought by a condition
found_second : (k other : CommandKeyword) (left : List (List ℕ)) (others : Option CommandView) → are_operands (spelling_of other).operands left ≡ false
    → are_operands (spelling_of k).operands left ≡ true
    → option_or (cond (are_operands (spelling_of other).operands left) (Some (spoken other left)) None)
    (option_or (cond (are_operands (spelling_of k).operands left) (Some (spoken k left)) None) others)
    ≡ Some (spoken k left)
found_second k other left others not_other formed =
    second_is (are_operands (spelling_of other).operands left) (are_operands (spelling_of k).operands left) (spoken other left) (spoken k left) others not_other formed

request_again : (k : RequestKeyword) → IsFound (Ask k)
request_again asked.Step = λ left formed. found_first (Ask asked.Step) left _ formed
request_again asked.Tick = λ left formed. found_first (Ask asked.Tick) left _ formed
request_again asked.Back = λ left formed. found_first (Ask asked.Back) left _ formed
request_again asked.Forward = λ left formed. found_first (Ask asked.Forward) left _ formed
request_again asked.Redo = λ left formed. found_first (Ask asked.Redo) left _ formed
request_again asked.Until = λ left formed. found_first (Ask asked.Until) left _ formed
request_again asked.BackUntil = λ left formed. found_first (Ask asked.BackUntil) left _ formed
request_again asked.Trim = λ left formed. found_first (Ask asked.Trim) left _ formed
request_again (asked.Poke k) = poke_again k
request_again (asked.Interrupt k) = raise_again k

search_again : (k : SearchKeyword) → IsFound (AskByWatch k)
search_again sought.Until = λ left formed. found_second (AskByWatch sought.Until) (Ask asked.Until) left _ (watch_left (Count ∷ []) (Count ∷ []) left formed) formed
search_again sought.BackUntil = λ left formed. found_second (AskByWatch sought.BackUntil) (Ask asked.BackUntil) left _ (watch_left [] [] left formed) formed

keyword_again : (k : CommandKeyword) → IsFound k
keyword_again (Ask k) = request_again k
keyword_again (AskByWatch k) = search_again k
keyword_again TakeWheel = λ left formed. found_first TakeWheel left _ formed
keyword_again GiveWheel = λ left formed. found_first GiveWheel left _ formed
keyword_again Watch = λ left formed. found_first Watch left _ formed
keyword_again Unwatch = λ left formed. found_first Unwatch left _ formed
keyword_again (Show k) = show_again k
keyword_again keyword.Cores = λ left formed. found_first keyword.Cores left _ formed
keyword_again (Look k) = look_again k

pub command_again : (words : List (List ℕ)) (command : CommandView) → Spells words command → command_of words ≡ Some command
unfolding command_from
command_again words command h =
    ap command_of h.written ∙ keyword_again command.keyword command.operands (operands_again (spelling_of command.keyword).operands command.operands h.formed)

pub what_is_spelled_is_found : FindsWhatIsSpelled
what_is_spelled_is_found words command = (command_takes words command, command_again words command)

pub no_line_is_two_commands : NoLineIsTwoCommands
no_line_is_two_commands words command other h i =
    let same : Some command ≡ Some other = sym (command_again words command h) ∙ command_again words other i in
    cc

-- ---- of a line

pub read_spelled : {Fault : Type 0} (result : Result CommandView Fault) (words : List (List ℕ))
    → result_ok result ≡ command_of words → IfOk result (Spells words)
read_spelled (Ok command) words e = command_takes words command (sym e)
read_spelled (Err fault) words e = tt

pub spelled_read : {Fault : Type 0} (result : Result CommandView Fault) (words : List (List ℕ))
    → result_ok result ≡ command_of words → (command : CommandView) → Spells words command → result_ok result ≡ Some command
spelled_read result words e command h = e ∙ command_again words command h
