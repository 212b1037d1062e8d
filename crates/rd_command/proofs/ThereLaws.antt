-- A command that is spelled is bound exactly where all that it names is there.
use Rattle.std.proofs.Common.{◌≡◌, ◌∙◌, ℕ, ◌&&◌, Bool, true, cond, List, [], ◌∷◌, ◌++◌, Option, Some, None, position, option_map, option_and_then, refl, sym, ap, subst}
use Rattle.std.specs.Prelude.{is_some}
use Rattle.std.specs.Option.{option_map_or}
use Rattle.std.specs.Str.{bytes_eq}
use Rattle.rd_text.specs.declared.kind.Kind.{Kind}
use Rattle.rd_text.specs.Words.{is_name}
use Rattle.rd_names.specs.Names.{names_of}
use Rattle.rd_condition.specs.declared.condition.Condition.{Condition}
use Rattle.rd_command.specs.declared.binding.Bound.{Bound}
use Rattle.rd_command.specs.declared.binding.Bound.TheVariants as bound
use Rattle.rd_command.specs.declared.keyword.ConditionKeyword.{ConditionKeyword}
use Rattle.rd_command.specs.declared.keyword.CommandKeyword.{CommandKeyword}
use Rattle.rd_command.specs.declared.keyword.CommandKeyword.TheVariants.{Ask, AskByWatch, TakeWheel, GiveWheel, Unwatch, Show, Look}
use Rattle.rd_command.specs.declared.keyword.CommandKeyword.TheVariants as keyword
use Rattle.rd_command.specs.declared.view.View.TheVariants.{Thing}
use Rattle.rd_command.specs.declared.keyword.CommandParameter.{CommandParameter}
use Rattle.rd_command.specs.declared.keyword.CommandParameter.TheVariants.{Core, Count, Register, Index, Number, Data, Operator, Phase, Action, Watch, Name}
use Rattle.rd_command.specs.Bindings.{KnownView, Reading, are_there, are_there_with, bound_by, bound_in, by_watch, condition_made, has_all, has_operands, is_there, made_by, made_from, made_of, next_condition, next_keyword, next_value, number_named, value_of}
use Rattle.rd_command.specs.Commands.{AreFormed, AreOperands, CommandView, Spells}
use Rattle.rd_command.specs.Forms.{is_formed}
use Rattle.rd_command.specs.Keywords.{ConditionRow, Makes, MakesFrom, Operands, Plain, CommandRow, Spelled, Value, WithCondition, Written, condition_row, parameters_of, request_row, search_row, spelling_in, spelling_of, text_of, thing_row, unwatch_row, watch_row}
use Rattle.rd_command.proofs.CommandLaws.{condition_again}

reading : KnownView → List (List ℕ) → Reading
reading known words = record { known = known; words = words }

named_there : (known : KnownView) (kind : Kind) (word : List ℕ) → is_name word ≡ true
    → is_some (number_named known.names kind word) ≡ is_some (position (bytes_eq word) (names_of kind known.names))
named_there known kind word e =
    ap (λ b. is_some (option_and_then (λ name. position (bytes_eq name) (names_of kind known.names)) (cond b (Some word) None))) e

value_there : (known : KnownView) (parameter : CommandParameter) (word : List ℕ) → is_formed parameter word ≡ true
    → is_some (value_of known parameter word) ≡ is_there known parameter word
value_there known Core word e = refl
value_there known Count word e = e
value_there known Register word e = refl
value_there known Index word e = refl
value_there known Number word e = e
value_there known Data word e = e
value_there known Operator word e = e
value_there known Phase word e = e
value_there known Action word e = e
value_there known Watch word e = e
value_there known (Name kind) word e = named_there known kind word e

-- What is made, and goes on so, is something exactly where all that is named is there.
abbrev GoesOn : KnownView → (Made Last : Type 0) → (Made × Reading → Option Last) → List CommandParameter → Type 0
GoesOn known Made Last next others =
    (made : Made) (words : List (List ℕ)) → AreFormed others words → is_some (next (made, reading known words)) ≡ are_there known others words

step_there : (known : KnownView) (Made Last : Type 0) (next : Made × Reading → Option Last) (parameter : CommandParameter) (parameters others : List CommandParameter)
    (make : Value parameter → Makes Made parameters) (words : List (List ℕ)) (found : Option (Value parameter)) (there : Bool) → is_some found ≡ there
    → ((value : Value parameter) → is_some (option_and_then next (made_of Made parameters (make value) (reading known words))) ≡ are_there known (parameters ++ others) words)
    → is_some
    (option_and_then next
    (option_and_then (λ (taken : Value parameter × Reading). made_of Made parameters (make taken.0) taken.1) (option_map (λ value. (value, reading known words)) found)))
    ≡ (there && are_there known (parameters ++ others) words)
step_there known Made Last next parameter parameters others make words (Some value) there is h =
    h value ∙ ap (λ there. there && are_there known (parameters ++ others) words) is
step_there known Made Last next parameter parameters others make words None there is h = ap (λ there. there && are_there known (parameters ++ others) words) is

made_there : (known : KnownView) (Made Last : Type 0) (next : Made × Reading → Option Last) (parameters others : List CommandParameter) (make : Makes Made parameters)
    (words : List (List ℕ)) → GoesOn known Made Last next others → AreFormed (parameters ++ others) words
    → is_some (option_and_then next (made_of Made parameters make (reading known words))) ≡ are_there known (parameters ++ others) words
unfolding next_value reading
made_there known Made Last next [] others make words goes h = goes make words h
made_there known Made Last next (parameter ∷ parameters) others make words goes h =
    ap (λ words. is_some (option_and_then next (made_of Made (parameter ∷ parameters) make (reading known words)))) h.2
    ∙ step_there known Made Last next parameter parameters others make h.1 (value_of known parameter h.0) (is_there known parameter h.0)
    (value_there known parameter h.0 h.3) (λ value. made_there known Made Last next parameters others (make value) h.1 goes h.4)
    ∙ ap (are_there known (parameter ∷ (parameters ++ others))) (sym h.2)

-- ---- commands

-- the words of no more operands
nothing_more : (known : KnownView) (Made : Type 0) → GoesOn known Made Made (λ (made : Made × Reading). Some made.0) []
nothing_more known Made made words h = refl

mapped_then : {X Y : Type 0} (f : X → Y) (o : Option X) → option_map f o ≡ option_and_then (λ x. Some (f x)) o
mapped_then f (Some x) = refl
mapped_then f None = refl

no_others : (parameters : List CommandParameter) → parameters ++ [] ≡ parameters
no_others [] = refl
no_others (parameter ∷ parameters) = ap (λ (others : List CommandParameter). parameter ∷ others) (no_others parameters)

last_there : (known : KnownView) (Made : Type 0) (parameters : List CommandParameter) (make : Makes Made parameters) (words : List (List ℕ)) → AreFormed parameters words
    → is_some (option_map (λ (made : Made × Reading). made.0) (made_of Made parameters make (reading known words))) ≡ are_there known parameters words
last_there known Made parameters make words h =
    ap is_some (mapped_then (λ (made : Made × Reading). made.0) (made_of Made parameters make (reading known words)))
    ∙ made_there known Made Made (λ (made : Made × Reading). Some made.0) parameters [] make words (nothing_more known Made)
    (subst (λ (parameters : List CommandParameter). AreFormed parameters words) (sym (no_others parameters)) h)
    ∙ ap (λ (parameters : List CommandParameter). are_there known parameters words) (no_others parameters)

-- what is made behind a condition
abbrev behind : (Made : Type 0) (parameters : List CommandParameter) → (Condition → Makes Made parameters) → Condition × Reading → Option Made
behind Made parameters make found = option_map (λ (made : Made × Reading). made.0) (made_of Made parameters (make found.0) found.1)

row_there : (known : KnownView) (Made : Type 0) (parameters : List CommandParameter) (make : Condition → Makes Made parameters) (of : ConditionRow) (words : List (List ℕ))
    → AreFormed (parameters_of of ++ parameters) words
    → is_some (option_and_then (behind Made parameters make) (condition_made of (reading known words))) ≡ are_there known (parameters_of of ++ parameters) words
row_there known Made parameters make (Written text own condition) words h =
    made_there known Condition Made (behind Made parameters make) own parameters condition words
    (λ found left formed. last_there known Made parameters (make found) left formed) h

condition_there : (known : KnownView) (Made : Type 0) (parameters : List CommandParameter) (make : Condition → Makes Made parameters) (k : ConditionKeyword) (words : List (List ℕ))
    → AreFormed (parameters_of (condition_row k) ++ parameters) words
    → is_some (option_and_then (behind Made parameters make) (next_condition (reading known (text_of (condition_row k) ∷ words))))
    ≡ are_there_with known parameters (text_of (condition_row k) ∷ words)
unfolding next_keyword reading
condition_there known Made parameters make k words h =
    ap
    (λ (found : Option ConditionKeyword).
    is_some
    (option_and_then (behind Made parameters make)
    (option_and_then (λ (next : ConditionKeyword × Reading). condition_made (condition_row next.0) next.1) (option_map (λ keyword. (keyword, reading known words)) found))))
    (condition_again k)
    ∙ row_there known Made parameters make (condition_row k) words h
    ∙ sym (ap (λ (found : Option ConditionKeyword). option_map_or (λ keyword. are_there known (parameters_of (condition_row keyword) ++ parameters) words) found true) (condition_again k))

operands_there : (known : KnownView) (Made : Type 0) (operands : Operands) (make : MakesFrom Made operands) (words : List (List ℕ)) → AreOperands operands words
    → is_some (made_from Made operands make (reading known words)) ≡ has_operands known operands words
operands_there known Made (Plain parameters) make words h = last_there known Made parameters make words h
operands_there known Made (WithCondition parameters) make words h =
    ap (λ words. is_some (made_from Made (WithCondition parameters) make (reading known words))) h.2 ∙ condition_there known Made parameters make h.0 h.1 h.3
    ∙ ap (are_there_with known parameters) (sym h.2)

row_made : {Made : Type 0} (known : KnownView) (of : CommandRow Made) (words : List (List ℕ)) → AreOperands (spelling_in of).operands words
    → is_some (made_by of (reading known words)) ≡ has_operands known (spelling_in of).operands words
row_made {Made} known (Spelled spelling make) words h = operands_there known Made spelling.operands make words h

is_some_mapped : {X Y : Type 0} (f : X → Y) (o : Option X) → is_some (option_map f o) ≡ is_some o
is_some_mapped f (Some x) = refl
is_some_mapped f None = refl

effect_there : {Made : Type 0} (known : KnownView) (does : Made → Bound) (of : CommandRow Made) (words : List (List ℕ)) → AreOperands (spelling_in of).operands words
    → is_some (option_map does (made_by of (reading known words))) ≡ has_operands known (spelling_in of).operands words
effect_there known does of words h = is_some_mapped does (made_by of (reading known words)) ∙ row_made known of words h

keyword_there : (known : KnownView) (k : CommandKeyword) (words : List (List ℕ)) → AreOperands (spelling_of k).operands words
    → is_some (bound_by k (reading known words)) ≡ has_operands known (spelling_of k).operands words
keyword_there known (Ask k) words h = effect_there known (λ request. bound.Asks request) (request_row k) words h
keyword_there known (AskByWatch k) words h = effect_there known by_watch (search_row k) words h
keyword_there known TakeWheel words h = refl
keyword_there known GiveWheel words h = refl
keyword_there known keyword.Watch words h = effect_there known (λ condition. bound.Keeps condition) watch_row words h
keyword_there known Unwatch words h = effect_there known (λ number. bound.Drops number) unwatch_row words h
keyword_there known (Show kind) words h = effect_there known (λ number. bound.Looks (Thing kind number)) (thing_row kind) words h
keyword_there known keyword.Cores words h = refl
keyword_there known (Look of) words h = refl

pub bound_exactly : (known : KnownView) (command : CommandView) (bound : Option Bound) → bound ≡ bound_in known command → (words : List (List ℕ))
    → Spells words command → is_some bound ≡ has_all known command
unfolding reading
bound_exactly known command bound is words h = ap is_some is ∙ keyword_there known command.keyword command.operands h.formed
