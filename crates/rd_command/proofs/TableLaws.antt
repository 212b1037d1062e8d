-- What is found in the code's tables is what the definitions have.
use denote.Ref.{Bor}
use Rattle.std.proofs.Common.{◌≡◌, ◌∙◌, ◌++◌, ◌&&◌, ℕ, Bool, true, false, cond, if◌then◌else◌, List, [], ◌∷◌, map, Option, Some, None, option_map, option_and_then, refl, sym, ap, subst}
use Rattle.std.specs.Prelude.{IfSome}
use Rattle.std.specs.List.{find}
use Rattle.std.specs.Option.{option_or}
use Rattle.std.specs.Str.{bytes_eq}
use Rattle.std.proofs.lemmas.Slice.Eq.{bytes_eq-Decides}
use Rattle.rd_command.specs.declared.keyword.ConditionKeyword.{ConditionKeyword}
use Rattle.rd_command.specs.declared.keyword.CommandKeyword.{CommandKeyword}
use Rattle.rd_command.specs.declared.keyword.CommandParameter.{CommandParameter}
use Rattle.rd_command.specs.Commands.{CommandView, command_among, command_spelled}
use Rattle.rd_command.specs.Forms.{are_operands}
use Rattle.rd_command.specs.Keywords.{Operands, Spelling, condition_row, keywords, parameters_of, spelling_of, text_of}
use Rattle.rd_command.specs.Tables.{Alone, Longer, Verb, command_alone, command_behind, command_by_verb, command_longer, command_with_second, conditions_of, first_condition}

-- what the table of conditions has at a word
pub condition_found : (word : List ℕ) (others : List ConditionKeyword)
    → option_map (λ found. found.1) (first_condition word (conditions_of others)) ≡ find (λ k. bytes_eq word (text_of (condition_row k))) others
condition_found word [] = refl
condition_found word (first ∷ others) =
    elim (bytes_eq word (text_of (condition_row first))) as
    (λ b. option_map (λ found. found.1) (cond b (Some (parameters_of (condition_row first), first)) (first_condition word (conditions_of others)))
    ≡ cond b (Some first) (find (λ k. bytes_eq word (text_of (condition_row k))) others)) [
      | true ↦ refl
      | false ↦ condition_found word others
    ]

pub parameters_found : (word : List ℕ) (others : List ConditionKeyword)
    → IfSome (first_condition word (conditions_of others)) (λ found. found.0 ≡ parameters_of (condition_row found.1))
parameters_found word [] = tt
parameters_found word (first ∷ others) =
    elim (bytes_eq word (text_of (condition_row first))) as
    (λ b. IfSome (cond b (Some (parameters_of (condition_row first), first)) (first_condition word (conditions_of others))) (λ found. found.0 ≡ parameters_of (condition_row found.1))) [
      | true ↦ refl
      | false ↦ parameters_found word others
    ]

-- the same of a row as a contract sees it
pub condition_shown : (row : Option (Bor (List CommandParameter) × ConditionKeyword))
    → option_map (λ found. found.1) row ≡ option_map (λ found. found.1) (option_map {U = List CommandParameter × ConditionKeyword} (λ found. (found.0.now, found.1)) row)
condition_shown (Some found) = refl
condition_shown None = refl

pub parameters_shown : (row : Option (Bor (List CommandParameter) × ConditionKeyword)) (found : Option (List CommandParameter × ConditionKeyword))
    → option_map (λ found. (found.0.now, found.1)) row ≡ found → IfSome found (λ found. found.0 ≡ parameters_of (condition_row found.1))
    → IfSome row (λ found. found.0.now ≡ parameters_of (condition_row found.1))
parameters_shown (Some row) found e h = subst (λ found. IfSome found (λ found. found.0 ≡ parameters_of (condition_row found.1))) (sym e) h
parameters_shown None found e h = tt

-- ---- the table of commands, as one row for each keyword

abbrev Flat : Type 0
Flat = List ℕ × List (List ℕ) × Operands × CommandKeyword

abbrev command_in : Flat → List ℕ → List (List ℕ) → Option CommandView
command_in row first words = command_spelled (record { verb = row.0; more = row.1; operands = row.2 }) row.3 first words

abbrev first_command : List Flat → List ℕ → List (List ℕ) → Option CommandView
first_command [] first words = None
first_command (row ∷ others) first words = option_or (command_in row first words) (first_command others first words)

abbrev flat_alone : List ℕ → List Alone → List Flat
flat_alone verb rows = map (λ row. (verb, [], row.0, row.1)) rows

abbrev flat_longer : List ℕ → List Longer → List Flat
flat_longer verb rows = map (λ row. (verb, row.0 ∷ [], row.1, row.2)) rows

abbrev flat : List Verb → List Flat
flat [] = []
flat (verb ∷ others) = flat_alone verb.0 verb.1 ++ (flat_longer verb.0 verb.2 ++ flat others)

abbrev rows_of : List CommandKeyword → List Flat
rows_of keywords = map (λ k. ((spelling_of k).verb, (spelling_of k).more, (spelling_of k).operands, k)) keywords

-- ---- and with those of one first word together

abbrev with_words : List (List ℕ) → Operands → CommandKeyword → Verb → Verb
with_words [] operands k verb = (verb.0, (operands, k) ∷ verb.1, verb.2)
with_words (second ∷ more) operands k verb = (verb.0, verb.1, (second, operands, k) ∷ verb.2)

-- the keyword before those that have its first word, if these come next
abbrev joined : Spelling → CommandKeyword → List Verb → List Verb
joined of k [] = with_words of.more of.operands k (of.verb, [], []) ∷ []
joined of k (verb ∷ others) =
    if bytes_eq of.verb verb.0 then with_words of.more of.operands k verb ∷ others
    else with_words of.more of.operands k (of.verb, [], []) ∷ verb ∷ others

abbrev pub verbs_of : List CommandKeyword → List Verb
verbs_of [] = []
verbs_of (k ∷ others) = joined (spelling_of k) k (verbs_of others)

-- does none of these begin with the word?
abbrev is_new : List ℕ → List Verb → Bool
is_new word [] = true
is_new word (verb ∷ others) = if bytes_eq word verb.0 then false else is_new word others

abbrev are_distinct : List Verb → Bool
are_distinct [] = true
are_distinct (verb ∷ others) = if is_new verb.0 others then are_distinct others else false

-- a row for each keyword is found as its definition has it
keyword_found : (first : List ℕ) (words : List (List ℕ)) (others : List CommandKeyword)
    → first_command (rows_of others) first words ≡ command_among others first words
keyword_found first words [] = refl
keyword_found first words (k ∷ others) =
    ap (option_or (command_spelled (spelling_of k) k first words)) (keyword_found first words others)

-- rows, and then others
or_or : {X : Type 0} (a b c : Option X) → option_or (option_or a b) c ≡ option_or a (option_or b c)
or_or (Some x) b c = refl
or_or None b c = refl

rows_then : (rows others : List Flat) (first : List ℕ) (words : List (List ℕ))
    → first_command (rows ++ others) first words ≡ option_or (first_command rows first words) (first_command others first words)
rows_then [] others first words = refl
rows_then (row ∷ rows) others first words =
    ap (option_or (command_in row first words)) (rows_then rows others first words)
    ∙ sym (or_or (command_in row first words) (first_command rows first words) (first_command others first words))

-- behind another first word there is none
no_alone : (verb : List ℕ) (rows : List Alone) (first : List ℕ) (words : List (List ℕ)) → bytes_eq first verb ≡ false
    → first_command (flat_alone verb rows) first words ≡ None
no_alone verb [] first words e = refl
no_alone verb (row ∷ rows) first words e = rw e (no_alone verb rows first words e)

no_longer : (verb : List ℕ) (rows : List Longer) (first : List ℕ) (words : List (List ℕ)) → bytes_eq first verb ≡ false
    → first_command (flat_longer verb rows) first words ≡ None
no_longer verb [] first words e = refl
no_longer verb (row ∷ rows) first words e = rw e (no_longer verb rows first words e)

others_found : (verb : Verb) (others : List Verb) (first : List ℕ) (words : List (List ℕ)) → bytes_eq first verb.0 ≡ false
    → first_command (flat (verb ∷ others)) first words ≡ first_command (flat others) first words
others_found verb others first words e =
    rows_then (flat_alone verb.0 verb.1) (flat_longer verb.0 verb.2 ++ flat others) first words
    ∙ rw (no_alone verb.0 verb.1 first words e)
    (rows_then (flat_longer verb.0 verb.2) (flat others) first words
    ∙ rw (no_longer verb.0 verb.2 first words e) refl)

none_of : (verbs : List Verb) (first : List ℕ) (words : List (List ℕ)) → is_new first verbs ≡ true → first_command (flat verbs) first words ≡ None
none_of [] first words e = refl
none_of (verb ∷ others) first words e =
    elim (bytes_eq first verb.0) as
    (λ b. (bytes_eq first verb.0 ≡ b) → cond b false (is_new first others) ≡ true → first_command (flat (verb ∷ others)) first words ≡ None) [
      | true ↦ λ same. λ e. absurd cc
      | false ↦ λ other. λ e. others_found verb others first words other ∙ none_of others first words e
    ] refl e

-- behind the first word itself are its own
own_alone : (verb : List ℕ) (rows : List Alone) (first : List ℕ) (words : List (List ℕ)) → bytes_eq first verb ≡ true
    → first_command (flat_alone verb rows) first words ≡ command_alone rows words
own_alone verb [] first words e = refl
own_alone verb (row ∷ rows) first words e =
    rw e
    (elim (are_operands row.0 words) as
    (λ b. option_or (cond b (Some (record { keyword = row.1; operands = words })) None) (first_command (flat_alone verb rows) first words)
    ≡ cond b (Some (record { keyword = row.1; operands = words })) (command_alone rows words)) [
      | true ↦ refl
      | false ↦ own_alone verb rows first words e
    ])

own_longer : (verb : List ℕ) (rows : List Longer) (first : List ℕ) (words : List (List ℕ)) → bytes_eq first verb ≡ true
    → first_command (flat_longer verb rows) first words ≡ command_longer rows words
own_longer verb [] first [] e = refl
own_longer verb [] first (second ∷ words) e = refl
own_longer verb (row ∷ rows) first [] e = rw e (own_longer verb rows first [] e)
own_longer verb (row ∷ rows) first (second ∷ words) e =
    rw e
    (elim (bytes_eq second row.0) as
    (λ b. option_or (option_and_then (λ left. cond (are_operands row.1 left) (Some (record { keyword = row.2; operands = left })) None) (cond b (Some words) None))
    (first_command (flat_longer verb rows) first (second ∷ words))
    ≡ cond (b && are_operands row.1 words) (Some (record { keyword = row.2; operands = words })) (command_with_second rows second words)) [
      | true ↦
          elim (are_operands row.1 words) as
          (λ b. option_or (cond b (Some (record { keyword = row.2; operands = words })) None) (first_command (flat_longer verb rows) first (second ∷ words))
          ≡ cond b (Some (record { keyword = row.2; operands = words })) (command_with_second rows second words)) [
            | true ↦ refl
            | false ↦ own_longer verb rows first (second ∷ words) e
          ]
      | false ↦ own_longer verb rows first (second ∷ words) e
    ])

-- the first words decide, where none stands twice
or_none : {X : Type 0} (a : Option X) → option_or a None ≡ a
or_none (Some x) = refl
or_none None = refl

own_found : (verb : Verb) (others : List Verb) (first : List ℕ) (words : List (List ℕ)) → bytes_eq first verb.0 ≡ true → is_new verb.0 others ≡ true
    → first_command (flat (verb ∷ others)) first words ≡ command_behind verb words
own_found verb others first words same fresh =
    let own : is_new first others ≡ true = ap (λ (word : List ℕ). is_new word others) ((bytes_eq-Decides first verb.0).0 same) ∙ fresh in
    rows_then (flat_alone verb.0 verb.1) (flat_longer verb.0 verb.2 ++ flat others) first words
    ∙ rw (own_alone verb.0 verb.1 first words same)
    (ap (option_or (command_alone verb.1 words))
    (rows_then (flat_longer verb.0 verb.2) (flat others) first words
    ∙ rw (own_longer verb.0 verb.2 first words same, none_of others first words own) (or_none (command_longer verb.2 words))))

both_true : (a b : Bool) → cond a b false ≡ true → (a ≡ true) × (b ≡ true)
both_true true b e = (refl, e)
both_true false b e = absurd cc

verb_found : (verbs : List Verb) (first : List ℕ) (words : List (List ℕ)) → are_distinct verbs ≡ true
    → command_by_verb verbs first words ≡ first_command (flat verbs) first words
verb_found [] first words e = refl
verb_found (verb ∷ others) first words e =
    let distinct = both_true (is_new verb.0 others) (are_distinct others) e in
    elim (bytes_eq first verb.0) as
    (λ b. (bytes_eq first verb.0 ≡ b) → cond b (command_behind verb words) (command_by_verb others first words) ≡ first_command (flat (verb ∷ others)) first words) [
      | true ↦ λ same. sym (own_found verb others first words same distinct.0)
      | false ↦ λ other. verb_found others first words distinct.1 ∙ sym (others_found verb others first words other)
    ] refl

pub command_found : (first : List ℕ) (words : List (List ℕ)) → command_by_verb (verbs_of keywords) first words ≡ command_among keywords first words
command_found first words =
    let flatten : flat (verbs_of keywords) ≡ rows_of keywords = refl in
    verb_found (verbs_of keywords) first words refl
    ∙ ap (λ rows. first_command rows first words) flatten
    ∙ keyword_found first words keywords
