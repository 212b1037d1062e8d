-- What the words of the command line give.
use Rattle.std.proofs.Common.{◌≡◌, ◌⊎◌, ◌∙◌, ℕ, true, List, [], ◌∷◌, map, length, Option, Some, None, option_map, Result, Ok, Err}
use Rattle.std.proofs.Common.{IfOk, IfErr, IfSome, is_some, codes, inl, inr, ap, arith, refl, subst, sym, true≢false}
use Rattle.std.specs.Option.{ok_or}
use Rattle.std.specs.Prelude.{Box}
use Rattle.std.specs.Box.{box_value}
use Rattle.clap.specs.Simple.{subcommand_rows}
use Rattle.clap.specs.Words.{App as CommandLine, FailsBy, HasMatchesOf, IsAmong, IsUnsignedIn, Row, Text, fault_of}
use Rattle.clap.specs.Words.{is_simple, is_simple_and_free, one_text, rows_of, subcommand_name_of, subcommand_of, subcommand_rows_of}
use Rattle.clap.specs.declared.error.Error.{Error}
use Rattle.clap.specs.declared.error.kind.ErrorKind.{ErrorKind as Refusal}
use Rattle.clap.specs.declared.error.kind.ErrorKind.TheVariants as kind
use Rattle.clap.specs.declared.parser.matches.ArgMatches.{ArgMatches}
use Rattle.clap.specs.declared.parser.matches.ArgMatches.TheViews.{out-ArgMatches, out-SubCommand}
use Rattle.clap.specs.declared.parser.matches.SubCommand.{SubCommand}
use Rattle.clap.specs.declared.parser.matches.Found.{Found}
use Rattle.clap.proofs.OnLiterals.{clap_on_literals}
use Rattle.clap.proofs.WalkLemmas.{one_text-rows}
use Rattle.rd_start.specs.Requests.{AreSettingsIn, AskFor, HasNumber, HasSettingsIn, HasSettingsOf, IsAskedBy, IsFaultOfError, IsFaultOfWords}
use Rattle.rd_start.specs.Requests.{IsHelp, IsNamed, IsNamedBy, IsNumberOf, command_line, faults_of, number_asked, options_of}
use Rattle.rd_start.specs.Requests.{subcommand_in, words_read}
use Rattle.rd_start.specs.declared.fault.Fault.{Fault}
use Rattle.rd_start.specs.declared.fault.Fault.TheVariants.{BadCommandLine, CannotRead, App, NoMemory}
use Rattle.rd_start.specs.declared.options.StartRequest.{StartRequest}
use Rattle.rd_start.specs.declared.options.StartRequest.TheVariants.{Run, Serve, Help}

-- ---- no words

nothing_wrong : faults_of (codes "run" ∷ []) ≡ []
unfolding clap_on_literals faults_of
nothing_wrong = refl

named_run : IsNamed (codes "run") (subcommand_in (codes "run" ∷ []))
unfolding clap_on_literals subcommand_in
named_run = refl

defaults : AreSettingsIn (options_of (subcommand_in (codes "run" ∷ []))) (record { app = None; moves = 100000; history = 100000 })
unfolding clap_on_literals subcommand_in
defaults = record { app = refl; moves = refl; history = refl }

no_words : {X : Type 0} (f : X → Text) (words : List X) → length words ≡ 0 → words_read (map f words) ≡ codes "run" ∷ []
no_words f [] e = refl
no_words f (word ∷ words) e = absurd (omega arith)

abbrev pub default_request : StartRequest
default_request = Run (record { app = None; moves = 100000; history = 100000 })

pub no_words_settings : {X : Type 0} (f : X → Text) (words : List X) → length words ≡ 0
    → HasSettingsOf (words_read (map f words)) default_request
no_words_settings f words e = subst (λ (ws : List Text). HasSettingsOf ws default_request) (sym (no_words f words e)) defaults

pub no_words_asked : {X : Type 0} (f : X → Text) (words : List X) → length words ≡ 0
    → IsAskedBy (words_read (map f words)) default_request
no_words_asked f words e =
    let run : AskFor (codes "run") (codes "run" ∷ []) = record { faults = nothing_wrong; subcommand = named_run } in
    subst (λ (ws : List Text). AskFor (codes "run") ws) (sym (no_words f words e)) run

pub some_words : {X : Type 0} (f : X → Text) (words : List X) → (length words ≡ 0 → ⊥) → words_read (map f words) ≡ map f words
some_words f [] h = absurd (h refl)
some_words f (word ∷ words) h = refl

-- ---- a parse of the command line

is_exact : is_simple_and_free command_line ≡ true
is_exact = refl

is_plain : is_simple command_line ≡ true
is_plain = refl

pub fails_by : (line : CommandLine) (words read : List Text) (r : Result ArgMatches Error) → line ≡ command_line → read ≡ words
    → (is_simple_and_free line ≡ true → FailsBy (fault_of line words) r) → FailsBy (faults_of read) r
unfolding faults_of
fails_by line words read r is same h =
    let here : FailsBy (faults_of words) r = subst (λ (l : CommandLine). FailsBy (fault_of l words) r) is (h (ap is_simple_and_free is ∙ is_exact)) in
    subst (λ (ws : List Text). FailsBy (faults_of ws) r) (sym same) here

pub subcommand_found : (line : CommandLine) (words : List Text) (m : ArgMatches) → line ≡ command_line → HasMatchesOf line words m
    → subcommand_rows_of m ≡ subcommand_in words
unfolding subcommand_in
subcommand_found line words m is h = (h (ap is_simple is ∙ is_plain)).1 ∙ ap (λ (l : CommandLine). subcommand_of l words) is

-- ---- the settings

pub number_in : (name : Text) (least most : ℕ) (f : Found) → HasNumber name least most (rows_of f)
    → (text : Text) × (one_text f name ≡ Some text) × IsUnsignedIn least most text
number_in name least most f has = (has.0, one_text-rows f name ∙ has.1, has.2)

number_read : (one : Option Text) (n : ℕ) → (one ≡ None → Some n ≡ None) → ((text : Text) → one ≡ Some text → n ≡ number_asked text)
    → Some n ≡ option_map number_asked one
number_read None n none value = absurd (let bad = none refl in cc)
number_read (Some text) n none value = ap Some (value text refl)

pub number_found : (name : Text) (f : Found) (n : ℕ) → (one_text f name ≡ None → Some n ≡ None)
    → ((text : Text) → one_text f name ≡ Some text → n ≡ number_asked text) → IsNumberOf name (rows_of f) n
number_found name f n none value = number_read (one_text f name) n none value ∙ ap (option_map number_asked) (one_text-rows f name)

-- ---- what was found of a subcommand

pub options_are : (rows : List Row) (sub : Option (Text × List Row)) → Some rows ≡ option_map (λ p. p.1) sub → options_of sub ≡ rows
options_are rows None e = cc
options_are rows (Some found) e = cc

pub same_name : (name other : Text) → Some name ≡ Some other → name ≡ other
same_name name other e = cc

pub name_is : (m : ArgMatches) → option_map (λ p. p.0) (subcommand_rows_of m) ≡ subcommand_name_of m
name_is m = go (out-ArgMatches m).subcommand
  where
    go : {Z : Type 0} (found : Option (Box SubCommand Z))
        → option_map (λ p. p.0) (subcommand_rows found) ≡ option_map (λ b. (out-SubCommand (box_value b)).name.now) found
    go None = refl
    go (Some b) = refl

-- ---- words that pass

pub request_of_words : (words read : List Text) (sub : Option (Text × List Row)) (request : StartRequest) → read ≡ words → sub ≡ subcommand_in words
    → HasSettingsIn (options_of sub) request → HasSettingsOf read request
request_of_words words read sub request same found h =
    subst (λ (s : Option (Text × List Row)). HasSettingsIn (options_of s) request) (found ∙ ap subcommand_in (sym same)) h

pub asked_by_words : (words read : List Text) (sub : Option (Text × List Row)) (request : StartRequest) → read ≡ words → sub ≡ subcommand_in words
    → faults_of read ≡ [] → IsNamedBy sub request → IsAskedBy read request
asked_by_words words read sub (Run settings) same found none h =
    record { faults = none; subcommand = subst (IsNamed (codes "run")) (found ∙ ap subcommand_in (sym same)) h }
asked_by_words words read sub (Serve settings port sessions) same found none h =
    record { faults = none; subcommand = subst (IsNamed (codes "serve")) (found ∙ ap subcommand_in (sym same)) h }
asked_by_words words read sub (Help text) same found none h = absurd h

-- what is told of a request, and that one is told where there is one
pub told : (asked : Option StartRequest) (result : Result StartRequest Fault) (Holds : StartRequest → Type 0) → result ≡ ok_or asked BadCommandLine
    → IfSome asked Holds → IfOk result Holds
told None result Holds is h = rw is tt
told (Some request) result Holds is h = rw is h

pub none_untold : (asked : Option StartRequest) (result : Result StartRequest Fault) (Why : Fault → Type 0) → result ≡ ok_or asked BadCommandLine
    → is_some asked ≡ true → IfErr result Why
none_untold None result Why is some = absurd (true≢false (sym some))
none_untold (Some request) result Why is some = rw is tt

-- ---- words that give no settings

pub asked_for_help : (words : List Text) (error : Refusal) (result : Result StartRequest Fault)
    → (error ≡ kind.OutOfMemory) ⊎ IsAmong error (faults_of words)
    → IfOk result (λ _. error ≡ kind.DisplayHelp) → (error ≡ kind.DisplayHelp → IfOk result IsHelp) → IfOk result (IsAskedBy words)
asked_for_help words error (Err fault) h asked help = tt
asked_for_help words error (Ok (Run settings)) h asked help = absurd (help asked)
asked_for_help words error (Ok (Serve settings port sessions)) h asked help = absurd (help asked)
asked_for_help words error (Ok (Help text)) (inl memory) asked help = let bad : kind.OutOfMemory ≡ kind.DisplayHelp = cc in absurd cc
asked_for_help words error (Ok (Help text)) (inr among) asked help =
    subst (λ (k : Refusal). IsAmong k (faults_of words)) asked among

pub fault_of_words : (words : List Text) (error : Refusal) (result : Result StartRequest Fault)
    → (error ≡ kind.OutOfMemory) ⊎ IsAmong error (faults_of words) → IfErr result (IsFaultOfError error) → IfErr result (IsFaultOfWords words)
fault_of_words words error (Ok request) h fault = tt
fault_of_words words error (Err BadCommandLine) (inl memory) fault = absurd (fault.0 memory)
fault_of_words words error (Err BadCommandLine) (inr among) fault = (error, among, fault.1)
fault_of_words words error (Err CannotRead) h fault = fault
fault_of_words words error (Err (App of_file)) h fault = fault
fault_of_words words error (Err NoMemory) h fault = tt
