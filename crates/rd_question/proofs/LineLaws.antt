-- What the words of the command line give.
use Rattle.std.proofs.Common.{◌≡◌, ◌≢◌, ◌⊎◌, ◌∙◌, ◌+◌, ◌<◌, ◌≤◌, ℕ, true, List, [], ◌∷◌, Option, Some, None, option_map, is_some, Result, Ok, Err, IfOk, IfErr, IfSome, IsErrAnd, inl, inr, ap, arith, get_or, length, map, refl, subst, suc, sym, unwrap_or, zero}
use Rattle.std.specs.Borrow.{Bor}
use Rattle.std.specs.List.{IsAmong as IsOneOf}
use Rattle.clap.specs.Words.{App as CommandLine, FailsBy, HasMatchesOf, IsAmong, IsUnsignedIn, Row, Text, TriesOne, all_of, fault_of, found_of, is_simple, is_simple_and_free}
use Rattle.clap.specs.Words.{matched_of, matches_of, one_text, raw_values, rows_of}
use Rattle.clap.specs.declared.error.Error.{Error}
use Rattle.clap.specs.declared.error.kind.ErrorKind.{ErrorKind as Refusal}
use Rattle.clap.specs.declared.error.kind.ErrorKind.TheVariants as kind
use Rattle.clap.specs.declared.parser.matches.ArgMatches.{ArgMatches}
use Rattle.clap.specs.declared.parser.matches.Found.{Found}
use Rattle.clap.proofs.WalkLemmas.{one_text-rows, raw_values-rows}
use Rattle.rd_text.specs.Words.{texts}
use Rattle.rd_start.specs.Requests.{HasNumber, number_asked}
use Rattle.rd_question.specs.CommandLine.{IsAskedBy, AreRefused, IsFaultIn, IsFaultOf, IsFaultOfError, IsGoalFault, IsHelp, IsRequestIn, command_line, faults_of, number_said, rows_in, texts_of}
use Rattle.rd_question.specs.declared.fault.ReachFault.{ReachFault}
use Rattle.rd_question.specs.declared.options.ReachRequest.{ReachRequest}
use Rattle.rd_question.specs.declared.options.ReachRequest.TheVariants.{Ask, Engine, Help}

-- ---- a parse of the command line

is_exact : is_simple_and_free command_line ≡ true
is_exact = refl

is_plain : is_simple command_line ≡ true
is_plain = refl

pub fails_by : (line : CommandLine) (words : List Text) (r : Result ArgMatches Error) → line ≡ command_line
    → (is_simple_and_free line ≡ true → FailsBy (fault_of line words) r) → FailsBy (faults_of words) r
unfolding faults_of
fails_by line words r is h =
    subst (λ (l : CommandLine). FailsBy (fault_of l words) r) is (h (ap is_simple_and_free is ∙ is_exact))

pub rows_found : (line : CommandLine) (words : List Text) (m : ArgMatches) → line ≡ command_line → HasMatchesOf line words m
    → rows_of (found_of m) ≡ rows_in words
unfolding rows_in
rows_found line words m is h = (h (ap is_simple is ∙ is_plain)).0 ∙ ap (λ (l : CommandLine). matches_of l words) is

-- ---- what stands in the rows

there : {X Y : Type 0} (f : X → Y) (o : Option X) → is_some o ≡ is_some (option_map f o)
there f None = refl
there f (Some x) = refl

pub is_there : (f : Found) (name : Text) → is_some (matched_of f name) ≡ is_some (all_of name (rows_of f))
is_there f name = there raw_values (matched_of f name) ∙ ap is_some (raw_values-rows f name)

said : (one : Option Text) (n : ℕ) → (one ≡ None → Some n ≡ None) → ((text : Text) → one ≡ Some text → n ≡ number_asked text)
    → Some n ≡ option_map number_asked one
said None n none value = absurd (let bad = none refl in cc)
said (Some text) n none value = ap Some (value text refl)

unsaid : (one : Option Text) → ((text : Text) → one ≡ Some text → ⊥) → None ≡ option_map number_asked one
unsaid None no_text = refl
unsaid (Some text) no_text = absurd (no_text text refl)

-- a number that was found is the one that is said, and where none was found none is said
pub number_found : (name : Text) (f : Found) (n : ℕ) → (one_text f name ≡ None → Some n ≡ None)
    → ((text : Text) → one_text f name ≡ Some text → n ≡ number_asked text) → Some n ≡ number_said name (rows_of f)
number_found name f n none value = said (one_text f name) n none value ∙ ap (option_map number_asked) (one_text-rows f name)

pub none_found : (name : Text) (f : Found) → ((text : Text) → one_text f name ≡ Some text → ⊥) → None ≡ number_said name (rows_of f)
none_found name f no_text = unsaid (one_text f name) no_text ∙ ap (option_map number_asked) (one_text-rows f name)

-- a number that is there, as it was found
pub number_in : (name : Text) (least most : ℕ) (f : Found) → HasNumber name least most (rows_of f)
    → (text : Text) × (one_text f name ≡ Some text) × IsUnsignedIn least most text
number_in name least most f has = (has.0, one_text-rows f name ∙ has.1, has.2)

-- what a try gives that found none, and that found a number
pub none_tried : {E : Type 0} (gives : Text → Result ℕ E → Type 0) (text : Text) (tried : Option ℕ) → tried ≡ None
    → TriesOne gives text (Ok tried) → ⊥
none_tried gives text None is h = h
none_tried gives text (Some n) is h = absurd cc

pub number_tried : {R E : Type 0} (gives : Text → Result ℕ E → Type 0) (text : Text) (tried : Option ℕ) (n : ℕ) → tried ≡ Some n
    → TriesOne gives text (Ok tried) → (gives text (Ok n) → R) → R
number_tried gives text None n is h then_so = absurd h
number_tried gives text (Some m) n is h then_so =
    then_so (subst (λ (o : ℕ). gives text (Ok o)) (let same : m ≡ n = cc in same) h)

-- ---- words that pass

pub asked_by_words : (words : List Text) (rows : List Row) (request : ReachRequest) → rows ≡ rows_in words → faults_of words ≡ []
    → IsRequestIn rows request → IsAskedBy words request
asked_by_words words rows (Ask question) same none h =
    record { faults = none; said = subst (λ (r : List Row). IsRequestIn r (Ask question)) same h }
asked_by_words words rows (Engine question) same none h =
    record { faults = none; said = subst (λ (r : List Row). IsRequestIn r (Engine question)) same h }
asked_by_words words rows (Help text) same none h = absurd h

pub asked_if_request : (words : List Text) (rows : List Row) (result : Result ReachRequest ReachFault) → rows ≡ rows_in words → faults_of words ≡ []
    → IfOk result (IsRequestIn rows) → IfOk result (IsAskedBy words)
asked_if_request words rows (Ok request) same none h = asked_by_words words rows request same none h
asked_if_request words rows (Err fault) same none h = tt

-- ---- words that give no question

pub asked_for_help : (words : List Text) (error : Refusal) (result : Result ReachRequest ReachFault)
    → (error ≡ kind.OutOfMemory) ⊎ IsAmong error (faults_of words)
    → IfOk result (λ request. IsHelp request × (error ≡ kind.DisplayHelp)) → IfOk result (IsAskedBy words)
asked_for_help words error (Err fault) h help = tt
asked_for_help words error (Ok (Ask question)) h help = absurd help.0
asked_for_help words error (Ok (Engine question)) h help = absurd help.0
asked_for_help words error (Ok (Help text)) (inl memory) help =
    let bad : kind.OutOfMemory ≡ kind.DisplayHelp = sym memory ∙ help.1 in
    absurd cc
asked_for_help words error (Ok (Help text)) (inr among) help =
    (subst (λ (k : Refusal). IsAmong k (faults_of words)) help.1 among, help.0)

-- ---- what an option says

same_there : {X Y Z : Type 0} (f : X → Z) (g : Y → Z) (x : X) (o : Option Y) → option_map f (Some x) ≡ option_map g o → is_some o ≡ true
same_there f g x None e = absurd cc
same_there f g x (Some y) e = refl

-- an argument that was found with something is there
pub is_given : {X Z : Type 0} (f : Found) (name : Text) (of : X → Z) (x : X) (o : Option X) (g : _ → Z) → o ≡ Some x
    → option_map of o ≡ option_map g (matched_of f name) → is_some (all_of name (rows_of f)) ≡ true
is_given f name of x o g is e = sym (is_there f name) ∙ same_there of g x (matched_of f name) (ap (option_map of) (sym is) ∙ e)

or_none : (o : Option (Bor (List (Bor Text)))) (none : Bor (List (Bor Text))) (all : Option (List Text)) → none.now ≡ []
    → option_map (λ s. texts s.now) o ≡ all → texts (unwrap_or o none).now ≡ unwrap_or all []
or_none None none None is e = ap texts is
or_none None none (Some t) is e = absurd cc
or_none (Some s) none None is e = absurd cc
or_none (Some s) none (Some t) is e = cc

-- what an option says is what was found for it
pub texts_found : (f : Found) (name : Text) (o : Option (Bor (List (Bor Text)))) (none r : Bor (List (Bor Text))) → none.now ≡ []
    → option_map (λ s. map (λ v. v.now) s.now) o ≡ option_map raw_values (matched_of f name) → r ≡ unwrap_or o none
    → texts r.now ≡ texts_of name (rows_of f)
texts_found f name o none r is e same =
    ap (λ (s : Bor (List (Bor Text))). texts s.now) same ∙ or_none o none (all_of name (rows_of f)) is (e ∙ raw_values-rows f name)

-- ---- one of an option's texts

at_image : (said : List (Bor Text)) (i : ℕ) (d : Bor Text) (e : Text) → i < length said → get_or (texts said) i e ≡ (get_or said i d).now
at_image [] i d e lt = absurd (omega arith)
at_image (t ∷ said) zero d e lt = refl
at_image (t ∷ said) (suc i) d e lt = at_image said i d e (omega arith)

length_images : (said : List (Bor Text)) → length (texts said) ≡ length said
length_images [] = refl
length_images (t ∷ said) = ap suc (length_images said)

-- the text at a place is one of them
pub one_there : (said : List (Bor Text)) (i : ℕ) (d : Bor Text) → i < length said → IsOneOf (texts said) (get_or said i d).now
one_there said i d lt = (i, (omega (arith, length_images said), sym (at_image said i d (get_or said i d).now lt)))

-- where there is a text at place 1, there are two
pub two_there : (said : List (Bor Text)) (i : ℕ) → i < length said → 1 ≤ i → 2 ≤ length (texts said)
two_there said i lt some = omega (arith, length_images said)

-- what was said by a text before this place
abbrev pub IsSaidBefore : List (Bor Text) → ℕ → Option (Bor Text) → Type 0
IsSaidBefore said at text = IfSome text (λ t. (1 ≤ at) × IsOneOf (texts said) t.now)

pub said_later : (said : List (Bor Text)) (at : ℕ) (old new : Option (Bor Text)) → new ≡ old → IsSaidBefore said at old → IsSaidBefore said (at + 1) new
said_later said at None new is h = rw is tt
said_later said at (Some t) new is h = rw is (omega arith, h.1)

pub said_here : (said : List (Bor Text)) (at : ℕ) (d : Bor Text) (new : Option (Bor Text)) → new ≡ Some (get_or said at d)
    → at < length said → IsSaidBefore said (at + 1) new
said_here said at d new is lt = rw is (omega arith, one_there said at d lt)

pub said_twice : (said : List (Bor Text)) (all : List Text) (at : ℕ) (text : Option (Bor Text)) → is_some text ≡ true → IsSaidBefore said at text
    → at < length said → texts said ≡ all → 2 ≤ length all
said_twice said all at None some h lt same = absurd cc
said_twice said all at (Some t) some h lt same = subst (λ (ts : List Text). 2 ≤ length ts) same (two_there said at lt h.0)

pub said_of : (said : List (Bor Text)) (all : List Text) (at : ℕ) (text : Option (Bor Text)) → IsSaidBefore said at text → texts said ≡ all
    → IfSome text (λ t. IsOneOf all t.now)
said_of said all at None h same = tt
said_of said all at (Some t) h same = subst (λ (ts : List Text). IsOneOf ts t.now) same h.1

-- ---- words that give no question, and why

no_help_there : (words : List Text) (error : Refusal) → (error ≡ kind.OutOfMemory) ⊎ IsAmong error (faults_of words) → (error ≢ kind.OutOfMemory)
    → (error ≢ kind.DisplayHelp) → AreRefused words
no_help_there words error (inl memory) no_memory no_help = absurd (no_memory memory)
no_help_there words error (inr among) no_memory no_help = (error, among, no_help)

fault_is : (words : List Text) (error : Refusal) (cause : ReachFault) → (error ≡ kind.OutOfMemory) ⊎ IsAmong error (faults_of words)
    → IsFaultOfError error cause → IsFaultOf words cause
fault_is words error cause h (inl memory) = inl memory
fault_is words error cause h (inr bad) = inr (inl (bad.0, no_help_there words error h bad.1 bad.2))

pub fault_of_words : (words : List Text) (error : Refusal) (result : Result ReachRequest ReachFault)
    → (error ≡ kind.OutOfMemory) ⊎ IsAmong error (faults_of words) → IfErr result (IsFaultOfError error) → IfErr result (IsFaultOf words)
fault_of_words words error (Ok request) h fault = tt
fault_of_words words error (Err cause) h fault = fault_is words error cause h fault

-- the cause that is given back is one of the words in whose rows it was found
pub fault_in_words : (words : List Text) (rows : List Row) (result : Result ReachRequest ReachFault) (why : ReachFault) → IsErrAnd result (λ e. e ≡ why)
    → rows ≡ rows_in words → faults_of words ≡ [] → IsFaultIn rows why → IfErr result (IsFaultOf words)
fault_in_words words rows (Ok request) why is same none h = tt
fault_in_words words rows (Err cause) why is same none h =
    let in_rows : IsFaultIn (rows_in words) why = subst (λ (r : List Row). IsFaultIn r why) same h in
    inr (inr (none, inl (subst (λ (e : ReachFault). IsFaultIn (rows_in words) e) (sym is) in_rows)))

-- a goal is missing, or is one too many
pub goal_fault_in_words : (words : List Text) (rows : List Row) (result : Result ReachRequest ReachFault) → rows ≡ rows_in words → faults_of words ≡ []
    → IfErr result (IsGoalFault rows) → IfErr result (IsFaultOf words)
goal_fault_in_words words rows (Ok request) same none h = tt
goal_fault_in_words words rows (Err cause) same none h =
    inr (inr (none, inr (subst (λ (r : List Row). IsGoalFault r cause) same h)))
