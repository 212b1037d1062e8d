-- What is loaded, and why nothing is.
use Rattle.std.proofs.Common.{◌≡◌, ◌≢◌, ◌∙◌, ◌<◌, ◌++◌, List, [], ℕ, length, take, option_map, Option, Some, None}
use Rattle.std.proofs.Common.{Result, Ok, Err, IfOk, IfErr, IsOk, OnOk, IfSome, IsErrAnd, ap, inl, inr, arith, refl, subst}
use Rattle.std.proofs.lemmas.Bool.{cases_lt}
use Rattle.std.proofs.lemmas.List.{length-take, take_all}
use Rattle.std.specs.IoError.{error_kind}
use Rattle.std.specs.Io.Take.{take_inner, take_limit, take_remaining}
use Rattle.std.specs.declared.io.Error.{Error}
use Rattle.std.specs.declared.io.ErrorKind.{ErrorKind}
use Rattle.std.specs.declared.io.Take.{Take}
use Rattle.rd_names.specs.Apps.{AppView, IsApp}
use Rattle.rd_script.specs.Says.{FileSays}
use Rattle.rd_start.specs.declared.fault.Fault.{Fault}
use Rattle.rd_start.specs.declared.fault.Fault.TheVariants.{BadCommandLine, CannotRead, App, NoMemory}
use Rattle.rd_start.specs.Requests.{AreAllOf, IsFaultOf, IsFaultOfKind, IsFile, IsOfAFile, IsOfARefusedFile, IsRefusalOf, IsSaidBy}

-- A file that can't be opened or read says nothing, whatever its bytes are.
pub unread_is_fault : (known : Option (List ℕ)) (kind : ErrorKind) (fault : Fault) → IsFaultOfKind kind fault → IsFaultOf known fault
unread_is_fault known kind BadCommandLine h =
    let unread : BadCommandLine ≡ CannotRead = h.unread (λ e. let none = h.no_memory e in cc) in
    absurd cc
unread_is_fault known kind CannotRead h = tt
unread_is_fault known kind (App error) h =
    let unread : App error ≡ CannotRead = h.unread (λ e. let none = h.no_memory e in cc) in
    absurd cc
unread_is_fault known kind NoMemory h = tt

refusal_is_fault : (known : Option (List ℕ)) (bytes : List ℕ) (fault : Fault) → AreAllOf known bytes → IsFile bytes
    → IsRefusalOf bytes fault → IsFaultOf known fault
refusal_is_fault known bytes BadCommandLine all few h = h
refusal_is_fault known bytes CannotRead all few h = tt
refusal_is_fault known bytes (App error) all few h = (bytes, all, few, h)
refusal_is_fault known bytes NoMemory all few h = tt

-- What was read, up to one byte more than a file may have, where all that there is was empty before.
abbrev pub ReadsUpTo : {E : Type 0} → Option (List ℕ) → Result ℕ E → List ℕ → Type 0
ReadsUpTo known read bytes = OnOk read (IfSome (option_map (take 1048577) known) (λ xs. bytes ≡ xs))

pub reads_up_to : {R E : Type 0} (remaining : R → Option (List ℕ)) (taken : Take R) (reader : R) (read : Result ℕ E) (before bytes : List ℕ)
    → take_limit taken ≡ 1048577 → take_inner taken ≡ reader → before ≡ []
    → OnOk read (IfSome (take_remaining remaining taken) (λ xs. bytes ≡ before ++ xs))
    → ReadsUpTo (remaining reader) read bytes
reads_up_to remaining taken reader read before bytes limit inner empty h = rw (limit, inner, empty) at h

-- Bytes that are no more than a file may have are all.
all_of_few : {E : Type 0} (known : Option (List ℕ)) (read : Result ℕ E) (bytes : List ℕ) → ReadsUpTo known read bytes → IsOk read
    → IsFile bytes → AreAllOf known bytes
all_of_few None read bytes up_to ok few = tt
all_of_few (Some all) (Ok n) bytes up_to ok few =
    let len = ap length up_to ∙ length-take 1048577 all in
    up_to ∙ take_all 1048577 all (omega arith)
all_of_few (Some all) (Err e) bytes up_to ok few = absurd cc

-- The application of what was read, or why there is none.
pub said : (known : Option (List ℕ)) (read : Result ℕ Error) (bytes : List ℕ) (result : Result AppView Fault)
    → ReadsUpTo known read bytes
    → IfErr read (λ error. IsErrAnd result (IsFaultOfKind (error_kind error)))
    → IfOk result (λ _. IsFile bytes) → IfOk result (FileSays bytes) → IfOk result IsApp
    → IfOk result (IsSaidBy known)
said known (Ok n) bytes (Ok app) up_to failed short says limits =
    (bytes, all_of_few {E = Error} known (Ok n) bytes up_to refl short, short, says, limits)
said known (Err e) bytes (Ok app) up_to failed short says limits = absurd failed
said known read bytes (Err fault) up_to failed short says limits = short

-- A file that is too long says nothing.
unread_is : (known : Option (List ℕ)) (fault : Fault) (result : Result AppView Fault) → result ≡ Err fault
    → result ≡ Err CannotRead → IsFaultOf known fault
unread_is known fault result refused unread = let same : CannotRead ≡ fault = cc in subst (λ (f : Fault). IsFaultOf known f) same tt

pub not_said : (known : Option (List ℕ)) (read : Result ℕ Error) (bytes : List ℕ) (result : Result AppView Fault)
    → ReadsUpTo known read bytes
    → IfErr read (λ error. IsErrAnd result (IsFaultOfKind (error_kind error)))
    → (IsOk read → 1048576 < length bytes → result ≡ Err CannotRead)
    → (IsOk read → IsFile bytes → IfErr result (IsRefusalOf bytes))
    → IfErr result (IsFaultOf known)
not_said known read bytes (Ok app) up_to failed long refused = tt
not_said known (Err e) bytes (Err fault) up_to failed long refused = unread_is_fault known (error_kind e) fault failed
not_said known (Ok n) bytes (Err fault) up_to failed long refused = elim (cases_lt 1048576 (length bytes)) [
  | inl lt ↦ unread_is known fault (Err fault) refl (long refl lt)
  | inr few ↦ refusal_is_fault known bytes fault (all_of_few {E = Error} known (Ok n) bytes up_to refl few) few (refused refl few)
]

-- What is said by a file's bytes is said by some.
of_a_file : (known : Option (List ℕ)) (result : Result AppView Fault) → IfOk result (IsSaidBy known) → IfOk result IsOfAFile
of_a_file known (Ok app) h = (h.0, h.2, h.3, h.4)
of_a_file known (Err fault) h = h

pub opened_app : {R : Type 0} (remaining : R → Option (List ℕ)) (opened : Result R Error) (result : Result AppView Fault)
    → IfErr opened (λ error. IsErrAnd result (IsFaultOfKind (error_kind error)))
    → IfOk opened (λ reader. IfOk result (IsSaidBy (remaining reader))) → IfOk result IsOfAFile
opened_app remaining (Ok reader) result failed h = of_a_file (remaining reader) result h
opened_app remaining (Err e) (Ok app) failed h = absurd failed
opened_app remaining (Err e) (Err fault) failed h = tt

-- Why a file that can't be opened, or is opened and read, gives no application.
not_opened : {R : Type 0} (remaining : R → Option (List ℕ)) (opened : Result R Error) (fault : Fault)
    → IfErr opened (λ error. IsFaultOfKind (error_kind error) fault) → IfOk opened (λ reader. IsFaultOf (remaining reader) fault)
    → (known : Option (List ℕ)) × IsFaultOf known fault
not_opened remaining (Ok reader) fault failed h = (remaining reader, h)
not_opened remaining (Err e) fault failed h = (None, unread_is_fault None (error_kind e) fault failed)

not_bad_command_line : (known : Option (List ℕ)) (fault : Fault) → IsFaultOf known fault → fault ≢ BadCommandLine
not_bad_command_line known BadCommandLine h = absurd h
not_bad_command_line known CannotRead h = λ e. cc
not_bad_command_line known (App error) h = λ e. cc
not_bad_command_line known NoMemory h = λ e. cc

of_a_refused_file : (known : Option (List ℕ)) (fault : Fault) → IsFaultOf known fault → IsOfARefusedFile fault
of_a_refused_file known BadCommandLine h = tt
of_a_refused_file known CannotRead h = tt
of_a_refused_file known (App error) h = (h.0, h.2, h.3)
of_a_refused_file known NoMemory h = tt

pub opened_fault : {R : Type 0} (remaining : R → Option (List ℕ)) (opened : Result R Error) (result : Result AppView Fault)
    → IfErr opened (λ error. IsErrAnd result (IsFaultOfKind (error_kind error)))
    → IfOk opened (λ reader. IfErr result (IsFaultOf (remaining reader))) → IfErr result (λ fault. fault ≢ BadCommandLine)
opened_fault remaining opened (Ok app) failed h = tt
opened_fault remaining opened (Err fault) failed h =
    let why = not_opened remaining opened fault failed h in
    not_bad_command_line why.0 fault why.1

pub opened_refused : {R : Type 0} (remaining : R → Option (List ℕ)) (opened : Result R Error) (result : Result AppView Fault)
    → IfErr opened (λ error. IsErrAnd result (IsFaultOfKind (error_kind error)))
    → IfOk opened (λ reader. IfErr result (IsFaultOf (remaining reader))) → IfErr result IsOfARefusedFile
opened_refused remaining opened (Ok app) failed h = tt
opened_refused remaining opened (Err fault) failed h =
    let why = not_opened remaining opened fault failed h in
    of_a_refused_file why.0 fault why.1
