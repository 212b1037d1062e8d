-- Why the rows give no interrupts.
use Rattle.std.proofs.Common.{◌≡◌, ◌∙◌, ◌⊎◌, ℕ, List, Option, Some, None, Result, Ok, Err, IfErr, IsErrAnd, ap, inl, inr, option_map, subst, sym}
use Rattle.std.specs.Prelude.{IsErrOf, IsSome}
use Rattle.std.specs.Borrow.{Bor}
use Rattle.clap.specs.Words.{Row, Text}
use Rattle.rd_text.specs.Words.{number_of}
use Rattle.rd_question.specs.CommandLine.{IsFaultIn, IsFaultOfHandler, IsOneOfOption, IsSaidIn, IsWrongIn, SaysOne}
use Rattle.std.specs.Prelude.{codes}
use Rattle.rd_question.specs.Handlers.{IsUnlimited, IsWhyNotAfter, IsWrong, apart_said, follows_said, times_in, times_said}
use Rattle.rd_question.specs.Numbers.{small_number}
use Rattle.rd_question.specs.declared.fault.ReachFault.{ReachFault}
use Rattle.rd_question.specs.declared.handler.Handler.{Handler}
use Rattle.rd_question.specs.declared.handler.NoHandler.{NoHandler}
use Rattle.rd_question.specs.declared.handler.NoHandler.TheVariants.{After, Apart, NoMemory, Times, Unlimited}
use Rattle.rd_question.specs.declared.handler.Said.{Said}

times_wrong : (rows : List Row) (said : Option (Bor Text)) → IsOneOfOption (codes "times") rows said → times_said said ≡ None
    → SaysOne (codes "times") (λ text. times_in text ≡ None) rows
times_wrong rows None one e = absurd cc
times_wrong rows (Some t) one e = (t.now, one, e)

after_wrong : (rows : List Row) (said : Option (Bor Text)) (before : List Handler) → IsOneOfOption (codes "after") rows said
    → IsWhyNotAfter said before → SaysOne (codes "after") (λ text. Unit {0}) rows
after_wrong rows None before one (inl e) = absurd cc
after_wrong rows None before one (inr e) = let bad = e.1 in absurd cc
after_wrong rows (Some t) before one why = (t.now, one, tt)

some_number : (o : Option ℕ) (place : ℕ) → option_map (λ (n : ℕ). Some n) o ≡ Some (Some place) → IsSome o
some_number None place e = absurd cc
some_number (Some n) place e = search

follows_some : (rows : List Row) (said : Option (Bor Text)) (place : ℕ) → IsOneOfOption (codes "after") rows said → follows_said said ≡ Some (Some place)
    → SaysOne (codes "after") (λ text. IsSome (number_of text)) rows
follows_some rows None place one e = absurd cc
follows_some rows (Some t) place one e = (t.now, one, some_number (number_of t.now) place e)

apart_wrong : (rows : List Row) (said : Option (Bor Text)) → IsOneOfOption (codes "apart") rows said → apart_said said ≡ None
    → SaysOne (codes "apart") (λ text. small_number 0 text ≡ None) rows
apart_wrong rows None one e = absurd cc
apart_wrong rows (Some t) one e = (t.now, one, e)

pub wrong_in : (rows : List Row) (said : Said) (before : List Handler) (r : Result Handler NoHandler) (why : NoHandler) → r ≡ Err why → IsSaidIn rows said → IsWrong why
    → (IsErrOf r Times → times_said said.times ≡ None) → (IsErrOf r After → IsWhyNotAfter said.after before)
    → (IsErrOf r Unlimited → (times : Option ℕ) × (times_said said.times ≡ Some times) × IsUnlimited said.after times before)
    → (IsErrOf r Apart → apart_said said.apart ≡ None) → (why ≡ NoMemory) ⊎ IsWrongIn rows why
wrong_in rows said before r why is in_rows (inl e) times after unlimited apart =
    inr (inl (e, times_wrong rows said.times in_rows.times (times (is ∙ ap Err e))))
wrong_in rows said before r why is in_rows (inr (inl e)) times after unlimited apart =
    inr (inr (inl (e, after_wrong rows said.after before in_rows.after (after (is ∙ ap Err e)))))
wrong_in rows said before r why is in_rows (inr (inr (inl e))) times after unlimited apart =
    let so = unlimited (is ∙ ap Err e) in
    inr (inr (inr (inl (e, follows_some rows said.after so.2.0 in_rows.after so.2.1))))
wrong_in rows said before r why is in_rows (inr (inr (inr (inl e)))) times after unlimited apart =
    inr (inr (inr (inr (inl (e, apart_wrong rows said.apart in_rows.apart (apart (is ∙ ap Err e)))))))
wrong_in rows said before r why is in_rows (inr (inr (inr (inr e)))) times after unlimited apart = inl e

-- what is so of a cause is so of the one that is given back
pub given_back : {X : Type 0} (r : Result X NoHandler) (why : NoHandler) (So : NoHandler → Type 0) → IsErrAnd r (λ e. e ≡ why) → So why → IfErr r So
given_back (Ok x) why So is h = tt
given_back (Err e) why So is h = subst So (sym is) h

isr_fault : (rows : List Row) (why : NoHandler) (cause : ReachFault) → IsFaultOfHandler why cause → (why ≡ NoMemory) ⊎ IsWrongIn rows why → IsFaultIn rows cause
isr_fault rows why cause (inl memory) wrong = inl memory.1
isr_fault rows why cause (inr isr) (inl memory) = absurd (isr.0 memory)
isr_fault rows why cause (inr isr) (inr wrong) = inr (inr (inr (inr (inl (why, isr.1, wrong)))))

-- why there is no question where there are no interrupts
pub fault_of_isr : {X : Type 0} (rows : List Row) (r : Result X ReachFault) (why : NoHandler) → IsErrAnd r (λ cause. IsFaultOfHandler why cause)
    → (why ≡ NoMemory) ⊎ IsWrongIn rows why → IfErr r (IsFaultIn rows)
fault_of_isr rows (Ok x) why is wrong = tt
fault_of_isr rows (Err cause) why is wrong = isr_fault rows why cause is wrong
