-- Steps that did not fail.
use Rattle.std.proofs.Common.{◌≡◌, ◌∙◌, ap, Bool, true, false, cond, Option, Some, None, Result, Ok, Err, ok_or, refl}
use Rattle.rd_script.specs.declared.error.AppError.{AppError}
use Rattle.rd_script.specs.Spelling.{◌>>=◌}

-- the value of a step that did not fail
pub bind_ok : {A B : Type 0} (r : Result A AppError) (f : A → Result B AppError) (y : B) → (r >>= f) ≡ Ok y → (x : A) × (r ≡ Ok x) × (f x ≡ Ok y)
bind_ok (Ok x) f y e = (x, refl, e)
bind_ok (Err d) f y e = absurd cc

-- a test that did not fail
pub guard_ok : {A : Type 0} (b : Bool) (x y : A) (d : AppError) → cond b (Ok x) (Err d) ≡ Ok y → (b ≡ true) × (x ≡ y)
guard_ok true x y d e = (refl, cc)
guard_ok false x y d e = absurd cc

pub ok_or_ok : {A : Type 0} (o : Option A) (x : A) (d : AppError) → ok_or o d ≡ Ok x → o ≡ Some x
ok_or_ok (Some y) x d e = cc
ok_or_ok None x d e = absurd cc

-- a step that did not fail, and what follows
pub then_is : {A B : Type 0} (r : Result A AppError) (f : A → Result B AppError) (x : A) (y : Result B AppError) → r ≡ Ok x → f x ≡ y → (r >>= f) ≡ y
then_is r f x y e h = ap (λ r. r >>= f) e ∙ h

-- what a test chose, where the other way is a fault
pub chosen : {A : Type 0} (b : Bool) (r : Result A AppError) (d : AppError) (y : A) → cond b r (Err d) ≡ Ok y → (b ≡ true) × (r ≡ Ok y)
chosen true r d y e = (refl, e)
chosen false r d y e = absurd cc
