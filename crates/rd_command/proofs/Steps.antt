-- Steps that gave something.
use Rattle.std.proofs.Common.{◌≡◌, ◌∙◌, ap, Bool, true, false, cond, Option, Some, None, option_map, option_and_then, refl}
use Rattle.std.specs.Option.{option_or}

pub then_some : {X Y : Type 0} (f : X → Option Y) (o : Option X) (y : Y) → option_and_then f o ≡ Some y → (x : X) × (o ≡ Some x) × (f x ≡ Some y)
then_some f (Some x) y e = (x, refl, e)
then_some f None y e = absurd cc

pub then_some_is : {X Y : Type 0} (f : X → Option Y) (o : Option X) (x : X) (y : Option Y) → o ≡ Some x → f x ≡ y → option_and_then f o ≡ y
then_some_is f o x y e h = ap (option_and_then f) e ∙ h

pub mapped : {X Y : Type 0} (f : X → Y) (o : Option X) (y : Y) → option_map f o ≡ Some y → (x : X) × (o ≡ Some x) × (f x ≡ y)
mapped f (Some x) y e = (x, refl, cc)
mapped f None y e = absurd cc

-- the value that a test lets through
pub some_if : {X : Type 0} (b : Bool) (x y : X) → cond b (Some x) None ≡ Some y → (b ≡ true) × (x ≡ y)
some_if true x y e = (refl, cc)
some_if false x y e = absurd cc

pub option_if : {X : Type 0} (b : Bool) (o : Option X) (y : X) → cond b o None ≡ Some y → (b ≡ true) × (o ≡ Some y)
option_if true o y e = (refl, e)
option_if false o y e = absurd cc

-- the first of two, where it is one
pub first_is : {X : Type 0} (b : Bool) (x : X) (other : Option X) → b ≡ true → option_or (cond b (Some x) None) other ≡ Some x
first_is true x other e = refl
first_is false x other e = absurd cc
