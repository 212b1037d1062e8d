-- The goal of same_cores that the check left open.
use Rattle.std.proofs.Common.{◌≡◌, ℕ, ◌==◌, Option, Some, None, ap}
use Rattle.std.specs.Bool.{Decides}
use Rattle.std.specs.Option.{option_eq}
use Rattle.std.proofs.lemmas.Bool.Decides.{Decides-eqb}
use Rattle.std.proofs.lemmas.Slice.Eq.{slice_eq-Decides}
use Rattle.rd_state.proofs.state.same_cores.Goals as goal

same_task : (a b : Option ℕ) → Decides (option_eq (λ x y. x == y) a b) (a ≡ b)
same_task None None = (λ e. cc, λ e. cc)
same_task None (Some y) = (λ e. absurd cc, λ e. absurd cc)
same_task (Some x) None = (λ e. absurd cc, λ e. absurd cc)
same_task (Some x) (Some y) = (λ e. ap Some ((Decides-eqb x y).0 e), λ e. (Decides-eqb x y).1 (let is : x ≡ y = cc in is))

pub returns : goal.returns
returns c = slice_eq-Decides same_task c.args.cores.now c.args.others.now c.eq.result c.eq.ensures
