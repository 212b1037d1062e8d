-- What is looked for, and what is seen of states.
use Rattle.std.proofs.Common.{◌≡◌, List, [], ◌∷◌, sym, subst}
use Rattle.std.proofs.lemmas.List.Elements.{All-cons, All-nil}
use Rattle.rd_app.specs.Application.{Application}
use Rattle.rd_goal.specs.declared.claim.Claim.{Claim}
use Rattle.rd_goal.specs.declared.goal.GoalRow.{GoalRow}
use Rattle.rd_goal.specs.declared.goal.GoalRow.TheVariants.{Says}
use Rattle.rd_goal.specs.Claims.{IsClaimOf}
use Rattle.rd_goal.specs.Goals.{IsGoalOf, IsRowOf}
pub use Rattle.rd_reach.specs.OrdersAlike.{whole_suits}

-- A goal that says one thing, which names nothing of an application, is one of each.
pub names_nothing : (claim : Claim) (rows : List GoalRow) → rows ≡ Says claim ∷ [] → ((app : Application) → IsClaimOf app claim) → (app : Application) → IsGoalOf app rows
names_nothing claim rows is named app =
    subst (IsGoalOf app) (sym is) (All-cons (IsRowOf app) (Says claim) [] (named app) (All-nil (IsRowOf app)))
