use Rattle.std.proofs.Common.{List, [], ◌∷◌, ◌++◌, ◌∙◌, ap}
use Rattle.rd_goal.specs.declared.goal.GoalRow.{GoalRow}
use Rattle.rd_goal.specs.declared.goal.GoalRow.TheVariants.{Says}
use Rattle.rd_scarce.proofs.AimLaws.{names_nothing}
use Rattle.rd_scarce.proofs.aim.try_to_make.Goals as goal

pub returns : goal.returns
returns c =
    names_nothing c.args.claim c.add.new.self
    (c.in_ok-add.ensures.ok ∙ ap (λ (rows : List GoalRow). rows ++ Says c.args.claim ∷ []) c.new-goal.ensures)
    c.requires
