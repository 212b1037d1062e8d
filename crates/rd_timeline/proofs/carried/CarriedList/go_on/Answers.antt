-- The goal of `CarriedList::go_on` that the check left open.
use Rattle.std.proofs.Common.{◌∙◌, ◌++◌, ap, take}
use Rattle.std.proofs.Math.Seq.{take-add}
use Rattle.rd_timeline.specs.CarriedView.{CarriedView}
use Rattle.rd_timeline.proofs.carried.CarriedList.go_on.Goals as goal

pub returns-clause-done : goal.returns-clause-done
returns-clause-done c =
    take-add c.self.inside.done c.args.n c.self.inside.kept.items ∙ ap (λ (v : CarriedView). v.done ++ take c.args.n v.undone) c.self.view_is
