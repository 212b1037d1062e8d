-- The goal of `origin` that the check left open.
use Rattle.std.proofs.Common.{subst, sym}
use Rattle.rd_app.specs.Application.{Application, priorities_of}
use Rattle.rd_state.specs.Settled.{IsSettled}
use Rattle.rd_state.specs.Snapshot.{Snapshot}
use Rattle.rd_origin.proofs.origin.origin.Goals as goal

pub returns-clause-settled : goal.returns-clause-settled
returns-clause-settled c =
    subst (λ (app : Application). IsSettled (priorities_of app) c.in_ok-state.field-0) c.in_ok-run.ensures.run.runs
    (subst (λ (s : Snapshot). IsSettled (priorities_of c.in_ok-run.run'.app) s) (sym c.in_ok-state.ensures) c.state.ensures.settled)
