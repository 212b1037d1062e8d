use Rattle.std.proofs.Common.{take}
use Rattle.std.specs.Prelude.{All}
use Rattle.rd_moves.specs.Carried.{IsCarriedOf}
use Rattle.rd_reach.specs.Plans.{IsrPlan}
use Rattle.rd_question.specs.Asked.{AreEach, IsIsrFor}
use Rattle.rd_question.proofs.planning.isrs_of.Given as goal

abbrev pub invariant-loop-handler : goal.invariant-loop-handler
invariant-loop-handler l =
    record {
      said : AreEach (IsIsrFor l.app) (take l.handler-index l.handlers) l.isrs.items;
      named : All (λ (isr : IsrPlan). All (IsCarriedOf l.app.runs) isr.calls) l.isrs.items;
    }
