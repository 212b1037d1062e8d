use Rattle.std.proofs.Common.{inr, refl, sym}
use Rattle.rd_question.proofs.planning.no_call.Goals as goal

pub returns-in-Ok : goal.returns-in-Ok
returns-in-Ok c = inr (c.in-Ok.call, refl, sym c.in-Ok.ensures.ok)
