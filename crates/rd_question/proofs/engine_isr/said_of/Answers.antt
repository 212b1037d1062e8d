use Rattle.rd_question.proofs.engine_isr.said_of.Goals as goal

pub returns-in-None-clause-said : goal.returns-in-None-clause-said
returns-in-None-clause-said c = (c.loop.invariant.says, c.in_ok-front.ensures.bare c.in-None.is)
