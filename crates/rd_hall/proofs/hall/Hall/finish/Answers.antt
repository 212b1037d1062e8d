use Rattle.rd_hall.proofs.SharedLaws.{gones_of, legal_of}
use Rattle.rd_hall.proofs.hall.Hall.finish.Goals as goal

pub returns-clause-legal : goal.returns-clause-legal
returns-clause-legal g c = legal_of _ _ _ _ _ _ c.finish.ensures.closed c.finish.ensures.legal c.by_invariant.ensures.set_up.app
    c.by_invariant.ensures.set_up.most_moves

pub returns-clause-gones : goal.returns-clause-gones
returns-clause-gones g c = gones_of _ _ _ c.finish.ensures.closed
