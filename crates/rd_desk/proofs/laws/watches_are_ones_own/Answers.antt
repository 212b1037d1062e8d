-- The goals of watches_are_ones_own that the check left open.
use Rattle.rd_desk.proofs.WatchLaws.{watches_are_dropped_by_their_session, watches_are_seen_by_their_session}
use Rattle.rd_desk.proofs.laws.watches_are_ones_own.Goals as goal

pub returns-clause-seen : goal.returns-clause-seen
returns-clause-seen c = watches_are_seen_by_their_session

pub returns-clause-dropped : goal.returns-clause-dropped
returns-clause-dropped c = watches_are_dropped_by_their_session
