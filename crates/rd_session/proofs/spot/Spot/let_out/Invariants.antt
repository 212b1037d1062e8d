-- What holds at each turn of let_out's loop.
use Rattle.std.proofs.Common.{◌≡◌}
use Rattle.rd_session.proofs.CallLaws.{OutSoFar}
use Rattle.rd_session.proofs.spot.Spot.let_out.Given as goal

abbrev pub invariant-loop-line : goal.invariant-loop-line
invariant-loop-line g l = record {
  so_far : OutSoFar l.fn.self.seat.now.session.who l.fn.self.pending.now.out l.line
      (g.G.Gate.calls l.fn.self.gate.now) (g.G.Gate.calls l.self.gate.now);
  pending : l.self.pending ≡ l.fn.self.pending;
  seat : l.self.seat ≡ l.fn.self.seat;
  sink : l.self.sink ≡ l.fn.self.sink;
  gate : l.self.gate.ghost_name ≡ l.fn.self.gate.ghost_name;
}
