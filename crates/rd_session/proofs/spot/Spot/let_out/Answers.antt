-- The goals of let_out that the check left open.
use Rattle.std.proofs.Common.{◌≡◌, refl, arith}
use Rattle.rd_session.proofs.CallLaws.{AreOut-of, OutSoFar-more, OutSoFar-none}
use Rattle.rd_session.proofs.spot.Spot.let_out.Goals as goal

pub loop-line-init : goal.loop-line-init
loop-line-init g c = record {
  so_far = rw c.out-line.ensures (OutSoFar-none _ _ _);
  pending = refl;
  seat = refl;
  sink = refl;
  gate = refl;
}

pub loop-line-preserved : goal.loop-line-preserved
loop-line-preserved g c = record {
  so_far = OutSoFar-more _ _ c.loop-line.line _ _ _ _ refl c.loop-line.invariant.so_far (rw c.who-who.ensures at c.after.ensures);
  pending = c.loop-line.invariant.pending;
  seat = c.loop-line.invariant.seat;
  sink = c.loop-line.invariant.sink;
  gate = c.loop-line.invariant.gate;
}

pub returns-clause-out : goal.returns-clause-out
returns-clause-out g c =
    let all : c.loop-line.line ≡ c.args.upto = omega (arith, c.loop-line-test.false, c.loop-line.auto.line-end, c.out-line.ensures, c.requires) in
    AreOut-of _ _ _ _ _ (rw all at c.loop-line.invariant.so_far)
