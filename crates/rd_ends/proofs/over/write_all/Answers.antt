use Rattle.std.proofs.Common.{arith}
use Rattle.std.proofs.lemmas.List.{length-drop, take_rest}
use Rattle.rd_ends.proofs.KnownLaws.{Keeps-same, taken_front, taken_more}
use Rattle.rd_ends.proofs.over.write_all.Goals as goal

pub returns-in-Err : goal.returns-in-Err
returns-in-Err g c =
    taken_front _ _ _ c.args.bytes.now c.loop-try.sent c.loop-try.invariant.taken c.in-Err.ensures.err

pub loop-try-preserved : goal.loop-try-preserved
loop-try-preserved g c =
    let bytes = c.args.bytes.now in
    let sent = c.loop-try.sent in
    let rest = take_rest bytes sent in
    let within = rw rest at c.in-Ok.ensures.within in
    record {
      within = omega (arith, within, c.loop-try.invariant.within, length-drop sent bytes);
      taken = taken_more _ _ _ bytes sent c.in-Ok.count c.loop-try.invariant.taken (rw rest at c.in-Ok.ensures.bytes);
    }

pub returns : goal.returns
returns g c =
    taken_front _ _ _ c.args.bytes.now c.loop-try.sent c.loop-try.invariant.taken (Keeps-same _)
