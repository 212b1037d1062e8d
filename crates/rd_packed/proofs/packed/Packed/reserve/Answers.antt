-- The goals of `Packed::reserve` that the check left open.
use Rattle.std.proofs.Common.{ap, arith, length}
use Rattle.rd_packed.specs.Records.{PackedView, AreRecords, records_packed}
use Rattle.rd_packed.proofs.RecordLaws.{on_ok_then, records_packed-records_in}
use Rattle.rd_packed.proofs.packed.Packed.reserve.Goals as goal

pub returns-clause-ok : goal.returns-clause-ok
returns-clause-ok c =
    let now = c.reserve.new.self.bytes in
    let are : AreRecords c.self.inside.records now = rw c.reserve.ensures.bytes c.self.invariant in
    on_ok_then c.reserve.result c.reserve.ensures.ok (λ room. omega (arith, room, ap length (records_packed-records_in c.self.inside.records now are)))

pub returns-clause-enough : goal.returns-clause-enough
returns-clause-enough c room =
    c.reserve.ensures.enough
    (omega (
      arith,
      room,
      ap length (records_packed-records_in c.self.inside.records c.self.inside.tape.bytes c.self.invariant),
      ap (λ (v : PackedView). length (records_packed v.records)) c.self.view_is,
      ap (λ (v : PackedView). v.capacity) c.self.view_is,
    ))
