-- The goal of `Packed::bytes` that the check left open.
use Rattle.std.proofs.Common.{◌∙◌, length, ap, sym}
use Rattle.rd_packed.specs.Records.{records_packed, PackedView}
use Rattle.rd_packed.proofs.RecordLaws.{records_packed-records_in}
use Rattle.rd_packed.proofs.packed.Packed.bytes.Goals as goal

pub returns : goal.returns
returns c =
    c.len.ensures ∙ sym (ap length (records_packed-records_in c.self.inside.records c.self.inside.tape.bytes c.self.invariant))
    ∙ ap (λ (v : PackedView). length (records_packed v.records)) c.self.view_is
