-- The goal of `Packed::len` that the check left open.
use Rattle.std.proofs.Common.{◌∙◌, length, ap, sym}
use Rattle.rd_packed.specs.Records.{PackedView}
use Rattle.rd_packed.proofs.RecordLaws.{length-records_in}
use Rattle.rd_packed.proofs.packed.Packed.len.Goals as goal

pub returns : goal.returns
returns c = sym (length-records_in c.self.inside.records c.self.inside.tape.bytes) ∙ ap (λ (v : PackedView). length v.records) c.self.view_is
