-- The goals of `State::transfer_from_data` that the check left open.
use Rattle.rd_state.specs.Objects.{ObjectFits, ObjectsSnapshot}
use Rattle.rd_state.specs.Snapshot.{Snapshot, TaskSnapshot}
use Rattle.rd_state.specs.Transfers.{sunk, HasSink}
use Rattle.std.proofs.Common.{◌∙◌, ap, subst, sym}
use Rattle.rd_state.proofs.SizeLaws.{HasSizes-object, task_read}
use Rattle.rd_state.proofs.TransferLaws.{sink_fits}
use Rattle.rd_state.proofs.state.State.transfer_from_data.Goals as goal

pub invariant_of-self : goal.invariant_of-self
invariant_of-self c =
    let bytes = c.bytes-bytes.result.now in
    let sink = c.args.sink in
    let same = ap (λ (s : Snapshot). s.objects) c.self.view_is in
    let was = task_read c.self.inside c.args.self.now c.args.task c.index.result.now c.self.view_is c.requires.0 c.index.ensures in
    let has = subst (HasSink c.args.self.now.objects sink) (sym (c.bytes-bytes.ensures.bytes ∙ ap (λ (t : TaskSnapshot). t.bytes) was)) c.requires.1 in
    let fits = sink_fits c.args.self.now.objects sink bytes has in
    let there = subst (λ (o : ObjectsSnapshot). ObjectFits c.args.self.now.objects (sunk o sink bytes)) (sym same) fits in
    rw c.sink.ensures (HasSizes-object c.self.inside _ (sunk c.self.inside.objects sink bytes) c.self.view_is there c.self.invariant)
