-- The goal of `ChangeList::act_transfer` that the check left open.
use Rattle.std.proofs.Common.{subst, sym}
use Rattle.rd_state.specs.Change.{Change}
use Rattle.rd_state.specs.PackedChanges.{HasBytes}
use Rattle.rd_state.specs.Snapshot.{Snapshot}
use Rattle.rd_state.specs.Transfers.{change_of, CanTransfer}
use Rattle.rd_state.specs.declared.transfer.Transfer.{Transfer}
use Rattle.rd_state.specs.declared.transfer.Transfer.TheVariants.{FromData}
use Rattle.rd_state.proofs.PackingLaws.{inverse_has_bytes}
use Rattle.rd_state.proofs.TransferLaws.{transfer_fits}
use Rattle.rd_state.proofs.change_list.ChangeList.act_transfer.Goals as goal

pub push_of_object-requires : goal.push_of_object-requires
push_of_object-requires c =
    let s : Snapshot = c.args.state.now in
    let transfer : Transfer = FromData c.in-FromData.task c.in-FromData.sink in
    let can : CanTransfer s transfer = subst (λ (t : Transfer). CanTransfer s t) c.in-FromData.is c.requires in
    subst (λ (change : Change). HasBytes change) (sym c.inverse_of_sink.ensures)
    (inverse_has_bytes s (change_of s transfer) c.sizes.ensures (transfer_fits s transfer c.sizes.ensures can))
