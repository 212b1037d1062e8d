-- The goals of `call_group` that the check left open.
use Rattle.std.proofs.Common.{List, subst, sym, ℕ}
use Rattle.rd_app.specs.Application.{priorities_of}
use Rattle.rd_app.specs.declared.instr.GroupCall.TheVariants.{Set, Sync, Wait}
use Rattle.rd_group.specs.declared.wish.Wish.{Wish}
use Rattle.rd_state.specs.Snapshot.{Snapshot}
use Rattle.rd_kernel.proofs.Offered.{PcsStay}
use Rattle.rd_kernel.specs.Waking.{operand_value}
use Rattle.rd_group_calls.specs.GroupCalls.{set_outcome, sync_outcome, wait_outcome}
use Rattle.rd_group_calls.proofs.GroupCallLaws.{group_call-pcs, pc_stays}
use Rattle.rd_group_calls.proofs.calls.call_group.Goals as goal

pub returns-in-Set-clause-stays : goal.returns-in-Set-clause-stays
returns-in-Set-clause-stays c =
    let s : Snapshot = c.args.editing.now.now in
    let priorities : List ℕ = priorities_of c.args.app.now in
    pc_stays c.set.result c.args.editing.now c.set.new.editing _ _ c.args.task c.set.ensures.ok
    (subst (λ bits. PcsStay s (set_outcome priorities s c.args.group bits).state) (sym c.operand_value-bits.ensures)
    (group_call-pcs priorities s c.args.task c.args.group (Set c.in-Set.bits)))

pub returns-in-Sync-clause-stays : goal.returns-in-Sync-clause-stays
returns-in-Sync-clause-stays c =
    let s : Snapshot = c.args.editing.now.now in
    let priorities : List ℕ = priorities_of c.args.app.now in
    let pcs = group_call-pcs priorities s c.args.task c.args.group (Sync c.in-Sync.set c.in-Sync.bits c.in-Sync.wait) in
    pc_stays c.sync.result c.args.editing.now c.sync.new.editing _ _ c.args.task c.sync.ensures.ok
    (subst (λ set. PcsStay s (sync_outcome priorities s c.args.task c.args.group set c.operand_value-bits-in-Sync.result c.in-Sync.wait).state)
    (sym c.operand_value-set.ensures)
    (subst (λ bits. PcsStay s (sync_outcome priorities s c.args.task c.args.group (operand_value s c.args.task c.in-Sync.set) bits
    c.in-Sync.wait).state) (sym c.operand_value-bits-in-Sync.ensures) pcs))

pub returns-in-Wait-clause-stays : goal.returns-in-Wait-clause-stays
returns-in-Wait-clause-stays c =
    let s : Snapshot = c.args.editing.now.now in
    let call = Wait c.in-Wait.bits c.in-Wait.which c.in-Wait.on_met c.in-Wait.wait in
    let wish : ℕ → Wish = λ bits. record { bits = bits; wait_for = c.in-Wait.which; on_met = c.in-Wait.on_met } in
    pc_stays c.wait_for.result c.args.editing.now c.wait_for.new.editing _ _ c.args.task c.wait_for.ensures.ok
    (subst (λ bits. PcsStay s (wait_outcome s c.args.task c.args.group (wish bits) c.in-Wait.wait).state) (sym c.operand_value.ensures)
    (group_call-pcs (priorities_of c.args.app.now) s c.args.task c.args.group call))
