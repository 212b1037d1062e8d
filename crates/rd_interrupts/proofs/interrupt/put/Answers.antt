-- The goal of `put` that the check left open.
use Rattle.std.proofs.Common.{◌≡◌, ◌<◌, length, rules, subst, sym}
use Rattle.rd_state.specs.Snapshot.{Snapshot}
use Rattle.rd_state.specs.Waiting.{waiting_at}
use Rattle.rd_queue_calls.specs.Posts.{list_posted_to, membership_of}
use Rattle.rd_interrupts.specs.Interrupts.{with_item_put}
use Rattle.rd_interrupts.proofs.InterruptLaws.{room_to_post}
use Rattle.rd_interrupts.proofs.interrupt.put.Goals as goal

pub post-requires-clause-ready : goal.post-requires-clause-ready
post-requires-clause-ready c =
    let s = c.args.editing.now.now in
    let queue = c.args.queue in
    let member = c.set_of-queue_set.result in
    let put = with_item_put s queue c.args.bytes.now in
    let same : c.change_object.new.self.now ≡ put = search rules in
    let its : member ≡ membership_of s queue = search rules in
    λ some. subst (λ (t : Snapshot). length t.ready < length t.tasks) (sym same)
    (room_to_post c.args.app.now s queue c.args.bytes.now c.requires.valid c.requires.queue
    (subst (λ m. 0 < length (waiting_at put (list_posted_to queue m))) its
    (subst (λ (t : Snapshot). 0 < length (waiting_at t (list_posted_to queue member))) same some)))
