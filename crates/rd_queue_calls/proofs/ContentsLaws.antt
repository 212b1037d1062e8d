-- A queue or a queue set that changes in something else than its shape and who waits at it: this keeps what makes a state
-- valid.
use Rattle.std.proofs.Common.{◌≡◌, ℕ, ◌<◌, List, length, refl, ap}
use Rattle.rd_queue.specs.declared.waiting_list.WaitingList.TheVariants.{Receiving, Sending}
use Rattle.rd_queue.specs.QueueSnapshot.{QueueSnapshot}
use Rattle.rd_queue.specs.QueueSetSnapshot.{QueueSetSnapshot}
use Rattle.rd_queue.specs.Queues.{with_items}
use Rattle.rd_app.specs.Application.{Application}
use Rattle.rd_app.specs.declared.objects.QueueShape.{QueueShape}
use Rattle.rd_state.specs.declared.phase.Phase.{Phase}
use Rattle.rd_state.specs.declared.phase.Held.{Held}
use Rattle.rd_state.specs.declared.phase.Held.TheVariants.{Stream, Message}
use Rattle.rd_state.specs.declared.phase.Listed.{Listed}
use Rattle.rd_state.specs.declared.phase.Listed.TheVariants.{Queue, QueueSet}
use Rattle.rd_state.specs.Objects.{capacity_of, no_queue, no_queue_set, shape_of, shapes_in}
use Rattle.rd_state.specs.Snapshot.{Snapshot, queue_at, queue_set_at, with_queue, with_queue_set}
use Rattle.rd_state.specs.Waiting.{holder_at, waiting_at}
use Rattle.rd_kernel.proofs.Offered.{ContentsChange, IsConsistent, IsConsistent-contents, map_same, read_same}

-- A queue has the same tasks in its lists.
pub record IsSameWaiting (now was : QueueSnapshot) : Type 0 where
  pub receiving : now.receiving ≡ was.receiving
  pub sending : now.sending ≡ was.sending

pub waiting_at-with_queue : (s : Snapshot) (queue : ℕ) (now : QueueSnapshot) (place : Listed) → queue < length s.objects.queues
    → IsSameWaiting now (queue_at s queue) → waiting_at (with_queue s queue now) place ≡ waiting_at s place
waiting_at-with_queue s queue now (Queue other Receiving) there same_waiting =
    read_same (λ (q : QueueSnapshot). q.receiving) s.objects.queues queue other now no_queue there same_waiting.receiving
waiting_at-with_queue s queue now (Queue other Sending) there same_waiting =
    read_same (λ (q : QueueSnapshot). q.sending) s.objects.queues queue other now no_queue there same_waiting.sending
waiting_at-with_queue s queue now place there same_waiting = refl

-- No buffer is one of them.
pub holder_at-with_queue : (s : Snapshot) (queue : ℕ) (now : QueueSnapshot) (held : Held) → holder_at (with_queue s queue now) held ≡ holder_at s held
holder_at-with_queue s queue now (Stream stream side) = refl
holder_at-with_queue s queue now (Message message side) = refl

pub holder_at-with_queue_set : (s : Snapshot) (queue_set : ℕ) (now : QueueSetSnapshot) (held : Held) → holder_at (with_queue_set s queue_set now) held ≡ holder_at s held
holder_at-with_queue_set s queue_set now (Stream stream side) = refl
holder_at-with_queue_set s queue_set now (Message message side) = refl

pub ContentsChange-queue : (s : Snapshot) (queue : ℕ) (now : QueueSnapshot) → queue < length s.objects.queues
    → shape_of now ≡ shape_of (queue_at s queue) → IsSameWaiting now (queue_at s queue) → ContentsChange s.objects (with_queue s queue now).objects
ContentsChange-queue s queue now there shape same_waiting = record {
  waiting = λ place. waiting_at-with_queue s queue now place there same_waiting;
  holders = λ held. holder_at-with_queue s queue now held;
  shapes = ap (λ (qs : List QueueShape). record (shapes_in s.objects) { queues = qs }) (map_same shape_of s.objects.queues queue now no_queue shape);
}

pub waiting_at-with_queue_set : (s : Snapshot) (queue_set : ℕ) (now : QueueSetSnapshot) (place : Listed) → queue_set < length s.objects.queue_sets
    → now.waiting ≡ (queue_set_at s queue_set).waiting → waiting_at (with_queue_set s queue_set now) place ≡ waiting_at s place
waiting_at-with_queue_set s queue_set now (QueueSet other) there same_waiting = read_same (λ (q : QueueSetSnapshot). q.waiting) s.objects.queue_sets queue_set other now no_queue_set there same_waiting
waiting_at-with_queue_set s queue_set now place there same_waiting = refl

pub ContentsChange-queue_set : (s : Snapshot) (queue_set : ℕ) (now : QueueSetSnapshot) → queue_set < length s.objects.queue_sets
    → capacity_of now ≡ capacity_of (queue_set_at s queue_set) → now.waiting ≡ (queue_set_at s queue_set).waiting → ContentsChange s.objects (with_queue_set s queue_set now).objects
ContentsChange-queue_set s queue_set now there room same_waiting = record {
  waiting = λ place. waiting_at-with_queue_set s queue_set now place there same_waiting;
  holders = λ held. holder_at-with_queue_set s queue_set now held;
  shapes = ap (λ (rooms : List ℕ). record (shapes_in s.objects) { queue_sets = rooms }) (map_same capacity_of s.objects.queue_sets queue_set now no_queue_set room);
}

pub IsConsistent-queue_replaced : (app : Application) (D : ℕ → Phase → Type 0) (s : Snapshot) (queue : ℕ) (now : QueueSnapshot)
    → queue < length s.objects.queues → shape_of now ≡ shape_of (queue_at s queue) → IsSameWaiting now (queue_at s queue)
    → IsConsistent app D s → IsConsistent app D (with_queue s queue now)
IsConsistent-queue_replaced app D s queue now there shape same_waiting =
    IsConsistent-contents app D s (with_queue s queue now).objects (ContentsChange-queue s queue now there shape same_waiting)

pub IsConsistent-items : (app : Application) (D : ℕ → Phase → Type 0) (s : Snapshot) (queue : ℕ) (items : List (List ℕ)) → queue < length s.objects.queues
    → IsConsistent app D s → IsConsistent app D (with_queue s queue (with_items (queue_at s queue) items))
IsConsistent-items app D s queue items there =
    IsConsistent-queue_replaced app D s queue (with_items (queue_at s queue) items) there refl (record { receiving = refl; sending = refl })

pub IsConsistent-queue_set_replaced : (app : Application) (D : ℕ → Phase → Type 0) (s : Snapshot) (queue_set : ℕ) (now : QueueSetSnapshot) → queue_set < length s.objects.queue_sets
    → capacity_of now ≡ capacity_of (queue_set_at s queue_set) → now.waiting ≡ (queue_set_at s queue_set).waiting
    → IsConsistent app D s → IsConsistent app D (with_queue_set s queue_set now)
IsConsistent-queue_set_replaced app D s queue_set now there room same_waiting =
    IsConsistent-contents app D s (with_queue_set s queue_set now).objects (ContentsChange-queue_set s queue_set now there room same_waiting)
