-- A change of a queue set that was put behind bytes is read at their end.
use Rattle.std.proofs.Common.{◌-◌, ℕ, ◌<◌, ◌≤◌, List, length, get_or, refl, ap, arith}
use Rattle.std.proofs.lemmas.List.Elements.{All-get_or}
use Rattle.std.specs.Prelude.{slice_index}
use Rattle.rd_bytes.proofs.Offered.{ComesBack, laid_read}
use Rattle.rd_bytes.specs.Layouts.{FitsLayout, EachRowIsReadBack}
use Rattle.rd_bytes.specs.Tags.{kind_of_list}
use Rattle.rd_queue.specs.declared.queue_set_change.QueueSetChange.{QueueSetChange}
use Rattle.rd_queue.specs.declared.queue_set_change.QueueSetChange.TheVariants.{InsWait, DelWait, PushHandle, DropHandle, TakeHandle, UntakeHandle}
use Rattle.rd_queue.specs.PackedQueueSetChanges.{queue_set_layout}
use Rattle.rd_queue.specs.QueueSetChanges.{queue_set_inverse_of, QueueSetFits}
use Rattle.rd_queue.specs.QueueSetSnapshot.{QueueSetSnapshot}
use Rattle.rd_queue.specs.Sizes.{IsSizedQueueSet}

laid : (queue_set : ℕ) (change : QueueSetChange) → FitsLayout queue_set_layout queue_set change → ComesBack queue_set_layout queue_set change
laid queue_set (InsWait index task) fits = record {
  again = refl;
  count = refl;
  tag = omega arith;
  kind = λ bytes is fields. rw is (ap (λ (f : List ℕ). kind_of_list (slice_index f 0)) fields);
}
laid queue_set (DelWait index) fits = record {
  again = refl;
  count = refl;
  tag = omega arith;
  kind = λ bytes is fields. rw is (ap (λ (f : List ℕ). kind_of_list (slice_index f 0)) fields);
}
laid queue_set (PushHandle queue) fits = record { again = refl; count = refl; tag = omega arith; kind = λ bytes is fields. rw is refl }
laid queue_set DropHandle fits = record { again = refl; count = refl; tag = omega arith; kind = λ bytes is fields. rw is refl }
laid queue_set TakeHandle fits = record { again = refl; count = refl; tag = omega arith; kind = λ bytes is fields. rw is refl }
laid queue_set (UntakeHandle queue) fits = record { again = refl; count = refl; tag = omega arith; kind = λ bytes is fields. rw is refl }

pub queue_set_change_is_read_back : EachRowIsReadBack queue_set_layout
queue_set_change_is_read_back = laid_read queue_set_layout laid

-- What undoes a change of a set fits in its bytes, where there are few tasks and few queues.
pub queue_set_inverse_has_bytes : (n : ℕ) (queue_set : QueueSetSnapshot) (change : QueueSetChange) → n < 256 → IsSizedQueueSet queue_set
    → QueueSetFits queue_set change → queue_set.task_count ≤ 255 → queue_set.queue_count ≤ 255
    → FitsLayout queue_set_layout n (queue_set_inverse_of queue_set change)
queue_set_inverse_has_bytes n queue_set (InsWait index task) small sized fits few few_queues =
    (small, (omega arith, (small, (omega (arith, fits.0, fits.1, few), tt))), tt)
queue_set_inverse_has_bytes n queue_set (DelWait index) small sized fits few few_queues =
    let task : get_or queue_set.waiting index 0 < queue_set.task_count = All-get_or (λ t. t < queue_set.task_count) queue_set.waiting index 0 fits sized.waiting.0 in
    (small, (omega arith, (small, (omega (arith, fits, sized.waiting.1, few), (omega (arith, task, few), tt)))), tt)
queue_set_inverse_has_bytes n queue_set (PushHandle queue) small sized fits few few_queues = (small, (small, tt), tt)
queue_set_inverse_has_bytes n queue_set DropHandle small sized fits few few_queues =
    let last = length queue_set.handles - 1 in
    (small, (small, (omega (arith, All-get_or (λ q. q < queue_set.queue_count) queue_set.handles last 0 (omega (arith, fits)) sized.handles, few_queues), tt)), tt)
queue_set_inverse_has_bytes n queue_set TakeHandle small sized fits few few_queues =
    (small, (small, (omega (arith, All-get_or (λ q. q < queue_set.queue_count) queue_set.handles 0 0 fits sized.handles, few_queues), tt)), tt)
queue_set_inverse_has_bytes n queue_set (UntakeHandle queue) small sized fits few few_queues = (small, (small, tt), tt)
