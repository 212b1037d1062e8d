-- The lists in which tasks wait: who waits in one is a task, and at boot nobody does. Nor does a place of a buffer name anybody
-- then.
use Rattle.std.proofs.Common.{◌≡◌, ◌∙◌, ℕ, zero, suc, ◌<◌, List, [], ◌∷◌, None, length, get_or, map, refl, replicate, ap, subst}
use Rattle.std.proofs.Common.{inl, inr}
use Rattle.std.specs.Prelude.{All}
use Rattle.std.proofs.lemmas.Bool.{cases_lt}
use Rattle.std.proofs.lemmas.List.{get_or_past}
use Rattle.std.proofs.lemmas.List.Elements.{All-nil, All-push, All-get_or}
use Rattle.rd_queue.specs.declared.waiting_list.WaitingList.{WaitingList}
use Rattle.rd_queue.specs.declared.waiting_list.WaitingList.TheVariants.{Receiving, Sending}
use Rattle.rd_queue.specs.Queues.{tasks_in_list}
use Rattle.rd_queue.specs.Sizes.{IsSizedList}
use Rattle.rd_app.specs.QueueSetShapeView.{QueueSetShapeView}
use Rattle.rd_group.specs.Groups.{empty_group}
use Rattle.rd_app.specs.declared.objects.MessageShape.{MessageShape}
use Rattle.rd_app.specs.declared.objects.StreamShape.{StreamShape}
use Rattle.rd_stream.specs.Holders.{holder_of, no_holders}
use Rattle.rd_stream.specs.declared.side.Side.{Side}
use Rattle.rd_stream.specs.declared.side.Side.TheVariants.{Reader, Writer}
use Rattle.rd_state.specs.declared.phase.Held.{Held}
use Rattle.rd_state.specs.declared.phase.Held.TheVariants.{Stream, Message}
use Rattle.rd_app.specs.Application.{Application}
use Rattle.rd_state.specs.declared.phase.Listed.{Listed}
use Rattle.rd_state.specs.declared.phase.Listed.TheVariants.{Queue, QueueSet, Group}
use Rattle.rd_state.specs.Boot.{before_scheduling}
use Rattle.rd_state.specs.Objects.{IsQueueFor, first_queues, new_message_buffer, new_queue, new_queue_set, new_stream, no_message_buffer, no_queue}
use Rattle.rd_state.specs.Objects.{no_group, no_queue_set, no_stream}
use Rattle.rd_state.specs.Sizes.{IsSized}
use Rattle.rd_state.specs.Snapshot.{Snapshot, group_at, queue_at, queue_set_at}
use Rattle.rd_state.specs.Waiting.{HasList, holder_at, waiting_at}
use Rattle.rd_state.proofs.ObjectLaws.{group_in_sized, queue_in_sized, queue_set_in_sized}

-- A queue of the state has its sizes.
pub queue_sized : (s : Snapshot) (queue : ℕ) → IsSized s → queue < length s.objects.queues
    → IsQueueFor (length s.tasks) (length s.objects.queue_sets) (queue_at s queue)
queue_sized s queue sized there = queue_in_sized (length s.tasks) s.objects queue sized.objects there

-- Those who wait in a list are tasks, and no more than there are.
pub IsSizedList-waiting_at : (s : Snapshot) (place : Listed) → IsSized s → HasList s place → IsSizedList (length s.tasks) (waiting_at s place)
IsSizedList-waiting_at s (Queue queue Receiving) sized there =
    let here = queue_sized s queue sized there in
    subst (λ n. IsSizedList n (queue_at s queue).receiving) here.1 here.0.receiving
IsSizedList-waiting_at s (Queue queue Sending) sized there =
    let here = queue_sized s queue sized there in
    subst (λ n. IsSizedList n (queue_at s queue).sending) here.1 here.0.sending
IsSizedList-waiting_at s (QueueSet queue_set) sized there =
    let here = queue_set_in_sized (length s.tasks) s.objects queue_set sized.objects there in
    subst (λ n. IsSizedList n (queue_set_at s queue_set).waiting) here.1 here.0.waiting
IsSizedList-waiting_at s (Group group) sized there =
    let here = group_in_sized (length s.tasks) s.objects group sized.objects there in
    subst (λ n. IsSizedList n (group_at s group).waiting) here.1 here.0.waiting

-- Nobody waits in either list of a new queue.
nobody_waits : (app : Application) (list : WaitingList) (n : ℕ) → All (λ queue. tasks_in_list list queue ≡ []) (first_queues app n)
nobody_waits app list zero = All-nil (λ queue. tasks_in_list list queue ≡ [])
nobody_waits app Receiving (suc n) =
    All-push (λ queue. tasks_in_list Receiving queue ≡ []) (first_queues app n) (new_queue app n) (nobody_waits app Receiving n) refl
nobody_waits app Sending (suc n) =
    All-push (λ queue. tasks_in_list Sending queue ≡ []) (first_queues app n) (new_queue app n) (nobody_waits app Sending n) refl

-- what stands for a queue that isn't there
nobody_waits_nowhere : (list : WaitingList) → tasks_in_list list no_queue ≡ []
nobody_waits_nowhere Receiving = refl
nobody_waits_nowhere Sending = refl

nobody_waits_at : (app : Application) (list : WaitingList) (queue n : ℕ) → tasks_in_list list (get_or (first_queues app n) queue no_queue) ≡ []
nobody_waits_at app list queue n = elim (cases_lt queue (length (first_queues app n))) [
  | inl there ↦ All-get_or (λ queue. tasks_in_list list queue ≡ []) (first_queues app n) queue no_queue there (nobody_waits app list n)
  | inr past ↦ ap (tasks_in_list list) (get_or_past (first_queues app n) queue no_queue past) ∙ nobody_waits_nowhere list
]

nobody_selects : (task_count queue_count : ℕ) (shapes : List QueueSetShapeView) (queue_set : ℕ) → (get_or (map (new_queue_set task_count queue_count) shapes) queue_set no_queue_set).waiting ≡ []
nobody_selects task_count queue_count [] queue_set = refl
nobody_selects task_count queue_count (shape ∷ shapes) zero = refl
nobody_selects task_count queue_count (shape ∷ shapes) (suc queue_set) = nobody_selects task_count queue_count shapes queue_set

nobody_at_group : (task_count n group : ℕ) → (get_or (replicate n (empty_group task_count)) group no_group).waiting ≡ []
nobody_at_group task_count zero group = refl
nobody_at_group task_count (suc n) zero = refl
nobody_at_group task_count (suc n) (suc group) = nobody_at_group task_count n group

pub waiting_at-before_scheduling : (app : Application) (place : Listed) → waiting_at (before_scheduling app) place ≡ []
waiting_at-before_scheduling app (Queue queue list) = nobody_waits_at app list queue (length app.objects.queues)
waiting_at-before_scheduling app (QueueSet queue_set) = nobody_selects (length app.tasks) (length app.objects.queues) app.objects.queue_sets queue_set
waiting_at-before_scheduling app (Group group) = nobody_at_group (length app.tasks) (length app.objects.groups) group

-- Nobody is named by the places of a new buffer, whichever side.
nobody_named : (side : Side) (task_count : ℕ) → holder_of side (no_holders task_count) ≡ None
nobody_named Reader task_count = refl
nobody_named Writer task_count = refl

nobody_at_stream : (side : Side) (task_count : ℕ) (shapes : List StreamShape) (stream : ℕ)
    → holder_of side (get_or (map (new_stream task_count) shapes) stream no_stream).holders ≡ None
nobody_at_stream side task_count [] stream = nobody_named side 0
nobody_at_stream side task_count (shape ∷ shapes) zero = nobody_named side task_count
nobody_at_stream side task_count (shape ∷ shapes) (suc stream) = nobody_at_stream side task_count shapes stream

nobody_at_message_buffer : (side : Side) (task_count : ℕ) (shapes : List MessageShape) (message : ℕ)
    → holder_of side (get_or (map (new_message_buffer task_count) shapes) message no_message_buffer).holders ≡ None
nobody_at_message_buffer side task_count [] message = nobody_named side 0
nobody_at_message_buffer side task_count (shape ∷ shapes) zero = nobody_named side task_count
nobody_at_message_buffer side task_count (shape ∷ shapes) (suc message) = nobody_at_message_buffer side task_count shapes message

pub holder_at-before_scheduling : (app : Application) (held : Held) → holder_at (before_scheduling app) held ≡ None
holder_at-before_scheduling app (Stream stream side) = nobody_at_stream side (length app.tasks) app.objects.streams stream
holder_at-before_scheduling app (Message message side) = nobody_at_message_buffer side (length app.tasks) app.objects.messages message
