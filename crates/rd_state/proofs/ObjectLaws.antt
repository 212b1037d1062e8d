-- The objects of the kernel: a change of one is undone by its inverse and keeps sizes and numbers, and those of boot have
-- the sizes of the application.
use Rattle.std.proofs.Common.{◌≡◌, ◌∙◌, ℕ, zero, suc, ◌+◌, ◌<◌, ◌≤◌, List, [], ◌∷◌, ◌++◌, length, get_or, map, set, take, Option, Some, None}
use Rattle.std.proofs.Common.{refl, ap, sym, subst, arith}
use Rattle.std.specs.Prelude.{All, IfSome, nat_eq}
use Rattle.std.specs.List.{list_any}
use Rattle.std.proofs.lemmas.Bool.Decides.{nat_tests}
use Rattle.std.proofs.lemmas.List.Quantifiers.{position-Some}
use Rattle.std.proofs.lemmas.List.{get_or-set_same, length-map, length-replicate, length_push, length-set, map-append, take_all, take_more}
use Rattle.rd_group.specs.declared.wish.Wish.{Wish}
use Rattle.std.proofs.lemmas.List.Elements.{All-get_or, All-nil, All-replicate, All-push, All-set, All-map, All-weaker}
use Rattle.rd_group.proofs.Offered.{group_change_is_undone}
use Rattle.rd_group.specs.GroupChanges.{group_applied, group_inverse_of, GroupFits}
use Rattle.rd_group.specs.GroupSnapshot.{GroupSnapshot}
use Rattle.rd_queue.specs.Changes.{queue_applied, queue_inverse_of, QueueFits}
use Rattle.rd_queue.specs.QueueSnapshot.{QueueSnapshot}
use Rattle.rd_queue.specs.QueueSetChanges.{queue_set_applied, queue_set_inverse_of, QueueSetFits}
use Rattle.rd_queue.specs.QueueSetSnapshot.{QueueSetSnapshot}
use Rattle.rd_queue.proofs.Offered.{queue_change_is_undone, queue_set_change_is_undone}
use Rattle.rd_stream.specs.MessageChanges.{message_applied, message_inverse_of, MessageFits}
use Rattle.rd_stream.specs.MessageSnapshot.{MessageSnapshot}
use Rattle.rd_stream.specs.StreamChanges.{stream_applied, stream_inverse_of, StreamFits}
use Rattle.rd_stream.specs.StreamSnapshot.{StreamSnapshot}
use Rattle.rd_stream.proofs.Offered.{message_change_is_undone, stream_change_is_undone}
use Rattle.rd_group.specs.Groups.{empty_group}
use Rattle.rd_app.specs.declared.objects.MessageShape.{MessageShape}
use Rattle.rd_app.specs.declared.objects.StreamShape.{StreamShape}
use Rattle.rd_app.specs.QueueSetShapeView.{QueueSetShapeView}
use Rattle.rd_app.specs.declared.objects.QueueShape.{QueueShape}
use Rattle.rd_app.specs.Application.{Application, IsApplication}
use Rattle.rd_app.specs.Objects.{IsMessageShape, IsQueueShape, IsQueueSetShape, IsStreamShape, queue_set_at_boot, shape_at}
use Rattle.rd_wait.proofs.Offered.{replaced_back}
use Rattle.rd_state.specs.Objects.{ObjectChange}
use Rattle.rd_state.specs.Objects.{Queue, QueueSet, Stream, Message, Group}
use Rattle.rd_state.specs.Objects.{ObjectsSnapshot, no_group, no_message_buffer, no_queue, no_queue_set, no_stream, numbers_in, group_in, message_in, queue_in, queue_set_in, stream_in}
use Rattle.rd_state.specs.Objects.{IsGroupFor, IsMessageBufferFor, IsStreamFor, new_message_buffer, new_stream, size_of_message_buffer, size_of_stream, trigger_taken}
use Rattle.rd_state.specs.Objects.{AreShaped, AreSizedObjects, Shapes, shapes_in, shapes_asked, IsQueueFor, IsQueueSetFor, first_queues, new_objects, new_queue, new_queue_set, capacity_of, shape_of}
use Rattle.rd_state.specs.Objects.{object_applied, object_inverse_of, ObjectFits}

-- Each object has its sizes.
pub queue_in_sized : (task_count : ℕ) (o : ObjectsSnapshot) (queue : ℕ) → AreSizedObjects task_count o → queue < length o.queues
    → IsQueueFor task_count (length o.queue_sets) (queue_in o queue)
queue_in_sized task_count o queue sized there = All-get_or (IsQueueFor task_count (length o.queue_sets)) o.queues queue no_queue there sized.queues

pub queue_set_in_sized : (task_count : ℕ) (o : ObjectsSnapshot) (queue_set : ℕ) → AreSizedObjects task_count o → queue_set < length o.queue_sets
    → IsQueueSetFor task_count (length o.queues) (queue_set_in o queue_set)
queue_set_in_sized task_count o queue_set sized there = All-get_or (IsQueueSetFor task_count (length o.queues)) o.queue_sets queue_set no_queue_set there sized.queue_sets

pub stream_in_sized : (task_count : ℕ) (o : ObjectsSnapshot) (stream : ℕ) → AreSizedObjects task_count o → stream < length o.streams
    → IsStreamFor task_count (stream_in o stream)
stream_in_sized task_count o stream sized there = All-get_or (IsStreamFor task_count) o.streams stream no_stream there sized.streams

pub message_in_sized : (task_count : ℕ) (o : ObjectsSnapshot) (message : ℕ) → AreSizedObjects task_count o → message < length o.messages
    → IsMessageBufferFor task_count (message_in o message)
message_in_sized task_count o message sized there = All-get_or (IsMessageBufferFor task_count) o.messages message no_message_buffer there sized.messages

pub group_in_sized : (task_count : ℕ) (o : ObjectsSnapshot) (group : ℕ) → AreSizedObjects task_count o → group < length o.groups
    → IsGroupFor task_count (group_in o group)
group_in_sized task_count o group sized there = All-get_or (IsGroupFor task_count) o.groups group no_group there sized.groups

-- A change is undone by its inverse,
pub object_back : (task_count : ℕ) (o : ObjectsSnapshot) (change : ObjectChange) → AreSizedObjects task_count o → ObjectFits o change
    → object_applied (object_applied o change) (object_inverse_of o change) ≡ o
object_back task_count o (Queue queue change) sized fits =
    let was = queue_in o queue in
    let back = (queue_change_is_undone was change (queue_in_sized task_count o queue sized fits.0).0 fits.1).back in
    ap (λ (queues : List QueueSnapshot). record o { queues = queues })
    (replaced_back o.queues queue no_queue (queue_applied was change) (λ q. queue_applied q (queue_inverse_of was change)) fits.0 back)
object_back task_count o (QueueSet number change) sized fits =
    let was = queue_set_in o number in
    let back = (queue_set_change_is_undone was change (queue_set_in_sized task_count o number sized fits.0).0 fits.1).back in
    ap (λ (queue_sets : List QueueSetSnapshot). record o { queue_sets = queue_sets })
    (replaced_back o.queue_sets number no_queue_set (queue_set_applied was change) (λ q. queue_set_applied q (queue_set_inverse_of was change)) fits.0 back)
object_back task_count o (Stream number change) sized fits =
    let was = stream_in o number in
    let back = (stream_change_is_undone was change (stream_in_sized task_count o number sized fits.0).0 fits.1).back in
    ap (λ (streams : List StreamSnapshot). record o { streams = streams })
    (replaced_back o.streams number no_stream (stream_applied was change) (λ b. stream_applied b (stream_inverse_of was change)) fits.0 back)
object_back task_count o (Message number change) sized fits =
    let was = message_in o number in
    let back = (message_change_is_undone was change (message_in_sized task_count o number sized fits.0).0 fits.1).back in
    ap (λ (messages : List MessageSnapshot). record o { messages = messages })
    (replaced_back o.messages number no_message_buffer (message_applied was change) (λ b. message_applied b (message_inverse_of was change)) fits.0 back)
object_back task_count o (Group number change) sized fits =
    let was = group_in o number in
    let back = (group_change_is_undone was change (group_in_sized task_count o number sized fits.0).0 fits.1).back in
    ap (λ (groups : List GroupSnapshot). record o { groups = groups })
    (replaced_back o.groups number no_group (group_applied was change) (λ g. group_applied g (group_inverse_of was change)) fits.0 back)

-- which fits: it finds what stands in the place of what was there.
replaced_fits : {X : Type 0} (xs : List X) (i : ℕ) (d y : X) (FitsNext : X → Type 0) → i < length xs → FitsNext y
    → (i < length (set xs i y)) × FitsNext (get_or (set xs i y) i d)
replaced_fits xs i d y FitsNext there fits =
    (omega (arith, length-set xs i y, there), subst FitsNext (sym (get_or-set_same xs i y d there)) fits)

pub object_fits : (task_count : ℕ) (o : ObjectsSnapshot) (change : ObjectChange) → AreSizedObjects task_count o → ObjectFits o change
    → ObjectFits (object_applied o change) (object_inverse_of o change)
object_fits task_count o (Queue queue change) sized fits =
    let was = queue_in o queue in
    replaced_fits o.queues queue no_queue (queue_applied was change) (λ q. QueueFits q (queue_inverse_of was change)) fits.0
    (queue_change_is_undone was change (queue_in_sized task_count o queue sized fits.0).0 fits.1).fits
object_fits task_count o (QueueSet number change) sized fits =
    let was = queue_set_in o number in
    replaced_fits o.queue_sets number no_queue_set (queue_set_applied was change) (λ q. QueueSetFits q (queue_set_inverse_of was change)) fits.0
    (queue_set_change_is_undone was change (queue_set_in_sized task_count o number sized fits.0).0 fits.1).fits
object_fits task_count o (Stream number change) sized fits =
    let was = stream_in o number in
    replaced_fits o.streams number no_stream (stream_applied was change) (λ b. StreamFits b (stream_inverse_of was change)) fits.0
    (stream_change_is_undone was change (stream_in_sized task_count o number sized fits.0).0 fits.1).fits
object_fits task_count o (Message number change) sized fits =
    let was = message_in o number in
    replaced_fits o.messages number no_message_buffer (message_applied was change) (λ b. MessageFits b (message_inverse_of was change)) fits.0
    (message_change_is_undone was change (message_in_sized task_count o number sized fits.0).0 fits.1).fits
object_fits task_count o (Group number change) sized fits =
    let was = group_in o number in
    replaced_fits o.groups number no_group (group_applied was change) (λ g. GroupFits g (group_inverse_of was change)) fits.0
    (group_change_is_undone was change (group_in_sized task_count o number sized fits.0).0 fits.1).fits

-- keeps the sizes,
pub object_sized : (task_count : ℕ) (o : ObjectsSnapshot) (change : ObjectChange) → AreSizedObjects task_count o → ObjectFits o change
    → AreSizedObjects task_count (object_applied o change)
object_sized task_count o (Queue queue change) sized fits =
    let was = queue_in_sized task_count o queue sized fits.0 in
    let law = queue_change_is_undone (queue_in o queue) change was.0 fits.1 in
    let now = queue_applied (queue_in o queue) change in
    record {
      queues = All-set (IsQueueFor task_count (length o.queue_sets)) o.queues queue now (law.sized, law.task_count ∙ was.1, law.queue_set_count ∙ was.2) sized.queues;
      few_queues = omega (arith, length-set o.queues queue now, sized.few_queues);
      queue_sets = subst (λ n. All (IsQueueSetFor task_count n) o.queue_sets) (sym (length-set o.queues queue now)) sized.queue_sets;
      few_queue_sets = sized.few_queue_sets;
      streams = sized.streams;
      few_streams = sized.few_streams;
      messages = sized.messages;
      few_messages = sized.few_messages;
      groups = sized.groups;
      few_groups = sized.few_groups;
    }
object_sized task_count o (QueueSet number change) sized fits =
    let was = queue_set_in_sized task_count o number sized fits.0 in
    let law = queue_set_change_is_undone (queue_set_in o number) change was.0 fits.1 in
    let now = queue_set_applied (queue_set_in o number) change in
    record {
      queues = subst (λ n. All (IsQueueFor task_count n) o.queues) (sym (length-set o.queue_sets number now)) sized.queues;
      few_queues = sized.few_queues;
      queue_sets = All-set (IsQueueSetFor task_count (length o.queues)) o.queue_sets number now (law.sized, law.task_count ∙ was.1, law.queue_count ∙ was.2) sized.queue_sets;
      few_queue_sets = omega (arith, length-set o.queue_sets number now, sized.few_queue_sets);
      streams = sized.streams;
      few_streams = sized.few_streams;
      messages = sized.messages;
      few_messages = sized.few_messages;
      groups = sized.groups;
      few_groups = sized.few_groups;
    }
object_sized task_count o (Stream number change) sized fits =
    let was = stream_in_sized task_count o number sized fits.0 in
    let law = stream_change_is_undone (stream_in o number) change was.0 fits.1 in
    let now = stream_applied (stream_in o number) change in
    record {
      queues = sized.queues;
      few_queues = sized.few_queues;
      queue_sets = sized.queue_sets;
      few_queue_sets = sized.few_queue_sets;
      streams = All-set (IsStreamFor task_count) o.streams number now (law.sized, law.task_count ∙ was.1) sized.streams;
      few_streams = omega (arith, length-set o.streams number now, sized.few_streams);
      messages = sized.messages;
      few_messages = sized.few_messages;
      groups = sized.groups;
      few_groups = sized.few_groups;
    }
object_sized task_count o (Message number change) sized fits =
    let was = message_in_sized task_count o number sized fits.0 in
    let law = message_change_is_undone (message_in o number) change was.0 fits.1 in
    let now = message_applied (message_in o number) change in
    record {
      queues = sized.queues;
      few_queues = sized.few_queues;
      queue_sets = sized.queue_sets;
      few_queue_sets = sized.few_queue_sets;
      streams = sized.streams;
      few_streams = sized.few_streams;
      messages = All-set (IsMessageBufferFor task_count) o.messages number now (law.sized, law.task_count ∙ was.1) sized.messages;
      few_messages = omega (arith, length-set o.messages number now, sized.few_messages);
      groups = sized.groups;
      few_groups = sized.few_groups;
    }
object_sized task_count o (Group number change) sized fits =
    let was = group_in_sized task_count o number sized fits.0 in
    let law = group_change_is_undone (group_in o number) change was.0 fits.1 in
    let now = group_applied (group_in o number) change in
    record {
      queues = sized.queues;
      few_queues = sized.few_queues;
      queue_sets = sized.queue_sets;
      few_queue_sets = sized.few_queue_sets;
      streams = sized.streams;
      few_streams = sized.few_streams;
      messages = sized.messages;
      few_messages = sized.few_messages;
      groups = All-set (IsGroupFor task_count) o.groups number now (law.sized, law.task_count ∙ was.1) sized.groups;
      few_groups = omega (arith, length-set o.groups number now, sized.few_groups);
    }

-- and the numbers of objects.
pub object_numbers : (o : ObjectsSnapshot) (change : ObjectChange) → numbers_in (object_applied o change) ≡ numbers_in o
object_numbers o (Queue queue change) = ap (λ (count : ℕ). record (numbers_in o) { queue_count = count }) (length-set o.queues queue _)
object_numbers o (QueueSet number change) = ap (λ (count : ℕ). record (numbers_in o) { queue_set_count = count }) (length-set o.queue_sets number _)
object_numbers o (Stream number change) = ap (λ (count : ℕ). record (numbers_in o) { stream_count = count }) (length-set o.streams number _)
object_numbers o (Message number change) = ap (λ (count : ℕ). record (numbers_in o) { message_count = count }) (length-set o.messages number _)
object_numbers o (Group number change) = ap (λ (count : ℕ). record (numbers_in o) { group_count = count }) (length-set o.groups number _)

-- The set of a queue is there.
no_shape : QueueSetShapeView
no_shape = record { capacity = 0; members = [] }

queue_set_at_boot-there : (app : Application) (queue : ℕ) → IfSome (queue_set_at_boot app.objects queue) (λ queue_set. queue_set < length app.objects.queue_sets)
queue_set_at_boot-there app queue = by_case (queue_set_at_boot app.objects queue) refl
  where
    by_case : (o : Option ℕ) → queue_set_at_boot app.objects queue ≡ o → IfSome o (λ queue_set. queue_set < length app.objects.queue_sets)
    by_case None e = tt
    by_case (Some queue_set) e = (position-Some (λ (s : QueueSetShapeView). list_any (nat_eq queue) s.members) app.objects.queue_sets queue_set no_shape e).0

-- Nobody waits at a new queue, and it has no items.
IsQueueFor-new_queue : (app : Application) (queue task_count queue_set_count : ℕ) → IsApplication app → queue < length app.objects.queues
    → task_count ≡ length app.tasks → queue_set_count ≡ length app.objects.queue_sets → IsQueueFor task_count queue_set_count (new_queue app queue)
IsQueueFor-new_queue app queue task_count queue_set_count limits there same_task_count same_queue_set_count =
    let shape : IsQueueShape (shape_at app.objects queue) = All-get_or IsQueueShape app.objects.queues queue _ there limits.objects.queues in (
      record {
        room = omega arith;
        items = All-nil (λ (item : List ℕ). length item ≡ (shape_at app.objects queue).item_size);
        some_capacity = shape.0;
        few = shape.1;
        some_bytes = shape.2;
        small = shape.3;
        receiving = (All-nil (λ task. task < length app.tasks), omega arith);
        sending = (All-nil (λ task. task < length app.tasks), omega arith);
        queue_set = queue_set_at_boot-there app queue;
      },
      sym same_task_count,
      sym same_queue_set_count,
    )

IsQueueFor-first_queues : (app : Application) (n task_count queue_set_count : ℕ) → IsApplication app → n ≤ length app.objects.queues → task_count ≡ length app.tasks
    → queue_set_count ≡ length app.objects.queue_sets → All (IsQueueFor task_count queue_set_count) (first_queues app n)
IsQueueFor-first_queues app zero task_count queue_set_count limits few same_task_count same_queue_set_count = All-nil (IsQueueFor task_count queue_set_count)
IsQueueFor-first_queues app (suc n) task_count queue_set_count limits few same_task_count same_queue_set_count =
    All-push (IsQueueFor task_count queue_set_count) (first_queues app n) (new_queue app n)
    (IsQueueFor-first_queues app n task_count queue_set_count limits (omega (arith, few)) same_task_count same_queue_set_count)
    (IsQueueFor-new_queue app n task_count queue_set_count limits (omega (arith, few)) same_task_count same_queue_set_count)

pub length-first_queues : (app : Application) (n : ℕ) → length (first_queues app n) ≡ n
length-first_queues app zero = refl
length-first_queues app (suc n) = omega (arith, length_push (first_queues app n) (new_queue app n), length-first_queues app n)

-- Nobody waits at a new set, and it has no handles.
IsQueueSetFor-new_queue_set : (app : Application) (n queue_count task_count : ℕ) (shape : QueueSetShapeView) → n ≡ task_count → IsQueueSetShape app.objects shape
    → IsQueueSetFor task_count queue_count (new_queue_set n queue_count shape)
IsQueueSetFor-new_queue_set app n queue_count task_count shape same limits = (
  record {
    room = omega arith;
    handles = All-nil (λ queue. queue < queue_count);
    some_capacity = limits.some;
    few = limits.few;
    waiting = (All-nil (λ task. task < n), omega arith);
  },
  same,
  refl,
)

-- Nobody is named by the places of a new buffer, and it has nothing in it.
trigger_taken-fits : (trigger capacity : ℕ) → 0 < capacity → trigger ≤ capacity → (0 < trigger_taken trigger) × (trigger_taken trigger ≤ capacity)
trigger_taken-fits trigger capacity some within = (grind (arith, nat_tests), grind (arith, nat_tests, some, within))

IsStreamFor-new_stream : (n task_count : ℕ) (shape : StreamShape) → n ≡ task_count → IsStreamShape shape → IsStreamFor task_count (new_stream n shape)
IsStreamFor-new_stream n task_count shape same limits =
    let trigger = trigger_taken-fits shape.trigger shape.capacity limits.0 limits.2 in (
      record {
        room = omega arith;
        few = limits.1;
        some_trigger = trigger.0;
        trigger = trigger.1;
        holders = record { reader = tt; writer = tt };
      },
      same,
    )

IsMessageBufferFor-new : (n task_count : ℕ) (shape : MessageShape) → n ≡ task_count → IsMessageShape shape → IsMessageBufferFor task_count (new_message_buffer n shape)
IsMessageBufferFor-new n task_count shape same limits = (
  record {
    room = omega arith;
    messages = All-nil (λ (message : List ℕ). 0 < length message);
    few = limits.1;
    holders = record { reader = tt; writer = tt };
  },
  same,
)

-- Nobody waits at a new event group, and it has no bits.
IsGroupFor-empty : (n task_count : ℕ) → n ≡ task_count → n ≤ 32 → IsGroupFor task_count (empty_group n)
IsGroupFor-empty n task_count same few = (
  record {
    bits = omega arith;
    waiting = (All-nil (λ task. task < n), omega arith);
    same_length = refl;
    wishes = All-nil (λ (wish : Wish). wish.bits ≤ 16777215);
    few = few;
  },
  same,
)

-- the objects of a new state, at which so many tasks can wait
pub AreSizedObjects-new : (app : Application) (task_count : ℕ) → IsApplication app → task_count ≡ length app.tasks
    → AreSizedObjects task_count (new_objects app)
AreSizedObjects-new app task_count limits same =
    let n = length app.objects.queues in
    let made = new_queue_set (length app.tasks) n in
    let IsMade : QueueSetSnapshot → Type 0 = IsQueueSetFor task_count n in
    let queue_sets : All IsMade (map made app.objects.queue_sets) =
    All-map IsMade made app.objects.queue_sets
    (All-weaker (IsQueueSetShape app.objects) (λ q. IsMade (made q)) (λ q h. IsQueueSetFor-new_queue_set app (length app.tasks) n task_count q (sym same) h)
    app.objects.queue_sets limits.objects.queue_sets) in
    let stream = new_stream (length app.tasks) in
    let message = new_message_buffer (length app.tasks) in
    let group = empty_group (length app.tasks) in
    record {
      queues = IsQueueFor-first_queues app n task_count (length (map made app.objects.queue_sets)) limits (omega arith) same (length-map app.objects.queue_sets made);
      few_queues = omega (arith, length-first_queues app n, limits.objects.few_queues);
      queue_sets = subst (λ q. All (IsQueueSetFor task_count q) (map made app.objects.queue_sets)) (sym (length-first_queues app n)) queue_sets;
      few_queue_sets = omega (arith, length-map app.objects.queue_sets made, limits.objects.few_queue_sets);
      streams = All-map (IsStreamFor task_count) stream app.objects.streams
          (All-weaker IsStreamShape (λ b. IsStreamFor task_count (stream b)) (λ b h. IsStreamFor-new_stream (length app.tasks) task_count b (sym same) h)
          app.objects.streams limits.objects.streams);
      few_streams = omega (arith, length-map app.objects.streams stream, limits.objects.few_streams);
      messages = All-map (IsMessageBufferFor task_count) message app.objects.messages
          (All-weaker IsMessageShape (λ b. IsMessageBufferFor task_count (message b))
          (λ b h. IsMessageBufferFor-new (length app.tasks) task_count b (sym same) h) app.objects.messages limits.objects.messages);
      few_messages = omega (arith, length-map app.objects.messages message, limits.objects.few_messages);
      groups = All-replicate (IsGroupFor task_count) (length app.objects.groups) group
          (IsGroupFor-empty (length app.tasks) task_count (sym same) limits.few_tasks);
      few_groups = omega (arith, length-replicate (length app.objects.groups) group, limits.objects.few_groups);
    }

-- the shapes of the queues so far
shape_of-first_queues : (app : Application) (n : ℕ) → n ≤ length app.objects.queues → map shape_of (first_queues app n) ≡ take n app.objects.queues
shape_of-first_queues app zero few = refl
shape_of-first_queues app (suc n) few =
    map-append shape_of (first_queues app n) (new_queue app n ∷ [])
    ∙ ap (λ before. before ++ shape_at app.objects n ∷ []) (shape_of-first_queues app n (omega (arith, few)))
    ∙ sym (take_more app.objects.queues n (record { capacity = 0; item_size = 0 }) (omega (arith, few)))
    ∙ ap (λ k. take k app.objects.queues) (let one_more : n + 1 ≡ suc n = omega arith in one_more)

capacity_of-new_queue_sets : (task_count queue_count : ℕ) (shapes : List QueueSetShapeView)
    → map capacity_of (map (new_queue_set task_count queue_count) shapes) ≡ map (λ (shape : QueueSetShapeView). shape.capacity) shapes
capacity_of-new_queue_sets task_count queue_count [] = refl
capacity_of-new_queue_sets task_count queue_count (shape ∷ shapes) = ap (λ rest. shape.capacity ∷ rest) (capacity_of-new_queue_sets task_count queue_count shapes)

size-new_streams : (task_count : ℕ) (shapes : List StreamShape)
    → map size_of_stream (map (new_stream task_count) shapes) ≡ map (λ (shape : StreamShape). shape.capacity) shapes
size-new_streams task_count [] = refl
size-new_streams task_count (shape ∷ shapes) = ap (λ rest. shape.capacity ∷ rest) (size-new_streams task_count shapes)

size-new_message_buffers : (task_count : ℕ) (shapes : List MessageShape)
    → map size_of_message_buffer (map (new_message_buffer task_count) shapes) ≡ map (λ (shape : MessageShape). shape.capacity) shapes
size-new_message_buffers task_count [] = refl
size-new_message_buffers task_count (shape ∷ shapes) = ap (λ rest. shape.capacity ∷ rest) (size-new_message_buffers task_count shapes)

-- There are as many as the application names.
pub queue_count_shaped : (app : Application) (o : ObjectsSnapshot) → AreShaped app o → length o.queues ≡ length app.objects.queues
queue_count_shaped app o shaped = sym (length-map o.queues shape_of) ∙ ap (λ (shapes : Shapes). length shapes.queues) shaped

pub queue_set_count_shaped : (app : Application) (o : ObjectsSnapshot) → AreShaped app o → length o.queue_sets ≡ length app.objects.queue_sets
queue_set_count_shaped app o shaped =
    sym (length-map o.queue_sets capacity_of) ∙ ap (λ (shapes : Shapes). length shapes.queue_sets) shaped
    ∙ length-map app.objects.queue_sets (λ (queue_set : QueueSetShapeView). queue_set.capacity)

pub stream_count_shaped : (app : Application) (o : ObjectsSnapshot) → AreShaped app o → length o.streams ≡ length app.objects.streams
stream_count_shaped app o shaped =
    sym (length-map o.streams size_of_stream) ∙ ap (λ (shapes : Shapes). length shapes.streams) shaped
    ∙ length-map app.objects.streams (λ (stream : StreamShape). stream.capacity)

pub message_count_shaped : (app : Application) (o : ObjectsSnapshot) → AreShaped app o → length o.messages ≡ length app.objects.messages
message_count_shaped app o shaped =
    sym (length-map o.messages size_of_message_buffer) ∙ ap (λ (shapes : Shapes). length shapes.messages) shaped
    ∙ length-map app.objects.messages (λ (message : MessageShape). message.capacity)

pub group_count_shaped : (app : Application) (o : ObjectsSnapshot) → AreShaped app o → length o.groups ≡ length app.objects.groups
group_count_shaped app o shaped = ap (λ (shapes : Shapes). shapes.groups) shaped

-- The objects of boot have the sizes that the application gives them.
pub AreShaped-new : (app : Application) → AreShaped app (new_objects app)
AreShaped-new app =
    let made = shapes_in (new_objects app) in
    let asked = shapes_asked app.objects in
    let queues = shape_of-first_queues app (length asked.queues) (omega arith) ∙ take_all (length asked.queues) asked.queues (omega arith) in
    let queue_sets = capacity_of-new_queue_sets (length app.tasks) (length asked.queues) app.objects.queue_sets in
    let streams = size-new_streams (length app.tasks) app.objects.streams in
    let messages = size-new_message_buffers (length app.tasks) app.objects.messages in
    ap (λ (qs : List QueueShape). record made { queues = qs }) queues
    ∙ ap (λ (rooms : List ℕ). record made { queues = asked.queues; queue_sets = rooms }) queue_sets
    ∙ ap (λ (sizes : List ℕ). record asked { streams = sizes; messages = made.messages; groups = made.groups }) streams
    ∙ ap (λ (sizes : List ℕ). record asked { messages = sizes; groups = made.groups }) messages
    ∙ ap (λ (count : ℕ). record asked { groups = count }) (length-replicate (length app.objects.groups) (empty_group (length app.tasks)))
