-- What edits change of objects is none of their shapes, of who waits where, and of whom a place names.
use Rattle.std.proofs.Common.{◌≡◌, List, ap, refl, ℕ}
use Rattle.std.proofs.lemmas.List.{length-set}
use Rattle.rd_app.specs.declared.objects.QueueShape.{QueueShape}
use Rattle.rd_group.specs.GroupSnapshot.{GroupSnapshot}
use Rattle.rd_group.specs.Groups.{with_bits}
use Rattle.rd_queue.specs.QueueSnapshot.{QueueSnapshot}
use Rattle.rd_queue.specs.Queues.{tasks_in_list, with_items}
use Rattle.rd_queue.specs.declared.waiting_list.WaitingList.{WaitingList}
use Rattle.rd_queue.specs.declared.waiting_list.WaitingList.TheVariants.{Receiving, Sending}
use Rattle.rd_stream.specs.Holders.{holder_of}
use Rattle.rd_stream.specs.StreamSnapshot.{StreamSnapshot}
use Rattle.rd_stream.specs.Streams.{with_stream_bytes}
use Rattle.rd_state.specs.Objects.{ObjectsSnapshot, group_in, no_group, no_queue, no_stream, objects_with_group, objects_with_queue, objects_with_stream, queue_in}
use Rattle.rd_state.specs.Objects.{shape_of, shapes_in, size_of_stream, stream_in}
use Rattle.rd_state.specs.declared.phase.Held.{Held}
use Rattle.rd_state.specs.declared.phase.Held.TheVariants.{Stream, Message}
use Rattle.rd_state.specs.declared.phase.Listed.{Listed}
use Rattle.rd_state.specs.declared.phase.Listed.TheVariants.{Queue, QueueSet, Group}
use Rattle.rd_state.specs.Waiting.{holder_in, waiting_in, wishes_in}
use Rattle.rd_kernel.proofs.Offered.{ContentsChange, map_same, read_anyway}

-- what each of those who wait waits for
abbrev pub WishesStay : ObjectsSnapshot → ObjectsSnapshot → Type 0
WishesStay o n = (list : Listed) → wishes_in n list ≡ wishes_in o list

-- ---- the bits of an event group

pub bits_contents : (o : ObjectsSnapshot) (group bits : ℕ) → ContentsChange o (objects_with_group o group (with_bits (group_in o group) bits))
bits_contents o group bits = record {
  waiting = waiting;
  holders = named;
  shapes = ap (λ (count : ℕ). record (shapes_in o) { groups = count }) (length-set o.groups group now);
}
  where
    now : GroupSnapshot
    now = with_bits (group_in o group) bits

    waiting : (list : Listed) → waiting_in (objects_with_group o group now) list ≡ waiting_in o list
    waiting (Queue queue list) = refl
    waiting (QueueSet queue_set) = refl
    waiting (Group other) = read_anyway (λ (g : GroupSnapshot). g.waiting) o.groups group other now no_group refl

    named : (held : Held) → holder_in (objects_with_group o group now) held ≡ holder_in o held
    named (Stream stream side) = refl
    named (Message message side) = refl

pub bits_wishes : (o : ObjectsSnapshot) (group bits : ℕ) → WishesStay o (objects_with_group o group (with_bits (group_in o group) bits))
bits_wishes o group bits (Queue queue list) = refl
bits_wishes o group bits (QueueSet queue_set) = refl
bits_wishes o group bits (Group other) =
    read_anyway (λ (g : GroupSnapshot). g.wishes) o.groups group other (with_bits (group_in o group) bits) no_group refl

-- ---- the items of a queue

tasks_stay : (list : WaitingList) (queue : QueueSnapshot) (items : List (List ℕ)) → tasks_in_list list (with_items queue items) ≡ tasks_in_list list queue
tasks_stay Receiving queue items = refl
tasks_stay Sending queue items = refl

pub items_contents : (o : ObjectsSnapshot) (queue : ℕ) (items : List (List ℕ)) → ContentsChange o (objects_with_queue o queue (with_items (queue_in o queue) items))
items_contents o queue items = record {
  waiting = waiting;
  holders = named;
  shapes = ap (λ (qs : List QueueShape). record (shapes_in o) { queues = qs }) (map_same shape_of o.queues queue now no_queue refl);
}
  where
    now : QueueSnapshot
    now = with_items (queue_in o queue) items

    waiting : (list : Listed) → waiting_in (objects_with_queue o queue now) list ≡ waiting_in o list
    waiting (Queue other list) = read_anyway (tasks_in_list list) o.queues queue other now no_queue (tasks_stay list (queue_in o queue) items)
    waiting (QueueSet queue_set) = refl
    waiting (Group group) = refl

    named : (held : Held) → holder_in (objects_with_queue o queue now) held ≡ holder_in o held
    named (Stream stream side) = refl
    named (Message message side) = refl

pub items_wishes : (o : ObjectsSnapshot) (queue : ℕ) (items : List (List ℕ)) → WishesStay o (objects_with_queue o queue (with_items (queue_in o queue) items))
items_wishes o queue items (Queue other list) = refl
items_wishes o queue items (QueueSet queue_set) = refl
items_wishes o queue items (Group group) = refl

-- ---- the bytes of a stream buffer

pub bytes_contents : (o : ObjectsSnapshot) (stream : ℕ) (bytes : List ℕ) → ContentsChange o (objects_with_stream o stream (with_stream_bytes (stream_in o stream) bytes))
bytes_contents o stream bytes = record {
  waiting = waiting;
  holders = named;
  shapes = ap (λ (sizes : List ℕ). record (shapes_in o) { streams = sizes }) (map_same size_of_stream o.streams stream now no_stream refl);
}
  where
    now : StreamSnapshot
    now = with_stream_bytes (stream_in o stream) bytes

    waiting : (list : Listed) → waiting_in (objects_with_stream o stream now) list ≡ waiting_in o list
    waiting (Queue queue list) = refl
    waiting (QueueSet queue_set) = refl
    waiting (Group group) = refl

    named : (held : Held) → holder_in (objects_with_stream o stream now) held ≡ holder_in o held
    named (Stream other side) = read_anyway (λ (b : StreamSnapshot). holder_of side b.holders) o.streams stream other now no_stream refl
    named (Message message side) = refl

pub bytes_wishes : (o : ObjectsSnapshot) (stream : ℕ) (bytes : List ℕ)
    → WishesStay o (objects_with_stream o stream (with_stream_bytes (stream_in o stream) bytes))
bytes_wishes o stream bytes (Queue queue list) = refl
bytes_wishes o stream bytes (QueueSet queue_set) = refl
bytes_wishes o stream bytes (Group group) = refl
