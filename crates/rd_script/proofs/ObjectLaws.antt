-- The objects that are read are those that their file says, within the limits, and what a file says of objects is read.
use Rattle.std.proofs.Common.{◌≡◌, ℕ, ◌≤◌, codes, List, [], ◌∷◌, ◌++◌, length, Option, Some, None, Result, Ok, refl, sym, ap, subst, arith}
use Rattle.std.specs.List.{AllByRecursion}
use Rattle.std.proofs.lemmas.List.Elements.{All-from_recursion, recursion_from_All}
use Rattle.serde_json.specs.Data.{Data, Items, no_items}
use Rattle.serde_json.specs.Events.{items_len}
use Rattle.serde_json.specs.Find.{get}
use Rattle.rd_app.specs.declared.objects.GroupShape.{GroupShape}
use Rattle.rd_script.specs.Named.{Named}
use Rattle.rd_script.proofs.LimitLaws.{AreNamed}
use Rattle.rd_app.specs.Objects.{IsMessageShape, IsQueueShape, IsQueueSetShape, IsStreamShape}
use Rattle.rd_script.specs.Named.{NamedObjects, shapes_of}
use Rattle.rd_script.proofs.LimitLaws.{AreNamedObjects}
use Rattle.rd_text.proofs.Offered.{IsNewName}
use Rattle.rd_script.specs.declared.error.AppError.{AppError}
use Rattle.rd_script.specs.Objects.{IsGroup, IsMessage, IsQueue, IsStream, group_of, message_of, objects_of, queue_of, SaysObjects, SaysQueueSet, queue_set_of, stream_of}
use Rattle.rd_script.specs.Values.{array_or_empty, IsArrayOrEmpty, named_at, nothing_named, SaysNamed}
use Rattle.rd_script.proofs.GroupLaws as group
use Rattle.rd_script.proofs.MessageLaws as message
use Rattle.rd_script.proofs.NamedLaws.{AllByRecursion-first, each_again, each_takes, length_named, named_again, named_take, no_names, said_named}
use Rattle.rd_script.proofs.QueueLaws as queue
use Rattle.rd_script.proofs.QueueSetLaws as queue_set
use Rattle.rd_script.proofs.Steps.{bind_ok, then_is}
use Rattle.rd_script.proofs.StreamLaws as stream
use Rattle.rd_script.proofs.ValueLaws.{array_again, array_ok}

array_or_ok : (most : ℕ) (o : Option Data) (ds : Items) → array_or_empty most o ≡ Ok ds → IsArrayOrEmpty o ds × (items_len ds ≤ most)
array_or_ok most None ds e = let is : no_items ≡ ds = cc in (sym is, omega (arith, ap items_len is))
array_or_ok most (Some d) ds e = let a = array_ok 0 most d ds e in (a.0, a.2)

array_or_again : (most : ℕ) (o : Option Data) (ds : Items) → IsArrayOrEmpty o ds → items_len ds ≤ most → array_or_empty most o ≡ Ok ds
array_or_again most None ds h few = ap Ok (sym h)
array_or_again most (Some d) ds h few = array_again 0 most d ds h (omega arith) few

-- ---- one kind

-- what was read of an array is what it says, each thing has a name of its own, and they are within limits
record AreRead {X : Type 0} (Is : Data → List ℕ → X → Type 0) (InLimits : List X → Type 0) (most : ℕ) (key : List ℕ) (d : Data) (named : Named X)
    : Type 0 where
  said : SaysNamed Is key d named
  named_each : AreNamed named
  few : length named.things ≤ most
  in_limits : InLimits named.things

named_taken : {X : Type 0} (read : Named X → Data → Result (List ℕ × X) AppError) (Is : Data → List ℕ → X → Type 0) (InLimits : List X → Type 0)
    → ((before : Named X) (d : Data) (t : List ℕ × X) → read before d ≡ Ok t → InLimits before.things
    → Is d t.0 t.1 × IsNewName before.names t.0 × InLimits (before.things ++ t.1 ∷ []))
    → InLimits [] → (most : ℕ) (key : List ℕ) (d : Data) (named : Named X) → named_at read most key d ≡ Ok named → AreRead Is InLimits most key d named
named_taken read Is InLimits takes none most key d named e =
    let ds = bind_ok (array_or_empty most (get key d)) _ named e in
    let are = array_or_ok most (get key d) ds.0 ds.1 in
    let taken = named_take read Is InLimits takes ds.0 nothing_named named ds.2 (record { are_names = no_names; are_things = none }) in
    let said = said_named Is ds.0 named taken.0 taken.1 taken.2.names_are taken.2.things_are taken.2.said in
    let sizes = length_named Is ds.0 named.names named.things said in
    record {
      said = (ds.0, are.0, said);
      named_each = record { paired = omega (arith, sizes); names = taken.2.limits.are_names };
      few = omega (arith, are.1, sizes);
      in_limits = taken.2.limits.are_things;
    }

named_read : {X : Type 0} (read : Named X → Data → Result (List ℕ × X) AppError) (Is : Data → List ℕ → X → Type 0) (InLimits : List X → Type 0)
    → ((xs ys : List X) → InLimits (xs ++ ys) → InLimits xs)
    → ((before : Named X) (d : Data) (name : List ℕ) (x : X) → Is d name x → IsNewName before.names name → InLimits (before.things ++ x ∷ [])
    → read before d ≡ Ok (name, x))
    → (most : ℕ) (key : List ℕ) (d : Data) (named : Named X) → AreRead Is InLimits most key d named → named_at read most key d ≡ Ok named
named_read read Is InLimits first again most key d named are =
    let ds = are.said.0 in
    let sizes = length_named Is ds named.names named.things are.said.2 in
    then_is (array_or_empty most (get key d)) _ ds _ (array_or_again most (get key d) ds are.said.1 (omega (arith, sizes, are.few)))
    (named_again read Is InLimits first again ds nothing_named named.names named.things are.said.2 are.named_each.names are.in_limits)

-- ---- event groups, which have no limits but that of their count

abbrev NoLimits : List GroupShape → Type 0
NoLimits groups = Unit {0}

groups_taken : (d : Data) (named : Named GroupShape) → named_at (λ before. group_of before.names) 32 (codes "groups") d ≡ Ok named
    → AreRead IsGroup NoLimits 32 (codes "groups") d named
groups_taken =
    named_taken (λ before. group_of before.names) IsGroup NoLimits
    (λ before d t e limits. let taken = group.group_takes before.names d t e in (taken.0, taken.1, tt)) tt 32 (codes "groups")

groups_read : (d : Data) (named : Named GroupShape) → AreRead IsGroup NoLimits 32 (codes "groups") d named
    → named_at (λ before. group_of before.names) 32 (codes "groups") d ≡ Ok named
groups_read =
    named_read (λ before. group_of before.names) IsGroup NoLimits (λ groups others limits. tt)
    (λ before d name shape is new limits. group.group_again before.names d name shape is new) 32 (codes "groups")

-- ---- all kinds

objects_made : (d : Data) (o : NamedObjects) → named_at (λ before. queue_of before.names) 32 (codes "queues") d ≡ Ok o.queues
    → named_at (queue_set_of o.queues.names) 32 (codes "sets") d ≡ Ok o.queue_sets
    → named_at (λ before. stream_of before.names) 32 (codes "streams") d ≡ Ok o.streams
    → named_at (λ before. message_of before.names) 32 (codes "messages") d ≡ Ok o.messages
    → named_at (λ before. group_of before.names) 32 (codes "groups") d ≡ Ok o.groups → SaysObjects d o × AreNamedObjects o
objects_made d o queues_read queue_sets_read streams_read messages_read groups_are_read =
    let queues = named_taken (λ before. queue_of before.names) IsQueue (AllByRecursion IsQueueShape)
    (each_takes queue_of IsQueue IsQueueShape queue.queue_takes) tt 32 (codes "queues") d o.queues queues_read in
    let queue_sets = named_taken (queue_set_of o.queues.names) (SaysQueueSet o.queues.names) (queue_set.AreQueueSetsOf (length o.queues.names)) (queue_set.queue_set_takes o.queues.names)
    (queue_set.no_queue_sets (length o.queues.names)) 32 (codes "sets") d o.queue_sets queue_sets_read in
    let streams = named_taken (λ before. stream_of before.names) IsStream (AllByRecursion IsStreamShape)
    (each_takes stream_of IsStream IsStreamShape stream.stream_takes) tt 32 (codes "streams") d o.streams streams_read in
    let messages = named_taken (λ before. message_of before.names) IsMessage (AllByRecursion IsMessageShape)
    (each_takes message_of IsMessage IsMessageShape message.message_takes) tt 32 (codes "messages") d o.messages messages_read in
    let groups = groups_taken d o.groups groups_are_read in (
      record {
        queues = queues.said;
        queue_sets = queue_sets.said;
        one_queue_set_each = queue_sets.in_limits.one_each;
        streams = streams.said;
        messages = messages.said;
        groups = groups.said;
      },
      record {
        named_queues = queues.named_each;
        few_queues = queues.few;
        queues = All-from_recursion IsQueueShape o.queues.things queues.in_limits;
        named_queue_sets = queue_sets.named_each;
        few_queue_sets = queue_sets.few;
        queue_sets = All-from_recursion (IsQueueSetShape (shapes_of o)) o.queue_sets.things
            (queue_set.queue_sets_in_limits o (length o.queues.names) o.queue_sets.things (sym queues.named_each.paired) queue_sets.in_limits.shapes);
        one_queue_set_each = queue_sets.in_limits.one_each;
        named_streams = streams.named_each;
        few_streams = streams.few;
        streams = All-from_recursion IsStreamShape o.streams.things streams.in_limits;
        named_messages = messages.named_each;
        few_messages = messages.few;
        messages = All-from_recursion IsMessageShape o.messages.things messages.in_limits;
        named_groups = groups.named_each;
        few_groups = groups.few;
      },
    )

pub objects_take : (d : Data) (o : NamedObjects) → objects_of d ≡ Ok o → SaysObjects d o × AreNamedObjects o
objects_take d o e =
    let queues = bind_ok (named_at (λ before. queue_of before.names) 32 (codes "queues") d) _ o e in
    let queue_sets = bind_ok (named_at (queue_set_of queues.0.names) 32 (codes "sets") d) _ o queues.2 in
    let streams = bind_ok (named_at (λ before. stream_of before.names) 32 (codes "streams") d) _ o queue_sets.2 in
    let messages = bind_ok (named_at (λ before. message_of before.names) 32 (codes "messages") d) _ o streams.2 in
    let groups = bind_ok (named_at (λ before. group_of before.names) 32 (codes "groups") d) _ o messages.2 in
    let made : NamedObjects = record { queues = queues.0; queue_sets = queue_sets.0; streams = streams.0; messages = messages.0; groups = groups.0 } in
    let is : made ≡ o = cc in
    subst (λ (o : NamedObjects). SaysObjects d o × AreNamedObjects o) {x = made} is (objects_made d made queues.1 queue_sets.1 streams.1 messages.1 groups.1)

pub objects_again : (d : Data) (o : NamedObjects) → SaysObjects d o → AreNamedObjects o → objects_of d ≡ Ok o
objects_again d o says limits =
    let of_queues = queue_set.queue_sets_of_limits o (length o.queues.names) o.queue_sets.things (sym limits.named_queues.paired)
    (recursion_from_All (IsQueueSetShape (shapes_of o)) o.queue_sets.things limits.queue_sets) in
    then_is (named_at (λ before. queue_of before.names) 32 (codes "queues") d) _ o.queues _
    (named_read (λ before. queue_of before.names) IsQueue (AllByRecursion IsQueueShape) (AllByRecursion-first IsQueueShape)
    (each_again queue_of IsQueue IsQueueShape queue.queue_again) 32 (codes "queues") d o.queues (record {
      said = says.queues;
      named_each = limits.named_queues;
      few = limits.few_queues;
      in_limits = recursion_from_All IsQueueShape o.queues.things limits.queues;
    }))
    (then_is (named_at (queue_set_of o.queues.names) 32 (codes "sets") d) _ o.queue_sets _
    (named_read (queue_set_of o.queues.names) (SaysQueueSet o.queues.names) (queue_set.AreQueueSetsOf (length o.queues.names)) (queue_set.queue_sets_first (length o.queues.names))
    (queue_set.queue_set_again o.queues.names) 32 (codes "sets") d o.queue_sets (record {
      said = says.queue_sets;
      named_each = limits.named_queue_sets;
      few = limits.few_queue_sets;
      in_limits = record { shapes = of_queues; one_each = limits.one_queue_set_each };
    }))
    (then_is (named_at (λ before. stream_of before.names) 32 (codes "streams") d) _ o.streams _
    (named_read (λ before. stream_of before.names) IsStream (AllByRecursion IsStreamShape) (AllByRecursion-first IsStreamShape)
    (each_again stream_of IsStream IsStreamShape stream.stream_again) 32 (codes "streams") d o.streams (record {
      said = says.streams;
      named_each = limits.named_streams;
      few = limits.few_streams;
      in_limits = recursion_from_All IsStreamShape o.streams.things limits.streams;
    }))
    (then_is (named_at (λ before. message_of before.names) 32 (codes "messages") d) _ o.messages _
    (named_read (λ before. message_of before.names) IsMessage (AllByRecursion IsMessageShape) (AllByRecursion-first IsMessageShape)
    (each_again message_of IsMessage IsMessageShape message.message_again) 32 (codes "messages") d o.messages (record {
      said = says.messages;
      named_each = limits.named_messages;
      few = limits.few_messages;
      in_limits = recursion_from_All IsMessageShape o.messages.things limits.messages;
    }))
    (then_is (named_at (λ before. group_of before.names) 32 (codes "groups") d) _ o.groups _
    (groups_read d o.groups (record { said = says.groups; named_each = limits.named_groups; few = limits.few_groups; in_limits = tt }))
    refl))))
