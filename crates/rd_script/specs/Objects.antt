-- The objects of a file: what its value says of each kind, and of all.
use Rattle.std.specs.Prelude.{ℕ, ◌≡◌, true, codes, List, [], ◌∷◌, ◌++◌, nat_eq}
use Rattle.std.specs.Prelude.{if◌then◌else◌, Some, Result, Ok, Err, ok_or}
use Rattle.std.specs.List.{IsDistinct, list_any}
use Rattle.serde_json.specs.Data.{Data, number, unsigned, string, array, Items, no_items, item}
use Rattle.serde_json.specs.Find.{get, as_str, as_array}
use Rattle.rd_queue.specs.declared.item.TheConstants.{MAX_ITEM_SIZE}
use Rattle.rd_queue.specs.declared.queue.TheConstants.{MAX_ITEMS}
use Rattle.rd_queue.specs.declared.queue_set.TheConstants.{MAX_HANDLES}
use Rattle.rd_stream.specs.declared.message_buf.TheConstants.{MIN_MESSAGE_BUFFER_SIZE}
use Rattle.rd_stream.specs.declared.message_buf.TheConstants.{MAX_MESSAGE_BUFFER_SIZE}
use Rattle.rd_stream.specs.declared.stream_buf.TheConstants.{MAX_STREAM_SIZE}
use Rattle.rd_app.specs.declared.objects.GroupShape.{GroupShape}
use Rattle.rd_app.specs.declared.objects.MessageShape.{MessageShape}
use Rattle.rd_app.specs.declared.objects.QueueShape.{QueueShape}
use Rattle.rd_app.specs.declared.objects.StreamShape.{StreamShape}
use Rattle.rd_app.specs.declared.objects.TheConstants.{MAX_QUEUES, MAX_QUEUE_SETS, MAX_STREAMS}
use Rattle.rd_app.specs.declared.objects.TheConstants.{MAX_MESSAGE_BUFFERS, MAX_GROUPS}
use Rattle.rd_app.specs.Objects.{members_of}
use Rattle.rd_app.specs.QueueSetShapeView.{QueueSetShapeView}
use Rattle.rd_script.specs.declared.error.AppError.{AppError}
use Rattle.rd_script.specs.declared.error.AppError.TheVariants as fault
use Rattle.rd_script.specs.declared.objects.NamedArray.{NamedArray}
use Rattle.rd_script.specs.declared.objects.ObjectDrafts.{ObjectDrafts}
use Rattle.rd_script.specs.Named.{Named, NamedObjects}
use Rattle.rd_script.specs.Spelling.{◌>>=◌, index_named, index_of}
use Rattle.rd_script.specs.Values.{SaysNamed, field, is_object_with}
use Rattle.rd_script.specs.Values.{named_after, named_at, new_name, number_in, object_with}
use Rattle.rd_text.specs.Words.{name_of, texts}

-- ---- all kinds

-- what a contract sees of the code's
abbrev pub array_view : {X : Type 0} {N : ℕ} → NamedArray X N → Named X
array_view named = record { names = texts named.names.items; things = named.things.items }

abbrev pub drafts_view : ObjectDrafts → NamedObjects
drafts_view drafts = record {
  queues = array_view drafts.queues;
  queue_sets = array_view drafts.queue_sets;
  streams = array_view drafts.streams;
  messages = array_view drafts.messages;
  groups = array_view drafts.groups;
}

abbrev pub file_keys : List (List ℕ)
file_keys =
    codes "profile" ∷ codes "cores" ∷ codes "notes" ∷ codes "tick" ∷ codes "queues" ∷ codes "sets"
    ∷ codes "streams"
    ∷ codes "messages"
    ∷ codes "groups"
    ∷ codes "tasks"
    ∷ []

-- ---- queues

abbrev pub queue_keys : List (List ℕ)
queue_keys = codes "name" ∷ codes "length" ∷ codes "item" ∷ []

unfoldable pub queue_of : List (List ℕ) → Data → Result (List ℕ × QueueShape) AppError
queue_of names d = do
  _ ← object_with queue_keys d
  name ← field (codes "name") d
  capacity ← field (codes "length") d
  item_size ← field (codes "item") d
  name ← new_name names name
  capacity ← number_in 1 MAX_ITEMS capacity
  item_size ← number_in 1 MAX_ITEM_SIZE item_size
  Ok (name, record { capacity = capacity; item_size = item_size })

abbrev pub queues_after : Named QueueShape → Items → Result (Named QueueShape) AppError
queues_after before ds = named_after (λ before. queue_of before.names) before ds

pub record IsQueue (d : Data) (name : List ℕ) (shape : QueueShape) : Type 0 where
  pub keys : is_object_with queue_keys d ≡ true
  pub name_at : get (codes "name") d ≡ Some (string name)
  pub length_at : get (codes "length") d ≡ Some (number (unsigned shape.capacity))
  pub item_at : get (codes "item") d ≡ Some (number (unsigned shape.item_size))

-- ---- queue sets

abbrev pub queue_set_keys : List (List ℕ)
queue_set_keys = codes "name" ∷ codes "length" ∷ codes "members" ∷ []

-- the number of the queue of that name, which isn't a member already: one of the others
abbrev pub member_of : List (List ℕ) → List ℕ → Data → Result ℕ AppError
member_of queues others d = do
  text ← ok_or (as_str d) fault.Shape
  name ← ok_or (name_of text) fault.Name
  queue ← index_of queues name
  if list_any (nat_eq queue) others then Err fault.Name else Ok queue

-- the members before, and those of the array; the others are the members of other sets
abbrev pub members_after : List (List ℕ) → List ℕ → List ℕ → Items → Result (List ℕ) AppError
members_after queues others members no_items = Ok members
members_after queues others members (item d ds) = do
  queue ← member_of queues (others ++ members) d
  members_after queues others (members ++ queue ∷ []) ds

-- a set over the names of all queues and the sets before it
unfoldable pub queue_set_of : List (List ℕ) → Named QueueSetShapeView → Data
    → Result (List ℕ × QueueSetShapeView) AppError
queue_set_of queues before d = do
  _ ← object_with queue_set_keys d
  name ← field (codes "name") d
  capacity ← field (codes "length") d
  members ← field (codes "members") d
  name ← new_name before.names name
  capacity ← number_in 1 MAX_HANDLES capacity
  members ← ok_or (as_array members) fault.Shape
  members ← members_after queues (members_of before.things) [] members
  Ok (name, record { capacity = capacity; members = members })

abbrev pub queue_sets_after : List (List ℕ) → Named QueueSetShapeView → Items
    → Result (Named QueueSetShapeView) AppError
queue_sets_after queues before ds = named_after (queue_set_of queues) before ds

-- a text that names the queue of that number
abbrev pub IsMember : List (List ℕ) → Data → ℕ → Type 0
IsMember queues d queue =
    (text : List ℕ) × (d ≡ string text) × (index_named queues text ≡ Some queue)

abbrev pub AreMembers : List (List ℕ) → Items → List ℕ → Type 0
AreMembers queues no_items [] = Unit {0}
AreMembers queues (item d ds) (queue ∷ members) =
    IsMember queues d queue × AreMembers queues ds members
AreMembers queues _ _ = ⊥

pub record IsQueueSet
    (queues : List (List ℕ))
    (d : Data)
    (name : List ℕ)
    (queue_set : QueueSetShapeView)
    (texts : Items)
    : Type 0 where
  pub keys : is_object_with queue_set_keys d ≡ true
  pub name_at : get (codes "name") d ≡ Some (string name)
  pub length_at : get (codes "length") d ≡ Some (number (unsigned queue_set.capacity))
  pub members_at : get (codes "members") d ≡ Some (array texts)
  pub members : AreMembers queues texts queue_set.members

-- what a value says of a set, over the names of all queues
abbrev pub SaysQueueSet : List (List ℕ) → Data → List ℕ → QueueSetShapeView → Type 0
SaysQueueSet queues d name queue_set = (texts : Items) × IsQueueSet queues d name queue_set texts

-- ---- stream buffers

abbrev pub stream_keys : List (List ℕ)
stream_keys = codes "name" ∷ codes "size" ∷ codes "trigger" ∷ []

unfoldable pub stream_of : List (List ℕ) → Data → Result (List ℕ × StreamShape) AppError
stream_of names d = do
  _ ← object_with stream_keys d
  name ← field (codes "name") d
  capacity ← field (codes "size") d
  trigger ← field (codes "trigger") d
  name ← new_name names name
  capacity ← number_in 1 MAX_STREAM_SIZE capacity
  trigger ← number_in 0 capacity trigger
  Ok (name, record { capacity = capacity; trigger = trigger })

abbrev pub streams_after : Named StreamShape → Items → Result (Named StreamShape) AppError
streams_after before ds = named_after (λ before. stream_of before.names) before ds

pub record IsStream (d : Data) (name : List ℕ) (shape : StreamShape) : Type 0 where
  pub keys : is_object_with stream_keys d ≡ true
  pub name_at : get (codes "name") d ≡ Some (string name)
  pub size_at : get (codes "size") d ≡ Some (number (unsigned shape.capacity))
  pub trigger_at : get (codes "trigger") d ≡ Some (number (unsigned shape.trigger))

-- ---- message buffers

abbrev pub message_keys : List (List ℕ)
message_keys = codes "name" ∷ codes "size" ∷ []

unfoldable pub message_of : List (List ℕ) → Data → Result (List ℕ × MessageShape) AppError
message_of names d = do
  _ ← object_with message_keys d
  name ← field (codes "name") d
  capacity ← field (codes "size") d
  name ← new_name names name
  capacity ← number_in MIN_MESSAGE_BUFFER_SIZE MAX_MESSAGE_BUFFER_SIZE capacity
  Ok (name, record { capacity = capacity })

abbrev pub messages_after : Named MessageShape → Items → Result (Named MessageShape) AppError
messages_after before ds = named_after (λ before. message_of before.names) before ds

pub record IsMessage (d : Data) (name : List ℕ) (shape : MessageShape) : Type 0 where
  pub keys : is_object_with message_keys d ≡ true
  pub name_at : get (codes "name") d ≡ Some (string name)
  pub size_at : get (codes "size") d ≡ Some (number (unsigned shape.capacity))

-- ---- event groups

abbrev pub group_keys : List (List ℕ)
group_keys = codes "name" ∷ []

unfoldable pub group_of : List (List ℕ) → Data → Result (List ℕ × GroupShape) AppError
group_of names d = do
  _ ← object_with group_keys d
  name ← field (codes "name") d
  name ← new_name names name
  Ok (name, record {})

abbrev pub groups_after : Named GroupShape → Items → Result (Named GroupShape) AppError
groups_after before ds = named_after (λ before. group_of before.names) before ds

pub record IsGroup (d : Data) (name : List ℕ) (shape : GroupShape) : Type 0 where
  pub keys : is_object_with group_keys d ≡ true
  pub name_at : get (codes "name") d ≡ Some (string name)

-- ---- all kinds

-- the objects of a file's value, or the first fault that is met
abbrev pub objects_of : Data → Result NamedObjects AppError
objects_of d = do
  queues ← named_at (λ before. queue_of before.names) MAX_QUEUES (codes "queues") d
  queue_sets ← named_at (queue_set_of queues.names) MAX_QUEUE_SETS (codes "sets") d
  streams ← named_at (λ before. stream_of before.names) MAX_STREAMS (codes "streams") d
  messages ← named_at (λ before. message_of before.names) MAX_MESSAGE_BUFFERS (codes "messages") d
  groups ← named_at (λ before. group_of before.names) MAX_GROUPS (codes "groups") d
  Ok (record {
    queues = queues;
    queue_sets = queue_sets;
    streams = streams;
    messages = messages;
    groups = groups;
  })

-- what a value says of its objects
pub record SaysObjects (d : Data) (o : NamedObjects) : Type 0 where
  pub queues : SaysNamed IsQueue (codes "queues") d o.queues
  pub queue_sets : SaysNamed (SaysQueueSet o.queues.names) (codes "sets") d o.queue_sets
  pub one_queue_set_each : IsDistinct nat_eq (members_of o.queue_sets.things)
  pub streams : SaysNamed IsStream (codes "streams") d o.streams
  pub messages : SaysNamed IsMessage (codes "messages") d o.messages
  pub groups : SaysNamed IsGroup (codes "groups") d o.groups
