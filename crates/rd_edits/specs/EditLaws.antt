-- Laws of edits, in their own words: an edit changes one thing, and nothing moves.
use Rattle.std.specs.Prelude.{ℕ, ◌≡◌, ◌≢◌, ◌∷◌, List, [], length, slice_index, slice_index_or}
use Rattle.std.specs.Prelude.{true}
use Rattle.rd_app.specs.Application.{Application}
use Rattle.rd_state.specs.declared.phase.Held.{Held}
use Rattle.rd_state.specs.declared.phase.Listed.{Listed}
use Rattle.rd_state.specs.EditingView.{SameShape}
use Rattle.rd_state.specs.Settled.{IsSettled}
use Rattle.rd_state.specs.Snapshot.{Snapshot, group_at, items_at, queue_at, stream_at, task_at}
use Rattle.rd_state.specs.Valid.{IsValid}
use Rattle.rd_state.specs.Waiting.{holder_at, waiting_at, wishes_at}
use Rattle.rd_kernel.specs.Tasks.{entry_at, register_at}
use Rattle.rd_moves.specs.Edits.{PlainEdit}
use Rattle.rd_moves.specs.declared.edit.Edit.TheVariants.{Register, Data, Pc, Value}
use Rattle.rd_moves.specs.declared.edit.Edit.TheVariants.{Bits, Item, Byte}
use Rattle.rd_edits.specs.Edits.{edited, is_good_edit}
use Rattle.rd_moves.specs.Edits.{IsEditOf}

-- a thing that edits can change
pub data Thing : Type 0 where
  Task : ℕ → Thing
  Queue : ℕ → Thing
  Stream : ℕ → Thing
  Group : ℕ → Thing

-- the one that an edit changes
abbrev pub thing_of : PlainEdit → Thing
thing_of (Register task register value) = Task task
thing_of (Data task bytes) = Task task
thing_of (Pc task pc) = Task task
thing_of (Value task index value) = Task task
thing_of (Bits group bits) = Group group
thing_of (Item queue index bytes) = Queue queue
thing_of (Byte stream index value) = Stream stream

-- All but that thing is as before, and there are as many things as before.
pub record IsSameBut (old new : Snapshot) (thing : Thing) : Type 0 where
  pub tick : new.tick ≡ old.tick
  pub turn : new.turn ≡ old.turn
  pub cores : new.cores ≡ old.cores
  pub ready : new.ready ≡ old.ready
  pub tasks : (task : ℕ) → thing ≢ Task task → task_at new task ≡ task_at old task
  pub queues : (queue : ℕ) → thing ≢ Queue queue → queue_at new queue ≡ queue_at old queue
  pub queue_sets : new.objects.queue_sets ≡ old.objects.queue_sets
  pub streams : (stream : ℕ) → thing ≢ Stream stream
      → stream_at new stream ≡ stream_at old stream
  pub messages : new.objects.messages ≡ old.objects.messages
  pub groups : (group : ℕ) → thing ≢ Group group → group_at new group ≡ group_at old group
  pub shape : SameShape old new

-- Each task is in the phase that it was in, and each of its entries in the state; whoever waits
-- does so where it did, and for the same; no place names anybody else; nothing is left to be
-- scheduled if nothing was; and no item and no byte has come or gone.
pub record NothingMoves (old new : Snapshot) : Type 0 where
  pub phases : (task : ℕ) → (task_at new task).phase ≡ (task_at old task).phase
  pub entries : (task index : ℕ)
      → (entry_at new task index).state ≡ (entry_at old task index).state
  pub waiting : (list : Listed) → waiting_at new list ≡ waiting_at old list
  pub wishes : (list : Listed) → wishes_at new list ≡ wishes_at old list
  pub holders : (held : Held) → holder_at new held ≡ holder_at old held
  pub settled : (priorities : List ℕ) → IsSettled priorities old → IsSettled priorities new
  pub items : (queue : ℕ) → length (items_at new queue) ≡ length (items_at old queue)
  pub bytes : (stream : ℕ)
      → length (stream_at new stream).bytes ≡ length (stream_at old stream).bytes

pub record ChangesOneThing (s : Snapshot) (edit : PlainEdit) : Type 0 where
  pub rest : IsSameBut s (edited s edit) (thing_of edit)
  pub nothing_moves : NothingMoves s (edited s edit)

-- whichever edit it is, at whichever state
abbrev pub EditsChangeOneThing : Type 0
EditsChangeOneThing = (s : Snapshot) (edit : PlainEdit) → ChangesOneThing s edit

-- ---- what is written

-- a spot that edits can write: a register, the data, the next instruction and the value of an entry
-- of a task, the bits of an event group, an item of a queue, a byte of a stream buffer
pub data EditSpot : Type 0 where
  OfRegister : ℕ → ℕ → EditSpot
  OfData : ℕ → EditSpot
  OfPc : ℕ → EditSpot
  OfValue : ℕ → ℕ → EditSpot
  OfBits : ℕ → EditSpot
  OfItem : ℕ → ℕ → EditSpot
  OfByte : ℕ → ℕ → EditSpot

-- what stands there: bytes, or a number by itself
abbrev pub read_at : Snapshot → EditSpot → List ℕ
read_at s (OfRegister task register) = register_at s task register ∷ []
read_at s (OfData task) = (task_at s task).bytes
read_at s (OfPc task) = (task_at s task).pc ∷ []
read_at s (OfValue task index) = (entry_at s task index).value ∷ []
read_at s (OfBits group) = (group_at s group).bits ∷ []
read_at s (OfItem queue index) = slice_index_or (items_at s queue) index []
read_at s (OfByte stream index) = slice_index (stream_at s stream).bytes index ∷ []

-- the spot that an edit writes, and what it writes there
abbrev pub spot_of : PlainEdit → EditSpot
spot_of (Register task register value) = OfRegister task register
spot_of (Data task bytes) = OfData task
spot_of (Pc task pc) = OfPc task
spot_of (Value task index value) = OfValue task index
spot_of (Bits group bits) = OfBits group
spot_of (Item queue index bytes) = OfItem queue index
spot_of (Byte stream index value) = OfByte stream index

abbrev pub written_by : PlainEdit → List ℕ
written_by (Register task register value) = value ∷ []
written_by (Data task bytes) = bytes
written_by (Pc task pc) = pc ∷ []
written_by (Value task index value) = value ∷ []
written_by (Bits group bits) = bits ∷ []
written_by (Item queue index bytes) = bytes
written_by (Byte stream index value) = value ∷ []

-- What the edit says stands at its spot, and at each other what stood there.
pub record WritesOneSpot (s : Snapshot) (edit : PlainEdit) : Type 0 where
  pub written : read_at (edited s edit) (spot_of edit) ≡ written_by edit
  pub others : (spot : EditSpot) → spot ≢ spot_of edit → read_at (edited s edit) spot ≡ read_at s spot

-- whichever edit of an application can be made, at whichever valid state
abbrev pub EditsWriteOneSpot : Type 0
EditsWriteOneSpot = (app : Application) (s : Snapshot) (edit : PlainEdit) → IsValid app s
    → IsEditOf app edit → is_good_edit app s edit ≡ true → WritesOneSpot s edit
