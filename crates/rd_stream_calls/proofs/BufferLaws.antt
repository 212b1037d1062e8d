-- What all calls of buffers have in common: what a buffer holds is none of what makes a state valid, and what each step of a call leaves
-- as it was.
use Rattle.std.proofs.Common.{◌∙◌, ◌≡◌, ◌<◌, Bool, List, None, Option, Some, ap, arith, false, get_or, length, map, refl, set, true, ℕ}
use Rattle.std.proofs.lemmas.Bool.{false≢true}
use Rattle.std.specs.Prelude.{◌&&◌, Result, Ok, Err, IfOk, OnOk}
use Rattle.rd_app.specs.declared.instr.Operand.{Operand}
use Rattle.rd_bytes.specs.declared.no_memory.NoMemory.{NoMemory}
use Rattle.rd_stream.specs.Holders.{HoldersView, holder_of}
use Rattle.rd_stream.specs.MessageSnapshot.{MessageSnapshot}
use Rattle.rd_stream.specs.StreamSnapshot.{StreamSnapshot}
use Rattle.rd_state.specs.declared.phase.Held.{Held}
use Rattle.rd_state.specs.declared.phase.Held.TheVariants.{Stream, Message}
use Rattle.rd_state.specs.declared.phase.Listed.{Listed}
use Rattle.rd_state.specs.declared.phase.Listed.TheVariants.{Queue, QueueSet, Group}
use Rattle.rd_notify.specs.Entries.{idle_entry}
use Rattle.rd_notify.specs.declared.entries.Entry.{Entry}
use Rattle.rd_state.specs.EditingView.{EditingView}
use Rattle.rd_state.specs.Objects.{ObjectsSnapshot, message_in, no_message_buffer, no_stream, objects_with_message, objects_with_stream, shapes_in}
use Rattle.rd_state.specs.Objects.{size_of_message_buffer, size_of_stream, stream_in}
use Rattle.rd_state.specs.Snapshot.{Snapshot, TaskSnapshot, task_at, with_message, with_stream}
use Rattle.rd_state.specs.Waiting.{holder_in, waiting_in}
use Rattle.rd_kernel.specs.Holding.{come_back, completed, waits_held}
use Rattle.rd_kernel.specs.Outcomes.{Called, DoesCall, concluded}
use Rattle.rd_kernel.specs.Tasks.{PcStays, with_bytes}
use Rattle.rd_kernel.specs.declared.outcome.Outcome.{Outcome}
use Rattle.rd_kernel.specs.declared.outcome.Outcome.TheVariants.{Fails, Returns, ReturnsBoth, Waits}
use Rattle.rd_kernel.proofs.Offered.{ContentsChange, EachStays-task, HasReceived, HasReceived-come_back, HasReceived-completed, HasReceived-waits_held, IsBeside}
use Rattle.rd_kernel.proofs.Offered.{PcsStay, PcsStay-come_back, PcsStay-completed, PcsStay-waits_held, come_back-beside, come_back-tick, completed-beside}
use Rattle.rd_kernel.proofs.Offered.{completed-tick, entry_after, map_same, read_same, waits_held-beside, waits_held-tick, EntriesStay-task}

-- ---- what a buffer holds

pub stream_contents : (o : ObjectsSnapshot) (stream : ℕ) (now : StreamSnapshot) → stream < length o.streams → now.holders ≡ (stream_in o stream).holders
    → now.capacity ≡ (stream_in o stream).capacity → ContentsChange o (objects_with_stream o stream now)
stream_contents o stream now there holders capacity = record {
  waiting = waiting;
  holders = named;
  shapes = ap (λ (sizes : List ℕ). record (shapes_in o) { streams = sizes }) (map_same size_of_stream o.streams stream now no_stream capacity);
}
  where
    waiting : (place : Listed) → waiting_in (objects_with_stream o stream now) place ≡ waiting_in o place
    waiting (Queue queue list) = refl
    waiting (QueueSet queue_set) = refl
    waiting (Group group) = refl

    named : (held : Held) → holder_in (objects_with_stream o stream now) held ≡ holder_in o held
    named (Stream other side) = read_same (λ (b : StreamSnapshot). holder_of side b.holders) o.streams stream other now no_stream there (ap (holder_of side) holders)
    named (Message message side) = refl

pub message_contents : (o : ObjectsSnapshot) (message : ℕ) (now : MessageSnapshot) → message < length o.messages → now.holders ≡ (message_in o message).holders
    → now.capacity ≡ (message_in o message).capacity → ContentsChange o (objects_with_message o message now)
message_contents o message now there holders capacity = record {
  waiting = waiting;
  holders = named;
  shapes = ap (λ (sizes : List ℕ). record (shapes_in o) { messages = sizes }) (map_same size_of_message_buffer o.messages message now no_message_buffer capacity);
}
  where
    waiting : (place : Listed) → waiting_in (objects_with_message o message now) place ≡ waiting_in o place
    waiting (Queue queue list) = refl
    waiting (QueueSet queue_set) = refl
    waiting (Group group) = refl

    named : (held : Held) → holder_in (objects_with_message o message now) held ≡ holder_in o held
    named (Stream stream side) = refl
    named (Message other side) =
        read_same (λ (b : MessageSnapshot). holder_of side b.holders) o.messages message other now no_message_buffer there (ap (holder_of side) holders)

-- ---- what stays, step by step

-- It stays when the caller begins its call, and begins to wait;
pub record StaysByWaiting (P : Snapshot → Type 0) (task : ℕ) : Type 0 where
  pub come_back : (s : Snapshot) (held : Held) → P s → P (come_back s task held)
  pub waits : (s : Snapshot) (held : Held) (wait : Operand) → P s → P (waits_held s task held wait).state

-- and when bytes come and go, and a wait is completed.
pub record StaysByChanges (P : Snapshot → Type 0) (priorities : List ℕ) (task : ℕ) : Type 0 where
  pub bytes : (s : Snapshot) (bytes : List ℕ) → P s → P (with_bytes s task bytes)
  pub streams : (s : Snapshot) (stream : ℕ) (now : StreamSnapshot) → P s → P (with_stream s stream now)
  pub messages : (s : Snapshot) (message : ℕ) (now : MessageSnapshot) → P s → P (with_message s message now)
  pub completed : (s : Snapshot) (held : Held) → P s → P (completed priorities s held)

-- the instruction that each task stands at
pub pcs_by_waiting : (s : Snapshot) (task : ℕ) → StaysByWaiting (PcsStay s) task
pcs_by_waiting s task = record {
  come_back = λ p held stays t. PcsStay-come_back p task held t ∙ stays t;
  waits = λ p held wait stays t. PcsStay-waits_held p task held wait t ∙ stays t;
}

pub pcs_by_changes : (s : Snapshot) (priorities : List ℕ) (task : ℕ) → StaysByChanges (PcsStay s) priorities task
pcs_by_changes s priorities task = record {
  bytes = λ p bytes stays t. EachStays-task (λ (x : TaskSnapshot). x.pc) p task (record (task_at p task) { bytes = bytes }) refl t ∙ stays t;
  streams = λ p stream now stays t. stays t;
  messages = λ p message now stays t. stays t;
  completed = λ p held stays t. PcsStay-completed priorities p held t ∙ stays t;
}

-- the tick
abbrev pub SameTick : Snapshot → Snapshot → Type 0
SameTick s p = p.tick ≡ s.tick

pub tick_by_waiting : (s : Snapshot) (task : ℕ) → StaysByWaiting (SameTick s) task
tick_by_waiting s task = record {
  come_back = λ p held same. come_back-tick p task held ∙ same;
  waits = λ p held wait same. waits_held-tick p task held wait ∙ same;
}

pub tick_by_changes : (s : Snapshot) (priorities : List ℕ) (task : ℕ) → StaysByChanges (SameTick s) priorities task
tick_by_changes s priorities task = record {
  bytes = λ p bytes same. same;
  streams = λ p stream now same. same;
  messages = λ p message now same. same;
  completed = λ p held same. completed-tick priorities p held ∙ same;
}

-- what is read of objects beside buffers
pub record IsBesideBuffers {A : Type 0} (f : ObjectsSnapshot → A) (priorities : List ℕ) : Type 0 where
  pub beside : IsBeside f priorities
  pub streams : (o : ObjectsSnapshot) (stream : ℕ) (now : StreamSnapshot) → f (objects_with_stream o stream now) ≡ f o
  pub messages : (o : ObjectsSnapshot) (message : ℕ) (now : MessageSnapshot) → f (objects_with_message o message now) ≡ f o

abbrev pub SameBeside : {A : Type 0} → (ObjectsSnapshot → A) → Snapshot → Snapshot → Type 0
SameBeside f s p = f p.objects ≡ f s.objects

pub beside_by_waiting : {A : Type 0} (f : ObjectsSnapshot → A) (s : Snapshot) (priorities : List ℕ) (task : ℕ) → IsBesideBuffers f priorities
    → StaysByWaiting (SameBeside f s) task
beside_by_waiting f s priorities task is = record {
  come_back = λ p held same. come_back-beside f priorities p task held is.beside ∙ same;
  waits = λ p held wait same. waits_held-beside f priorities p task held wait is.beside ∙ same;
}

pub beside_by_changes : {A : Type 0} (f : ObjectsSnapshot → A) (s : Snapshot) (priorities : List ℕ) (task : ℕ) → IsBesideBuffers f priorities
    → StaysByChanges (SameBeside f s) priorities task
beside_by_changes f s priorities task is = record {
  bytes = λ p bytes same. same;
  streams = λ p stream now same. is.streams p.objects stream now ∙ same;
  messages = λ p message now same. is.messages p.objects message now ∙ same;
  completed = λ p held same. completed-beside f priorities p held is.beside ∙ same;
}

-- what has come to an entry, if it isn't the first of the caller
abbrev pub ReceivedAt : ℕ → ℕ → Snapshot → Type 0
ReceivedAt target index s = HasReceived s target index

pub received_by_waiting : (task target index : ℕ) → (task ≡ target → 0 ≡ index → ⊥) → StaysByWaiting (ReceivedAt target index) task
received_by_waiting task target index other = record {
  come_back = λ p held has. HasReceived-come_back p task target index held other has;
  waits = λ p held wait has. HasReceived-waits_held p task target index held wait other has;
}

pub received_by_changes : (priorities : List ℕ) (task target index : ℕ) → StaysByChanges (ReceivedAt target index) priorities task
received_by_changes priorities task target index = record {
  bytes = λ p bytes has. bytes_leave p bytes has;
  streams = λ p stream now has. has;
  messages = λ p message now has. has;
  completed = λ p held has. HasReceived-completed priorities p held target index has;
}
  where
    bytes_leave : (p : Snapshot) (bytes : List ℕ) → HasReceived p target index → HasReceived (with_bytes p task bytes) target index
    bytes_leave p bytes has =
        ap (λ (entries : List Entry). (get_or entries index idle_entry).state) (EntriesStay-task p task (record (task_at p task) { bytes = bytes }) refl target) ∙ has

-- ---- what becomes of the caller

pub concluded-tick : (s : Snapshot) (outcome : Outcome) (core task : ℕ) → (concluded (record { state = s; outcome = outcome }) core task).tick ≡ s.tick
concluded-tick s (Returns value) core task = refl
concluded-tick s (ReturnsBoth value second) core task = refl
concluded-tick s (Waits place deadline) core task = refl
concluded-tick s (Fails cause) core task = refl

-- A call that leaves each task where it stands leaves its caller there.
pub pc_stays : (r : Result Outcome NoMemory) (old new : EditingView) (called : Called) (cost task : ℕ) → IfOk r (DoesCall old new called cost) → PcsStay old.now called.state
    → OnOk r (PcStays old.now new.now task)
pc_stays (Ok outcome) old new called cost task does stays = ap (λ (p : Snapshot). (task_at p task).pc) does.comes.now ∙ stays task
pc_stays (Err e) old new called cost task does stays = tt

-- ---- tests

pub both_true : (a b : Bool) → (a && b) ≡ true → (a ≡ true) × (b ≡ true)
both_true true b e = (refl, e)
both_true false b e = absurd (false≢true e)
