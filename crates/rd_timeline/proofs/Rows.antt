-- The definitions computed on the built-in application, with nothing of the code between.
use Rattle.std.specs.Prelude.{ℕ, ◌≡◌, List, [], ◌∷◌, Some, None, Ok, refl}
use Rattle.rd_notify.specs.Entries.{idle_entry}
use Rattle.rd_queue.specs.QueueSnapshot.{QueueSnapshot}
use Rattle.rd_app.specs.Builtin.{builtin}
use Rattle.rd_state.specs.declared.phase.Phase.TheVariants.{Run}
use Rattle.rd_state.specs.Change.{Change}
use Rattle.rd_state.specs.Change.{Object, Task}
use Rattle.rd_state.specs.Objects.{Queue}
use Rattle.rd_state.specs.TaskChanges.{SetPc, SetReg}
use Rattle.rd_queue.specs.Changes.{PutBack}
use Rattle.rd_state.specs.Boot.{boot_of}
use Rattle.rd_state.specs.Change.{applied, inverse_of}
use Rattle.rd_state.specs.Snapshot.{Snapshot, TaskSnapshot}
use Rattle.rd_state.specs.Objects.{no_objects}
use Rattle.rd_state.specs.Undoing.{undone}
use Rattle.rd_moves.specs.Moves.{PlainMove}
use Rattle.rd_moves.specs.declared.moves.Move.TheVariants.{Core}
use Rattle.rd_timeline.specs.History.{state_after}

abbrev queue_of : List (List ℕ) → QueueSnapshot
queue_of items = record { items = items; capacity = 2; item_size = 1; receiving = []; sending = []; task_count = 1; queue_set = None; queue_set_count = 0 }

-- t0 at a place of its script, with r0 and its data
abbrev task_of : ℕ → ℕ → List ℕ → TaskSnapshot
task_of pc r0 bytes = record { pc = pc; registers = r0 ∷ 0 ∷ 0 ∷ 0 ∷ 0 ∷ 0 ∷ 0 ∷ 0 ∷ []; bytes = bytes; phase = Run; entries = idle_entry ∷ [] }

-- t0 runs on core 0
abbrev state_of : ℕ → TaskSnapshot → List (List ℕ) → Snapshot
state_of turn task items = record { tick = 0; turn = turn; cores = Some 0 ∷ []; ready = []; tasks = task ∷ []; objects = record no_objects { queues = queue_of items ∷ [] } }

abbrev one_move : PlainMove
one_move = Core 0

-- At boot t0 runs, and the queue is empty.
fresh_queue : boot_of builtin ≡ state_of 0 (task_of 0 0 []) []
fresh_queue = refl

-- The queue takes two items, and refuses the third.
queue_fills : state_after builtin (one_move ∷ one_move ∷ one_move ∷ []) ≡ Ok (state_of 1 (task_of 3 1 (65 ∷ [])) ((65 ∷ []) ∷ (65 ∷ []) ∷ []))
queue_fills = refl

queue_is_full : state_after builtin (one_move ∷ one_move ∷ one_move ∷ one_move ∷ []) ≡ Ok (state_of 1 (task_of 4 0 (65 ∷ [])) ((65 ∷ []) ∷ (65 ∷ []) ∷ []))
queue_is_full = refl

-- The changes of the first send are undone by their inverses, last first.
abbrev before : Snapshot
before = state_of 1 (task_of 1 0 (65 ∷ [])) []

abbrev put : Change
put = Object (Queue 0 (PutBack (65 ∷ [])))

abbrev answer : Change
answer = Task 0 (SetReg 0 1)

abbrev onward : Change
onward = Task 0 (SetPc 2)

undo_to_boot : undone (applied (applied (applied before put) answer) onward)
    (inverse_of before put ∷ inverse_of (applied before put) answer ∷ inverse_of (applied (applied before put) answer) onward ∷ [])
    ≡ before
undo_to_boot = refl
