-- The definitions computed on a queue in a set, with nothing of the code between.
use Rattle.std.specs.Prelude.{ℕ, ◌≡◌, List, [], ◌∷◌, Some, None, Ok, refl}
use Rattle.rd_notify.specs.Entries.{idle_entry}
use Rattle.rd_queue.specs.declared.end.End.TheVariants.{Back}
use Rattle.rd_queue.specs.QueueSnapshot.{QueueSnapshot}
use Rattle.rd_queue.specs.QueueSetSnapshot.{QueueSetSnapshot}
use Rattle.rd_state.specs.declared.phase.Cause.TheVariants.{SetFull}
use Rattle.rd_state.specs.declared.phase.Phase.{Phase}
use Rattle.rd_state.specs.declared.phase.Phase.TheVariants.{Run, Failed}
use Rattle.rd_app.specs.declared.instr.Instr.{Instr}
use Rattle.rd_app.specs.declared.instr.Instr.TheVariants as instr
use Rattle.rd_app.specs.declared.instr.LocalInstr.TheVariants.{Data, End}
use Rattle.rd_app.specs.declared.instr.QueueCall.TheVariants as call
use Rattle.rd_app.specs.declared.instr.QueueSetCall.TheVariants.{Select}
use Rattle.rd_app.specs.declared.instr.Operand.TheVariants.{Number}
use Rattle.rd_app.specs.Application.{Application}
use Rattle.rd_app.specs.Builtin.{builtin}
use Rattle.rd_state.specs.Snapshot.{Snapshot, TaskSnapshot}
use Rattle.rd_state.specs.Objects.{no_objects}
use Rattle.rd_moves.specs.Moves.{PlainMove}
use Rattle.rd_moves.specs.declared.moves.Move.TheVariants.{Core}
use Rattle.rd_timeline.specs.History.{state_after}

-- one task over a queue for items of one byte, in a set with room for one handle
abbrev over_a_queue_set : ℕ → List Instr → Application
over_a_queue_set capacity code = record builtin {
  objects = record (builtin.objects) {
    queues = record { capacity = capacity; item_size = 1 } ∷ [];
    queue_sets = record { capacity = 1; members = 0 ∷ [] } ∷ [];
  };
  tasks = record { priority = 1; code = code } ∷ [];
}

abbrev task_of : ℕ → ℕ → List ℕ → Phase → TaskSnapshot
task_of pc r0 bytes phase = record { pc = pc; registers = r0 ∷ 0 ∷ 0 ∷ 0 ∷ 0 ∷ 0 ∷ 0 ∷ 0 ∷ []; bytes = bytes; phase = phase; entries = idle_entry ∷ [] }

abbrev queue_of : ℕ → List (List ℕ) → QueueSnapshot
queue_of capacity items = record { items = items; capacity = capacity; item_size = 1; receiving = []; sending = []; task_count = 1; queue_set = Some 0; queue_set_count = 1 }

abbrev queue_set_of : List ℕ → QueueSetSnapshot
queue_set_of handles = record { handles = handles; capacity = 1; queue_count = 1; waiting = []; task_count = 1 }

abbrev runs_with : TaskSnapshot → QueueSnapshot → QueueSetSnapshot → Snapshot
runs_with task queue queue_set =
    record { tick = 0; turn = 1; cores = Some 0 ∷ []; ready = []; tasks = task ∷ []; objects = record no_objects { queues = queue ∷ []; queue_sets = queue_set ∷ [] } }

abbrev one_move : PlainMove
one_move = Core 0

-- ---- an overwrite of an item that is there posts nothing

abbrev overwrites : Application
overwrites = over_a_queue_set 1 (
    instr.Local (Data (7 ∷ [])) ∷ instr.Queue 0 call.Overwrite ∷ instr.Local (Data (8 ∷ [])) ∷ instr.Queue 0 call.Overwrite
    ∷ instr.QueueSet 0 (Select (Number 0)) ∷ instr.Queue 0 (call.Receive (Number 0)) ∷ instr.QueueSet 0 (Select (Number 0)) ∷ instr.Local End ∷ [])

one_handle : state_after overwrites (one_move ∷ one_move ∷ one_move ∷ one_move ∷ [])
    ≡ Ok (runs_with (task_of 4 1 (8 ∷ []) Run) (queue_of 1 ((8 ∷ []) ∷ [])) (queue_set_of (0 ∷ [])))
one_handle = refl

-- It is selected once, and the next time there is none.
selected_once : state_after overwrites (one_move ∷ one_move ∷ one_move ∷ one_move ∷ one_move ∷ one_move ∷ one_move ∷ [])
    ≡ Ok (runs_with (task_of 7 0 (8 ∷ []) Run) (queue_of 1 []) (queue_set_of []))
selected_once = refl

-- ---- a send into a set without space has failed, and has sent nothing

abbrev sends_twice : Application
sends_twice = over_a_queue_set 2 (instr.Queue 0 (call.Send Back (Number 0)) ∷ instr.Queue 0 (call.Send Back (Number 0)) ∷ instr.Local End ∷ [])

full_queue_set : state_after sends_twice (one_move ∷ one_move ∷ [])
    ≡ Ok (record {
      tick = 0;
      turn = 1;
      cores = None ∷ [];
      ready = [];
      tasks = task_of 1 1 [] (Failed SetFull) ∷ [];
      objects = record no_objects { queues = queue_of 2 ((0 ∷ []) ∷ []) ∷ []; queue_sets = queue_set_of (0 ∷ []) ∷ [] };
    })
full_queue_set = refl
