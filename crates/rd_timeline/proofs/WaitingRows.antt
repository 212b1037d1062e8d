-- The definitions computed on applications whose tasks wait.
use Rattle.std.specs.Prelude.{ℕ, ◌≡◌, List, [], ◌∷◌, Option, Some, None, Ok, refl}
use Rattle.rd_notify.specs.Entries.{idle_entry}
use Rattle.rd_queue.specs.QueueSnapshot.{QueueSnapshot}
use Rattle.rd_app.specs.declared.instr.Instr.{Instr}
use Rattle.rd_app.specs.declared.instr.Instr.TheVariants as instr
use Rattle.rd_app.specs.declared.instr.LocalInstr.TheVariants.{End}
use Rattle.rd_app.specs.declared.instr.QueueCall.TheVariants as call
use Rattle.rd_queue.specs.declared.waiting_list.WaitingList.TheVariants.{Receiving}
use Rattle.rd_queue.specs.declared.end.End.TheVariants.{Back}
use Rattle.rd_app.specs.declared.instr.Operand.TheVariants.{Number}
use Rattle.rd_state.specs.declared.phase.Phase.{Phase}
use Rattle.rd_state.specs.declared.phase.Phase.TheVariants.{Run, Again, Wait}
use Rattle.rd_state.specs.declared.phase.Listed.TheVariants.{Queue}
use Rattle.rd_state.specs.declared.phase.Place.TheVariants as sort
use Rattle.rd_app.specs.Application.{Application, max_delay}
use Rattle.rd_app.specs.Builtin.{builtin}
use Rattle.rd_app.specs.TaskScript.{TaskScript}
use Rattle.rd_state.specs.Snapshot.{TaskSnapshot}
use Rattle.rd_state.specs.Objects.{no_objects}
use Rattle.rd_moves.specs.declared.moves.Move.TheVariants.{Core, Tick}
use Rattle.rd_timeline.specs.History.{state_after}

-- three tasks over one queue with room for one item of one byte
abbrev over_a_queue : ℕ → List TaskScript → Application
over_a_queue cores scripts = record builtin {
  cores = cores;
  objects = record (builtin.objects) { queues = record { capacity = 1; item_size = 1 } ∷ [] };
  tasks = scripts;
}

abbrev receives : ℕ → Instr
receives time = instr.Queue 0 (call.Receive (Number time))

abbrev task_of : ℕ → ℕ → List ℕ → Phase → TaskSnapshot
task_of pc r0 bytes phase = record { pc = pc; registers = r0 ∷ 0 ∷ 0 ∷ 0 ∷ 0 ∷ 0 ∷ 0 ∷ 0 ∷ []; bytes = bytes; phase = phase; entries = idle_entry ∷ [] }

abbrev waits_for_item : Option ℕ → TaskSnapshot
waits_for_item deadline = task_of 0 0 [] (Wait (sort.Listed (Queue 0 Receiving)) deadline)

abbrev queue_of : List (List ℕ) → List ℕ → QueueSnapshot
queue_of items receiving = record { items = items; capacity = 1; item_size = 1; receiving = receiving; sending = []; task_count = 3; queue_set = None; queue_set_count = 0 }

-- ---- a woken receiver finds its item taken

abbrev stolen : Application
stolen = over_a_queue 2 (
    record { priority = 2; code = receives max_delay ∷ instr.Local End ∷ [] }
    ∷ record { priority = 3; code = receives 10 ∷ instr.Local End ∷ [] }
    ∷ record { priority = 1; code = instr.Queue 0 (call.Send Back (Number 0)) ∷ receives 0 ∷ instr.Local End ∷ [] } ∷ [])

-- The item is in the queue, and the receiver of the highest priority is awake.
item_is_sent : state_after stolen (Core 0 ∷ Core 1 ∷ Core 0 ∷ [])
    ≡ Ok (record {
      tick = 0;
      turn = 1;
      cores = Some 2 ∷ Some 1 ∷ [];
      ready = [];
      tasks = waits_for_item None ∷ task_of 0 0 [] (Again (Some 10)) ∷ task_of 1 1 [] Run ∷ [];
      objects = record no_objects { queues = queue_of ((0 ∷ []) ∷ []) (0 ∷ []) ∷ [] };
    })
item_is_sent = refl

-- The sender has taken it back, and the receiver waits again, before the other one and with its deadline.
item_is_lost : state_after stolen (Core 0 ∷ Core 1 ∷ Core 0 ∷ Core 0 ∷ Core 1 ∷ [])
    ≡ Ok (record {
      tick = 0;
      turn = 2;
      cores = Some 2 ∷ None ∷ [];
      ready = [];
      tasks = waits_for_item None ∷ waits_for_item (Some 10) ∷ task_of 2 1 (0 ∷ []) Run ∷ [];
      objects = record no_objects { queues = queue_of [] (1 ∷ 0 ∷ []) ∷ [] };
    })
item_is_lost = refl

-- ---- a time-out leaves the others in their order

abbrev timing_out : Application
timing_out = over_a_queue 3 (
    record { priority = 1; code = receives max_delay ∷ instr.Local End ∷ [] }
    ∷ record { priority = 1; code = receives 1 ∷ instr.Local End ∷ [] }
    ∷ record { priority = 1; code = receives max_delay ∷ instr.Local End ∷ [] } ∷ [])

second_times_out : state_after timing_out (Core 0 ∷ Core 1 ∷ Core 2 ∷ Tick ∷ [])
    ≡ Ok (record {
      tick = 1;
      turn = 0;
      cores = Some 1 ∷ None ∷ None ∷ [];
      ready = [];
      tasks = waits_for_item None ∷ task_of 0 0 [] (Again (Some 1)) ∷ waits_for_item None ∷ [];
      objects = record no_objects { queues = queue_of [] (0 ∷ 2 ∷ []) ∷ [] };
    })
second_times_out = refl
