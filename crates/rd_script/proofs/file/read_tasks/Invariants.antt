-- What holds in each turn of read_tasks's loop.
use Rattle.std.proofs.Common.{◌≡◌, drop, length, map}
use Rattle.serde_json.specs.View.{items_view}
use Rattle.rd_script.specs.Draft.{task_draft_view}
use Rattle.rd_script.specs.Values.{nothing_named}
use Rattle.rd_script.specs.File.{tasks_after}
use Rattle.rd_text.specs.Words.{texts}
use Rattle.rd_script.proofs.file.read_tasks.Given as goal

-- the tasks so far, and those that are left
abbrev pub invariant-loop-value : goal.invariant-loop-value
invariant-loop-value l = record {
  so_far :
      tasks_after (record { names = texts l.names.items; things = map task_draft_view l.things.items }) (items_view (drop l.value-index l.values))
      ≡ tasks_after nothing_named (items_view l.values);
  names : length l.names.items ≡ l.value-index;
  things : length l.things.items ≡ l.value-index;
}
