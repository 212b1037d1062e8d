-- What holds in each turn of read_groups's loop.
use Rattle.std.proofs.Common.{◌≡◌, drop, length}
use Rattle.serde_json.specs.View.{items_view}
use Rattle.rd_script.specs.Values.{nothing_named}
use Rattle.rd_script.specs.Objects.{groups_after}
use Rattle.rd_text.specs.Words.{texts}
use Rattle.rd_script.proofs.objects.read_groups.Given as goal

-- the event groups so far, and those that are left
abbrev pub invariant-loop-value : goal.invariant-loop-value
invariant-loop-value l = record {
  so_far :
      groups_after (record { names = texts l.names.items; things = l.things.items }) (items_view (drop l.value-index l.values))
      ≡ groups_after nothing_named (items_view l.values);
  names : length l.names.items ≡ l.value-index;
  things : length l.things.items ≡ l.value-index;
}
