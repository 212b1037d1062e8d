-- What holds in each turn of read_members's loop.
use Rattle.std.proofs.Common.{◌≡◌, [], drop, length}
use Rattle.serde_json.specs.View.{items_view}
use Rattle.rd_app.specs.Objects.{members_of}
use Rattle.rd_script.specs.Objects.{members_after}
use Rattle.rd_text.specs.Words.{texts}
use Rattle.rd_script.proofs.QueueSetLaws.{AreDistinctQueues}
use Rattle.rd_script.proofs.objects.read_members.Given as goal

-- the members so far, and those that are left
abbrev pub invariant-loop-value : goal.invariant-loop-value
invariant-loop-value l = record {
  so_far :
      members_after (texts l.queues) (members_of l.queue_sets) l.members.items (items_view (drop l.value-index l.values))
      ≡ members_after (texts l.queues) (members_of l.queue_sets) [] (items_view l.values);
  placed : AreDistinctQueues (length (texts l.queues)) l.members.items;
}
