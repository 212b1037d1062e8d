-- What holds in each turn of keep_shapes's loop.
use Rattle.std.proofs.Common.{◌≡◌, take}
use Rattle.rd_script.proofs.objects.keep_shapes.Given as goal

abbrev pub invariant-loop-draft : goal.invariant-loop-draft
invariant-loop-draft l = l.queue_sets.items ≡ take l.draft-index l.drafts
