-- The goals of `sync` that the check left open.
use Rattle.rd_state.specs.declared.phase.Listed.TheVariants.{Group}
use Rattle.rd_group_calls.proofs.calls.sync.Goals as goal

pub wish_for-requires-clause-room : goal.wish_for-requires-clause-room
wish_for-requires-clause-room c = c.requires.caller.room_to_wait (Group c.args.group) c.requires.group
