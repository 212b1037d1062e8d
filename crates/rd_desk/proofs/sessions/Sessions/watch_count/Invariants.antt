-- What holds in each turn of watch_count's loop.
use Rattle.std.proofs.Common.{◌≡◌, ◌≤◌, ◌*◌, take}
use Rattle.rd_desk.specs.Sessions.{watch_count}
use Rattle.rd_desk.proofs.sessions.Sessions.watch_count.Given as goal

-- Those of the sessions so far are counted, and each keeps 16 at the most.
abbrev pub invariant-loop-slot : goal.invariant-loop-slot
invariant-loop-slot l =
    (l.count ≡ watch_count (take l.slot-index l.self)) × (l.count ≤ 16 * l.slot-index)
