-- What holds in each turn of shown_of's loop.
use Rattle.std.proofs.Common.{◌≡◌, ◌++◌, drop}
use Rattle.rd_desk.specs.Views.{shown_from, watches_shown}
use Rattle.rd_desk.proofs.showing.shown_of.Given as goal

-- the watches that are left complete those that are shown
abbrev pub invariant-loop-number : goal.invariant-loop-number
invariant-loop-number l =
    l.shown.items ++ shown_from l.timeline.target l.number (drop l.number l.watches) ≡ watches_shown l.timeline.target l.watches
