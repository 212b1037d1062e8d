-- as many idle entries as turns so far
use Rattle.std.proofs.Common.{◌≡◌, replicate}
use Rattle.rd_notify.specs.Entries.{idle_entry}
use Rattle.rd_notify.proofs.entries.Notes.new.Given as goal

abbrev pub invariant-loop : goal.invariant-loop
invariant-loop l = l.entries.items ≡ replicate l.counter idle_entry
