use Rattle.std.proofs.Common.{◌≡◌, ◌+◌, take}
use Rattle.rd_hall.specs.Account.{count_of}
use Rattle.rd_hall.proofs.account.is_count.Given as goal

abbrev pub invariant-loop-gone : goal.invariant-loop-gone
invariant-loop-gone g l = l.left + count_of (take l.gone-index l.gones) ≡ l.fn.count
