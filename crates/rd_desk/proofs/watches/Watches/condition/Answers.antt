-- The goal of condition that the check left open.
use Rattle.std.proofs.Common.{None, arith, sym}
use Rattle.std.proofs.lemmas.List.{get_or_past}
use Rattle.rd_desk.proofs.watches.Watches.condition.Goals as goal

pub returns-else-number-lt-MAX_WATCHES : goal.returns-else-number-lt-MAX_WATCHES
returns-else-number-lt-MAX_WATCHES c = sym (get_or_past c.args.self.now c.args.number None (rw (← c.self.view_is) (omega arith)))
