use Rattle.std.proofs.Common.{take}
use Rattle.std.specs.Prelude.{All}
use Rattle.rd_desk.specs.HistoryView.{IsEntered}
use Rattle.rd_hall.proofs.account.are_entered.Given as goal

abbrev pub invariant-loop-index : goal.invariant-loop-index
invariant-loop-index g l = All (IsEntered l.history.entries) (take l.index l.gone.receipts)
