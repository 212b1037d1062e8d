use Rattle.std.proofs.Common.{take, drop, []}
use Rattle.std.specs.Prelude.{◌↔◌, All}
use Rattle.rd_hall.specs.SeatView.{IsSeries}
use Rattle.rd_hall.specs.Account.{AllFit}
use Rattle.rd_hall.proofs.account.all_fit.Given as goal

abbrev pub invariant-loop-place : goal.invariant-loop-place
invariant-loop-place g l = record {
  rest : AllFit l.history.entries [] l.gones ↔ AllFit l.history.entries (take l.place l.gones) (drop l.place l.gones);
  series : All (λ gone. IsSeries gone.who 0 gone.receipts) (take l.place l.gones);
}
