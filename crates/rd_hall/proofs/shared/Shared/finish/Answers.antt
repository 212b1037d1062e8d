use Rattle.std.proofs.Common.{List, refl, subst}
use Rattle.rd_hall.specs.Account.{IsAccounted}
use Rattle.rd_hall.specs.SeatView.{SeatView}
use Rattle.rd_hall.proofs.shared.Shared.finish.Goals as goal

pub returns-then-is_account-clause-accounted : goal.returns-then-is_account-clause-accounted
returns-then-is_account-clause-accounted g c =
    let Accounted : List SeatView → Type 0 = λ gones. IsAccounted c.close-history.result.entries gones in
    subst Accounted c.as_slice.ensures.value (c.if-is_account.ensures.accounted refl)
