use Rattle.std.proofs.Common.{◌∙◌, refl}
use Rattle.rd_hall.proofs.AccountLaws.{IsAccounted-from_account}
use Rattle.rd_hall.proofs.account.is_account.Goals as goal

pub returns-then-all_fit-clause-accounted : goal.returns-then-all_fit-clause-accounted
returns-then-all_fit-clause-accounted g c =
    λ done. IsAccounted-from_account _ _ (record { fit = c.if-all_fit.ensures.exact.0 refl; count = c.is_count.ensures.0 done ∙ c.len.ensures }) (c.if-all_fit.ensures.series refl)
