use Rattle.std.proofs.Common.{◌∙◌, ◌++◌, ◌∷◌, [], take, ap, sym}
use Rattle.std.specs.Prelude.{nat_eq, if◌then◌else◌}
use Rattle.std.proofs.lemmas.List.{take_more}
use Rattle.rd_hall.specs.SeatView.{next_place}
use Rattle.rd_hall.specs.Account.{receipts_of}
use Rattle.rd_hall.proofs.AccountLaws.{next_place-push}
use Rattle.rd_hall.proofs.account.next_of.Goals as goal

pub loop-gone-preserved : goal.loop-gone-preserved
loop-gone-preserved g c =
    let gones = c.args.gones.now in
    let i = c.loop-gone.gone-index in
    let item = c.gone-item.result in
    let who = c.args.who in
    let front = take_more gones i item c.loop-gone-test.true ∙ ap (λ x. take i gones ++ x ∷ []) (sym c.gone-item.is) in
    c.next_behind-next.ensures ∙ ap (λ n. if nat_eq item.who who then next_place n item.receipts else n) c.loop-gone.invariant
    ∙ sym (next_place-push who (take i gones) item) ∙ sym (ap (λ gs. next_place 0 (receipts_of who gs)) front)
