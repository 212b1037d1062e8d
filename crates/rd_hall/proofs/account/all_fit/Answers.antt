use Rattle.std.proofs.Common.{arith, refl}
use Rattle.std.proofs.Common.{subst}
use Rattle.std.proofs.lemmas.List.Elements.{All-more}
use Rattle.rd_hall.specs.SeatView.{SeatView, IsSeries}
use Rattle.rd_hall.proofs.AccountLaws.{AllFit-more}
use Rattle.rd_hall.proofs.account.all_fit.Goals as goal

pub loop-place-preserved : goal.loop-place-preserved
loop-place-preserved g c =
    let more = AllFit-more c.args.history.now.entries c.args.gones.now c.loop-place.place c.index-gones-place-in-loop-place.result (omega arith) c.index-gones-place-in-loop-place.is (c.if-not-fits.ensures.0 refl) in
    record {
      rest = ((λ all. more.0 (c.loop-place.invariant.rest.0 all)), λ all. c.loop-place.invariant.rest.1 (more.1 all));
      series = All-more (λ gone. IsSeries gone.who 0 gone.receipts) c.args.gones.now c.loop-place.place c.index-gones-place.result (omega arith) c.loop-place.invariant.series (let P : SeatView → Type 0 = λ gone. IsSeries gone.who 0 gone.receipts in subst P c.index-gones-place.is c.by_invariant.ensures.series);
    }
