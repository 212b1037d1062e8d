-- The goal of `CarriedList::take_back` that the check left open.
use Rattle.std.proofs.Common.{◌∙◌, ◌-◌, ◌++◌, ◌≡◌, ap, arith, drop, length, sym, take}
use Rattle.std.proofs.lemmas.List.{drop-append-le, length-take-le, take-append-drop}
use Rattle.rd_timeline.specs.CarriedView.{CarriedView}
use Rattle.rd_timeline.proofs.carried.CarriedList.take_back.Goals as goal

pub returns-clause-undone : goal.returns-clause-undone
returns-clause-undone c =
    let d = c.self.inside.done in
    let carried = c.self.inside.kept.items in
    let n = c.args.n in
    let count : length (take d carried) ≡ d = length-take-le d carried c.self.invariant in
    let border : d - n ≡ length (take d carried) - n = omega (arith, count) in
    ap (drop (d - n)) (sym (take-append-drop d carried)) ∙ drop-append-le (d - n) (take d carried) (drop d carried) (omega (arith, count))
    ∙ ap (λ k. drop k (take d carried) ++ drop d carried) border
    ∙ ap (λ (v : CarriedView). drop (length v.done - n) v.done ++ v.undone) c.self.view_is
