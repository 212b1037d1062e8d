-- The goals of `go_back` that the check left open.
use Rattle.std.proofs.Common.{◌≡◌, ◌∙◌, ◌-◌, ◌<◌, [], length, drop, take, ap, ap₂, sym, arith}
use Rattle.std.proofs.Math.ListN.{drop_of_length-le}
use Rattle.std.proofs.Math.Seq.{take-length}
use Rattle.std.proofs.lemmas.List.{take-take}
use Rattle.rd_state.specs.PackedChanges.{before_last, changes_in, last_change}
use Rattle.rd_state.specs.Undoing.{undone}
use Rattle.rd_state.proofs.PackingLaws.{length-changes_in, peeled}
use Rattle.rd_state.proofs.UndoLaws.{last_of}
use Rattle.rd_state.proofs.change_list.go_back.Goals as goal

pub apply_last-rest-requires-clause-ends : goal.apply_last-rest-requires-clause-ends
apply_last-rest-requires-clause-ends c = (peeled c.loop-left.left c.loop-left.rest.now (omega arith) c.loop-left.invariant.are).ends

pub apply_last-rest-requires-clause-fits : goal.apply_last-rest-requires-clause-fits
apply_last-rest-requires-clause-fits c =
    let n = c.loop-left.left in
    let rest = c.loop-left.rest.now in
    let peel = peeled n rest (omega arith) c.loop-left.invariant.are in
    let more : c.args.len < length (changes_in n rest) = omega (arith, length-changes_in n rest) in
    let last = last_of c.loop-left.state c.args.len (changes_in n rest) (changes_in (n - 1) (before_last rest)) (last_change rest) peel.is more c.loop-left.invariant.fits in
    last.fits

pub loop-left-preserved : goal.loop-left-preserved
loop-left-preserved c =
    let n = c.loop-left.left in
    let rest = c.loop-left.rest.now in
    let peel = peeled n rest (omega arith) c.loop-left.invariant.are in
    let more : c.args.len < length (changes_in n rest) = omega (arith, length-changes_in n rest) in
    let last = last_of c.loop-left.state c.args.len (changes_in n rest) (changes_in (n - 1) (before_last rest)) (last_change rest) peel.is more c.loop-left.invariant.fits in
    let shorter : take (length (before_last rest)) c.args.bytes.now ≡ before_last rest =
    sym (take-take (length (before_last rest)) (length rest) c.args.bytes.now peel.within)
    ∙ ap (take (length (before_last rest))) c.loop-left.invariant.first ∙ peel.cut in
    rw (c.apply_last-rest.ensures.state, c.apply_last-rest.ensures.rest) (record {
      are = peel.rest;
      within = omega arith;
      first = shorter;
      leads = last.leads ∙ c.loop-left.invariant.leads;
      fits = last.rest_fits;
      before = last.before ∙ c.loop-left.invariant.before;
    })

pub returns-clause-state : goal.returns-clause-state
returns-clause-state c =
    let all = changes_in c.loop-left.left c.loop-left.rest.now in
    let gone : drop c.args.len all ≡ [] = drop_of_length-le all (omega (arith, length-changes_in c.loop-left.left c.loop-left.rest.now)) in
    sym (ap (undone c.loop-left.state) gone) ∙ c.loop-left.invariant.leads

pub returns-clause-left : goal.returns-clause-left
returns-clause-left c =
    let all = changes_in c.loop-left.left c.loop-left.rest.now in
    let len : c.args.len ≡ c.loop-left.left = omega arith in
    let whole : take c.args.len all ≡ all = ap (λ k. take k all) (len ∙ sym (length-changes_in c.loop-left.left c.loop-left.rest.now)) ∙ take-length all in
    ap₂ (λ n bytes. changes_in n bytes) len c.loop-left.invariant.first ∙ sym whole ∙ c.loop-left.invariant.before
