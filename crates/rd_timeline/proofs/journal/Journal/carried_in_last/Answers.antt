-- The goals of `Journal::carried_in_last` that the check left open.
use Rattle.std.proofs.Common.{◌≡◌, ◌∙◌, ◌+◌, ◌-◌, ap, arith, drop, length, sym, take}
use Rattle.std.specs.Prelude.{ℕ, List}
use Rattle.std.proofs.lemmas.List.{drop-take}
use Rattle.rd_timeline.specs.Decoded.{carried_among}
use Rattle.rd_timeline.proofs.DecodedLaws.{carried_in-parts}
use Rattle.rd_timeline.proofs.JournalLaws.{done_count, carried_done, carried_in_last}
use Rattle.rd_timeline.proofs.journal.Journal.carried_in_last.Goals as goal

pub returns-then-done-eq0 : goal.returns-then-done-eq0
returns-then-done-eq0 c =
    omega (
      arith,
      c.done.ensures,
      c.if-done-eq0.true,
      carried_done c.self.inside c.args.self.now c.self.view_is c.self.invariant,
      carried_in-parts c.args.self.now.done (length c.args.self.now.done - c.args.n),
    )

pub overflow_sub-self-inside : goal.overflow_sub-self-inside
overflow_sub-self-inside c = omega (arith, c.requires, done_count c.self.inside c.args.self.now c.self.view_is c.self.invariant)

pub returns : goal.returns
returns c =
    let d = c.self.inside.done in
    let m = d - c.args.n in
    let bytes = c.self.inside.moves.items in
    let whole : m + (d - m) ≡ d = omega arith in
    c.carried_among.ensures ∙ ap (λ (bs : List ℕ). carried_among (take (d - m) (drop m bs))) c.deref.ensures.value
    ∙ ap carried_among (sym (drop-take m (d - m) bytes) ∙ ap (λ k. drop m (take k bytes)) whole)
    ∙ sym (carried_in_last c.self.inside c.args.self.now c.args.n c.self.view_is c.self.invariant)
