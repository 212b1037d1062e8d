use Rattle.std.proofs.Common.{◌∙◌, ℕ, ap, arith, subst, sym}
use Rattle.rd_goal.specs.Reading.{DraftView, HasFormula, IsRead, IsSettled}
use Rattle.rd_goal.proofs.DraftLaws.{ends, no_items, weaker}
use Rattle.rd_goal.proofs.reading.Draft.end.Goals as goal

pub returns-then-is_empty-clause-read : goal.returns-then-is_empty-clause-read
returns-then-is_empty-clause-read c signs h =
    let one = sym c.strength.ensures in
    let settled =
    subst (λ (n : ℕ). IsSettled n c.settle.new.self signs) c.strength.ensures
    (c.in_ok-settle.ensures.settled signs (subst (λ (n : ℕ). HasFormula n c.args.self signs) one
    (weaker 1 3 c.args.self signs (omega arith) h))) in
    subst (λ (d : DraftView). IsRead signs d.rows) (sym c.draft.view_is) (ends c.settle.new.self signs (sym (ap (λ (d : DraftView). d.pending) c.draft.view_is) ∙ no_items c.draft.inside.pending.items c.if-is_empty.ensures) settled)
