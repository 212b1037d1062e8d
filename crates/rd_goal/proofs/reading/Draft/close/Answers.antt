use Rattle.std.proofs.Common.{ℕ, arith, subst, sym}
use Rattle.rd_goal.specs.Reading.{DraftView, HasFormula, IsSettled}
use Rattle.rd_goal.proofs.DraftLaws.{closes, weaker}
use Rattle.rd_goal.proofs.reading.Draft.close.Goals as goal

pub returns-clause-closed : goal.returns-clause-closed
returns-clause-closed c signs h =
    let settled =
    subst (λ (n : ℕ). IsSettled n c.settle.new.self signs) c.strength.ensures
    (c.in_ok-settle.ensures.settled signs (subst (λ (n : ℕ). HasFormula n c.args.self.now signs) (sym c.strength.ensures)
    (weaker 1 3 c.args.self.now signs (omega arith) h))) in
    let draft : DraftView = record { words = c.self.inside.reader; rows = c.self.inside.goal; operands = c.self.inside.rows.items; pending = c.self.inside.pending.items } in
    let was = subst (λ (d : DraftView). IsSettled 1 d signs) (sym c.self.view_is) settled in
    closes draft signs c.pop.new.self.items c.in-Some._open c.in-Some.ensures.items was
