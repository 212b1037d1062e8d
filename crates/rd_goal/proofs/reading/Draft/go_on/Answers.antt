use Rattle.std.proofs.Common.{◌∙◌, ◌++◌, ◌∷◌, ℕ, [], ap, arith, subst, sym}
use Rattle.rd_goal.specs.Reading.{DraftView, HasFormula, IsSettled, IsWanting, Reads, joining_word}
use Rattle.rd_goal.specs.declared.words.Joining.{Joining}
use Rattle.rd_goal.specs.Written.{Itself, and_sign, close_sign, or_sign}
use Rattle.rd_goal.proofs.DraftLaws.{ands, formula-words, ors, weaker}
use Rattle.rd_goal.proofs.WordLaws.{reads_along}
use Rattle.rd_goal.proofs.reading.Draft.go_on.Goals as goal

pub returns-in_ok-close-in-Close-clause-goes_on : goal.returns-in_ok-close-in-Close-clause-goes_on
returns-in_ok-close-in-Close-clause-goes_on c signs h =
    let words = c.joining.new.self in
    let draft : DraftView = record { words = c.self.inside.reader; rows = c.self.inside.goal; operands = c.self.inside.rows.items; pending = c.self.inside.pending.items } in
    let was = formula-words words draft 3 signs (subst (λ (d : DraftView). HasFormula 3 d signs) (sym c.self.view_is) h) in
    record {
      more = close_sign ∷ [];
      reads =
          reads_along (close_sign ∷ []) c.self.inside.reader c.args.self.now.words words c.close.new.self.words (ap (λ (d : DraftView). d.words) c.self.view_is)
          (sym c.in_ok-close-in-Close.ensures.words) (subst (λ (j : Joining). Reads (Itself (joining_word j) ∷ []) c.self.inside.reader words) c.in-Close.is c.in_ok-joining.ensures.read);
      amid = c.in_ok-close-in-Close.ensures.closed signs was;
    }

pub returns-in_ok-pend-in-Or-clause-goes_on : goal.returns-in_ok-pend-in-Or-clause-goes_on
returns-in_ok-pend-in-Or-clause-goes_on c signs h =
    let words = c.joining.new.self in
    let draft : DraftView = record { words = c.self.inside.reader; rows = c.self.inside.goal; operands = c.self.inside.rows.items; pending = c.self.inside.pending.items } in
    let was = formula-words words draft 3 signs (subst (λ (d : DraftView). HasFormula 3 d signs) (sym c.self.view_is) h) in
    let settled =
    subst (λ (n : ℕ). IsSettled n c.settle-in-Or.new.self signs) c.strength-in-Or.ensures
    (c.in_ok-settle-in-Or.ensures.settled signs (subst (λ (n : ℕ). HasFormula n (record draft { words = words }) signs) (sym c.strength-in-Or.ensures)
    (weaker 1 3 (record draft { words = words }) signs (omega arith) was))) in
    record {
      more = or_sign ∷ [];
      reads =
          reads_along (or_sign ∷ []) c.self.inside.reader c.args.self.now.words words c.pend-in-Or.new.self.words (ap (λ (d : DraftView). d.words) c.self.view_is)
          (sym (c.in_ok-pend-in-Or.ensures.words ∙ c.in_ok-settle-in-Or.ensures.words)) (subst (λ (j : Joining). Reads (Itself (joining_word j) ∷ []) c.self.inside.reader words) c.in-Or.is c.in_ok-joining.ensures.read);
      amid =
          subst (λ (d : DraftView). IsWanting d (signs ++ or_sign ∷ [])) (sym c.in_ok-pend-in-Or.ensures.pending)
          (ors c.settle-in-Or.new.self signs settled);
    }

pub returns-in_ok-pend-in-And-clause-goes_on : goal.returns-in_ok-pend-in-And-clause-goes_on
returns-in_ok-pend-in-And-clause-goes_on c signs h =
    let words = c.joining.new.self in
    let draft : DraftView = record { words = c.self.inside.reader; rows = c.self.inside.goal; operands = c.self.inside.rows.items; pending = c.self.inside.pending.items } in
    let was = formula-words words draft 3 signs (subst (λ (d : DraftView). HasFormula 3 d signs) (sym c.self.view_is) h) in
    let settled =
    subst (λ (n : ℕ). IsSettled n c.settle.new.self signs) c.strength.ensures
    (c.in_ok-settle-in-And.ensures.settled signs (subst (λ (n : ℕ). HasFormula n (record draft { words = words }) signs) (sym c.strength.ensures)
    (weaker 2 3 (record draft { words = words }) signs (omega arith) was))) in
    record {
      more = and_sign ∷ [];
      reads =
          reads_along (and_sign ∷ []) c.self.inside.reader c.args.self.now.words words c.pend.new.self.words (ap (λ (d : DraftView). d.words) c.self.view_is)
          (sym (c.in_ok-pend-in-And.ensures.words ∙ c.in_ok-settle-in-And.ensures.words)) (subst (λ (j : Joining). Reads (Itself (joining_word j) ∷ []) c.self.inside.reader words) c.in-And.is c.in_ok-joining.ensures.read);
      amid =
          subst (λ (d : DraftView). IsWanting d (signs ++ and_sign ∷ [])) (sym c.in_ok-pend-in-And.ensures.pending)
          (ands c.settle.new.self signs settled);
    }
