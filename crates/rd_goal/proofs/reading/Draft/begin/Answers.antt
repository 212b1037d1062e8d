use Rattle.std.proofs.Common.{◌∙◌, ◌++◌, ◌∷◌, [], ap, refl, subst, sym}
use Rattle.std.specs.Prelude.{codes}
use Rattle.rd_goal.specs.Reading.{DraftView, HasFormula, IsWanting}
use Rattle.rd_goal.specs.Written.{not_sign, open_sign}
use Rattle.rd_goal.proofs.DraftLaws.{claimed, denies, opens, wanting-words}
use Rattle.rd_goal.proofs.WordLaws.{reads_along, reads_itself}
use Rattle.rd_goal.proofs.reading.Draft.begin.Goals as goal

pub returns-then-takes-clause-goes_on : goal.returns-then-takes-clause-goes_on
returns-then-takes-clause-goes_on c signs h =
    let words = c.takes.new.self in
    let draft : DraftView = record { words = c.self.inside.reader; rows = c.self.inside.goal; operands = c.self.inside.rows.items; pending = c.self.inside.pending.items } in
    let was = wanting-words words draft signs (subst (λ (d : DraftView). IsWanting d signs) (sym c.self.view_is) h) in
    let old = ap (λ (d : DraftView). d.words) c.self.view_is in
    record {
      more = not_sign ∷ [];
      reads =
          reads_along (not_sign ∷ []) c.self.inside.reader c.args.self.now.words words c.pend.new.self.words old (sym c.in_ok-pend.ensures.words)
          (reads_itself c.self.inside.reader words (codes "not") (c.if-takes.ensures.read refl) c.if-takes.ensures.source);
      amid = subst (λ (d : DraftView). IsWanting d (signs ++ not_sign ∷ [])) (sym c.in_ok-pend.ensures.pending) (denies (record draft { words = words }) signs was);
    }

pub returns-then-takes-2-clause-goes_on : goal.returns-then-takes-2-clause-goes_on
returns-then-takes-2-clause-goes_on c signs h =
    let words = c.takes-2.new.self in
    let draft : DraftView = record { words = c.self.inside.reader; rows = c.self.inside.goal; operands = c.self.inside.rows.items; pending = c.self.inside.pending.items } in
    let was = wanting-words words draft signs (subst (λ (d : DraftView). IsWanting d signs) (sym c.self.view_is) h) in
    let old = c.if-takes.ensures.stays refl ∙ ap (λ (d : DraftView). d.words) c.self.view_is in
    record {
      more = open_sign ∷ [];
      reads =
          reads_along (open_sign ∷ []) c.takes.new.self c.args.self.now.words words c.pend-then-takes-2.new.self.words old (sym c.in_ok-pend-2.ensures.words)
          (reads_itself c.takes.new.self words (codes "(") (c.if-takes-2.ensures.read refl) c.if-takes-2.ensures.source);
      amid = subst (λ (d : DraftView). IsWanting d (signs ++ open_sign ∷ [])) (sym c.in_ok-pend-2.ensures.pending) (opens (record draft { words = words }) signs was);
    }

pub returns-clause-goes_on : goal.returns-clause-goes_on
returns-clause-goes_on c signs h =
    let words = c.claim.new.reader in
    let said = c.in_ok-claim.ensures.read in
    let draft : DraftView = record { words = c.self.inside.reader; rows = c.self.inside.goal; operands = c.self.inside.rows.items; pending = c.self.inside.pending.items } in
    let was = wanting-words words draft signs (subst (λ (d : DraftView). IsWanting d signs) (sym c.self.view_is) h) in
    let old = c.if-takes-2.ensures.stays refl ∙ c.if-takes.ensures.stays refl ∙ ap (λ (d : DraftView). d.words) c.self.view_is in
    record {
      more = said.signs;
      reads =
          reads_along said.signs c.takes-2.new.self c.args.self.now.words words c.add.new.self.words old (sym c.in_ok-add.ensures.words) said.reads;
      amid =
          subst (λ (d : DraftView). HasFormula 3 d (signs ++ said.signs)) (sym c.in_ok-add.ensures.added)
          (claimed (record draft { words = words }) signs said.signs c.in_ok-claim.claim said.form was);
    }
