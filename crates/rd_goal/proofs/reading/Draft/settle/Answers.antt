use Rattle.std.proofs.Common.{◌≡◌, ◌∙◌, ◌<◌, ◌≤◌, ◌-◌, ◌++◌, ◌∷◌, [], List, Some, None, ap, arith, length, subst, sym, take}
use Rattle.std.specs.Prelude.{slice_get}
use Rattle.rd_goal.specs.Reading.{DraftView, HasFormula, strength_of}
use Rattle.rd_goal.specs.declared.reading.PendingOperator.{PendingOperator}
use Rattle.rd_goal.proofs.DraftLaws.{joins, last_none, last_split, settled_empty, settled_weak}
use Rattle.rd_goal.proofs.reading.Draft.settle.Goals as goal

pub returns-in-Some-2-clause-settled : goal.returns-in-Some-2-clause-settled
returns-in-Some-2-clause-settled c signs h =
    let op = c.in-Some.operator in
    let pending = c.self.inside.pending.items in
    let at = subst (λ (xs : List PendingOperator). slice_get xs (length xs - 1) ≡ Some op) c.deref.ensures.0
    (sym c.last.ensures.value ∙ sym c.copied.ensures ∙ c.in-Some.is) in
    let split = sym (ap (λ (d : DraftView). d.pending) c.self.view_is) ∙ last_split pending op at in
    let weak : strength_of op < c.args.strength = let is = c.strength.ensures in let less = c.if-strength.false in omega (arith, is, less) in
    settled_weak c.args.strength c.loop.self signs (take (length pending - 1) pending) op split weak (c.loop.invariant.stands signs h)

pub returns-in-Some-2-2-clause-settled : goal.returns-in-Some-2-2-clause-settled
returns-in-Some-2-2-clause-settled c signs h =
    let pending = c.self.inside.pending.items in
    let at = subst (λ (xs : List PendingOperator). slice_get xs (length xs - 1) ≡ None) c.deref.ensures.0
    (sym c.last.ensures.value ∙ sym c.in-Some-2.ensures) in
    let empty = sym (ap (λ (d : DraftView). d.pending) c.self.view_is) ∙ last_none pending at in
    settled_empty c.args.strength c.loop.self signs c.requires empty (c.loop.invariant.stands signs h)

pub loop-preserved : goal.loop-preserved
loop-preserved c =
    let op = c.in-Some.operator in
    let strength = c.args.strength in
    let draft : DraftView = record { words = c.self.inside.reader; rows = c.self.inside.goal; operands = c.self.inside.rows.items; pending = c.self.inside.pending.items } in
    let pending = c.self.inside.pending.items in
    let rest = c.pop.new.self.items in
    let at = subst (λ (xs : List PendingOperator). slice_get xs (length xs - 1) ≡ Some op) c.deref.ensures.0
    (sym c.last.ensures.value ∙ sym c.copied.ensures ∙ c.in-Some.is) in
    let split = last_split pending op at ∙ ap (λ (r : List PendingOperator). r ++ op ∷ []) (sym c.pop.ensures.rest) in
    let strong : strength ≤ strength_of op = let is = c.strength.ensures in let more = c.if-strength.true in omega (arith, is, more) in
    record {
      words = c.in_ok-join-in-Some.ensures.words ∙ ap (λ (d : DraftView). d.words) c.self.view_is ∙ c.loop.invariant.words;
      stands = λ signs h.
          joins strength op draft c.join.new.self rest signs split strong
          (subst (λ (d : DraftView). HasFormula strength d signs) (sym c.self.view_is) (c.loop.invariant.stands signs h))
          c.in_ok-join-in-Some.ensures.joined;
    }
