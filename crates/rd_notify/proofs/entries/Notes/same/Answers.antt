-- The goal of same that the check left open.
use Rattle.std.proofs.Common.{rules, ◌≡◌, List, subst}
use Rattle.std.specs.Bool.{Decides}
use Rattle.std.proofs.lemmas.Slice.Eq.{slice_eq-Decides}
use Rattle.rd_notify.specs.declared.entries.Entry.{Entry}
use Rattle.rd_notify.specs.contracts.entries.EntryPartialEq.TheImpl as entry
use Rattle.rd_notify.proofs.entries.Notes.same.Goals as goal

same_entry : (a b : Entry) → Decides (entry.eq-value.it a b) (a ≡ b)
same_entry a b = search rules

pub returns : goal.returns
returns c =
    let one : c.as_slice.result.now ≡ c.args.self.now = search rules in
    let other : c.as_slice-2.result.now ≡ c.args.other.now = search rules in
    let decided = slice_eq-Decides same_entry c.as_slice.result.now c.as_slice-2.result.now c.eq.result c.eq.ensures in
    subst (λ (es : List Entry). Decides c.eq.result (c.args.self.now ≡ es)) other
    (subst (λ (es : List Entry). Decides c.eq.result (es ≡ c.as_slice-2.result.now)) one decided)
