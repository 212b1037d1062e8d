-- The goals of `Recent::keep` that the check left open.
use Rattle.std.proofs.Common.{◌∙◌, ap, Option, List, Some, subst, sym}
use Rattle.std.proofs.lemmas.List.Elements.{All-set}
use Rattle.std.specs.Prelude.{IfSome}
use Rattle.rd_command.specs.declared.recent.RecentRow.{RecentRow}
use Rattle.rd_command.specs.Bindings.{KnownView, bound_in}
use Rattle.rd_command.specs.Recents.{AreRows, IsRow}
use Rattle.rd_command.proofs.recent.Recent.keep.Goals as goal

pub invariant_of-self : goal.invariant_of-self
invariant_of-self c =
    let known = c.self.inside.known.now in
    subst (λ (rows : List (Option RecentRow)). AreRows known rows) (sym c.put.ensures)
    (All-set (λ (place : Option RecentRow). IfSome place (IsRow known)) c.self.inside.rows c.place_of.result (Some c.in-Some.row)
    (c.in-Some.ensures known (c.requires ∙ ap (λ (of : KnownView). bound_in of c.args.command.now) (sym c.self.view_is))) c.self.invariant)
