-- The goals of `Editing::change` that the check left open.
use Rattle.rd_state.specs.Change.{the_change}
use Rattle.rd_state.proofs.EditLaws.{Reaches-from_act, CanUndo-from_act, calm-from_act, short-from_act}
use Rattle.rd_state.proofs.editing.Editing.change.Goals as goal

pub invariant_of-self : goal.invariant_of-self
invariant_of-self c =
    let can =
    CanUndo-from_act c.act-made.result c.args.self.now _ _ _ _ _ _ _ (the_change c.args.change) c.self.view_is c.sizes.ensures c.requires
    (c.self.invariant.within, c.self.invariant.can_undo) c.act-made.ensures.state c.act-made.ensures.record c.act-made.ensures.err c.act-made.ensures.err_record in
    record {
      within = can.0;
      can_undo = can.1;
      calm_since =
          calm-from_act c.act-made.result c.args.self.now _ _ _ _ _ _ _ _ (the_change c.args.change) c.self.view_is c.sizes.ensures c.requires c.self.invariant.within
          c.act-made.ensures.grows c.act-made.ensures.state c.act-made.ensures.record c.act-made.ensures.err c.act-made.ensures.err_record c.self.invariant.calm_since
          c.stays_calm-self-inside.ensures.before c.stays_calm-self-inside.ensures.still;
    }

pub returns-clause-ok : goal.returns-clause-ok
returns-clause-ok c =
    Reaches-from_act c.act-made.result c.args.self.now _ _ _ _ _ _ _ _ (the_change c.args.change) c.self.view_is c.sizes.ensures c.requires c.self.invariant.within c.act-made.ensures.grows
    c.act-made.ensures.state c.act-made.ensures.record

pub returns-clause-short : goal.returns-clause-short
returns-clause-short c = short-from_act c.act-made.result c.args.self.now _ _ _ _ _ (the_change c.args.change) c.self.view_is c.act-made.ensures.short
