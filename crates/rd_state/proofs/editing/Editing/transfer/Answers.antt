-- The goals of `Editing::transfer` that the check left open.
use Rattle.rd_state.proofs.TransferLaws.{CanUndo-from_transfer, calm-from_transfer, Reaches-from_transfer, short-from_transfer}
use Rattle.rd_state.proofs.editing.Editing.transfer.Goals as goal

pub invariant_of-self : goal.invariant_of-self
invariant_of-self c =
    let can =
    CanUndo-from_transfer c.act_transfer.result c.args.self.now _ _ _ _ _ _ _ c.args.transfer c.self.view_is c.sizes.ensures c.requires
    (c.self.invariant.within, c.self.invariant.can_undo) c.act_transfer.ensures.state c.act_transfer.ensures.record c.act_transfer.ensures.err c.act_transfer.ensures.err_record in
    record {
      within = can.0;
      can_undo = can.1;
      calm_since =
          calm-from_transfer c.act_transfer.result c.args.self.now _ _ _ _ _ _ _ c.args.transfer c.self.view_is c.sizes.ensures c.requires c.self.invariant.within
          c.act_transfer.ensures.grows c.act_transfer.ensures.state c.act_transfer.ensures.record c.act_transfer.ensures.err c.act_transfer.ensures.err_record c.self.invariant.calm_since;
    }

pub returns-clause-ok : goal.returns-clause-ok
returns-clause-ok c =
    Reaches-from_transfer c.act_transfer.result c.args.self.now _ _ _ _ _ _ _ _ c.args.transfer c.self.view_is c.sizes.ensures c.requires c.self.invariant.within c.act_transfer.ensures.grows
    c.act_transfer.ensures.state c.act_transfer.ensures.record

pub returns-clause-short : goal.returns-clause-short
returns-clause-short c = short-from_transfer c.act_transfer.result c.args.self.now _ _ _ _ _ c.args.transfer c.self.view_is c.act_transfer.ensures.short
