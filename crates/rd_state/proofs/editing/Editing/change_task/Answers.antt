-- The goals of `Editing::change_task` that the check left open.
use Rattle.std.proofs.Common.{refl}
use Rattle.rd_state.specs.Change.{Task}
use Rattle.rd_state.specs.TaskChanges.{the_task_change}
use Rattle.rd_state.proofs.EditLaws.{Reaches-from_act, CanUndo-from_act, calm-from_still_act, short-from_act}
use Rattle.rd_state.proofs.editing.Editing.change_task.Goals as goal

pub invariant_of-self : goal.invariant_of-self
invariant_of-self c =
    let change = Task c.args.task (the_task_change c.args.change) in
    let can =
    CanUndo-from_act c.act_of_task.result c.args.self.now _ _ _ _ _ _ _ change c.self.view_is c.sizes.ensures c.requires
    (c.self.invariant.within, c.self.invariant.can_undo) c.act_of_task.ensures.state c.act_of_task.ensures.record c.act_of_task.ensures.err c.act_of_task.ensures.err_record in
    record {
      within = can.0;
      can_undo = can.1;
      calm_since =
          calm-from_still_act c.act_of_task.result c.args.self.now _ _ _ _ _ _ _ change c.self.view_is c.sizes.ensures c.requires c.self.invariant.within
          c.act_of_task.ensures.grows c.act_of_task.ensures.state c.act_of_task.ensures.record c.act_of_task.ensures.err c.act_of_task.ensures.err_record c.self.invariant.calm_since refl;
    }

pub returns-clause-ok : goal.returns-clause-ok
returns-clause-ok c =
    Reaches-from_act c.act_of_task.result c.args.self.now _ _ _ _ _ _ _ _ (Task c.args.task (the_task_change c.args.change)) c.self.view_is c.sizes.ensures c.requires c.self.invariant.within
    c.act_of_task.ensures.grows c.act_of_task.ensures.state c.act_of_task.ensures.record

pub returns-clause-short : goal.returns-clause-short
returns-clause-short c = short-from_act c.act_of_task.result c.args.self.now _ _ _ _ _ (Task c.args.task (the_task_change c.args.change)) c.self.view_is c.act_of_task.ensures.short
