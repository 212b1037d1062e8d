-- The goal of depart that the check left open.
use Rattle.std.proofs.Common.{ap, arith, length}
use Rattle.std.specs.Prelude.{None, ◌-◌}
use Rattle.std.proofs.lemmas.List.{length-set, length_push}
use Rattle.rd_desk.specs.declared.entry.Event.TheVariants.{Leave}
use Rattle.rd_desk.specs.Debugger.{Debugger}
use Rattle.rd_desk.specs.DeskView.{entry_of}
use Rattle.rd_desk.proofs.DeskLaws.{legal_push}
use Rattle.rd_desk.proofs.desk.Desk.depart.Goals as goal

pub invariant_of-self : goal.invariant_of-self
invariant_of-self c =
    let d = c.self.inside in
    let whole = c.self.invariant in
    let there = rw (← c.self.view_is) at c.requires in
    let longer = ap length c.push.ensures.entries in
    let one_more = length_push d.history.entries (entry_of d.machine.debugger c.args.who Leave) in
    let as_many = ap (λ (e : Debugger). length e.sessions) c.leave.ensures.left in
    let same = length-set d.machine.debugger.sessions (c.args.who - 1) None in
    record {
      legal = legal_push d.machine.debugger d.history.entries c.args.who Leave c.leave.new.self.debugger c.push.new.self.entries whole.legal there c.leave.ensures.left
          c.push.ensures.entries;
      within = omega (arith, longer, one_more, c.leave.ensures.present, whole.within);
      joins = omega (arith, as_many, same, whole.joins);
      room = omega (arith, c.leave.ensures.present, c.push.ensures.room, whole.room);
    }
