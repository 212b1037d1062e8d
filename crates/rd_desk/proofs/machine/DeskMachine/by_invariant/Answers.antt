-- The goals of by_invariant that the check left open.
use Rattle.std.proofs.Common.{◌≡◌, ap, arith, subst, sym}
use Rattle.rd_state.specs.Boot.{boot_of}
use Rattle.rd_state.specs.Snapshot.{Snapshot}
use Rattle.rd_timeline.specs.History.{state_or}
use Rattle.rd_timeline.specs.Runs.{moves_of}
use Rattle.rd_desk.specs.Debugger.{MachineView, target_of}
use Rattle.rd_desk.specs.DeskView.{LeadsBack}
use Rattle.rd_desk.specs.MachineInside.{debugger_of}
use Rattle.rd_desk.specs.Views.{AreNamesOf}
use Rattle.rd_desk.proofs.NameLaws.{named_in_state}
use Rattle.rd_desk.proofs.machine.DeskMachine.by_invariant.Goals as goal

pub returns-clause-paired : goal.returns-clause-paired
returns-clause-paired c =
    let m = c.self.inside in
    let target : target_of (debugger_of m) ≡ m.timeline.target = ap (state_or (boot_of m.timeline.app)) c.by_invariant.ensures.leads in
    let named = named_in_state m.timeline.app m.names m.timeline.target c.self.invariant.named c.by_invariant.ensures.valid in
    subst (λ (v : MachineView). AreNamesOf (target_of v.debugger) v.debugger.app.names) c.self.view_is
    (subst (λ (s : Snapshot). AreNamesOf s m.names) (sym target) named)

pub returns-clause-leads_back : goal.returns-clause-leads_back
returns-clause-leads_back c =
    let m = c.self.inside in
    let target : target_of (debugger_of m) ≡ m.timeline.target = ap (state_or (boot_of m.timeline.app)) c.by_invariant.ensures.leads in
    let traced = c.by_invariant.ensures.traced in
    let back : LeadsBack m.timeline.app (moves_of m.timeline) m.timeline.target m.timeline.log = record {
      base = omega arith;
      each = omega (arith, traced.records);
      can = traced.rewinds;
      back = traced.retraces;
    } in
    subst (λ (v : MachineView). LeadsBack v.debugger.app.runs v.debugger.moves (target_of v.debugger) v.log) c.self.view_is
    (subst (λ (s : Snapshot). LeadsBack m.timeline.app (moves_of m.timeline) s m.timeline.log) (sym target) back)
