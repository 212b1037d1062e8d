-- The goal of serve that the check left open.
use Rattle.std.proofs.Common.{◌∙◌, ap, subst, sym}
use Rattle.rd_names.specs.Apps.{AreAsMany}
use Rattle.rd_command.specs.Bindings.{KnownView, bound_in}
use Rattle.rd_command.proofs.Offered.{bound_is_there}
use Rattle.rd_desk.specs.Debugger.{MachineView}
use Rattle.rd_desk.proofs.machine.DeskMachine.serve.Goals as goal

pub obey-requires-clause-named : goal.obey-requires-clause-named
obey-requires-clause-named c =
    let paired = subst (λ (v : MachineView). AreAsMany v.debugger.app.runs v.debugger.app.names) c.self.view_is c.self.invariant.named in
    bound_is_there c.args.self.now.debugger.app c.args.order.now.command c.in-Some-bound.bound.now paired
    (ap (λ (known : KnownView). bound_in known c.args.order.now.command) (sym c.requires.application) ∙ c.in-Some-bound.ensures.some)
