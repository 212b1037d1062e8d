-- The goals of `caller_on` that the check left open.
use Rattle.rd_kernel.proofs.CallLaws.{calls_from}
use Rattle.rd_kernel.proofs.calling.caller_on.Goals as goal

pub returns-clause-calls : goal.returns-clause-calls
returns-clause-calls c =
    calls_from c.args.app.now c.args.state.now c.args.core c.core.result c.requires.valid c.requires.core c.core.ensures.core
