-- The goals of read_app that the check left open.
use Rattle.rd_script.proofs.AppLaws.{file_again, is_accepted, same_apart}
use Rattle.rd_script.proofs.file.read_app.Goals as goal

pub returns-clause-accepted : goal.returns-clause-accepted
returns-clause-accepted c = (is_accepted c.args.text.now c.read_bytes.result c.read_bytes.ensures.exact).0

pub returns-clause-limits : goal.returns-clause-limits
returns-clause-limits c = (is_accepted c.args.text.now c.read_bytes.result c.read_bytes.ensures.exact).1

pub returns-clause-only : goal.returns-clause-only
returns-clause-only c = λ app. λ says. λ limits.
    same_apart c.read_bytes.result app (rw (← file_again c.args.text.now app says limits) c.read_bytes.ensures.exact)
