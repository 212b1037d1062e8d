-- The goal of len that the check left open.
use Rattle.std.proofs.Common.{arith}
use Rattle.rd_desk.proofs.RowLaws.{as_many}
use Rattle.rd_desk.proofs.rows.Rows.len.Goals as goal

pub returns : goal.returns
returns c = omega (arith, c.len.ensures, c.self.inside.rows.ok.0, as_many c.self.inside c.args.self.now c.self.view_is)
