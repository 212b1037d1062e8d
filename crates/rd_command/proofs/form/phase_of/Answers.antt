-- The goals of phase_of that the check left open.
use Rattle.std.proofs.Common.{rules, codes, refl, arith}
use Rattle.std.proofs.lemmas.Slice.Eq.{text_from_reads}
use Rattle.rd_command.proofs.form.phase_of.Goals as goal

pub returns-in-failed : goal.returns-in-failed
returns-in-failed c = rw (text_from_reads c.args.word.now (codes "failed") (omega arith) (search rules)) refl
