use Rattle.std.proofs.Common.{◌∷◌, [], refl}
use Rattle.rd_goal.specs.Written.{Numeral, named_task}
use Rattle.rd_goal.proofs.WordLaws.{reads_more}
use Rattle.rd_goal.proofs.claim_words.value.Goals as goal

pub returns-clause-read : goal.returns-clause-read
returns-clause-read c = record {
  signs = named_task c.in_ok-task.task ∷ Numeral c.in_ok-index.index ∷ [];
  form = refl;
  reads = reads_more (named_task c.in_ok-task.task) (Numeral c.in_ok-index.index ∷ []) c.args.reader.now c.task.new.self c.index.new.self c.in_ok-task.ensures.read c.in_ok-index.ensures.read;
}
