use Rattle.std.proofs.Common.{◌∷◌, [], inl, refl}
use Rattle.rd_goal.specs.Written.{Itself, named_task, phase_word}
use Rattle.rd_goal.proofs.WordLaws.{reads_more}
use Rattle.rd_goal.proofs.claim_words.in_named_phase.Goals as goal

pub returns-clause-read : goal.returns-clause-read
returns-clause-read c = record {
  signs = named_task c.in_ok-task.task ∷ Itself (phase_word c.in_ok-name.name) ∷ [];
  form = rw c.in_phase.ensures (inl refl);
  reads = reads_more (named_task c.in_ok-task.task) (Itself (phase_word c.in_ok-name.name) ∷ []) c.args.reader.now c.task.new.self c.phase.new.self c.in_ok-task.ensures.read c.in_ok-name.ensures.read;
}
