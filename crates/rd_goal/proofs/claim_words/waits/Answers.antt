use Rattle.std.proofs.Common.{◌∷◌, refl}
use Rattle.rd_goal.specs.Written.{Itself, named_task}
use Rattle.rd_goal.proofs.WordLaws.{reads_itself, reads_more}
use Rattle.rd_goal.proofs.claim_words.waits.Goals as goal

pub returns-in_ok-place-in-Some-clause-read : goal.returns-in_ok-place-in-Some-clause-read
returns-in_ok-place-in-Some-clause-read c =
    let place = c.in_ok-place-in-Some.ensures.read in
    let word = c.in-Some.word.now in
    let there = reads_more (Itself word) place.signs c.task.new.self c.operand.new.self c.place.new.reader
    (reads_itself c.task.new.self c.operand.new.self word c.in-Some.ensures.read c.in-Some.ensures.source) place.reads in
    record {
      signs = named_task c.in_ok-task.task ∷ Itself word ∷ place.signs;
      form = (Itself word ∷ place.signs, place.form, refl);
      reads = reads_more (named_task c.in_ok-task.task) (Itself word ∷ place.signs) c.args.reader.now c.task.new.self c.place.new.reader c.in_ok-task.ensures.read there;
    }
