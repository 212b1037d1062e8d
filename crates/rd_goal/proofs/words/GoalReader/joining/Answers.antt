use Rattle.rd_goal.specs.Reading.{joining_word}
use Rattle.rd_goal.specs.Written.{Itself}
use Rattle.rd_goal.proofs.WordLaws.{reads_one}
use Rattle.rd_goal.proofs.words.GoalReader.joining.Goals as goal

pub returns-in-Some-clause-read : goal.returns-in-Some-clause-read
returns-in-Some-clause-read c =
    reads_one (Itself (joining_word c.in-Some.joining)) c.args.self.now c.next.new.self c.in_ok-next.field-0.now c.in-Some.ensures.said
    c.in_ok-next.ensures.read c.in_ok-next.ensures.source
