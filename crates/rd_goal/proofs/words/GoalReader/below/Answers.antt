use Rattle.std.proofs.Common.{sym}
use Rattle.rd_goal.proofs.WordLaws.{is_wrong, none_below, not_below, reads_one}
use Rattle.rd_goal.specs.Written.{IsNoneBelow, Numeral}
use Rattle.rd_goal.proofs.words.GoalReader.below.Goals as goal
use Rattle.rd_goal.proofs.words.GoalReader.below.Goals.{in_default-via-in-Some+else-number-limit, in_default-via-in_default}

pub wanted-requires : goal.wanted-requires
wanted-requires c =
    let word = c.in_ok-word.word.now in
    let none : IsNoneBelow c.args.limit word = elim c.in_default.branch [
      | in_default-via-in-Some+else-number-limit w ↦ not_below c.args.limit w.in-Some.number word (sym w.in-Some.ensures) w.if-number-limit.false
      | in_default-via-in_default w ↦ none_below c.args.limit word (sym w.in_default.ensures)
    ] in
    is_wrong c.args.what c.args.self.now c.next.new.self word c.in_ok-word.ensures.last c.in_ok-word.ensures.source (c.requires.limit word none)

pub returns-in-Some-clause-read : goal.returns-in-Some-clause-read
returns-in-Some-clause-read c =
    reads_one (Numeral c.in-Some.number) c.args.self.now c.next.new.self c.in_ok-word.word.now (sym c.in-Some.ensures)
    c.in_ok-word.ensures.read c.in_ok-word.ensures.source
