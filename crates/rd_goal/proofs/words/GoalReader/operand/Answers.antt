use Rattle.std.proofs.Common.{◌∙◌, ap, sym}
use Rattle.rd_goal.specs.Reading.{WordsView}
use Rattle.rd_goal.proofs.WordLaws.{next_ahead}
use Rattle.rd_goal.proofs.words.GoalReader.operand.Goals as goal

pub returns-in-Some-clause-read : goal.returns-in-Some-clause-read
returns-in-Some-clause-read c =
    sym (ap (λ (v : WordsView). v.ahead) c.self.view_is)
    ∙ next_ahead c.self.inside.words.now c.self.inside.read c.in-Some.word.now c.in-Some.ensures.lookup.3.0 c.in-Some.ensures.lookup.1
