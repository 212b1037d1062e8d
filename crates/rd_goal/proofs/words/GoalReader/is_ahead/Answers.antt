use Rattle.std.proofs.Common.{◌∙◌, List, ℕ, ap, sym}
use Rattle.rd_goal.specs.Reading.{WordsView, is_next}
use Rattle.rd_goal.proofs.WordLaws.{next_ahead}
use Rattle.rd_goal.proofs.words.GoalReader.is_ahead.Goals as goal

pub returns-in-Some : goal.returns-in-Some
returns-in-Some c =
    let here = sym (ap (λ (v : WordsView). v.ahead) c.self.view_is)
    ∙ next_ahead c.self.inside.words.now c.self.inside.read c.in-Some.word.now c.in-Some.ensures.lookup.3.0 c.in-Some.ensures.lookup.1 in
    c.eq.ensures ∙ ap (λ (ahead : List (List ℕ)). is_next ahead c.args.wanted.now) (sym here)
