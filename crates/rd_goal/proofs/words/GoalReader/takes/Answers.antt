use Rattle.std.proofs.lemmas.Slice.Eq.{bytes_eq-Decides}
use Rattle.std.proofs.Common.{◌≡◌, true, false, ◌∙◌, ◌∷◌, ◌+◌, ℕ, List, ap, drop, sym}
use Rattle.rd_text.specs.Words.{texts}
use Rattle.rd_goal.specs.Reading.{WordsView}
use Rattle.rd_goal.proofs.WordLaws.{equal_bytes, next_ahead}
use Rattle.rd_goal.proofs.words.GoalReader.takes.Goals as goal

pub returns-in-Some-clause-read : goal.returns-in-Some-clause-read
returns-in-Some-clause-read c is =
    sym (ap (λ (v : WordsView). v.ahead) c.self.view_is)
    ∙ next_ahead c.self.inside.words.now c.self.inside.read c.in-Some.word.now c.in-Some.ensures.lookup.3.0 c.in-Some.ensures.lookup.1
    ∙ ap (λ (w : List ℕ). w ∷ drop (c.self.inside.read + 1) (texts c.self.inside.words.now)) (equal_bytes c.in-Some.word.now.now c.args.wanted.now (sym c.if-eq.ensures))

pub returns-in-Some-2-clause-other : goal.returns-in-Some-2-clause-other
returns-in-Some-2-clause-other c rest is ahead =
    let word = c.in-Some.word.now.now in
    let here = sym (ap (λ (v : WordsView). v.ahead) c.self.view_is)
    ∙ next_ahead c.self.inside.words.now c.self.inside.read c.in-Some.word.now c.in-Some.ensures.lookup.3.0 c.in-Some.ensures.lookup.1 in
    let both = sym here ∙ ahead in
    let same : word ≡ c.args.wanted.now = cc in
    let bad : false ≡ true = c.if-eq.ensures ∙ (bytes_eq-Decides word c.args.wanted.now).1 same in
    absurd cc
