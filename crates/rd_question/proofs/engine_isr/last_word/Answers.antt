use Rattle.std.proofs.Common.{◌∙◌, List, ℕ, ap, arith, subst}
use Rattle.std.specs.Borrow.{Bor}
use Rattle.std.specs.Prelude.{MatchOption, None}
use Rattle.std.specs.Str.{trim}
use Rattle.std.specs.Str.Pattern.{RFindsChar, SplitsAroundMatch}
use Rattle.rd_question.proofs.IsrLaws.{no_split, split_last}
use Rattle.rd_question.proofs.engine_isr.last_word.Goals as goal
use Rattle.rd_question.proofs.engine_isr.last_word.Goals.{in-Some, in-None}

pub returns-clause-front : goal.returns-clause-front
returns-clause-front c =
    let text = c.args.text.now in
    c.trim.ensures.trim ∙ ap trim (elim c.match-rsplit_once.branch [
      | in-Some w ↦
          let split = subst (λ r. MatchOption r (RFindsChar 32 text None) (λ x. SplitsAroundMatch (RFindsChar 32) text x.0.now x.1.now)) w.in-Some.is c.rsplit_once.ensures.cases in
          ap (λ (t : Bor (List ℕ) × Bor (List ℕ)). t.0.now) w.t-7-is ∙ (split_last 32 text w.in-Some.split.0.now w.in-Some.split.1.now (omega arith) split).0
      | in-None w ↦
          let split = subst (λ r. MatchOption r (RFindsChar 32 text None) (λ x. SplitsAroundMatch (RFindsChar 32) text x.0.now x.1.now)) w.in-None.is c.rsplit_once.ensures.cases in
          ap (λ (t : Bor (List ℕ) × Bor (List ℕ)). t.0.now) w.t-7-is ∙ (no_split 32 text (omega arith) split).0
    ])

pub returns-clause-word : goal.returns-clause-word
returns-clause-word c =
    let text = c.args.text.now in
    elim c.match-rsplit_once.branch [
      | in-Some w ↦
          let split = subst (λ r. MatchOption r (RFindsChar 32 text None) (λ x. SplitsAroundMatch (RFindsChar 32) text x.0.now x.1.now)) w.in-Some.is c.rsplit_once.ensures.cases in
          ap (λ (t : Bor (List ℕ) × Bor (List ℕ)). t.1.now) w.t-7-is ∙ (split_last 32 text w.in-Some.split.0.now w.in-Some.split.1.now (omega arith) split).1
      | in-None w ↦
          let split = subst (λ r. MatchOption r (RFindsChar 32 text None) (λ x. SplitsAroundMatch (RFindsChar 32) text x.0.now x.1.now)) w.in-None.is c.rsplit_once.ensures.cases in
          ap (λ (t : Bor (List ℕ) × Bor (List ℕ)). t.1.now) w.t-7-is ∙ (no_split 32 text (omega arith) split).1
    ]
