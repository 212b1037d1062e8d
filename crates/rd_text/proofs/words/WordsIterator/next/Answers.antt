-- The goals of next that the check left open.
use Rattle.std.proofs.Common.{ℕ, List, ◌∙◌, ◌-◌, length, take, drop, ap, arith, rules}
use Rattle.std.specs.List.{prefix_len}
use Rattle.std.proofs.lemmas.List.{take_all, length-drop}
use Rattle.rd_text.specs.Words.{is_solid}
use Rattle.rd_text.proofs.WordLemmas.{IsCut, cut_none, cut_some}
use Rattle.rd_text.proofs.words.WordsIterator.next.Goals as goal
use Rattle.rd_text.proofs.words.WordsIterator.next.Goals.{then-is_empty, else-is_empty}

cut : (c : goal.Joined-is_empty) → IsCut c.self.inside.rest.now c.split_at.result.0.now c.split_at.result.1.now
cut c =
    let line = c.self.inside.rest.now in
    let start = c.spaces_len.result in
    let whole = take_all (length line - start) (drop start line) (omega (arith, length-drop start line)) in
    let behind = take (length line - start) (drop start line) in
    let from = whole ∙ ap (λ (n : ℕ). drop n line) c.spaces_len.ensures.prefix in
    record {
      first = c.split_at.ensures.front ∙ ap (λ (n : ℕ). take n behind) c.word_len.ensures.prefix
          ∙ ap (λ (text : List ℕ). take (prefix_len is_solid text) text) from;
      later = c.split_at.ensures.back ∙ ap (λ (n : ℕ). drop n behind) c.word_len.ensures.prefix
          ∙ ap (λ (text : List ℕ). drop (prefix_len is_solid text) text) from;
    }

pub returns-clause-steps : goal.returns-clause-steps
returns-clause-steps c =
    elim c.if-is_empty.branch [
      | then-is_empty w ↦ rw (w.result-is, ← c.self.view_is) (cut_none _ _ _ (cut c) (search rules))
      | else-is_empty w ↦ rw (w.result-is, ← c.self.view_is) (cut_some _ _ _ (cut c) (search rules))
    ]

pub returns-clause-goes : goal.returns-clause-goes
returns-clause-goes c =
    elim c.if-is_empty.branch [
      | then-is_empty w ↦ rw (w.result-is) (search rules)
      | else-is_empty w ↦ rw (w.result-is, ← c.self.view_is) (let shorter = ap length (cut_some _ _ _ (cut c) (search rules)) in search rules)
    ]
