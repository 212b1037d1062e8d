-- The goals of `is_joined` that the check left open.
use Rattle.std.proofs.Common.{◌∙◌, List, ℕ, ◌++◌, ap₂, sym}
use Rattle.std.proofs.lemmas.Bool.{false≢true}
use Rattle.std.proofs.lemmas.Bool.Decides.{Decides-eqb}
use Rattle.std.proofs.lemmas.Slice.Eq.{slice_eq-Decides}
use Rattle.rd_ring.proofs.MemoryLaws.{same_parts}
use Rattle.rd_ring.proofs.memory.is_joined.Goals as goal

pub returns-then-eq : goal.returns-then-eq
returns-then-eq c =
    let whole_is = c.split_at.ensures.by_index.0 in
    let first = slice_eq-Decides Decides-eqb _ _ _ c.eq.ensures in
    let second = slice_eq-Decides Decides-eqb _ _ _ c.eq-then-eq.ensures in (
      (λ yes. whole_is ∙ ap₂ (λ (x y : List ℕ). x ++ y) (first.0 c.if-eq.true) (second.0 yes)),
      (λ same. second.1 ((same_parts _ _ _ _ c.split_at.ensures.front_len (sym whole_is ∙ same)).1)),
    )

pub returns-else-eq : goal.returns-else-eq
returns-else-eq c =
    let whole_is = c.split_at.ensures.by_index.0 in
    let first = slice_eq-Decides Decides-eqb _ _ _ c.eq.ensures in (
      (λ yes. absurd (false≢true (sym c.if-eq.false ∙ yes))),
      (λ same. first.1 ((same_parts _ _ _ _ c.split_at.ensures.front_len (sym whole_is ∙ same)).0)),
    )
