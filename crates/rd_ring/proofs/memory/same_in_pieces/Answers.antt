-- The goals of `same_in_pieces` that the check left open.
use Rattle.std.proofs.Common.{◌∙◌, List, ℕ, ◌++◌, append_assoc, ap, ap₂, sym}
use Rattle.std.proofs.lemmas.Bool.{false≢true}
use Rattle.std.proofs.lemmas.Bool.Decides.{Decides-eqb}
use Rattle.std.proofs.lemmas.Slice.Eq.{slice_eq-Decides}
use Rattle.rd_ring.proofs.MemoryLaws.{same_parts}
use Rattle.rd_ring.proofs.memory.same_in_pieces.Goals as goal

pub returns-then-eq : goal.returns-then-eq
returns-then-eq c =
    let back = c.args.other_back.now in
    let split = ap (λ (x : List ℕ). x ++ back) c.split_at.ensures.by_index.0 ∙ append_assoc c.split_at.result.0.now c.split_at.result.1.now back in
    let first = slice_eq-Decides Decides-eqb _ _ _ c.eq.ensures in (
      (λ yes. ap₂ (λ (x y : List ℕ). x ++ y) (first.0 c.if-eq.true) (c.is_joined.ensures.0 yes) ∙ sym split),
      (λ same. c.is_joined.ensures.1 ((same_parts _ _ _ _ (sym c.split_at.ensures.front_len) (same ∙ split)).1)),
    )

pub returns-else-eq : goal.returns-else-eq
returns-else-eq c =
    let back = c.args.other_back.now in
    let split = ap (λ (x : List ℕ). x ++ back) c.split_at.ensures.by_index.0 ∙ append_assoc c.split_at.result.0.now c.split_at.result.1.now back in
    let first = slice_eq-Decides Decides-eqb _ _ _ c.eq.ensures in (
      (λ yes. absurd (false≢true (sym c.if-eq.false ∙ yes))),
      (λ same. first.1 ((same_parts _ _ _ _ (sym c.split_at.ensures.front_len) (same ∙ split)).0)),
    )
