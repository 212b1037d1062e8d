-- The goals of `Item::fitted` that the check left open.
use Rattle.std.proofs.Common.{◌≡◌, ◌∙◌, ℕ, ◌+◌, ◌-◌, ◌≤◌, inl, inr, List, ◌++◌, length, take, replicate, append-nil, ap, ap₂, sym, arith}
use Rattle.std.specs.Prelude.{min}
use Rattle.std.proofs.Math.Seq.{take-append-add}
use Rattle.std.proofs.lemmas.Bool.{cases_lt}
use Rattle.std.proofs.lemmas.List.{take_all, take-append-le, take-replicate}
use Rattle.rd_queue.specs.Queues.{fitted}
use Rattle.rd_queue.proofs.item.Item.fitted.Goals as goal

-- The bytes that fit, and then as many zeros as are left, of so many.
fitted_in_parts : (bytes : List ℕ) (size count zeros : ℕ) → count ≡ min (length bytes) size → size ≤ zeros
    → take count bytes ++ take (size - count) (replicate zeros 0) ≡ fitted size bytes
fitted_in_parts bytes size count zeros is fits = elim (cases_lt (length bytes) size) [
  | inl short ↦
      let all : count ≡ length bytes = omega (arith, is, short) in
      let more : size ≡ length bytes + (size - count) = omega (arith, all, short) in
      ap₂ (λ (xs ys : List ℕ). xs ++ ys) (take_all count bytes (omega (arith, all)))
      (take-replicate (size - count) zeros 0 (omega (arith, fits)) ∙ sym (take-replicate (size - count) size 0 (omega arith)))
      ∙ sym (ap (λ (n : ℕ). take n (bytes ++ replicate size 0)) more ∙ take-append-add bytes (replicate size 0) (size - count))
  | inr long ↦
      let all : count ≡ size = omega (arith, is, long) in
      let none : size - count ≡ 0 = omega (arith, all) in
      ap₂ (λ (n m : ℕ). take n bytes ++ take m (replicate zeros 0)) all none ∙ append-nil (take size bytes)
      ∙ sym (take-append-le size bytes (replicate size 0) long)
]

pub returns : goal.returns
returns c =
    let written = rw c.unwrap.ensures at c.try_extend_from_slice.ensures.ok in
    written ∙ ap (λ (front : List ℕ). front ++ take (c.args.size - c.min-count.result) (replicate 64 0)) (c.item.view_is ∙ c.new-item.ensures)
    ∙ fitted_in_parts c.args.bytes.now c.args.size c.min-count.result 64 c.min-count.ensures c.requires
