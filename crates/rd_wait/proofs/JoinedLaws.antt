-- Joining keeps the order.
use Rattle.std.proofs.Common.{◌≡◌, ◌∙◌, ℕ, zero, suc, ◌+◌, ◌<◌, ◌≤◌, Bool, true, false, cond, List, [], ◌∷◌, ◌++◌, drop, refl, ap, subst, sym, arith, inl, inr}
use Rattle.std.specs.Prelude.{filter, insert, remove, nat_lt, slice_index}
use Rattle.std.specs.List.{prefix_len, AllByRecursion}
use Rattle.std.proofs.Math.Dec.{leb}
use Rattle.std.proofs.lemmas.Bool.{le-leb}
use Rattle.std.proofs.lemmas.Bool.Decides.{leb_tells, nat_tests}
use Rattle.rd_wait.specs.Joined.{sorted_in, joined, is_at_least, IsInOrder, JoiningPreservesTheOrder}
use Rattle.rd_wait.proofs.ListLaws.{AllByRecursion-insert, AllByRecursion-remove, AllByRecursion-weaker}

-- a task that is put in after the first member and n more, or before all, as a test says
insert-by_test : (first : ℕ) (rest : List ℕ) (n task : ℕ) (b : Bool)
    → insert (first ∷ rest) (cond b (1 + n) 0) task ≡ cond b (first ∷ insert rest n task) (task ∷ first ∷ rest)
insert-by_test first rest n task true = let next : 1 + n ≡ suc n = omega arith in ap (λ (k : ℕ). insert (first ∷ rest) k task) next
insert-by_test first rest n task false = refl

-- A task joins after the first member where that has at least its priority, and else before it.
pub joined-cons : (priorities : List ℕ) (first : ℕ) (rest : List ℕ) (task : ℕ) →
    joined priorities (first ∷ rest) task
    ≡ cond (is_at_least priorities (slice_index priorities task) first) (first ∷ joined priorities rest task) (task ∷ first ∷ rest)
joined-cons priorities first rest task =
    let test = is_at_least priorities (slice_index priorities task) in
    insert-by_test first rest (prefix_len test rest) task (test first)

pub IsInOrder-joined : (priorities tasks : List ℕ) (task : ℕ) → IsInOrder priorities tasks → IsInOrder priorities (joined priorities tasks task)
IsInOrder-joined priorities [] task h = (tt, tt)
IsInOrder-joined priorities (first ∷ rest) task h =
    let at : ℕ → ℕ = λ t. slice_index priorities t in
    let test = is_at_least priorities (at task) in
    let P : List ℕ → Type 0 = IsInOrder priorities in
    subst P (sym (joined-cons priorities first rest task))
    (elim (leb_tells (at task) (at first)) [
      | inl w ↦ subst (λ (b : Bool). P (cond b (first ∷ joined priorities rest task) (task ∷ first ∷ rest))) (sym w.0)
          (AllByRecursion-insert (λ later. at later ≤ at first) rest (prefix_len test rest) task h.0 w.1, IsInOrder-joined priorities rest task h.1)
      | inr w ↦ subst (λ (b : Bool). P (cond b (first ∷ joined priorities rest task) (task ∷ first ∷ rest))) (sym w.0) (
        (omega (arith, w.1), AllByRecursion-weaker (λ later. at later ≤ at first) (λ later. at later ≤ at task) (λ later k. omega (arith, k, w.1)) rest h.0),
        (h.0, h.1),
      )
    ])

-- The rest of a list in order is in order.
pub IsInOrder-rest : (priorities tasks : List ℕ) → IsInOrder priorities tasks → IsInOrder priorities (drop 1 tasks)
IsInOrder-rest priorities [] h = tt
IsInOrder-rest priorities (first ∷ rest) h = h.1

-- A list in order stays in order when a member leaves.
pub IsInOrder-remove : (priorities tasks : List ℕ) (index : ℕ) → IsInOrder priorities tasks → IsInOrder priorities (remove tasks index)
IsInOrder-remove priorities [] zero h = tt
IsInOrder-remove priorities [] (suc index) h = tt
IsInOrder-remove priorities (first ∷ rest) zero h = h.1
IsInOrder-remove priorities (first ∷ rest) (suc index) h =
    (AllByRecursion-remove (λ later. slice_index priorities later ≤ slice_index priorities first) rest index h.0, IsInOrder-remove priorities rest index h.1)

-- below a task's priority, nobody has at least it
none_at_least : (priorities tasks : List ℕ) (priority : ℕ) → AllByRecursion (λ later. slice_index priorities later < priority) tasks
    → (filter (λ member. is_at_least priorities priority member) tasks ≡ [])
    × (filter (λ member. nat_lt (slice_index priorities member) priority) tasks ≡ tasks)
none_at_least priorities [] priority h = (refl, refl)
none_at_least priorities (first ∷ rest) priority h =
    let later = none_at_least priorities rest priority h.1 in
    let at = slice_index priorities first in
    let low : leb priority at ≡ false = grind (arith, nat_tests, h.0) in
    let lower : leb (suc at) priority ≡ true = le-leb (suc at) priority h.0 in (
      ap (λ b. cond b (first ∷ filter (λ member. is_at_least priorities priority member) rest)
          (filter (λ member. is_at_least priorities priority member) rest)) low ∙ later.0,
      ap (λ b. cond b (first ∷ filter (λ member. nat_lt (slice_index priorities member) priority) rest)
          (filter (λ member. nat_lt (slice_index priorities member) priority) rest)) lower ∙ ap (λ r. first ∷ r) later.1,
    )

pub joined-sorted_in : (priorities tasks : List ℕ) (task : ℕ) → IsInOrder priorities tasks → joined priorities tasks task ≡ sorted_in priorities tasks task
joined-sorted_in priorities [] task h = refl
joined-sorted_in priorities (first ∷ rest) task h =
    let at : ℕ → ℕ = λ t. slice_index priorities t in
    let high = λ (member : ℕ). is_at_least priorities (at task) member in
    let low = λ (member : ℕ). nat_lt (at member) (at task) in
    joined-cons priorities first rest task ∙
    elim (leb_tells (at task) (at first)) [
      | inl w ↦
          let not_low : leb (suc (at first)) (at task) ≡ false = grind (arith, nat_tests, w.1) in
          ap (λ b. cond b (first ∷ joined priorities rest task) (task ∷ first ∷ rest)) w.0
          ∙ ap (λ r. first ∷ r) (joined-sorted_in priorities rest task h.1)
          ∙ ap (λ b. cond b (first ∷ filter high rest) (filter high rest) ++ task ∷ filter low rest) (sym w.0)
          ∙ ap (λ b. filter high (first ∷ rest) ++ task ∷ cond b (first ∷ filter low rest) (filter low rest)) (sym not_low)
      | inr w ↦
          let none =
          none_at_least priorities (first ∷ rest) (at task)
          (w.1, AllByRecursion-weaker (λ later. at later ≤ at first) (λ later. at later < at task) (λ later k. omega (arith, k, w.1)) rest h.0) in
          ap (λ b. cond b (first ∷ joined priorities rest task) (task ∷ first ∷ rest)) w.0
          ∙ ap (λ r. task ∷ r) (sym none.1) ∙ ap (λ r. r ++ task ∷ filter low (first ∷ rest)) (sym none.0)
    ]

pub joining_preserves_the_order : JoiningPreservesTheOrder
joining_preserves_the_order priorities tasks task h = (joined-sorted_in priorities tasks task h, IsInOrder-joined priorities tasks task h)
