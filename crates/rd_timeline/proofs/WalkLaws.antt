-- The way back to where a condition holds.
use Rattle.std.proofs.Common.{◌≡◌, ℕ, zero, suc, ◌+◌, ◌<◌, inl, inr, true, false, cond, length, take, refl, subst, arith}
use Rattle.std.specs.Prelude.{Bool, IfNone, IfSome, Option, None, Some}
use Rattle.std.proofs.lemmas.Bool.{cases_lt}
use Rattle.rd_app.specs.Application.{Application}
use Rattle.rd_condition.specs.declared.condition.Condition.{Condition}
use Rattle.rd_timeline.specs.Backward.{holds_in, last_met}
use Rattle.rd_timeline.specs.History.{state_after}
use Rattle.rd_timeline.specs.RunLaws.{BackFindsTheLast, HeldLast, NeverHeld}
use Rattle.rd_timeline.specs.Runs.{Moves, kept, last_place}

-- What a search is to find before this end.
abbrev IsLastBefore : Application → Condition → Moves → ℕ → Option ℕ → Type 0
IsLastBefore app condition moves end found =
    IfSome found (HeldLast app condition moves end) × IfNone found (NeverHeld app condition moves end)

-- The end may be one place later, where the condition is looked for first.
one_later : (app : Application) (condition : Condition) (moves : Moves) (n : ℕ) (met : Bool) (found : Option ℕ)
    → holds_in condition (state_after app (take (moves.base + n) moves.done)) ≡ met → IsLastBefore app condition moves (moves.base + n) found
    → IsLastBefore app condition moves (moves.base + suc n) (cond met (Some (moves.base + n)) found)
one_later app condition moves n true found here is = (
  record {
    from_base = omega arith;
    earlier = omega arith;
    holds = here;
    later = λ place after before. absurd (omega (arith, after, before));
  },
  tt,
)
one_later app condition moves n false found here is = by found is
  where
    none_here : (place : ℕ) → place < moves.base + suc n
        → (place < moves.base + n → holds_in condition (state_after app (take place moves.done)) ≡ false)
        → holds_in condition (state_after app (take place moves.done)) ≡ false
    none_here place before earlier = elim (cases_lt place (moves.base + n)) [
      | inl less ↦ earlier less
      | inr last ↦
          let end : moves.base + n ≡ place = omega (arith, last, before) in
          subst (λ k. holds_in condition (state_after app (take k moves.done)) ≡ false) end here
    ]

    by : (found : Option ℕ) → IsLastBefore app condition moves (moves.base + n) found → IsLastBefore app condition moves (moves.base + suc n) found
    by None is = (tt, λ place from before. none_here place before (λ less. is.1 place from less))
    by (Some at) is = (
      record {
        from_base = is.0.from_base;
        earlier = omega (arith, is.0.earlier);
        holds = is.0.holds;
        later = λ place after before. none_here place before (λ less. is.0.later place after less);
      },
      tt,
    )

finds_last : (app : Application) (condition : Condition) (moves : Moves) (n : ℕ)
    → IsLastBefore app condition moves (moves.base + n) (last_met app condition moves.base moves.done n)
finds_last app condition moves zero = (tt, λ place from before. absurd (omega (arith, from, before)))
finds_last app condition moves (suc n) =
    one_later app condition moves n (holds_in condition (state_after app (take (moves.base + n) moves.done)))
    (last_met app condition moves.base moves.done n) refl (finds_last app condition moves n)

pub back_finds_the_last : BackFindsTheLast
back_finds_the_last app condition moves within =
    let all : moves.base + kept moves ≡ length moves.done = omega (arith, within) in
    subst (λ end. IsLastBefore app condition moves end (last_place app condition moves)) all (finds_last app condition moves (kept moves))
