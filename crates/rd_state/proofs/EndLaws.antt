-- Scheduling ends: each round that changes something leaves one core less that a ready task could take.
use Rattle.std.proofs.Common.{◌≡◌, ◌∙◌, ℕ, zero, suc, ◌+◌, ◌-◌, ◌<◌, ◌≤◌, Bool, true, false, cond, List, [], ◌∷◌, length}
use Rattle.std.proofs.Common.{set, drop, take, Option, Some, None, refl, ap, subst, sym, arith, ◌⊎◌, inl, inr}
use Rattle.std.specs.Prelude.{All, count_by, slice_index, nat_eq, nat_le, nat_lt, ◌&&◌}
use Rattle.std.specs.List.{prefix_len, AllByRecursion}
use Rattle.std.proofs.Math.Dec.{leb}
use Rattle.std.proofs.lemmas.List.Elements.{All-drop, All-from_recursion, All-from_get_or, All-get_or, All-set, All-weaker}
use Rattle.std.proofs.lemmas.List.Sums.{sum_by-set, sum_by-le-sum_by, get_or-le-sum_by, count_by-le-length}
use Rattle.std.proofs.lemmas.Bool.{cases_lt, le-leb}
use Rattle.std.proofs.lemmas.Bool.Decides.{eqb_tells, leb_tells, nat_tests}
use Rattle.rd_wait.specs.Joined.{is_at_least, IsInOrder}
use Rattle.rd_wait.proofs.Offered.{All-insert, AllByRecursion-insert}
use Rattle.rd_state.specs.Settled.{Lineup, running_on, rank_of, weakest_up_to, weakest_of, head_of, takes_core, with_displaced, with_lineup, with_head_on}
use Rattle.rd_state.specs.Settled.{after_one_round, after_rounds, lineup_of, settled, rotated, IsSettled, SchedulingSettles}
use Rattle.rd_state.specs.EditingView.{LineupStays}
use Rattle.rd_state.specs.Snapshot.{Snapshot}
use Rattle.rd_state.proofs.ScheduleLaws.{Rescheduled-after_one_round, Rescheduled-after_rounds, one_if, weakest_of-lt}
use Rattle.rd_state.proofs.SettleLaws.{after_rounds-still, settled_in-still}

-- one above the head's priority, or 0 where nobody is ready
abbrev level_of : List ℕ → List ℕ → ℕ
level_of priorities [] = 0
level_of priorities (first ∷ rest) = slice_index priorities first + 1

-- Could the head take that core?
abbrev is_weak : List ℕ → ℕ → Option ℕ → Bool
is_weak priorities level running = nat_lt (rank_of priorities running) level

abbrev weak_cores : List ℕ → Lineup → ℕ
weak_cores priorities lineup = count_by (is_weak priorities (level_of priorities lineup.ready)) lineup.cores

-- the lowest rank is the weakest core's
weakest_up_to-least : (priorities : List ℕ) (cores : List (Option ℕ)) (n core : ℕ) → core ≤ n
    → rank_of priorities (running_on cores (weakest_up_to priorities cores n)) ≤ rank_of priorities (running_on cores core)
weakest_up_to-least priorities cores zero core h = let same : core ≡ 0 = omega (arith, h) in rw same (omega arith)
weakest_up_to-least priorities cores (suc n) core h =
    let rank : ℕ → ℕ = λ k. rank_of priorities (running_on cores k) in
    let best = weakest_up_to priorities cores n in
    elim (leb_tells (suc (rank (suc n))) (rank best)) [
      | inl w ↦ subst (λ (b : Bool). rank (cond b (suc n) best) ≤ rank core) (sym w.0)
          (elim (cases_lt core (suc n)) [
            | inl lt ↦ omega (arith, w.1, weakest_up_to-least priorities cores n core (omega (arith, lt)))
            | inr ge ↦ let same : core ≡ suc n = omega (arith, h, ge) in rw same (omega arith)
          ])
      | inr w ↦ subst (λ (b : Bool). rank (cond b (suc n) best) ≤ rank core) (sym w.0)
          (elim (cases_lt core (suc n)) [
            | inl lt ↦ weakest_up_to-least priorities cores n core (omega (arith, lt))
            | inr ge ↦ let same : core ≡ suc n = omega (arith, h, ge) in rw same (omega (arith, w.1))
          ])
    ]

-- Where no member is above a priority, the level isn't either.
level-le : (priorities tasks : List ℕ) (priority : ℕ) → AllByRecursion (λ task. slice_index priorities task ≤ priority) tasks
    → level_of priorities tasks ≤ priority + 1
level-le priorities [] priority h = omega arith
level-le priorities (first ∷ rest) priority h = omega (arith, h.0)

below_displaced : (priorities tasks : List ℕ) (running : Option ℕ) (priority : ℕ) → AllByRecursion (λ task. slice_index priorities task ≤ priority) tasks
    → rank_of priorities running ≤ priority
    → AllByRecursion (λ task. slice_index priorities task ≤ priority) (with_displaced priorities tasks running)
below_displaced priorities tasks None priority h weak = h
below_displaced priorities tasks (Some displaced) priority h weak =
    AllByRecursion-insert (λ task. slice_index priorities task ≤ priority) tasks (prefix_len (is_at_least priorities (slice_index priorities displaced)) tasks)
    displaced h (omega (arith, weak))

-- a head of the ready list that takes a weak core
fewer_weak : (priorities : List ℕ) (lineup : Lineup) (core : ℕ) → core < length lineup.cores → IsInOrder priorities lineup.ready
    → rank_of priorities (running_on lineup.cores core) < level_of priorities lineup.ready
    → weak_cores priorities (with_head_on priorities lineup core) + 1 ≤ weak_cores priorities lineup
fewer_weak priorities lineup core there order weak = fewer lineup.cores lineup.ready there order weak
  where
    fewer : (cores : List (Option ℕ)) (ready : List ℕ) → core < length cores → IsInOrder priorities ready
        → rank_of priorities (running_on cores core) < level_of priorities ready
        → weak_cores priorities (with_head_on priorities (record { cores = cores; ready = ready }) core) + 1 ≤ weak_cores priorities
        (record { cores = cores; ready = ready })
    fewer cores [] there order weak = absurd (omega (arith, weak))
    fewer cores (first ∷ rest) there order weak =
        let priority = slice_index priorities first in
        let now = with_displaced priorities rest (running_on cores core) in
        let level = level_of priorities now in
        let lower : level ≤ priority + 1 =
        level-le priorities now priority (below_displaced priorities rest (running_on cores core) priority order.0 (omega (arith, weak))) in
        let old : Option ℕ → ℕ = λ r. one_if (is_weak priorities (priority + 1) r) in
        let new : Option ℕ → ℕ = λ r. one_if (is_weak priorities level r) in
        let sum = sum_by-set old cores core (Some first) None there in
        let was : old (running_on cores core) ≡ 1 = grind (arith, nat_tests, weak) in
        let is : old (Some first) ≡ 0 = grind (arith, nat_tests) in
        let under : (r : Option ℕ) → new r ≤ old r = λ r. grind (arith, nat_tests, lower) in
        omega (arith, sum, was, is, sum_by-le-sum_by new old (set cores core (Some first)) under)

-- A round leaves everything where the weakest core outranks all who are ready, and else the head takes it.
abbrev RoundLeaves : List ℕ → Lineup → Type 0
RoundLeaves priorities lineup =
    (after_one_round priorities lineup ≡ lineup)
    × (level_of priorities lineup.ready ≤ rank_of priorities (running_on lineup.cores (weakest_of priorities lineup.cores)))

abbrev RoundTakes : List ℕ → Lineup → Type 0
RoundTakes priorities lineup =
    (after_one_round priorities lineup ≡ with_head_on priorities lineup (weakest_of priorities lineup.cores))
    × (rank_of priorities (running_on lineup.cores (weakest_of priorities lineup.cores)) < level_of priorities lineup.ready)

round_cases : (priorities : List ℕ) (cores : List (Option ℕ)) (ready : List ℕ)
    → RoundLeaves priorities (record { cores = cores; ready = ready }) ⊎ RoundTakes priorities (record { cores = cores; ready = ready })
round_cases priorities cores [] = inl (refl, omega arith)
round_cases priorities cores (first ∷ rest) =
    let lineup : Lineup = record { cores = cores; ready = first ∷ rest } in
    let core = weakest_of priorities cores in
    let rank = rank_of priorities (running_on cores core) in
    let some : leb 1 (length (first ∷ rest)) ≡ true = le-leb 1 (length (first ∷ rest)) (omega arith) in
    let choose : Bool → Bool → Lineup = λ b c. cond (b && c) (with_head_on priorities lineup core) lineup in
    elim (leb_tells rank (slice_index priorities first)) [
      | inl w ↦ inr (ap (λ b. choose b (leb rank (slice_index priorities first))) some ∙ ap (choose true) w.0, omega (arith, w.1))
      | inr w ↦ inl (ap (λ b. choose b (leb rank (slice_index priorities first))) some ∙ ap (choose true) w.0, omega (arith, w.1))
    ]

-- the weakest core counts, if it is weak
some_weak : (priorities : List ℕ) (lineup : Lineup) → 0 < length lineup.cores
    → rank_of priorities (running_on lineup.cores (weakest_of priorities lineup.cores)) < level_of priorities lineup.ready → 1 ≤ weak_cores priorities lineup
some_weak priorities lineup some weak =
    let core = weakest_of priorities lineup.cores in
    let count : Option ℕ → ℕ = λ r. one_if (is_weak priorities (level_of priorities lineup.ready) r) in
    let one : count (running_on lineup.cores core) ≡ 1 = grind (arith, nat_tests, weak) in
    omega (arith, get_or-le-sum_by count lineup.cores core None (weakest_of-lt priorities lineup.cores some), one)

-- With no more weak cores than rounds, the last round leaves everything.
last_round : (priorities : List ℕ) (rounds : ℕ) (lineup : Lineup) → 0 < length lineup.cores → IsInOrder priorities lineup.ready
    → weak_cores priorities lineup ≤ rounds
    → after_one_round priorities (after_rounds priorities rounds lineup) ≡ after_rounds priorities rounds lineup
last_round priorities zero lineup some order few =
    elim (round_cases priorities lineup.cores lineup.ready) [
      | inl leaves ↦ leaves.0
      | inr takes ↦ absurd (omega (arith, few, some_weak priorities lineup some takes.1))
    ]
last_round priorities (suc rounds) lineup some order few =
    let next = after_one_round priorities lineup in
    elim (round_cases priorities lineup.cores lineup.ready) [
      | inl leaves ↦ let still = after_rounds-still priorities (suc rounds) lineup leaves.0 in
          ap (after_one_round priorities) still ∙ leaves.0 ∙ sym still
      | inr takes ↦ let rescheduled = Rescheduled-after_one_round priorities lineup some in
          let fewer = fewer_weak priorities lineup (weakest_of priorities lineup.cores) (weakest_of-lt priorities lineup.cores some) order takes.1 in
          let same : weak_cores priorities next ≡ weak_cores priorities (with_head_on priorities lineup (weakest_of priorities lineup.cores)) =
          ap (weak_cores priorities) takes.0 in
          last_round priorities rounds next (omega (arith, rescheduled.cores, some)) (rescheduled.order order) (omega (arith, few, fewer, same))
    ]

-- Where a round leaves everything, the weakest core outranks all who are ready.
outranks : (priorities : List ℕ) (lineup : Lineup) → 0 < length lineup.cores → IsInOrder priorities lineup.ready → after_one_round priorities lineup ≡ lineup
    → level_of priorities lineup.ready ≤ rank_of priorities (running_on lineup.cores (weakest_of priorities lineup.cores))
outranks priorities lineup some order still =
    elim (round_cases priorities lineup.cores lineup.ready) [
      | inl leaves ↦ leaves.1
      | inr takes ↦
          let fewer = fewer_weak priorities lineup (weakest_of priorities lineup.cores) (weakest_of-lt priorities lineup.cores some) order takes.1 in
          let same : weak_cores priorities lineup ≡ weak_cores priorities (with_head_on priorities lineup (weakest_of priorities lineup.cores)) =
          ap (weak_cores priorities) (sym still ∙ takes.0) in
          absurd (omega (arith, fewer, same))
    ]

all_outranked : (priorities : List ℕ) (cores : List (Option ℕ)) (ready : List ℕ) → 0 < length cores → IsInOrder priorities ready
    → level_of priorities ready ≤ rank_of priorities (running_on cores (weakest_of priorities cores))
    → All (λ task. All (λ running. slice_index priorities task < rank_of priorities running) cores) ready
all_outranked priorities cores [] some order low =
    All-from_recursion (λ task. All (λ running. slice_index priorities task < rank_of priorities running) cores) [] tt
all_outranked priorities cores (first ∷ rest) some order low =
    let top = slice_index priorities first in
    let at_most : All (λ task. slice_index priorities task ≤ top) (first ∷ rest) =
    All-from_recursion (λ task. slice_index priorities task ≤ top) (first ∷ rest) (omega arith, order.0) in
    All-weaker (λ task. slice_index priorities task ≤ top) (λ task. All (λ running. slice_index priorities task < rank_of priorities running) cores)
    (λ task below. All-from_get_or (λ running. slice_index priorities task < rank_of priorities running) cores None
    (λ core there. omega (arith, below, low, weakest_up_to-least priorities cores (length cores - 1) core (omega (arith, there)))))
    (first ∷ rest) at_most

pub scheduling_settles : SchedulingSettles
scheduling_settles priorities s some order =
    let lineup = lineup_of s in
    let end = after_rounds priorities (length s.cores) lineup in
    let rescheduled = Rescheduled-after_rounds priorities (length s.cores) lineup some in
    let still : after_one_round priorities end ≡ end =
    last_round priorities (length s.cores) lineup some order (count_by-le-length (is_weak priorities (level_of priorities s.ready)) s.cores) in
    record {
      settled_now =
          all_outranked priorities end.cores end.ready (omega (arith, rescheduled.cores, some)) (rescheduled.order order)
          (outranks priorities end (omega (arith, rescheduled.cores, some)) (rescheduled.order order) still);
      stays = settled_in-still priorities (length end.cores) (settled priorities s) still;
    }

-- Where nobody who is ready outranks a running task, the head takes no core.
takes_none : (priorities : List ℕ) (cores : List (Option ℕ)) (ready : List ℕ) (core : ℕ) → core < length cores
    → All (λ task. All (λ running. slice_index priorities task < rank_of priorities running) cores) ready
    → takes_core priorities (record { cores = cores; ready = ready }) core ≡ false
takes_none priorities cores [] core there all = refl
takes_none priorities cores (first ∷ rest) core there all =
    let Outranked : ℕ → Type 0 = λ task. All (λ running. slice_index priorities task < rank_of priorities running) cores in
    let top : Outranked first = All-get_or Outranked (first ∷ rest) 0 0 (omega arith) all in
    let above = All-get_or (λ running. slice_index priorities first < rank_of priorities running) cores core None there top in
    let none : nat_le (rank_of priorities (running_on cores core)) (slice_index priorities first) ≡ false = grind (arith, nat_tests, above) in
    let some : nat_lt 0 (length (first ∷ rest)) ≡ true = grind (arith, nat_tests) in
    ap (λ b. b && nat_le (rank_of priorities (running_on cores core)) (slice_index priorities first)) some ∙ none

-- So scheduling changes nothing there.
pub settled-still : (priorities : List ℕ) (s : Snapshot) → 0 < length s.cores → IsSettled priorities s → settled priorities s ≡ s
settled-still priorities s some before =
    let core = weakest_of priorities s.cores in
    settled_in-still priorities (length s.cores) s
    (ap (λ b. cond b (with_head_on priorities (lineup_of s) core) (lineup_of s))
    (takes_none priorities s.cores s.ready core (weakest_of-lt priorities s.cores some) before))

-- The first that is ready tells alone whether it takes a core.
head_alone : (priorities : List ℕ) (cores : List (Option ℕ)) (ready now : List ℕ) (core : ℕ) → take 1 now ≡ take 1 ready
    → takes_core priorities (record { cores = cores; ready = now }) core ≡ takes_core priorities (record { cores = cores; ready = ready }) core
head_alone priorities cores [] [] core same = refl
head_alone priorities cores [] (first ∷ rest) core same = absurd cc
head_alone priorities cores (first ∷ rest) [] core same = absurd cc
head_alone priorities cores (first ∷ rest) (head ∷ later) core same =
    let heads : head ≡ first = cc in
    let some : nat_lt 0 (length (first ∷ rest)) ≡ true = grind (arith, nat_tests) in
    let also : nat_lt 0 (length (head ∷ later)) ≡ true = grind (arith, nat_tests) in
    let takes : ℕ → Bool = λ task. nat_le (rank_of priorities (running_on cores core)) (slice_index priorities task) in
    ap (λ b. b && takes head) also ∙ ap takes heads ∙ sym (ap (λ b. b && takes first) some)

-- Where the line-up stays as it was in a settled state, scheduling changes nothing.
pub settled-calm : (priorities : List ℕ) (before s : Snapshot) → 0 < length s.cores → IsSettled priorities before → LineupStays before s → settled priorities s ≡ s
settled-calm priorities before s some was stay =
    let core = weakest_of priorities s.cores in
    let still : takes_core priorities (lineup_of s) core ≡ false =
    head_alone priorities s.cores before.ready s.ready core stay.first
    ∙ takes_none priorities s.cores before.ready core (weakest_of-lt priorities s.cores some)
    (subst (λ (cores : List (Option ℕ)). All (λ task. All (λ running. slice_index priorities task < rank_of priorities running) cores) before.ready) (sym stay.cores) was) in
    settled_in-still priorities (length s.cores) s (ap (λ b. cond b (with_head_on priorities (lineup_of s) core) (lineup_of s)) still)

-- a task that no running one is outranked by, once the head of the ready list runs instead of its equal
below_all : (priorities : List ℕ) (lineup : Lineup) (core task : ℕ) → slice_index priorities task ≤ slice_index priorities (head_of lineup.ready)
    → All (λ running. slice_index priorities task < rank_of priorities running) lineup.cores
    → All (λ running. slice_index priorities task < rank_of priorities running) (set lineup.cores core (Some (head_of lineup.ready)))
below_all priorities lineup core task low all =
    All-set (λ running. slice_index priorities task < rank_of priorities running) lineup.cores core (Some (head_of lineup.ready)) (omega (arith, low)) all

displaced_below : (priorities : List ℕ) (cores : List (Option ℕ)) (ready : List ℕ) (running : Option ℕ) (P : ℕ → Type 0) → All P ready
    → ((task : ℕ) → running ≡ Some task → P task) → All P (with_displaced priorities ready running)
displaced_below priorities cores ready None P all one = all
displaced_below priorities cores ready (Some task) P all one = All-insert P ready _ task all (one task refl)

-- Taking turns among equals leaves a settled state settled.
rotated_settled : (priorities : List ℕ) (cores : List (Option ℕ)) (ready : List ℕ) (core : ℕ) → core < length cores → 0 < length ready
    → rank_of priorities (running_on cores core) ≡ slice_index priorities (head_of ready) + 1
    → All (λ task. All (λ running. slice_index priorities task < rank_of priorities running) cores) ready
    → All (λ task. All (λ running. slice_index priorities task < rank_of priorities running) (set cores core (Some (head_of ready))))
    (with_displaced priorities (drop 1 ready) (running_on cores core))
rotated_settled priorities cores [] core there some equal all = absurd (omega (arith, some))
rotated_settled priorities cores (head ∷ rest) core there some equal all =
    let lineup : Lineup = record { cores = cores; ready = head ∷ rest } in
    let Outranked : ℕ → Type 0 = λ task. All (λ running. slice_index priorities task < rank_of priorities running) cores in
    let Below : ℕ → Type 0 = λ task. All (λ running. slice_index priorities task < rank_of priorities running) (set cores core (Some head)) in
    let top : Outranked head = All-get_or Outranked (head ∷ rest) 0 0 (omega arith) all in
    let later : All Outranked rest = All-drop Outranked 1 (head ∷ rest) all in
    let others : All Below rest =
    All-weaker Outranked Below
    (λ task above. below_all priorities lineup core task
    (omega (arith, All-get_or (λ running. slice_index priorities task < rank_of priorities running) cores core None there above, equal)) above) rest later in
    displaced_below priorities cores rest (running_on cores core) Below others
    (λ task e. let same : slice_index priorities task + 1 ≡ slice_index priorities head + 1 = sym (ap (rank_of priorities) e) ∙ equal in
    below_all priorities lineup core task (omega (arith, same))
    (All-weaker (λ running. slice_index priorities head < rank_of priorities running) (λ running. slice_index priorities task < rank_of priorities running)
    (λ running above. omega (arith, same, above)) cores top))

pub stays_settled : (priorities : List ℕ) (core : ℕ) (s : Snapshot) → core < length s.cores → IsSettled priorities s
    → IsSettled priorities (rotated priorities core s)
stays_settled priorities core s there settled_now =
    let lineup = lineup_of s in
    let shares = nat_eq (rank_of priorities (running_on lineup.cores core)) (slice_index priorities (head_of lineup.ready) + 1) in
    let Goal : Bool → Type 0 = λ b. IsSettled priorities (with_lineup s (cond b (with_head_on priorities lineup core) lineup)) in
    elim (leb_tells 1 (length lineup.ready)) [
      | inl w ↦ subst (λ (b : Bool). Goal (b && shares)) (sym w.0)
          (elim (eqb_tells (rank_of priorities (running_on lineup.cores core)) (slice_index priorities (head_of lineup.ready) + 1)) [
            | inl equal ↦ subst Goal (sym equal.0) (rotated_settled priorities s.cores s.ready core there w.1 equal.1 settled_now)
            | inr differs ↦ subst Goal (sym differs.0) settled_now
          ])
      | inr w ↦ subst (λ (b : Bool). Goal (b && shares)) (sym w.0) settled_now
    ]
