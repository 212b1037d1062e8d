-- What scheduling keeps: how often each task stands somewhere, the number of cores, and the order of the
-- ready list.
use Rattle.std.proofs.Common.{◌≡◌, ◌∙◌, ℕ, zero, suc, ◌+◌, ◌-◌, ◌<◌, ◌≤◌, Bool, true, false, cond, List, [], ◌∷◌}
use Rattle.std.proofs.Common.{length, set, drop, Option, Some, None, refl, subst, sym, arith, inl, inr}
use Rattle.std.specs.Prelude.{slice_index, nat_eq, nat_lt, nat_le, ◌&&◌}
use Rattle.std.specs.List.{prefix_len}
use Rattle.std.proofs.lemmas.List.{length-set}
use Rattle.std.proofs.lemmas.List.Sums.{sum_by-cons, sum_by-insert, sum_by-set}
use Rattle.std.proofs.lemmas.Bool.Decides.{leb_tells}
use Rattle.rd_wait.specs.Joined.{joined, is_at_least, IsInOrder}
use Rattle.rd_wait.proofs.Offered.{IsInOrder-joined, IsInOrder-rest}
use Rattle.rd_state.specs.Settled.{Lineup, running_on, rank_of, weakest_up_to, weakest_of, head_of, with_displaced}
use Rattle.rd_state.specs.Settled.{with_head_on, after_one_round, after_rounds, lineup_of, settled, rotated}
use Rattle.rd_state.specs.Snapshot.{Snapshot}
use Rattle.rd_state.specs.Valid.{times_in_list, times_on_cores, is_on}

-- how often a task stands in the ready list or on a core
abbrev pub times_lined_up : ℕ → Lineup → ℕ
times_lined_up task lineup = times_in_list task lineup.ready + times_on_cores task lineup.cores

-- one or none, as the test says
abbrev pub one_if : Bool → ℕ
one_if b = cond b 1 0

pub times_in_list-cons : (task first : ℕ) (rest : List ℕ) → times_in_list task (first ∷ rest) ≡ one_if (nat_eq task first) + times_in_list task rest
times_in_list-cons task first rest = sum_by-cons (λ t. one_if (nat_eq task t)) first rest

pub times_in_list-joined : (priorities tasks : List ℕ) (task joining : ℕ)
    → times_in_list task (joined priorities tasks joining) ≡ times_in_list task tasks + one_if (nat_eq task joining)
times_in_list-joined priorities tasks task joining =
    sum_by-insert (λ t. one_if (nat_eq task t)) tasks (prefix_len (is_at_least priorities (slice_index priorities joining)) tasks) joining

times_in_list-displaced : (priorities tasks : List ℕ) (task : ℕ) (running : Option ℕ)
    → times_in_list task (with_displaced priorities tasks running) ≡ times_in_list task tasks + one_if (is_on task running)
times_in_list-displaced priorities tasks task None = omega arith
times_in_list-displaced priorities tasks task (Some displaced) = times_in_list-joined priorities tasks task displaced

pub times_on_cores-set : (task core : ℕ) (cores : List (Option ℕ)) (running : Option ℕ) → core < length cores
    → times_on_cores task (set cores core running) + one_if (is_on task (running_on cores core)) ≡ times_on_cores task cores + one_if (is_on task running)
times_on_cores-set task core cores running h = sum_by-set (λ r. one_if (is_on task r)) cores core running None h

weakest_up_to-le : (priorities : List ℕ) (cores : List (Option ℕ)) (n : ℕ) → weakest_up_to priorities cores n ≤ n
weakest_up_to-le priorities cores zero = omega arith
weakest_up_to-le priorities cores (suc n) =
    let best = weakest_up_to priorities cores n in
    let tells = weakest_up_to-le priorities cores n in
    elim (nat_lt (rank_of priorities (running_on cores (suc n))) (rank_of priorities (running_on cores best))) as (λ b. cond b (suc n) best ≤ suc n)
    [ true ↦ omega arith | false ↦ omega (arith, tells) ]

pub weakest_of-lt : (priorities : List ℕ) (cores : List (Option ℕ)) → 0 < length cores → weakest_of priorities cores < length cores
weakest_of-lt priorities cores some = omega (arith, weakest_up_to-le priorities cores (length cores - 1), some)

-- A line-up that scheduling makes of another: as many cores, each task in it as often, in order as before.
pub record Rescheduled (priorities : List ℕ) (old new : Lineup) : Type 0 where
  pub cores : length new.cores ≡ length old.cores
  pub lined_up : (task : ℕ) → times_lined_up task new ≡ times_lined_up task old
  pub order : IsInOrder priorities old.ready → IsInOrder priorities new.ready

Rescheduled-same : (priorities : List ℕ) (lineup : Lineup) → Rescheduled priorities lineup lineup
Rescheduled-same priorities lineup = record { cores = refl; lined_up = λ task. refl; order = λ h. h }

pub Rescheduled-then : (priorities : List ℕ) (a b c : Lineup) → Rescheduled priorities a b → Rescheduled priorities b c → Rescheduled priorities a c
Rescheduled-then priorities a b c h k = record { cores = k.cores ∙ h.cores; lined_up = λ task. k.lined_up task ∙ h.lined_up task; order = λ o. k.order (h.order o) }

IsInOrder-with_displaced : (priorities tasks : List ℕ) (running : Option ℕ) → IsInOrder priorities tasks
    → IsInOrder priorities (with_displaced priorities tasks running)
IsInOrder-with_displaced priorities tasks None h = h
IsInOrder-with_displaced priorities tasks (Some displaced) h = IsInOrder-joined priorities tasks displaced h

-- the head of a list and its rest
head_times : (task : ℕ) (ready : List ℕ) → 0 < length ready
    → times_in_list task ready ≡ one_if (nat_eq task (head_of ready)) + times_in_list task (drop 1 ready)
head_times task [] h = absurd (omega (arith, h))
head_times task (first ∷ rest) h = times_in_list-cons task first rest

Rescheduled-with_head_on : (priorities : List ℕ) (lineup : Lineup) (core : ℕ) → core < length lineup.cores → 0 < length lineup.ready
    → Rescheduled priorities lineup (with_head_on priorities lineup core)
Rescheduled-with_head_on priorities lineup core there some = record {
  cores = length-set lineup.cores core (Some (head_of lineup.ready));
  lined_up =
      λ task. omega (
        arith,
        head_times task lineup.ready some,
        times_in_list-displaced priorities (drop 1 lineup.ready) task (running_on lineup.cores core),
        times_on_cores-set task core lineup.cores (Some (head_of lineup.ready)) there,
      );
  order = λ h. IsInOrder-with_displaced priorities (drop 1 lineup.ready) (running_on lineup.cores core) (IsInOrder-rest priorities lineup.ready h);
}

pub Rescheduled-after_one_round : (priorities : List ℕ) (lineup : Lineup) → 0 < length lineup.cores → Rescheduled priorities lineup (after_one_round priorities lineup)
Rescheduled-after_one_round priorities lineup some =
    let core = weakest_of priorities lineup.cores in
    let outranks = nat_le (rank_of priorities (running_on lineup.cores core)) (slice_index priorities (head_of lineup.ready)) in
    elim (leb_tells 1 (length lineup.ready)) [
      | inl w ↦ subst (λ (b : Bool). Rescheduled priorities lineup (cond (b && outranks) (with_head_on priorities lineup core) lineup)) (sym w.0)
          (elim outranks as (λ b. Rescheduled priorities lineup (cond (true && b) (with_head_on priorities lineup core) lineup))
          [ true ↦ Rescheduled-with_head_on priorities lineup core (weakest_of-lt priorities lineup.cores some) w.1 | false ↦ Rescheduled-same priorities lineup ])
      | inr w ↦
          subst (λ (b : Bool). Rescheduled priorities lineup (cond (b && outranks) (with_head_on priorities lineup core) lineup)) (sym w.0)
          (Rescheduled-same priorities lineup)
    ]

pub Rescheduled-after_rounds : (priorities : List ℕ) (rounds : ℕ) (lineup : Lineup) → 0 < length lineup.cores
    → Rescheduled priorities lineup (after_rounds priorities rounds lineup)
Rescheduled-after_rounds priorities zero lineup some = Rescheduled-same priorities lineup
Rescheduled-after_rounds priorities (suc rounds) lineup some =
    let once = Rescheduled-after_one_round priorities lineup some in
    Rescheduled-then priorities lineup (after_one_round priorities lineup) _ once
    (Rescheduled-after_rounds priorities rounds (after_one_round priorities lineup) (omega (arith, once.cores, some)))

-- what scheduling keeps of a state
pub Rescheduled-settled : (priorities : List ℕ) (s : Snapshot) → 0 < length s.cores → Rescheduled priorities (lineup_of s) (lineup_of (settled priorities s))
Rescheduled-settled priorities s some = Rescheduled-after_rounds priorities (length s.cores) (lineup_of s) some

-- and what turns of equals keep
pub Rescheduled-rotated : (priorities : List ℕ) (core : ℕ) (s : Snapshot) → core < length s.cores
    → Rescheduled priorities (lineup_of s) (lineup_of (rotated priorities core s))
Rescheduled-rotated priorities core s there =
    let lineup = lineup_of s in
    let shares = nat_eq (rank_of priorities (running_on lineup.cores core)) (slice_index priorities (head_of lineup.ready) + 1) in
    elim (leb_tells 1 (length lineup.ready)) [
      | inl w ↦ subst (λ (b : Bool). Rescheduled priorities lineup (cond (b && shares) (with_head_on priorities lineup core) lineup)) (sym w.0)
          (elim shares as (λ b. Rescheduled priorities lineup (cond (true && b) (with_head_on priorities lineup core) lineup))
          [ true ↦ Rescheduled-with_head_on priorities lineup core there w.1 | false ↦ Rescheduled-same priorities lineup ])
      | inr w ↦
          subst (λ (b : Bool). Rescheduled priorities lineup (cond (b && shares) (with_head_on priorities lineup core) lineup)) (sym w.0)
          (Rescheduled-same priorities lineup)
    ]
