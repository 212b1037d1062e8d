-- Scheduling: who runs, once the ready list or a core has changed. A ready task takes an idle core,
-- or displaces a running task of lower priority.
use Rattle.std.specs.Prelude.{ℕ, ◌≡◌, zero, suc, ◌+◌, ◌-◌, ◌<◌, All, Bool, ◌&&◌, List, length}
use Rattle.std.specs.Prelude.{slice_index, slice_index_or, slice_set, drop, Option, Some}
use Rattle.std.specs.Prelude.{None, nat_eq, nat_lt, nat_le, if◌then◌else◌}
use Rattle.rd_wait.specs.Joined.{joined, IsInOrder}
use Rattle.rd_state.specs.Snapshot.{Snapshot}

-- a line-up: who runs and who is ready
pub record Lineup : Type 0 where
  pub cores : List (Option ℕ)
  pub ready : List ℕ

-- how hard a core is to take: an idle one not at all, a busy one as its task's priority says
abbrev pub rank_of : List ℕ → Option ℕ → ℕ
rank_of priorities None = 0
rank_of priorities (Some task) = slice_index priorities task + 1

abbrev pub running_on : List (Option ℕ) → ℕ → Option ℕ
running_on cores core = slice_index_or cores core None

-- the easiest to take of core 0 and the n after it, and the lowest of those where several are
abbrev pub weakest_up_to : List ℕ → List (Option ℕ) → ℕ → ℕ
weakest_up_to priorities cores zero = 0
weakest_up_to priorities cores (suc n) =
    let best = weakest_up_to priorities cores n in
    if nat_lt (rank_of priorities (running_on cores (suc n)))
    (rank_of priorities (running_on cores best))
    then suc n
    else best

abbrev pub weakest_of : List ℕ → List (Option ℕ) → ℕ
weakest_of priorities cores = weakest_up_to priorities cores (length cores - 1)

abbrev pub head_of : List ℕ → ℕ
head_of ready = slice_index ready 0

-- Is there a head of the ready list, and does it outrank the task on that core?
abbrev pub takes_core : List ℕ → Lineup → ℕ → Bool
takes_core priorities lineup core =
    nat_lt 0 (length lineup.ready)
    && nat_le (rank_of priorities (running_on lineup.cores core))
    (slice_index priorities (head_of lineup.ready))

-- the ready list with the task that was displaced, if one was, joined to it
abbrev pub with_displaced : List ℕ → List ℕ → Option ℕ → List ℕ
with_displaced priorities ready None = ready
with_displaced priorities ready (Some task) = joined priorities ready task

-- the head of the ready list has taken the core
abbrev pub with_head_on : List ℕ → Lineup → ℕ → Lineup
with_head_on priorities lineup core = record {
  cores = slice_set lineup.cores core (Some (head_of lineup.ready));
  ready = with_displaced priorities (drop 1 lineup.ready) (running_on lineup.cores core);
}

-- one round: the head takes the weakest core, if it can
abbrev pub after_one_round : List ℕ → Lineup → Lineup
after_one_round priorities lineup =
    let core = weakest_of priorities lineup.cores in
    if takes_core priorities lineup core then with_head_on priorities lineup core else lineup

-- that many rounds, one after the other
abbrev pub after_rounds : List ℕ → ℕ → Lineup → Lineup
after_rounds priorities zero lineup = lineup
after_rounds priorities (suc rounds) lineup =
    after_rounds priorities rounds (after_one_round priorities lineup)

-- the line-up of a state, and the state with another one
abbrev pub lineup_of : Snapshot → Lineup
lineup_of s = record { cores = s.cores; ready = s.ready }

abbrev pub with_lineup : Snapshot → Lineup → Snapshot
with_lineup s lineup = record s { cores = lineup.cores; ready = lineup.ready }

-- the state after that many rounds
abbrev pub settled_in : List ℕ → ℕ → Snapshot → Snapshot
settled_in priorities rounds s = with_lineup s (after_rounds priorities rounds (lineup_of s))

-- Who took a core outranks all who are still ready, so each core changes hands once at the most: as
-- many rounds as there are cores are enough.
abbrev pub settled : List ℕ → Snapshot → Snapshot
settled priorities s = settled_in priorities (length s.cores) s

-- Does the head of the ready list have the priority of the task on the core?
abbrev pub shares_core : List ℕ → Lineup → ℕ → Bool
shares_core priorities lineup core =
    nat_lt 0 (length lineup.ready)
    && nat_eq (rank_of priorities (running_on lineup.cores core))
    (slice_index priorities (head_of lineup.ready) + 1)

-- Tasks of one priority take turns: the head then takes the core, and the task that ran there joins
-- the ready list.
abbrev pub rotated : List ℕ → ℕ → Snapshot → Snapshot
rotated priorities core s =
    with_lineup s
    (if shares_core priorities (lineup_of s) core
    then with_head_on priorities (lineup_of s) core
    else lineup_of s)

-- No ready task outranks a running one, and no core is idle while a task is ready.
abbrev pub IsSettled : List ℕ → Snapshot → Type 0
IsSettled priorities s =
    All (λ task. All (λ running. slice_index priorities task < rank_of priorities running) s.cores)
    s.ready

-- Scheduling ends in a settled state, and schedules nothing further there.
pub record Settles (priorities : List ℕ) (s : Snapshot) : Type 0 where
  pub settled_now : IsSettled priorities (settled priorities s)
  pub stays : settled priorities (settled priorities s) ≡ settled priorities s

abbrev pub SchedulingSettles : Type 0
SchedulingSettles =
    (priorities : List ℕ) (s : Snapshot) → 0 < length s.cores → IsInOrder priorities s.ready
    → Settles priorities s
