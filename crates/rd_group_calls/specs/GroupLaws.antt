-- Laws of event groups, in their own words: what one setting does to those who wait.
use Rattle.std.specs.Prelude.{ℕ, ◌≡◌, ◌<◌, ◌≤◌, ◌++◌, ◌∷◌, List, [], bit_or, filter, length, not}
use Rattle.std.specs.Prelude.{if◌then◌else◌}
use Rattle.rd_group.specs.Groups.{bits_left, left_after, met_by}
use Rattle.rd_group.specs.Wishes.{is_met}
use Rattle.rd_group.specs.declared.wish.Wish.{Wish}
use Rattle.rd_app.specs.Application.{Application, priorities_of}
use Rattle.rd_state.specs.declared.phase.Phase.TheVariants.{Given}
use Rattle.rd_state.specs.Snapshot.{Snapshot, group_at, task_at, with_bits_at}
use Rattle.rd_state.specs.Valid.{IsValid, times_in_list}
use Rattle.rd_group_calls.specs.GroupCalls.{bits_at, bits_set}

-- the bits once these are set, before any are cleared
abbrev pub together : Snapshot → ℕ → ℕ → ℕ
together s group bits = bit_or (bits_at s group) bits

-- those whose wishes the bits don't meet, in the order of arrival
abbrev pub unmet_tasks : ℕ → List ℕ → List Wish → List ℕ
unmet_tasks bits [] wishes = []
unmet_tasks bits (task ∷ tasks) [] = task ∷ unmet_tasks bits tasks []
unmet_tasks bits (task ∷ tasks) (wish ∷ wishes) =
    if is_met bits wish then unmet_tasks bits tasks wishes
    else task ∷ unmet_tasks bits tasks wishes

abbrev pub unmet_wishes : ℕ → List Wish → List Wish
unmet_wishes bits wishes = filter (λ wish. not (is_met bits wish)) wishes

-- What a setting leaves of a valid state. All whom it meets are given the same bits, those that are
-- set then, whatever their order and whatever the others clear. Whoever isn't met stays as they
-- were, with their wish and their place in the order of arrival. Bits are cleared once, after all
-- were met: of those that were set then. A setting that meets nobody changes the bits alone.
pub record Sets (app : Application) (s : Snapshot) (group bits : ℕ) : Type 0 where
  pub given : (task : ℕ)
      → 1 ≤ times_in_list task (met_by (group_at s group) (together s group bits))
      → (task_at (bits_set (priorities_of app) s group bits) task).phase
      ≡ Given (together s group bits)
  pub unmet : (task : ℕ)
      → times_in_list task (met_by (group_at s group) (together s group bits)) ≡ 0
      → task_at (bits_set (priorities_of app) s group bits) task ≡ task_at s task
  pub others : (group_at (bits_set (priorities_of app) s group bits) group).waiting
      ≡ unmet_tasks (together s group bits) (group_at s group).waiting (group_at s group).wishes
  pub wishes : (group_at (bits_set (priorities_of app) s group bits) group).wishes
      ≡ unmet_wishes (together s group bits) (group_at s group).wishes
  pub cleared_once : bits_at (bits_set (priorities_of app) s group bits) group
      ≡ bits_left (group_at s group) (together s group bits)
  pub nobody : met_by (group_at s group) (together s group bits) ≡ []
      → bits_set (priorities_of app) s group bits ≡ with_bits_at s group (together s group bits)

-- whichever bits are set, at whichever group
abbrev pub SettingsMeetTogether : Type 0
SettingsMeetTogether = (app : Application) (s : Snapshot) (group bits : ℕ) → IsValid app s
    → group < length s.objects.groups → Sets app s group bits

-- It doesn't matter in which order wishes clear what they wish for: any two that stand beside each
-- other may change places.
abbrev pub ClearingHasNoOrder : Type 0
ClearingHasNoOrder = (bits left : ℕ) (before : List Wish) (one other : Wish) (behind : List Wish)
    → left_after bits (before ++ one ∷ other ∷ behind) left
    ≡ left_after bits (before ++ other ∷ one ∷ behind) left
