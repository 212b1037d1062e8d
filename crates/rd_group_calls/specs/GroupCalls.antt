-- What the calls of event groups do.
use Rattle.std.specs.Prelude.{ℕ, ◌≡◌, ◌+◌, ◌*◌, ◌<◌, ◌++◌, ◌∷◌, ◌||◌, Bool, true, false, List, []}
use Rattle.std.specs.Prelude.{Option, None, Some, bit_or, if◌then◌else◌, length, nat_eq, nat_lt}
use Rattle.rd_group.specs.Groups.{bits_left, met_by}
use Rattle.rd_group.specs.Wishes.{is_met, left_of, without_bits}
use Rattle.rd_group.specs.declared.wish.OnMet.TheVariants as of_bits
use Rattle.rd_group.specs.declared.wish.TheConstants.{MAX_BITS}
use Rattle.rd_group.specs.declared.wish.WaitFor.TheVariants.{All}
use Rattle.rd_group.specs.declared.wish.Wish.{Wish}
use Rattle.rd_app.specs.declared.instr.GroupCall.{GroupCall}
use Rattle.rd_app.specs.declared.instr.GroupCall.TheVariants.{Set, Clear, Get, Wait, Sync}
use Rattle.rd_app.specs.declared.instr.Operand.{Operand}
use Rattle.rd_state.specs.declared.phase.Cause.TheVariants.{BadBits}
use Rattle.rd_state.specs.declared.phase.Listed.TheVariants.{Group}
use Rattle.rd_state.specs.declared.phase.Place.TheVariants as sort
use Rattle.rd_state.specs.Phases.{given_bits, is_first, was_given}
use Rattle.rd_state.specs.Snapshot.{Snapshot, group_at, task_at, with_bits_at}
use Rattle.rd_state.specs.Waiting.{with_waiting_at}
use Rattle.rd_kernel.specs.declared.outcome.Outcome.TheVariants.{Fails, Waits}
use Rattle.rd_kernel.specs.declared.waking.Waking.TheVariants.{IsGiven}
use Rattle.rd_kernel.specs.Costs.{waking_cost}
use Rattle.rd_kernel.specs.Outcomes.{Called, call_returns}
use Rattle.rd_kernel.specs.Telling.{waits_once}
use Rattle.rd_kernel.specs.Waking.{deadline_of, operand_value, woken_all}

-- the bits of a group
abbrev pub bits_at : Snapshot → ℕ → ℕ
bits_at s group = (group_at s group).bits

-- A call names bits that an event group doesn't have, or waits for none.
abbrev pub are_bad_bits : ℕ → Bool
are_bad_bits bits = nat_lt MAX_BITS bits

abbrev pub is_bad_wish : ℕ → Bool
is_bad_wish bits = nat_eq bits 0 || are_bad_bits bits

abbrev pub fails_for_bits : Snapshot → Called
fails_for_bits s = record { state = s; outcome = Fails BadBits }

-- ---- setting

-- All whose wishes these bits meet are woken in the order of arrival, and each is given these bits.
-- Then the group has what they leave of them.
abbrev pub bits_given : List ℕ → Snapshot → ℕ → ℕ → Snapshot
bits_given priorities s group bits =
    with_bits_at (woken_all priorities (IsGiven bits) s (met_by (group_at s group) bits)) group
    (bits_left (group_at s group) bits)

-- the state once these bits were set beside those that were there
abbrev pub bits_set : List ℕ → Snapshot → ℕ → ℕ → Snapshot
bits_set priorities s group bits =
    bits_given priorities s group (bit_or (bits_at s group) bits)

-- xEventGroupSetBits
abbrev pub set_outcome : List ℕ → Snapshot → ℕ → ℕ → Called
set_outcome priorities s group bits =
    if are_bad_bits bits then fails_for_bits s
    else call_returns (bits_set priorities s group bits)
    (bits_left (group_at s group) (bit_or (bits_at s group) bits))

-- xEventGroupClearBits
abbrev pub clear_outcome : Snapshot → ℕ → ℕ → Called
clear_outcome s group bits =
    if are_bad_bits bits then fails_for_bits s
    else call_returns (with_bits_at s group (without_bits (bits_at s group) bits)) (bits_at s group)

-- ---- waiting

-- The task is the last that waits at the group, with its wish.
abbrev pub waits_with_wish : Snapshot → ℕ → ℕ → Wish → Operand → Called
waits_with_wish s task group wish wait = record {
  state =
      with_waiting_at s (Group group) ((group_at s group).waiting ++ task ∷ [])
      ((group_at s group).wishes ++ wish ∷ []);
  outcome = Waits (sort.Listed (Group group)) (deadline_of s task wait);
}

-- A wish that isn't met waits once alone; else the call returns the bits.
abbrev pub waits_or_returns : Snapshot → ℕ → ℕ → Wish → Operand → Called
waits_or_returns s task group wish wait =
    if waits_once s task wait then waits_with_wish s task group wish wait
    else call_returns s (bits_at s group)

-- One that is met returns the bits, of which the group has what the wish leaves.
abbrev pub wished : Snapshot → ℕ → ℕ → Wish → Operand → Called
wished s task group wish wait =
    if is_met (bits_at s group) wish
    then call_returns (with_bits_at s group (left_of (bits_at s group) wish)) (bits_at s group)
    else waits_or_returns s task group wish wait

-- A task that was given bits returns them, whatever its operands are then.
abbrev pub given_or : Option ℕ → Snapshot → Called → Called
given_or (Some bits) s called = call_returns s bits
given_or None s called = called

-- xEventGroupWaitBits
abbrev pub wait_outcome : Snapshot → ℕ → ℕ → Wish → Operand → Called
wait_outcome s task group wish wait =
    given_or (given_bits (task_at s task).phase) s
    (if is_bad_wish wish.bits then fails_for_bits s else wished s task group wish wait)

-- ---- meeting

-- a wish for all of these bits, which are cleared when it is met
abbrev pub meeting_wish : ℕ → Wish
meeting_wish bits = record { bits = bits; wait_for = All; on_met = of_bits.Clear }

-- Bits were set. Where those that were there together with these have all that the task waits for,
-- the call returns them, and clears what it waited for. Else it waits, or returns the bits.
abbrev pub met_or_waits : Snapshot → ℕ → ℕ → ℕ → Wish → Operand → Called
met_or_waits s task group together wish wait =
    if is_met together wish
    then call_returns (with_bits_at s group (left_of (bits_at s group) wish)) together
    else waits_or_returns s task group wish wait

-- A first try sets its bits. Any other sets none, and looks at those that are there.
abbrev pub sync_tried : List ℕ → Snapshot → ℕ → ℕ → ℕ → Wish → Operand → Called
sync_tried priorities s task group set wish wait =
    if is_first (task_at s task).phase
    then met_or_waits (bits_set priorities s group set) task group (bit_or (bits_at s group) set)
    wish wait
    else wished s task group wish wait

-- xEventGroupSync
abbrev pub sync_outcome : List ℕ → Snapshot → ℕ → ℕ → ℕ → ℕ → Operand → Called
sync_outcome priorities s task group set bits wait =
    given_or (given_bits (task_at s task).phase) s
    (if are_bad_bits set || is_bad_wish bits then fails_for_bits s
    else sync_tried priorities s task group set (meeting_wish bits) wait)

-- ---- all calls

-- what a call of an event group does
abbrev pub group_outcome : List ℕ → Snapshot → ℕ → ℕ → GroupCall → Called
group_outcome priorities s task group (Set bits) =
    set_outcome priorities s group (operand_value s task bits)
group_outcome priorities s task group (Clear bits) =
    clear_outcome s group (operand_value s task bits)
group_outcome priorities s task group Get = call_returns s (bits_at s group)
group_outcome priorities s task group (Wait bits wait_for on_met wait) =
    wait_outcome s task group
    (record { bits = operand_value s task bits; wait_for = wait_for; on_met = on_met }) wait
group_outcome priorities s task group (Sync set bits wait) =
    sync_outcome priorities s task group (operand_value s task set) (operand_value s task bits) wait

-- ---- costs

-- Setting wakes each task at the most, and changes the bits.
abbrev pub setting_cost : Snapshot → ℕ
setting_cost s = waking_cost * length s.tasks + 1

-- What a call takes in a record at the most.
abbrev pub group_call_cost : Snapshot → GroupCall → ℕ
group_call_cost s (Set bits) = setting_cost s
group_call_cost s (Clear bits) = 1
group_call_cost s Get = 0
group_call_cost s (Wait bits wait_for on_met wait) = 1
group_call_cost s (Sync set bits wait) = setting_cost s + 1

-- A call that changes nothing: it is refused, or returns what was given, or leaves all bits as they
-- are and doesn't wait.
abbrev pub GroupCallChangesNothing : Snapshot → ℕ → ℕ → GroupCall → Type 0
GroupCallChangesNothing s task group (Set bits) = are_bad_bits (operand_value s task bits) ≡ true
GroupCallChangesNothing s task group (Clear bits) =
    (clear_outcome s group (operand_value s task bits)).state ≡ s
GroupCallChangesNothing s task group Get = Unit {0}
GroupCallChangesNothing s task group (Wait bits wait_for on_met wait) =
    (wait_outcome s task group
    (record { bits = operand_value s task bits; wait_for = wait_for; on_met = on_met }) wait).state
    ≡ s
GroupCallChangesNothing s task group (Sync set bits wait) =
    (was_given (task_at s task).phase || (are_bad_bits (operand_value s task set)
    || is_bad_wish (operand_value s task bits))) ≡ true
