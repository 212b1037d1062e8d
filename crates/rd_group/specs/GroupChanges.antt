-- The primitive changes of an event group: what each does, at which groups it fits, and what undoes
-- it.
use Rattle.std.specs.Prelude.{◌≡◌, ◌<◌, ◌≤◌, length, slice_index, slice_index_or}
use Rattle.rd_group.specs.declared.group_change.GroupChange.{GroupChange}
use Rattle.rd_group.specs.declared.group_change.GroupChange.TheVariants.{InsWait, DelWait, SetBits}
use Rattle.rd_group.specs.declared.wish.TheConstants.{MAX_BITS}
use Rattle.rd_group.specs.declared.wish.Wish.{Wish}
use Rattle.rd_group.specs.declared.wish.WaitFor.TheVariants.{Any}
use Rattle.rd_group.specs.declared.wish.OnMet.TheVariants.{Keep}
use Rattle.rd_group.specs.GroupSnapshot.{GroupSnapshot}
use Rattle.rd_group.specs.Groups.{with_bits, with_waiter_at, without_waiter_at}
use Rattle.rd_group.specs.Sizes.{IsSizedGroup}

-- what stands for a wish where there is none
abbrev pub no_wish : Wish
no_wish = record { bits = 0; wait_for = Any; on_met = Keep }

-- the group after a change
abbrev pub group_applied : GroupSnapshot → GroupChange → GroupSnapshot
group_applied group (InsWait index task wish) = with_waiter_at group index task wish
group_applied group (DelWait index) = without_waiter_at group index
group_applied group (SetBits bits) = with_bits group bits

-- the change that undoes a change made at this group
abbrev pub group_inverse_of : GroupSnapshot → GroupChange → GroupChange
group_inverse_of group (InsWait index task wish) = DelWait index
group_inverse_of group (DelWait index) =
    InsWait index (slice_index group.waiting index) (slice_index_or group.wishes index no_wish)
group_inverse_of group (SetBits bits) = SetBits group.bits

-- The change names what is there, and there is room.
abbrev pub GroupFits : GroupSnapshot → GroupChange → Type 0
GroupFits group (InsWait index task wish) =
    (index ≤ length group.waiting) × (length group.waiting < group.task_count)
    × (task < group.task_count) × (wish.bits ≤ MAX_BITS)
GroupFits group (DelWait index) = index < length group.waiting
GroupFits group (SetBits bits) = bits ≤ MAX_BITS

-- A change that is undone leaves the group as it was, and what undoes it fits. The group with the
-- change made is one, with room for as many tasks.
pub record GroupIsUndone (group : GroupSnapshot) (change : GroupChange) : Type 0 where
  pub back : group_applied (group_applied group change) (group_inverse_of group change) ≡ group
  pub fits : GroupFits (group_applied group change) (group_inverse_of group change)
  pub sized : IsSizedGroup (group_applied group change)
  pub task_count : (group_applied group change).task_count ≡ group.task_count

-- whichever change it is, at whichever group it fits
abbrev pub EachGroupChangeIsUndone : Type 0
EachGroupChangeIsUndone = (group : GroupSnapshot) (change : GroupChange) → IsSizedGroup group
    → GroupFits group change → GroupIsUndone group change
