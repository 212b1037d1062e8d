-- Changes of an event group, undone each by its inverse.
use Rattle.std.proofs.Common.{◌≡◌, ℕ, ◌<◌, ◌≤◌, List, length, refl, ap₂, arith}
use Rattle.std.proofs.lemmas.List.Edits.{length-remove, length-insert}
use Rattle.std.proofs.lemmas.List.Elements.{All-get_or}
use Rattle.std.specs.Prelude.{All, insert, remove}
use Rattle.rd_group.specs.declared.group_change.GroupChange.{GroupChange}
use Rattle.rd_group.specs.declared.group_change.GroupChange.TheVariants.{InsWait, DelWait, SetBits}
use Rattle.rd_group.specs.declared.wish.TheConstants.{MAX_BITS}
use Rattle.rd_group.specs.declared.wish.Wish.{Wish}
use Rattle.rd_group.specs.GroupSnapshot.{GroupSnapshot}
use Rattle.rd_group.specs.Groups.{with_waiters}
use Rattle.rd_group.specs.Sizes.{IsSizedGroup}
use Rattle.rd_group.specs.GroupChanges.{no_wish, group_applied, group_inverse_of, GroupFits, EachGroupChangeIsUndone}
use Rattle.rd_wait.specs.Sizes.{IsSizedList}
use Rattle.rd_wait.proofs.Offered.{All-insert, All-remove, remove-insert, insert-remove, inserted_sized, removed_sized, room_after}

-- ---- what undoes a change

undoes : (group : GroupSnapshot) (change : GroupChange) → IsSizedGroup group → GroupFits group change
    → group_applied (group_applied group change) (group_inverse_of group change) ≡ group
undoes group (InsWait index task wish) sized fits =
    ap₂ (λ (tasks : List ℕ) (wishes : List Wish). with_waiters group tasks wishes) (remove-insert group.waiting index task fits.0)
    (remove-insert group.wishes index wish (omega (arith, sized.same_length, fits.0)))
undoes group (DelWait index) sized fits =
    ap₂ (λ (tasks : List ℕ) (wishes : List Wish). with_waiters group tasks wishes) (insert-remove group.waiting index 0 fits)
    (insert-remove group.wishes index no_wish (omega (arith, sized.same_length, fits)))
undoes group (SetBits bits) sized fits = refl

-- ---- sizes

-- two lists of one length stay so when both get, or lose, a member at one index
pub length-both_removed : {X Y : Type 0} (xs : List X) (ys : List Y) (index : ℕ) → length ys ≡ length xs → index < length xs
    → length (remove ys index) ≡ length (remove xs index)
length-both_removed xs ys index same there = omega (arith, length-remove xs index there, length-remove ys index (omega (arith, same, there)), same)

length-both_inserted : {X Y : Type 0} (xs : List X) (ys : List Y) (index : ℕ) (x : X) (y : Y) → length ys ≡ length xs → index ≤ length xs
    → length (insert ys index y) ≡ length (insert xs index x)
length-both_inserted xs ys index x y same within = omega (arith, length-insert xs index x within, length-insert ys index y (omega (arith, same, within)), same)

waiters_sized : (group : GroupSnapshot) (tasks : List ℕ) (wishes : List Wish) → IsSizedGroup group → IsSizedList group.task_count tasks
    → length wishes ≡ length tasks → All (λ wish. wish.bits ≤ MAX_BITS) wishes → IsSizedGroup (with_waiters group tasks wishes)
waiters_sized group tasks wishes sized waiting same all = record { bits = sized.bits; waiting = waiting; same_length = same; wishes = all; few = sized.few }

sized_then : (group : GroupSnapshot) (change : GroupChange) → IsSizedGroup group → GroupFits group change → IsSizedGroup (group_applied group change)
sized_then group (InsWait index task wish) sized fits =
    waiters_sized group (insert group.waiting index task) (insert group.wishes index wish) sized
    (inserted_sized group.task_count group.waiting index task sized.waiting fits.0 fits.1 fits.2)
    (length-both_inserted group.waiting group.wishes index task wish sized.same_length fits.0)
    (All-insert (λ (w : Wish). w.bits ≤ MAX_BITS) group.wishes index wish sized.wishes fits.3)
sized_then group (DelWait index) sized fits =
    waiters_sized group (remove group.waiting index) (remove group.wishes index) sized (removed_sized group.task_count group.waiting index sized.waiting fits)
    (length-both_removed group.waiting group.wishes index sized.same_length fits) (All-remove (λ (w : Wish). w.bits ≤ MAX_BITS) group.wishes index sized.wishes)
sized_then group (SetBits bits) sized fits =
    record { bits = fits; waiting = sized.waiting; same_length = sized.same_length; wishes = sized.wishes; few = sized.few }

-- ---- the inverse fits

inverse_fits : (group : GroupSnapshot) (change : GroupChange) → IsSizedGroup group → GroupFits group change
    → GroupFits (group_applied group change) (group_inverse_of group change)
inverse_fits group (InsWait index task wish) sized fits = omega (arith, length-insert group.waiting index task fits.0)
inverse_fits group (DelWait index) sized fits =
    let room = room_after group.task_count group.waiting index sized.waiting fits in (
      room.0,
      room.1,
      room.2,
      All-get_or (λ (w : Wish). w.bits ≤ MAX_BITS) group.wishes index no_wish (omega (arith, sized.same_length, fits)) sized.wishes,
    )
inverse_fits group (SetBits bits) sized fits = sized.bits

-- Room to wait for as many tasks.
same_task_count : (group : GroupSnapshot) (change : GroupChange) → (group_applied group change).task_count ≡ group.task_count
same_task_count group (InsWait index task wish) = refl
same_task_count group (DelWait index) = refl
same_task_count group (SetBits bits) = refl

pub group_change_is_undone : EachGroupChangeIsUndone
group_change_is_undone group change sized fits = record {
  back = undoes group change sized fits;
  fits = inverse_fits group change sized fits;
  sized = sized_then group change sized fits;
  task_count = same_task_count group change;
}
