-- A change of an event group that was put behind bytes is read at their end.
use Rattle.std.proofs.Common.{◌≡◌, ℕ, ◌<◌, ◌≤◌, get_or, refl, ap, arith}
use Rattle.std.proofs.lemmas.List.Elements.{All-get_or}
use Rattle.rd_bytes.proofs.Offered.{ComesBack, laid_read}
use Rattle.rd_bytes.specs.Layouts.{FitsLayout, EachRowIsReadBack}
use Rattle.rd_group.specs.declared.group_change.GroupChange.{GroupChange}
use Rattle.rd_group.specs.declared.group_change.GroupChange.TheVariants.{InsWait, DelWait, SetBits}
use Rattle.rd_group.specs.declared.wish.TheConstants.{MAX_BITS}
use Rattle.rd_group.specs.declared.wish.Wish.{Wish}
use Rattle.rd_group.specs.declared.wish.WaitFor.{WaitFor}
use Rattle.rd_group.specs.declared.wish.WaitFor.TheVariants.{Any, All}
use Rattle.rd_group.specs.declared.wish.OnMet.{OnMet}
use Rattle.rd_group.specs.declared.wish.OnMet.TheVariants.{Keep, Clear}
use Rattle.rd_group.specs.GroupSnapshot.{GroupSnapshot}
use Rattle.rd_group.specs.GroupChanges.{no_wish, group_inverse_of, GroupFits}
use Rattle.rd_group.specs.Sizes.{IsSizedGroup}
use Rattle.rd_group.specs.PackedGroupChanges.{byte_of_wish, wish_of_bytes, group_layout}

wish_again : (bits : ℕ) (wait_for : WaitFor) (on_met : OnMet)
    → wish_of_bytes bits (byte_of_wish wait_for on_met) ≡ record { bits = bits; wait_for = wait_for; on_met = on_met }
wish_again bits Any Keep = refl
wish_again bits Any Clear = refl
wish_again bits All Keep = refl
wish_again bits All Clear = refl

wish_fits : (wait_for : WaitFor) (on_met : OnMet) → byte_of_wish wait_for on_met < 256
wish_fits Any Keep = omega arith
wish_fits Any Clear = omega arith
wish_fits All Keep = omega arith
wish_fits All Clear = omega arith

laid : (group : ℕ) (change : GroupChange) → FitsLayout group_layout group change → ComesBack group_layout group change
laid group (InsWait index task wish) fits = record {
  again = ap (λ w. (group, InsWait index task w)) (wish_again wish.bits wish.wait_for wish.on_met);
  count = refl;
  tag = omega arith;
  kind = λ bytes is fields. rw is refl;
}
laid group (DelWait index) fits = record { again = refl; count = refl; tag = omega arith; kind = λ bytes is fields. rw is refl }
laid group (SetBits bits) fits = record { again = refl; count = refl; tag = omega arith; kind = λ bytes is fields. rw is refl }

pub group_change_is_read_back : EachRowIsReadBack group_layout
group_change_is_read_back = laid_read group_layout laid

-- What undoes a change of a group fits in its bytes.
pub group_inverse_has_bytes : (n : ℕ) (group : GroupSnapshot) (change : GroupChange) → n < 256 → IsSizedGroup group → GroupFits group change
    → FitsLayout group_layout n (group_inverse_of group change)
group_inverse_has_bytes n group (InsWait index task wish) few sized fits = (few, (few, (omega (arith, fits.0, fits.1, sized.few), tt)), tt)
group_inverse_has_bytes n group (DelWait index) few sized fits =
    let task : get_or group.waiting index 0 < group.task_count = All-get_or (λ t. t < group.task_count) group.waiting index 0 fits sized.waiting.0 in
    let wish : Wish = get_or group.wishes index no_wish in
    let bits : wish.bits ≤ MAX_BITS = All-get_or (λ (w : Wish). w.bits ≤ MAX_BITS) group.wishes index no_wish (omega (arith, sized.same_length, fits)) sized.wishes in
    (few, (few, (omega (arith, fits, sized.waiting.1, sized.few), (omega (arith, task, sized.few), (omega (arith, bits), (wish_fits wish.wait_for wish.on_met, tt))))), tt)
group_inverse_has_bytes n group (SetBits bits) few sized fits = (few, (few, (omega (arith, sized.bits), tt)), tt)
