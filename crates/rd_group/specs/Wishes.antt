-- What tasks wait for at an event group, and the bits that meet it.
use Rattle.std.specs.Prelude.{ℕ, Bool, not, nat_eq, bit_and}
use Rattle.std.specs.Int.{bit_not, w32}
use Rattle.rd_group.specs.declared.wish.Wish.{Wish}
use Rattle.rd_group.specs.declared.wish.WaitFor.{WaitFor}
use Rattle.rd_group.specs.declared.wish.WaitFor.TheVariants.{Any, All}
use Rattle.rd_group.specs.declared.wish.OnMet.{OnMet}
use Rattle.rd_group.specs.declared.wish.OnMet.TheVariants.{Keep, Clear}

-- Are any of the wanted bits there, or all of them?
abbrev pub are_there : WaitFor → ℕ → ℕ → Bool
are_there Any wanted bits = not (nat_eq (bit_and bits wanted) 0)
are_there All wanted bits = nat_eq (bit_and bits wanted) wanted

-- Do these bits meet the wish?
abbrev pub is_met : ℕ → Wish → Bool
is_met bits wish = are_there wish.wait_for wish.bits bits

-- bits without these others
abbrev pub without_bits : ℕ → ℕ → ℕ
without_bits bits others = bit_and bits (bit_not w32 others)

-- what is left of bits once the wanted ones have come
abbrev pub left_when_met : OnMet → ℕ → ℕ → ℕ
left_when_met Keep wanted bits = bits
left_when_met Clear wanted bits = without_bits bits wanted

-- what is left of bits once the wish is met
abbrev pub left_of : ℕ → Wish → ℕ
left_of bits wish = left_when_met wish.on_met wish.bits bits
