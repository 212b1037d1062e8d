-- The bytes of a change of an event group, and the change that stands at the end of bytes.
use Rattle.std.specs.Prelude.{ℕ, ◌==◌, if◌then◌else◌, List, [], ◌∷◌, slice_index, None}
use Rattle.rd_bytes.specs.Layouts.{Layout, Width, Byte, Word}
use Rattle.rd_bytes.specs.declared.tag.TheConstants.{INS_GROUP, DEL_GROUP, SET_BITS, OF_GROUP}
use Rattle.rd_group.specs.declared.group_change.GroupChange.{GroupChange}
use Rattle.rd_group.specs.declared.group_change.GroupChange.TheVariants.{InsWait, DelWait, SetBits}
use Rattle.rd_group.specs.declared.wish.Wish.{Wish}
use Rattle.rd_group.specs.declared.wish.WaitFor.{WaitFor}
use Rattle.rd_group.specs.declared.wish.WaitFor.TheVariants.{Any, All}
use Rattle.rd_group.specs.declared.wish.OnMet.{OnMet}
use Rattle.rd_group.specs.declared.wish.OnMet.TheVariants.{Keep, Clear}

-- the byte for what a wish is besides its bits, and the wish of some bits and such a byte
abbrev pub byte_of_wish : WaitFor → OnMet → ℕ
byte_of_wish Any Keep = 0
byte_of_wish Any Clear = 1
byte_of_wish All Keep = 2
byte_of_wish All Clear = 3

abbrev pub wish_of_bytes : ℕ → ℕ → Wish
wish_of_bytes bits byte =
    if byte == 0 then record { bits = bits; wait_for = Any; on_met = Keep }
    else (if byte == 1 then record { bits = bits; wait_for = Any; on_met = Clear }
    else (if byte == 2 then record { bits = bits; wait_for = All; on_met = Keep }
    else record { bits = bits; wait_for = All; on_met = Clear }))

-- how wide the fields before a tag are
abbrev pub group_widths : ℕ → List Width
group_widths tag =
    if tag == INS_GROUP then Byte ∷ Byte ∷ Byte ∷ Word ∷ Byte ∷ []
    else (if tag == DEL_GROUP then Byte ∷ Byte ∷ []
    else Byte ∷ Word ∷ [])

-- a change of a group as its tag and its fields, and the group and the change of those
abbrev pub group_row : ℕ → GroupChange → ℕ × List ℕ × List ℕ
group_row group (InsWait index task wish) = (
  INS_GROUP,
  group ∷ index ∷ task ∷ wish.bits ∷ byte_of_wish wish.wait_for wish.on_met ∷ [],
  [],
)
group_row group (DelWait index) = (DEL_GROUP, group ∷ index ∷ [], [])
group_row group (SetBits bits) = (SET_BITS, group ∷ bits ∷ [], [])

abbrev pub group_read : ℕ → List ℕ → ℕ × GroupChange
group_read tag fields =
    if tag == INS_GROUP
    then (
      slice_index fields 0,
      InsWait (slice_index fields 1) (slice_index fields 2)
          (wish_of_bytes (slice_index fields 3) (slice_index fields 4)),
    )
    else (if tag == DEL_GROUP then (slice_index fields 0, DelWait (slice_index fields 1))
    else (slice_index fields 0, SetBits (slice_index fields 1)))

abbrev pub group_layout : Layout GroupChange
group_layout = record {
  kind = OF_GROUP;
  widths = group_widths;
  row = group_row;
  read = λ tag fields carried. group_read tag fields;
  optional = λ change. None;
}
