-- What packed records are after a read of so many of their bytes.
use Rattle.std.specs.Prelude.{ℕ, ◌≡◌, ◌+◌, ⊤}
use mathlib.Core.Option.{none}
use Rattle.std.specs.Borrow.{MutBor, Fml, follows_so}
use Rattle.rd_packed.specs.Records.{PackedView}
use Rattle.rd_packed.specs.contracts.packed.Packed.{the_row}

-- They have counted them once the bytes are no more looked at.
abbrev pub CountsReadOf : MutBor PackedView → ℕ → Fml
CountsReadOf packed n =
    follows_so the_row the_row packed.ghost_name none (λ _ _. ⊤)
    (λ now. now ≡ record packed.now { read = packed.now.read + n })
