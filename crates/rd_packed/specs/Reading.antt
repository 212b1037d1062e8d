-- What a tape is after a read of so many bytes.
use Rattle.std.specs.Prelude.{ℕ, ◌≡◌, ◌+◌, ⊤}
use mathlib.Core.Option.{none}
use Rattle.std.specs.Borrow.{MutBor, Fml, follows_so}
use Rattle.rd_packed.specs.TapeView.{TapeView}
use Rattle.rd_packed.specs.contracts.tape.Tape.{the_row}

abbrev pub with_read : TapeView → ℕ → TapeView
with_read tape n = record tape { read = tape.read + n }

-- The tape has counted them once the bytes are no more looked at.
abbrev pub CountsRead : MutBor TapeView → ℕ → Fml
CountsRead tape n =
    follows_so the_row the_row tape.ghost_name none (λ _ _. ⊤) (λ now. now ≡ with_read tape.now n)
