-- The way back to where a condition held.
use Rattle.std.specs.Prelude.{ℕ, ◌+◌, Bool, false, zero, suc, List, Option, None, Some, Result}
use Rattle.std.specs.Prelude.{Ok, Err, take, if◌then◌else◌}
use Rattle.rd_refusal.specs.declared.refusal.Refusal.{Refusal}
use Rattle.rd_app.specs.Application.{Application}
use Rattle.rd_state.specs.Snapshot.{Snapshot}
use Rattle.rd_moves.specs.Moves.{PlainMove}
use Rattle.rd_condition.specs.declared.condition.Condition.{Condition}
use Rattle.rd_condition.specs.Conditions.{holds}
use Rattle.rd_timeline.specs.declared.running.FoundPlace.{FoundPlace}
use Rattle.rd_timeline.specs.History.{state_after}

-- Does the condition hold in the state, if there is one?
abbrev pub holds_in : Condition → Result Snapshot Refusal → Bool
holds_in condition (Ok s) = holds s condition
holds_in condition (Err refusal) = false

-- the greatest number of moves after which the condition holds, of so many numbers from the base on
abbrev pub last_met : Application → Condition → ℕ → List PlainMove → ℕ → Option ℕ
last_met app condition base moves zero = None
last_met app condition base moves (suc count) =
    if holds_in condition (state_after app (take (base + count) moves)) then Some (base + count)
    else last_met app condition base moves count

-- the place where the search found what it looked for
abbrev pub place_met : FoundPlace → Option ℕ
place_met found = if found.met then Some found.at else None
