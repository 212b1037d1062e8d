-- Lists of moves: the state that they give from the start, and the way back through their records.
use Rattle.std.specs.Prelude.{ℕ, ◌≡◌, ◌-◌, ◌≤◌, List, [], ◌∷◌, length, take, drop, fold, Result}
use Rattle.std.specs.Prelude.{Ok, Err}
use Rattle.rd_refusal.specs.declared.refusal.Refusal.{Refusal}
use Rattle.rd_app.specs.Application.{Application, priorities_of}
use Rattle.rd_state.specs.Change.{Change}
use Rattle.rd_state.specs.Boot.{boot_of}
use Rattle.rd_state.specs.Settled.{IsSettled}
use Rattle.rd_state.specs.Snapshot.{Snapshot}
use Rattle.rd_state.specs.Undoing.{undone, CanUndo}
use Rattle.rd_state.specs.Valid.{IsValid}
use Rattle.rd_moves.specs.Moves.{PlainMove}
use Rattle.rd_calls.specs.Step.{step}

-- one move more, where the ones before it gave a state
abbrev pub stepped : Application → Result Snapshot Refusal → PlainMove → Result Snapshot Refusal
stepped app (Ok s) move = step app s move
stepped app (Err refusal) move = Err refusal

-- the state that the moves give from boot, one after the other, or the first refusal
abbrev pub state_after : Application → List PlainMove → Result Snapshot Refusal
state_after app moves = fold (stepped app) (Ok (boot_of app)) moves

-- the state that moves give, or this one where they give none
abbrev pub state_or : Snapshot → Result Snapshot Refusal → Snapshot
state_or s (Ok t) = t
state_or s (Err refusal) = s

-- the state after the moves of these records are undone, the last one first
abbrev pub rewound : Snapshot → List (List Change) → Snapshot
rewound s [] = s
rewound s (first ∷ later) = undone (rewound s later) first

-- each of them can be undone in its turn
abbrev pub CanRewind : Snapshot → List (List Change) → Type 0
CanRewind s [] = Unit {0}
CanRewind s (first ∷ later) = CanRewind s later × CanUndo (rewound s later) first

-- The state is the one that the moves give from boot, valid, and with nothing left to schedule.
pub record IsStateAfter (app : Application) (moves : List PlainMove) (s : Snapshot) : Type 0 where
  pub state : state_after app moves ≡ Ok s
  pub valid : IsValid app s
  pub settled : IsSettled (priorities_of app) s

-- The first moves, as many as the base, have no record, and the others have one each. Undoing the
-- records from the end until so many moves are left gives the state that they give.
abbrev pub Retraces : Application → ℕ → List PlainMove → List (List Change) → Snapshot → Type 0
Retraces app base moves records s = (count : ℕ) → base ≤ count → count ≤ length moves
    → IsStateAfter app (take count moves) (rewound s (drop (count - base) records))
