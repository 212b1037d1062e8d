-- What a session calls of its gate.
use Rattle.std.specs.Prelude.{ℕ, ◌≡◌, ◌+◌, ◌≤◌, List, [], ◌∷◌, ◌++◌, Option, Some, None}

-- of this session, before or after that line
pub data GateCall : Type 0 where
  Before : ℕ → ℕ → GateCall
  After : ℕ → ℕ → GateCall

-- These were called behind those, where that is known.
abbrev pub Adds : Option (List GateCall) → Option (List GateCall) → List GateCall → Type 0
Adds None new more = Unit {0}
Adds (Some old) None more = ⊥
Adds (Some old) (Some new) more = new ≡ old ++ more

-- how many lines were begun, of how many of these the answer is out, and how many were begun when
-- one went out last
pub record GateProgress : Type 0 where
  pub begun : ℕ
  pub out : ℕ
  pub round : ℕ

-- The calls lead from here to there. A line is begun behind the one before it, and its answer is
-- out behind the answer before it, once it was begun: so each of both is called once for a line.
-- They come in rounds: behind an answer that is out no line is begun, until all those are out that
-- were begun before.
abbrev pub LeadTo : ℕ → List GateCall → GateProgress → GateProgress → Type 0
LeadTo who [] from to = from ≡ to
LeadTo who (Before session line ∷ calls) from to =
    (session ≡ who) × (line ≡ from.begun + 1) × (from.round ≤ from.out)
    × LeadTo who calls (record { begun = line; out = from.out; round = from.round }) to
LeadTo who (After session line ∷ calls) from to =
    (session ≡ who) × (line ≡ from.out + 1) × (line ≤ from.begun)
    × LeadTo who calls (record { begun = from.begun; out = line; round = from.begun }) to

-- From the beginning on so many lines were begun, and the answers of so many of them are out. Of
-- those that were begun when one went out last, so many at the most aren't out.
pub record GateCalled (who : ℕ) (old new : Option (List GateCall)) (begun out left : ℕ) : Type 0 where
  pub calls : List GateCall
  pub added : Adds old new calls
  pub round : ℕ
  pub lead : LeadTo who calls (record { begun = 0; out = 0; round = 0 })
      (record { begun = begun; out = out; round = round })
  pub within : round ≤ out + left
