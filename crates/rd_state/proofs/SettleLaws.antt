-- Scheduling by rounds.
use Rattle.std.proofs.Common.{◌≡◌, ◌∙◌, ℕ, zero, suc, ◌*◌, ◌<◌, List, refl, ap, sym, arith}
use Rattle.rd_state.specs.EditingView.{EditingView, Reaches}
use Rattle.rd_state.specs.Settled.{Lineup, after_one_round, after_rounds, lineup_of, settled_in}
use Rattle.rd_state.specs.Snapshot.{Snapshot}

-- Where a round changes nothing, no further one does.
pub after_rounds-still : (priorities : List ℕ) (rounds : ℕ) (lineup : Lineup) → after_one_round priorities lineup ≡ lineup
    → after_rounds priorities rounds lineup ≡ lineup
after_rounds-still priorities zero lineup still = refl
after_rounds-still priorities (suc rounds) lineup still = ap (after_rounds priorities rounds) still ∙ after_rounds-still priorities rounds lineup still

pub settled_in-still : (priorities : List ℕ) (rounds : ℕ) (s : Snapshot) → after_one_round priorities (lineup_of s) ≡ lineup_of s
    → settled_in priorities rounds s ≡ s
settled_in-still priorities rounds s still =
    ap (λ (lineup : Lineup). record s { cores = lineup.cores; ready = lineup.ready }) (after_rounds-still priorities rounds (lineup_of s) still)

pub Reaches-still : (priorities : List ℕ) (rounds : ℕ) (old new : EditingView) → 0 < rounds → after_one_round priorities (lineup_of old.now) ≡ lineup_of old.now
    → Reaches old new (settled_in priorities 1 old.now) 3 → Reaches old new (settled_in priorities rounds old.now) (3 * rounds)
Reaches-still priorities rounds old new some still comes = record {
  now = comes.now ∙ settled_in-still priorities 1 old.now still ∙ sym (settled_in-still priorities rounds old.now still);
  outset = comes.outset;
  weight = omega (arith, comes.weight);
  room = omega (arith, comes.room);
  grows = comes.grows;
  shape = comes.shape;
}
