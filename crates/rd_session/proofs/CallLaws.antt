-- What is called of a gate, one call after the other.
use Rattle.std.proofs.Common.{◌≡◌, ◌∙◌, ℕ, ◌+◌, ◌≤◌, List, [], ◌∷◌, ◌++◌, refl, ap, subst, sym, arith}
use Rattle.std.specs.Prelude.{Option, Some, None}
use Rattle.std.proofs.lemmas.List.{append_assoc, append-nil}
use Rattle.rd_session.specs.Calls.{Adds, After, Before, GateCall, GateCalled, LeadTo, GateProgress}
use Rattle.rd_session.specs.Gathering.{AreOut}

pub Adds-none : (old : Option (List GateCall)) → Adds old old []
Adds-none None = tt
Adds-none (Some calls) = sym (append-nil calls)

pub Adds-append : (old between new : Option (List GateCall)) (xs ys : List GateCall) → Adds old between xs → Adds between new ys → Adds old new (xs ++ ys)
Adds-append None between new xs ys one two = tt
Adds-append (Some a) None new xs ys one two = absurd one
Adds-append (Some a) (Some b) None xs ys one two = absurd two
Adds-append (Some a) (Some b) (Some c) xs ys one two = two ∙ ap (λ (l : List GateCall). l ++ ys) one ∙ append_assoc a xs ys

pub LeadTo-append : (who : ℕ) (xs ys : List GateCall) (from between to : GateProgress) → LeadTo who xs from between → LeadTo who ys between to → LeadTo who (xs ++ ys) from to
LeadTo-append who [] ys from between to one two = subst (λ (p : GateProgress). LeadTo who ys p to) (sym one) two
LeadTo-append who (Before session line ∷ xs) ys from between to one two =
    (one.0, one.1, one.2, LeadTo-append who xs ys (record { begun = line; out = from.out; round = from.round }) between to one.3 two)
LeadTo-append who (After session line ∷ xs) ys from between to one two =
    (one.0, one.1, one.2, LeadTo-append who xs ys (record { begun = from.begun; out = line; round = from.begun }) between to one.3 two)

abbrev pub progress : ℕ → ℕ → ℕ → GateProgress
progress begun out round = record { begun = begun; out = out; round = round }

progress_same : (b b' o r : ℕ) → b ≡ b' → progress b o r ≡ progress b' o r
progress_same b b' o r begun = ap (λ (n : ℕ). progress n o r) begun

pub GateCalled-none : (who : ℕ) (old : Option (List GateCall)) → GateCalled who old old 0 0 0
GateCalled-none who old = record { calls = []; added = Adds-none old; round = 0; lead = refl; within = omega arith }

-- more was called
pub GateCalled-then : (who : ℕ) (old between new : Option (List GateCall)) (xs : List GateCall) (b b' o o' round left left' : ℕ) (one : GateCalled who old between b o left) → Adds between new xs
    → LeadTo who xs (progress b o one.round) (progress b' o' round) → round ≤ o' + left' → GateCalled who old new b' o' left'
GateCalled-then who old between new xs b b' o o' round left left' one added lead within = record {
  calls = one.calls ++ xs;
  added = Adds-append old between new one.calls xs one.added added;
  round = round;
  lead = LeadTo-append who one.calls xs (progress 0 0 0) (progress b o one.round) (progress b' o' round) one.lead lead;
  within = within;
}

-- one line more was begun, where all those are out that were begun when one went out last
pub GateCalled-begun : (who : ℕ) (old between new : Option (List GateCall)) (begun b b' o : ℕ) → GateCalled who old between b o 0 → Adds between new (Before who begun ∷ []) → begun ≡ b + 1 → b' ≡ b + 1
    → GateCalled who old new b' o 0
GateCalled-begun who old between new begun b b' o one added is more =
    let all : one.round ≤ o = omega (arith, one.within) in
    GateCalled-then who old between new (Before who begun ∷ []) b b' o o one.round 0 0 one added (refl, is, all, progress_same begun b' o one.round (is ∙ sym more)) one.within

-- No more lines than were begun were begun when one went out last.
LeadTo-within : (who : ℕ) (calls : List GateCall) (from to : GateProgress) → LeadTo who calls from to → from.round ≤ from.begun → to.round ≤ to.begun
LeadTo-within who [] from to lead within = subst (λ (p : GateProgress). p.round ≤ p.begun) lead within
LeadTo-within who (Before session line ∷ calls) from to lead within =
    LeadTo-within who calls (record { begun = line; out = from.out; round = from.round }) to lead.3 (omega (arith, lead.1, within))
LeadTo-within who (After session line ∷ calls) from to lead within =
    LeadTo-within who calls (record { begun = from.begun; out = line; round = from.begun }) to lead.3 (omega arith)

-- the answers of these lines are out
pub GateCalled-out : (who : ℕ) (old between new : Option (List GateCall)) (out upto b o o' left left' : ℕ) → GateCalled who old between b o left → AreOut who out upto between new → out ≡ o → upto ≡ o' → o' + left' ≡ b
    → GateCalled who old new b o' left'
GateCalled-out who old between new out upto b o o' left left' one outs from to all =
    let within : one.round ≤ b = LeadTo-within who one.calls (progress 0 0 0) (progress b o one.round) one.lead (omega arith) in
    let went = outs.2 b one.round (omega (arith, to, all)) within in
    GateCalled-then who old between new outs.0 b b o o' went.0 left left' one outs.1
    (subst (λ (n : ℕ). LeadTo who outs.0 (progress b o one.round) (progress b n went.0)) to
    (subst (λ (n : ℕ). LeadTo who outs.0 (progress b n one.round) (progress b upto went.0)) from went.2)) (omega (arith, went.1, all))

pub GateCalled-same : (who : ℕ) (old new : Option (List GateCall)) (b b' o o' left : ℕ) → GateCalled who old new b o left → b ≡ b' → o ≡ o' → GateCalled who old new b' o' left
GateCalled-same who old new b b' o o' left one begun out =
    subst (λ (n : ℕ). GateCalled who old new b' n left) out (subst (λ (n : ℕ). GateCalled who old new n o left) begun one)

-- so many, or fewer
pub GateCalled-weak : (who : ℕ) (old new : Option (List GateCall)) (b o left left' : ℕ) → left ≤ left' → GateCalled who old new b o left → GateCalled who old new b o left'
GateCalled-weak who old new b o left left' less one = record {
  calls = one.calls;
  added = one.added;
  round = one.round;
  lead = one.lead;
  within = omega (arith, less, one.within);
}

-- ---- amid the calls behind answers that are out

-- So many are out by now.
pub record OutSoFar (who out line : ℕ) (old new : Option (List GateCall)) : Type 0 where
  pub calls : List GateCall
  pub added : Adds old new calls
  pub lead : (begun round : ℕ) → line ≤ begun → round ≤ begun → (round' : ℕ) × (round' ≤ begun) × LeadTo who calls (progress begun out round) (progress begun line round')

pub OutSoFar-none : (who out : ℕ) (old : Option (List GateCall)) → OutSoFar who out out old old
OutSoFar-none who out old = record { calls = []; added = Adds-none old; lead = λ begun round within before. (round, before, refl) }

pub OutSoFar-more : (who out line next : ℕ) (old between new : Option (List GateCall)) → next ≡ line + 1 → OutSoFar who out line old between → Adds between new (After who next ∷ [])
    → OutSoFar who out next old new
OutSoFar-more who out line next old between new is one added = record {
  calls = one.calls ++ After who next ∷ [];
  added = Adds-append old between new one.calls (After who next ∷ []) one.added added;
  lead = λ begun round within before.
      let went = one.lead begun round (omega (arith, is, within)) before in
      (begun, omega arith, LeadTo-append who one.calls (After who next ∷ []) (progress begun out round) (progress begun line went.0) (progress begun next begun) went.2 (refl, is, within, refl));
}

pub AreOut-of : (who out upto : ℕ) (old new : Option (List GateCall)) → OutSoFar who out upto old new → AreOut who out upto old new
AreOut-of who out upto old new one = (one.calls, one.added, one.lead)
