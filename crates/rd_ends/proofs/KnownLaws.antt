-- Known bytes, over one call after the other.
use Rattle.std.proofs.Common.{ℕ, ◌+◌, List, [], ◌++◌, take, drop, refl, sym, subst, ap, ◌∙◌}
use Rattle.std.specs.Prelude.{Option, Some, None}
use Rattle.std.specs.Io.KnownBytes.{Appends, Consumes, Keeps}
use Rattle.std.proofs.Math.Seq.{take-add}
use Rattle.std.proofs.lemmas.List.{append_assoc, append-nil, take-append-drop}
use Rattle.rd_ends.specs.Ends.{IsFront}

pub Keeps-same : (old : Option (List ℕ)) → Keeps old old
Keeps-same None = tt
Keeps-same (Some a) = refl

pub Keeps-then : (old between new : Option (List ℕ)) → Keeps old between → Keeps between new
    → Keeps old new
Keeps-then None between new one two = tt
Keeps-then (Some a) None new one two = absurd one
Keeps-then (Some a) (Some b) None one two = absurd two
Keeps-then (Some a) (Some b) (Some c) one two = two ∙ one

pub Consumes-none : (old : Option (List ℕ)) → Consumes old old []
Consumes-none None = tt
Consumes-none (Some a) = refl

pub Consumes-append : (old between new : Option (List ℕ)) (xs ys : List ℕ)
    → Consumes old between xs → Consumes between new ys → Consumes old new (xs ++ ys)
Consumes-append None between new xs ys one two = tt
Consumes-append (Some a) None new xs ys one two = absurd one
Consumes-append (Some a) (Some b) None xs ys one two = absurd two
Consumes-append (Some a) (Some b) (Some c) xs ys one two =
    one ∙ ap (λ l. xs ++ l) two ∙ sym (append_assoc xs ys c)

pub Consumes-same : (old between new : Option (List ℕ)) (xs : List ℕ) → Consumes old between xs
    → Keeps between new → Consumes old new xs
Consumes-same None between new xs one two = tt
Consumes-same (Some a) None new xs one two = absurd one
Consumes-same (Some a) (Some b) None xs one two = absurd two
Consumes-same (Some a) (Some b) (Some c) xs one two = one ∙ ap (λ l. xs ++ l) (sym two)

pub same-Consumes : (old between new : Option (List ℕ)) (xs : List ℕ) → Keeps old between
    → Consumes between new xs → Consumes old new xs
same-Consumes None between new xs one two = tt
same-Consumes (Some a) None new xs one two = absurd one
same-Consumes (Some a) (Some b) None xs one two = absurd two
same-Consumes (Some a) (Some b) (Some c) xs one two = sym one ∙ two

pub Appends-none : (old : Option (List ℕ)) → Appends old old []
Appends-none None = tt
Appends-none (Some a) = sym (append-nil a)

pub Appends-append : (old between new : Option (List ℕ)) (xs ys : List ℕ)
    → Appends old between xs → Appends between new ys → Appends old new (xs ++ ys)
Appends-append None between new xs ys one two = tt
Appends-append (Some a) None new xs ys one two = absurd one
Appends-append (Some a) (Some b) None xs ys one two = absurd two
Appends-append (Some a) (Some b) (Some c) xs ys one two =
    two ∙ ap (λ l. l ++ ys) one ∙ append_assoc a xs ys

pub Appends-same : (old between new : Option (List ℕ)) (xs : List ℕ) → Appends old between xs
    → Keeps between new → Appends old new xs
Appends-same None between new xs one two = tt
Appends-same (Some a) None new xs one two = absurd one
Appends-same (Some a) (Some b) None xs one two = absurd two
Appends-same (Some a) (Some b) (Some c) xs one two = two ∙ one

-- what was taken is a front
pub taken_front : (old between new : Option (List ℕ)) (bytes : List ℕ) (sent : ℕ)
    → Appends old between (take sent bytes) → Keeps between new
    → (front : List ℕ) × IsFront front bytes × Appends old new front
taken_front old between new bytes sent one two = (
  take sent bytes,
  (drop sent bytes, sym (take-append-drop sent bytes)),
  Appends-same old between new (take sent bytes) one two,
)

-- more is taken
pub taken_more : (old between new : Option (List ℕ)) (bytes : List ℕ) (sent count : ℕ)
    → Appends old between (take sent bytes) → Appends between new (take count (drop sent bytes))
    → Appends old new (take (sent + count) bytes)
taken_more old between new bytes sent count one two =
    subst (λ (xs : List ℕ). Appends old new xs) (sym (take-add sent count bytes))
    (Appends-append old between new _ _ one two)
