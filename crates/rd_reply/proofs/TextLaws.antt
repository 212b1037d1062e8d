-- Lists with a comma between each two members, written member by member.
use Rattle.std.proofs.Common.{◌≡◌, ◌∙◌, ℕ, zero, suc, ◌+◌, ◌<◌, List, [], ◌∷◌, ◌++◌, get_or, length}
use Rattle.std.proofs.Common.{slice_index, ◌/◌, ◌%◌, take, refl, sym, ap, subst, arith}
use Rattle.std.proofs.Common.{length-append}
use Rattle.std.proofs.lemmas.List.{append-nil, flat_map_more, take_all, take_more}
use Rattle.hex.specs.Hex.{encode_lower, encode_with, lower_digits}
use Rattle.rd_reply.proofs.PageLaws.{appends_then}
use Rattle.rd_reply.specs.declared.page.Page.{Page}
use Rattle.rd_reply.specs.Pages.{Appends}
use Rattle.rd_reply.specs.Replies.{bytes_text, comma_at, separated, list_text}

-- the first member stands alone, and a comma before each later one
joined_more : {X : Type 0} (text : X → List ℕ) (xs : List X) (i : ℕ) (d : X) → i < length xs
    → separated text (take i xs) ++ (comma_at i ++ text (get_or xs i d))
    ≡ separated text (take (i + 1) xs)
joined_more text [] i d within = absurd (omega arith)
joined_more text (x ∷ xs) zero d within = sym (append-nil (text x))
joined_more text (x ∷ xs) (suc i) d within =
    flat_map_more (λ y. 44 ∷ text y) (text x) (take i xs) (get_or xs i d)
    ∙ ap (separated text) (sym (take_more (x ∷ xs) (suc i) d within))

-- a comma, unless the member is the first, and the member
pub one_more : {X : Type 0} (text : X → List ℕ) (xs : List X) (i : ℕ) (d : X)
    (start page after_comma after : Page)
    → i < length xs → Appends start page (separated text (take i xs))
    → Appends page after_comma (comma_at i) → Appends after_comma after (text (get_or xs i d))
    → Appends start after (separated text (take (i + 1) xs))
one_more text xs i d start page after_comma after within so_far comma member =
    subst (Appends start after) (joined_more text xs i d within)
    (appends_then so_far (appends_then comma member))

-- all members
pub all_joined : {X : Type 0} (text : X → List ℕ) (xs : List X) (i : ℕ) (start page : Page)
    → 0 < length xs → i ≡ length xs
    → Appends start page (separated text (take i xs)) → Appends start page (list_text text xs)
all_joined text [] i start page some all so_far = absurd (omega arith)
all_joined {X = X} text (x ∷ xs) i start page some all so_far =
    subst (λ (ys : List X). Appends start page (separated text ys))
    (take_all i (x ∷ xs) (omega arith)) so_far

-- the digits of bytes in two pieces
digits_joined : (front back : List ℕ)
    → encode_lower front ++ encode_lower back ≡ encode_lower (front ++ back)
unfolding encode_with
digits_joined [] back = refl
digits_joined (byte ∷ front) back =
    ap (λ (digits : List ℕ).
    slice_index lower_digits (byte / 16) ∷ slice_index lower_digits (byte % 16) ∷ digits)
    (digits_joined front back)

-- bytes, of which there are some, are shown by their digits
digits_shown : (bytes : List ℕ) → 0 < length bytes → encode_lower bytes ≡ bytes_text bytes
digits_shown [] some = absurd (omega arith)
digits_shown (byte ∷ bytes) some = refl

-- the same of bytes in two pieces, of which one has some
pub pieces_shown : (front back : List ℕ) → 0 < length front + length back
    → encode_lower front ++ encode_lower back ≡ bytes_text (front ++ back)
pieces_shown front back some =
    digits_joined front back ∙ digits_shown (front ++ back)
    (omega (arith, some, length-append front back))
