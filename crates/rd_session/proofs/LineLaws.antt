-- Bytes, cut into lines.
use Rattle.std.proofs.Common.{◌≡◌, ◌∙◌, ℕ, zero, suc, ◌+◌, ◌<◌, ◌≤◌, Bool, true, false, List, [], ◌∷◌, ◌++◌, length, take, drop, refl, ap, subst, sym, arith}
use Rattle.std.specs.Prelude.{Option, Some, None, if◌then◌else◌, nat_lt, not}
use Rattle.std.specs.List.{position_or_len}
use Rattle.std.proofs.lemmas.Bool.{ltb-true, ltb-false}
use Rattle.std.proofs.lemmas.Bool.Decides.{nat_tests}
use Rattle.std.proofs.lemmas.List.Sums.{prefix_len-le-length}
use Rattle.std.proofs.lemmas.List.{append_assoc, append-nil, length-take, length_push, take-append-drop}
use Rattle.rd_session.specs.Lines.{Line, Whole, Long, front_of, is_feed, last_of, lines_from, rest_from, without_return}
use Rattle.rd_session.specs.declared.lines.Front.TheVariants as front

-- ---- bytes behind one another

pub lines_from-append : (held : Option (List ℕ)) (xs ys : List ℕ) → lines_from held (xs ++ ys) ≡ lines_from held xs ++ lines_from (rest_from held xs) ys
lines_from-append None xs ys = refl
lines_from-append (Some held) [] ys = refl
lines_from-append (Some held) (x ∷ xs) ys =
    elim (is_feed x) as (λ b. (if b then Whole (without_return held) ∷ lines_from (Some []) (xs ++ ys) else (if nat_lt (length held) 1024 then lines_from (Some (held ++ x ∷ [])) (xs ++ ys) else Long ∷ []))
    ≡ (if b then Whole (without_return held) ∷ lines_from (Some []) xs else (if nat_lt (length held) 1024 then lines_from (Some (held ++ x ∷ [])) xs else Long ∷ []))
    ++ lines_from (if b then rest_from (Some []) xs else (if nat_lt (length held) 1024 then rest_from (Some (held ++ x ∷ [])) xs else None)) ys) [
      | true ↦ ap (λ (ls : List Line). Whole (without_return held) ∷ ls) (lines_from-append (Some []) xs ys)
      | false ↦ elim (nat_lt (length held) 1024) as (λ b. (if b then lines_from (Some (held ++ x ∷ [])) (xs ++ ys) else Long ∷ [])
          ≡ (if b then lines_from (Some (held ++ x ∷ [])) xs else Long ∷ []) ++ lines_from (if b then rest_from (Some (held ++ x ∷ [])) xs else None) ys) [
            | true ↦ lines_from-append (Some (held ++ x ∷ [])) xs ys
            | false ↦ refl
          ]
    ]

pub rest_from-append : (held : Option (List ℕ)) (xs ys : List ℕ) → rest_from held (xs ++ ys) ≡ rest_from (rest_from held xs) ys
rest_from-append None xs ys = refl
rest_from-append (Some held) [] ys = refl
rest_from-append (Some held) (x ∷ xs) ys =
    elim (is_feed x) as (λ b. (if b then rest_from (Some []) (xs ++ ys) else (if nat_lt (length held) 1024 then rest_from (Some (held ++ x ∷ [])) (xs ++ ys) else None))
    ≡ rest_from (if b then rest_from (Some []) xs else (if nat_lt (length held) 1024 then rest_from (Some (held ++ x ∷ [])) xs else None)) ys) [
      | true ↦ rest_from-append (Some []) xs ys
      | false ↦ elim (nat_lt (length held) 1024) as (λ b. (if b then rest_from (Some (held ++ x ∷ [])) (xs ++ ys) else None)
          ≡ rest_from (if b then rest_from (Some (held ++ x ∷ [])) xs else None) ys) [
            | true ↦ rest_from-append (Some (held ++ x ∷ [])) xs ys
            | false ↦ refl
          ]
    ]

-- ---- a front without LF

abbrev HasNoFeed : List ℕ → Type 0
HasNoFeed [] = Unit {0}
HasNoFeed (x ∷ xs) = (is_feed x ≡ false) × HasNoFeed xs

room_true : (held : List ℕ) (more : ℕ) → length held + suc more ≤ 1024 → nat_lt (length held) 1024 ≡ true
room_true held more within = grind (arith, nat_tests, within)

pushed_len : (held : List ℕ) (x more : ℕ) → length (held ++ x ∷ []) + more ≡ length held + suc more
pushed_len held x more = omega (arith, length_push held x)

joined : (held front : List ℕ) (x : ℕ) → (held ++ x ∷ []) ++ front ≡ held ++ x ∷ front
joined held front x = append_assoc held (x ∷ []) front

-- it ends with LF
cut_whole : (held front tail : List ℕ) (feed : ℕ) → HasNoFeed front → is_feed feed ≡ true → length held + length front ≤ 1024
    → (lines_from (Some held) (front ++ feed ∷ tail) ≡ Whole (without_return (held ++ front)) ∷ lines_from (Some []) tail)
    × (rest_from (Some held) (front ++ feed ∷ tail) ≡ rest_from (Some []) tail)
cut_whole held [] tail feed none is within = (
  rw (is, append-nil held) refl,
  rw is refl,
)
cut_whole held (x ∷ xs) tail feed none is within =
    let room = room_true held (length xs) (omega (arith, within)) in
    let later = cut_whole (held ++ x ∷ []) xs tail feed none.1 is (omega (arith, within, pushed_len held x (length xs))) in (
      rw (none.0, room) (later.0 ∙ ap (λ (l : List ℕ). Whole (without_return l) ∷ lines_from (Some []) tail) (joined held xs x)),
      rw (none.0, room) later.1,
    )

-- it hasn't ended yet
cut_part : (held front : List ℕ) → HasNoFeed front → length held + length front ≤ 1024
    → (lines_from (Some held) front ≡ []) × (rest_from (Some held) front ≡ Some (held ++ front))
cut_part held [] none within = (refl, ap (λ (l : List ℕ). Some l) (sym (append-nil held)))
cut_part held (x ∷ xs) none within =
    let room = room_true held (length xs) (omega (arith, within)) in
    let later = cut_part (held ++ x ∷ []) xs none.1 (omega (arith, within, pushed_len held x (length xs))) in (
      rw (none.0, room) later.0,
      rw (none.0, room) (later.1 ∙ ap (λ (l : List ℕ). Some l) (joined held xs x)),
    )

-- it is too long
abbrev IsCutLong : List ℕ → List ℕ → Type 0
IsCutLong held bytes = (lines_from (Some held) bytes ≡ Long ∷ []) × (rest_from (Some held) bytes ≡ None)

cut_longer : (held bytes : List ℕ) (x : ℕ) (room : Bool) → nat_lt (length held) 1024 ≡ room → is_feed x ≡ false → (nat_lt (length held) 1024 ≡ true → IsCutLong (held ++ x ∷ []) bytes)
    → IsCutLong held (x ∷ bytes)
cut_longer held bytes x true room other later = (rw (other, room) (later room).0, rw (other, room) (later room).1)
cut_longer held bytes x false room other later = (rw (other, room) refl, rw (other, room) refl)

cut_long : (held front tail : List ℕ) → HasNoFeed front → length held ≤ 1024 → 1024 < length held + length front → IsCutLong held (front ++ tail)
cut_long held [] tail none within over = absurd (omega (arith, within, over))
cut_long held (x ∷ xs) tail none within over =
    cut_longer held (xs ++ tail) x (nat_lt (length held) 1024) refl none.0
    (λ room.
    let less : length held < 1024 = ltb-true (length held) 1024 room in
    cut_long (held ++ x ∷ []) xs tail none.1 (omega (arith, less, length_push held x)) (omega (arith, over, pushed_len held x (length xs))))

-- ---- where the first LF stands

-- What stands before this place has no LF, and if it isn't the end one stands there.
abbrev Parts : List ℕ → ℕ → Type 0
Parts bytes n =
    HasNoFeed (take n bytes)
    × (n < length bytes → (feed : ℕ) × (is_feed feed ≡ true) × (drop n bytes ≡ feed ∷ drop (n + 1) bytes))

parts_later : (x : ℕ) (xs : List ℕ) (n : ℕ) → is_feed x ≡ false → Parts xs n → Parts (x ∷ xs) (suc n)
parts_later x xs n other parts = (
  (other, parts.0),
  λ less.
      let here = parts.1 (omega (arith, less)) in
      let place : suc n + 1 ≡ suc (n + 1) = omega arith in
      (here.0, here.1, here.2 ∙ ap (λ (l : List ℕ). here.0 ∷ l) (sym (ap (λ (k : ℕ). drop k (x ∷ xs)) place))),
)

split_case : (x : ℕ) (xs : List ℕ) (b : Bool) → is_feed x ≡ b → Parts xs (position_or_len is_feed xs) → Parts (x ∷ xs) (position_or_len is_feed (x ∷ xs))
split_case x xs true is parts =
    let first : position_or_len is_feed (x ∷ xs) ≡ 0 = rw is refl in
    subst (λ (k : ℕ). Parts (x ∷ xs) k) (sym first) (tt, λ less. (x, is, refl))
split_case x xs false is parts =
    let later : position_or_len is_feed (x ∷ xs) ≡ suc (position_or_len is_feed xs) = rw is (omega arith) in
    subst (λ (k : ℕ). Parts (x ∷ xs) k) (sym later) (parts_later x xs (position_or_len is_feed xs) is parts)

split : (bytes : List ℕ) → Parts bytes (position_or_len is_feed bytes)
split [] = (tt, λ less. absurd (omega (arith, less)))
split (x ∷ xs) = split_case x xs (is_feed x) refl (split xs)

-- ---- what stands at the front

chosen_line : (n count len : ℕ) (long here : Bool) → long ≡ nat_lt 1024 n → here ≡ nat_lt n count → (if long then front.TooLong else if here then front.Line n else front.Part) ≡ front.Line len
    → (n ≡ len) × (n ≤ 1024) × (n < count)
chosen_line n count len true here over is e = absurd cc
chosen_line n count len false true over is e =
    let same : n ≡ len = cc in
    let short = ltb-false 1024 n (sym over) in
    let less = ltb-true n count (sym is) in
    (same, omega (arith, short), less)
chosen_line n count len false false over is e = absurd cc

chosen_long : (n count : ℕ) (long here : Bool) → long ≡ nat_lt 1024 n → (if long then front.TooLong else if here then front.Line n else front.Part) ≡ front.TooLong
    → 1024 < n
chosen_long n count true here over e = ltb-true 1024 n (sym over)
chosen_long n count false true over e = absurd cc
chosen_long n count false false over e = absurd cc

chosen_part : (n count : ℕ) (long here : Bool) → long ≡ nat_lt 1024 n → here ≡ nat_lt n count → (if long then front.TooLong else if here then front.Line n else front.Part) ≡ front.Part
    → (n ≤ 1024) × (count ≤ n)
chosen_part n count true here over is e = absurd cc
chosen_part n count false true over is e = absurd cc
chosen_part n count false false over is e =
    let short = ltb-false 1024 n (sym over) in
    let rest = ltb-false n count (sym is) in
    (omega (arith, short), omega (arith, rest))

take_whole : (xs : List ℕ) (n : ℕ) → length xs ≤ n → take n xs ≡ xs
take_whole [] zero all = refl
take_whole [] (suc n) all = refl
take_whole (x ∷ xs) zero all = absurd (omega (arith, all))
take_whole (x ∷ xs) (suc n) all = ap (λ (l : List ℕ). x ∷ l) (take_whole xs n (omega (arith, all)))

-- A whole line stands at the front.
pub line_cut : (bytes : List ℕ) (len : ℕ) → front_of bytes ≡ front.Line len
    → (lines_from (Some []) bytes ≡ Whole (without_return (take len bytes)) ∷ lines_from (Some []) (drop (len + 1) bytes))
    × (rest_from (Some []) bytes ≡ rest_from (Some []) (drop (len + 1) bytes)) × (len < length bytes)
line_cut bytes len e =
    let n = position_or_len is_feed bytes in
    let chosen = chosen_line n (length bytes) len (nat_lt 1024 n) (nat_lt n (length bytes)) refl refl e in
    let parts : Parts bytes len = subst (λ (k : ℕ). Parts bytes k) chosen.0 (split bytes) in
    let less : len < length bytes = omega (arith, chosen.0, chosen.2) in
    let here = parts.1 less in
    let short : length {A = ℕ} [] + length (take len bytes) ≤ 1024 = omega (arith, length-take len bytes, chosen.0, chosen.1) in
    let cut = cut_whole [] (take len bytes) (drop (len + 1) bytes) here.0 parts.0 here.1 short in
    let bytes_are : take len bytes ++ here.0 ∷ drop (len + 1) bytes ≡ bytes = ap (λ (l : List ℕ). take len bytes ++ l) (sym here.2) ∙ take-append-drop len bytes in
    (ap (λ (l : List ℕ). lines_from (Some []) l) (sym bytes_are) ∙ cut.0, ap (λ (l : List ℕ). rest_from (Some []) l) (sym bytes_are) ∙ cut.1, less)

-- A line that is too long stands there.
pub long_cut : (bytes : List ℕ) → front_of bytes ≡ front.TooLong → (lines_from (Some []) bytes ≡ Long ∷ []) × (rest_from (Some []) bytes ≡ None)
long_cut bytes e =
    let n = position_or_len is_feed bytes in
    let over = chosen_long n (length bytes) (nat_lt 1024 n) (nat_lt n (length bytes)) refl e in
    let within : n ≤ length bytes = prefix_len-le-length (λ x. not (is_feed x)) bytes in
    let len : length (take n bytes) ≡ n = omega (arith, length-take n bytes, within) in
    let cut = cut_long [] (take n bytes) (drop n bytes) (split bytes).0 (omega arith) (omega (arith, over, len)) in
    let bytes_are = take-append-drop n bytes in
    (ap (λ (l : List ℕ). lines_from (Some []) l) (sym bytes_are) ∙ cut.0, ap (λ (l : List ℕ). rest_from (Some []) l) (sym bytes_are) ∙ cut.1)

-- The beginning of a line stands there, or nothing.
pub part_cut : (bytes : List ℕ) → front_of bytes ≡ front.Part → (lines_from (Some []) bytes ≡ []) × (rest_from (Some []) bytes ≡ Some bytes) × (length bytes ≤ 1024)
part_cut bytes e =
    let n = position_or_len is_feed bytes in
    let chosen = chosen_part n (length bytes) (nat_lt 1024 n) (nat_lt n (length bytes)) refl refl e in
    let all : take n bytes ≡ bytes = take_whole bytes n chosen.1 in
    let none : HasNoFeed bytes = subst (λ (l : List ℕ). HasNoFeed l) all (split bytes).0 in
    let short : length bytes ≤ 1024 = omega (arith, chosen.0, chosen.1) in
    let cut = cut_part [] bytes none (omega (arith, short)) in
    (cut.0, cut.1, short)

-- a line at the end of the input
pub last_line : (rest : List ℕ) → 0 < length rest → last_of (Some rest) ≡ Whole rest ∷ []
last_line [] some = absurd (omega (arith, some))
last_line (x ∷ xs) some = refl

pub no_last_line : (rest : List ℕ) → length rest ≡ 0 → last_of (Some rest) ≡ []
no_last_line [] none = refl
no_last_line (x ∷ xs) none = absurd (omega (arith, none))
