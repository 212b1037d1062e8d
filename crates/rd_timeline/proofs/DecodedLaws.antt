-- Moves as they are kept, in parts.
use Rattle.std.proofs.Common.{◌≡◌, ◌∙◌, ℕ, suc, ◌+◌, ◌≤◌, List, [], ◌∷◌, ◌++◌, cond, length, take, drop, refl, ap, sym, true, false, arith}
use Rattle.std.specs.Prelude.{◌==◌, Bool}
use Rattle.std.proofs.Math.Seq.{drop-append_seam, take-append_seam}
use Rattle.std.proofs.lemmas.Bool.{ne_eqb}
use Rattle.std.proofs.lemmas.List.{drop-append-le, drop-drop, length-drop, length-take-le, take-append-drop}
use Rattle.std.proofs.lemmas.List.Sums.{sum_by-append, sum_by-cons, sum_by-take-drop}
use Rattle.rd_moves.specs.Carried.{PlainCarried}
use Rattle.rd_moves.specs.Moves.{PlainMove}
use Rattle.rd_moves.specs.declared.moves.Move.TheVariants.{Carried, Core, Tick}
use Rattle.rd_timeline.specs.Decoded.{HasByte, byte_of, decoded, carried_of, carried_among, carried_at, carried_in, carries, is_carried_byte, move_of, next_carried}

-- ---- how many moves carry something

-- of one byte more
pub carried_among-cons : (byte : ℕ) (bytes : List ℕ) → carried_among (byte ∷ bytes) ≡ carried_at byte + carried_among bytes
carried_among-cons byte bytes = sum_by-cons (λ b. cond (is_carried_byte b) 1 0) byte bytes

-- no more than there are bytes
at_most_one : (is : Bool) → cond is 1 0 ≤ 1
at_most_one true = omega arith
at_most_one false = omega arith

pub carried_among-le : (bytes : List ℕ) → carried_among bytes ≤ length bytes
carried_among-le [] = omega arith
carried_among-le (byte ∷ bytes) = omega (arith, carried_among-cons byte bytes, at_most_one (is_carried_byte byte), carried_among-le bytes)

pub carried_among-append : (xs ys : List ℕ) → carried_among (xs ++ ys) ≡ carried_among xs + carried_among ys
carried_among-append xs ys = sum_by-append (λ b. cond (is_carried_byte b) 1 0) xs ys

pub carried_among-parts : (bytes : List ℕ) (m : ℕ) → carried_among (take m bytes) + carried_among (drop m bytes) ≡ carried_among bytes
carried_among-parts bytes m = sum_by-take-drop (λ b. cond (is_carried_byte b) 1 0) bytes m

pub carried_in-append : (ms ns : List PlainMove) → carried_in (ms ++ ns) ≡ carried_in ms + carried_in ns
carried_in-append ms ns = sum_by-append (λ m. cond (carries m) 1 0) ms ns

pub carried_in-parts : (moves : List PlainMove) (m : ℕ) → carried_in (take m moves) + carried_in (drop m moves) ≡ carried_in moves
carried_in-parts moves m = sum_by-take-drop (λ x. cond (carries x) 1 0) moves m

-- ---- a byte and what its move carries

-- What is carried behind what a byte stands for says nothing of its move.
move_by : (is : Bool) (other : PlainMove) (es fs : List PlainCarried) → cond is 1 0 ≤ length es → cond is (next_carried (es ++ fs)) other ≡ cond is (next_carried es) other
move_by true other [] fs enough = absurd (omega (arith, enough))
move_by true other (first ∷ es) fs enough = refl
move_by false other es fs enough = refl

pub move_of-more : (byte : ℕ) (es fs : List PlainCarried) → carried_at byte ≤ length es → move_of byte (es ++ fs) ≡ move_of byte es
move_of-more byte es fs enough = move_by (is_carried_byte byte) (cond (byte == 255) Tick (Core byte)) es fs enough

-- A byte that stands for a move that carries something gives one.
carries_by : (is is_tick : Bool) (core : ℕ) (es : List PlainCarried) → cond is 1 0 ≤ length es
    → carries (cond is (next_carried es) (cond is_tick Tick (Core core))) ≡ is
carries_by true is_tick core [] enough = absurd (omega (arith, enough))
carries_by true is_tick core (first ∷ es) enough = refl
carries_by false true core es enough = refl
carries_by false false core es enough = refl

-- A move has one byte, and beside it what it carries.
pub decoded-one : (move : PlainMove) → HasByte move → decoded (byte_of move ∷ []) (carried_of move) ≡ move ∷ []
decoded-one (Core core) few =
    ap (λ b. cond b Tick (cond (core == 255) Tick (Core core)) ∷ []) (ne_eqb core 254 (λ same. omega (arith, few, same)))
    ∙ ap (λ b. cond b Tick (Core core) ∷ []) (ne_eqb core 255 (λ same. omega (arith, few, same)))
decoded-one Tick few = refl
decoded-one (Carried carried) few = refl

pub carried_at-one : (move : PlainMove) → HasByte move → carried_among (byte_of move ∷ []) ≡ length (carried_of move)
carried_at-one (Core core) few =
    let none : carried_at core ≡ 0 = ap (λ b. cond b 1 0) (ne_eqb core 254 (λ same. omega (arith, few, same))) in
    omega (arith, carried_among-cons core [], none)
carried_at-one Tick few = refl
carried_at-one (Carried carried) few = refl

-- ---- many of them

pub length-decoded : (bytes : List ℕ) (es : List PlainCarried) → length (decoded bytes es) ≡ length bytes
length-decoded [] es = refl
length-decoded (byte ∷ bytes) es = ap suc (length-decoded bytes (drop (carried_at byte) es))

-- Bytes behind others take what those leave.
decoded-append : (xs ys : List ℕ) (es : List PlainCarried) → decoded (xs ++ ys) es ≡ decoded xs es ++ decoded ys (drop (carried_among xs) es)
decoded-append [] ys es = refl
decoded-append (byte ∷ xs) ys es =
    let rest = drop (carried_at byte) es in
    let later : drop (carried_among xs) rest ≡ drop (carried_among (byte ∷ xs)) es =
    drop-drop (carried_among xs) (carried_at byte) es ∙ ap (λ n. drop n es) (sym (carried_among-cons byte xs)) in
    ap (λ (ms : List PlainMove). move_of byte es ∷ ms)
    (decoded-append xs ys rest ∙ ap (λ (fs : List PlainCarried). decoded xs rest ++ decoded ys fs) later)

-- What is carried behind what the bytes stand for says nothing of their moves.
decoded-more : (bytes : List ℕ) (es fs : List PlainCarried) → carried_among bytes ≤ length es → decoded bytes (es ++ fs) ≡ decoded bytes es
decoded-more [] es fs enough = refl
decoded-more (byte ∷ bytes) es fs enough =
    let count = carried_among-cons byte bytes in
    let here : carried_at byte ≤ length es = omega (arith, enough, count) in
    ap (λ (m : PlainMove). m ∷ decoded bytes (drop (carried_at byte) (es ++ fs))) (move_of-more byte es fs here)
    ∙ ap (λ (gs : List PlainCarried). move_of byte es ∷ decoded bytes gs) (drop-append-le (carried_at byte) es fs here)
    ∙ ap (λ (ms : List PlainMove). move_of byte es ∷ ms)
    (decoded-more bytes (drop (carried_at byte) es) fs (omega (arith, enough, count, length-drop (carried_at byte) es)))

-- Bytes and bytes behind them stand for the moves of either, which carry what is theirs.
pub decoded-parts : (xs ys : List ℕ) (es fs : List PlainCarried) → carried_among xs ≡ length es
    → decoded (xs ++ ys) (es ++ fs) ≡ decoded xs es ++ decoded ys fs
decoded-parts xs ys es fs all =
    decoded-append xs ys (es ++ fs)
    ∙ ap (λ (ms : List PlainMove). ms ++ decoded ys (drop (carried_among xs) (es ++ fs))) (decoded-more xs es fs (omega (arith, all)))
    ∙ ap (λ n. decoded xs es ++ decoded ys (drop n (es ++ fs))) all ∙ ap (λ (gs : List PlainCarried). decoded xs es ++ decoded ys gs) (drop-append_seam es fs)

-- Among the moves that bytes stand for as many carry something.
pub carried_in-decoded : (bytes : List ℕ) (es : List PlainCarried) → carried_among bytes ≤ length es → carried_in (decoded bytes es) ≡ carried_among bytes
carried_in-decoded [] es enough = refl
carried_in-decoded (byte ∷ bytes) es enough =
    let rest = drop (carried_at byte) es in
    let count = carried_among-cons byte bytes in
    let one : cond (carries (move_of byte es)) 1 0 ≡ carried_at byte =
    ap (λ b. cond b 1 0) (carries_by (is_carried_byte byte) (byte == 255) byte es (omega (arith, enough, count))) in
    let later = carried_in-decoded bytes rest (omega (arith, enough, count, length-drop (carried_at byte) es)) in
    omega (arith, sum_by-cons (λ m. cond (carries m) 1 0) (move_of byte es) (decoded bytes rest), one, later, count)

-- The first so many bytes and the others, each with what they carry.
pub record IsCutAt (bytes : List ℕ) (es : List PlainCarried) (m t : ℕ) : Type 0 where
  pub first : take m (decoded bytes es) ≡ decoded (take m bytes) (take t es)
  pub later : drop m (decoded bytes es) ≡ decoded (drop m bytes) (drop t es)
  pub first_carried : carried_among (take m bytes) ≡ length (take t es)
  pub later_carried : carried_among (drop m bytes) ≡ length (drop t es)

pub decoded-cut : (bytes : List ℕ) (es : List PlainCarried) (m : ℕ) → carried_among bytes ≡ length es → m ≤ length bytes
    → IsCutAt bytes es m (carried_among (take m bytes))
decoded-cut bytes es m all within =
    let t = carried_among (take m bytes) in
    let parts = carried_among-parts bytes m in
    let first : t ≡ length (take t es) = omega (arith, parts, all, length-take-le t es (omega (arith, parts, all))) in
    let both : decoded bytes es ≡ decoded (take m bytes) (take t es) ++ decoded (drop m bytes) (drop t es) =
    ap (λ (xs : List ℕ). decoded xs es) (sym (take-append-drop m bytes))
    ∙ ap (decoded (take m bytes ++ drop m bytes)) (sym (take-append-drop t es))
    ∙ decoded-parts (take m bytes) (drop m bytes) (take t es) (drop t es) first in
    let count : length (decoded (take m bytes) (take t es)) ≡ m = length-decoded (take m bytes) (take t es) ∙ length-take-le m bytes within in
    let apart = decoded (take m bytes) (take t es) ++ decoded (drop m bytes) (drop t es) in
    record {
      first =
          ap (take m) both ∙ ap (λ k. take k apart) (sym count)
          ∙ take-append_seam (decoded (take m bytes) (take t es)) (decoded (drop m bytes) (drop t es));
      later =
          ap (drop m) both ∙ ap (λ k. drop k apart) (sym count)
          ∙ drop-append_seam (decoded (take m bytes) (take t es)) (decoded (drop m bytes) (drop t es));
      first_carried = first;
      later_carried = omega (arith, parts, all, length-drop t es);
    }
