-- Laws of messages that lie one after the other in a list of bytes.
use Rattle.std.proofs.Common.{◌≡◌, ◌∙◌, ℕ, zero, suc, ◌+◌, ◌-◌, ◌^◌, ◌<◌, ◌≤◌, List, [], ◌∷◌, ◌++◌, length, get_or, take, drop, refl, ap, ap₂, sym, subst, arith}
use Rattle.std.proofs.lemmas.List.{length-append, length-drop, append-nil, take_at, drop_at, drop-drop, take_more, drop_more, take_all, take-append-drop}
use Rattle.std.proofs.lemmas.List.{map-append}
use Rattle.std.proofs.lemmas.List.Elements.{All-nil, All-cons, All-head, All-tail, All-push, All-take, All-drop}
use Rattle.std.proofs.lemmas.List.Folds.{concat-append}
use Rattle.std.proofs.lemmas.Nat.{from_le_bytes-to_le_bytes_4}
use Rattle.std.specs.List.{concat}
use Rattle.std.specs.Prelude.{All, map}
use Rattle.rd_stream.specs.Messages.{framed, all_framed, first_length, first_messages, messages_in, bytes_held, AreMessages}

-- ---- one message

pub length-framed : (m : List ℕ) → length (framed m) ≡ 4 + length m
length-framed m = omega arith

-- A message is short enough for its length to be read back.
abbrev pub IsShort : List ℕ → Type 0
IsShort m = length m < 2 ^ 32

pub first_length-framed : (m rest : List ℕ) → IsShort m → first_length (framed m ++ rest) ≡ length m
first_length-framed m rest short = from_le_bytes-to_le_bytes_4 (length m) short

pub behind_framed : (m rest : List ℕ) → drop (4 + length m) (framed m ++ rest) ≡ rest
behind_framed m rest = drop_at (framed m) rest (4 + length m) (length-framed m)

pub in_framed : (m rest : List ℕ) → take (length m) (drop 4 (framed m ++ rest)) ≡ m
in_framed m rest = take_at m rest (length m) refl

-- The first message is read, and then those behind it.
first_messages-framed : (n : ℕ) (m rest : List ℕ) → IsShort m → first_messages (suc n) (framed m ++ rest) ≡ m ∷ first_messages n rest
first_messages-framed n m rest short =
    let bytes : List ℕ = framed m ++ rest in
    ap (λ (k : ℕ). take k (drop 4 bytes) ∷ first_messages n (drop (4 + k) bytes)) (first_length-framed m rest short)
    ∙ ap₂ (λ (a b : List ℕ). a ∷ first_messages n b) (in_framed m rest) (behind_framed m rest)

-- ---- messages in bytes

-- As many are read as there are, however many may be.
first_messages-enough : (n k : ℕ) (bytes : List ℕ) → length bytes ≤ n → length bytes ≤ k → first_messages n bytes ≡ first_messages k bytes
first_messages-enough zero zero bytes n_enough k_enough = refl
first_messages-enough zero (suc k) [] n_enough k_enough = refl
first_messages-enough zero (suc k) (byte ∷ bytes) n_enough k_enough = absurd (omega (arith, n_enough))
first_messages-enough (suc n) zero [] n_enough k_enough = refl
first_messages-enough (suc n) zero (byte ∷ bytes) n_enough k_enough = absurd (omega (arith, k_enough))
first_messages-enough (suc n) (suc k) [] n_enough k_enough = refl
first_messages-enough (suc n) (suc k) (byte ∷ bytes) n_enough k_enough =
    let all : List ℕ = byte ∷ bytes in
    let rest : List ℕ = drop (4 + first_length all) all in
    let shorter = length-drop (4 + first_length all) all in
    ap (λ (ms : List (List ℕ)). take (first_length all) (drop 4 all) ∷ ms)
    (first_messages-enough n k rest (omega (arith, shorter, n_enough)) (omega (arith, shorter, k_enough)))

pub messages_in-framed : (m rest : List ℕ) → IsShort m → messages_in (framed m ++ rest) ≡ m ∷ messages_in rest
messages_in-framed m rest short =
    let bytes : List ℕ = framed m ++ rest in
    let n : ℕ = length (m ++ rest) + 3 in
    let long : length bytes ≡ suc n = omega arith in
    ap (λ (k : ℕ). first_messages k bytes) long ∙ first_messages-framed n m rest short
    ∙ ap (λ (ms : List (List ℕ)). m ∷ ms) (first_messages-enough n (length rest) rest (omega (arith, length-append m rest)) (omega arith))

-- Messages are read back from their bytes.
pub messages_in-all_framed : (ms : List (List ℕ)) → All IsShort ms → messages_in (all_framed ms) ≡ ms
messages_in-all_framed [] short = refl
messages_in-all_framed (m ∷ ms) short =
    messages_in-framed m (all_framed ms) (All-head IsShort m ms short)
    ∙ ap (λ (rest : List (List ℕ)). m ∷ rest) (messages_in-all_framed ms (All-tail IsShort m ms short))

-- ---- the bytes of messages, one after the other

all_framed-append : (xs ys : List (List ℕ)) → all_framed (xs ++ ys) ≡ all_framed xs ++ all_framed ys
all_framed-append xs ys = ap concat (map-append framed xs ys) ∙ concat-append (map framed xs) (map framed ys)

all_framed-one : (m : List ℕ) → all_framed (m ∷ []) ≡ framed m
all_framed-one m = append-nil (framed m)

pub all_framed-push : (ms : List (List ℕ)) (m : List ℕ) → all_framed (ms ++ m ∷ []) ≡ all_framed ms ++ framed m
all_framed-push ms m = all_framed-append ms (m ∷ []) ∙ ap (λ (bytes : List ℕ). all_framed ms ++ bytes) (all_framed-one m)

-- those behind so many, and these
pub drop-all_framed : (ms : List (List ℕ)) (i : ℕ) → drop (bytes_held (take i ms)) (all_framed ms) ≡ all_framed (drop i ms)
drop-all_framed ms i =
    let before : List (List ℕ) = take i ms in
    let behind : List (List ℕ) = drop i ms in
    ap (λ (all : List (List ℕ)). drop (bytes_held before) (all_framed all)) (sym (take-append-drop i ms))
    ∙ ap (λ (bytes : List ℕ). drop (bytes_held before) bytes) (all_framed-append before behind)
    ∙ drop_at (all_framed before) (all_framed behind) (bytes_held before) refl

pub take-all_framed : (ms : List (List ℕ)) (i : ℕ) → take (bytes_held (take i ms)) (all_framed ms) ≡ all_framed (take i ms)
take-all_framed ms i =
    let before : List (List ℕ) = take i ms in
    let behind : List (List ℕ) = drop i ms in
    ap (λ (all : List (List ℕ)). take (bytes_held before) (all_framed all)) (sym (take-append-drop i ms))
    ∙ ap (λ (bytes : List ℕ). take (bytes_held before) bytes) (all_framed-append before behind)
    ∙ take_at (all_framed before) (all_framed behind) (bytes_held before) refl

-- so many together, and one more
pub held-parts : (ms : List (List ℕ)) (i : ℕ) → bytes_held (take i ms) + bytes_held (drop i ms) ≡ bytes_held ms
held-parts ms i =
    sym (length-append (all_framed (take i ms)) (all_framed (drop i ms)))
    ∙ ap length (sym (all_framed-append (take i ms) (drop i ms)) ∙ ap all_framed (take-append-drop i ms))

pub held-push : (ms : List (List ℕ)) (m : List ℕ) → bytes_held (ms ++ m ∷ []) ≡ bytes_held ms + (4 + length m)
held-push ms m = ap length (all_framed-push ms m) ∙ length-append (all_framed ms) (framed m) ∙ ap (λ n. bytes_held ms + n) (length-framed m)

pub held-cons : (m : List ℕ) (ms : List (List ℕ)) → bytes_held (m ∷ ms) ≡ (4 + length m) + bytes_held ms
held-cons m ms = length-append (framed m) (all_framed ms) ∙ ap (λ n. n + bytes_held ms) (length-framed m)

-- A message takes no more than all of them.
pub within_held : (ms : List (List ℕ)) (i : ℕ) → i < length ms → 4 + length (get_or ms i []) ≤ bytes_held ms
within_held ms i there =
    omega (
      arith,
      ap bytes_held (take_more ms i [] there),
      held-push (take i ms) (get_or ms i []),
      held-parts ms (i + 1),
    )

-- Each message takes bytes, and those that take few are short.
pub few_held : (ms : List (List ℕ)) → length ms ≤ bytes_held ms
few_held [] = omega arith
few_held (m ∷ ms) = omega (arith, held-cons m ms, few_held ms)

pub short_held : (ms : List (List ℕ)) → bytes_held ms ≤ 1024 → All IsShort ms
short_held [] few = All-nil IsShort
short_held (m ∷ ms) few =
    let long = held-cons m ms in
    All-cons IsShort m ms (omega (arith, long, few)) (short_held ms (omega (arith, long, few)))

-- ---- bytes that are messages

abbrev pub IsSome : List ℕ → Type 0
IsSome m = 0 < length m

-- The bytes are these messages.
pub record Reads (bytes : List ℕ) (ms : List (List ℕ)) : Type 0 where
  pub are : AreMessages bytes
  pub same : messages_in bytes ≡ ms

pub reads : (bytes : List ℕ) (ms : List (List ℕ)) → bytes ≡ all_framed ms → All IsSome ms → bytes_held ms ≤ 1024 → Reads bytes ms
reads bytes ms is some few =
    let same : messages_in bytes ≡ ms = ap messages_in is ∙ messages_in-all_framed ms (short_held ms few) in
    record { are = record { whole = ap all_framed same ∙ sym is; some = subst (All IsSome) (sym same) some }; same = same }

-- one more at the back, or at the front
pub pushed_back : (bytes m : List ℕ) → AreMessages bytes → 0 < length m → length bytes + (4 + length m) ≤ 1024
    → Reads (bytes ++ framed m) (messages_in bytes ++ m ∷ [])
pushed_back bytes m are some few =
    let ms : List (List ℕ) = messages_in bytes in
    reads (bytes ++ framed m) (ms ++ m ∷ []) (ap (λ (bs : List ℕ). bs ++ framed m) (sym are.whole) ∙ sym (all_framed-push ms m))
    (All-push IsSome ms m are.some some) (omega (arith, held-push ms m, ap length are.whole, few))

pub pushed_front : (m bytes : List ℕ) → AreMessages bytes → 0 < length m → length bytes + (4 + length m) ≤ 1024
    → Reads (framed m ++ bytes) (m ∷ messages_in bytes)
pushed_front m bytes are some few =
    let ms : List (List ℕ) = messages_in bytes in
    reads (framed m ++ bytes) (m ∷ ms) (ap (λ (bs : List ℕ). framed m ++ bs) (sym are.whole))
    (All-cons IsSome m ms some are.some) (omega (arith, held-cons m ms, ap length are.whole, few))

-- the messages before an index, and from there on
pub taken_until : (bytes : List ℕ) (i : ℕ) → AreMessages bytes → length bytes ≤ 1024
    → Reads (take (bytes_held (take i (messages_in bytes))) bytes) (take i (messages_in bytes))
taken_until bytes i are few =
    let ms : List (List ℕ) = messages_in bytes in
    reads (take (bytes_held (take i ms)) bytes) (take i ms)
    (ap (λ (bs : List ℕ). take (bytes_held (take i ms)) bs) (sym are.whole) ∙ take-all_framed ms i)
    (All-take IsSome i ms are.some) (omega (arith, held-parts ms i, ap length are.whole, few))

pub taken_from : (bytes : List ℕ) (i : ℕ) → AreMessages bytes → length bytes ≤ 1024
    → Reads (drop (bytes_held (take i (messages_in bytes))) bytes) (drop i (messages_in bytes))
taken_from bytes i are few =
    let ms : List (List ℕ) = messages_in bytes in
    reads (drop (bytes_held (take i ms)) bytes) (drop i ms)
    (ap (λ (bs : List ℕ). drop (bytes_held (take i ms)) bs) (sym are.whole) ∙ drop-all_framed ms i)
    (All-drop IsSome i ms are.some) (omega (arith, held-parts ms i, ap length are.whole, few))

-- ---- the message at an index

-- where it begins
abbrev pub start_of : List ℕ → ℕ → ℕ
start_of bytes i = bytes_held (take i (messages_in bytes))

abbrev pub at_index : List ℕ → ℕ → List ℕ
at_index bytes i = get_or (messages_in bytes) i []

-- It lies there whole, behind its length, and the next one begins behind it.
pub record LiesAt (bytes : List ℕ) (i : ℕ) : Type 0 where
  pub within : start_of bytes i + (4 + length (at_index bytes i)) ≤ length bytes
  pub long : first_length (drop (start_of bytes i) bytes) ≡ length (at_index bytes i)
  pub message : take (length (at_index bytes i)) (drop (start_of bytes i + 4) bytes) ≡ at_index bytes i
  pub next : start_of bytes (i + 1) ≡ start_of bytes i + (4 + length (at_index bytes i))

from_there : (bytes : List ℕ) (i : ℕ) → AreMessages bytes → i < length (messages_in bytes)
    → drop (start_of bytes i) bytes ≡ framed (at_index bytes i) ++ all_framed (drop (i + 1) (messages_in bytes))
from_there bytes i are there =
    let ms : List (List ℕ) = messages_in bytes in
    ap (λ (bs : List ℕ). drop (bytes_held (take i ms)) bs) (sym are.whole) ∙ drop-all_framed ms i ∙ ap all_framed (drop_more ms i [] there)

pub lies_at : (bytes : List ℕ) (i : ℕ) → AreMessages bytes → length bytes ≤ 1024 → i < length (messages_in bytes) → LiesAt bytes i
lies_at bytes i are few there =
    let ms : List (List ℕ) = messages_in bytes in
    let m : List ℕ = at_index bytes i in
    let rest : List ℕ = all_framed (drop (i + 1) ms) in
    let start : ℕ = start_of bytes i in
    let is = from_there bytes i are there in
    let next = ap bytes_held (take_more ms i [] there) ∙ held-push (take i ms) m in
    let within : start + (4 + length m) ≤ length bytes = omega (arith, next, held-parts ms (i + 1), ap length are.whole) in
    record {
      within = within;
      long = ap first_length is ∙ first_length-framed m rest (omega (arith, within, few));
      message = ap (λ (bs : List ℕ). take (length m) bs) (sym (drop-drop 4 start bytes) ∙ ap (drop 4) is) ∙ in_framed m rest;
      next = next;
    }

-- Where bytes are left behind so many messages, there is one more, and where none are, these are all.
none_left : (bytes : List ℕ) (i : ℕ) → AreMessages bytes → length (messages_in bytes) ≤ i → start_of bytes i ≡ length bytes
none_left bytes i are all = ap bytes_held (take_all i (messages_in bytes) all) ∙ ap length are.whole

one_more : (bytes : List ℕ) (i k : ℕ) → AreMessages bytes → i + k ≡ length (messages_in bytes) → start_of bytes i < length bytes → i < length (messages_in bytes)
one_more bytes i zero are is left = absurd (omega (arith, none_left bytes i are (omega (arith, is)), left))
one_more bytes i (suc k) are is left = omega (arith, is)

pub more_left : (bytes : List ℕ) (i : ℕ) → AreMessages bytes → i ≤ length (messages_in bytes) → start_of bytes i < length bytes → i < length (messages_in bytes)
more_left bytes i are few left = one_more bytes i (length (messages_in bytes) - i) are (omega (arith, few)) left

no_more : (bytes : List ℕ) (i k : ℕ) → AreMessages bytes → length bytes ≤ 1024 → i + k ≡ length (messages_in bytes) → length bytes ≤ start_of bytes i
    → i ≡ length (messages_in bytes)
no_more bytes i zero are few is all = omega (arith, is)
no_more bytes i (suc k) are few is all = absurd (omega (arith, (lies_at bytes i are few (omega (arith, is))).within, all))

pub all_read : (bytes : List ℕ) (i : ℕ) → AreMessages bytes → length bytes ≤ 1024 → i ≤ length (messages_in bytes) → length bytes ≤ start_of bytes i
    → i ≡ length (messages_in bytes)
all_read bytes i are few within all = no_more bytes i (length (messages_in bytes) - i) are few (omega (arith, within)) all

-- Bytes whose messages are the same are the same.
pub same_messages : (bytes others : List ℕ) → AreMessages bytes → AreMessages others → messages_in bytes ≡ messages_in others → bytes ≡ others
same_messages bytes others are others_are same = sym are.whole ∙ ap all_framed same ∙ others_are.whole
