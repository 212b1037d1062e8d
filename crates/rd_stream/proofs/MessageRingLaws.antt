-- Laws of rings that hold messages, one for each call of a message buffer.
use Rattle.std.proofs.Common.{◌≡◌, ◌∙◌, ℕ, ◌+◌, ◌-◌, ◌<◌, ◌≤◌, List, [], ◌∷◌, ◌++◌, length, take, drop, ap, ap₂, sym, subst, arith, append_assoc}
use Rattle.std.specs.Int.{w32, to_le_bytes}
use Rattle.std.proofs.lemmas.List.{length-append, length-drop, length-take-le, length_push}
use Rattle.rd_ring.specs.RingView.{RingView}
use Rattle.rd_stream.specs.declared.message_buf.TheConstants.{MAX_MESSAGE_BUFFER_SIZE}
use Rattle.rd_stream.specs.MessageRings.{HoldsMessages}
use Rattle.rd_stream.specs.Messages.{framed, first_length, messages_in, bytes_held}
use Rattle.rd_stream.proofs.MessageListLaws.{Reads, LiesAt, start_of, at_index, length-framed, few_held, pushed_back, pushed_front, taken_until, taken_from, lies_at}

-- what holds of a message buffer's ring and its count
abbrev pub IsMessageRing : RingView → ℕ → Type 0
IsMessageRing ring count = HoldsMessages ring count × (length ring.bytes ≤ ring.capacity) × (ring.capacity ≤ MAX_MESSAGE_BUFFER_SIZE)

-- A ring whose bytes are so many messages, for which there is space.
is_message_ring : (new : RingView) (count : ℕ) (ms : List (List ℕ)) → Reads new.bytes ms → length ms ≡ count → length new.bytes ≤ new.capacity
    → new.capacity ≤ MAX_MESSAGE_BUFFER_SIZE → IsMessageRing new count
is_message_ring new count ms is counted space few = (record { messages = is.are; count = ap length is.same ∙ counted }, space, few)

-- the bytes of all messages
pub all_held : (ring : RingView) (count : ℕ) → IsMessageRing ring count → bytes_held (messages_in ring.bytes) ≡ length ring.bytes
all_held ring count holds = ap length holds.0.messages.whole

-- There are no more messages than bytes.
pub few_counted : (ring : RingView) (count : ℕ) → IsMessageRing ring count → count ≤ length ring.bytes
few_counted ring count holds = omega (arith, holds.0.count, few_held (messages_in ring.bytes), all_held ring count holds)

-- There is space for a message more.
abbrev pub RingHasSpaceFor : RingView → List ℕ → Type 0
RingHasSpaceFor ring m = (0 < length m) × (bytes_held (messages_in ring.bytes) + length (framed m) ≤ ring.capacity)

-- A length and a message in two pieces, put behind bytes or before them.
pub joined_back : (bytes len front back : List ℕ) → len ≡ to_le_bytes w32 (length front + length back)
    → ((bytes ++ len) ++ front) ++ back ≡ bytes ++ framed (front ++ back)
joined_back bytes len front back is =
    append_assoc (bytes ++ len) front back ∙ append_assoc bytes len (front ++ back)
    ∙ ap (λ (l : List ℕ). bytes ++ (l ++ (front ++ back))) (is ∙ ap (to_le_bytes w32) (sym (length-append front back)))

pub joined_front : (bytes len front back : List ℕ) → len ≡ to_le_bytes w32 (length front + length back)
    → len ++ (front ++ (back ++ bytes)) ≡ framed (front ++ back) ++ bytes
joined_front bytes len front back is =
    ap (λ (rest : List ℕ). len ++ rest) (sym (append_assoc front back bytes)) ∙ sym (append_assoc len (front ++ back) bytes)
    ∙ ap (λ (l : List ℕ). (l ++ (front ++ back)) ++ bytes) (is ∙ ap (to_le_bytes w32) (sym (length-append front back)))

-- a message more at the back, or at the front
pub one_more_back : (ring new : RingView) (count : ℕ) (m : List ℕ) → IsMessageRing ring count → RingHasSpaceFor ring m → new.bytes ≡ ring.bytes ++ framed m
    → new.capacity ≡ ring.capacity → IsMessageRing new (count + 1) × (messages_in new.bytes ≡ messages_in ring.bytes ++ m ∷ [])
one_more_back ring new count m holds space bytes capacity =
    let ms : List (List ℕ) = messages_in ring.bytes ++ m ∷ [] in
    let fits : length ring.bytes + (4 + length m) ≤ ring.capacity = omega (arith, space.1, length-framed m, all_held ring count holds) in
    let is : Reads new.bytes ms = subst (λ (bs : List ℕ). Reads bs ms) (sym bytes) (pushed_back ring.bytes m holds.0.messages space.0 (omega (arith, fits, holds.2))) in (
      is_message_ring new (count + 1) ms is (omega (arith, length_push (messages_in ring.bytes) m, holds.0.count))
          (omega (arith, ap length bytes, length-append ring.bytes (framed m), length-framed m, fits, capacity)) (omega (arith, capacity, holds.2)),
      is.same,
    )

pub one_more_front : (ring new : RingView) (count : ℕ) (m : List ℕ) → IsMessageRing ring count → RingHasSpaceFor ring m → new.bytes ≡ framed m ++ ring.bytes
    → new.capacity ≡ ring.capacity → IsMessageRing new (count + 1) × (messages_in new.bytes ≡ m ∷ messages_in ring.bytes)
one_more_front ring new count m holds space bytes capacity =
    let ms : List (List ℕ) = m ∷ messages_in ring.bytes in
    let fits : length ring.bytes + (4 + length m) ≤ ring.capacity = omega (arith, space.1, length-framed m, all_held ring count holds) in
    let is : Reads new.bytes ms = subst (λ (bs : List ℕ). Reads bs ms) (sym bytes) (pushed_front m ring.bytes holds.0.messages space.0 (omega (arith, fits, holds.2))) in (
      is_message_ring new (count + 1) ms is (omega (arith, holds.0.count))
          (omega (arith, ap length bytes, length-append (framed m) ring.bytes, length-framed m, fits, capacity)) (omega (arith, capacity, holds.2)),
      is.same,
    )

-- the message at an index, of that length, and where it begins
pub record IsMessageAt (ring : RingView) (index at len : ℕ) : Type 0 where
  pub start : at ≡ start_of ring.bytes index
  pub long : len ≡ length (at_index ring.bytes index)
  pub within : at + (4 + len) ≤ length ring.bytes
  pub message : take len (drop (at + 4) ring.bytes) ≡ at_index ring.bytes index

lies_in : (ring : RingView) (count index : ℕ) → IsMessageRing ring count → index < length (messages_in ring.bytes) → LiesAt ring.bytes index
lies_in ring count index holds there = lies_at ring.bytes index holds.0.messages (omega (arith, holds.1, holds.2)) there

pub begins : (ring : RingView) (count index at : ℕ) → IsMessageRing ring count → index < length (messages_in ring.bytes) → at ≡ start_of ring.bytes index
    → at + 4 ≤ length ring.bytes
begins ring count index at holds there start = omega (arith, start, (lies_in ring count index holds there).within)

pub found : (ring : RingView) (count index at len : ℕ) → IsMessageRing ring count → index < length (messages_in ring.bytes) → at ≡ start_of ring.bytes index
    → len ≡ first_length (drop at ring.bytes) → IsMessageAt ring index at len
found ring count index at len holds there start is =
    let lies = lies_in ring count index holds there in
    let long : len ≡ length (at_index ring.bytes index) = is ∙ ap (λ n. first_length (drop n ring.bytes)) start ∙ lies.long in
    record {
      start = start;
      long = long;
      within = omega (arith, start, long, lies.within);
      message = ap₂ (λ n k. take n (drop (k + 4) ring.bytes)) long start ∙ lies.message;
    }

-- no first message any more, or no last one
pub first_gone : (ring new : RingView) (count len : ℕ) → IsMessageRing ring count → 0 < length (messages_in ring.bytes) → len ≡ length (at_index ring.bytes 0)
    → new.bytes ≡ drop (4 + len) ring.bytes → new.capacity ≡ ring.capacity
    → IsMessageRing new (count - 1) × (messages_in new.bytes ≡ drop 1 (messages_in ring.bytes))
first_gone ring new count len holds some long bytes capacity =
    let ms : List (List ℕ) = messages_in ring.bytes in
    let next : 4 + len ≡ start_of ring.bytes 1 = omega (arith, long, (lies_in ring count 0 holds some).next) in
    let from : new.bytes ≡ drop (start_of ring.bytes 1) ring.bytes = bytes ∙ ap (λ n. drop n ring.bytes) next in
    let is : Reads new.bytes (drop 1 ms) =
    subst (λ (bs : List ℕ). Reads bs (drop 1 ms)) (sym from) (taken_from ring.bytes 1 holds.0.messages (omega (arith, holds.1, holds.2))) in (
      is_message_ring new (count - 1) (drop 1 ms) is (omega (arith, length-drop 1 ms, holds.0.count))
          (omega (arith, ap length from, length-drop (start_of ring.bytes 1) ring.bytes, holds.1, capacity)) (omega (arith, capacity, holds.2)),
      is.same,
    )

pub last_gone : (ring new : RingView) (count : ℕ) → IsMessageRing ring count → 0 < length (messages_in ring.bytes)
    → new.bytes ≡ take (start_of ring.bytes (count - 1)) ring.bytes → new.capacity ≡ ring.capacity
    → IsMessageRing new (count - 1) × (messages_in new.bytes ≡ take (count - 1) (messages_in ring.bytes))
last_gone ring new count holds some bytes capacity =
    let ms : List (List ℕ) = messages_in ring.bytes in
    let start : ℕ = start_of ring.bytes (count - 1) in
    let last : count - 1 < length ms = omega (arith, some, holds.0.count) in
    let within : start ≤ length ring.bytes = omega (arith, (lies_in ring count (count - 1) holds last).within) in
    let is : Reads new.bytes (take (count - 1) ms) =
    subst (λ (bs : List ℕ). Reads bs (take (count - 1) ms)) (sym bytes) (taken_until ring.bytes (count - 1) holds.0.messages (omega (arith, holds.1, holds.2))) in (
      is_message_ring new (count - 1) (take (count - 1) ms) is (length-take-le (count - 1) ms (omega (arith, last)))
          (omega (arith, ap length bytes, length-take-le start ring.bytes within, within, holds.1, capacity)) (omega (arith, capacity, holds.2)),
      is.same,
    )
