-- Whom the places of buffers name, once one of them names another.
use Rattle.std.proofs.Common.{◌∙◌, ◌≡◌, ◌≢◌, Bool, List, Option, ap, arith, cond, false, get_or, refl, suc, sym, true, zero, ℕ}
use Rattle.std.specs.Prelude.{◌&&◌, nat_eq}
use Rattle.std.proofs.lemmas.Bool.{false≢true}
use Rattle.std.proofs.lemmas.Bool.Decides.{nat_tests}
use Rattle.rd_stream.specs.Holders.{HoldersView, holder_of, with_holder_of}
use Rattle.rd_stream.specs.MessageSnapshot.{MessageSnapshot}
use Rattle.rd_stream.specs.Messages.{with_message_holders}
use Rattle.rd_stream.specs.StreamSnapshot.{StreamSnapshot}
use Rattle.rd_stream.specs.Streams.{with_stream_holders}
use Rattle.rd_stream.specs.declared.side.Side.{Side}
use Rattle.rd_stream.specs.declared.side.Side.TheVariants.{Reader, Writer}
use Rattle.rd_state.specs.declared.phase.Held.{Held}
use Rattle.rd_state.specs.declared.phase.Held.TheVariants.{Stream, Message}
use Rattle.rd_state.specs.declared.phase.Listed.{Listed}
use Rattle.rd_state.specs.declared.phase.Listed.TheVariants.{Queue, QueueSet, Group}
use Rattle.rd_state.specs.Objects.{ObjectsSnapshot, no_message_buffer, no_stream, numbers_in, shapes_in, size_of_message_buffer, size_of_stream}
use Rattle.rd_state.specs.Waiting.{IsHeld, held_kind, held_object, held_side, holder_in, objects_naming, same_held, side_number, waiting_in}
use Rattle.rd_kernel.proofs.ConsistentLaws.{both, by_number, map_same, read_changed, same_number}

waiting_naming : (o : ObjectsSnapshot) (held : Held) (who : Option ℕ) (place : Listed) → waiting_in (objects_naming o held who) place ≡ waiting_in o place
waiting_naming o (Stream stream side) who (Queue queue list) = refl
waiting_naming o (Stream stream side) who (QueueSet queue_set) = refl
waiting_naming o (Stream stream side) who (Group group) = refl
waiting_naming o (Message message side) who (Queue queue list) = refl
waiting_naming o (Message message side) who (QueueSet queue_set) = refl
waiting_naming o (Message message side) who (Group group) = refl

shapes_naming : (o : ObjectsSnapshot) (held : Held) (who : Option ℕ) → shapes_in (objects_naming o held who) ≡ shapes_in o
shapes_naming o (Stream stream side) who =
    let was = get_or o.streams stream no_stream in
    ap (λ (sizes : List ℕ). record (shapes_in o) { streams = sizes })
    (map_same size_of_stream o.streams stream (with_stream_holders was (with_holder_of side who was.holders)) no_stream refl)
shapes_naming o (Message message side) who =
    let was = get_or o.messages message no_message_buffer in
    ap (λ (sizes : List ℕ). record (shapes_in o) { messages = sizes })
    (map_same size_of_message_buffer o.messages message (with_message_holders was (with_holder_of side who was.holders)) no_message_buffer refl)

holder_of-with : (side other : Side) (who : Option ℕ) (holders : HoldersView)
    → holder_of other (with_holder_of side who holders) ≡ cond (nat_eq (side_number other) (side_number side)) who (holder_of other holders)
holder_of-with Reader Reader who holders = refl
holder_of-with Reader Writer who holders = refl
holder_of-with Writer Reader who holders = refl
holder_of-with Writer Writer who holders = refl

-- Whom each place names, once this one names that task: a row for each kind, and one for places of two kinds.
holder_naming : (o : ObjectsSnapshot) (held other : Held) (who : Option ℕ) → IsHeld (numbers_in o) held
    → holder_in (objects_naming o held who) other ≡ cond (same_held other held) who (holder_in o other)
holder_naming o (Stream stream side) (Stream number other) who there =
    let was = get_or o.streams stream no_stream in
    let old = holder_of other (get_or o.streams number no_stream).holders in
    read_changed (λ (b : StreamSnapshot). holder_of other b.holders) o.streams stream number (with_stream_holders was (with_holder_of side who was.holders)) no_stream there
    ∙ ap (λ m. cond (nat_eq number stream) m old) (holder_of-with side other who was.holders)
    ∙ by_number (nat_eq (side_number other) (side_number side)) (nat_eq number stream) who (holder_of other was.holders) old
    (λ e. ap (λ n. holder_of other (get_or o.streams n no_stream).holders) (sym (same_number number stream e)))
holder_naming o (Message message side) (Message number other) who there =
    let was = get_or o.messages message no_message_buffer in
    let old = holder_of other (get_or o.messages number no_message_buffer).holders in
    read_changed (λ (b : MessageSnapshot). holder_of other b.holders) o.messages message number (with_message_holders was (with_holder_of side who was.holders))
    no_message_buffer there
    ∙ ap (λ m. cond (nat_eq number message) m old) (holder_of-with side other who was.holders)
    ∙ by_number (nat_eq (side_number other) (side_number side)) (nat_eq number message) who (holder_of other was.holders) old
    (λ e. ap (λ n. holder_of other (get_or o.messages n no_message_buffer).holders) (sym (same_number number message e)))
holder_naming o held other who there = refl

-- A place is known by its numbers.
abbrev side_from : ℕ → Side
side_from zero = Reader
side_from (suc side) = Writer

side_again : (side : Side) → side_from (side_number side) ≡ side
side_again Reader = refl
side_again Writer = refl

abbrev held_from : ℕ → ℕ → ℕ → Held
held_from zero side number = Stream number (side_from side)
held_from (suc kind) side number = Message number (side_from side)

held_again : (held : Held) → held_from (held_kind held) (side_number (held_side held)) (held_object held) ≡ held
held_again (Stream stream side) = ap (Stream stream) (side_again side)
held_again (Message message side) = ap (Message message) (side_again side)

pub same_held-is : (held other : Held) → same_held held other ≡ true → held ≡ other
same_held-is held other e =
    let kinds = both (nat_eq (held_kind held) (held_kind other)) _ e in
    let rest = both (nat_eq (side_number (held_side held)) (side_number (held_side other))) _ kinds.1 in
    sym (held_again held)
    ∙ ap (λ k. held_from k (side_number (held_side held)) (held_object held)) (same_number (held_kind held) (held_kind other) kinds.0)
    ∙ ap (λ l. held_from (held_kind other) l (held_object held)) (same_number (side_number (held_side held)) (side_number (held_side other)) rest.0)
    ∙ ap (held_from (held_kind other) (side_number (held_side other))) (same_number (held_object held) (held_object other) rest.1)
    ∙ held_again other

pub same_held-self : (held : Held) → same_held held held ≡ true
same_held-self held =
    let self : (n : ℕ) → nat_eq n n ≡ true = λ n. grind (arith, nat_tests) in
    let side = side_number (held_side held) in
    ap (λ b. b && (nat_eq side side && nat_eq (held_object held) (held_object held))) (self (held_kind held))
    ∙ ap (λ b. b && nat_eq (held_object held) (held_object held)) (self side) ∙ self (held_object held)

-- Either they are one place, or two.
pub by_held : (held other : Held) {P : Type 0} → (held ≡ other → P) → (held ≢ other → P) → P
by_held held other {P} one two = by_test (same_held held other) refl
  where
    by_test : (b : Bool) → same_held held other ≡ b → P
    by_test true e = one (same_held-is held other e)
    by_test false e = two (λ same. false≢true (sym e ∙ ap (λ h. same_held h other) same ∙ same_held-self other))

-- what has become of the objects, once a place names that task, or nobody
pub record HolderGoes (o n : ObjectsSnapshot) (held : Held) (who : Option ℕ) : Type 0 where
  pub waiting : (place : Listed) → waiting_in n place ≡ waiting_in o place
  pub shapes : shapes_in n ≡ shapes_in o
  pub here : holder_in n held ≡ who
  pub others : (other : Held) → other ≢ held → holder_in n other ≡ holder_in o other

pub HolderGoes-naming : (o : ObjectsSnapshot) (held : Held) (who : Option ℕ) → IsHeld (numbers_in o) held → HolderGoes o (objects_naming o held who) held who
HolderGoes-naming o held who there = record {
  waiting = waiting_naming o held who;
  shapes = shapes_naming o held who;
  here = holder_naming o held held who there ∙ ap (λ b. cond b who (holder_in o held)) (same_held-self held);
  others = λ other differs. holder_naming o held other who there ∙ apart other differs (same_held other held) refl;
}
  where
    apart : (other : Held) → other ≢ held → (b : Bool) → same_held other held ≡ b → cond b who (holder_in o other) ≡ holder_in o other
    apart other differs true e = absurd (differs (same_held-is other held e))
    apart other differs false e = refl
