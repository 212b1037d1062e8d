-- The goals of `MessageBuf::unwrite` that the check left open.
use Rattle.std.proofs.Common.{◌≡◌, ◌∙◌, ◌-◌, ◌<◌, take, length, refl, subst, sym, ap, arith}
use Rattle.rd_ring.specs.RingView.{RingView}
use Rattle.rd_stream.specs.MessageSnapshot.{MessageSnapshot}
use Rattle.rd_stream.specs.Messages.{messages_in}
use Rattle.rd_stream.proofs.MessageListLaws.{start_of}
use Rattle.rd_stream.proofs.MessageRingLaws.{begins, last_gone}
use Rattle.rd_stream.proofs.message_buf.MessageBuf.unwrite.Goals as goal

pub overflow_sub-len : goal.overflow_sub-len
overflow_sub-len c =
    let buffer = c.self.inside in
    let some = subst (λ (b : MessageSnapshot). 0 < length b.messages) (sym c.self.view_is) c.requires in
    let last : buffer.count - 1 < length (messages_in buffer.ring.bytes) = omega (arith, some, c.self.invariant.0.count) in
    omega (arith, c.len.ensures.len, begins buffer.ring buffer.count (buffer.count - 1) c.start_of-at.result c.self.invariant last c.start_of-at.ensures)

pub invariant_of-self : goal.invariant_of-self
invariant_of-self c =
    let buffer = c.self.inside in
    let ring = buffer.ring in
    let some = subst (λ (b : MessageSnapshot). 0 < length b.messages) (sym c.self.view_is) c.requires in
    let last : buffer.count - 1 < length (messages_in ring.bytes) = omega (arith, some, c.self.invariant.0.count) in
    let within = begins ring buffer.count (buffer.count - 1) c.start_of-at.result c.self.invariant last c.start_of-at.ensures in
    let left : length ring.bytes - (c.len.result - c.start_of-at.result) ≡ start_of ring.bytes (buffer.count - 1) =
    omega (arith, within, c.start_of-at.ensures, c.len.ensures.len) in
    let bytes = ap (λ (r : RingView). r.bytes) c.pop_back.ensures ∙ ap (λ n. take n ring.bytes) left in
    let capacity = ap (λ (r : RingView). r.capacity) c.pop_back.ensures in
    (last_gone ring c.pop_back.new.self buffer.count c.self.invariant some bytes capacity).0

pub returns : goal.returns
returns c =
    let buffer = c.self.inside in
    let ring = buffer.ring in
    let some = subst (λ (b : MessageSnapshot). 0 < length b.messages) (sym c.self.view_is) c.requires in
    let last : buffer.count - 1 < length (messages_in ring.bytes) = omega (arith, some, c.self.invariant.0.count) in
    let within = begins ring buffer.count (buffer.count - 1) c.start_of-at.result c.self.invariant last c.start_of-at.ensures in
    let left : length ring.bytes - (c.len.result - c.start_of-at.result) ≡ start_of ring.bytes (buffer.count - 1) =
    omega (arith, within, c.start_of-at.ensures, c.len.ensures.len) in
    let bytes = ap (λ (r : RingView). r.bytes) c.pop_back.ensures ∙ ap (λ n. take n ring.bytes) left in
    let capacity = ap (λ (r : RingView). r.capacity) c.pop_back.ensures in
    let gone = (last_gone ring c.pop_back.new.self buffer.count c.self.invariant some bytes capacity).1 in
    rw (gone, capacity, ← c.self.view_is, c.self.invariant.0.count) refl
