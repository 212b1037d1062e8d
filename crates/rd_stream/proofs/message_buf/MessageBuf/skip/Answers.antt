-- The goals of `MessageBuf::skip` that the check left open.
use Rattle.std.proofs.Common.{◌<◌, length, refl, subst, sym, ap}
use Rattle.rd_ring.specs.RingView.{RingView}
use Rattle.rd_stream.specs.MessageSnapshot.{MessageSnapshot}
use Rattle.rd_stream.proofs.MessageRingLaws.{first_gone, found}
use Rattle.rd_stream.proofs.message_buf.MessageBuf.skip.Goals as goal

pub invariant_of-self : goal.invariant_of-self
invariant_of-self c =
    let buffer = c.self.inside in
    let ring = buffer.ring in
    let some = subst (λ (b : MessageSnapshot). 0 < length b.messages) (sym c.self.view_is) c.requires in
    let it = found ring buffer.count 0 0 c.length_at-len.result c.self.invariant some refl c.length_at-len.ensures in
    let bytes = ap (λ (r : RingView). r.bytes) c.drop_front.ensures in
    let capacity = ap (λ (r : RingView). r.capacity) c.drop_front.ensures in
    (first_gone ring c.drop_front.new.self buffer.count c.length_at-len.result c.self.invariant some it.long bytes capacity).0

pub returns : goal.returns
returns c =
    let buffer = c.self.inside in
    let ring = buffer.ring in
    let some = subst (λ (b : MessageSnapshot). 0 < length b.messages) (sym c.self.view_is) c.requires in
    let it = found ring buffer.count 0 0 c.length_at-len.result c.self.invariant some refl c.length_at-len.ensures in
    let bytes = ap (λ (r : RingView). r.bytes) c.drop_front.ensures in
    let capacity = ap (λ (r : RingView). r.capacity) c.drop_front.ensures in
    let gone = (first_gone ring c.drop_front.new.self buffer.count c.length_at-len.result c.self.invariant some it.long bytes capacity).1 in
    rw (gone, capacity, ← c.self.view_is) refl
