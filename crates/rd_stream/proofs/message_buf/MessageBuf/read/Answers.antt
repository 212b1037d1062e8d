-- The goals of `MessageBuf::read` that the check left open.
use Rattle.std.proofs.Common.{◌≡◌, ◌∙◌, ◌+◌, ◌<◌, [], get_or, drop, length, refl, subst, sym, ap}
use Rattle.std.proofs.lemmas.List.{drop-drop}
use Rattle.rd_ring.specs.RingView.{RingView}
use Rattle.rd_stream.specs.MessageSnapshot.{MessageSnapshot}
use Rattle.rd_stream.proofs.MessageListLaws.{at_index}
use Rattle.rd_stream.proofs.MessageRingLaws.{first_gone}
use Rattle.rd_stream.proofs.message_buf.MessageBuf.read.Goals as goal

pub invariant_of-self : goal.invariant_of-self
invariant_of-self c =
    let buffer = c.self.inside in
    let ring = buffer.ring in
    let new = c.pop_front.new.self in
    let len = length c.args.into.now in
    let some = subst (λ (b : MessageSnapshot). 0 < length b.messages) (sym c.self.view_is) c.requires.some in
    let long : len ≡ length (at_index ring.bytes 0) = c.requires.whole ∙ sym (ap (λ (b : MessageSnapshot). length (get_or b.messages 0 [])) c.self.view_is) in
    let bytes : new.bytes ≡ drop (4 + len) ring.bytes =
    ap (λ (r : RingView). r.bytes) c.pop_front.ensures.rest ∙ ap (λ (r : RingView). drop len r.bytes) c.drop_front.ensures ∙ drop-drop len 4 ring.bytes in
    let capacity = ap (λ (r : RingView). r.capacity) c.pop_front.ensures.rest ∙ ap (λ (r : RingView). r.capacity) c.drop_front.ensures in
    (first_gone ring new buffer.count len c.self.invariant some long bytes capacity).0

pub returns-clause-rest : goal.returns-clause-rest
returns-clause-rest c =
    let buffer = c.self.inside in
    let ring = buffer.ring in
    let new = c.pop_front.new.self in
    let len = length c.args.into.now in
    let some = subst (λ (b : MessageSnapshot). 0 < length b.messages) (sym c.self.view_is) c.requires.some in
    let long : len ≡ length (at_index ring.bytes 0) = c.requires.whole ∙ sym (ap (λ (b : MessageSnapshot). length (get_or b.messages 0 [])) c.self.view_is) in
    let bytes : new.bytes ≡ drop (4 + len) ring.bytes =
    ap (λ (r : RingView). r.bytes) c.pop_front.ensures.rest ∙ ap (λ (r : RingView). drop len r.bytes) c.drop_front.ensures ∙ drop-drop len 4 ring.bytes in
    let capacity = ap (λ (r : RingView). r.capacity) c.pop_front.ensures.rest ∙ ap (λ (r : RingView). r.capacity) c.drop_front.ensures in
    let gone = (first_gone ring new buffer.count len c.self.invariant some long bytes capacity).1 in
    rw (gone, capacity, ← c.self.view_is) refl
