-- The goals of `MessageBuf::write_halves` that the check left open.
use Rattle.std.proofs.Common.{◌∙◌, ◌++◌, refl, subst, sym, ap, arith}
use Rattle.std.proofs.lemmas.List.{length-append}
use Rattle.rd_ring.specs.RingView.{RingView}
use Rattle.rd_stream.specs.MessageChanges.{HasSpaceForMessage}
use Rattle.rd_stream.specs.MessageSnapshot.{MessageSnapshot}
use Rattle.rd_stream.proofs.MessageListLaws.{length-framed}
use Rattle.rd_stream.proofs.MessageRingLaws.{few_counted, joined_back, one_more_back}
use Rattle.rd_stream.proofs.message_buf.MessageBuf.write_halves.Goals as goal

pub overflow_add-self : goal.overflow_add-self
overflow_add-self c =
    let holds = c.self.invariant in
    omega (arith, few_counted c.self.inside.ring c.self.inside.count holds, holds.1, holds.2)

pub overflow_cast-len : goal.overflow_cast-len
overflow_cast-len c =
    let m = c.args.front.now ++ c.args.back.now in
    let space = subst (λ (b : MessageSnapshot). HasSpaceForMessage b m) (sym c.self.view_is) c.requires in
    omega (arith, space.1, length-framed m, length-append c.args.front.now c.args.back.now, c.self.invariant.2)

pub invariant_of-self : goal.invariant_of-self
invariant_of-self c =
    let ring = c.self.inside.ring in
    let front = c.args.front.now in
    let back = c.args.back.now in
    let m = front ++ back in
    let space = subst (λ (b : MessageSnapshot). HasSpaceForMessage b m) (sym c.self.view_is) c.requires in
    let bytes = ap (λ (r : RingView). r.bytes) c.push_back-3.ensures ∙ ap (λ (r : RingView). r.bytes ++ back) c.push_back-2.ensures
    ∙ ap (λ (r : RingView). (r.bytes ++ front) ++ back) c.push_back.ensures ∙ joined_back ring.bytes c.to_le_bytes.result front back c.to_le_bytes.ensures in
    let capacity = ap (λ (r : RingView). r.capacity) c.push_back-3.ensures ∙ ap (λ (r : RingView). r.capacity) c.push_back-2.ensures
    ∙ ap (λ (r : RingView). r.capacity) c.push_back.ensures in
    (one_more_back ring c.push_back-3.new.self c.self.inside.count m c.self.invariant space bytes capacity).0

pub returns : goal.returns
returns c =
    let ring = c.self.inside.ring in
    let front = c.args.front.now in
    let back = c.args.back.now in
    let m = front ++ back in
    let space = subst (λ (b : MessageSnapshot). HasSpaceForMessage b m) (sym c.self.view_is) c.requires in
    let bytes = ap (λ (r : RingView). r.bytes) c.push_back-3.ensures ∙ ap (λ (r : RingView). r.bytes ++ back) c.push_back-2.ensures
    ∙ ap (λ (r : RingView). (r.bytes ++ front) ++ back) c.push_back.ensures ∙ joined_back ring.bytes c.to_le_bytes.result front back c.to_le_bytes.ensures in
    let capacity = ap (λ (r : RingView). r.capacity) c.push_back-3.ensures ∙ ap (λ (r : RingView). r.capacity) c.push_back-2.ensures
    ∙ ap (λ (r : RingView). r.capacity) c.push_back.ensures in
    let more = (one_more_back ring c.push_back-3.new.self c.self.inside.count m c.self.invariant space bytes capacity).1 in
    rw (more, capacity, ← c.self.view_is) refl
