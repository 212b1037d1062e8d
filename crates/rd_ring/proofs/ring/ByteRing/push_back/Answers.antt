-- The goals of `ByteRing::push_back` that the check left open.
use Rattle.std.proofs.Common.{◌≡◌, ◌∙◌, ℕ, ◌+◌, ◌≤◌, length, ap, subst, sym, arith}
use Rattle.rd_ring.specs.Memory.{offset_after}
use Rattle.rd_ring.specs.RingView.{RingView}
use Rattle.std.proofs.lemmas.List.{with_items_is}
use Rattle.rd_ring.specs.Rings.{with_back}
use Rattle.rd_ring.proofs.RingLaws.{ring_in, length-bytes, written_there, ring_pushed_back}
use Rattle.rd_ring.proofs.ring.ByteRing.push_back.Goals as goal

pub returns : goal.returns
returns c =
    let ring = c.self.inside in
    let memory = ring.memory.items in
    let holds = c.self.invariant in
    let length_old = length-bytes memory ring.start ring.len holds.0 in
    let capacity : c.len.result ≡ length memory = omega arith in
    let offset : c.offset_after-offset.result ≡ offset_after (length memory) ring.start ring.len =
    c.offset_after-offset.ensures.after ∙ ap (λ (n : ℕ). offset_after n ring.start ring.len) capacity in
    let bytes = c.args.bytes.now in
    let after = c.write_from.new.memory in
    let same_length : length after ≡ length memory = c.write_from.ensures.length ∙ ap length c.as_mut_slice.ensures.value in
    let items = with_items_is ring.memory after (omega (arith, same_length, capacity, c.len.ensures)) in
    let space = subst (λ (v : RingView). length v.bytes + length bytes ≤ v.capacity) (sym c.self.view_is) c.requires in
    let fits : ring.len + length bytes ≤ length memory = omega (arith, space, length_old) in
    let written = written_there memory c.as_mut_slice.result.now after bytes c.offset_after-offset.result _ offset c.as_mut_slice.ensures.value c.write_from.ensures.written in
    rw items (subst (λ (v : RingView). ring_in after ring.start (ring.len + length bytes) ≡ with_back v bytes)
    c.self.view_is (ring_pushed_back memory after bytes ring.start ring.len holds.1 fits same_length written))
