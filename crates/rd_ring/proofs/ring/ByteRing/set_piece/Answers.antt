-- The goals of `ByteRing::set_piece` that the check left open.
use Rattle.std.proofs.Common.{◌≡◌, ◌∙◌, ℕ, ◌+◌, ◌≤◌, length, ap, subst, arith}
use Rattle.rd_ring.specs.Memory.{offset_after}
use Rattle.rd_ring.specs.RingView.{RingView}
use Rattle.std.proofs.lemmas.List.{with_items_is}
use Rattle.rd_ring.specs.Rings.{with_contents, with_piece}
use Rattle.rd_ring.proofs.RingLaws.{ring_in, length-bytes, written_there, ring_with_piece}
use Rattle.rd_ring.proofs.ring.ByteRing.set_piece.Goals as goal

pub returns : goal.returns
returns c =
    let ring = c.self.inside in
    let memory = ring.memory.items in
    let holds = c.self.invariant in
    let length_old = length-bytes memory ring.start ring.len holds.0 in
    let capacity : c.len.result ≡ length memory = omega arith in
    let offset : c.offset_after-offset.result ≡ offset_after (length memory) ring.start c.args.at =
    c.offset_after-offset.ensures.after ∙ ap (λ (n : ℕ). offset_after n ring.start c.args.at) capacity in
    let bytes = c.args.bytes.now in
    let after = c.write_from.new.memory in
    let same_length : length after ≡ length memory = c.write_from.ensures.length ∙ ap length c.as_mut_slice.ensures.value in
    let items = with_items_is ring.memory after (omega (arith, same_length, capacity, c.len.ensures)) in
    let within : c.args.at + length bytes ≤ ring.len = omega (arith, c.requires, ap (λ (v : RingView). length v.bytes) c.self.view_is, length_old) in
    let written = written_there memory c.as_mut_slice.result.now after bytes c.offset_after-offset.result _ offset c.as_mut_slice.ensures.value c.write_from.ensures.written in
    rw items (subst (λ (v : RingView). ring_in after ring.start ring.len ≡ with_contents v (with_piece v.bytes c.args.at bytes))
    c.self.view_is (ring_with_piece memory after bytes ring.start ring.len c.args.at holds.1 holds.0 within same_length written))
