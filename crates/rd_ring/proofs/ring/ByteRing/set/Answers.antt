-- The goals of `ByteRing::set` that the check left open.
use Rattle.std.proofs.Common.{◌≡◌, ◌∙◌, ℕ, ◌<◌, length, ap, subst, arith}
use Rattle.rd_ring.specs.Memory.{offset_after}
use Rattle.rd_ring.specs.RingView.{RingView}
use Rattle.std.proofs.Common.{set}
use Rattle.rd_ring.specs.Rings.{with_contents}
use Rattle.rd_ring.proofs.RingLaws.{ring_in, length-bytes, ring_with_byte}
use Rattle.rd_ring.proofs.ring.ByteRing.set.Goals as goal

pub returns : goal.returns
returns c =
    let ring = c.self.inside in
    let memory = ring.memory.items in
    let holds = c.self.invariant in
    let length_old = length-bytes memory ring.start ring.len holds.0 in
    let capacity : c.len.result ≡ length memory = omega arith in
    let offset : c.offset_after-offset.result ≡ offset_after (length memory) ring.start c.args.at =
    c.offset_after-offset.ensures.after ∙ ap (λ (n : ℕ). offset_after n ring.start c.args.at) capacity in
    let there : c.args.at < ring.len = omega (arith, c.requires, ap (λ (v : RingView). length v.bytes) c.self.view_is, length_old) in
    rw offset (subst (λ (v : RingView). ring_in (set memory (offset_after (length memory) ring.start c.args.at) c.args.value) ring.start ring.len
    ≡ with_contents v (set v.bytes c.args.at c.args.value))
    c.self.view_is (ring_with_byte memory ring.start ring.len c.args.at c.args.value holds.1 holds.0 there))
