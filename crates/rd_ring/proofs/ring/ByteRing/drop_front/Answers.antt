-- The goals of `ByteRing::drop_front` that the check left open.
use Rattle.std.proofs.Common.{◌≡◌, ◌∙◌, ℕ, ◌-◌, ◌≤◌, length, ap, subst, arith}
use Rattle.rd_ring.specs.Memory.{offset_after}
use Rattle.rd_ring.specs.RingView.{RingView}
use Rattle.rd_ring.specs.Rings.{without_front}
use Rattle.rd_ring.proofs.RingLaws.{ring_in, length-bytes, ring_dropped_front}
use Rattle.rd_ring.proofs.ring.ByteRing.drop_front.Goals as goal

pub returns : goal.returns
returns c =
    let ring = c.self.inside in
    let memory = ring.memory.items in
    let holds = c.self.invariant in
    let some : c.args.count ≤ ring.len =
    omega (arith, c.requires, ap (λ (v : RingView). length v.bytes) c.self.view_is, length-bytes memory ring.start ring.len holds.0) in
    let capacity : c.len.result ≡ length memory = omega arith in
    let moved : c.offset_after-self-inside.result ≡ offset_after (length memory) ring.start c.args.count =
    c.offset_after-self-inside.ensures.after ∙ ap (λ (n : ℕ). offset_after n ring.start c.args.count) capacity in
    rw moved (subst (λ (v : RingView). ring_in memory (offset_after (length memory) ring.start c.args.count) (ring.len - c.args.count) ≡ without_front v c.args.count)
    c.self.view_is (ring_dropped_front memory ring.start ring.len c.args.count holds.1 holds.0 some))
