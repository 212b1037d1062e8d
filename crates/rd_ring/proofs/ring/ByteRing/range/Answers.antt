-- The goals of `ByteRing::range` that the check left open.
use Rattle.std.proofs.Common.{◌≡◌, ◌∙◌, ℕ, ◌+◌, ◌≤◌, List, length, take, drop, ap, ap₂, arith}
use Rattle.rd_ring.specs.Memory.{offset_after, seen_from}
use Rattle.rd_ring.specs.RingView.{RingView}
use Rattle.rd_ring.proofs.RingLaws.{length-bytes, range_at}
use Rattle.rd_ring.proofs.ring.ByteRing.range.Goals as goal

pub returns : goal.returns
returns c =
    let ring = c.self.inside in
    let memory = ring.memory.items in
    let holds = c.self.invariant in
    let there : c.args.at + c.args.count ≤ ring.len =
    omega (arith, c.requires, ap (λ (v : RingView). length v.bytes) c.self.view_is, length-bytes memory ring.start ring.len holds.0) in
    let capacity : c.len.result ≡ length memory = omega arith in
    let offset : c.offset_after-offset.result ≡ offset_after (length memory) ring.start c.args.at =
    c.offset_after-offset.ensures.after ∙ ap (λ (n : ℕ). offset_after n ring.start c.args.at) capacity in
    c.halves_from.ensures
    ∙ ap₂ (λ (n : ℕ) (m : List ℕ). take c.args.count (seen_from n m)) offset c.as_slice.ensures.value
    ∙ range_at memory ring.start c.args.at c.args.count ring.len holds.1 there holds.0
    ∙ ap (λ (v : RingView). take c.args.count (drop c.args.at v.bytes)) c.self.view_is
