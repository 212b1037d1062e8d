-- The goals of `ByteRing::piece` that the check left open.
use Rattle.std.proofs.Common.{◌≡◌, ◌∙◌, ℕ, ◌+◌, ◌-◌, ◌≤◌, length, take, drop, ap, subst, sym, arith}
use Rattle.rd_ring.specs.Memory.{offset_after}
use Rattle.rd_ring.specs.RingView.{RingView}
use Rattle.rd_ring.specs.Rings.{HasWholePieces}
use Rattle.rd_ring.proofs.RingLaws.{length-bytes, piece_at}
use Rattle.rd_ring.proofs.ring.ByteRing.piece.Goals as goal

pub slice_bounds-result-end : goal.slice_bounds-result-end
slice_bounds-result-end c =
    let ring = c.self.inside in
    let memory = ring.memory.items in
    let holds = c.self.invariant in
    let there : c.args.at + c.args.size ≤ ring.len =
    omega (arith, c.requires.there, ap (λ (v : RingView). length v.bytes) c.self.view_is, length-bytes memory ring.start ring.len holds.0) in
    let capacity : c.len.result ≡ length memory = omega arith in
    let offset : c.offset_after-offset.result ≡ offset_after (length memory) ring.start c.args.at =
    c.offset_after-offset.ensures.after ∙ ap (λ (n : ℕ). offset_after n ring.start c.args.at) capacity in
    let whole = subst (λ (v : RingView). HasWholePieces v c.args.size) (sym c.self.view_is) c.requires.whole in
    let fits = (piece_at memory ring.start c.args.at c.args.size ring.len holds.1 there holds.0 whole c.requires.begins).0 in
    omega (arith, fits, offset, capacity)

pub returns : goal.returns
returns c =
    let ring = c.self.inside in
    let memory = ring.memory.items in
    let holds = c.self.invariant in
    let there : c.args.at + c.args.size ≤ ring.len =
    omega (arith, c.requires.there, ap (λ (v : RingView). length v.bytes) c.self.view_is, length-bytes memory ring.start ring.len holds.0) in
    let capacity : c.len.result ≡ length memory = omega arith in
    let offset : c.offset_after-offset.result ≡ offset_after (length memory) ring.start c.args.at =
    c.offset_after-offset.ensures.after ∙ ap (λ (n : ℕ). offset_after n ring.start c.args.at) capacity in
    let whole = subst (λ (v : RingView). HasWholePieces v c.args.size) (sym c.self.view_is) c.requires.whole in
    let size : c.offset_after-offset.result + c.args.size - c.offset_after-offset.result ≡ c.args.size = omega arith in
    rw (size, offset, c.deref.ensures.value)
    (subst (λ (v : RingView). take c.args.size (drop (offset_after (length memory) ring.start c.args.at) memory) ≡ take c.args.size (drop c.args.at v.bytes))
    c.self.view_is (piece_at memory ring.start c.args.at c.args.size ring.len holds.1 there holds.0 whole c.requires.begins).1)
