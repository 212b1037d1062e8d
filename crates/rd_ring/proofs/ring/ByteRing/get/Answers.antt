-- The goals of `ByteRing::get` that the check left open.
use Rattle.std.proofs.Common.{◌≡◌, ◌∙◌, ℕ, ◌<◌, length, ap, arith}
use Rattle.rd_ring.specs.Memory.{offset_after}
use Rattle.rd_ring.specs.RingView.{RingView}
use Rattle.std.proofs.lemmas.List.{get_or_default}
use Rattle.std.proofs.Common.{get_or}
use Rattle.rd_ring.proofs.RingLaws.{length-bytes, byte_at}
use Rattle.rd_ring.proofs.ring.ByteRing.get.Goals as goal

pub returns : goal.returns
returns c =
    let ring = c.self.inside in
    let memory = ring.memory.items in
    let holds = c.self.invariant in
    let length_old = length-bytes memory ring.start ring.len holds.0 in
    let capacity : c.len.result ≡ length memory = omega arith in
    let offset : c.offset_after-offset.result ≡ offset_after (length memory) ring.start c.args.at =
    c.offset_after-offset.ensures.after ∙ ap (λ (n : ℕ). offset_after n ring.start c.args.at) capacity in
    let there : c.args.at < ring.len = omega (arith, c.requires, ap (λ (v : RingView). length v.bytes) c.self.view_is, length_old) in
    let in_memory : c.offset_after-offset.result < length memory = omega (arith, c.offset_after-offset.ensures.offset, capacity) in
    c.index.ensures ∙ get_or_default memory c.offset_after-offset.result c.index.result.now 0 in_memory
    ∙ ap (λ (p : ℕ). get_or memory p 0) offset ∙ byte_at memory ring.start c.args.at ring.len 0 holds.1 there holds.0
    ∙ ap (λ (v : RingView). get_or v.bytes c.args.at 0) c.self.view_is
