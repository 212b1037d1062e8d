-- The goals of `start_of_last` that the check left open.
use Rattle.std.proofs.Common.{◌≡◌, ◌∙◌, ◌+◌, ◌-◌, ◌*◌, ap, arith, take}
use Rattle.rd_packed.specs.Records.{body_size}
use Rattle.rd_packed.specs.TapeView.{TapeView}
use Rattle.rd_packed.proofs.TrimLaws.{trailer_before, turn}
use Rattle.rd_packed.proofs.packed.start_of_last.Goals as goal

pub overflow_sub-start : goal.overflow_sub-start
overflow_sub-start c =
    let inv = c.loop-left.invariant in
    trailer_before c.loop-left.left c.loop-left.start c.args.tape.now.bytes c.loop-left-test.true inv.within inv.has

pub overflow_sub-start-in-loop-left : goal.overflow_sub-start-in-loop-left
overflow_sub-start-in-loop-left c =
    let inv = c.loop-left.invariant in
    let is : c.read_trailer-size.result.0 ≡ body_size (take c.loop-left.start c.args.tape.now.bytes) =
    c.read_trailer-size.ensures.size ∙ ap (λ (t : TapeView). body_size (take c.loop-left.start t.bytes)) inv.tape in
    let t = turn c.loop-left.left c.loop-left.start c.read_trailer-size.result.0 c.args.tape.now.bytes c.loop-left-test.true inv.within inv.has is in
    omega (arith, t.room)

pub loop-left-preserved : goal.loop-left-preserved
loop-left-preserved c =
    let inv = c.loop-left.invariant in
    let is : c.read_trailer-size.result.0 ≡ body_size (take c.loop-left.start c.args.tape.now.bytes) =
    c.read_trailer-size.ensures.size ∙ ap (λ (t : TapeView). body_size (take c.loop-left.start t.bytes)) inv.tape in
    let t = turn c.loop-left.left c.loop-left.start c.read_trailer-size.result.0 c.args.tape.now.bytes c.loop-left-test.true inv.within inv.has is in
    let read : c.args.tape.now.read + 8 * (c.args.n - c.loop-left.left) + 8 ≡ c.args.tape.now.read + 8 * (c.args.n - (c.loop-left.left - 1)) =
    omega (arith, inv.most, c.loop-left-test.true) in
    record {
      within = omega (arith, inv.within);
      most = omega (arith, inv.most);
      has = t.has;
      leads = t.leads ∙ inv.leads;
      tape =
          c.read_trailer-size.ensures.tape ∙ ap (λ (t : TapeView). record t { read = t.read + 8 }) inv.tape
          ∙ ap (λ k. record c.args.tape.now { read = k }) read;
    }
