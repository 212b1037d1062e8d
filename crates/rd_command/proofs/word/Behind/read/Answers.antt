-- The goals of read that the check left open.
use Rattle.std.proofs.Common.{◌≡◌, ap, arith, false, length, length-append, nat_le, sym}
use Rattle.std.proofs.lemmas.Bool.{lt-leb}
use Rattle.std.proofs.lemmas.Bool.Decides.{nat_tests}
use Rattle.rd_command.proofs.word.Behind.read.Goals as goal

pub returns-then-is_full-clause-few : goal.returns-then-is_full-clause-few
returns-then-is_full-clause-few c =
    let read = c.loop-text.self-inside.words.items in
    let full : length read ≡ 6 = grind (arith, nat_tests, c.if-is_full.ensures.value) in
    let many : nat_le (length c.args.words) 6 ≡ false =
    lt-leb (length c.args.words) 6
    (omega (arith, full, ap length c.loop-text.invariant.0, length-append read c.loop-text.text-iterator, ap length c.in-Some.ensures.steps)) in
    sym many
