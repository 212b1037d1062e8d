-- The goals of value that the check left open.
use Rattle.std.proofs.Common.{◌<◌, get_or, length, add-one, arith}
use Rattle.std.proofs.Math.Nat.{pow-suc}
use Rattle.std.specs.Char.{is_ascii_digit}
use Rattle.std.proofs.lemmas.Int.Digits.{digits_value_more}
use Rattle.rd_text.proofs.WordLemmas.{all_at, digit_is, digit_small}
use Rattle.rd_text.proofs.words.value.Goals as goal

pub loop-digit-preserved : goal.loop-digit-preserved
loop-digit-preserved c =
    let i = c.loop-digit.digit-index in
    let digits = c.args.digits.now in
    let lt : i < length digits = c.loop-digit-test.true in
    let passes = all_at is_ascii_digit digits i c.requires.digits lt in
    let more = digits_value_more 10 digits i lt in
    let is = digit_is (get_or digits i 0) passes in
    let small = digit_small (get_or digits i 0) passes in
    record {
      so_far = omega (arith, more, is);
      fits = rw (add-one i, pow-suc 10 i) (omega (arith, small));
    }
