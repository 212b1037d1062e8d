use Rattle.std.proofs.Common.{◌∷◌, [], refl}
use Rattle.std.specs.Prelude.{codes}
use Rattle.rd_goal.specs.Written.{Itself, Numeral, comparison_word}
use Rattle.rd_goal.proofs.WordLaws.{reads_itself, reads_more}
use Rattle.rd_goal.proofs.claim_words.masked.Goals as goal

pub returns-clause-read : goal.returns-clause-read
returns-clause-read c =
    let old = c.args.reader.now in
    let mask = Numeral c.in_ok-mask.mask in
    let comparison = Itself (comparison_word c.in_ok-comparison.comparison) in
    let bound = Numeral c.in_ok-bound.bound in
    let compared = reads_more comparison (bound ∷ []) c.number.new.self c.comparison.new.self c.number-2.new.self c.in_ok-comparison.ensures.read c.in_ok-bound.ensures.read in
    let masked = reads_more mask (comparison ∷ bound ∷ []) c.takes.new.self c.number.new.self c.number-2.new.self c.in_ok-mask.ensures.read compared in
    let first = reads_itself old c.takes.new.self (codes "&") (c.if-not-takes.ensures.read refl) c.if-not-takes.ensures.source in
    record {
      signs = Itself (codes "&") ∷ mask ∷ comparison ∷ bound ∷ [];
      about = (refl, refl);
      reads = reads_more (Itself (codes "&")) (mask ∷ comparison ∷ bound ∷ []) old c.takes.new.self c.number-2.new.self first masked;
    }
