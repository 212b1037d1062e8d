use Rattle.std.proofs.Common.{◌∷◌, List, [], ap, refl, subst, sym}
use Rattle.std.specs.Prelude.{codes}
use Rattle.rd_goal.specs.Reading.{Reads, WordsView}
use Rattle.rd_goal.specs.Written.{Itself, Numeral, Sign, comparison_word}
use Rattle.rd_goal.proofs.WordLaws.{reads_itself, reads_more}
use Rattle.rd_goal.proofs.claim_words.against.Goals as goal

pub returns-then-takes-clause-read : goal.returns-then-takes-clause-read
returns-then-takes-clause-read c =
    let old = c.args.reader.now in
    let comparison = Itself (comparison_word c.in_ok-comparison.comparison) in
    let other = c.in_ok-other.ensures.read in
    let taken = reads_itself c.comparison.new.self c.takes.new.self (codes "reg") (c.if-takes.ensures.read refl) c.if-takes.ensures.source in
    let behind = reads_more (Itself (codes "reg")) other.signs c.comparison.new.self c.takes.new.self c.register.new.reader taken other.reads in
    record {
      signs = comparison ∷ Itself (codes "reg") ∷ other.signs;
      about = (refl, ap (λ (signs : List Sign). comparison ∷ signs) (sym other.form));
      reads = reads_more comparison (Itself (codes "reg") ∷ other.signs) old c.comparison.new.self c.register.new.reader c.in_ok-comparison.ensures.read behind;
    }

pub returns-clause-read : goal.returns-clause-read
returns-clause-read c =
    let comparison = Itself (comparison_word c.in_ok-comparison.comparison) in
    let bound = Numeral c.in_ok-bound.bound in
    let mid = c.comparison.new.self in
    let after = subst (λ (words : WordsView). Reads (bound ∷ []) words c.number.new.self) (c.if-takes.ensures.stays refl) c.in_ok-bound.ensures.read in
    record {
      signs = comparison ∷ bound ∷ [];
      about = (refl, refl);
      reads = reads_more comparison (bound ∷ []) c.args.reader.now mid c.number.new.self c.in_ok-comparison.ensures.read after;
    }
