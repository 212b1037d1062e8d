use Rattle.std.proofs.Common.{refl}
use Rattle.clap.specs.Words.{found_of}
use Rattle.rd_question.proofs.LineLaws.{is_given}
use Rattle.rd_question.proofs.isr_options.refuse_before.Goals as goal

pub returns-then-place-first : goal.returns-then-place-first
returns-then-place-first c =
    (refl, is_given (found_of c.args.matches.now) c.args.belonging.id.now (λ s. s.now) c.in-Some.places _ (λ a. a.indices.items) c.in-Some.is c.indices_of.ensures)
