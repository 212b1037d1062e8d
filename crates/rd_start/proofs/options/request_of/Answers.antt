-- The goal of request_of that the check left open.
use Rattle.std.proofs.Common.{◌∙◌, inl, inr, subst, sym}
use Rattle.clap.specs.Words.{found_of, rows_of, subcommand_rows_of}
use Rattle.rd_start.specs.Requests.{HasServerLimits}
use Rattle.rd_start.proofs.WordsLaws.{name_is, options_are, same_name}
use Rattle.rd_start.proofs.options.request_of.Goals as goal

pub returns-in-serve-clause-some : goal.returns-in-serve-clause-some
returns-in-serve-clause-some c = λ whole.
    let m = c.args.matches.now in
    let found = options_are (rows_of (found_of c.in_ok-name.options.now)) (subcommand_rows_of m) c.in_ok-name.ensures.rows in
    elim whole [
      | inl run ↦ absurd (c.in-serve.not-run (same_name _ _ (c.in_ok-name.ensures.name ∙ (sym (name_is m) ∙ run.0))))
      | inr serve ↦ c.server_of.ensures.some (subst HasServerLimits found serve.1)
    ]
