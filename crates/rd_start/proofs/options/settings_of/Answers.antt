-- The goals of settings_of that the check left open.
use Rattle.std.proofs.Common.{◌∙◌, arith, codes, sym, true≢false}
use Rattle.clap.specs.Words.{found_of}
use Rattle.clap.proofs.WalkLemmas.{first_value-rows}
use Rattle.rd_start.specs.Requests.{IsWithinLimits}
use Rattle.rd_start.specs.declared.options.Settings.{Settings}
use Rattle.rd_start.proofs.WordsLaws.{number_found, number_in}
use Rattle.rd_start.proofs.options.settings_of.Goals as goal

pub returns-in_err-get_one-clause-some : goal.returns-in_err-get_one-clause-some
returns-in_err-get_one-clause-some c = λ has.
    let given = number_in (codes "moves") 1 1000000 (found_of c.args.options.now) has.moves in
    let refused = c.in_err-get_one.ensures.value given.0 given.1 in
    absurd (refused.1.0 (given.2.0, given.2.1))

pub returns-in_err-get_one-2-clause-some : goal.returns-in_err-get_one-2-clause-some
returns-in_err-get_one-2-clause-some c = λ has.
    let given = number_in (codes "history") 2 1000000 (found_of c.args.options.now) has.history in
    let refused = c.in_err-get_one-2.ensures.value given.0 given.1 in
    absurd (refused.1.0 (given.2.0, given.2.1))

pub returns-then-are_within_limits-clause-settings : goal.returns-then-are_within_limits-clause-settings
returns-then-are_within_limits-clause-settings c =
    let found = found_of c.args.options.now in
    let moves = c.in_ok-get_one.ensures in
    let history = c.in_ok-get_one-2.ensures in
    record {
      app = c.get_str.ensures ∙ first_value-rows found (codes "app");
      moves = number_found (codes "moves") found c.in_ok-get_one.field-0 moves.none (λ t e. (moves.value t e).0.1);
      history = number_found (codes "history") found c.in_ok-get_one-2.field-0 history.none (λ t e. (history.value t e).0.1);
    }

pub returns-else-are_within_limits-clause-some : goal.returns-else-are_within_limits-clause-some
returns-else-are_within_limits-clause-some c = λ has.
    let moves = number_in (codes "moves") 1 1000000 (found_of c.args.options.now) has.moves in
    let history = number_in (codes "history") 2 1000000 (found_of c.args.options.now) has.history in
    let moves_are = (c.in_ok-get_one.ensures.value moves.0 moves.1).0.1 in
    let history_is = (c.in_ok-get_one-2.ensures.value history.0 history.1).0.1 in
    let settings : Settings = record { app = c.get_str.result; moves = c.in_ok-get_one.field-0; history = c.in_ok-get_one-2.field-0 } in
    let within : IsWithinLimits settings = record {
      some = omega (arith, moves_are, moves.2.2);
      most = omega (arith, moves_are, moves.2.3);
      two = omega (arith, history_is, history.2.2);
      most_entries = omega (arith, history_is, history.2.3);
    } in
    absurd (true≢false (sym (c.are_within_limits.ensures.1 within) ∙ c.if-are_within_limits.false))
