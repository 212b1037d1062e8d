-- The goals of condition_keyword_of that the check left open.
use Rattle.std.proofs.Common.{◌∙◌, ap, option_map}
use Rattle.rd_command.specs.Keywords.{condition_keywords}
use Rattle.rd_command.specs.Tables.{conditions_of, first_condition}
use Rattle.rd_command.proofs.TableLaws.{condition_found, condition_shown, parameters_found, parameters_shown}
use Rattle.rd_command.proofs.keyword.condition_keyword_of.Goals as goal

pub returns-clause-keyword : goal.returns-clause-keyword
returns-clause-keyword c =
    condition_shown c.first_condition.result ∙ ap (option_map (λ found. found.1)) c.first_condition.ensures ∙ condition_found c.args.word.now condition_keywords

pub returns-clause-operands : goal.returns-clause-operands
returns-clause-operands c =
    parameters_shown c.first_condition.result (first_condition c.args.word.now (conditions_of condition_keywords)) c.first_condition.ensures
    (parameters_found c.args.word.now condition_keywords)
