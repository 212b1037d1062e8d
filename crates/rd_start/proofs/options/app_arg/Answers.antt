-- The rule of `--app`.
use Rattle.std.proofs.Common.{◌∙◌, Some, ap, codes}
use Rattle.clap.specs.Words.{Rule, rule_of}
use Rattle.rd_start.proofs.options.app_arg.Goals as goal

pub returns-clause-rule : goal.returns-clause-rule
returns-clause-rule c =
    ap rule_of c.help.ensures ∙ (ap rule_of c.value_name.ensures ∙ (ap (λ (r : Rule). record r { value_names = 1 }) (ap rule_of c.long.ensures)
    ∙ ap (λ (r : Rule). record r { long = Some (codes "app"); value_names = 1 }) c.new.ensures.rule))
