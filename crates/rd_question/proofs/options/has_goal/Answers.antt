-- The goal of has_goal.
use Rattle.std.proofs.Common.{◌∙◌, codes}
use Rattle.clap.specs.Words.{found_of}
use Rattle.rd_question.proofs.LineLaws.{is_there}
use Rattle.rd_question.proofs.options.has_goal.Goals as goal

pub returns : goal.returns
returns c = c.contains_id.ensures ∙ is_there (found_of c.args.matches.now) (codes "GOAL")
