-- The goals of run that the check left open.
use Rattle.std.proofs.Common.{map, refl, string_bytes}
use Rattle.rd_question.specs.declared.options.ReachRequest.TheVariants.{Ask, Engine, Help}
use Rattle.rd_question.proofs.StatusLaws.{ended, ended_if_done}
use Rattle.rd_question.proofs.run.Goals as goal

pub returns-in-Ask-clause-told : goal.returns-in-Ask-clause-told
returns-in-Ask-clause-told g c =
    ended_if_done (map string_bytes c.args.words.now) c.in_ok-question.field-0 (Ask c.in-Ask.question) c.ask.result c.in-Ask.is c.in_ok-question.ensures.asked
    c.ask.ensures.told

pub returns-in_ok-answer_lines-in-Engine-clause-told : goal.returns-in_ok-answer_lines-in-Engine-clause-told
returns-in_ok-answer_lines-in-Engine-clause-told g c =
    ended (map string_bytes c.args.words.now) c.in_ok-question.field-0 (Engine c.in-Engine.question) 0 c.in-Engine.is c.in_ok-question.ensures.asked refl

pub returns-in_ok-write_all-in-Help-clause-told : goal.returns-in_ok-write_all-in-Help-clause-told
returns-in_ok-write_all-in-Help-clause-told g c =
    ended (map string_bytes c.args.words.now) c.in_ok-question.field-0 (Help c.in-Help.text) 0 c.in-Help.is c.in_ok-question.ensures.asked refl
