-- The goals of number_said that the check left open.
use Rattle.std.proofs.Common.{◌≡◌, Some, arith}
use Rattle.std.specs.contracts.prelude.UsizeFromStr as number
use Rattle.clap.specs.Words.{found_of}
use Rattle.rd_start.specs.Requests.{number_asked}
use Rattle.rd_question.proofs.LineLaws.{none_found, number_in, none_tried, number_found, number_tried}
use Rattle.rd_question.proofs.options.number_said.Goals as goal
use Rattle.rd_question.proofs.options.number_said.Goals.{then-least-number+else-number-most, else-least-number}

pub returns-in-Ok-None-clause-said : goal.returns-in-Ok-None-clause-said
returns-in-Ok-None-clause-said c =
    none_found c.args.option.now (found_of c.args.matches.now)
    (λ t e. none_tried number.TheImpl.ghosts.from_str_gives t c.in-Ok-None.field-0 c.in-Ok-None.field-0-is (c.in-Ok-None.ensures.value t e))

pub returns-in-Ok-Some-clause-said : goal.returns-in-Ok-Some-clause-said
returns-in-Ok-Some-clause-said c =
    let is : c.in-Ok-Some.field-0 ≡ Some c.in-Ok-Some.number = cc in
    number_found c.args.option.now (found_of c.args.matches.now) c.in-Ok-Some.number
    (λ e. let h = c.in-Ok-Some.ensures.none e in cc)
    (λ t e. number_tried number.TheImpl.ghosts.from_str_gives t c.in-Ok-Some.field-0 c.in-Ok-Some.number is
    (c.in-Ok-Some.ensures.value t e) (λ h. h.0.1))

pub returns-in-Ok-Some-2-clause-wrong : goal.returns-in-Ok-Some-2-clause-wrong
returns-in-Ok-Some-2-clause-wrong c = (
  c.args.option,
  c.args.least,
  c.args.most,
  c.no_number.ensures,
  λ has.
      let n = c.in-Ok-Some.number in
      let is : c.in-Ok-Some.field-0 ≡ Some n = c.in-Ok-Some.field-0-is in
      let given = number_in c.args.option.now c.args.least c.args.most (found_of c.args.matches.now) has in
      let said : n ≡ number_asked given.0 = number_tried number.TheImpl.ghosts.from_str_gives given.0 c.in-Ok-Some.field-0 n is
      (c.in-Ok-Some.ensures.value given.0 given.1) (λ h. h.0.1) in
      elim c.if-least-number.branch [
        | then-least-number+else-number-most w ↦ omega (arith, said, given.2.3)
        | else-least-number w ↦ omega (arith, said, given.2.2)
      ],
)

pub returns-in-Err-clause-wrong : goal.returns-in-Err-clause-wrong
returns-in-Err-clause-wrong c = (
  c.args.option,
  c.args.least,
  c.args.most,
  c.no_number-in-Err.ensures,
  λ has.
      let given = number_in c.args.option.now c.args.least c.args.most (found_of c.args.matches.now) has in
      absurd ((c.in-Err.ensures.value given.0 given.1).0 (given.2.0, given.2.1)),
)
