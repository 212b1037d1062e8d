use Rattle.std.proofs.Common.{arith, subst}
use Rattle.std.specs.Prelude.{MatchOption, None}
use Rattle.std.specs.Str.Pattern.{RFindsChar, SplitsAroundMatch}
use Rattle.rd_question.proofs.IsrLaws.{no_split, split_last}
use Rattle.rd_question.proofs.engine_isr.last_call.Goals as goal

pub returns-in-Some : goal.returns-in-Some
returns-in-Some c =
    let split = subst (λ r. MatchOption r (RFindsChar 59 c.args.calls.now None) (λ x. SplitsAroundMatch (RFindsChar 59) c.args.calls.now x.0.now x.1.now)) c.in-Some.is c.rsplit_once.ensures.cases in
    (split_last 59 c.args.calls.now _ c.in-Some.last.now (omega arith) split).1

pub returns-in-None : goal.returns-in-None
returns-in-None c =
    let split = subst (λ r. MatchOption r (RFindsChar 59 c.args.calls.now None) (λ x. SplitsAroundMatch (RFindsChar 59) c.args.calls.now x.0.now x.1.now)) c.in-None.is c.rsplit_once.ensures.cases in
    (no_split 59 c.args.calls.now (omega arith) split).1
