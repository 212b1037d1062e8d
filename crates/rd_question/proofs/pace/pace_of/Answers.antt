-- The goals of pace_of that the check left open.
use Rattle.std.proofs.Common.{◌≡◌, ◌≢◌, ◌++◌, List, ℕ, inl, inr, length, subst, codes, rules}
use Rattle.std.specs.Str.Pattern.{FindsText, SplitsAroundMatch}
use Rattle.std.specs.Prelude.{MatchOption, None}
use Rattle.std.proofs.lemmas.Str.Pattern.{split_text_parts}
use Rattle.rd_question.proofs.TextLaws.{in_parts, no_text}
use Rattle.rd_question.proofs.pace.pace_of.Goals as goal

pub returns-in_err-least-clause-form : goal.returns-in_err-least-clause-form
returns-in_err-least-clause-form c = λ _.
    inl (subst (λ r. MatchOption r ((xs ys : List ℕ) → c.args.word.now ≢ xs ++ (codes ".." ++ ys)) (λ x. c.args.word.now ≡ x.0.now ++ (codes ".." ++ x.1.now)))
    c.in_err-least.ensures.ok_part (split_text_parts (codes "..") c.args.word.now c.split_once.result c.split_once.ensures.cases))

pub returns-then-is_empty-2-clause-form : goal.returns-then-is_empty-2-clause-form
returns-then-is_empty-2-clause-form c = λ _.
    let least : length c.in_ok-least.least.now ≡ 0 = search rules in
    let most : length c.in_ok-least.most.now ≡ 0 = search rules in
    let split = subst (λ r. MatchOption r (FindsText (codes "..") c.args.word.now None) (λ x. SplitsAroundMatch (FindsText (codes "..")) c.args.word.now x.0.now x.1.now))
    c.in_ok-least.ensures.ok_part c.split_once.ensures.cases in
    inr (c.in_ok-least.least.now, c.in_ok-least.most.now, in_parts c.args.word.now (codes "..") c.in_ok-least.least.now c.in_ok-least.most.now split, inl (no_text c.in_ok-least.least.now least, no_text c.in_ok-least.most.now most))

pub returns-in_err-least_of-clause-form : goal.returns-in_err-least_of-clause-form
returns-in_err-least_of-clause-form c = λ _.
    let split = subst (λ r. MatchOption r (FindsText (codes "..") c.args.word.now None) (λ x. SplitsAroundMatch (FindsText (codes "..")) c.args.word.now x.0.now x.1.now))
    c.in_ok-least.ensures.ok_part c.split_once.ensures.cases in
    inr (c.in_ok-least.least.now, c.in_ok-least.most.now, in_parts c.args.word.now (codes "..") c.in_ok-least.least.now c.in_ok-least.most.now split, inr (inl c.in_err-least_of.ensures.err.1))

pub returns-in_err-most_of-clause-form : goal.returns-in_err-most_of-clause-form
returns-in_err-most_of-clause-form c = λ _.
    let split = subst (λ r. MatchOption r (FindsText (codes "..") c.args.word.now None) (λ x. SplitsAroundMatch (FindsText (codes "..")) c.args.word.now x.0.now x.1.now))
    c.in_ok-least.ensures.ok_part c.split_once.ensures.cases in
    inr (c.in_ok-least.least.now, c.in_ok-least.most.now, in_parts c.args.word.now (codes "..") c.in_ok-least.least.now c.in_ok-least.most.now split, inr (inr c.in_err-most_of.ensures.err.1))

pub returns-then-is_crossed-clause-crossed : goal.returns-then-is_crossed-clause-crossed
returns-then-is_crossed-clause-crossed c = λ _.
    let split = subst (λ r. MatchOption r (FindsText (codes "..") c.args.word.now None) (λ x. SplitsAroundMatch (FindsText (codes "..")) c.args.word.now x.0.now x.1.now))
    c.in_ok-least.ensures.ok_part c.split_once.ensures.cases in
    let over = c.is_crossed.ensures.crossed c.if-is_crossed.true in (
      record { at_least = c.in_ok-least_of.field-0; at_most = c.in_ok-most_of.field-0 },
      record {
        least = c.in_ok-least.least.now;
        most = c.in_ok-least.most.now;
        parts = in_parts c.args.word.now (codes "..") c.in_ok-least.least.now c.in_ok-least.most.now split;
        at_least = c.in_ok-least_of.ensures.ok;
        at_most = c.in_ok-most_of.ensures.written;
      },
      over.0,
      over.1,
      over.2,
    )
