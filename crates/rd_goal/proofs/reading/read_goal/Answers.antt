use Rattle.std.proofs.Common.{◌≡◌, ◌∙◌, ◌++◌, Bool, IfErr, [], rules, ap, arith, length, subst, sym}
use Rattle.rd_text.specs.Words.{texts}
use Rattle.rd_goal.specs.Reading.{DraftView, IsAmid, IsWhyNot, GoalSource, unread}
use Rattle.rd_goal.proofs.DraftLaws.{cut_off, if_err, if_ok, is_written, no_items, none_left}
use Rattle.rd_goal.proofs.WordLaws.{reads_both, why_refused}
use Rattle.rd_goal.proofs.reading.read_goal.Goals as goal
use Rattle.rd_goal.proofs.reading.read_goal.Goals.{else-loop-test, then-loop-test+then-is_over}

pub loop-preserved : goal.loop-preserved
loop-preserved c =
    let held = c.loop.invariant in
    let more = c.in_ok-is_wanted.ensures.goes_on held.signs held.amid in
    record {
      signs = held.signs ++ more.more;
      reads =
          reads_both held.signs more.more (unread c.args.app.now (texts c.args.words.now)) c.loop.draft.words c.advance.new.self.words
          held.reads more.reads;
      amid = more.amid;
      less = let was = held.less in let less = c.in_ok-is_wanted.ensures.less in omega (arith, was, less);
    }

pub returns-clause-written : goal.returns-clause-written
returns-clause-written c =
    let app = c.args.app.now in
    let words = texts c.args.words.now in
    let held = c.loop.invariant in
    let over : c.loop.draft.words.ahead ≡ [] = elim c.loop-test.branch [
      | else-loop-test w ↦ none_left c.loop.draft.words.ahead c.loop.counter (length c.args.words.now) held.less w.loop-test.false
      | then-loop-test+then-is_over w ↦ sym (ap (λ (d : DraftView). d.words.ahead) w.draft.view_is) ∙ no_items w.draft.inside.reader.ahead w.if-is_over.ensures
    ] in
    let amid = subst (λ (b : Bool). IsAmid b c.loop.draft held.signs) c.if-is_wanted.false held.amid in
    if_ok c.end.result (λ goal read. is_written app words c.loop.draft.words held.signs goal held.reads over (read held.signs amid)) c.end.ensures.read

pub returns-in_err-is_wanted-clause-wrong : goal.returns-in_err-is_wanted-clause-wrong
returns-in_err-is_wanted-clause-wrong c =
    subst (λ (source : GoalSource). IfErr c.from_residual.result (IsWhyNot source)) c.loop.invariant.reads.source (search rules)

pub returns-clause-wrong : goal.returns-clause-wrong
returns-clause-wrong c =
    let source : GoalSource = record { app = c.args.app.now; words = texts c.args.words.now } in
    if_err c.end.result (λ why refused. why_refused c.loop.draft.words.source source why c.loop.invariant.reads.source refused) c.end.ensures.wrong

pub returns-then-is_wanted-clause-ends : goal.returns-then-is_wanted-clause-ends
returns-then-is_wanted-clause-ends c is =
    let app = c.args.app.now in
    let words = texts c.args.words.now in
    let held = c.loop.invariant in
    let over : c.loop.draft.words.ahead ≡ [] = elim c.loop-test.branch [
      | else-loop-test w ↦ none_left c.loop.draft.words.ahead c.loop.counter (length c.args.words.now) held.less w.loop-test.false
      | then-loop-test+then-is_over w ↦ sym (ap (λ (d : DraftView). d.words.ahead) w.draft.view_is) ∙ no_items w.draft.inside.reader.ahead w.if-is_over.ensures
    ] in
    let wanting = subst (λ (b : Bool). IsAmid b c.loop.draft held.signs) c.if-is_wanted.true held.amid in
    cut_off app words c.loop.draft.words held.signs c.loop.draft held.reads over wanting
