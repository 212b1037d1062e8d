use Rattle.std.proofs.Common.{◌∙◌, ap}
use Rattle.std.specs.Str.Iter.{split_whitespace_rest}
use Rattle.std.specs.Prelude.{string_bytes}
use Rattle.rd_question.proofs.CallLaws.{line_more, not_first}
use Rattle.rd_question.proofs.handler.line_of.Goals as goal

pub loop-word-preserved : goal.loop-word-preserved
loop-word-preserved c =
    let before = c.loop-word.yielded in
    record {
      line = line_more before c.in-Some.word (string_bytes c.loop-word.line) (string_bytes c.add_word.new.line) c.loop-word.first
          c.loop-word.invariant.first c.loop-word.invariant.line c.in_ok-add_word.ensures;
      first = not_first before c.in-Some.word;
    }

pub returns : goal.returns
returns c =
    let rest_is_text = ap split_whitespace_rest c.into_iter-word-iterator.ensures.into_iter_gives ∙ c.split_whitespace-word-items.ensures.rest in (
      c.loop-word.yielded,
      (c.into_iter-word-iterator.result, rest_is_text, (c.next.new.self, (c.loop-word.word-iterator, c.loop-word.yielded_by, c.in-None.ensures.steps))),
      c.loop-word.invariant.line,
    )
