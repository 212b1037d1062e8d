-- The goals of `MessageBuf::message` that the check left open.
use Rattle.std.proofs.Common.{◌∙◌, ◌<◌, [], get_or, length, subst, sym, ap, arith}
use Rattle.std.proofs.lemmas.List.{length-append}
use Rattle.rd_stream.specs.MessageSnapshot.{MessageSnapshot}
use Rattle.rd_stream.proofs.MessageRingLaws.{begins, found}
use Rattle.rd_stream.proofs.message_buf.MessageBuf.message.Goals as goal

pub length_at-len-requires-clause-there : goal.length_at-len-requires-clause-there
length_at-len-requires-clause-there c =
    let buffer = c.self.inside in
    let there = subst (λ (b : MessageSnapshot). c.args.index < length b.messages) (sym c.self.view_is) c.requires in
    begins buffer.ring buffer.count c.args.index c.start_of-at.result c.self.invariant there c.start_of-at.ensures

pub overflow_add-at : goal.overflow_add-at
overflow_add-at c =
    let buffer = c.self.inside in
    let holds = c.self.invariant in
    let there = subst (λ (b : MessageSnapshot). c.args.index < length b.messages) (sym c.self.view_is) c.requires in
    omega (arith, begins buffer.ring buffer.count c.args.index c.start_of-at.result holds there c.start_of-at.ensures, holds.1, holds.2)

pub range-requires : goal.range-requires
range-requires c =
    let buffer = c.self.inside in
    let there = subst (λ (b : MessageSnapshot). c.args.index < length b.messages) (sym c.self.view_is) c.requires in
    let it = found buffer.ring buffer.count c.args.index c.start_of-at.result c.length_at-len.result c.self.invariant there c.start_of-at.ensures c.length_at-len.ensures in
    omega (arith, it.within)

pub returns-clause-message : goal.returns-clause-message
returns-clause-message c =
    let buffer = c.self.inside in
    let there = subst (λ (b : MessageSnapshot). c.args.index < length b.messages) (sym c.self.view_is) c.requires in
    let it = found buffer.ring buffer.count c.args.index c.start_of-at.result c.length_at-len.result c.self.invariant there c.start_of-at.ensures c.length_at-len.ensures in
    c.range.ensures ∙ it.message ∙ ap (λ (b : MessageSnapshot). get_or b.messages c.args.index []) c.self.view_is

pub returns-clause-front : goal.returns-clause-front
returns-clause-front c =
    let buffer = c.self.inside in
    let holds = c.self.invariant in
    let pieces = c.range.result in
    let there = subst (λ (b : MessageSnapshot). c.args.index < length b.messages) (sym c.self.view_is) c.requires in
    let it = found buffer.ring buffer.count c.args.index c.start_of-at.result c.length_at-len.result holds there c.start_of-at.ensures c.length_at-len.ensures in
    omega (arith, length-append pieces.0.now pieces.1.now, ap length (c.range.ensures ∙ it.message), it.long, it.within, holds.1, holds.2)

pub returns-clause-back : goal.returns-clause-back
returns-clause-back c =
    let buffer = c.self.inside in
    let holds = c.self.invariant in
    let pieces = c.range.result in
    let there = subst (λ (b : MessageSnapshot). c.args.index < length b.messages) (sym c.self.view_is) c.requires in
    let it = found buffer.ring buffer.count c.args.index c.start_of-at.result c.length_at-len.result holds there c.start_of-at.ensures c.length_at-len.ensures in
    omega (arith, length-append pieces.0.now pieces.1.now, ap length (c.range.ensures ∙ it.message), it.long, it.within, holds.1, holds.2)
