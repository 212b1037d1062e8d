-- The goals of `count_in` that the check left open.
use Rattle.std.proofs.Common.{◌≡◌, ◌∙◌, ◌<◌, length, drop, ap, arith}
use Rattle.rd_stream.specs.Messages.{first_length, messages_in}
use Rattle.rd_stream.proofs.MessageListLaws.{all_read, at_index, few_held, lies_at, more_left}
use Rattle.rd_stream.proofs.message_buf.count_in.Goals as goal

pub length_at-requires-clause-there : goal.length_at-requires-clause-there
length_at-requires-clause-there c =
    let bytes = c.args.ring.now.bytes in
    let count = c.loop-at.count in
    let holds = c.loop-at.invariant in
    let there : count < length (messages_in bytes) = more_left bytes count c.requires.messages holds.count (omega (arith, holds.at, c.len.ensures.len)) in
    omega (arith, holds.at, (lies_at bytes count c.requires.messages c.requires.few there).within)

pub overflow_add-at : goal.overflow_add-at
overflow_add-at c =
    let bytes = c.args.ring.now.bytes in
    let count = c.loop-at.count in
    let holds = c.loop-at.invariant in
    let there : count < length (messages_in bytes) = more_left bytes count c.requires.messages holds.count (omega (arith, holds.at, c.len.ensures.len)) in
    let lies = lies_at bytes count c.requires.messages c.requires.few there in
    let long : c.length_at.result ≡ length (at_index bytes count) = c.length_at.ensures ∙ ap (λ n. first_length (drop n bytes)) holds.at ∙ lies.long in
    omega (arith, long, lies.within, c.requires.few)

pub overflow_add-at-in-loop-at : goal.overflow_add-at-in-loop-at
overflow_add-at-in-loop-at c =
    let bytes = c.args.ring.now.bytes in
    let count = c.loop-at.count in
    let holds = c.loop-at.invariant in
    let there : count < length (messages_in bytes) = more_left bytes count c.requires.messages holds.count (omega (arith, holds.at, c.len.ensures.len)) in
    let lies = lies_at bytes count c.requires.messages c.requires.few there in
    let long : c.length_at.result ≡ length (at_index bytes count) = c.length_at.ensures ∙ ap (λ n. first_length (drop n bytes)) holds.at ∙ lies.long in
    omega (arith, long, lies.within, holds.at, c.requires.few)

pub overflow_add-count : goal.overflow_add-count
overflow_add-count c =
    let bytes = c.args.ring.now.bytes in
    omega (arith, c.loop-at.invariant.count, few_held (messages_in bytes), ap length c.requires.messages.whole, c.requires.few)

pub loop-at-preserved : goal.loop-at-preserved
loop-at-preserved c =
    let bytes = c.args.ring.now.bytes in
    let count = c.loop-at.count in
    let holds = c.loop-at.invariant in
    let there : count < length (messages_in bytes) = more_left bytes count c.requires.messages holds.count (omega (arith, holds.at, c.len.ensures.len)) in
    let lies = lies_at bytes count c.requires.messages c.requires.few there in
    let long : c.length_at.result ≡ length (at_index bytes count) = c.length_at.ensures ∙ ap (λ n. first_length (drop n bytes)) holds.at ∙ lies.long in
    record { at = omega (arith, long, lies.next, holds.at); count = omega (arith, there) }

pub returns : goal.returns
returns c =
    let holds = c.loop-at.invariant in
    all_read c.args.ring.now.bytes c.loop-at.count c.requires.messages c.requires.few holds.count (omega (arith, holds.at, c.len.ensures.len))
