-- The goals of `start_of` that the check left open.
use Rattle.std.proofs.Common.{◌≡◌, ◌∙◌, ◌<◌, length, drop, ap, arith}
use Rattle.rd_stream.specs.Messages.{first_length, messages_in}
use Rattle.rd_stream.proofs.MessageListLaws.{at_index, lies_at}
use Rattle.rd_stream.proofs.message_buf.start_of.Goals as goal

pub length_at-requires-clause-there : goal.length_at-requires-clause-there
length_at-requires-clause-there c =
    let bytes = c.args.ring.now.bytes in
    let there : c.loop.counter < length (messages_in bytes) = omega (arith, c.requires.there) in
    omega (arith, c.loop.invariant, (lies_at bytes c.loop.counter c.requires.messages c.requires.few there).within)

pub overflow_add-at : goal.overflow_add-at
overflow_add-at c =
    let bytes = c.args.ring.now.bytes in
    let there : c.loop.counter < length (messages_in bytes) = omega (arith, c.requires.there) in
    let lies = lies_at bytes c.loop.counter c.requires.messages c.requires.few there in
    let long : c.length_at.result ≡ length (at_index bytes c.loop.counter) =
    c.length_at.ensures ∙ ap (λ n. first_length (drop n bytes)) c.loop.invariant ∙ lies.long in
    omega (arith, long, lies.within, c.requires.few)

pub overflow_add-at-in-loop : goal.overflow_add-at-in-loop
overflow_add-at-in-loop c =
    let bytes = c.args.ring.now.bytes in
    let there : c.loop.counter < length (messages_in bytes) = omega (arith, c.requires.there) in
    let lies = lies_at bytes c.loop.counter c.requires.messages c.requires.few there in
    let long : c.length_at.result ≡ length (at_index bytes c.loop.counter) =
    c.length_at.ensures ∙ ap (λ n. first_length (drop n bytes)) c.loop.invariant ∙ lies.long in
    omega (arith, long, lies.within, c.loop.invariant, c.requires.few)

pub loop-preserved : goal.loop-preserved
loop-preserved c =
    let bytes = c.args.ring.now.bytes in
    let there : c.loop.counter < length (messages_in bytes) = omega (arith, c.requires.there) in
    let lies = lies_at bytes c.loop.counter c.requires.messages c.requires.few there in
    let long : c.length_at.result ≡ length (at_index bytes c.loop.counter) =
    c.length_at.ensures ∙ ap (λ n. first_length (drop n bytes)) c.loop.invariant ∙ lies.long in
    omega (arith, long, lies.next, c.loop.invariant)
