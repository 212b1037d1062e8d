-- The goals of append_waiters that the check left open.
use Rattle.std.proofs.Common.{rules, arith, ◌≡◌, ◌∙◌, ℕ, List, length, get_or, subst, sym, ap}
use Rattle.std.specs.List.{zip}
use Rattle.std.proofs.lemmas.Slice.Zip.{get_or-zip, length-zip}
use Rattle.rd_group.specs.GroupChanges.{no_wish}
use Rattle.rd_group.specs.declared.wish.Wish.{Wish}
use Rattle.rd_reply.proofs.TextLaws.{one_more, all_joined}
use Rattle.rd_reply.specs.Pages.{Appends}
use Rattle.rd_reply.specs.Replies.{waiter_text}
use Rattle.rd_reply.proofs.groups.append_waiters.Goals as goal

pub loop-index-preserved : goal.loop-index-preserved
loop-index-preserved c =
    let tasks = c.as_slice-tasks.result.now in
    let wishes = c.wishes-wish-items.result.now in
    let index = c.loop-index.index in
    let same_length : length wishes ≡ length tasks = search rules in
    let both : zip tasks wishes ≡ zip c.args.group.now.waiting c.args.group.now.wishes =
    search rules in
    let named = λ (waiter : ℕ × Wish). Appends c.append_comma.new.page c.append_waiter.new.page
    (waiter_text c.args.names.now waiter) in
    let member = get_or-zip tasks wishes index (0, no_wish) (omega (arith, same_length))
    (omega arith) in
    one_more (waiter_text c.args.names.now) (zip c.args.group.now.waiting c.args.group.now.wishes)
    index (0, no_wish) _ _ _ _
    (omega (arith, same_length, length-zip tasks wishes, ap length both))
    c.loop-index.invariant c.append_comma.ensures
    (subst named
    (sym member ∙ ap (λ (waiters : List (ℕ × Wish)). get_or waiters index (0, no_wish)) both)
    c.append_waiter.ensures)

pub returns : goal.returns
returns c =
    let tasks = c.as_slice-tasks.result.now in
    let wishes = c.wishes-wish-items.result.now in
    let same_length : length wishes ≡ length tasks = search rules in
    let both : zip tasks wishes ≡ zip c.args.group.now.waiting c.args.group.now.wishes =
    search rules in
    let length_is : length (zip tasks wishes) ≡ length tasks =
    omega (arith, same_length, length-zip tasks wishes) in
    all_joined (waiter_text c.args.names.now) (zip c.args.group.now.waiting c.args.group.now.wishes)
    c.loop-index.index _ _
    (grind (arith, length_is, ap length both, c.if-is_empty.false, c.is_empty.ensures))
    (omega (arith, same_length, length_is, ap length both)) c.loop-index.invariant
