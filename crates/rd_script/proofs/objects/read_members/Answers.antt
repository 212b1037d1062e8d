-- The goals of read_members that the check left open.
use Rattle.std.proofs.Common.{rules, ◌≡◌, ◌∙◌, ◌+◌, [], ◌∷◌, ◌++◌, Ok, ap, arith, drop, length, refl, sym}
use Rattle.std.proofs.lemmas.List.{length-map}
use Rattle.serde_json.specs.Data.{item}
use Rattle.serde_json.specs.View.{view, items_view}
use Rattle.rd_app.specs.Objects.{members_of}
use Rattle.rd_script.specs.Objects.{member_of, members_after}
use Rattle.rd_text.specs.Words.{texts}
use Rattle.rd_script.proofs.FileLemmas.{items_from}
use Rattle.rd_script.proofs.QueueSetLaws.{none_yet, once_push}
use Rattle.rd_script.proofs.Steps.{then_is}
use Rattle.rd_script.proofs.objects.read_members.Goals as goal

pub loop-value-init : goal.loop-value-init
loop-value-init c = rw (c.new-members.ensures) (record { so_far = search rules; placed = none_yet (length (texts c.args.queues.now)) })

pub push-requires : goal.push-requires
push-requires c =
    let queues = texts c.args.queues.now in
    let queue_sets = members_of c.args.queue_sets.now in
    let members = c.loop-value.members.items in
    let queue = c.in_ok-read_member.field-0 in
    let value = view c.value-item.result in
    let read : member_of queues (queue_sets ++ members) value ≡ Ok queue = rw (← c.as_slice.ensures.value) (sym c.read_member.ensures ∙ c.in_ok-read_member.was) in
    let room = (once_push queues queue_sets members value queue read c.loop-value.invariant.placed).1 in
    (omega arith, omega (arith, room, c.requires, length-map c.args.queues.now (λ name. name.now)))

pub loop-value-preserved : goal.loop-value-preserved
loop-value-preserved c =
    let queues = texts c.args.queues.now in
    let queue_sets = members_of c.args.queue_sets.now in
    let members = c.loop-value.members.items in
    let queue = c.in_ok-read_member.field-0 in
    let value = view c.value-item.result in
    let read : member_of queues (queue_sets ++ members) value ≡ Ok queue = rw (← c.as_slice.ensures.value) (sym c.read_member.ensures ∙ c.in_ok-read_member.was) in
    let placed = (once_push queues queue_sets members value queue read c.loop-value.invariant.placed).0 in
    let index = c.loop-value.value-index in
    let left = items_from c.args.values.now index c.value-item.result c.loop-value-test.true c.value-item.is in
    let rest = items_view (drop (index + 1) c.args.values.now) in
    let step : members_after queues queue_sets members (item value rest) ≡ members_after queues queue_sets (members ++ queue ∷ []) rest =
    then_is (member_of queues (queue_sets ++ members) value) _ queue _ read refl in
    rw (c.push.ensures.items) (record {
      so_far = sym step ∙ ap (members_after queues queue_sets members) (sym left) ∙ c.loop-value.invariant.so_far;
      placed = placed;
    })
