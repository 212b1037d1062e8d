-- There are as many names as things in a state.
use Rattle.std.proofs.Common.{◌≡◌, ◌∙◌, length, refl, ap, sym}
use Rattle.std.proofs.lemmas.List.{length-map}
use Rattle.rd_app.specs.Application.{Application}
use Rattle.rd_names.specs.Apps.{AreAsMany}
use Rattle.rd_names.specs.Names.{NamesView}
use Rattle.rd_reply.specs.Names.{numbers_named}
use Rattle.rd_state.specs.Objects.{Shapes, capacity_of, shape_of, size_of_message_buffer, size_of_stream}
use Rattle.rd_state.specs.Snapshot.{Snapshot, numbers_of}
use Rattle.rd_state.specs.Valid.{IsValid}
use Rattle.rd_desk.specs.Views.{AreNamesOf}

-- as many as an application has
pub named_in_state : (app : Application) (names : NamesView) (s : Snapshot) → AreAsMany app names → IsValid app s → AreNamesOf s names
named_in_state app names s paired valid =
    let o = app.objects in
    let shaped = valid.in_limits.objects in
    let queues : length names.queues ≡ length s.objects.queues =
    paired.queues ∙ sym (ap (λ (shapes : Shapes). length shapes.queues) shaped) ∙ length-map s.objects.queues shape_of in
    let queue_sets : length names.queue_sets ≡ length s.objects.queue_sets =
    paired.queue_sets ∙ sym (length-map o.queue_sets (λ queue_set. queue_set.capacity))
    ∙ sym (ap (λ (shapes : Shapes). length shapes.queue_sets) shaped) ∙ length-map s.objects.queue_sets capacity_of in
    let streams : length names.streams ≡ length s.objects.streams =
    paired.streams ∙ sym (length-map o.streams (λ stream. stream.capacity))
    ∙ sym (ap (λ (shapes : Shapes). length shapes.streams) shaped) ∙ length-map s.objects.streams size_of_stream in
    let messages : length names.messages ≡ length s.objects.messages =
    paired.messages ∙ sym (length-map o.messages (λ message. message.capacity))
    ∙ sym (ap (λ (shapes : Shapes). length shapes.messages) shaped) ∙ length-map s.objects.messages size_of_message_buffer in
    let groups : length names.groups ≡ length s.objects.groups = paired.groups ∙ sym (ap (λ (shapes : Shapes). shapes.groups) shaped) in
    let objects : numbers_named names ≡ numbers_of s = rw (queues, queue_sets, streams, messages, groups) refl in
    record { objects = objects; tasks = paired.tasks ∙ sym valid.in_limits.tasks }
