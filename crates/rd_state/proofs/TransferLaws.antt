-- Transfers: the change that each makes fits.
use Rattle.std.proofs.Common.{Bool, true, false, ◌≡◌, ◌∙◌, ℕ, ◌<◌, ◌≤◌, List, [], ◌∷◌, ◌++◌, length, drop, get_or, replicate, refl, subst, sym, arith}
use Rattle.std.proofs.lemmas.List.{length-append, length-replicate, length-take-le}
use Rattle.std.proofs.lemmas.List.Elements.{All-get_or}
use Rattle.std.specs.Prelude.{Result, OnOk, OnErr}
use Rattle.rd_queue.specs.declared.end.End.{End}
use Rattle.rd_queue.specs.declared.end.End.TheVariants.{Back, Front}
use Rattle.rd_queue.specs.Changes.{put_at, QueueFits}
use Rattle.rd_queue.specs.QueueSnapshot.{QueueSnapshot}
use Rattle.rd_queue.specs.Queues.{fitted}
use Rattle.rd_state.specs.declared.transfer.Sink.{Sink}
use Rattle.rd_state.specs.declared.transfer.Sink.TheVariants.{QueueEnd, OverFront, StreamBack, MessageBack}
use Rattle.rd_state.specs.declared.transfer.Source.{Source}
use Rattle.rd_state.specs.declared.transfer.Source.TheVariants.{QueueFront, StreamFront, MessageFront}
use Rattle.rd_state.specs.declared.transfer.Transfer.{Transfer}
use Rattle.rd_state.specs.declared.transfer.Transfer.TheVariants.{FromData, ToData}
use Rattle.rd_state.specs.Objects.{ObjectsSnapshot, queue_in, stream_in, AreSizedObjects, ObjectFits}
use Rattle.rd_state.specs.Change.{applied, cost_of, inverse_of, moves_lineup, Fits}
use Rattle.rd_state.specs.EditingView.{EditingView, IsCalmSince, Reaches, editing_of, room_for}
use Rattle.rd_state.specs.PackedChanges.{all_packed, packed, ChangeListView}
use Rattle.rd_state.specs.Sizes.{IsSized}
use Rattle.rd_state.specs.Snapshot.{Snapshot, task_at}
use Rattle.rd_state.specs.Transfers.{bytes_at, change_of, sunk, CanTransfer, HasSink, HasSource}
use Rattle.rd_state.specs.Undoing.{CanUndo}
use Rattle.rd_state.proofs.EditLaws.{calm-from_still_act, CanUndo-from_act, Reaches-from_act, short-from_act}
use Rattle.rd_state.proofs.ObjectLaws.{queue_in_sized}

pub length-fitted : (size : ℕ) (bytes : List ℕ) → length (fitted size bytes) ≡ size
length-fitted size bytes =
    let zeros : List ℕ = replicate size 0 in
    length-take-le size (bytes ++ zeros) (omega (arith, length-append bytes zeros, length-replicate {A = ℕ} size 0))

-- an item made of bytes, at an end of a queue that isn't full
pub put_fits : (queue : QueueSnapshot) (end : End) (size : ℕ) (bytes : List ℕ) → length queue.items < queue.capacity → size ≡ queue.item_size
    → QueueFits queue (put_at end (fitted size bytes))
put_fits queue Back size bytes space same = (space, length-fitted size bytes ∙ same)
put_fits queue Front size bytes space same = (space, length-fitted size bytes ∙ same)

pub sink_fits : (o : ObjectsSnapshot) (sink : Sink) (bytes : List ℕ) → HasSink o sink bytes → ObjectFits o (sunk o sink bytes)
sink_fits o (QueueEnd queue end) bytes can = (can.0, put_fits (queue_in o queue) end (queue_in o queue).item_size bytes can.1 refl)
sink_fits o (OverFront queue) bytes can = (can.0, (can.1, length-fitted (queue_in o queue).item_size bytes))
sink_fits o (StreamBack stream count) bytes can = (can.0, omega (arith, can.1, length-take-le count bytes can.2))
sink_fits o (MessageBack message) bytes can = can

-- the item at a queue's front
first_is_short : (task_count : ℕ) (o : ObjectsSnapshot) (queue : ℕ) → AreSizedObjects task_count o → queue < length o.queues → 0 < length (queue_in o queue).items
    → length (get_or (queue_in o queue).items 0 []) ≤ 64
first_is_short task_count o queue sized there some =
    let here = (queue_in_sized task_count o queue sized there).0 in
    omega (arith, here.small, All-get_or (λ (item : List ℕ). length item ≡ (queue_in o queue).item_size) (queue_in o queue).items 0 [] some here.items)

source_is_short : (task_count : ℕ) (o : ObjectsSnapshot) (source : Source) → AreSizedObjects task_count o → HasSource o source → length (bytes_at o source) ≤ 256
source_is_short task_count o (QueueFront queue) sized can = omega (arith, first_is_short task_count o queue sized can.0 can.1)
source_is_short task_count o (StreamFront stream count) sized can = omega (arith, can.2, length-take-le count (stream_in o stream).bytes can.1)
source_is_short task_count o (MessageFront message) sized can = can.2

pub transfer_fits : (s : Snapshot) (transfer : Transfer) → IsSized s → CanTransfer s transfer → Fits s (change_of s transfer)
transfer_fits s (FromData task sink) sized can = sink_fits s.objects sink (task_at s task).bytes can.1
transfer_fits s (ToData source task) sized can = (can.1, source_is_short (length s.tasks) s.objects source sized.objects can.0, tt)

-- what `act_transfer` makes of a state and its record
pub Reaches-from_transfer : {T E : Type 0} (r : Result T E) (old : EditingView) (s s' : Snapshot) (list list' : ChangeListView) (start : ℕ) (was calm calm' : Bool) (transfer : Transfer)
    → editing_of s list start was calm ≡ old → IsSized s → CanTransfer old.now transfer → start ≤ length list.changes → list.capacity ≤ list'.capacity
    → OnOk r (s' ≡ applied s (change_of s transfer)) → OnOk r (list'.changes ≡ list.changes ++ inverse_of s (change_of s transfer) ∷ [])
    → OnOk r (Reaches old (editing_of s' list' start was calm') (applied old.now (change_of old.now transfer)) (cost_of (inverse_of old.now (change_of old.now transfer))))
Reaches-from_transfer r old s s' list list' start was calm calm' transfer e sized =
    let P : EditingView → Type 0 = λ f. CanTransfer f.now transfer → start ≤ length list.changes → list.capacity ≤ list'.capacity
    → OnOk r (s' ≡ applied s (change_of s transfer)) → OnOk r (list'.changes ≡ list.changes ++ inverse_of s (change_of s transfer) ∷ [])
    → OnOk r (Reaches f (editing_of s' list' start was calm') (applied f.now (change_of f.now transfer)) (cost_of (inverse_of f.now (change_of f.now transfer)))) in
    subst P e
    (λ can. Reaches-from_act r (editing_of s list start was calm) s s' list list' start was calm calm' (change_of s transfer) refl sized (transfer_fits s transfer sized can))

pub short-from_transfer : {T E : Type 0} (r : Result T E) (old : EditingView) (s : Snapshot) (list : ChangeListView) (start : ℕ) (was calm : Bool) (transfer : Transfer)
    → editing_of s list start was calm ≡ old → OnErr r (list.capacity < length (all_packed list.changes ++ packed (inverse_of s (change_of s transfer))))
    → OnErr r (old.room < room_for (cost_of (inverse_of old.now (change_of old.now transfer))))
short-from_transfer r old s list start was calm transfer e =
    subst
    (λ (f : EditingView). OnErr r (list.capacity < length (all_packed list.changes ++ packed (inverse_of s (change_of s transfer))))
    → OnErr r (f.room < room_for (cost_of (inverse_of f.now (change_of f.now transfer))))) e
    (short-from_act r (editing_of s list start was calm) s list start was calm (change_of s transfer) refl)

pub CanUndo-from_transfer : {T E : Type 0} (r : Result T E) (old : EditingView) (s s' : Snapshot) (list list' : ChangeListView) (start : ℕ) (was calm : Bool) (transfer : Transfer)
    → editing_of s list start was calm ≡ old → IsSized s → CanTransfer old.now transfer → (start ≤ length list.changes) × CanUndo s (drop start list.changes)
    → OnOk r (s' ≡ applied s (change_of s transfer)) → OnOk r (list'.changes ≡ list.changes ++ inverse_of s (change_of s transfer) ∷ [])
    → OnErr r (s' ≡ s) → OnErr r (list' ≡ list)
    → (start ≤ length list'.changes) × CanUndo s' (drop start list'.changes)
CanUndo-from_transfer r old s s' list list' start was calm transfer e sized can =
    let here = subst (λ (f : EditingView). CanTransfer f.now transfer) (sym e) can in
    CanUndo-from_act r (editing_of s list start was calm) s s' list list' start was calm (change_of s transfer) refl sized (transfer_fits s transfer sized here)

-- A transfer leaves the line-up.
transfer_still : (s : Snapshot) (transfer : Transfer) → moves_lineup (change_of s transfer) ≡ false
transfer_still s (FromData task sink) = refl
transfer_still s (ToData source task) = refl

pub calm-from_transfer : {T E : Type 0} (r : Result T E) (old : EditingView) (s s' : Snapshot) (list list' : ChangeListView) (start : ℕ) (was calm : Bool) (transfer : Transfer)
    → editing_of s list start was calm ≡ old → IsSized s → CanTransfer old.now transfer → start ≤ length list.changes → list.capacity ≤ list'.capacity
    → OnOk r (s' ≡ applied s (change_of s transfer)) → OnOk r (list'.changes ≡ list.changes ++ inverse_of s (change_of s transfer) ∷ [])
    → OnErr r (s' ≡ s) → OnErr r (list' ≡ list)
    → (calm ≡ true → IsCalmSince (editing_of s list start was calm).outset s) → calm ≡ true → IsCalmSince (editing_of s' list' start was calm).outset s'
calm-from_transfer r old s s' list list' start was calm transfer e sized can within grows f g h k since =
    let here = subst (λ (edit : EditingView). CanTransfer edit.now transfer) (sym e) can in
    calm-from_still_act r (editing_of s list start was calm) s s' list list' start was calm (change_of s transfer) refl sized (transfer_fits s transfer sized here) within grows f g h k since
    (transfer_still s transfer)
