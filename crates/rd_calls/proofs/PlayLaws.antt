-- What a move leaves with its record, from the step in the middle that made it.
use Rattle.std.proofs.Common.{Bool, ◌≡◌, ◌∙◌, ℕ, ◌+◌, ◌*◌, ◌<◌, ◌≤◌, true, List, length, Some, Option, refl, ap, subst, sym, arith}
use Rattle.std.specs.Prelude.{Result, Ok, Err, OnErr, OnOk, nat_lt}
use Rattle.std.proofs.lemmas.Bool.{lt-ltb}
use Rattle.std.proofs.Common.{None, inl, inr}
use Rattle.std.proofs.lemmas.Bool.{cases_lt}
use Rattle.std.proofs.lemmas.List.{get_or_past}
use Rattle.std.specs.List.{concat}
use Rattle.rd_app.specs.Application.{Application, IsApplication}
use Rattle.rd_app.specs.declared.instr.Instr.{Instr}
use Rattle.rd_app.specs.declared.instr.Instr.TheVariants.{Group, Local, Queue, QueueSet, Stream, Message, Notify}
use Rattle.rd_app.specs.declared.instr.GroupCall.{GroupCall}
use Rattle.rd_app.specs.declared.instr.GroupCall.TheVariants as on_group
use Rattle.rd_group_calls.specs.GroupCalls.{group_call_cost}
use Rattle.rd_app.specs.declared.instr.NotifyCall.{NotifyCall}
use Rattle.rd_app.specs.declared.instr.NotifyCall.TheVariants as notify
use Rattle.rd_app.specs.declared.instr.NotifyCall.TheVariants.{Query, Take, ClearState, ClearValue}
use Rattle.rd_notify_calls.specs.NotifyCalls.{notify_call_cost}
use Rattle.rd_app.specs.declared.instr.QueueCall.{QueueCall}
use Rattle.rd_app.specs.declared.instr.QueueCall.TheVariants.{Send, Receive, Peek, Overwrite, Reset, Count, Spaces, AddToSet, RemoveFromSet}
use Rattle.rd_app.specs.declared.instr.StreamCall.{StreamCall}
use Rattle.rd_app.specs.declared.instr.StreamCall.TheVariants as on_stream
use Rattle.rd_app.specs.declared.instr.MessageCall.{MessageCall}
use Rattle.rd_app.specs.declared.instr.MessageCall.TheVariants as on_message
use Rattle.rd_stream_calls.specs.StreamCalls.{dropped_by_stream_call, stream_call_cost}
use Rattle.rd_stream_calls.specs.MessageCalls.{dropped_by_message_call, message_call_cost}
use Rattle.rd_queue.proofs.Offered.{items_short}
use Rattle.rd_queue.specs.QueueSnapshot.{QueueSnapshot}
use Rattle.rd_queue_calls.specs.QueueCalls.{dropped_by, queue_call_cost}
use Rattle.rd_state.proofs.Offered.{length-weight-le, message_in_sized, queue_sized, stream_in_sized, weight_bounds_bytes}
use Rattle.rd_state.specs.Objects.{no_message_buffer, no_queue, no_stream}
use Rattle.rd_stream.specs.MessageSnapshot.{MessageSnapshot}
use Rattle.rd_stream.specs.Messages.{bytes_held}
use Rattle.rd_stream.specs.StreamSnapshot.{StreamSnapshot}
use Rattle.rd_state.specs.Change.{Change}
use Rattle.rd_state.specs.Change.{weight_of}
use Rattle.rd_state.specs.EditingView.{Outset, EditingView, GivesUp, GoesOn, Reaches, added, begun_at, capacity_of, room_for}
use Rattle.rd_state.specs.PackedChanges.{all_packed}
use Rattle.rd_state.specs.Sizes.{IsSized}
use Rattle.rd_state.specs.Snapshot.{Snapshot, core_at, queue_at}
use Rattle.rd_state.specs.Undoing.{undone, CanUndo}
use Rattle.rd_state.specs.Valid.{IsValid}
use Rattle.rd_moves.specs.Moves.{PlainMove}
use Rattle.rd_moves.specs.declared.moves.Move.TheVariants.{Carried, Core, Tick}
use Rattle.rd_calls.specs.Step.{core_step, dropped_by_instr, dropped_by_move, dropped_by_task, instr_cost, last_tick, next_instr, record_limit, step, step_of_core, tick_step}
use Rattle.rd_calls.specs.Step.{IsPlayed, LeavesSettled}
use Rattle.rd_calls.specs.declared.play.TheConstants.{CHANGES_BESIDES, CHANGES_PER_CORE, CHANGES_PER_TASK, DROPPED_BYTES, MAX_RECORD_BYTES, MAX_RECORD_WEIGHT, SAVED_BYTES}
use Rattle.rd_calls.proofs.StepLaws.{IsSettled-step, IsSettled-tick, IsValid-step, IsValid-tick}

-- The items that a move drops are those of one queue at the most.
dropped_by_few : (s : Snapshot) (queue : ℕ) (call : QueueCall) → IsSized s → dropped_by s queue call ≤ DROPPED_BYTES
dropped_by_few s queue (Send end wait) sized = omega arith
dropped_by_few s queue (Receive wait) sized = omega arith
dropped_by_few s queue (Peek wait) sized = omega arith
dropped_by_few s queue Overwrite sized = omega arith
dropped_by_few s queue Reset sized = elim (cases_lt queue (length s.objects.queues)) [
  | inl there ↦ items_short (queue_at s queue) (queue_sized s queue sized there).0
  | inr past ↦ omega (arith, ap (λ (q : QueueSnapshot). length (concat q.items)) (get_or_past s.objects.queues queue no_queue past))
]
dropped_by_few s queue Count sized = omega arith
dropped_by_few s queue Spaces sized = omega arith
dropped_by_few s queue (AddToSet queue_set) sized = omega arith
dropped_by_few s queue (RemoveFromSet queue_set) sized = omega arith

dropped_by_stream_few : (s : Snapshot) (stream : ℕ) (call : StreamCall) → IsSized s → dropped_by_stream_call s stream call ≤ DROPPED_BYTES
dropped_by_stream_few s stream (on_stream.Write wait) sized = omega arith
dropped_by_stream_few s stream (on_stream.Read room wait) sized = omega arith
dropped_by_stream_few s stream on_stream.Reset sized =
    elim (cases_lt stream (length s.objects.streams)) [
      | inl there ↦ let size = (stream_in_sized (length s.tasks) s.objects stream sized.objects there).0 in
          omega (arith, size.room, size.few)
      | inr past ↦ omega (arith, ap (λ (b : StreamSnapshot). length b.bytes) (get_or_past s.objects.streams stream no_stream past))
    ]
dropped_by_stream_few s stream (on_stream.SetTrigger trigger) sized = omega arith
dropped_by_stream_few s stream on_stream.Count sized = omega arith
dropped_by_stream_few s stream on_stream.Spaces sized = omega arith

dropped_by_message_few : (s : Snapshot) (message : ℕ) (call : MessageCall) → IsSized s → dropped_by_message_call s message call ≤ DROPPED_BYTES
dropped_by_message_few s message (on_message.Write wait) sized = omega arith
dropped_by_message_few s message (on_message.Read room wait) sized = omega arith
dropped_by_message_few s message on_message.Reset sized =
    elim (cases_lt message (length s.objects.messages)) [
      | inl there ↦ let size = (message_in_sized (length s.tasks) s.objects message sized.objects there).0 in
          omega (arith, size.room, size.few)
      | inr past ↦ omega (arith, ap (λ (b : MessageSnapshot). bytes_held b.messages) (get_or_past s.objects.messages message no_message_buffer past))
    ]
dropped_by_message_few s message on_message.Spaces sized = omega arith
dropped_by_message_few s message on_message.NextLength sized = omega arith

dropped_by_instr_few : (s : Snapshot) (instr : Instr) → IsSized s → dropped_by_instr s instr ≤ DROPPED_BYTES
dropped_by_instr_few s (Local instr) sized = omega arith
dropped_by_instr_few s (Queue queue call) sized = dropped_by_few s queue call sized
dropped_by_instr_few s (QueueSet queue_set call) sized = omega arith
dropped_by_instr_few s (Stream stream call) sized = dropped_by_stream_few s stream call sized
dropped_by_instr_few s (Message message call) sized = dropped_by_message_few s message call sized
dropped_by_instr_few s (Group group call) sized = omega arith
dropped_by_instr_few s (Notify call) sized = omega arith

dropped_by_task_few : (app : Application) (s : Snapshot) (running : Option ℕ) → IsSized s → dropped_by_task app s running ≤ DROPPED_BYTES
dropped_by_task_few app s None sized = omega arith
dropped_by_task_few app s (Some task) sized = dropped_by_instr_few s (next_instr app s task) sized

pub dropped_few : (app : Application) (s : Snapshot) (move : PlainMove) → IsSized s → dropped_by_move app s move ≤ DROPPED_BYTES
dropped_few app s (Core core) sized = dropped_by_task_few app s (core_at s core) sized
dropped_few app s Tick sized = omega arith
dropped_few app s (Carried carried) sized = omega arith

pub most_is_few : (app : Application) (s : Snapshot) (move : PlainMove) → IsSized s → record_limit app s move ≤ MAX_RECORD_WEIGHT
most_is_few app s move sized = omega (arith, dropped_few app s move sized, sized.tasks.few, sized.scheduling.few_cores)

-- Whatever the move, its record has room in so many bytes.
pub record_has_room : (app : Application) (s : Snapshot) (move : PlainMove) → IsSized s → room_for (record_limit app s move) ≤ MAX_RECORD_BYTES
record_has_room app s move sized = omega (arith, most_is_few app s move sized)

-- The record of a move has few changes.
pub played_few : (app : Application) (s s' : Snapshot) (move : PlainMove) (changes : List Change) → IsSized s → IsPlayed app s move s' changes → length changes < 65536
played_few app s s' move changes sized played = omega (arith, length-weight-le changes, played.small, most_is_few app s move sized)

-- where a move leads, and at what cost
pub record Leads (app : Application) (s : Snapshot) (move : PlainMove) (target : Snapshot) (cost : ℕ) : Type 0 where
  pub step : step app s move ≡ Ok target
  pub few : cost ≤ record_limit app s move
  pub most_few : record_limit app s move ≤ MAX_RECORD_WEIGHT
  pub valid : (s' : Snapshot) → s' ≡ target → IsSized s' → IsValid app s'
  pub settled : (s' : Snapshot) → s' ≡ target → LeavesSettled app s move s'

goes_on : (app : Application) (s s' : Snapshot) (move : PlainMove) (target : Snapshot) (cost : ℕ) (begun made : EditingView) (before changes : List Change) (room : ℕ) (calm : Bool)
    → begun ≡ begun_at s before room calm → Leads app s move target cost → IsSized s' → Reaches begun made target cost → s' ≡ made.now → GoesOn made changes
    → IsPlayed app s move s' (added before changes)
goes_on app s s' move target cost begun made before changes room calm is leads sized comes now goes =
    let outset : made.outset ≡ (begun_at s before room calm).outset = comes.outset ∙ ap (λ (edit : EditingView). edit.outset) is in
    let there : s' ≡ target = now ∙ comes.now in
    let Q : Snapshot → Outset → Type 0 = λ t b. (undone t (added b.recorded changes) ≡ b.state) × CanUndo t (added b.recorded changes)
    × (weight_of (added b.recorded changes) ≡ made.weight) in
    let here : Q s' (begun_at s before room calm).outset =
    subst (λ (t : Snapshot). Q t (begun_at s before room calm).outset) (sym now)
    (subst (λ (b : Outset). Q made.now b) outset (goes.leads_back, goes.can_undo, goes.weight)) in
    record {
      step = leads.step ∙ ap (λ (t : Snapshot). Ok t) (sym there);
      leads_back = here.0;
      can_undo = here.1;
      small = omega (arith, here.2, comes.weight, ap (λ (edit : EditingView). edit.weight) is, leads.few);
      packable =
          omega (
            arith,
            weight_bounds_bytes (added before changes),
            length-weight-le (added before changes),
            here.2,
            comes.weight,
            ap (λ (edit : EditingView). edit.weight) is,
            leads.few,
            leads.most_few,
          );
      valid = leads.valid s' there sized;
      settled = leads.settled s' there;
    }

-- the same, seen by what the move returns
pub IsPlayed-from : {T E : Type 0} (r : Result T E) (app : Application) (s s' : Snapshot) (move : PlainMove) (target : Snapshot) (cost : ℕ) (begun made : EditingView)
    (before changes : List Change) (room : ℕ) (calm : Bool) → begun ≡ begun_at s before room calm → Leads app s move target cost → IsSized s'
    → OnOk r (Reaches begun made target cost) → OnOk r (s' ≡ made.now) → OnOk r (GoesOn made changes)
    → OnOk r (IsPlayed app s move s' (added before changes))
IsPlayed-from r app s s' move target cost begun made before changes room calm is leads sized =
    elim r as (λ q. OnOk q (Reaches begun made target cost) → OnOk q (s' ≡ made.now) → OnOk q (GoesOn made changes)
    → OnOk q (IsPlayed app s move s' (added before changes)))
    [ Ok x ↦ λ f g h. goes_on app s s' move target cost begun made before changes room calm is leads sized f g h | Err y ↦ λ f g h. tt ]

-- What a call costs is little, but for what a reset drops.
queue_call_cost_few : (s : Snapshot) (queue : ℕ) (call : QueueCall) → queue_call_cost s queue call ≤ 330 + dropped_by s queue call
queue_call_cost_few s queue (Send end wait) = omega arith
queue_call_cost_few s queue (Receive wait) = omega arith
queue_call_cost_few s queue (Peek wait) = omega arith
queue_call_cost_few s queue Overwrite = omega arith
queue_call_cost_few s queue Reset = omega arith
queue_call_cost_few s queue Count = omega arith
queue_call_cost_few s queue Spaces = omega arith
queue_call_cost_few s queue (AddToSet queue_set) = omega arith
queue_call_cost_few s queue (RemoveFromSet queue_set) = omega arith

notify_call_cost_few : (call : NotifyCall) → notify_call_cost call ≤ 4
notify_call_cost_few (notify.Notify target index value action) = omega arith
notify_call_cost_few (Query target index value action) = omega arith
notify_call_cost_few (Take index exit wait) = omega arith
notify_call_cost_few (notify.Wait index entry_bits exit_bits wait) = omega arith
notify_call_cost_few (ClearState target index) = omega arith
notify_call_cost_few (ClearValue target index bits) = omega arith

stream_call_cost_few : (s : Snapshot) (stream : ℕ) (call : StreamCall) → stream_call_cost s stream call ≤ 521 + dropped_by_stream_call s stream call
stream_call_cost_few s stream (on_stream.Write wait) = omega arith
stream_call_cost_few s stream (on_stream.Read room wait) = omega arith
stream_call_cost_few s stream on_stream.Reset = omega arith
stream_call_cost_few s stream (on_stream.SetTrigger trigger) = omega arith
stream_call_cost_few s stream on_stream.Count = omega arith
stream_call_cost_few s stream on_stream.Spaces = omega arith

message_call_cost_few : (s : Snapshot) (message : ℕ) (call : MessageCall) → message_call_cost s message call ≤ 521 + dropped_by_message_call s message call
message_call_cost_few s message (on_message.Write wait) = omega arith
message_call_cost_few s message (on_message.Read room wait) = omega arith
message_call_cost_few s message on_message.Reset = omega arith
message_call_cost_few s message on_message.Spaces = omega arith
message_call_cost_few s message on_message.NextLength = omega arith

group_call_cost_few : (s : Snapshot) (call : GroupCall) → group_call_cost s call ≤ 2 + 3 * length s.tasks
group_call_cost_few s (on_group.Set bits) = omega arith
group_call_cost_few s (on_group.Clear bits) = omega arith
group_call_cost_few s on_group.Get = omega arith
group_call_cost_few s (on_group.Wait bits wait_for on_met wait) = omega arith
group_call_cost_few s (on_group.Sync set bits wait) = omega arith

instr_cost_few : (s : Snapshot) (instr : Instr) → instr_cost s instr ≤ 525 + 3 * length s.tasks + dropped_by_instr s instr
instr_cost_few s (Local instr) = omega arith
instr_cost_few s (Queue queue call) = omega (arith, queue_call_cost_few s queue call)
instr_cost_few s (QueueSet queue_set call) = omega arith
instr_cost_few s (Stream stream call) = omega (arith, stream_call_cost_few s stream call)
instr_cost_few s (Message message call) = omega (arith, message_call_cost_few s message call)
instr_cost_few s (Group group call) = omega (arith, group_call_cost_few s call)
instr_cost_few s (Notify call) = omega (arith, notify_call_cost_few call)

pub Leads-core : (app : Application) (s : Snapshot) (core task : ℕ) → IsApplication app → IsValid app s → core < length s.cores → core_at s core ≡ Some task
    → Leads app s (Core core) (core_step app s core task) (instr_cost s (next_instr app s task) + 1 + 3 * length s.cores)
Leads-core app s core task limits valid there e = record {
  step = ap (step_of_core app s core) e;
  few =
      let P : Option ℕ → Type 0 = λ running. instr_cost s (next_instr app s task) + 1 + 3 * length s.cores
      ≤ CHANGES_PER_TASK * length s.tasks + CHANGES_PER_CORE * length s.cores + CHANGES_BESIDES + SAVED_BYTES + dropped_by_task app s running in
      let here : P (Some task) = omega (arith, instr_cost_few s (next_instr app s task)) in
      subst P (sym e) here;
  most_few = most_is_few app s (Core core) valid.in_limits.sized;
  valid = λ s' is sized. IsValid-step app s s' core task limits valid there e is sized;
  settled = λ s' is. IsSettled-step app s s' core task limits valid there e is;
}

pub Leads-tick : (app : Application) (s : Snapshot) → IsApplication app → IsValid app s → s.tick < last_tick
    → Leads app s Tick (tick_step app s) (5 + 3 * length s.tasks + 3 * length s.cores)
Leads-tick app s limits valid later =
    let is_later : nat_lt s.tick last_tick ≡ true = lt-ltb s.tick last_tick later in record {
      step = rw is_later refl;
      few = omega arith;
      most_few = most_is_few app s Tick valid.in_limits.sized;
      valid = λ s' is sized. IsValid-tick app s s' limits valid is sized;
      settled = λ s' is. IsSettled-tick app s s' limits valid is;
    }

-- No memory is given back, whether the move was made or gave up.
pub grows-from : {T E : Type 0} (r : Result T E) (target : Snapshot) (cost : ℕ) (begun made : EditingView) → OnOk r (Reaches begun made target cost)
    → OnErr r (GivesUp begun made cost) → capacity_of begun ≤ capacity_of made
grows-from r target cost begun made =
    elim r as (λ q. OnOk q (Reaches begun made target cost) → OnErr q (GivesUp begun made cost) → capacity_of begun ≤ capacity_of made)
    [ Ok x ↦ λ f g. f.grows | Err y ↦ λ f g. g.grows ]

-- the room that was short, where the move gave up
pub short-from : {T E : Type 0} (r : Result T E) (app : Application) (s : Snapshot) (move : PlainMove) (target : Snapshot) (cost room : ℕ) (begun made : EditingView)
    → begun.room ≡ room → Leads app s move target cost → OnErr r (GivesUp begun made cost) → OnErr r (room < room_for (record_limit app s move))
short-from r app s move target cost room begun made same leads =
    elim r as (λ q. OnErr q (GivesUp begun made cost) → OnErr q (room < room_for (record_limit app s move)))
    [ Ok x ↦ λ f. tt | Err y ↦ λ f. omega (arith, same, f.short, leads.few) ]

-- the room that is left, where it was made
pub room-from : {T E : Type 0} (r : Result T E) (app : Application) (s : Snapshot) (move : PlainMove) (target : Snapshot) (cost room now : ℕ) (begun made : EditingView)
    → begun.room ≡ room → Leads app s move target cost → OnOk r (Reaches begun made target cost) → OnOk r (now ≡ made.room)
    → OnOk r (room ≤ now + room_for (record_limit app s move))
room-from r app s move target cost room now begun made same leads =
    elim r as (λ q. OnOk q (Reaches begun made target cost) → OnOk q (now ≡ made.room) → OnOk q (room ≤ now + room_for (record_limit app s move)))
    [ Ok x ↦ λ f g. omega (arith, same, f.room, g, leads.few) | Err y ↦ λ f g. tt ]

-- and where it gave up, once its changes are taken back
pub err_room-from : {T E : Type 0} (r : Result T E) (cost : ℕ) (begun made now : EditingView) → begun.outset.recorded ≡ begun.changes → capacity_of now ≡ capacity_of made
    → OnErr r (GivesUp begun made cost) → OnErr r (now.changes ≡ made.outset.recorded) → OnErr r (begun.room ≤ now.room)
err_room-from r cost begun made now here capacity =
    elim r as (λ q. OnErr q (GivesUp begun made cost) → OnErr q (now.changes ≡ made.outset.recorded) → OnErr q (begun.room ≤ now.room)) [
      | Ok x ↦ λ f g. tt
      | Err y ↦ λ f g.
          let same : now.changes ≡ begun.changes = g ∙ ap (λ (b : Outset). b.recorded) f.outset ∙ here in
          omega (arith, ap (λ (changes : List Change). length (all_packed changes)) same, f.grows, capacity)
    ]
