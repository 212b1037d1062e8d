-- Tasks that sleep: whoever waits as the reader or the writer of a buffer, and what leaves it as it is, but for its entries.
use Rattle.rd_state.specs.declared.phase.Place.TheVariants as sort
use Rattle.std.proofs.Common.{◌+◌, ◌<◌, ◌∙◌, ◌≡◌, ◌≢◌, ◌∷◌, Bool, List, None, Option, Some, [], ap, arith, cond, false, get_or, inl, inr, length}
use Rattle.std.proofs.Common.{refl, set, subst, sym, true, ℕ}
use Rattle.std.specs.Prelude.{nat_eq, position, slice_get}
use Rattle.std.specs.Option.{option_and_then, option_to_list}
use Rattle.std.proofs.lemmas.Bool.{cases_eq, cases_lt}
use Rattle.std.proofs.lemmas.Bool.Decides.{nat_tests}
use Rattle.std.proofs.lemmas.List.{get_or-set_other, get_or_past, set_past}
use Rattle.rd_app.specs.Application.{Application, instr_at}
use Rattle.rd_app.specs.declared.instr.Operand.{Operand}
use Rattle.rd_notify.specs.Entries.{entry_idle, entry_notified, entry_waiting, is_left_alone}
use Rattle.rd_notify.specs.declared.action.Action.{Action}
use Rattle.rd_notify.specs.declared.action.Action.TheVariants.{LeaveValue}
use Rattle.rd_notify.specs.declared.entries.Entry.{Entry}
use Rattle.rd_stream.specs.Holders.{HoldersView, holder_of, no_holders, with_holder_of}
use Rattle.rd_stream.specs.MessageSnapshot.{MessageSnapshot}
use Rattle.rd_stream.specs.Messages.{with_message_holders}
use Rattle.rd_stream.specs.StreamSnapshot.{StreamSnapshot}
use Rattle.rd_stream.specs.Streams.{with_stream_holders}
use Rattle.rd_stream.specs.declared.side.Side.{Side}
use Rattle.rd_stream.specs.declared.side.Side.TheVariants.{Reader, Writer}
use Rattle.rd_state.specs.declared.phase.Held.{Held}
use Rattle.rd_state.specs.declared.phase.Held.TheVariants.{Stream, Message}
use Rattle.rd_state.specs.declared.phase.Listed.{Listed}
use Rattle.rd_state.specs.declared.phase.Listed.TheVariants.{Group, Queue, QueueSet}
use Rattle.rd_state.specs.declared.phase.Phase.TheVariants.{Failed, Run, Wait}
use Rattle.rd_state.specs.declared.phase.Place.{Place}
use Rattle.rd_state.specs.Objects.{ObjectsSnapshot, message_in, no_message_buffer, no_stream, numbers_in, stream_in}
use Rattle.rd_state.specs.Phases.{can_run, tries_again, waits_at, was_given}
use Rattle.rd_state.specs.Snapshot.{Snapshot, TaskSnapshot, core_at, no_task, task_at, with_task}
use Rattle.rd_state.specs.Valid.{FitsCall, IsValid, is_in_list, place_of_call, times_in_list}
use Rattle.rd_state.specs.Waiting.{IsHeld, entry_of, holder_at, holder_in, listed_at, objects_naming, waiting_at, waiting_in, with_holder}
use Rattle.rd_state.proofs.Offered.{one_if, times_in_list-cons}
use Rattle.rd_kernel.specs.Holding.{come_back, completed, completed_for, is_named, name_gone, waits_held, waits_where}
use Rattle.rd_kernel.specs.Outcomes.{concluded, returned}
use Rattle.rd_kernel.specs.Tasks.{entry_at, with_entry, with_phase, with_register}
use Rattle.rd_kernel.specs.Telling.{if_waiting_for, is_that_entry, notified, told}
use Rattle.rd_kernel.specs.Waking.{due_below, is_due, objects_left, objects_without, woken, woken_all, woken_at, woken_first}
use Rattle.rd_kernel.specs.declared.outcome.Outcome.{Outcome}
use Rattle.rd_kernel.specs.declared.outcome.Outcome.TheVariants.{Fails, Returns, ReturnsBoth, Waits}
use Rattle.rd_kernel.specs.declared.waking.Waking.{Waking}
use Rattle.rd_kernel.specs.declared.waking.Waking.TheVariants.{TriesAgain}
use Rattle.rd_kernel.proofs.CallLaws.{runs_on_core}
use Rattle.rd_kernel.proofs.ConsistentLaws.{read_same}
use Rattle.rd_kernel.proofs.EntryLaws.{EachStays-task}
use Rattle.rd_kernel.proofs.HeldStepLaws.{IsBeside}
use Rattle.rd_kernel.proofs.HolderLaws.{HolderGoes-naming, by_held}
use Rattle.rd_kernel.proofs.MovingLaws.{true_if_one, none_is_some, runner_waits_nowhere}
use Rattle.rd_kernel.proofs.TaskListLaws.{first_is_listed, other_none}
use Rattle.rd_kernel.proofs.WakingLaws.{AfterWaking-woken_all, due_is_listed}

-- ---- a task that is left asleep

-- what a task has besides its entries
abbrev pub but_entries : TaskSnapshot → TaskSnapshot
but_entries x = record x { entries = [] }

abbrev pub Sleeps : ℕ → Snapshot → Snapshot → Type 0
Sleeps task s p = but_entries (task_at p task) ≡ but_entries (task_at s task)

-- Another task changes.
pub Sleeps-other : (s : Snapshot) (task other : ℕ) (x : TaskSnapshot) → task ≢ other → Sleeps task s (with_task s other x)
Sleeps-other s task other x differs = ap but_entries (get_or-set_other s.tasks other task x no_task differs)

-- An entry of any task changes.
pub Sleeps-with_entry : (s : Snapshot) (task other index : ℕ) (entry : Entry) → Sleeps task s (with_entry s other index entry)
Sleeps-with_entry s task other index entry =
    EachStays-task but_entries s other (record (task_at s other) { entries = set (task_at s other).entries index entry }) refl task

-- Tasks are woken that it isn't one of.
pub Sleeps-woken_all : (priorities : List ℕ) (waking : Waking) (s : Snapshot) (task : ℕ) (tasks : List ℕ) → times_in_list task tasks ≡ 0
    → Sleeps task s (woken_all priorities waking s tasks)
Sleeps-woken_all priorities waking s task tasks none = ap but_entries ((AfterWaking-woken_all priorities waking s tasks).others task none)

-- The first of a list is woken in which it doesn't stand.
pub Sleeps-woken_first : (priorities : List ℕ) (s : Snapshot) (task : ℕ) (list : Listed) → times_in_list task (waiting_at s list) ≡ 0
    → Sleeps task s (woken_first priorities s list)
Sleeps-woken_first priorities s task list none =
    let first = option_to_list (slice_get (waiting_at s list) 0) in
    Sleeps-woken_all priorities TriesAgain s task first (elim (cases_lt 0 (times_in_list task first)) [
      | inl some ↦ absurd (omega (arith, none, first_is_listed (waiting_at s list) task some))
      | inr few ↦ omega (arith, few)
    ])

-- A task is told, which is another one, or waits for another entry.
untold_here : (s : Snapshot) (task other index : ℕ) → (task ≡ other → is_that_entry index (option_and_then entry_of (waits_at (task_at s other).phase)) ≡ false)
    → times_in_list task (if_waiting_for s other index) ≡ 0
untold_here s task other index elsewhere = elim (cases_eq task other) [
  | inl same ↦ ap (λ b. times_in_list task (cond b (other ∷ []) [])) (elsewhere same)
  | inr differs ↦
      elim (is_that_entry index (option_and_then entry_of (waits_at (task_at s other).phase))) as (λ b. times_in_list task (cond b (other ∷ []) []) ≡ 0) [
        | true ↦ omega (arith, times_in_list-cons task other [], other_none task other differs)
        | false ↦ refl
      ]
]

pub Sleeps-told : (priorities : List ℕ) (s : Snapshot) (task other index : ℕ) (entry : Entry)
    → (task ≡ other → is_that_entry index (option_and_then entry_of (waits_at (task_at s other).phase)) ≡ false)
    → Sleeps task s (told priorities s other index entry)
Sleeps-told priorities s task other index entry elsewhere =
    let tasks = if_waiting_for s other index in
    Sleeps-with_entry (woken_all priorities TriesAgain s tasks) task other index entry
    ∙ Sleeps-woken_all priorities TriesAgain s task tasks (untold_here s task other index elsewhere)

-- It waits at a place of a buffer, and so through entry 0 alone.
elsewhere_told : (s : Snapshot) (task other index : ℕ) (own : Held) → waits_at (task_at s task).phase ≡ Some (sort.Held own) → (task ≡ other → 0 ≡ index → ⊥)
    → task ≡ other → is_that_entry index (option_and_then entry_of (waits_at (task_at s other).phase)) ≡ false
elsewhere_told s task other index own waits apart same =
    let here : waits_at (task_at s other).phase ≡ Some (sort.Held own) = ap (λ n. waits_at (task_at s n).phase) (sym same) ∙ waits in
    let differs : 0 ≢ index = apart same in
    let test : nat_eq 0 index ≡ false = grind (arith, nat_tests, differs) in
    ap (λ o. is_that_entry index (option_and_then entry_of o)) here ∙ test

pub Sleeps-notified : (priorities : List ℕ) (s : Snapshot) (task other index value : ℕ) (action : Action) (own : Held)
    → waits_at (task_at s task).phase ≡ Some (sort.Held own) → (task ≡ other → 0 ≡ index → ⊥) → Sleeps task s (notified priorities s other index action value)
Sleeps-notified priorities s task other index value action own waits apart =
    let entry = entry_notified action value (entry_at s other index) in
    elim (is_left_alone action (entry_at s other index).state) as (λ b. Sleeps task s (cond b s (told priorities s other index entry))) [
      | true ↦ refl
      | false ↦ Sleeps-told priorities s task other index entry (elsewhere_told s task other index own waits apart)
    ]

-- ---- callers

-- Another task's call is over.
Sleeps-returned : (s : Snapshot) (task caller value : ℕ) → task ≢ caller → Sleeps task s (returned s caller value)
Sleeps-returned s task caller value differs =
    let one = with_register s caller 0 value in
    let two = with_phase one caller Run in
    Sleeps-other two task caller (record (task_at two caller) { pc = (task_at s caller).pc + 1 }) differs
    ∙ Sleeps-other one task caller (record (task_at one caller) { phase = Run }) differs
    ∙ Sleeps-other s task caller (record (task_at s caller) { registers = set (task_at s caller).registers 0 value }) differs

pub Sleeps-concluded : (s : Snapshot) (outcome : Outcome) (core task caller : ℕ) → task ≢ caller
    → Sleeps task s (concluded (record { state = s; outcome = outcome }) core caller)
Sleeps-concluded s (Returns value) core task caller differs = Sleeps-returned s task caller value differs
Sleeps-concluded s (ReturnsBoth value second) core task caller differs =
    Sleeps-returned (with_register s caller 1 second) task caller value differs
    ∙ Sleeps-other s task caller (record (task_at s caller) { registers = set (task_at s caller).registers 1 second }) differs
Sleeps-concluded s (Waits place deadline) core task caller differs =
    Sleeps-other s task caller (record (task_at s caller) { phase = Wait place deadline }) differs
Sleeps-concluded s (Fails cause) core task caller differs = Sleeps-other s task caller (record (task_at s caller) { phase = Failed cause }) differs

-- It leaves the objects.
pub concluded-objects : (s : Snapshot) (outcome : Outcome) (core caller : ℕ)
    → (concluded (record { state = s; outcome = outcome }) core caller).objects ≡ s.objects
concluded-objects s (Returns value) core caller = refl
concluded-objects s (ReturnsBoth value second) core caller = refl
concluded-objects s (Waits place deadline) core caller = refl
concluded-objects s (Fails cause) core caller = refl

-- A call of a buffer begins, or its caller begins to wait.
pub Sleeps-come_back : (s : Snapshot) (task caller : ℕ) (held : Held) → Sleeps task s (come_back s caller held)
Sleeps-come_back s task caller held =
    elim (tries_again (task_at s caller).phase) as (λ b. Sleeps task s (cond b (with_entry (name_gone s held caller) caller 0 (entry_idle
    (entry_at s caller 0))) s)) [
      | true ↦ gone (is_named caller (holder_at s held))
      | false ↦ refl
    ]
  where
    gone : (b : Bool) → Sleeps task s (with_entry (cond b (with_holder s held None) s) caller 0 (entry_idle (entry_at s caller 0)))
    gone true = Sleeps-with_entry (with_holder s held None) task caller 0 (entry_idle (entry_at s caller 0))
    gone false = Sleeps-with_entry s task caller 0 (entry_idle (entry_at s caller 0))

pub Sleeps-waits_held : (s : Snapshot) (task caller : ℕ) (held : Held) (wait : Operand) → Sleeps task s (waits_held s caller held wait).state
Sleeps-waits_held s task caller held wait = by_name (holder_at s held)
  where
    by_name : (o : Option ℕ) → Sleeps task s (waits_where o s caller held wait).state
    by_name None = Sleeps-with_entry (with_holder s held (Some caller)) task caller 0 (entry_waiting (entry_at s caller 0))
    by_name (Some other) = refl

-- A wait is completed where another is named, or nobody.
pub Sleeps-completed : (priorities : List ℕ) (s : Snapshot) (task : ℕ) (held : Held) → (holder_at s held ≡ Some task → ⊥)
    → Sleeps task s (completed priorities s held)
Sleeps-completed priorities s task held unnamed = by_name (holder_at s held) refl
  where
    by_name : (o : Option ℕ) → holder_at s held ≡ o → Sleeps task s (completed_for o priorities s held)
    by_name None e = refl
    by_name (Some other) e =
        Sleeps-told priorities s task other 0 (entry_notified LeaveValue 0 (entry_at s other 0)) (λ same. absurd (unnamed (e ∙ ap Some (sym same))))

-- ---- who waits at a place of a buffer

-- It stands in no list, is named by that place alone, and another task runs.
pub record IsSleeper (s : Snapshot) (task : ℕ) (own : Held) : Type 0 where
  pub waits : waits_at (task_at s task).phase ≡ Some (sort.Held own)
  pub unlisted : (list : Listed) → times_in_list task (waiting_at s list) ≡ 0
  pub named : (held : Held) → holder_at s held ≡ Some task → own ≡ held

held_same : (held other : Held) → Some (sort.Held held) ≡ Some (sort.Held other) → held ≡ other
held_same held other e = cc

pub IsSleeper-valid : (app : Application) (s : Snapshot) (task : ℕ) (own : Held) → IsValid app s → task < length s.tasks
    → waits_at (task_at s task).phase ≡ Some (sort.Held own) → IsSleeper s task own
IsSleeper-valid app s task own valid there waits =
    let phase = (task_at s task).phase in
    let instr = instr_at app task (task_at s task).pc in
    let call : place_of_call instr ≡ Some (sort.Held own) = subst (λ o. FitsCall instr o (tries_again phase) (was_given phase)) waits (valid.calls task there) in
    record {
      waits = waits;
      unlisted = λ list. valid.places list task there ∙ ap (λ o. one_if (is_in_list list (option_and_then listed_at o))) waits;
      named = λ held is. held_same own held (sym call ∙ ((valid.holders task there).named held is).0);
    }

-- Whoever is on a core is another.
pub runner_is_another : (app : Application) (s : Snapshot) (core caller task : ℕ) (own : Held) → IsValid app s → core_at s core ≡ Some caller
    → IsSleeper s task own → task ≢ caller
runner_is_another app s core caller task own valid on_core sleeper same = elim (cases_lt core (length s.cores)) [
  | inl has_core ↦
      let phase = (task_at s caller).phase in
      let nowhere = runner_waits_nowhere phase (true_if_one (can_run phase) (runs_on_core app s core caller valid has_core on_core)) in
      none_is_some (sort.Held own) (sym nowhere ∙ ap (λ n. waits_at (task_at s n).phase) (sym same) ∙ sleeper.waits)
  | inr past ↦ none_is_some caller (sym (get_or_past s.cores core None past) ∙ on_core)
]

-- Its time isn't up.
pub Sleeps-timed_out : (priorities : List ℕ) (s : Snapshot) (task : ℕ) → task < length s.tasks → is_due s.tick (task_at s task).phase ≡ false
    → Sleeps task s (woken_all priorities TriesAgain s (due_below s (length s.tasks)))
Sleeps-timed_out priorities s task there early =
    Sleeps-woken_all priorities TriesAgain s task (due_below s (length s.tasks)) (due_is_listed s (length s.tasks) task there ∙ ap one_if early)

-- ---- what buffers have besides, and whom they name

-- What is read of each member is what it was, whichever member was replaced, if any.
pub read_anyway : {A X : Type 0} (f : X → A) (xs : List X) (number other : ℕ) (now d : X) → f now ≡ f (get_or xs number d)
    → f (get_or (set xs number now) other d) ≡ f (get_or xs other d)
read_anyway f xs number other now d same = elim (cases_lt number (length xs)) [
  | inl there ↦ read_same f xs number other now d there same
  | inr past ↦ ap (λ ys. f (get_or ys other d)) (set_past xs number now past)
]

nobody_there : (side : Side) (t : ℕ) → holder_of side (no_holders 0) ≡ Some t → ⊥
nobody_there Reader t e = none_is_some t e
nobody_there Writer t e = none_is_some t e

-- A place that names anybody is there.
pub holder_there : (o : ObjectsSnapshot) (held : Held) (t : ℕ) → holder_in o held ≡ Some t → IsHeld (numbers_in o) held
holder_there o (Stream stream side) t e = elim (cases_lt stream (length o.streams)) [
  | inl there ↦ there
  | inr past ↦ absurd (nobody_there side t (ap (λ (b : StreamSnapshot). holder_of side b.holders) (sym (get_or_past o.streams stream no_stream past)) ∙ e))
]
holder_there o (Message message side) t e = elim (cases_lt message (length o.messages)) [
  | inl there ↦ there
  | inr past ↦ absurd (nobody_there side t (ap (λ (b : MessageSnapshot). holder_of side b.holders) (sym
      (get_or_past o.messages message no_message_buffer past)) ∙ e))
]

-- Where a name is gone, nobody else is named.
named_before : (o : ObjectsSnapshot) (held other : Held) (t : ℕ) → IsHeld (numbers_in o) held → holder_in (objects_naming o held None) other ≡ Some t
    → holder_in o other ≡ Some t
named_before o held other t there e =
    let goes = HolderGoes-naming o held None there in
    by_held other held (λ same. absurd (none_is_some t (sym goes.here ∙ ap (holder_in (objects_naming o held None)) (sym same) ∙ e)))
    (λ apart. sym (goes.others other apart) ∙ e)

-- A call that begins names nobody.
pub named_before_call : (s : Snapshot) (caller : ℕ) (held other : Held) (t : ℕ) → holder_at (come_back s caller held) other ≡ Some t
    → holder_at s other ≡ Some t
named_before_call s caller held other t =
    elim (tries_again (task_at s caller).phase) as (λ b.
    holder_at (cond b (with_entry (name_gone s held caller) caller 0 (entry_idle (entry_at s caller 0))) s) other ≡ Some t → holder_at s other ≡ Some t) [
      | true ↦ by_name (holder_at s held) refl
      | false ↦ λ e. e
    ]
  where
    by_name : (o : Option ℕ) → holder_at s held ≡ o → holder_at (cond (is_named caller o) (with_holder s held None) s) other ≡ Some t
        → holder_at s other ≡ Some t
    by_name None is = λ e. e
    by_name (Some named) is = elim (nat_eq named caller) as (λ b. holder_at (cond b (with_holder s held None) s) other ≡ Some t → holder_at s other ≡ Some t) [
      | true ↦ named_before s.objects held other t (holder_there s.objects held named is)
      | false ↦ λ e. e
    ]

-- Waking leaves all buffers.
objects_left-streams : (o : ObjectsSnapshot) (place : Place) (task : ℕ) → (objects_left o place task).streams ≡ o.streams
objects_left-streams o (sort.Listed list) task = without list (position (λ member. nat_eq member task) (waiting_in o list))
  where
    without : (list : Listed) (index : Option ℕ) → (objects_without o list index).streams ≡ o.streams
    without list None = refl
    without (Queue queue part) (Some index) = refl
    without (QueueSet number) (Some index) = refl
    without (Group number) (Some index) = refl
objects_left-streams o (sort.Held held) task = refl
objects_left-streams o (sort.Entry index) task = refl

objects_left-messages : (o : ObjectsSnapshot) (place : Place) (task : ℕ) → (objects_left o place task).messages ≡ o.messages
objects_left-messages o (sort.Listed list) task = without list (position (λ member. nat_eq member task) (waiting_in o list))
  where
    without : (list : Listed) (index : Option ℕ) → (objects_without o list index).messages ≡ o.messages
    without list None = refl
    without (Queue queue part) (Some index) = refl
    without (QueueSet number) (Some index) = refl
    without (Group number) (Some index) = refl
objects_left-messages o (sort.Held held) task = refl
objects_left-messages o (sort.Entry index) task = refl

woken_at-streams : (priorities : List ℕ) (s : Snapshot) (task : ℕ) (o : Option Place)
    → (woken_at priorities TriesAgain s task o).objects.streams ≡ s.objects.streams
woken_at-streams priorities s task None = refl
woken_at-streams priorities s task (Some place) = objects_left-streams s.objects place task

woken_at-messages : (priorities : List ℕ) (s : Snapshot) (task : ℕ) (o : Option Place)
    → (woken_at priorities TriesAgain s task o).objects.messages ≡ s.objects.messages
woken_at-messages priorities s task None = refl
woken_at-messages priorities s task (Some place) = objects_left-messages s.objects place task

woken_all-streams : (priorities : List ℕ) (s : Snapshot) (tasks : List ℕ) → (woken_all priorities TriesAgain s tasks).objects.streams ≡ s.objects.streams
woken_all-streams priorities s [] = refl
woken_all-streams priorities s (first ∷ rest) =
    woken_all-streams priorities (woken priorities TriesAgain s first) rest ∙ woken_at-streams priorities s first (waits_at (task_at s first).phase)

woken_all-messages : (priorities : List ℕ) (s : Snapshot) (tasks : List ℕ) → (woken_all priorities TriesAgain s tasks).objects.messages ≡ s.objects.messages
woken_all-messages priorities s [] = refl
woken_all-messages priorities s (first ∷ rest) =
    woken_all-messages priorities (woken priorities TriesAgain s first) rest ∙ woken_at-messages priorities s first (waits_at (task_at s first).phase)

-- What a buffer has besides its places is beside all naming and waking.
pub IsBeside-stream : {A : Type 0} (f : StreamSnapshot → A) (priorities : List ℕ) (number : ℕ)
    → ((b : StreamSnapshot) (holders : HoldersView) → f (with_stream_holders b holders) ≡ f b) → IsBeside (λ o. f (stream_in o number)) priorities
IsBeside-stream f priorities number ignores = record { naming = naming; waking = waking }
  where
    naming : (o : ObjectsSnapshot) (held : Held) (who : Option ℕ) → f (stream_in (objects_naming o held who) number) ≡ f (stream_in o number)
    naming o (Stream stream side) who =
        let was = stream_in o stream in
        let holders = with_holder_of side who was.holders in
        read_anyway f o.streams stream number (with_stream_holders was holders) no_stream (ignores was holders)
    naming o (Message message side) who = refl

    waking : (s : Snapshot) (tasks : List ℕ) → f (stream_in (woken_all priorities TriesAgain s tasks).objects number) ≡ f (stream_in s.objects number)
    waking s tasks = ap (λ bs. f (get_or bs number no_stream)) (woken_all-streams priorities s tasks)

pub IsBeside-message : {A : Type 0} (f : MessageSnapshot → A) (priorities : List ℕ) (number : ℕ)
    → ((b : MessageSnapshot) (holders : HoldersView) → f (with_message_holders b holders) ≡ f b) → IsBeside (λ o. f (message_in o number)) priorities
IsBeside-message f priorities number ignores = record { naming = naming; waking = waking }
  where
    naming : (o : ObjectsSnapshot) (held : Held) (who : Option ℕ) → f (message_in (objects_naming o held who) number) ≡ f (message_in o number)
    naming o (Stream stream side) who = refl
    naming o (Message message side) who =
        let was = message_in o message in
        let holders = with_holder_of side who was.holders in
        read_anyway f o.messages message number (with_message_holders was holders) no_message_buffer (ignores was holders)

    waking : (s : Snapshot) (tasks : List ℕ) → f (message_in (woken_all priorities TriesAgain s tasks).objects number) ≡ f (message_in s.objects number)
    waking s tasks = ap (λ bs. f (get_or bs number no_message_buffer)) (woken_all-messages priorities s tasks)
