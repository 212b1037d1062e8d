-- Calls of event groups leave what makes a state valid, and what is none of theirs.
use Rattle.rd_app.specs.declared.instr.Instr.TheVariants as instr
use Rattle.rd_state.specs.declared.phase.Place.TheVariants as sort
use Rattle.std.proofs.Common.{◌+◌, ◌<◌, ◌∙◌, ◌≡◌, ◌≤◌, ◌++◌, ◌∷◌, Bool, List, None, Option, Some, [], ap, arith, cond, false, length, map, refl, set, subst}
use Rattle.std.proofs.Common.{sym, true, ℕ}
use Rattle.std.proofs.lemmas.Bool.{false≢true}
use Rattle.std.proofs.lemmas.List.{length-set}
use Rattle.std.proofs.lemmas.List.Elements.{All-same}
use Rattle.std.specs.Prelude.{◌&&◌, ◌||◌, All, Result, Ok, Err, IfOk, OnOk, bit_or}
use Rattle.rd_group.proofs.Offered.{All-met_tasks}
use Rattle.rd_bytes.specs.declared.no_memory.NoMemory.{NoMemory}
use Rattle.rd_group.specs.GroupSnapshot.{GroupSnapshot}
use Rattle.rd_group.specs.Groups.{bits_left, met_by, met_tasks, with_bits, with_waiters}
use Rattle.rd_group.specs.Wishes.{is_met, left_of, without_bits}
use Rattle.rd_group.specs.declared.wish.Wish.{Wish}
use Rattle.rd_app.specs.Application.{Application, priorities_of}
use Rattle.rd_app.specs.declared.instr.GroupCall.{GroupCall}
use Rattle.rd_app.specs.declared.instr.GroupCall.TheVariants.{Set, Clear, Get, Wait, Sync}
use Rattle.rd_app.specs.declared.instr.Instr.{Instr}
use Rattle.rd_app.specs.declared.instr.Operand.{Operand}
use Rattle.rd_state.specs.declared.phase.Cause.TheVariants.{BadBits}
use Rattle.rd_state.specs.declared.phase.Held.{Held}
use Rattle.rd_state.specs.declared.phase.Held.TheVariants.{Stream, Message}
use Rattle.rd_state.specs.declared.phase.Listed.{Listed}
use Rattle.rd_state.specs.declared.phase.Listed.TheVariants.{Group, Queue, QueueSet}
use Rattle.rd_state.specs.EditingView.{EditingView}
use Rattle.rd_state.specs.Objects.{ObjectsSnapshot, group_in, no_group, objects_with_group, shapes_in}
use Rattle.rd_state.specs.Phases.{can_run, given_bits, is_first}
use Rattle.rd_state.specs.Snapshot.{Snapshot, TaskSnapshot, group_at, task_at, with_bits_at, with_group}
use Rattle.rd_state.specs.Sizes.{IsSized}
use Rattle.rd_state.specs.Valid.{IsValid, entry_of_call, place_of_call, times_to_run, times_in_list}
use Rattle.rd_state.specs.declared.phase.Phase.{Phase}
use Rattle.rd_state.specs.Waiting.{holder_in, waiting_at, waiting_in, with_waiting_at}
use Rattle.rd_state.proofs.Offered.{IsSizedList-waiting_at, group_count_shaped, times_in_list-cons}
use Rattle.rd_kernel.specs.declared.outcome.Outcome.{Outcome}
use Rattle.rd_kernel.specs.declared.outcome.Outcome.TheVariants.{Fails, Returns, ReturnsBoth, Waits}
use Rattle.rd_kernel.specs.declared.waking.Waking.TheVariants.{IsGiven}
use Rattle.rd_kernel.specs.Outcomes.{Called, DoesCall, IsCalling, call_returns, concluded}
use Rattle.rd_kernel.specs.Tasks.{PcStays}
use Rattle.rd_kernel.specs.Telling.{waits_once}
use Rattle.rd_kernel.specs.Waking.{deadline_of, may_wait, operand_value, woken_all}
use Rattle.rd_kernel.proofs.Offered.{AfterWaking, IsConsistent-contents, IsConsistent-given, IsConsistent-valid, true_if_one, room_for_all, room_in_list, runner_waits_nowhere}
use Rattle.rd_kernel.proofs.Offered.{AfterWaking-woken_all, ContentsChange, EachStays-woken_all, EntriesStay, EntriesStay-woken_all, IsConsistent, IsOn, IsOn-contents}
use Rattle.rd_kernel.proofs.Offered.{IsOn-fails, IsOn-given, IsOn-outside, IsOn-returns, IsOn-waits_in_group, IsSleeper, NamesTasks-sized, PcsStay, RunsInstr}
use Rattle.rd_kernel.proofs.Offered.{Sleeps, Sleeps-woken_all, all_have_time_left, both, read_same, waits_is_task}
use Rattle.rd_group_calls.specs.GroupCalls.{are_bad_bits, bits_at, bits_given, bits_set, clear_outcome, fails_for_bits, given_or, group_outcome, is_bad_wish}
use Rattle.rd_group_calls.specs.GroupCalls.{meeting_wish, met_or_waits, set_outcome, sync_outcome, sync_tried, wait_outcome, waits_or_returns, waits_with_wish, wished}

-- ---- who is met

-- They are among those who wait.
met_or_other : (b : Bool) (t task : ℕ) (tasks others : List ℕ) → times_in_list t tasks ≤ times_in_list t others
    → times_in_list t (cond b (task ∷ tasks) tasks) ≤ times_in_list t (task ∷ others)
met_or_other true t task tasks others few = omega (arith, few, times_in_list-cons t task tasks, times_in_list-cons t task others)
met_or_other false t task tasks others few = omega (arith, few, times_in_list-cons t task others)

pub times_met : (bits : ℕ) (tasks : List ℕ) (wishes : List Wish) (t : ℕ) → times_in_list t (met_tasks bits tasks wishes) ≤ times_in_list t tasks
times_met bits [] wishes t = omega arith
times_met bits (task ∷ tasks) [] t = omega arith
times_met bits (task ∷ tasks) (wish ∷ wishes) t =
    met_or_other (is_met bits wish) t task (met_tasks bits tasks wishes) tasks (times_met bits tasks wishes t)

-- Where they are the tasks that a list has, they are tasks, and the ready list has room for all of them.
pub met_are_tasks : (app : Application) (s : Snapshot) (group bits : ℕ) (tasks : List ℕ) → IsValid app s → group < length s.objects.groups
    → tasks ≡ met_by (group_at s group) bits → All (λ t. t < length s.tasks) tasks
met_are_tasks app s group bits tasks valid there is =
    let g = group_at s group in
    let sized = IsSizedList-waiting_at s (Group group) valid.in_limits.sized there in
    All-same (λ t. t < length s.tasks) tasks (met_by g bits) is (All-met_tasks (λ t. t < length s.tasks) bits g.waiting g.wishes sized.0)

pub room_for_met : (app : Application) (s : Snapshot) (group bits : ℕ) (tasks : List ℕ) → IsValid app s → group < length s.objects.groups
    → tasks ≡ met_by (group_at s group) bits → length s.ready + length tasks ≤ length s.tasks
room_for_met app s group bits tasks valid there is =
    let g = group_at s group in
    room_for_all app s (Group group) tasks valid (met_are_tasks app s group bits tasks valid there is)
    (λ t. omega (arith, ap (times_in_list t) is, times_met bits g.waiting g.wishes t))

-- ---- what a group holds

-- Its bits are none of what makes a state valid.
group_contents : (o : ObjectsSnapshot) (group : ℕ) (now : GroupSnapshot) → group < length o.groups → now.waiting ≡ (group_in o group).waiting
    → ContentsChange o (objects_with_group o group now)
group_contents o group now there same = record {
  waiting = waiting;
  holders = named;
  shapes = ap (λ (count : ℕ). record (shapes_in o) { groups = count }) (length-set o.groups group now);
}
  where
    waiting : (place : Listed) → waiting_in (objects_with_group o group now) place ≡ waiting_in o place
    waiting (Queue queue list) = refl
    waiting (QueueSet queue_set) = refl
    waiting (Group other) = read_same (λ (g : GroupSnapshot). g.waiting) o.groups group other now no_group there same

    named : (held : Held) → holder_in (objects_with_group o group now) held ≡ holder_in o held
    named (Stream stream side) = refl
    named (Message message side) = refl

-- ---- what stays, step by step

-- It stays when the bits of a group change, when the caller comes to wait at one, and when those whom bits meet at the beginning of the
-- call are given these.
pub record StaysByGroups (P : Snapshot → Type 0) (priorities : List ℕ) (s : Snapshot) (task : ℕ) : Type 0 where
  pub bits : (p : Snapshot) (group bits : ℕ) → P p → P (with_bits_at p group bits)
  pub waits : (p : Snapshot) (group : ℕ) (wish : Wish) (wait : Operand) → P p → P (waits_with_wish p task group wish wait).state
  pub gives : (group bits : ℕ) → P (woken_all priorities (IsGiven bits) s (met_by (group_at s group) bits))

set_stays : (P : Snapshot → Type 0) (priorities : List ℕ) (s : Snapshot) (task group bits : ℕ) → StaysByGroups P priorities s task
    → P (bits_set priorities s group bits)
set_stays P priorities s task group bits by =
    let now = bit_or (bits_at s group) bits in
    by.bits (woken_all priorities (IsGiven now) s (met_by (group_at s group) now)) group (bits_left (group_at s group) now) (by.gives group now)

waits_stays : (P : Snapshot → Type 0) (priorities : List ℕ) (s p : Snapshot) (task group : ℕ) (wish : Wish) (wait : Operand) → StaysByGroups P priorities s task
    → P p → P (waits_or_returns p task group wish wait).state
waits_stays P priorities s p task group wish wait by at =
    elim (waits_once p task wait) as (λ b. P (cond b (waits_with_wish p task group wish wait) (call_returns p (bits_at p group))).state) [
      | true ↦ by.waits p group wish wait at
      | false ↦ at
    ]

wished_stays : (P : Snapshot → Type 0) (priorities : List ℕ) (s : Snapshot) (task group : ℕ) (wish : Wish) (wait : Operand) → StaysByGroups P priorities s task
    → P s → P (wished s task group wish wait).state
wished_stays P priorities s task group wish wait by at =
    elim (is_met (bits_at s group) wish) as (λ b. P (cond b (call_returns (with_bits_at s group (left_of (bits_at s group) wish)) (bits_at s group))
    (waits_or_returns s task group wish wait)).state) [
      | true ↦ by.bits s group (left_of (bits_at s group) wish) at
      | false ↦ waits_stays P priorities s s task group wish wait by at
    ]

met_stays : (P : Snapshot → Type 0) (priorities : List ℕ) (s p : Snapshot) (task group now : ℕ) (wish : Wish) (wait : Operand) → StaysByGroups P priorities s task
    → P p → P (met_or_waits p task group now wish wait).state
met_stays P priorities s p task group now wish wait by at =
    elim (is_met now wish) as (λ b. P (cond b (call_returns (with_bits_at p group (left_of (bits_at p group) wish)) now)
    (waits_or_returns p task group wish wait)).state) [
      | true ↦ by.bits p group (left_of (bits_at p group) wish) at
      | false ↦ waits_stays P priorities s p task group wish wait by at
    ]

-- A call that returns what its task was given, or fails for its bits, leaves the state.
given_stays : (P : Snapshot → Type 0) (s : Snapshot) (given : Option ℕ) (bad : Bool) (called : Called) → P s → P called.state
    → P (given_or given s (cond bad (fails_for_bits s) called)).state
given_stays P s (Some bits) bad called at done = at
given_stays P s None true called at done = at
given_stays P s None false called at done = done

pub call_stays : (P : Snapshot → Type 0) (priorities : List ℕ) (s : Snapshot) (task group : ℕ) (call : GroupCall) → StaysByGroups P priorities s task → P s
    → P (group_outcome priorities s task group call).state
call_stays P priorities s task group (Set bits) by at = given_stays P s None (are_bad_bits x) (call_returns (bits_set priorities s group x)
    (bits_left (group_at s group) (bit_or (bits_at s group) x))) at (set_stays P priorities s task group x by)
  where
    x : ℕ
    x = operand_value s task bits
call_stays P priorities s task group (Clear bits) by at =
    let x = operand_value s task bits in
    let left = without_bits (bits_at s group) x in
    given_stays P s None (are_bad_bits x) (call_returns (with_bits_at s group left) (bits_at s group)) at (by.bits s group left at)
call_stays P priorities s task group Get by at = at
call_stays P priorities s task group (Wait bits wait_for on_met wait) by at =
    let wish : Wish = record { bits = operand_value s task bits; wait_for = wait_for; on_met = on_met } in
    given_stays P s (given_bits (task_at s task).phase) (is_bad_wish wish.bits) (wished s task group wish wait) at
    (wished_stays P priorities s task group wish wait by at)
call_stays P priorities s task group (Sync sets bits wait) by at =
    let x = operand_value s task sets in
    let y = operand_value s task bits in
    let wish = meeting_wish y in
    let p = bits_set priorities s group x in
    let now = bit_or (bits_at s group) x in
    given_stays P s (given_bits (task_at s task).phase) (are_bad_bits x || is_bad_wish y) (sync_tried priorities s task group x wish wait) at
    (elim (is_first (task_at s task).phase) as (λ b. P (cond b (met_or_waits p task group now wish wait) (wished s task group wish wait)).state) [
      | true ↦ met_stays P priorities s p task group now wish wait by (set_stays P priorities s task group x by)
      | false ↦ wished_stays P priorities s task group wish wait by at
    ])

-- the instruction that each task stands at
pub group_call-pcs : (priorities : List ℕ) (s : Snapshot) (task group : ℕ) (call : GroupCall) → PcsStay s (group_outcome priorities s task group call).state
group_call-pcs priorities s task group call =
    call_stays (PcsStay s) priorities s task group call
    (record {
      bits = λ p number now stays t. stays t;
      waits = λ p number wish wait stays t. stays t;
      gives = λ number now t. EachStays-woken_all (λ (x : TaskSnapshot). x.pc) (λ x phase. refl) priorities (IsGiven now) s (met_by (group_at s number) now) t;
    }) (λ t. refl)

-- A call that leaves each task where it stands leaves its caller there.
pub pc_stays : (r : Result Outcome NoMemory) (old new : EditingView) (called : Called) (cost task : ℕ) → IfOk r (DoesCall old new called cost) → PcsStay old.now called.state
    → OnOk r (PcStays old.now new.now task)
pc_stays (Ok outcome) old new called cost task does stays = ap (λ (p : Snapshot). (task_at p task).pc) does.comes.now ∙ stays task
pc_stays (Err e) old new called cost task does stays = tt

-- the tick
concluded-tick : (s : Snapshot) (outcome : Outcome) (core task : ℕ) → (concluded (record { state = s; outcome = outcome }) core task).tick ≡ s.tick
concluded-tick s (Returns value) core task = refl
concluded-tick s (ReturnsBoth value second) core task = refl
concluded-tick s (Waits place deadline) core task = refl
concluded-tick s (Fails cause) core task = refl

pub group_call-tick : (priorities : List ℕ) (s : Snapshot) (core task group : ℕ) (call : GroupCall)
    → (concluded (group_outcome priorities s task group call) core task).tick ≡ s.tick
group_call-tick priorities s core task group call =
    let called = group_outcome priorities s task group call in
    concluded-tick called.state called.outcome core task
    ∙ call_stays (λ p. p.tick ≡ s.tick) priorities s task group call
    (record {
      bits = λ p number now same. same;
      waits = λ p number wish wait same. same;
      gives = λ number now. (AfterWaking-woken_all priorities (IsGiven now) s (met_by (group_at s number) now)).tick;
    }) refl

-- what is read of objects beside event groups
pub record IsBesideGroups {A : Type 0} (f : ObjectsSnapshot → A) (priorities : List ℕ) : Type 0 where
  pub waking : (s : Snapshot) (bits : ℕ) (tasks : List ℕ) → f (woken_all priorities (IsGiven bits) s tasks).objects ≡ f s.objects
  pub groups : (o : ObjectsSnapshot) (group : ℕ) (now : GroupSnapshot) → f (objects_with_group o group now) ≡ f o

pub group_call-beside : {A : Type 0} (f : ObjectsSnapshot → A) (priorities : List ℕ) (s : Snapshot) (task group : ℕ) (call : GroupCall)
    → IsBesideGroups f priorities → f (group_outcome priorities s task group call).state.objects ≡ f s.objects
group_call-beside f priorities s task group call is =
    call_stays (λ p. f p.objects ≡ f s.objects) priorities s task group call
    (record {
      bits = λ p number now same. is.groups p.objects number (with_bits (group_at p number) now) ∙ same;
      waits = λ p number wish wait same.
          is.groups p.objects number (with_waiters (group_at p number) ((group_at p number).waiting ++ task ∷ []) ((group_at p number).wishes ++ wish ∷ [])) ∙ same;
      gives = λ number now. is.waking s now (met_by (group_at s number) now);
    }) refl

-- the notification entries of all tasks
pub EntriesStay-group_call : (priorities : List ℕ) (s : Snapshot) (task group : ℕ) (call : GroupCall)
    → EntriesStay s (group_outcome priorities s task group call).state
EntriesStay-group_call priorities s task group call =
    call_stays (EntriesStay s) priorities s task group call
    (record {
      bits = λ p number now stays t. stays t;
      waits = λ p number wish wait stays t. stays t;
      gives = λ number now t. EntriesStay-woken_all priorities (IsGiven now) s (met_by (group_at s number) now) t;
    }) (λ t. refl)

-- Whoever waits at a buffer sleeps on.
pub group_call-sleeps : (priorities : List ℕ) (s : Snapshot) (task caller group : ℕ) (own : Held) (call : GroupCall) → IsSleeper s task own
    → Sleeps task s (group_outcome priorities s caller group call).state
group_call-sleeps priorities s task caller group own call sleeper =
    call_stays (Sleeps task s) priorities s caller group call
    (record {
      bits = λ p number now sleeps. sleeps;
      waits = λ p number wish wait sleeps. sleeps;
      gives = λ number now.
          let g = group_at s number in
          Sleeps-woken_all priorities (IsGiven now) s task (met_by g now)
          (omega (arith, times_met now g.waiting g.wishes task, sleeper.unlisted (Group number)));
    }) refl

-- ---- what makes a state valid

-- in the middle of a call of a group that is there
record IsOnGroup (app : Application) (s p : Snapshot) (task group : ℕ) : Type 0 where
  on : IsOn app s p task
  there : group < length p.objects.groups

IsOnGroup-bits : (app : Application) (s p : Snapshot) (task group bits : ℕ) → IsOnGroup app s p task group → IsOnGroup app s (with_bits_at p group bits) task group
IsOnGroup-bits app s p task group bits at =
    let now = with_bits (group_at p group) bits in
    record {
      on = IsOn-contents app s p task (objects_with_group p.objects group now) (group_contents p.objects group now at.there refl) at.on;
      there = omega (arith, at.there, length-set p.objects.groups group now);
    }

-- A call begins, at whichever try: its group is there.
begins : (app : Application) (s : Snapshot) (core task group : ℕ) (i : Instr) → RunsInstr app s core task i → entry_of_call i ≡ None
    → group < length s.objects.groups → IsOnGroup app s s task group
begins app s core task group i calls none there =
    record { on = IsOn-outside app s core task i calls none (NamesTasks-sized s calls.valid.in_limits.sized); there = there }

-- Bits are set.
IsOnGroup-set : (app : Application) (s : Snapshot) (core task group bits : ℕ) (i : Instr) → RunsInstr app s core task i → IsOnGroup app s s task group
    → IsOnGroup app s (bits_set (priorities_of app) s group bits) task group
IsOnGroup-set app s core task group bits i calls at =
    let g = group_at s group in
    let now = bit_or (bits_at s group) bits in
    let w = woken_all (priorities_of app) (IsGiven now) s (met_by g now) in
    let on : IsOn app s w task =
    IsOn-given app s s core task group now i (met_by g now) calls (λ t some. omega (arith, some, times_met now g.waiting g.wishes t))
    (λ t some. waits_is_task s (Group group) t calls.valid.in_limits.sized at.there some) at.on in
    let there : group < length w.objects.groups =
    omega (arith, at.there, group_count_shaped app s.objects calls.valid.in_limits.objects, group_count_shaped app w.objects on.consistent.shapes) in
    IsOnGroup-bits app s w task group (bits_left g now) (record { on = on; there = there })

-- A wish isn't met: the call waits, or returns.
or_returns : (app : Application) (s p : Snapshot) (core task group : ℕ) (wish : Wish) (wait : Operand) (i : Instr) → RunsInstr app s core task i
    → place_of_call i ≡ Some (sort.Listed (Group group)) → IsOnGroup app s p task group
    → IsConsistent app (all_have_time_left s.tick) (concluded (waits_or_returns p task group wish wait) core task)
or_returns app s p core task group wish wait i calls at_place at = by_wait (waits_once p task wait) refl
  where
    by_wait : (b : Bool) → waits_once p task wait ≡ b
        → IsConsistent app (all_have_time_left s.tick) (concluded (cond b (waits_with_wish p task group wish wait) (call_returns p (bits_at p group))) core task)
    by_wait true e =
        IsOn-waits_in_group app s p core task group ((group_at p group).wishes ++ wish ∷ []) wait i calls at_place at.there
        (both (is_first (task_at p task).phase) (may_wait p task wait) e).1 at.on
    by_wait false e = IsOn-returns app s p core task (bits_at p group) i calls at.on

wishes : (app : Application) (s : Snapshot) (core task group : ℕ) (wish : Wish) (wait : Operand) (i : Instr) → RunsInstr app s core task i
    → place_of_call i ≡ Some (sort.Listed (Group group)) → IsOnGroup app s s task group
    → IsConsistent app (all_have_time_left s.tick) (concluded (wished s task group wish wait) core task)
wishes app s core task group wish wait i calls at_place at =
    let left = left_of (bits_at s group) wish in
    elim (is_met (bits_at s group) wish) as (λ b. IsConsistent app (all_have_time_left s.tick)
    (concluded (cond b (call_returns (with_bits_at s group left) (bits_at s group)) (waits_or_returns s task group wish wait)) core task)) [
      | true ↦ IsOn-returns app s (with_bits_at s group left) core task (bits_at s group) i calls (IsOnGroup-bits app s s task group left at).on
      | false ↦ or_returns app s s core task group wish wait i calls at_place at
    ]

meets : (app : Application) (s p : Snapshot) (core task group now : ℕ) (wish : Wish) (wait : Operand) (i : Instr) → RunsInstr app s core task i
    → place_of_call i ≡ Some (sort.Listed (Group group)) → IsOnGroup app s p task group
    → IsConsistent app (all_have_time_left s.tick) (concluded (met_or_waits p task group now wish wait) core task)
meets app s p core task group now wish wait i calls at_place at =
    let left = left_of (bits_at p group) wish in
    elim (is_met now wish) as (λ b. IsConsistent app (all_have_time_left s.tick)
    (concluded (cond b (call_returns (with_bits_at p group left) now) (waits_or_returns p task group wish wait)) core task)) [
      | true ↦ IsOn-returns app s (with_bits_at p group left) core task now i calls (IsOnGroup-bits app s p task group left at).on
      | false ↦ or_returns app s p core task group wish wait i calls at_place at
    ]

-- A call returns what its task was given, or fails for its bits, or is done.
given_or_done : (app : Application) (s : Snapshot) (core task group : ℕ) (given : Option ℕ) (bad : Bool) (called : Called) (i : Instr) → RunsInstr app s core task i
    → IsOnGroup app s s task group → IsConsistent app (all_have_time_left s.tick) (concluded called core task)
    → IsConsistent app (all_have_time_left s.tick) (concluded (given_or given s (cond bad (fails_for_bits s) called)) core task)
given_or_done app s core task group (Some bits) bad called i calls at done = IsOn-returns app s s core task bits i calls at.on
given_or_done app s core task group None true called i calls at done = IsOn-fails app s s core task BadBits i calls at.on
given_or_done app s core task group None false called i calls at done = done

pub IsConsistent-group_call : (app : Application) (s : Snapshot) (core task group : ℕ) (call : GroupCall) → RunsInstr app s core task (instr.Group group call)
    → group < length s.objects.groups
    → IsConsistent app (all_have_time_left s.tick) (concluded (group_outcome (priorities_of app) s task group call) core task)
IsConsistent-group_call app s core task group (Set bits) calls there =
    let i = instr.Group group (Set bits) in
    let x = operand_value s task bits in
    let at = begins app s core task group i calls refl there in
    let left = bits_left (group_at s group) (bit_or (bits_at s group) x) in
    given_or_done app s core task group None (are_bad_bits x) (call_returns (bits_set (priorities_of app) s group x) left) i calls at
    (IsOn-returns app s (bits_set (priorities_of app) s group x) core task left i calls (IsOnGroup-set app s core task group x i calls at).on)
IsConsistent-group_call app s core task group (Clear bits) calls there =
    let i = instr.Group group (Clear bits) in
    let x = operand_value s task bits in
    let at = begins app s core task group i calls refl there in
    let left = without_bits (bits_at s group) x in
    given_or_done app s core task group None (are_bad_bits x) (call_returns (with_bits_at s group left) (bits_at s group)) i calls at
    (IsOn-returns app s (with_bits_at s group left) core task (bits_at s group) i calls (IsOnGroup-bits app s s task group left at).on)
IsConsistent-group_call app s core task group Get calls there =
    let i = instr.Group group Get in
    IsOn-returns app s s core task (bits_at s group) i calls (begins app s core task group i calls refl there).on
IsConsistent-group_call app s core task group (Wait bits wait_for on_met wait) calls there =
    let i = instr.Group group (Wait bits wait_for on_met wait) in
    let wish : Wish = record { bits = operand_value s task bits; wait_for = wait_for; on_met = on_met } in
    let at = begins app s core task group i calls refl there in
    given_or_done app s core task group (given_bits (task_at s task).phase) (is_bad_wish wish.bits) (wished s task group wish wait) i calls at
    (wishes app s core task group wish wait i calls refl at)
IsConsistent-group_call app s core task group (Sync sets bits wait) calls there =
    let i = instr.Group group (Sync sets bits wait) in
    let x = operand_value s task sets in
    let y = operand_value s task bits in
    let wish = meeting_wish y in
    let p = bits_set (priorities_of app) s group x in
    let now = bit_or (bits_at s group) x in
    let at = begins app s core task group i calls refl there in
    given_or_done app s core task group (given_bits (task_at s task).phase) (are_bad_bits x || is_bad_wish y)
    (sync_tried (priorities_of app) s task group x wish wait) i calls at
    (elim (is_first (task_at s task).phase) as (λ b. IsConsistent app (all_have_time_left s.tick)
    (concluded (cond b (met_or_waits p task group now wish wait) (wished s task group wish wait)) core task)) [
      | true ↦ meets app s p core task group now wish wait i calls refl (IsOnGroup-set app s core task group x i calls at)
      | false ↦ wishes app s core task group wish wait i calls refl at
    ])

-- ---- room

-- Once bits are set there still is room for the caller at the group.
pub room_once_set : (app : Application) (s p : Snapshot) (task group bits : ℕ) → IsCalling app s task → group < length s.objects.groups → IsSized p
    → p ≡ bits_set (priorities_of app) s group bits → length (group_at p group).waiting < length p.tasks
room_once_set app s p task group bits calls there sized is =
    subst (λ (q : Snapshot). IsSized q → length (group_at q group).waiting < length q.tasks) (sym is)
    (λ sized_now. room_in_list app D set_now task (Group group) consistent sized_now task_there runs group_there) sized
  where
    D : ℕ → Phase → Type 0
    D = all_have_time_left s.tick

    g : GroupSnapshot
    g = group_at s group

    now : ℕ
    now = bit_or (bits_at s group) bits

    w : Snapshot
    w = woken_all (priorities_of app) (IsGiven now) s (met_by g now)

    set_now : Snapshot
    set_now = bits_set (priorities_of app) s group bits

    after : AfterWaking s w (met_by g now)
    after = AfterWaking-woken_all (priorities_of app) (IsGiven now) s (met_by g now)

    given : IsConsistent app D w
    given =
        IsConsistent-given app s s.tick group now (met_by g now) (λ t some. omega (arith, some, times_met now g.waiting g.wishes t))
        (λ t some. waits_is_task s (Group group) t calls.valid.in_limits.sized there some) (IsConsistent-valid app s calls.valid)

    group_in_w : group < length w.objects.groups
    group_in_w = omega (arith, there, group_count_shaped app s.objects calls.valid.in_limits.objects, group_count_shaped app w.objects given.shapes)

    consistent : IsConsistent app D set_now
    consistent =
        let left = with_bits (group_at w group) (bits_left g now) in
        IsConsistent-contents app D w (objects_with_group w.objects group left) (group_contents w.objects group left group_in_w refl) given

    task_there : task < length set_now.tasks
    task_there = omega (arith, calls.there, after.same_length)

    runs : 1 ≤ times_to_run (task_at set_now task).phase
    runs =
        let phase = (task_at s task).phase in
        let same = after.idle task (runner_waits_nowhere phase (true_if_one (can_run phase) calls.runs)) in
        subst (λ (x : TaskSnapshot). 1 ≤ times_to_run x.phase) (sym same) calls.runs

    group_there : group < length set_now.objects.groups
    group_there = omega (arith, group_in_w, length-set w.objects.groups group (with_bits (group_at w group) (bits_left g now)))
