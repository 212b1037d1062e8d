-- A change of a task that was put behind bytes is read at their end.
use Rattle.std.proofs.Common.{◌≡◌, ◌∙◌, ℕ, ◌+◌, ◌^◌, ◌<◌, ◌≤◌, List, ◌++◌, length, refl, ap, subst, arith, append_assoc, length-append}
use Rattle.std.proofs.Common.{Option, Some, None}
use Rattle.std.proofs.Math.Nat.{mod-eq_of_lt}
use Rattle.std.proofs.lemmas.Bool.Decides.{nat_tests}
use Rattle.std.proofs.lemmas.Nat.{from_le_bytes-to_le_bytes_2, from_le_bytes-to_le_bytes_4, from_le_bytes-to_le_bytes_8}
use Rattle.rd_bytes.proofs.Offered.{end_byte_of, end_short_of, end_word_of, end_long_of, all_but_end, all_but_saved, bytes_before_end}
use Rattle.rd_bytes.specs.Ends.{end_byte, end_short, end_word, end_long}
use Rattle.rd_bytes.specs.declared.tag.TheConstants.{SET_PC, SET_REG, SET_PHASE, SET_ENTRY, SET_DATA}
use Rattle.rd_queue.specs.declared.waiting_list.WaitingList.TheVariants.{Receiving, Sending}
use Rattle.rd_notify.specs.declared.entries.Entry.{Entry}
use Rattle.rd_notify.specs.declared.entries.EntryState.{EntryState}
use Rattle.rd_notify.specs.declared.entries.EntryState.TheVariants.{Idle, Waiting, Received}
use Rattle.rd_state.specs.PackedTaskChanges.{byte_of_entry_state, entry_state_of_byte}
use Rattle.rd_state.specs.declared.phase.Cause.{Cause}
use Rattle.rd_state.specs.declared.phase.Cause.TheVariants.{SetFull, TwoReaders, TwoWriters, EmptyData, BadBits}
use Rattle.rd_state.specs.declared.phase.Held.TheVariants.{Stream, Message}
use Rattle.rd_stream.specs.declared.side.Side.TheVariants.{Reader, Writer}
use Rattle.rd_state.specs.PackedTaskChanges.{cause_of_number, number_of_cause}
use Rattle.rd_state.specs.declared.phase.Phase.{Phase}
use Rattle.rd_state.specs.declared.phase.Phase.TheVariants.{Run, Again, Given, Wait, Ended, Failed}
use Rattle.rd_state.specs.declared.phase.Place.{Place}
use Rattle.rd_state.specs.declared.phase.Place.TheVariants as sort
use Rattle.rd_state.specs.declared.phase.Listed.TheVariants.{Queue, QueueSet, Group}
use Rattle.rd_state.specs.Objects.{Numbers}
use Rattle.rd_state.specs.Sizes.{IsDeadline, IsSizedPhase, IsSizedTask}
use Rattle.rd_state.specs.Snapshot.{TaskSnapshot}
use Rattle.rd_state.specs.Waiting.{IsPlace}
use Rattle.rd_state.specs.TaskChanges.{TaskChange, SetPc, SetReg, SetPhase, SetEntry, SetData, task_inverse_of, TaskFits}
use Rattle.rd_state.specs.PackedTaskChanges.{number_of_deadline, deadline_of_number, list_of_place, object_of_place, place_of_bytes}
use Rattle.rd_state.specs.PackedTaskChanges.{phase_kind, phase_list, phase_object, phase_number, phase_of_bytes, task_fields, task_packed}
use Rattle.rd_state.specs.PackedTaskChanges.{last_task, last_task_change, task_change_length}
use Rattle.rd_state.specs.PackedTaskChanges.{DeadlineFitsBytes, PlaceFitsBytes, PhaseFitsBytes, TaskFitsBytes, TaskChangeIsAtEnd, EachTaskChangeIsReadBack}
use Rattle.rd_state.proofs.TaskLaws as task_law

-- ---- phases

deadline_again : (deadline : Option ℕ) → DeadlineFitsBytes deadline → deadline_of_number (number_of_deadline deadline) ≡ deadline
deadline_again None fits = refl
deadline_again (Some tick) fits = grind (arith, nat_tests)

place_again : (place : Place) → place_of_bytes (list_of_place place) (object_of_place place) ≡ place
place_again (sort.Listed (Queue queue Receiving)) = refl
place_again (sort.Listed (Queue queue Sending)) = refl
place_again (sort.Listed (QueueSet queue_set)) = refl
place_again (sort.Listed (Group group)) = refl
place_again (sort.Held (Stream stream Reader)) = refl
place_again (sort.Held (Stream stream Writer)) = refl
place_again (sort.Held (Message message Reader)) = refl
place_again (sort.Held (Message message Writer)) = refl
place_again (sort.Entry index) = refl

cause_again : (cause : Cause) → cause_of_number (number_of_cause cause) ≡ cause
cause_again SetFull = refl
cause_again TwoReaders = refl
cause_again TwoWriters = refl
cause_again EmptyData = refl
cause_again BadBits = refl

cause_number_fits : (cause : Cause) → number_of_cause cause < 2 ^ 64
cause_number_fits SetFull = omega arith
cause_number_fits TwoReaders = omega arith
cause_number_fits TwoWriters = omega arith
cause_number_fits EmptyData = omega arith
cause_number_fits BadBits = omega arith

phase_again : (phase : Phase) → PhaseFitsBytes phase → phase_of_bytes (phase_kind phase) (phase_list phase) (phase_object phase) (phase_number phase) ≡ phase
phase_again Run fits = refl
phase_again (Again deadline) fits = ap Again (deadline_again deadline fits)
phase_again (Given bits) fits = ap Given (mod-eq_of_lt fits)
phase_again (Wait place deadline) fits =
    ap (λ p. Wait p (deadline_of_number (number_of_deadline deadline))) (place_again place) ∙ ap (Wait place) (deadline_again deadline fits.1)
phase_again Ended fits = refl
phase_again (Failed cause) fits = ap Failed (cause_again cause)

number_fits : (deadline : Option ℕ) → DeadlineFitsBytes deadline → number_of_deadline deadline < 2 ^ 64
number_fits None fits = omega arith
number_fits (Some tick) fits = omega (arith, fits)

phase_number_fits : (phase : Phase) → PhaseFitsBytes phase → phase_number phase < 2 ^ 64
phase_number_fits Run fits = omega arith
phase_number_fits (Again deadline) fits = number_fits deadline fits
phase_number_fits (Given bits) fits = omega (arith, fits)
phase_number_fits (Wait place deadline) fits = number_fits deadline fits.1
phase_number_fits Ended fits = omega arith
phase_number_fits (Failed cause) fits = cause_number_fits cause

-- ---- changes

-- What is read at the end is as long as what was put there.
plain_read : (b x : List ℕ) (task : ℕ) (change : TaskChange) → 1 ≤ length x → SET_PC ≤ end_byte 1 (b ++ x) → end_byte 1 (b ++ x) ≤ SET_DATA
    → last_task (b ++ x) ≡ task → last_task_change (b ++ x) ≡ change → task_change_length (b ++ x) ≡ length x → TaskChangeIsAtEnd (b ++ x) b task change
plain_read b x task change some first last number same long = record {
  ends = record { some = omega (arith, some, length-append b x); whole = omega (arith, long, length-append b x) };
  first_tag = first;
  last_tag = last;
  task = number;
  same = same;
  before = all_but_end b x (task_change_length (b ++ x)) long;
}

set_pc_read : (b : List ℕ) (task pc : ℕ) → pc < 65536 → TaskChangeIsAtEnd (b ++ task_packed task (SetPc pc)) b task (SetPc pc)
set_pc_read b task pc fits =
    let x : List ℕ = task_packed task (SetPc pc) in
    let tag : end_byte 1 (b ++ x) ≡ SET_PC = end_byte_of b x 1 (omega arith) (omega arith) in
    let e4 : end_byte 4 (b ++ x) ≡ task = end_byte_of b x 4 (omega arith) (omega arith) in
    let number : end_short 2 (b ++ x) ≡ pc = end_short_of b x 2 (omega arith) (omega arith) ∙ from_le_bytes-to_le_bytes_2 pc fits in
    plain_read b x task _ (omega arith) (omega (arith, tag)) (omega (arith, tag)) (rw tag e4) (rw (tag, number) refl) (rw tag refl)

set_reg_read : (b : List ℕ) (task register value : ℕ) → value < 2 ^ 32
    → TaskChangeIsAtEnd (b ++ task_packed task (SetReg register value)) b task (SetReg register value)
set_reg_read b task register value fits =
    let x : List ℕ = task_packed task (SetReg register value) in
    let tag : end_byte 1 (b ++ x) ≡ SET_REG = end_byte_of b x 1 (omega arith) (omega arith) in
    let e7 : end_byte 7 (b ++ x) ≡ task = end_byte_of b x 7 (omega arith) (omega arith) in
    let e6 : end_byte 6 (b ++ x) ≡ register = end_byte_of b x 6 (omega arith) (omega arith) in
    let number : end_word 2 (b ++ x) ≡ value = end_word_of b x 2 (omega arith) (omega arith) ∙ from_le_bytes-to_le_bytes_4 value fits in
    plain_read b x task _ (omega arith) (omega (arith, tag)) (omega (arith, tag)) (rw tag e7) (rw (tag, e6, number) refl) (rw tag refl)

set_phase_read : (b : List ℕ) (task : ℕ) (phase : Phase) → PhaseFitsBytes phase
    → TaskChangeIsAtEnd (b ++ task_packed task (SetPhase phase)) b task (SetPhase phase)
set_phase_read b task phase fits =
    let x : List ℕ = task_packed task (SetPhase phase) in
    let tag : end_byte 1 (b ++ x) ≡ SET_PHASE = end_byte_of b x 1 (omega arith) (omega arith) in
    let e13 : end_byte 13 (b ++ x) ≡ task = end_byte_of b x 13 (omega arith) (omega arith) in
    let e12 : end_byte 12 (b ++ x) ≡ phase_kind phase = end_byte_of b x 12 (omega arith) (omega arith) in
    let e11 : end_byte 11 (b ++ x) ≡ phase_list phase = end_byte_of b x 11 (omega arith) (omega arith) in
    let e10 : end_byte 10 (b ++ x) ≡ phase_object phase = end_byte_of b x 10 (omega arith) (omega arith) in
    let number : end_long 2 (b ++ x) ≡ phase_number phase =
    end_long_of b x 2 (omega arith) (omega arith) ∙ from_le_bytes-to_le_bytes_8 (phase_number phase) (phase_number_fits phase fits) in
    plain_read b x task _ (omega arith) (omega (arith, tag)) (omega (arith, tag)) (rw tag e13)
    (rw (tag, e12, e11, e10, number) (ap SetPhase (phase_again phase fits))) (rw tag refl)

entry_state_again : (state : EntryState) → entry_state_of_byte (byte_of_entry_state state) ≡ state
entry_state_again Idle = refl
entry_state_again Waiting = refl
entry_state_again Received = refl

set_entry_read : (b : List ℕ) (task index : ℕ) (entry : Entry) → entry.value < 2 ^ 32
    → TaskChangeIsAtEnd (b ++ task_packed task (SetEntry index entry)) b task (SetEntry index entry)
set_entry_read b task index entry fits =
    let x : List ℕ = task_packed task (SetEntry index entry) in
    let tag : end_byte 1 (b ++ x) ≡ SET_ENTRY = end_byte_of b x 1 (omega arith) (omega arith) in
    let e8 : end_byte 8 (b ++ x) ≡ task = end_byte_of b x 8 (omega arith) (omega arith) in
    let e7 : end_byte 7 (b ++ x) ≡ index = end_byte_of b x 7 (omega arith) (omega arith) in
    let e2 : end_byte 2 (b ++ x) ≡ byte_of_entry_state entry.state = end_byte_of b x 2 (omega arith) (omega arith) in
    let number : end_word 3 (b ++ x) ≡ entry.value = end_word_of b x 3 (omega arith) (omega arith) ∙ from_le_bytes-to_le_bytes_4 entry.value fits in
    plain_read b x task _ (omega arith) (omega (arith, tag)) (omega (arith, tag)) (rw tag e8)
    (rw (tag, e7, e2, number) (ap (λ (state : EntryState). SetEntry index (record { value = entry.value; state = state })) (entry_state_again entry.state)))
    (rw tag refl)

set_data_read : (b : List ℕ) (task : ℕ) (data_ : List ℕ) → length data_ < 65536
    → TaskChangeIsAtEnd ((b ++ data_) ++ task_fields task (SetData data_)) b task (SetData data_)
set_data_read b task d fits =
    let x : List ℕ = task_fields task (SetData d) in
    let f : List ℕ = b ++ d in
    let tag : end_byte 1 (f ++ x) ≡ SET_DATA = end_byte_of f x 1 (omega arith) (omega arith) in
    let e4 : end_byte 4 (f ++ x) ≡ task = end_byte_of f x 4 (omega arith) (omega arith) in
    let size : end_short 2 (f ++ x) ≡ length d = end_short_of f x 2 (omega arith) (omega arith) ∙ from_le_bytes-to_le_bytes_2 (length d) fits in
    record {
      ends = record {
        some = omega (arith, length-append f x);
        whole = rw (tag, size) (omega (arith, length-append f x, length-append b d));
      };
      first_tag = omega (arith, tag);
      last_tag = omega (arith, tag);
      task = rw tag e4;
      same = rw (tag, size) (ap SetData (bytes_before_end b d x 4 (length d) refl refl));
      before = rw (tag, size) (all_but_saved b d x (4 + length d) refl);
    }

pub task_change_is_read_back : EachTaskChangeIsReadBack
task_change_is_read_back b task (SetPc pc) fits = set_pc_read b task pc fits.1
task_change_is_read_back b task (SetReg register value) fits = set_reg_read b task register value fits.1.1
task_change_is_read_back b task (SetPhase phase) fits = set_phase_read b task phase fits.1
task_change_is_read_back b task (SetEntry index entry) fits = set_entry_read b task index entry fits.1.1
task_change_is_read_back b task (SetData d) fits =
    subst (λ (bytes : List ℕ). TaskChangeIsAtEnd bytes b task (SetData d)) (append_assoc b d (task_fields task (SetData d))) (set_data_read b task d fits.1)

-- ---- What undoes a change of a task fits in its bytes, where there are few objects.

deadline_fits : (deadline : Option ℕ) → IsDeadline deadline → DeadlineFitsBytes deadline
deadline_fits None sized = tt
deadline_fits (Some tick) sized = omega (arith, sized)

-- There are few objects of each kind.
pub record AreFew (numbers : Numbers) : Type 0 where
  pub queues : numbers.queue_count ≤ 255
  pub queue_sets : numbers.queue_set_count ≤ 255
  pub streams : numbers.stream_count ≤ 255
  pub messages : numbers.message_count ≤ 255
  pub groups : numbers.group_count ≤ 255

place_fits : (numbers : Numbers) (place : Place) → IsPlace numbers place → AreFew numbers → PlaceFitsBytes place
place_fits numbers (sort.Listed (Queue queue list)) there few = omega (arith, there, few.queues)
place_fits numbers (sort.Listed (QueueSet queue_set)) there few = omega (arith, there, few.queue_sets)
place_fits numbers (sort.Listed (Group group)) there few = omega (arith, there, few.groups)
place_fits numbers (sort.Held (Stream stream side)) there few = omega (arith, there, few.streams)
place_fits numbers (sort.Held (Message message side)) there few = omega (arith, there, few.messages)
place_fits numbers (sort.Entry index) there few = omega (arith, there)

phase_fits : (numbers : Numbers) (phase : Phase) → IsSizedPhase numbers phase → AreFew numbers → PhaseFitsBytes phase
phase_fits numbers Run sized few = tt
phase_fits numbers (Again deadline) sized few = deadline_fits deadline sized
phase_fits numbers (Given bits) sized few = omega (arith, sized)
phase_fits numbers (Wait place deadline) sized few = (place_fits numbers place sized.0 few, deadline_fits deadline sized.1)
phase_fits numbers Ended sized few = tt
phase_fits numbers (Failed cause) sized few = tt

pub task_inverse_has_bytes : (numbers : Numbers) (task : TaskSnapshot) (change : TaskChange) → IsSizedTask task → IsSizedPhase numbers task.phase
    → TaskFits task change → AreFew numbers → TaskFitsBytes (task_inverse_of task change)
task_inverse_has_bytes numbers task (SetPc pc) sized phase fits few = omega (arith, sized.pc)
task_inverse_has_bytes numbers task (SetReg register value) sized phase fits few =
    let back = (task_law.each_is_undone task (SetReg register value) sized fits).fits in
    (omega (arith, fits.0), back.1)
task_inverse_has_bytes numbers task (SetPhase p) sized phase fits few = phase_fits numbers task.phase phase few
task_inverse_has_bytes numbers task (SetEntry index entry) sized phase fits few =
    let back = (task_law.each_is_undone task (SetEntry index entry) sized fits).fits in
    (omega (arith, fits.0, sized.few_entries), back.1)
task_inverse_has_bytes numbers task (SetData bytes) sized phase fits few = omega (arith, sized.bytes)
