-- An edit that can be made leaves a valid state.
use Rattle.std.proofs.Common.{◌<◌, ◌≡◌, arith, length, refl, set, subst, sym, true, ℕ}
use Rattle.std.specs.Prelude.{nat_lt}
use Rattle.std.proofs.lemmas.Bool.{false≢true}
use Rattle.rd_app.specs.Application.{Application, IsApplication, code_of}
use Rattle.rd_notify.specs.declared.entries.Entry.{Entry}
use Rattle.rd_group.specs.Groups.{with_bits}
use Rattle.rd_queue.specs.Queues.{with_items}
use Rattle.rd_stream.specs.Streams.{with_stream_bytes}
use Rattle.rd_state.specs.declared.phase.Phase.{Phase}
use Rattle.rd_state.specs.declared.phase.Phase.TheVariants.{Run, Again, Given, Wait, Ended, Failed}
use Rattle.rd_state.specs.Objects.{objects_with_group, objects_with_queue, objects_with_stream}
use Rattle.rd_state.specs.Phases.{is_first}
use Rattle.rd_state.specs.Sizes.{IsSized}
use Rattle.rd_state.specs.Snapshot.{Snapshot, group_at, items_at, queue_at, stream_at, task_at}
use Rattle.rd_state.specs.Valid.{IsValid}
use Rattle.rd_state.proofs.Offered.{group_count_shaped, queue_count_shaped, stream_count_shaped}
use Rattle.rd_kernel.specs.Tasks.{entry_at}
use Rattle.rd_kernel.proofs.Offered.{IsConsistent, IsConsistent-contents, IsConsistent-valid, IsConsistent-with_entry, IsConsistent-with_pc, IsConsistent-with_values}
use Rattle.rd_kernel.proofs.Offered.{IsValid-consistent, all_have_time_left, both}
use Rattle.rd_moves.specs.Edits.{PlainEdit}
use Rattle.rd_moves.specs.declared.edit.Edit.TheVariants.{Register, Data, Pc, Value, Bits, Item, Byte}
use Rattle.rd_edits.specs.Edits.{IsEditAt, edited, is_good_edit}
use Rattle.rd_moves.specs.Edits.{IsEditOf, IsSizedEdit}
use Rattle.rd_edits.proofs.ContentLaws.{bits_contents, bytes_contents, items_contents}
use Rattle.rd_edits.proofs.SizedLaws.{IsSized-edited, below}

-- What an edit names of an application is there in a state of it.
IsEditAt-consistent : (app : Application) (D : ℕ → Phase → Type 0) (s : Snapshot) (edit : PlainEdit) → IsEditOf app edit → IsConsistent app D s → IsEditAt s edit
IsEditAt-consistent app D s (Register task register value) named at = (omega (arith, named.0, at.tasks), named.1)
IsEditAt-consistent app D s (Data task bytes) named at = omega (arith, named, at.tasks)
IsEditAt-consistent app D s (Pc task pc) named at = omega (arith, named, at.tasks)
IsEditAt-consistent app D s (Value task index value) named at =
    let there : task < length s.tasks = omega (arith, named.0, at.tasks) in
    (there, omega (arith, named.1, (at.each task there).entry_count))
IsEditAt-consistent app D s (Bits group bits) named at = omega (arith, named, group_count_shaped app s.objects at.shapes)
IsEditAt-consistent app D s (Item queue index bytes) named at = omega (arith, named, queue_count_shaped app s.objects at.shapes)
IsEditAt-consistent app D s (Byte stream index value) named at = omega (arith, named, stream_count_shaped app s.objects at.shapes)

pub IsEditAt-valid : (app : Application) (s : Snapshot) (edit : PlainEdit) → IsValid app s → IsEditOf app edit → IsEditAt s edit
IsEditAt-valid app s edit valid named = IsEditAt-consistent app (all_have_time_left s.tick) s edit named (IsConsistent-valid app s valid)

-- A task whose next call is a first try is in Run.
runs : (phase : Phase) → is_first phase ≡ true → phase ≡ Run
runs Run e = refl
runs (Again deadline) e = absurd (false≢true e)
runs (Given bits) e = absurd (false≢true e)
runs (Wait place deadline) e = absurd (false≢true e)
runs Ended e = absurd (false≢true e)
runs (Failed cause) e = absurd (false≢true e)

-- what makes a state valid, but for its sizes
pub IsConsistent-edited : (app : Application) (D : ℕ → Phase → Type 0) (s : Snapshot) (edit : PlainEdit) → IsEditOf app edit → is_good_edit app s edit ≡ true
    → IsConsistent app D s → IsConsistent app D (edited s edit)
IsConsistent-edited app D s (Register task register value) named good at =
    let x = task_at s task in
    IsConsistent-with_values app D s task (set x.registers register value) x.bytes (omega (arith, named.0, at.tasks)) at
IsConsistent-edited app D s (Data task bytes) named good at =
    IsConsistent-with_values app D s task (task_at s task).registers bytes (omega (arith, named, at.tasks)) at
IsConsistent-edited app D s (Pc task pc) named good at =
    let phase = (task_at s task).phase in
    let tests = both (is_first phase) (nat_lt pc (length (code_of app task))) good in
    IsConsistent-with_pc app D s task pc (omega (arith, named, at.tasks)) (runs phase tests.0) (below pc (length (code_of app task)) tests.1) at
IsConsistent-edited app D s (Value task index value) named good at =
    let there = IsEditAt-consistent app D s (Value task index value) named at in
    let entry : Entry = record (entry_at s task index) { value = value } in
    IsConsistent-with_entry app D s task index entry there (λ waiting. waiting) ((at.each task there.0).entries.while_waiting index) at
IsConsistent-edited app D s (Bits group bits) named good at =
    IsConsistent-contents app D s (objects_with_group s.objects group (with_bits (group_at s group) bits)) (bits_contents s.objects group bits) at
IsConsistent-edited app D s (Item queue index bytes) named good at =
    let items = set (items_at s queue) index bytes in
    IsConsistent-contents app D s (objects_with_queue s.objects queue (with_items (queue_at s queue) items)) (items_contents s.objects queue items) at
IsConsistent-edited app D s (Byte stream index value) named good at =
    let bytes = set (stream_at s stream).bytes index value in
    IsConsistent-contents app D s (objects_with_stream s.objects stream (with_stream_bytes (stream_at s stream) bytes)) (bytes_contents s.objects stream bytes) at

pub edited-tick : (s : Snapshot) (edit : PlainEdit) → (edited s edit).tick ≡ s.tick
edited-tick s (Register task register value) = refl
edited-tick s (Data task bytes) = refl
edited-tick s (Pc task pc) = refl
edited-tick s (Value task index value) = refl
edited-tick s (Bits group bits) = refl
edited-tick s (Item queue index bytes) = refl
edited-tick s (Byte stream index value) = refl

-- A valid state stays valid, where it keeps its sizes, as every state of the target does;
pub IsValid-edited : (app : Application) (s : Snapshot) (edit : PlainEdit) → IsValid app s → IsEditOf app edit → is_good_edit app s edit ≡ true
    → IsSized (edited s edit) → IsValid app (edited s edit)
IsValid-edited app s edit valid named good sized =
    let now = IsConsistent-edited app (all_have_time_left s.tick) s edit named good (IsConsistent-valid app s valid) in
    IsValid-consistent app (edited s edit)
    (subst (λ tick. IsConsistent app (all_have_time_left tick) (edited s edit)) (sym (edited-tick s edit)) now) sized

-- and it does, after an edit of the size of an edit.
pub IsValid-edited_whole : (app : Application) (s : Snapshot) (edit : PlainEdit) → IsApplication app → IsSizedEdit edit → IsValid app s → IsEditOf app edit
    → is_good_edit app s edit ≡ true → IsValid app (edited s edit)
IsValid-edited_whole app s edit limits small valid named good =
    IsValid-edited app s edit valid named good
    (IsSized-edited app s edit limits small named (IsEditAt-valid app s edit valid named) good valid.in_limits.sized)
