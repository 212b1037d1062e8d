-- Changes of a task, undone each by its inverse.
use Rattle.std.proofs.Common.{◌≡◌, ◌∙◌, ℕ, ◌<◌, ◌^◌, List, refl, ap, arith}
use Rattle.std.proofs.lemmas.List.{length-set}
use Rattle.std.proofs.lemmas.List.Elements.{All-get_or, All-set}
use Rattle.rd_state.specs.TaskChanges.{TaskChange}
use Rattle.rd_state.specs.TaskChanges.{SetPc, SetReg, SetPhase, SetEntry, SetData}
use Rattle.rd_notify.specs.declared.entries.Entry.{Entry}
use Rattle.rd_notify.specs.Entries.{idle_entry}
use Rattle.rd_state.specs.Sizes.{IsSizedTask}
use Rattle.rd_state.specs.Snapshot.{TaskSnapshot}
use Rattle.rd_state.specs.TaskChanges.{task_applied, task_inverse_of, TaskFits, EachTaskChangeIsUndone}
use Rattle.rd_wait.proofs.Offered.{set_back}

undoes : (task : TaskSnapshot) (change : TaskChange) → task_applied (task_applied task change) (task_inverse_of task change) ≡ task
undoes task (SetPc pc) = refl
undoes task (SetReg register value) = ap (λ (r : List ℕ). record task { registers = r }) (set_back task.registers register 0 value)
undoes task (SetPhase phase) = refl
undoes task (SetEntry index entry) = ap (λ (es : List Entry). record task { entries = es }) (set_back task.entries index idle_entry entry)
undoes task (SetData bytes) = refl

inverse_fits : (task : TaskSnapshot) (change : TaskChange) → IsSizedTask task → TaskFits task change
    → TaskFits (task_applied task change) (task_inverse_of task change)
inverse_fits task (SetPc pc) sized fits = sized.pc
inverse_fits task (SetReg register value) sized fits =
    (fits.0, All-get_or (λ v. v < 2 ^ 32) task.registers register 0 (omega (arith, sized.registers, fits.0)) sized.values)
inverse_fits task (SetPhase phase) sized fits = tt
inverse_fits task (SetEntry index entry) sized fits = (
  omega (arith, fits.0, length-set task.entries index entry),
  All-get_or (λ (e : Entry). e.value < 2 ^ 32) task.entries index idle_entry fits.0 sized.entries,
)
inverse_fits task (SetData bytes) sized fits = sized.bytes

sized_then : (task : TaskSnapshot) (change : TaskChange) → IsSizedTask task → TaskFits task change → IsSizedTask (task_applied task change)
sized_then task (SetPc pc) sized fits = record {
  pc = fits;
  registers = sized.registers;
  values = sized.values;
  bytes = sized.bytes;
  entries = sized.entries;
  few_entries = sized.few_entries;
}
sized_then task (SetReg register value) sized fits = record {
  pc = sized.pc;
  registers = length-set task.registers register value ∙ sized.registers;
  values = All-set (λ v. v < 2 ^ 32) task.registers register value fits.1 sized.values;
  bytes = sized.bytes;
  entries = sized.entries;
  few_entries = sized.few_entries;
}
sized_then task (SetPhase phase) sized fits = record {
  pc = sized.pc;
  registers = sized.registers;
  values = sized.values;
  bytes = sized.bytes;
  entries = sized.entries;
  few_entries = sized.few_entries;
}
sized_then task (SetEntry index entry) sized fits = record {
  pc = sized.pc;
  registers = sized.registers;
  values = sized.values;
  bytes = sized.bytes;
  entries = All-set (λ (e : Entry). e.value < 2 ^ 32) task.entries index entry fits.1 sized.entries;
  few_entries = omega (arith, length-set task.entries index entry, sized.few_entries);
}
sized_then task (SetData bytes) sized fits = record {
  pc = sized.pc;
  registers = sized.registers;
  values = sized.values;
  bytes = fits;
  entries = sized.entries;
  few_entries = sized.few_entries;
}

pub each_is_undone : EachTaskChangeIsUndone
each_is_undone task change sized fits = record {
  back = undoes task change;
  fits = inverse_fits task change sized fits;
  sized = sized_then task change sized fits;
}
