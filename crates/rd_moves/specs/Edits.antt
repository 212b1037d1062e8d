-- Edits: what each names of an application.
use Rattle.std.specs.Prelude.{ℕ, ◌<◌, ◌≤◌, ◌^◌, List, length}
use Rattle.rd_bytes.specs.declared.bytes.TheConstants.{MAX_BYTES}
use Rattle.rd_app.specs.Application.{Application}
use Rattle.rd_app.specs.declared.instr.TheConstants.{REGISTERS}
use Rattle.rd_moves.specs.declared.edit.Edit as edits
use Rattle.rd_moves.specs.declared.edit.Edit.TheVariants.{Register, Data, Pc, Value}
use Rattle.rd_moves.specs.declared.edit.Edit.TheVariants.{Bits, Item, Byte}

-- an edit with its bytes as a list, wherever they stand
abbrev pub PlainEdit : Type 0
PlainEdit = edits.Edit (List ℕ)

-- The application has the task, with its register or its entry, or the object.
abbrev pub IsEditOf : Application → PlainEdit → Type 0
IsEditOf app (Register task register value) =
    (task < length app.tasks) × (register < REGISTERS)
IsEditOf app (Data task bytes) = task < length app.tasks
IsEditOf app (Pc task pc) = task < length app.tasks
IsEditOf app (Value task index value) = (task < length app.tasks) × (index < app.entries)
IsEditOf app (Bits group bits) = group < length app.objects.groups
IsEditOf app (Item queue index bytes) = queue < length app.objects.queues
IsEditOf app (Byte stream index value) = stream < length app.objects.streams

-- What every edit keeps: a value has 32 bits, and the bytes are no more than a task's data.
abbrev pub IsSizedEdit : PlainEdit → Type 0
IsSizedEdit (Register task register value) = value < 2 ^ 32
IsSizedEdit (Data task bytes) = length bytes ≤ MAX_BYTES
IsSizedEdit (Pc task pc) = Unit {0}
IsSizedEdit (Value task index value) = value < 2 ^ 32
IsSizedEdit (Bits group bits) = Unit {0}
IsSizedEdit (Item queue index bytes) = Unit {0}
IsSizedEdit (Byte stream index value) = Unit {0}
