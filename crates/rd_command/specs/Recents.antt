-- The lines that were bound lately.
use Rattle.std.specs.Prelude.{List, Option, All, IfSome}
use Rattle.rd_command.specs.declared.recent.RecentRow.{RecentRow}
use Rattle.rd_command.specs.Bindings.{IsOrder, KnownView}

-- The line of the row is a command, which is bound so in this application.
abbrev pub IsRow : KnownView → RecentRow → Type 0
IsRow known row = IsOrder known row.line.items row.needs_wheel row.bound

-- So it is for each row that there is.
abbrev pub AreRows : KnownView → List (Option RecentRow) → Type 0
AreRows known rows = All (λ place. IfSome place (IsRow known)) rows
