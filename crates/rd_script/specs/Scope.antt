-- What the instructions of a file can name.
use Rattle.std.specs.Prelude.{ℕ, List}
use Rattle.rd_script.specs.Named.{NamedApplication, NamedObjects}

-- Its objects and its tasks, and of each task so many notification entries.
pub record Scope : Type 0 where
  pub objects : NamedObjects
  pub tasks : List (List ℕ)
  pub entries : ℕ

-- that of an application
abbrev pub scope_of : NamedApplication → Scope
scope_of app =
    record { objects = app.objects; tasks = app.tasks.names; entries = app.entries }
