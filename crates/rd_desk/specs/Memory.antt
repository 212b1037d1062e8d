-- What a command may take memory for.
use Rattle.std.specs.Prelude.{ℕ, ◌≡◌, ◌+◌, ◌<◌, ◌≤◌, ◌⊎◌, Bool, false, true, List, None, length}
use Rattle.std.specs.Prelude.{IsSomeAnd}
use Rattle.rd_command.specs.Bindings.{bound_of}
use Rattle.rd_command.specs.Commands.{CommandView}
use Rattle.rd_command.specs.declared.binding.Bound.{Bound}
use Rattle.rd_command.specs.declared.binding.Bound.TheVariants as bound
use Rattle.rd_moves.specs.declared.request.Search.{Search}
use Rattle.rd_moves.specs.declared.request.Search.TheVariants as search
use Rattle.rd_timeline.specs.Runs.{may_make_moves}
use Rattle.rd_desk.specs.Debugger.{Debugger}
use Rattle.rd_desk.specs.declared.asked.TheConstants.{INLINE_BYTES}
use Rattle.rd_desk.specs.DeskView.{RoomedDesk}
use Rattle.rd_desk.specs.declared.reply.DeskReply.{DeskReply}
use Rattle.rd_desk.specs.declared.reply.DeskReply.TheVariants.{Done, Told, Shown}
use Rattle.rd_desk.specs.Serving.{held_by, view_of}
use Rattle.rd_desk.specs.Sessions.{present_count}

-- Is the reply a text?
abbrev pub is_text : DeskReply → Bool
is_text Done = false
is_text (Told told) = false
is_text (Shown text) = true

-- Does what is looked for make moves?
abbrev pub makes_moves : Search → Bool
makes_moves (search.Until count) = true
makes_moves search.BackUntil = false

-- Does it make moves, or a text that is shown?
abbrev pub needs_memory : Debugger → ℕ → Bound → Bool
needs_memory d who (bound.Asks request) = may_make_moves request
needs_memory d who (bound.AsksByWatch watch search) = makes_moves search
needs_memory d who bound.TakesWheel = false
needs_memory d who bound.GivesWheel = false
needs_memory d who (bound.Keeps condition) = false
needs_memory d who (bound.Drops number) = false
needs_memory d who (bound.Looks view) = is_text (view_of d who view)

-- No other session has the wheel that the command needs, it names what is there, and it makes moves
-- or a text.
pub record NeedsMemory (d : Debugger) (who : ℕ) (command : CommandView) : Type 0 where
  pub free : held_by d who command ≡ None
  pub needs : IsSomeAnd (bound_of d.app command) (λ bound. needs_memory d who bound ≡ true)

-- There is no room for the entry of a command with this line, beside those that are reserved
-- for departures, or the line is longer than one that a receipt has in place.
abbrev pub LacksRoom : RoomedDesk → List ℕ → Type 0
LacksRoom d line =
    (d.row_room < present_count d.desk.debugger.sessions + 1)
    ⊎ ((d.byte_room < length line) ⊎ (INLINE_BYTES < length line))

-- A command with this line may be refused for want of memory.
abbrev pub MayLackMemory : RoomedDesk → ℕ → List ℕ → CommandView → Type 0
MayLackMemory d who line command = NeedsMemory d.desk.debugger who command ⊎ LacksRoom d line

-- An entry took so many rows and bytes of the room at the most.
pub record TakesAtMost (rows bytes : ℕ) (old new : RoomedDesk) : Type 0 where
  pub rows_left : old.row_room ≤ new.row_room + rows
  pub bytes_left : old.byte_room ≤ new.byte_room + bytes
