-- Who has the wheel, as the history alone tells.
use Rattle.std.specs.Prelude.{ℕ, Bool, true, false, if◌then◌else◌, List, [], ◌∷◌}
use Rattle.std.specs.Prelude.{Option, None, Some}
use Rattle.rd_command.specs.Keywords.{wheel_of, Taken, Given, Needed, Free}
use Rattle.rd_command.specs.Keywords as keywords
use Rattle.rd_reply.specs.declared.reply.Reply.TheVariants.{Wheel}
use Rattle.rd_desk.specs.declared.entry.HistoryEntry.{HistoryEntry}
use Rattle.rd_desk.specs.declared.entry.Event.{Event}
use Rattle.rd_desk.specs.declared.entry.Event.TheVariants.{Enter, Ask, Leave}
use Rattle.rd_desk.specs.declared.reply.DeskReply.{DeskReply}
use Rattle.rd_desk.specs.declared.reply.DeskReply.TheVariants.{Told}
use Rattle.rd_desk.specs.Debugger.{freed}

-- was the wheel taken or given?
abbrev pub is_wheel : DeskReply → Bool
is_wheel (Told Wheel) = true
is_wheel other = false

-- who has the wheel behind a command with this reply, by what it has to do with the wheel
abbrev pub holder_behind : Option ℕ → ℕ → keywords.Wheel → DeskReply → Option ℕ
holder_behind holder who Taken reply = if is_wheel reply then Some who else holder
holder_behind holder who Given reply = if is_wheel reply then None else holder
holder_behind holder who Needed reply = holder
holder_behind holder who Free reply = holder

-- who has the wheel behind an event with this reply, where that one had it before
abbrev pub holder_by : Option ℕ → ℕ → Event → DeskReply → Option ℕ
holder_by holder who Enter reply = holder
holder_by holder who (Ask command) reply =
    holder_behind holder who (wheel_of command.keyword) reply
holder_by holder who Leave reply = freed holder who

-- the last who took the wheel, and neither gave it nor left
abbrev pub holder_after : Option ℕ → List HistoryEntry → Option ℕ
holder_after holder [] = holder
holder_after holder (entry ∷ later) =
    holder_after (holder_by holder entry.who entry.event entry.reply) later
