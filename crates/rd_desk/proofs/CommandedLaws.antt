-- What holds of each thing that a command does, and where it is refused before, holds of the command.
use Rattle.std.proofs.Common.{◌≡◌, ℕ, refl}
use Rattle.std.specs.Prelude.{Option, None, Some}
use Rattle.rd_refusal.specs.declared.refusal.Refusal.TheVariants.{Held, NoSuch}
use Rattle.rd_command.specs.Bindings.{bound_of}
use Rattle.rd_command.specs.Commands.{CommandView}
use Rattle.rd_command.specs.declared.binding.Bound.{Bound}
use Rattle.rd_desk.specs.declared.reply.DeskReply.{DeskReply}
use Rattle.rd_desk.specs.Debugger.{Debugger}
use Rattle.rd_desk.specs.Serving.{after_bound, after_command, after_if_there, after_unless_held, held_by, refused, reply_if_there, reply_to_bound, reply_to_command, reply_unless_held}

pub commanded : (P : Debugger → DeskReply → Type 0) (d : Debugger) (who : ℕ) (command : CommandView) → ((holder : ℕ) → P d (refused (Held holder)))
    → P d (refused NoSuch)
    → ((made : Bound) → held_by d who command ≡ None → bound_of d.app command ≡ Some made → P (after_bound d who made) (reply_to_bound d who made))
    → P (after_command d who command) (reply_to_command d who command)
commanded P d who command held none does = unless_held (held_by d who command) refl
  where
    if_there : (made : Option Bound) → held_by d who command ≡ None → bound_of d.app command ≡ made → P (after_if_there d who made) (reply_if_there d who made)
    if_there None free is = none
    if_there (Some made) free is = does made free is

    unless_held : (holder : Option ℕ) → held_by d who command ≡ holder → P (after_unless_held d who command holder) (reply_unless_held d who command holder)
    unless_held (Some holder) is = held holder
    unless_held None free = if_there (bound_of d.app command) free refl
