-- How an action is written, in scripts and in commands.
use Rattle.std.specs.Prelude.{ℕ, if◌then◌else◌, codes, List, Option, None, Some}
use Rattle.std.specs.Str.{bytes_eq}
use Rattle.rd_notify.specs.declared.action.Action.{Action}
use Rattle.rd_notify.specs.declared.action.Action.TheVariants.{LeaveValue, SetBits, Increment}
use Rattle.rd_notify.specs.declared.action.Action.TheVariants.{Overwrite, WithoutOverwrite}

-- the action of a word (eNotifyAction)
abbrev pub action_of : List ℕ → Option Action
action_of word =
    if bytes_eq word (codes "none") then Some LeaveValue
    else (if bytes_eq word (codes "bits") then Some SetBits
    else (if bytes_eq word (codes "inc") then Some Increment
    else (if bytes_eq word (codes "set") then Some Overwrite
    else (if bytes_eq word (codes "setif") then Some WithoutOverwrite
    else None))))
