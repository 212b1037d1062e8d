-- What the sequential debugger does at each event, and what it replies.
use Rattle.std.specs.Prelude.{ℕ, ◌≡◌, ◌+◌, if◌then◌else◌, length, position, is_none, slice_set}
use Rattle.std.specs.Prelude.{Bool, List, Option, None, Some}
use Rattle.rd_refusal.specs.declared.refusal.Refusal.{Refusal}
use Rattle.rd_refusal.specs.declared.refusal.Refusal.TheVariants.{Held, NoSuch, NoWatch, NotHolder}
use Rattle.rd_refusal.specs.declared.refusal.Refusal.TheVariants.{WatchesFull}
use Rattle.rd_condition.specs.declared.condition.Condition.{Condition}
use Rattle.rd_moves.specs.declared.request.Search.{Search}
use Rattle.rd_moves.specs.Requests.{PlainRequest, request_for}
use Rattle.rd_timeline.specs.Answers.{answer_to}
use Rattle.rd_state.specs.Snapshot.{Snapshot}
use Rattle.rd_timeline.specs.Runs.{answered}
use Rattle.rd_timeline.specs.Runs as runs
use Rattle.rd_command.specs.Bindings.{bound_of}
use Rattle.rd_command.specs.Commands.{CommandView}
use Rattle.rd_command.specs.Keywords.{needs_wheel}
use Rattle.rd_command.specs.declared.binding.Bound.{Bound}
use Rattle.rd_command.specs.declared.binding.Bound.TheVariants as bound
use Rattle.rd_command.specs.declared.view.Overview.{Overview}
use Rattle.rd_command.specs.declared.view.Overview.TheVariants as overview
use Rattle.rd_command.specs.declared.view.View.{View}
use Rattle.rd_command.specs.declared.view.View.TheVariants as view
use Rattle.rd_reply.specs.declared.reply.Reply.TheVariants.{Holder, Moves, Refused, Watch, Wheel}
use Rattle.rd_reply.specs.Replies.{answer_reply, cores_text, line_of, watches_text}
use Rattle.rd_desk.specs.declared.entry.Event.{Event}
use Rattle.rd_desk.specs.declared.entry.Event.TheVariants.{Enter, Ask, Leave}
use Rattle.rd_desk.specs.declared.reply.DeskReply.{DeskReply}
use Rattle.rd_desk.specs.declared.reply.DeskReply.TheVariants.{Done, Told, Shown}
use Rattle.rd_desk.specs.Debugger.{Debugger, freed, is_holder, other_holder, own_watches, target_of}
use Rattle.rd_desk.specs.Debugger.{watching}
use Rattle.rd_desk.specs.Sessions.{IsPresent, WatchesView, joined, watch_at, without}
use Rattle.rd_desk.specs.Views.{view_text, watches_shown}

abbrev pub refused : Refusal → DeskReply
refused refusal = Told (Refused refusal)

-- the line of a view
abbrev pub shown : List ℕ → DeskReply
shown text = Shown (line_of text)

-- ---- moves

-- what a request of the timeline makes of the debugger, and its reply
abbrev pub after_request : Debugger → PlainRequest → Debugger
after_request d request = record d { moves = answered d.app.runs d.most_moves d.moves request }

abbrev pub reply_to_request : Debugger → PlainRequest → DeskReply
reply_to_request d request =
    Told (answer_reply (answer_to d.app.runs d.most_moves d.moves request))

-- the same of a search for the condition of a watch, if there is that watch
abbrev pub after_search : Debugger → Option Condition → Search → Debugger
after_search d None search = d
after_search d (Some condition) search = after_request d (request_for search condition)

abbrev pub reply_to_search : Debugger → Option Condition → Search → DeskReply
reply_to_search d None search = refused NoWatch
reply_to_search d (Some condition) search = reply_to_request d (request_for search condition)

-- ---- the wheel

abbrev pub reply_to_giver : Bool → DeskReply
reply_to_giver is_holder = if is_holder then Told Wheel else refused NotHolder

-- ---- watches

-- the condition is kept at this number, the least that is free, if one is
abbrev pub after_kept : Debugger → ℕ → Condition → Option ℕ → Debugger
after_kept d who condition None = d
after_kept d who condition (Some number) =
    watching d who (slice_set (own_watches d who) number (Some condition))

abbrev pub reply_to_kept : Option ℕ → DeskReply
reply_to_kept None = refused WatchesFull
reply_to_kept (Some number) = Told (Watch number)

-- the watch with this number is dropped, if there is one
abbrev pub after_dropped : Debugger → ℕ → ℕ → Option Condition → Debugger
after_dropped d who number None = d
after_dropped d who number (Some condition) =
    watching d who (slice_set (own_watches d who) number None)

abbrev pub reply_to_dropped : ℕ → Option Condition → DeskReply
reply_to_dropped number None = refused NoWatch
reply_to_dropped number (Some condition) = Told (Watch number)

-- ---- views

-- what is shown of the debugger: of this target, the moves, the wheel, and a session's own watches
abbrev pub overview_in : Snapshot → runs.Moves → Option ℕ → WatchesView → Overview → DeskReply
overview_in s moves wheel watches overview.Moves =
    Told (Moves (length moves.done) (length moves.undone) (runs.kept moves))
overview_in s moves wheel watches overview.Wheel = Told (Holder wheel)
overview_in s moves wheel watches overview.Watches =
    shown (watches_text (watches_shown s watches))

abbrev pub overview_of : Debugger → ℕ → Overview → DeskReply
overview_of d who of = overview_in (target_of d) d.moves d.wheel (own_watches d who) of

abbrev pub view_of : Debugger → ℕ → View → DeskReply
view_of d who (view.Thing kind number) = shown (view_text d.app.names (target_of d) kind number)
view_of d who view.Cores = shown (cores_text d.app.names (target_of d))
view_of d who (view.Overview of) = overview_of d who of

-- ---- commands, each by what it does

-- what a command of this session makes of the debugger
abbrev pub after_bound : Debugger → ℕ → Bound → Debugger
after_bound d who (bound.Asks request) = after_request d request
after_bound d who (bound.AsksByWatch watch search) =
    after_search d (watch_at (own_watches d who) watch) search
after_bound d who bound.TakesWheel = record d { wheel = Some who }
after_bound d who bound.GivesWheel = record d { wheel = freed d.wheel who }
after_bound d who (bound.Keeps condition) =
    after_kept d who condition (position is_none (own_watches d who))
after_bound d who (bound.Drops number) =
    after_dropped d who number (watch_at (own_watches d who) number)
after_bound d who (bound.Looks view) = d

-- its reply
abbrev pub reply_to_bound : Debugger → ℕ → Bound → DeskReply
reply_to_bound d who (bound.Asks request) = reply_to_request d request
reply_to_bound d who (bound.AsksByWatch watch search) =
    reply_to_search d (watch_at (own_watches d who) watch) search
reply_to_bound d who bound.TakesWheel = Told Wheel
reply_to_bound d who bound.GivesWheel = reply_to_giver (is_holder d.wheel who)
reply_to_bound d who (bound.Keeps condition) =
    reply_to_kept (position is_none (own_watches d who))
reply_to_bound d who (bound.Drops number) =
    reply_to_dropped number (watch_at (own_watches d who) number)
reply_to_bound d who (bound.Looks view) = view_of d who view

-- A command of this session, which names what is there, was done: this is the debugger after it,
-- and the reply.
pub record IsDone (old : Debugger) (who : ℕ) (command : Bound) (new : Debugger) (reply : DeskReply)
    : Type 0 where
  pub after : new ≡ after_bound old who command
  pub reply_is : reply ≡ reply_to_bound old who command

-- ---- refusals that come before these: first that another session has the wheel, then that what is
-- named isn't there

-- the other session that a command is refused for, if it is
abbrev pub held_by : Debugger → ℕ → CommandView → Option ℕ
held_by d who command =
    if needs_wheel command.keyword then other_holder d.wheel who else None

abbrev pub after_if_there : Debugger → ℕ → Option Bound → Debugger
after_if_there d who None = d
after_if_there d who (Some bound) = after_bound d who bound

abbrev pub reply_if_there : Debugger → ℕ → Option Bound → DeskReply
reply_if_there d who None = refused NoSuch
reply_if_there d who (Some bound) = reply_to_bound d who bound

abbrev pub after_unless_held : Debugger → ℕ → CommandView → Option ℕ → Debugger
after_unless_held d who command None = after_if_there d who (bound_of d.app command)
after_unless_held d who command (Some holder) = d

abbrev pub reply_unless_held : Debugger → ℕ → CommandView → Option ℕ → DeskReply
reply_unless_held d who command None = reply_if_there d who (bound_of d.app command)
reply_unless_held d who command (Some holder) = refused (Held holder)

-- what a command of this session makes of the debugger, and its reply
abbrev pub after_command : Debugger → ℕ → CommandView → Debugger
after_command d who command = after_unless_held d who command (held_by d who command)

abbrev pub reply_to_command : Debugger → ℕ → CommandView → DeskReply
reply_to_command d who command = reply_unless_held d who command (held_by d who command)

-- A command of this session was answered: this is the debugger after it, and the reply.
pub record IsAnswered (old : Debugger) (who : ℕ) (command : CommandView) (new : Debugger)
    (reply : DeskReply) : Type 0 where
  pub after : new ≡ after_command old who command
  pub reply_is : reply ≡ reply_to_command old who command

-- ---- events

-- a session has entered: it is the next one
abbrev pub entered : Debugger → Debugger
entered d = record d { sessions = joined d.sessions }

-- a session has left: it has no wheel and no watches
abbrev pub left : Debugger → ℕ → Debugger
left d who = record d { wheel = freed d.wheel who; sessions = without d.sessions who }

-- the debugger after an event
abbrev pub served : Debugger → ℕ → Event → Debugger
served d who Enter = entered d
served d who (Ask command) = after_command d who command
served d who Leave = left d who

-- its reply
abbrev pub reply_of : Debugger → ℕ → Event → DeskReply
reply_of d who Enter = Done
reply_of d who (Ask command) = reply_to_command d who command
reply_of d who Leave = Done

-- Who enters gets the next number, and only who is present asks or leaves.
abbrev pub MayAct : Debugger → ℕ → Event → Type 0
MayAct d who Enter = who ≡ length d.sessions + 1
MayAct d who (Ask command) = IsPresent d.sessions who
MayAct d who Leave = IsPresent d.sessions who
