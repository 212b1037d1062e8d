-- What views show.
use Rattle.std.specs.Prelude.{ℕ, ◌≡◌, ◌+◌, List, [], ◌∷◌, ◌++◌, length, position}
use Rattle.std.specs.Prelude.{Option, None, Some}
use Rattle.rd_names.specs.Names.{NamesView, names_of}
use Rattle.rd_condition.specs.declared.condition.Condition.{Condition}
use Rattle.rd_condition.specs.Conditions.{holds}
use Rattle.rd_text.specs.declared.kind.Kind.{Kind}
use Rattle.rd_text.specs.declared.kind.Kind.TheVariants as kind
use Rattle.rd_state.specs.Snapshot.{Snapshot, group_at, message_at, numbers_of, queue_at}
use Rattle.rd_state.specs.Snapshot.{queue_set_at, stream_at, task_at}
use Rattle.rd_command.specs.declared.view.View.{View}
use Rattle.rd_command.specs.declared.view.View.TheVariants.{Thing, Cores, Overview}
use Rattle.rd_reply.specs.declared.watches.WatchShown.{WatchShown}
use Rattle.rd_reply.specs.Names.{name_at, numbers_named}
use Rattle.rd_reply.specs.Replies.{cores_text, group_text, is_task, message_text, queue_text}
use Rattle.rd_reply.specs.Replies.{queue_set_text, stream_text, task_text}
use Rattle.rd_desk.specs.Sessions.{WatchesView}

-- the name of the thing of a kind with that number
abbrev pub name_in : NamesView → Kind → ℕ → List ℕ
name_in names kind number = name_at (names_of kind names) number

-- what a view shows of the thing of a kind with that number, in this state
abbrev pub view_text : NamesView → Snapshot → Kind → ℕ → List ℕ
view_text names s kind.Queue queue =
    queue_text names (name_in names kind.Queue queue) (queue_at s queue)
view_text names s kind.QueueSet queue_set =
    queue_set_text names (name_in names kind.QueueSet queue_set) (queue_set_at s queue_set)
view_text names s kind.Stream stream =
    stream_text names (name_in names kind.Stream stream) (stream_at s stream)
view_text names s kind.Message message =
    message_text names (name_in names kind.Message message) (message_at s message)
view_text names s kind.Group group =
    group_text names (name_in names kind.Group group) (group_at s group)
view_text names s kind.Task task =
    task_text names (name_in names kind.Task task) (position (is_task task) s.cores)
    (task_at s task)

-- There are as many names of each kind as things in the state.
pub record AreNamesOf (s : Snapshot) (names : NamesView) : Type 0 where
  pub objects : numbers_named names ≡ numbers_of s
  pub tasks : length names.tasks ≡ length s.tasks

-- what is shown of the target, where a view is one of it
abbrev pub text_shown : NamesView → Snapshot → View → Option (List ℕ)
text_shown names s (Thing kind number) = Some (view_text names s kind number)
text_shown names s Cores = Some (cores_text names s)
text_shown names s (Overview of) = None

-- a watch with that number, if there is one, and whether its condition holds in this state
abbrev pub shown_at : Snapshot → ℕ → Option Condition → List WatchShown
shown_at s number None = []
shown_at s number (Some condition) =
    record { number = number; holds = holds s condition } ∷ []

-- the watches from that number on, by rising number
abbrev pub shown_from : Snapshot → ℕ → WatchesView → List WatchShown
shown_from s number [] = []
shown_from s number (watch ∷ others) =
    shown_at s number watch ++ shown_from s (number + 1) others

abbrev pub watches_shown : Snapshot → WatchesView → List WatchShown
watches_shown s watches = shown_from s 0 watches
