-- Laws of notifications, in their own words.
use Rattle.std.specs.Prelude.{ℕ, ◌≡◌, ◌+◌, ◌<◌, false, List}
use Rattle.std.specs.Option.{option_and_then}
use Rattle.rd_notify.specs.declared.action.Action.{Action}
use Rattle.rd_notify.specs.declared.action.Action.TheVariants.{WithoutOverwrite}
use Rattle.rd_notify.specs.declared.action.OnExit.TheVariants.{Decrement}
use Rattle.rd_notify.specs.declared.entries.EntryState.TheVariants.{Received}
use Rattle.rd_notify.specs.Entries.{is_left_alone, value_left}
use Rattle.rd_state.specs.Phases.{waits_at}
use Rattle.rd_state.specs.Snapshot.{Snapshot, task_at}
use Rattle.rd_state.specs.Waiting.{entry_of}
use Rattle.rd_kernel.specs.Tasks.{entry_at, HasEntry}
use Rattle.rd_kernel.specs.Telling.{is_that_entry, notified}

-- The entry has received, and its task doesn't wait for it.
pub record HasArrived (s : Snapshot) (target index : ℕ) : Type 0 where
  pub received : (entry_at s target index).state ≡ Received
  pub woken : is_that_entry index (option_and_then entry_of (waits_at (task_at s target).phase))
      ≡ false

-- A notification that isn't refused arrives, whatever its action and whoever waits.
abbrev pub NotificationsArrive : Type 0
NotificationsArrive =
    (priorities : List ℕ) (s : Snapshot) (target index value : ℕ) (action : Action)
    → HasEntry s target index → is_left_alone action (entry_at s target index).state ≡ false
    → HasArrived (notified priorities s target index action value) target index

-- One that is not to overwrite changes nothing at all where the entry has received.
abbrev pub NothingIsOverwritten : Type 0
NothingIsOverwritten =
    (priorities : List ℕ) (s : Snapshot) (target index value : ℕ)
    → (entry_at s target index).state ≡ Received
    → notified priorities s target index WithoutOverwrite value ≡ s

-- A value that is counted down loses one, and 0 stays 0.
pub record TakesCountDown : Type 0 where
  pub some : (value : ℕ) → 0 < value → value_left Decrement value + 1 ≡ value
  pub none : value_left Decrement 0 ≡ 0
