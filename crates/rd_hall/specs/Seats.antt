-- What a call does to what is shared and to a seat.
use Rattle.std.specs.Prelude.{ℕ, ◌≡◌, ◌+◌, ◌<◌, ◌≤◌, ◌⊎◌, List, [], ◌∷◌, length}
use Rattle.rd_names.specs.Apps.{AppView}
use Rattle.rd_command.specs.Commands.{CommandView}
use Rattle.rd_desk.specs.declared.desk.NotServed.{NotServed}
use Rattle.rd_desk.specs.declared.desk.NotServed.TheVariants as serve
use Rattle.rd_desk.specs.declared.entry.Event.{Event}
use Rattle.rd_desk.specs.declared.entry.Event.TheVariants.{Enter, Leave}
use Rattle.rd_desk.specs.declared.entry.Receipt.{Receipt}
use Rattle.rd_desk.specs.DeskView.{used, DeskView, Does, IsSound}
use Rattle.rd_desk.specs.Memory.{MayLackMemory}
use Rattle.rd_desk.specs.Refusals.{tally_of}
use Rattle.rd_desk.specs.Sessions.{IsPresent}
use Rattle.rd_hall.specs.SeatView.{ReceiptsView, RoomedSeat, SeatView, next_place, with_receipt}

-- the view of what is shared: the desk, the total of the ledger, for how many entries more the
-- history has room, and for how many bytes of theirs
pub record SharedView : Type 0 where
  pub desk : DeskView
  pub total : ℕ
  pub row_room : ℕ
  pub byte_room : ℕ

-- The desk stands there as it did, and the ledger has the same total.
pub record IsUnchanged (old new : SharedView) : Type 0 where
  pub desk : new.desk ≡ old.desk
  pub total : new.total ≡ old.total

-- The debugger is of this application, and no more moves may be done and no more entries be made.
pub record IsOf (d : DeskView) (used_app : AppView) (moves entries : ℕ) : Type 0 where
  pub app : d.debugger.app ≡ used_app
  pub most_moves : d.debugger.most_moves ≡ moves
  pub most_entries : d.most_entries ≡ entries

-- The history reaches to this place, and the session is present.
pub record ReachesTo (d : DeskView) (who place : ℕ) : Type 0 where
  pub past : place ≤ length d.history
  pub present : IsPresent d.debugger.sessions who

-- The history reaches past the last of these receipts, and their session is present.
abbrev pub ReachesPast : DeskView → ReceiptsView → Type 0
ReachesPast d kept = ReachesTo d kept.who (next_place 0 kept.receipts)

-- The history reaches past the seat's last receipt, and its session is present.
abbrev pub Reaches : DeskView → SeatView → Type 0
Reaches d seat = ReachesTo d seat.who (next_place 0 seat.receipts)

-- There is room for fewer receipts, or for fewer bytes, than those of a command with this line, and
-- of the leave.
abbrev pub LacksRoomFor : ℕ → ℕ → List ℕ → Type 0
LacksRoomFor rows bytes line = (rows < 2) ⊎ (bytes < length line)

-- Where a session has room for so many receipts and bytes, a command of its may be refused for want
-- of memory: that isn't enough, or else a place is free, and the desk may lack memory.
abbrev pub MayBeShort : SharedView → ℕ → ℕ → ℕ → List ℕ → CommandView → Type 0
MayBeShort shared who rows bytes line command =
    LacksRoomFor rows bytes line
    ⊎ ((used shared.desk < shared.desk.most_entries)
    × MayLackMemory (record {
      desk = shared.desk;
      row_room = shared.row_room;
      byte_room = shared.byte_room;
    }) who line command)

-- the seat of who enters next, without receipts yet
abbrev pub newcomer : DeskView → SeatView
newcomer d = record { who = length d.debugger.sessions + 1; receipts = []; share = 0 }

-- The event was done for the seat, which has its receipt.
abbrev pub DoesFor : DeskView → SeatView → Event → DeskView → SeatView → Type 0
DoesFor old seat event new after =
    (receipt : Receipt) × Does old seat.who event new receipt × (after ≡ with_receipt seat receipt)

-- The seat has one receipt more, of that event, at a place behind all before it.
pub record Gains (old : SeatView) (asked : Event) (new : SeatView) (receipt : Receipt)
    : Type 0 where
  pub event : receipt.entry.event ≡ asked
  pub who : receipt.entry.who ≡ old.who
  pub place : next_place 0 old.receipts ≤ receipt.place
  pub after : new ≡ with_receipt old receipt

-- the same, of some receipt
abbrev pub Gained : SeatView → Event → SeatView → Type 0
Gained old asked new = (receipt : Receipt) × Gains old asked new receipt

-- The session has entered: its one receipt is of that.
abbrev pub Joined : SeatView → Type 0
Joined seat =
    (receipt : Receipt)
    × (seat.receipts ≡ receipt ∷ [])
    × (receipt.entry.event ≡ Enter)
    × (receipt.entry.who ≡ seat.who)

-- ---- what a call finds behind the lock

-- The desk can have been found: its history is one of the sequential debugger, it is of this
-- application and has these limits, and it has no fewer entries than the seat has of the ledger.
pub record IsFound (used_app : AppView) (moves entries share : ℕ) (d : DeskView) : Type 0 where
  pub sound : IsSound d
  pub set_up : IsOf d used_app moves entries
  pub backed : share ≤ length d.history

-- A desk was found of which this holds.
abbrev pub Finds : AppView → ℕ → ℕ → ℕ → (DeskView → Type 0) → Type 0
Finds used_app moves entries share P =
    (d : DeskView) × IsFound used_app moves entries share d × P d

-- The event was done for the seat, which has its receipt; the desk is another then.
abbrev pub Serves : DeskView → SeatView → Event → SeatView → Type 0
Serves old seat event after = (new : DeskView) × DoesFor old seat event new after

-- Why no command with this line is served for the seat, which has room as it is left: the desk
-- isn't the seat's own; or else there is no memory for the seat; or else no place of the history is
-- free; or else there is no memory, and one is.
abbrev pub TurnsAway : DeskView → RoomedSeat → List ℕ → NotServed → Type 0
TurnsAway d seat line (serve.HistoryFull tally) =
    Reaches d seat.session × (tally ≡ tally_of d) × (d.most_entries ≡ used d)
TurnsAway d seat line serve.NoMemory =
    Reaches d seat.session
    × (LacksRoomFor seat.room seat.byte_room line ⊎ (used d < d.most_entries))
TurnsAway d seat line serve.Broken = ¬ Reaches d seat.session

-- The seat's session left, and has the receipt of that; or the desk isn't the seat's own, and it
-- has none.
abbrev pub LetsGo : DeskView → SeatView → SeatView → Type 0
LetsGo d seat after =
    (Reaches d seat × Serves d seat Leave after) ⊎ ((¬ Reaches d seat) × (after ≡ seat))
