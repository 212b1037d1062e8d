-- What a contract sees of a seat.
use Rattle.std.specs.Prelude.{ℕ, ◌≡◌, ◌+◌, ◌<◌, ◌≤◌, List, [], ◌∷◌, ◌++◌, length, map}
use Rattle.rd_command.specs.Commands.{CommandView}
use Rattle.rd_desk.specs.declared.entry.Event.TheVariants.{Ask}
use Rattle.rd_desk.specs.declared.entry.Noted.{Noted}
use Rattle.rd_desk.specs.declared.entry.Receipt.{Receipt}
use Rattle.rd_desk.specs.HistoryView.{reply_bytes}
use Rattle.rd_desk.specs.Kept.{IsNarrow, IsShort}
use Rattle.rd_desk.specs.Rows.{receipt_of}

-- the session, its receipts in the order in which they came, and how much it has of the ledger
pub record SeatView : Type 0 where
  pub who : ℕ
  pub receipts : List Receipt
  pub share : ℕ

-- a session that hasn't left, for how many receipts more it has room, and for how many bytes of
-- theirs
pub record RoomedSeat : Type 0 where
  pub session : SeatView
  pub room : ℕ
  pub byte_room : ℕ

-- what is seen of the receipts of a session that hasn't left: whose they are, each in the order in
-- which it came, and for how many more there is room, and for how many bytes of theirs
pub record ReceiptsView : Type 0 where
  pub who : ℕ
  pub receipts : List Receipt
  pub room : ℕ
  pub byte_room : ℕ

-- the receipts of a session of which this is kept
abbrev pub receipts_noted : ℕ → List Noted → List Receipt
receipts_noted who noted = map (receipt_of who) noted

-- the session of which this is kept
abbrev pub seat_of : ℕ → List Noted → ℕ → SeatView
seat_of who noted share =
    record { who = who; receipts = receipts_noted who noted; share = share }

-- the session that has these, and so much of the ledger
abbrev pub seat_with : ReceiptsView → ℕ → SeatView
seat_with kept share = record { who = kept.who; receipts = kept.receipts; share = share }

-- The receipts all name the session, and rise in place, from this place on.
abbrev pub IsSeries : ℕ → ℕ → List Receipt → Type 0
IsSeries who place [] = Unit {0}
IsSeries who place (receipt ∷ later) =
    (receipt.entry.who ≡ who) × (place ≤ receipt.place) × IsSeries who (receipt.place + 1) later

-- the place after that of the last receipt
abbrev pub next_place : ℕ → List Receipt → ℕ
next_place place [] = place
next_place place (receipt ∷ later) = next_place (receipt.place + 1) later

-- the seat with one receipt more, which counts as one in the ledger
abbrev pub with_receipt : SeatView → Receipt → SeatView
with_receipt seat receipt = record {
  who = seat.who;
  receipts = seat.receipts ++ receipt ∷ [];
  share = seat.share + 1;
}

-- What receipts are: there are some, of this session, and they rise in place; what else is kept is
-- the place behind them.
pub record AreReceipts (who : ℕ) (receipts : List Receipt) (behind : ℕ) : Type 0 where
  pub some : 0 < length receipts
  pub series : IsSeries who 0 receipts
  pub next : behind ≡ next_place 0 receipts

-- It is the receipt of a command with this line, behind these, which have room for it and for that
-- of the leave.
pub record Follows (kept : ReceiptsView) (line : List ℕ) (command : CommandView) (receipt : Receipt)
    : Type 0 where
  pub who : receipt.entry.who ≡ kept.who
  pub event : receipt.entry.event ≡ Ask command
  pub behind : next_place 0 kept.receipts ≤ receipt.place
  pub short : IsShort receipt.place
  pub narrow : IsNarrow receipt.entry.reply
  pub room : 2 ≤ kept.room
  pub bytes : length line + length (reply_bytes receipt.entry.reply) ≤ kept.byte_room

-- The receipts stay, with no less room.
pub record StayWithRoom (old new : ReceiptsView) : Type 0 where
  pub who : new.who ≡ old.who
  pub receipts : new.receipts ≡ old.receipts
  pub rows : old.room ≤ new.room
  pub bytes : old.byte_room ≤ new.byte_room

-- What the fields of who has left say: it has receipts, the place behind them, one part of the
-- ledger, and as much of the amount as receipts.
pub record IsSeat (seat : SeatView) (behind part total : ℕ) : Type 0 where
  pub receipts : AreReceipts seat.who seat.receipts behind
  pub parts : part ≡ 1
  pub amount : total ≡ length seat.receipts
