-- The receipts that are handed in at the end, against the history.
use Rattle.std.specs.Prelude.{ℕ, ◌≡◌, ◌+◌, ◌-◌, ◌≤◌, Bool, true, false, List, [], ◌∷◌, ◌++◌}
use Rattle.std.specs.Prelude.{length, nat_eq, if◌then◌else◌, IsTrue, Option, Some, None}
use Rattle.std.specs.Prelude.{slice_get, All, sum_by}
use Rattle.rd_desk.specs.declared.entry.HistoryEntry.{HistoryEntry}
use Rattle.rd_desk.specs.declared.entry.Event.{Event}
use Rattle.rd_desk.specs.declared.entry.Event.TheVariants.{Enter, Ask, Leave}
use Rattle.rd_desk.specs.declared.entry.Receipt.{Receipt}
use Rattle.rd_desk.specs.HistoryView.{IsEntered}
use Rattle.rd_hall.specs.SeatView.{SeatView, next_place}

-- what a contract sees of a debugger that has ended: its history, and who has left
pub record ClosedView : Type 0 where
  pub history : List HistoryEntry
  pub gones : List SeatView

-- ---- what is promised

-- the receipts of a session, those of one seat after the other
abbrev pub receipts_of : ℕ → List SeatView → List Receipt
receipts_of who [] = []
receipts_of who (gone ∷ later) =
    if nat_eq gone.who who then gone.receipts ++ receipts_of who later else receipts_of who later

-- the entries of a session, each with its place, counted from this one on
abbrev pub entries_of : ℕ → ℕ → List HistoryEntry → List Receipt
entries_of who place [] = []
entries_of who place (entry ∷ later) =
    if nat_eq entry.who who
    then record { place = place; entry = entry } ∷ entries_of who (place + 1) later
    else entries_of who (place + 1) later

-- Each session's receipts are exactly its entries of the history, each once, in order, and no entry
-- is without its receipt.
abbrev pub IsAccounted : List HistoryEntry → List SeatView → Type 0
IsAccounted history gones = (who : ℕ) → receipts_of who gones ≡ entries_of who 0 history

-- ---- what is tested

abbrev pub is_leave : Event → Bool
is_leave Enter = false
is_leave (Ask command) = false
is_leave Leave = true

abbrev pub is_leave_of : Option Receipt → Bool
is_leave_of None = false
is_leave_of (Some receipt) = is_leave receipt.entry.event

abbrev pub ends_in_leave : List Receipt → Bool
ends_in_leave receipts = is_leave_of (slice_get receipts (length receipts - 1))

abbrev pub first_place : List Receipt → ℕ
first_place [] = 0
first_place (receipt ∷ later) = receipt.place

-- A seat that is handed in behind these ends with a leave, each of its receipts is the entry at its
-- place, and they are behind those of the session's seats before.
pub record Fits (history : List HistoryEntry) (before : List SeatView) (gone : SeatView) : Type 0 where
  pub left : IsTrue (ends_in_leave gone.receipts)
  pub entered : All (IsEntered history) gone.receipts
  pub behind : next_place 0 (receipts_of gone.who before) ≤ first_place gone.receipts

-- The same of each of these seats, in turn.
abbrev pub AllFit : List HistoryEntry → List SeatView → List SeatView → Type 0
AllFit history before [] = Unit {0}
AllFit history before (gone ∷ later) =
    Fits history before gone × AllFit history (before ++ gone ∷ []) later

-- how many receipts the seats have
abbrev pub count_of : List SeatView → ℕ
count_of gones = sum_by (λ gone. length gone.receipts) gones

-- Each seat that is handed in fits, and there are as many receipts as entries.
pub record IsAccount (history : List HistoryEntry) (gones : List SeatView) : Type 0 where
  pub fit : AllFit history [] gones
  pub count : count_of gones ≡ length history
