-- What a session has heard, and why it has ended.
use Rattle.std.specs.Prelude.{ℕ, ◌≡◌, ◌+◌, ◌<◌, ◌⊎◌, List, [], ◌∷◌, length, Bool, true}
use Rattle.std.specs.Prelude.{false, Option, None, Some, if◌then◌else◌}
use Rattle.std.specs.List.{flat_map}
use Rattle.std.specs.Io.KnownBytes.{Consumes, IsAtEnd}
use Rattle.rd_ends.specs.Ends.{SinkView, SourceView}
use Rattle.rd_desk.specs.declared.entry.Event.TheVariants.{Leave}
use Rattle.rd_hall.specs.SeatView.{SeatView}
use Rattle.rd_hall.specs.Seats.{Gained, Joined}
use Rattle.rd_session.specs.Calls.{GateCall}
use Rattle.rd_session.specs.Lines.{lines_of, rest_from}
use Rattle.rd_session.specs.Answers.{BreaksOff, Talk, Talks}

-- what reads brought, one behind the other
abbrev pub bytes_of : List (List ℕ) → List ℕ
bytes_of pages = flat_map (λ page. page) pages

-- Each page has bytes, and none was read behind a line that is too long.
abbrev pub ArePages : Option (List ℕ) → List (List ℕ) → Type 0
ArePages held [] = Unit {0}
ArePages None (page ∷ pages) = ⊥
ArePages (Some held) (page ∷ pages) =
    (0 < length page) × ArePages (rest_from (Some held) page) pages

-- No line is too long so far.
abbrev pub NoneIsLong : List ℕ → Type 0
NoneIsLong bytes = (held : List ℕ) × (rest_from (Some []) bytes ≡ Some held)

-- Why a session has ended.
pub data SessionEnd : Type 0 where
  AtInputEnd : SessionEnd
  ReadFailed : SessionEnd
  WriteFailed : Bool → SessionEnd
  LongLine : SessionEnd
  AllReads : SessionEnd

-- how often a read found the end, and how often one failed, since the start
abbrev pub ends_at : SessionEnd → ℕ
ends_at AtInputEnd = 1
ends_at ReadFailed = 0
ends_at (WriteFailed ended) = if ended then 1 else 0
ends_at LongLine = 0
ends_at AllReads = 0

abbrev pub read_faults_at : SessionEnd → ℕ
read_faults_at AtInputEnd = 0
read_faults_at ReadFailed = 1
read_faults_at (WriteFailed ended) = 0
read_faults_at LongLine = 0
read_faults_at AllReads = 0

-- What was heard of these bytes, and answered: at the end of the input what stands behind the last
-- LF was a line too. Where a write has failed, it did so amid the lines or, once the input had
-- ended, at the last of them.
abbrev pub IsEnd : SessionEnd → List ℕ → SourceView → Talk → Talk → Type 0
IsEnd AtInputEnd bytes source old new =
    IsAtEnd source.remaining × NoneIsLong bytes × Talks (lines_of bytes true) old new
IsEnd ReadFailed bytes source old new = NoneIsLong bytes × Talks (lines_of bytes false) old new
IsEnd (WriteFailed true) bytes source old new =
    IsAtEnd source.remaining × NoneIsLong bytes × BreaksOff (lines_of bytes true) old new
IsEnd (WriteFailed false) bytes source old new = BreaksOff (lines_of bytes false) old new
IsEnd LongLine bytes source old new =
    (rest_from (Some []) bytes ≡ None) × Talks (lines_of bytes false) old new
IsEnd AllReads bytes source old new =
    (source.reads ≡ 16777216) × NoneIsLong bytes × Talks (lines_of bytes false) old new

-- Reads brought these pages, and each read but those brought a byte: the one that found the end, or
-- the one that failed. Of what they brought, each line was answered in order, as it is said of the
-- end. Nothing was read behind that.
pub record Heard (had has : SourceView) (old new : Talk) : Type 0 where
  pub pages : List (List ℕ)
  pub are_pages : ArePages (Some []) pages
  pub read : Consumes had.remaining has.remaining (bytes_of pages)
  pub end : SessionEnd
  pub ends : has.ends ≡ ends_at end
  pub faults : has.faults ≡ read_faults_at end
  pub reads : has.reads ≡ length pages + ends_at end + read_faults_at end
  pub is_end : IsEnd end (bytes_of pages) has old new

-- A session has joined, was answered each line that was read, and has left.
pub record Attended (had has : SourceView) (old new : SinkView) (before after : Option (List GateCall))
    (gone : SeatView) : Type 0 where
  pub joined : SeatView
  pub entered : Joined joined
  pub stayed : SeatView
  pub heard : Heard had has (record { seat = joined; sink = old; calls = before })
      (record { seat = stayed; sink = new; calls = after })
  pub left : (gone ≡ stayed) ⊎ Gained stayed Leave gone
