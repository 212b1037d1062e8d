-- What is kept of a reply, but for the text of a view.
use Rattle.std.specs.Prelude.{ℕ, ◌≡◌, ◌+◌, ◌*◌, ◌<◌, ⊤, List, None, Some, length}
use Rattle.rd_refusal.specs.declared.refusal.Refusal.{Refusal}
use Rattle.rd_refusal.specs.declared.refusal.Refusal.TheVariants as refusal
use Rattle.rd_reply.specs.declared.reply.Reply.TheVariants as told
use Rattle.rd_reply.specs.declared.reply.Reply as short
use Rattle.rd_desk.specs.declared.kept.RefusalCause.{RefusalCause}
use Rattle.rd_desk.specs.declared.kept.RefusalCause.TheVariants as cause
use Rattle.rd_desk.specs.declared.kept.Kept.{Kept}
use Rattle.rd_desk.specs.declared.kept.Kept.TheVariants as kept
use Rattle.rd_desk.specs.declared.kept.KeptKind.{KeptKind}
use Rattle.rd_desk.specs.declared.kept.KeptKind.TheVariants as kind
use Rattle.rd_desk.specs.declared.kept.PackedReply.{PackedReply}
use Rattle.rd_desk.specs.declared.reply.DeskReply.{DeskReply}
use Rattle.rd_desk.specs.declared.reply.DeskReply.TheVariants.{Done, Told, Shown}
use Rattle.rd_desk.specs.HistoryView.{reply_bytes}

-- the refusal of a cause
abbrev pub cause_refusal : RefusalCause → Refusal
cause_refusal cause.NoTask = refusal.NoTask
cause_refusal cause.TickLimit = refusal.TickLimit
cause_refusal cause.NothingUndone = refusal.NothingUndone
cause_refusal cause.MovesFull = refusal.MovesFull
cause_refusal cause.NoSuch = refusal.NoSuch
cause_refusal cause.BadEdit = refusal.BadEdit
cause_refusal cause.NoIsr = refusal.NoIsr
cause_refusal cause.HistoryFull = refusal.HistoryFull
cause_refusal cause.NoMemory = refusal.NoMemory
cause_refusal cause.Syntax = refusal.Syntax
cause_refusal cause.LineTooLong = refusal.LineTooLong
cause_refusal cause.WatchesFull = refusal.WatchesFull
cause_refusal cause.NoWatch = refusal.NoWatch
cause_refusal cause.NotHolder = refusal.NotHolder
cause_refusal cause.Broken = refusal.Broken
cause_refusal cause.Full = refusal.Full

-- the reply, with its bytes
abbrev pub reply_kept : Kept → List ℕ → DeskReply
reply_kept kept.Done bytes = Done
reply_kept (kept.Reached at) bytes = Told (told.Done at)
reply_kept (kept.Answered answer at) bytes = Told (told.Answered at answer)
reply_kept (kept.Ended end at) bytes = Told (told.Ended at end)
reply_kept (kept.Moves done undone kept) bytes = Told (told.Moves done undone kept)
reply_kept kept.Wheel bytes = Told told.Wheel
reply_kept (kept.Holder holder) bytes = Told (told.Holder holder)
reply_kept (kept.Watch number) bytes = Told (told.Watch number)
reply_kept (kept.TooFar kept) bytes = Told (told.Refused (refusal.TooFar kept))
reply_kept (kept.Held holder) bytes = Told (told.Refused (refusal.Held holder))
reply_kept (kept.Refused cause) bytes = Told (told.Refused (cause_refusal cause))
reply_kept (kept.Shown line) bytes = Shown bytes

-- the number of two halves
abbrev pub wide : ℕ → ℕ → ℕ
wide low high = low + 4294967296 * high

-- what is kept, by its kind and its numbers
abbrev pub kept_of : KeptKind → ℕ → ℕ → ℕ → Kept
kept_of kind.Done first second third = kept.Done
kept_of kind.Reached first second third = kept.Reached (wide first second)
kept_of kind.Answered first second third = kept.Answered third (wide first second)
kept_of (kind.Ended end) first second third = kept.Ended end (wide first second)
kept_of kind.Moves first second third = kept.Moves first second third
kept_of kind.Wheel first second third = kept.Wheel
kept_of kind.Nobody first second third = kept.Holder None
kept_of kind.Holder first second third = kept.Holder (Some first)
kept_of kind.Watch first second third = kept.Watch (wide first second)
kept_of kind.TooFar first second third = kept.TooFar (wide first second)
kept_of kind.Held first second third = kept.Held first
kept_of (kind.Refused cause) first second third = kept.Refused cause
kept_of kind.Shown first second third = kept.Shown (wide first second)

abbrev pub packed_kept : PackedReply → Kept
packed_kept packed = kept_of packed.kind packed.first packed.second packed.third

-- where the line ends in bytes from one place to another
abbrev pub line_end_of : ℕ → ℕ → Kept → ℕ
line_end_of start end kept.Done = end
line_end_of start end (kept.Reached at) = end
line_end_of start end (kept.Answered answer at) = end
line_end_of start end (kept.Ended way at) = end
line_end_of start end (kept.Moves done undone kept) = end
line_end_of start end kept.Wheel = end
line_end_of start end (kept.Holder holder) = end
line_end_of start end (kept.Watch number) = end
line_end_of start end (kept.TooFar kept) = end
line_end_of start end (kept.Held holder) = end
line_end_of start end (kept.Refused cause) = end
line_end_of start end (kept.Shown line) = start + line

-- It is kept of this reply, behind a line of so many bytes: with the reply's bytes it gives the
-- reply, and from where the line begins it tells where it ends.
pub record IsKeptOf (kept : Kept) (line : ℕ) (reply : DeskReply) : Type 0 where
  pub gives : reply_kept kept (reply_bytes reply) ≡ reply
  pub ends : (start : ℕ)
      → line_end_of start (start + line + length (reply_bytes reply)) kept ≡ start + line

-- A number is kept with 32 bits.
abbrev pub IsShort : ℕ → Type 0
IsShort number = number < 4294967296

-- How many moves there are is kept with 32 bits each.
abbrev pub IsNarrowTold : short.Reply → Type 0
IsNarrowTold (told.Done at) = ⊤
IsNarrowTold (told.Answered at answer) = ⊤
IsNarrowTold (told.Ended at end) = ⊤
IsNarrowTold (told.Moves done undone kept) = IsShort done × IsShort undone × IsShort kept
IsNarrowTold told.Wheel = ⊤
IsNarrowTold (told.Holder holder) = ⊤
IsNarrowTold (told.Watch number) = ⊤
IsNarrowTold (told.Refused refusal) = ⊤

abbrev pub IsNarrow : DeskReply → Type 0
IsNarrow Done = ⊤
IsNarrow (Told told) = IsNarrowTold told
IsNarrow (Shown text) = ⊤
