-- How answers are spelled.
use Rattle.std.specs.Prelude.{ℕ, List, []}
use Rattle.rd_refusal.specs.declared.refusal.Refusal.{Refusal}
use Rattle.rd_refusal.specs.declared.refusal.Refusal.TheVariants as refusal
use Rattle.rd_reply.specs.Replies.{line_of, reply_text}
use Rattle.rd_reply.specs.declared.reply.Reply.TheVariants.{Refused}
use Rattle.rd_desk.specs.declared.desk.NotServed.{NotServed}
use Rattle.rd_desk.specs.declared.desk.NotServed.TheVariants as not_served
use Rattle.rd_desk.specs.declared.entry.Receipt.{Receipt}
use Rattle.rd_desk.specs.declared.reply.DeskReply.{DeskReply}
use Rattle.rd_desk.specs.declared.reply.DeskReply.TheVariants.{Done, Told, Shown}

-- the line of a reply; none is written to who enters or leaves
abbrev pub reply_line : DeskReply → List ℕ
reply_line Done = []
reply_line (Told told) = line_of (reply_text told)
reply_line (Shown line) = line

-- It is a view.
abbrev pub IsShown : DeskReply → Type 0
IsShown Done = ⊥
IsShown (Told told) = ⊥
IsShown (Shown line) = Unit {0}

-- the line of a refusal
abbrev pub refusal_line : Refusal → List ℕ
refusal_line refusal = line_of (reply_text (Refused refusal))

-- the refusal that says why a command wasn't served
abbrev pub refusal_of : NotServed → Refusal
refusal_of (not_served.HistoryFull tally) = refusal.HistoryFull
refusal_of not_served.NoMemory = refusal.NoMemory
refusal_of not_served.Broken = refusal.Broken

-- What is answered to a line: the receipt of what it asked for, why that wasn't served, that it is
-- no command, or that it is too long.
pub data LineAnswer : Type 0 where
  Served : Receipt → LineAnswer
  Unserved : NotServed → LineAnswer
  Syntax : LineAnswer
  TooLong : LineAnswer

-- the text of an answer
abbrev pub text : LineAnswer → List ℕ
text (Served receipt) = reply_line receipt.entry.reply
text (Unserved error) = refusal_line (refusal_of error)
text Syntax = refusal_line refusal.Syntax
text TooLong = refusal_line refusal.LineTooLong
