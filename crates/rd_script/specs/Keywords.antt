-- The keywords: how each is written, what its operands are, and the instruction that they make.
use denote.Ref.{Bor}
use Rattle.std.specs.Prelude.{ℕ, List, [], ◌∷◌, ◌++◌, codes, map, Option, Some, None}
use Rattle.std.specs.Prelude.{if◌then◌else◌}
use Rattle.std.specs.List.{find}
use Rattle.std.specs.Str.{bytes_eq}
use Rattle.rd_queue.specs.declared.end.End.TheVariants as end
use Rattle.rd_text.specs.declared.kind.Kind.TheVariants as kind
use Rattle.rd_app.specs.declared.instr.Operand as operands
use Rattle.rd_notify.specs.declared.action.Action as notified
use Rattle.rd_notify.specs.declared.action.OnExit as taken
use Rattle.rd_group.specs.declared.wish.OnMet as met
use Rattle.rd_group.specs.declared.wish.WaitFor as awaited
use Rattle.rd_app.specs.declared.instr.Instr.{Instr}
use Rattle.rd_app.specs.declared.instr.Instr.TheVariants as instruction
use Rattle.rd_app.specs.declared.instr.LocalInstr.TheVariants as local
use Rattle.rd_app.specs.declared.instr.QueueCall.TheVariants as call
use Rattle.rd_app.specs.declared.instr.QueueSetCall.TheVariants as queue_set_call
use Rattle.rd_app.specs.declared.instr.StreamCall.TheVariants as stream_call
use Rattle.rd_app.specs.declared.instr.MessageCall.TheVariants as message_call
use Rattle.rd_app.specs.declared.instr.GroupCall.TheVariants as group_call
use Rattle.rd_app.specs.declared.instr.NotifyCall.TheVariants as notify
use Rattle.rd_script.specs.declared.keyword.Parameter.{Parameter}
use Rattle.rd_script.specs.declared.keyword.Parameter.TheVariants.{Register, Number, Target}
use Rattle.rd_script.specs.declared.keyword.Parameter.TheVariants.{Data, Time, Operand, Index}
use Rattle.rd_script.specs.declared.keyword.Parameter.TheVariants.{Room, Action, OnExit, WaitFor}
use Rattle.rd_script.specs.declared.keyword.Parameter.TheVariants.{OnMet, Name}
use Rattle.rd_script.specs.declared.keyword.Keyword.{Keyword}
use Rattle.rd_script.specs.declared.keyword.Keyword.TheVariants as keyword
use Rattle.rd_script.specs.declared.keyword.LocalKeyword.{LocalKeyword}
use Rattle.rd_script.specs.declared.keyword.LocalKeyword.TheVariants as of
use Rattle.rd_script.specs.declared.keyword.QueueKeyword.{QueueKeyword}
use Rattle.rd_script.specs.declared.keyword.QueueKeyword.TheVariants.{Send, Front, Receive, Peek}
use Rattle.rd_script.specs.declared.keyword.QueueKeyword.TheVariants.{Overwrite, Reset, Count}
use Rattle.rd_script.specs.declared.keyword.QueueKeyword.TheVariants.{Spaces, AddToSet}
use Rattle.rd_script.specs.declared.keyword.QueueKeyword.TheVariants.{RemoveFromSet}
use Rattle.rd_script.specs.declared.keyword.QueueSetKeyword.{QueueSetKeyword}
use Rattle.rd_script.specs.declared.keyword.QueueSetKeyword.TheVariants.{Select}
use Rattle.rd_script.specs.declared.keyword.StreamKeyword.{StreamKeyword}
use Rattle.rd_script.specs.declared.keyword.StreamKeyword.TheVariants as stream_keyword
use Rattle.rd_script.specs.declared.keyword.MessageKeyword.{MessageKeyword}
use Rattle.rd_script.specs.declared.keyword.MessageKeyword.TheVariants as message_keyword
use Rattle.rd_script.specs.declared.keyword.GroupKeyword.{GroupKeyword}
use Rattle.rd_script.specs.declared.keyword.GroupKeyword.TheVariants as group_keyword
use Rattle.rd_script.specs.declared.keyword.NotifyKeyword.{NotifyKeyword}
use Rattle.rd_script.specs.declared.keyword.NotifyKeyword.TheVariants as told

-- what an operand stands for; a name is that of the thing with this number
abbrev pub Value : Parameter → Type 0
Value Register = ℕ
Value Number = ℕ
Value Target = ℕ
Value Data = List ℕ
Value Time = operands.Operand
Value Operand = operands.Operand
Value Index = ℕ
Value Room = ℕ
Value Action = notified.Action
Value OnExit = taken.OnExit
Value WaitFor = awaited.WaitFor
Value OnMet = met.OnMet
Value (Name kind) = ℕ

-- the instruction for each choice of values
abbrev pub Makes : List Parameter → Type 0
Makes [] = Instr
Makes (parameter ∷ others) = Value parameter → Makes others

-- how a keyword is written, its operands, and what they make
pub data InstrRow : Type 0 where
  Written : List ℕ → (operands : List Parameter) → Makes operands → InstrRow

abbrev pub text_of : InstrRow → List ℕ
text_of (Written text operands make) = text

abbrev pub operands_of : InstrRow → List Parameter
operands_of (Written text operands make) = operands

abbrev queue_name : Parameter
queue_name = Name kind.Queue

abbrev queue_set_name : Parameter
queue_set_name = Name kind.QueueSet

abbrev stream_name : Parameter
stream_name = Name kind.Stream

abbrev message_name : Parameter
message_name = Name kind.Message

abbrev group_name : Parameter
group_name = Name kind.Group

abbrev task_name : Parameter
task_name = Name kind.Task

-- ---- the rows

abbrev pub local_row : LocalKeyword → InstrRow
local_row of.Set =
    Written (codes "set") (Register ∷ Number ∷ [])
    (λ register value. instruction.Local (local.Set register value))
local_row of.Add =
    Written (codes "add") (Register ∷ Number ∷ [])
    (λ register value. instruction.Local (local.Add register value))
local_row of.Move =
    Written (codes "move") (Register ∷ Register ∷ [])
    (λ into from. instruction.Local (local.Move into from))
local_row of.Data =
    Written (codes "data") (Data ∷ []) (λ bytes. instruction.Local (local.Data bytes))
local_row of.Pack =
    Written (codes "pack") (Register ∷ []) (λ register. instruction.Local (local.Pack register))
local_row of.Unpack =
    Written (codes "unpack") (Register ∷ []) (λ register. instruction.Local (local.Unpack register))
local_row of.Jump =
    Written (codes "jump") (Target ∷ []) (λ target. instruction.Local (local.Jump target))
local_row of.JumpZero =
    Written (codes "jumpz") (Register ∷ Target ∷ [])
    (λ register target. instruction.Local (local.JumpZero register target))
local_row of.End = Written (codes "end") [] (instruction.Local local.End)

abbrev pub queue_row : QueueKeyword → InstrRow
queue_row Send =
    Written (codes "send") (queue_name ∷ Time ∷ [])
    (λ queue wait. instruction.Queue queue (call.Send end.Back wait))
queue_row Front =
    Written (codes "front") (queue_name ∷ Time ∷ [])
    (λ queue wait. instruction.Queue queue (call.Send end.Front wait))
queue_row Receive =
    Written (codes "recv") (queue_name ∷ Time ∷ [])
    (λ queue wait. instruction.Queue queue (call.Receive wait))
queue_row Peek =
    Written (codes "peek") (queue_name ∷ Time ∷ [])
    (λ queue wait. instruction.Queue queue (call.Peek wait))
queue_row Overwrite =
    Written (codes "over") (queue_name ∷ []) (λ queue. instruction.Queue queue call.Overwrite)
queue_row Reset =
    Written (codes "qreset") (queue_name ∷ []) (λ queue. instruction.Queue queue call.Reset)
queue_row Count =
    Written (codes "count") (queue_name ∷ []) (λ queue. instruction.Queue queue call.Count)
queue_row Spaces =
    Written (codes "spaces") (queue_name ∷ []) (λ queue. instruction.Queue queue call.Spaces)
queue_row AddToSet =
    Written (codes "setadd") (queue_name ∷ queue_set_name ∷ [])
    (λ queue queue_set. instruction.Queue queue (call.AddToSet queue_set))
queue_row RemoveFromSet =
    Written (codes "setdel") (queue_name ∷ queue_set_name ∷ [])
    (λ queue queue_set. instruction.Queue queue (call.RemoveFromSet queue_set))

abbrev pub queue_set_row : QueueSetKeyword → InstrRow
queue_set_row Select =
    Written (codes "select") (queue_set_name ∷ Time ∷ [])
    (λ queue_set wait. instruction.QueueSet queue_set (queue_set_call.Select wait))

abbrev pub stream_row : StreamKeyword → InstrRow
stream_row stream_keyword.Write =
    Written (codes "swrite") (stream_name ∷ Time ∷ [])
    (λ stream wait. instruction.Stream stream (stream_call.Write wait))
stream_row stream_keyword.Read =
    Written (codes "sread") (stream_name ∷ Room ∷ Time ∷ [])
    (λ stream room wait. instruction.Stream stream (stream_call.Read room wait))
stream_row stream_keyword.Reset =
    Written (codes "sreset") (stream_name ∷ [])
    (λ stream. instruction.Stream stream stream_call.Reset)
stream_row stream_keyword.SetTrigger =
    Written (codes "strig") (stream_name ∷ Operand ∷ [])
    (λ stream trigger. instruction.Stream stream (stream_call.SetTrigger trigger))
stream_row stream_keyword.Count =
    Written (codes "scount") (stream_name ∷ [])
    (λ stream. instruction.Stream stream stream_call.Count)
stream_row stream_keyword.Spaces =
    Written (codes "sspaces") (stream_name ∷ [])
    (λ stream. instruction.Stream stream stream_call.Spaces)

abbrev pub message_row : MessageKeyword → InstrRow
message_row message_keyword.Write =
    Written (codes "mwrite") (message_name ∷ Time ∷ [])
    (λ message wait. instruction.Message message (message_call.Write wait))
message_row message_keyword.Read =
    Written (codes "mread") (message_name ∷ Room ∷ Time ∷ [])
    (λ message room wait. instruction.Message message (message_call.Read room wait))
message_row message_keyword.Reset =
    Written (codes "mreset") (message_name ∷ [])
    (λ message. instruction.Message message message_call.Reset)
message_row message_keyword.Spaces =
    Written (codes "mspaces") (message_name ∷ [])
    (λ message. instruction.Message message message_call.Spaces)
message_row message_keyword.NextLength =
    Written (codes "mnext") (message_name ∷ [])
    (λ message. instruction.Message message message_call.NextLength)

abbrev pub group_row : GroupKeyword → InstrRow
group_row group_keyword.Set =
    Written (codes "gset") (group_name ∷ Operand ∷ [])
    (λ group bits. instruction.Group group (group_call.Set bits))
group_row group_keyword.Clear =
    Written (codes "gclear") (group_name ∷ Operand ∷ [])
    (λ group bits. instruction.Group group (group_call.Clear bits))
group_row group_keyword.Get =
    Written (codes "gget") (group_name ∷ []) (λ group. instruction.Group group group_call.Get)
group_row group_keyword.Wait =
    Written (codes "gwait") (group_name ∷ Operand ∷ WaitFor ∷ OnMet ∷ Time ∷ [])
    (λ group bits wait_for on_met wait.
    instruction.Group group (group_call.Wait bits wait_for on_met wait))
group_row group_keyword.Sync =
    Written (codes "gsync") (group_name ∷ Operand ∷ Operand ∷ Time ∷ [])
    (λ group set bits wait. instruction.Group group (group_call.Sync set bits wait))

abbrev pub notify_row : NotifyKeyword → InstrRow
notify_row told.Notify =
    Written (codes "notify") (task_name ∷ Index ∷ Operand ∷ Action ∷ [])
    (λ task index value action. instruction.Notify (notify.Notify task index value action))
notify_row told.Query =
    Written (codes "query") (task_name ∷ Index ∷ Operand ∷ Action ∷ [])
    (λ task index value action. instruction.Notify (notify.Query task index value action))
notify_row told.Take =
    Written (codes "take") (Index ∷ OnExit ∷ Time ∷ [])
    (λ index exit wait. instruction.Notify (notify.Take index exit wait))
notify_row told.Wait =
    Written (codes "nwait") (Index ∷ Operand ∷ Operand ∷ Time ∷ [])
    (λ index entry_bits exit_bits wait.
    instruction.Notify (notify.Wait index entry_bits exit_bits wait))
notify_row told.ClearState =
    Written (codes "nclear") (task_name ∷ Index ∷ [])
    (λ task index. instruction.Notify (notify.ClearState task index))
notify_row told.ClearValue =
    Written (codes "vclear") (task_name ∷ Index ∷ Operand ∷ [])
    (λ task index bits. instruction.Notify (notify.ClearValue task index bits))

abbrev pub row_of : Keyword → InstrRow
row_of (keyword.Local of) = local_row of
row_of (keyword.Queue of) = queue_row of
row_of (keyword.QueueSet of) = queue_set_row of
row_of (keyword.Stream of) = stream_row of
row_of (keyword.Message of) = message_row of
row_of (keyword.Group of) = group_row of
row_of (keyword.Notify of) = notify_row of

abbrev pub local_keywords : List LocalKeyword
local_keywords =
    of.Set ∷ of.Add ∷ of.Move ∷ of.Data ∷ of.Pack ∷ of.Unpack ∷ of.Jump ∷ of.JumpZero ∷ of.End ∷ []

abbrev pub queue_keywords : List QueueKeyword
queue_keywords =
    Send ∷ Front ∷ Receive ∷ Peek ∷ Overwrite ∷ Reset ∷ Count ∷ Spaces ∷ AddToSet ∷ RemoveFromSet
    ∷ []

abbrev pub queue_set_keywords : List QueueSetKeyword
queue_set_keywords = Select ∷ []

abbrev pub stream_keywords : List StreamKeyword
stream_keywords =
    stream_keyword.Write ∷ stream_keyword.Read ∷ stream_keyword.Reset ∷ stream_keyword.SetTrigger
    ∷ stream_keyword.Count
    ∷ stream_keyword.Spaces
    ∷ []

abbrev pub message_keywords : List MessageKeyword
message_keywords =
    message_keyword.Write ∷ message_keyword.Read ∷ message_keyword.Reset ∷ message_keyword.Spaces
    ∷ message_keyword.NextLength
    ∷ []

abbrev pub group_keywords : List GroupKeyword
group_keywords =
    group_keyword.Set ∷ group_keyword.Clear ∷ group_keyword.Get ∷ group_keyword.Wait
    ∷ group_keyword.Sync
    ∷ []

abbrev pub notify_keywords : List NotifyKeyword
notify_keywords =
    told.Notify ∷ told.Query ∷ told.Take ∷ told.Wait ∷ told.ClearState ∷ told.ClearValue ∷ []

abbrev pub keywords : List Keyword
keywords =
    map keyword.Local local_keywords
    ++ map keyword.Queue queue_keywords
    ++ map keyword.QueueSet queue_set_keywords
    ++ map keyword.Stream stream_keywords
    ++ map keyword.Message message_keywords
    ++ map keyword.Group group_keywords
    ++ map keyword.Notify notify_keywords

-- the keyword that is written so
abbrev pub keyword_of : List ℕ → Option Keyword
keyword_of word = find (λ k. bytes_eq word (text_of (row_of k))) keywords

-- ---- the code's table

-- the text of each, its operands, and the keyword
abbrev pub Texts : Type 0
Texts = List (List ℕ × List Parameter × Keyword)

abbrev pub texts_of : List Keyword → Texts
texts_of keywords = map (λ k. (text_of (row_of k), operands_of (row_of k), k)) keywords

abbrev pub texts_view : List (Bor (List ℕ) × Bor (List Parameter) × Keyword) → Texts
texts_view rows = map (λ row. (row.0.now, row.1.now, row.2)) rows

-- the first of these that is written so, with its operands
abbrev pub first_written : List ℕ → Texts → Option (List Parameter × Keyword)
first_written word [] = None
first_written word (row ∷ others) =
    if bytes_eq word row.0 then Some (row.1, row.2) else first_written word others
