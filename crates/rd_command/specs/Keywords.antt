-- The keywords of commands and of conditions: how each is written, what its operands are, and what
-- they make.
use Rattle.std.specs.Prelude.{ℕ, Bool, true, false, List, [], ◌∷◌, codes, Option}
use Rattle.std.specs.List.{find}
use Rattle.std.specs.Str.{bytes_eq}
use Rattle.rd_text.specs.declared.kind.Kind.{Kind}
use Rattle.rd_text.specs.declared.kind.Kind.TheVariants as kind
use Rattle.rd_condition.specs.declared.condition.Amount.TheVariants as amount
use Rattle.rd_condition.specs.declared.condition.Comparison as comparisons
use Rattle.rd_condition.specs.declared.condition.Condition as conditions
use Rattle.rd_condition.specs.declared.condition.Condition.TheVariants as condition
use Rattle.rd_condition.specs.declared.condition.PhaseName as phases
use Rattle.rd_notify.specs.declared.action.Action as actions
use Rattle.rd_moves.specs.declared.carried.Carried.TheVariants as carried
use Rattle.rd_moves.specs.declared.edit.Edit.TheVariants as edit
use Rattle.rd_moves.specs.declared.interrupt.Interrupt.TheVariants as interrupt
use Rattle.rd_moves.specs.declared.moves.Move.TheVariants as move
use Rattle.rd_moves.specs.declared.request.Request.TheVariants as request
use Rattle.rd_moves.specs.declared.request.Search.{Search}
use Rattle.rd_moves.specs.declared.request.Search.TheVariants as search
use Rattle.rd_moves.specs.Carried.{PlainCarried}
use Rattle.rd_moves.specs.Edits.{PlainEdit}
use Rattle.rd_moves.specs.Interrupts.{PlainInterrupt}
use Rattle.rd_moves.specs.Requests.{PlainRequest}
use Rattle.rd_command.specs.declared.keyword.CommandParameter.{CommandParameter}
use Rattle.rd_command.specs.declared.keyword.CommandParameter.TheVariants.{Core, Count, Register, Index}
use Rattle.rd_command.specs.declared.keyword.CommandParameter.TheVariants.{Number, Data, Operator}
use Rattle.rd_command.specs.declared.keyword.CommandParameter.TheVariants.{Phase, Action, Name}
use Rattle.rd_command.specs.declared.keyword.CommandParameter.TheVariants as parameter
use Rattle.rd_command.specs.declared.keyword.AmountKeyword.{AmountKeyword}
use Rattle.rd_command.specs.declared.keyword.AmountKeyword.TheVariants as compared
use Rattle.rd_command.specs.declared.keyword.ConditionKeyword.{ConditionKeyword}
use Rattle.rd_command.specs.declared.keyword.ConditionKeyword.TheVariants.{Compares, InPhase}
use Rattle.rd_command.specs.declared.keyword.EditKeyword.{EditKeyword}
use Rattle.rd_command.specs.declared.keyword.EditKeyword.TheVariants as poked
use Rattle.rd_command.specs.declared.keyword.InterruptKeyword.{InterruptKeyword}
use Rattle.rd_command.specs.declared.keyword.InterruptKeyword.TheVariants as raised
use Rattle.rd_command.specs.declared.keyword.CommandKeyword.{CommandKeyword}
use Rattle.rd_command.specs.declared.keyword.CommandKeyword.TheVariants.{Ask, AskByWatch, TakeWheel}
use Rattle.rd_command.specs.declared.keyword.CommandKeyword.TheVariants.{GiveWheel, Watch, Unwatch, Show}
use Rattle.rd_command.specs.declared.keyword.CommandKeyword.TheVariants.{Look}
use Rattle.rd_command.specs.declared.keyword.CommandKeyword.TheVariants as keyword
use Rattle.rd_command.specs.declared.keyword.RequestKeyword.{RequestKeyword}
use Rattle.rd_command.specs.declared.keyword.RequestKeyword.TheVariants as asked
use Rattle.rd_command.specs.declared.keyword.SearchKeyword.{SearchKeyword}
use Rattle.rd_command.specs.declared.keyword.SearchKeyword.TheVariants as sought
use Rattle.rd_command.specs.declared.view.Overview.{Overview}
use Rattle.rd_command.specs.declared.view.Overview.TheVariants as overview

-- what a word stands for; a name is that of the thing with this number
abbrev pub Value : CommandParameter → Type 0
Value Core = ℕ
Value Count = ℕ
Value Register = ℕ
Value Index = ℕ
Value Number = ℕ
Value Data = List ℕ
Value Operator = comparisons.Comparison
Value Phase = phases.PhaseName
Value Action = actions.Action
Value parameter.Watch = ℕ
Value (Name kind) = ℕ

-- one of these for each choice of values
abbrev pub Makes : Type 0 → List CommandParameter → Type 0
Makes Made [] = Made
Makes Made (parameter ∷ others) = Value parameter → Makes Made others

abbrev queue_name : CommandParameter
queue_name = Name kind.Queue

abbrev stream_name : CommandParameter
stream_name = Name kind.Stream

abbrev message_name : CommandParameter
message_name = Name kind.Message

abbrev group_name : CommandParameter
group_name = Name kind.Group

abbrev task_name : CommandParameter
task_name = Name kind.Task

-- ---- conditions

-- how a condition is written: its keyword, its operands, and the condition that they make
pub data ConditionRow : Type 0 where
  Written : List ℕ → (parameters : List CommandParameter) → Makes conditions.Condition parameters
      → ConditionRow

abbrev pub text_of : ConditionRow → List ℕ
text_of (Written text parameters make) = text

abbrev pub parameters_of : ConditionRow → List CommandParameter
parameters_of (Written text parameters make) = parameters

abbrev pub amount_row : AmountKeyword → ConditionRow
amount_row compared.Items =
    Written (codes "count") (queue_name ∷ Operator ∷ Number ∷ [])
    (λ queue operator bound. condition.Compares (amount.Items queue) operator bound)
amount_row compared.Bytes =
    Written (codes "bytes") (stream_name ∷ Operator ∷ Number ∷ [])
    (λ stream operator bound. condition.Compares (amount.Bytes stream) operator bound)
amount_row compared.Messages =
    Written (codes "msgs") (message_name ∷ Operator ∷ Number ∷ [])
    (λ message operator bound. condition.Compares (amount.Messages message) operator bound)
amount_row compared.Bits =
    Written (codes "bits") (group_name ∷ Operator ∷ Number ∷ [])
    (λ group operator bound. condition.Compares (amount.Bits group) operator bound)
amount_row compared.Register =
    Written (codes "reg") (task_name ∷ Register ∷ Operator ∷ Number ∷ [])
    (λ task register operator bound.
    condition.Compares (amount.Register task register) operator bound)
amount_row compared.Pc =
    Written (codes "pc") (task_name ∷ Operator ∷ Number ∷ [])
    (λ task operator bound. condition.Compares (amount.Pc task) operator bound)
amount_row compared.Value =
    Written (codes "note") (task_name ∷ Index ∷ Operator ∷ Number ∷ [])
    (λ task index operator bound. condition.Compares (amount.Value task index) operator bound)
amount_row compared.Tick =
    Written (codes "tick") (Operator ∷ Number ∷ [])
    (λ operator bound. condition.Compares amount.Tick operator bound)

abbrev pub condition_row : ConditionKeyword → ConditionRow
condition_row (Compares of) = amount_row of
condition_row InPhase =
    Written (codes "phase") (task_name ∷ Phase ∷ []) (λ task name. condition.InPhase task name)

abbrev pub condition_keywords : List ConditionKeyword
condition_keywords =
    Compares compared.Items
    ∷ Compares compared.Bytes
    ∷ Compares compared.Messages
    ∷ Compares compared.Bits
    ∷ Compares compared.Register
    ∷ Compares compared.Pc
    ∷ Compares compared.Value
    ∷ Compares compared.Tick
    ∷ InPhase
    ∷ []

-- the keyword of a condition that is written so
abbrev pub condition_keyword_of : List ℕ → Option ConditionKeyword
condition_keyword_of word = find (λ k. bytes_eq word (text_of (condition_row k))) condition_keywords

-- ---- commands

-- what stands behind the words of a keyword: a word for each of these, maybe after a condition
pub data Operands : Type 0 where
  Plain : List CommandParameter → Operands
  WithCondition : List CommandParameter → Operands

-- one of these for each choice of values, maybe after a condition
abbrev pub MakesFrom : Type 0 → Operands → Type 0
MakesFrom Made (Plain parameters) = Makes Made parameters
MakesFrom Made (WithCondition parameters) = conditions.Condition → Makes Made parameters

-- how a command is written: its first word, its other words, and its operands
pub record Spelling : Type 0 where
  pub verb : List ℕ
  pub more : List (List ℕ)
  pub operands : Operands

-- the same, with what the operands make
pub data CommandRow (Made : Type 0) : Type 0 where
  Spelled : (spelling : Spelling) → MakesFrom Made spelling.operands → CommandRow Made

abbrev pub spelling_in : {Made : Type 0} → CommandRow Made → Spelling
spelling_in (Spelled spelling make) = spelling

abbrev spelled : List ℕ → List (List ℕ) → Operands → Spelling
spelled verb more operands = record { verb = verb; more = more; operands = operands }

-- an edit is asked for by `poke` and a second word
abbrev poked_by : List ℕ → List CommandParameter → Spelling
poked_by word parameters = spelled (codes "poke") (word ∷ []) (Plain parameters)

-- an interrupt is asked for by `isr` and a second word
abbrev raised_by : List ℕ → List CommandParameter → Spelling
raised_by word parameters = spelled (codes "isr") (word ∷ []) (Plain parameters)

-- what a move carries, as a request, and an edit and an interrupt
abbrev pub carrying : PlainCarried → PlainRequest
carrying of = request.Go (move.Carried of)

abbrev pub poke : PlainEdit → PlainRequest
poke edit = carrying (carried.Edit edit)

abbrev pub raise : PlainInterrupt → PlainRequest
raise interrupt = carrying (carried.Interrupt interrupt)

abbrev pub edit_row : EditKeyword → CommandRow PlainRequest
edit_row poked.Register =
    Spelled (poked_by (codes "reg") (task_name ∷ Register ∷ Number ∷ []))
    (λ task register value. poke (edit.Register task register value))
edit_row poked.Data =
    Spelled (poked_by (codes "data") (task_name ∷ Data ∷ []))
    (λ task bytes. poke (edit.Data task bytes))
edit_row poked.Pc =
    Spelled (poked_by (codes "pc") (task_name ∷ Number ∷ [])) (λ task pc. poke (edit.Pc task pc))
edit_row poked.Value =
    Spelled (poked_by (codes "note") (task_name ∷ Index ∷ Number ∷ []))
    (λ task index value. poke (edit.Value task index value))
edit_row poked.Bits =
    Spelled (poked_by (codes "group") (group_name ∷ Number ∷ []))
    (λ group bits. poke (edit.Bits group bits))
edit_row poked.Item =
    Spelled (poked_by (codes "item") (queue_name ∷ Number ∷ Data ∷ []))
    (λ queue index bytes. poke (edit.Item queue index bytes))
edit_row poked.Byte =
    Spelled (poked_by (codes "byte") (stream_name ∷ Number ∷ Number ∷ []))
    (λ stream index value. poke (edit.Byte stream index value))

abbrev pub interrupt_row : InterruptKeyword → CommandRow PlainRequest
interrupt_row raised.Send =
    Spelled (raised_by (codes "send") (queue_name ∷ Data ∷ []))
    (λ queue bytes. raise (interrupt.Send queue bytes))
interrupt_row raised.Notify =
    Spelled (raised_by (codes "notify") (task_name ∷ Index ∷ Number ∷ Action ∷ []))
    (λ task index value action. raise (interrupt.Notify task index value action))

-- what asks the timeline
abbrev pub request_row : RequestKeyword → CommandRow PlainRequest
request_row asked.Step =
    Spelled (spelled (codes "step") [] (Plain (Core ∷ []))) (λ core. request.Go (move.Core core))
request_row asked.Tick = Spelled (spelled (codes "tick") [] (Plain [])) (request.Go move.Tick)
request_row asked.Back =
    Spelled (spelled (codes "back") [] (Plain (Count ∷ []))) (λ count. request.Back count)
request_row asked.Forward =
    Spelled (spelled (codes "forward") [] (Plain (Count ∷ []))) (λ count. request.Forward count)
request_row asked.Redo =
    Spelled (spelled (codes "redo") [] (Plain (Count ∷ []))) (λ count. request.Redo count)
request_row asked.Until =
    Spelled (spelled (codes "until") [] (WithCondition (Count ∷ [])))
    (λ condition count. request.Until condition count)
request_row asked.BackUntil =
    Spelled (spelled (codes "back") (codes "until" ∷ []) (WithCondition []))
    (λ condition. request.BackUntil condition)
request_row asked.Trim =
    Spelled (spelled (codes "trim") [] (Plain (Number ∷ []))) (λ keep. request.Trim keep)
request_row (asked.Poke of) = edit_row of
request_row (asked.Interrupt of) = interrupt_row of

-- what asks it by a watch: the watch, and what is looked for
abbrev pub search_row : SearchKeyword → CommandRow (ℕ × Search)
search_row sought.Until =
    Spelled (spelled (codes "until") [] (Plain (parameter.Watch ∷ Count ∷ [])))
    (λ watch count. (watch, search.Until count))
search_row sought.BackUntil =
    Spelled (spelled (codes "back") (codes "until" ∷ []) (Plain (parameter.Watch ∷ [])))
    (λ watch. (watch, search.BackUntil))

-- the condition that is kept, and the number of the watch that is dropped
abbrev pub watch_row : CommandRow conditions.Condition
watch_row = Spelled (spelled (codes "watch") [] (WithCondition [])) (λ condition. condition)

abbrev pub unwatch_row : CommandRow ℕ
unwatch_row = Spelled (spelled (codes "unwatch") [] (Plain (Number ∷ []))) (λ number. number)

-- the word of a kind
abbrev pub word_of_kind : Kind → List ℕ
word_of_kind kind.Queue = codes "queue"
word_of_kind kind.QueueSet = codes "set"
word_of_kind kind.Stream = codes "stream"
word_of_kind kind.Message = codes "message"
word_of_kind kind.Group = codes "group"
word_of_kind kind.Task = codes "task"

-- a thing is shown by `show`, the word of its kind and its name: this is its number
abbrev pub thing_row : Kind → CommandRow ℕ
thing_row kind =
    Spelled (spelled (codes "show") (word_of_kind kind ∷ []) (Plain (Name kind ∷ [])))
    (λ number. number)

-- the word of what is of the debugger itself
abbrev pub word_of_overview : Overview → List ℕ
word_of_overview overview.Moves = codes "moves"
word_of_overview overview.Wheel = codes "wheel"
word_of_overview overview.Watches = codes "watches"

-- two words, and no operands
abbrev two_words : List ℕ → List ℕ → Spelling
two_words verb second = spelled verb (second ∷ []) (Plain [])

abbrev pub spelling_of : CommandKeyword → Spelling
spelling_of (Ask of) = spelling_in (request_row of)
spelling_of (AskByWatch of) = spelling_in (search_row of)
spelling_of TakeWheel = two_words (codes "wheel") (codes "take")
spelling_of GiveWheel = two_words (codes "wheel") (codes "give")
spelling_of Watch = spelling_in watch_row
spelling_of Unwatch = spelling_in unwatch_row
spelling_of (Show kind) = spelling_in (thing_row kind)
spelling_of keyword.Cores = two_words (codes "show") (codes "cores")
spelling_of (Look of) = two_words (codes "show") (word_of_overview of)

-- what a command has to do with the wheel: it takes it, it gives it, it is refused while another
-- session has it, or nothing of these
pub data Wheel : Type 0 where
  Taken : Wheel
  Given : Wheel
  Needed : Wheel
  Free : Wheel

-- What asks the timeline needs the wheel.
abbrev pub wheel_of : CommandKeyword → Wheel
wheel_of (Ask of) = Needed
wheel_of (AskByWatch of) = Needed
wheel_of TakeWheel = Taken
wheel_of GiveWheel = Given
wheel_of Watch = Free
wheel_of Unwatch = Free
wheel_of (Show kind) = Free
wheel_of keyword.Cores = Free
wheel_of (Look of) = Free

-- Is a command refused while another session has the wheel? To take it is, too.
abbrev pub is_needed : Wheel → Bool
is_needed Taken = true
is_needed Given = false
is_needed Needed = true
is_needed Free = false

abbrev pub needs_wheel : CommandKeyword → Bool
needs_wheel keyword = is_needed (wheel_of keyword)

-- The keywords, those of one first word behind each other. What a word alone is comes first, and a
-- condition before a watch.
abbrev pub keywords : List CommandKeyword
keywords =
    Ask asked.Step ∷ Ask asked.Tick ∷ Ask asked.Back
    ∷ Ask asked.BackUntil ∷ AskByWatch sought.BackUntil ∷ Ask asked.Forward
    ∷ Show kind.Task ∷ Show kind.Queue ∷ Show kind.QueueSet ∷ Show kind.Stream
    ∷ Show kind.Message ∷ Show kind.Group
    ∷ keyword.Cores ∷ Look overview.Moves ∷ Look overview.Wheel ∷ Look overview.Watches
    ∷ Ask asked.Redo ∷ Ask asked.Until ∷ AskByWatch sought.Until
    ∷ Ask (asked.Poke poked.Register) ∷ Ask (asked.Poke poked.Data) ∷ Ask (asked.Poke poked.Pc)
    ∷ Ask (asked.Poke poked.Value) ∷ Ask (asked.Poke poked.Bits) ∷ Ask (asked.Poke poked.Item)
    ∷ Ask (asked.Poke poked.Byte)
    ∷ Ask (asked.Interrupt raised.Send) ∷ Ask (asked.Interrupt raised.Notify)
    ∷ TakeWheel ∷ GiveWheel ∷ Ask asked.Trim ∷ Watch ∷ Unwatch
    ∷ []
