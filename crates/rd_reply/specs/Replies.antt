-- The text of replies.
use Rattle.std.specs.Prelude.{ℕ, zero, suc, ◌==◌, Bool, false, codes, decimal, List, [], ◌∷◌, ◌++◌}
use Rattle.std.specs.Prelude.{length, Option, Some, None, if◌then◌else◌}
use Rattle.std.specs.List.{flat_map, zip}
use Rattle.hex.specs.Hex.{encode_lower}
use Rattle.rd_refusal.specs.declared.refusal.Refusal.{Refusal}
use Rattle.rd_refusal.specs.declared.refusal.Refusal.TheVariants.{NoTask, TickLimit, TooFar}
use Rattle.rd_refusal.specs.declared.refusal.Refusal.TheVariants.{NothingUndone, MovesFull, NoSuch}
use Rattle.rd_refusal.specs.declared.refusal.Refusal.TheVariants.{BadEdit, NoIsr, NoMemory}
use Rattle.rd_refusal.specs.declared.refusal.Refusal.TheVariants.{Syntax, LineTooLong, HistoryFull}
use Rattle.rd_refusal.specs.declared.refusal.Refusal.TheVariants.{WatchesFull, NoWatch, NotHolder}
use Rattle.rd_refusal.specs.declared.refusal.Refusal.TheVariants.{Broken, Full}
use Rattle.rd_refusal.specs.declared.refusal.Refusal.TheVariants as refusal
use Rattle.rd_names.specs.Names.{NamesView}
use Rattle.rd_group.specs.GroupSnapshot.{GroupSnapshot}
use Rattle.rd_group.specs.declared.wish.OnMet.{OnMet}
use Rattle.rd_group.specs.declared.wish.OnMet.TheVariants.{Keep, Clear}
use Rattle.rd_group.specs.declared.wish.WaitFor.{WaitFor}
use Rattle.rd_group.specs.declared.wish.WaitFor.TheVariants.{Any, All}
use Rattle.rd_group.specs.declared.wish.Wish.{Wish}
use Rattle.rd_notify.specs.declared.entries.Entry.{Entry}
use Rattle.rd_notify.specs.declared.entries.EntryState.{EntryState}
use Rattle.rd_notify.specs.declared.entries.EntryState.TheVariants.{Idle, Waiting, Received}
use Rattle.rd_queue.specs.declared.waiting_list.WaitingList.{WaitingList}
use Rattle.rd_queue.specs.declared.waiting_list.WaitingList.TheVariants.{Receiving, Sending}
use Rattle.rd_queue.specs.QueueSnapshot.{QueueSnapshot}
use Rattle.rd_queue.specs.QueueSetSnapshot.{QueueSetSnapshot}
use Rattle.rd_state.specs.declared.phase.Cause.{Cause}
use Rattle.rd_state.specs.declared.phase.Cause.TheVariants.{SetFull, TwoReaders, TwoWriters}
use Rattle.rd_state.specs.declared.phase.Cause.TheVariants.{EmptyData, BadBits}
use Rattle.rd_state.specs.declared.phase.Held.{Held}
use Rattle.rd_state.specs.declared.phase.Held.TheVariants as held
use Rattle.rd_state.specs.declared.phase.Phase.{Phase}
use Rattle.rd_state.specs.declared.phase.Phase.TheVariants.{Run, Again, Given, Wait}
use Rattle.rd_state.specs.declared.phase.Phase.TheVariants.{Ended, Failed}
use Rattle.rd_state.specs.declared.phase.Listed.{Listed}
use Rattle.rd_state.specs.declared.phase.Listed.TheVariants.{Queue, QueueSet, Group}
use Rattle.rd_state.specs.declared.phase.Place.{Place}
use Rattle.rd_state.specs.declared.phase.Place.TheVariants as sort
use Rattle.rd_state.specs.Snapshot.{Snapshot, TaskSnapshot}
use Rattle.rd_stream.specs.declared.side.Side.{Side}
use Rattle.rd_stream.specs.declared.side.Side.TheVariants.{Reader, Writer}
use Rattle.rd_stream.specs.MessageSnapshot.{MessageSnapshot}
use Rattle.rd_stream.specs.Messages.{bytes_held}
use Rattle.rd_stream.specs.StreamSnapshot.{StreamSnapshot}
use Rattle.rd_reply.specs.Names.{name_at, name_or_dash}
use Rattle.rd_reply.specs.declared.reply.Reply.{Reply}
use Rattle.rd_reply.specs.declared.reply.Reply.TheVariants as answer
use Rattle.rd_moves.specs.declared.answer.Answer.{Answer}
use Rattle.rd_moves.specs.declared.answer.Answer.TheVariants as given
use Rattle.rd_moves.specs.declared.answer.SearchEnd.{SearchEnd}
use Rattle.rd_moves.specs.declared.answer.SearchEnd.TheVariants.{Met, Limit, Start}
use Rattle.rd_reply.specs.declared.watches.WatchShown.{WatchShown}

-- a text and its LF
abbrev pub line_of : List ℕ → List ℕ
line_of text = text ++ 10 ∷ []

-- ---- answers to moves, and refusals

-- the cause of a refusal, by its name; behind TooFar stands how many moves have a record, and
-- behind Held which session has the wheel
abbrev pub refusal_text : Refusal → List ℕ
refusal_text NoTask = codes "NoTask"
refusal_text TickLimit = codes "TickLimit"
refusal_text (TooFar kept) = codes "TooFar " ++ decimal kept
refusal_text NothingUndone = codes "NothingUndone"
refusal_text MovesFull = codes "MovesFull"
refusal_text (refusal.Held holder) = codes "Held " ++ decimal holder
refusal_text NoSuch = codes "NoSuch"
refusal_text BadEdit = codes "BadEdit"
refusal_text NoIsr = codes "NoIsr"
refusal_text HistoryFull = codes "HistoryFull"
refusal_text NoMemory = codes "NoMemory"
refusal_text Syntax = codes "Syntax"
refusal_text LineTooLong = codes "LineTooLong"
refusal_text WatchesFull = codes "WatchesFull"
refusal_text NoWatch = codes "NoWatch"
refusal_text NotHolder = codes "NotHolder"
refusal_text Broken = codes "Broken"
refusal_text Full = codes "Full"

-- how many moves are done now
abbrev pub done_text : ℕ → List ℕ
done_text at = codes "ok at " ++ decimal at

-- how many moves are done now, and the answer of the interrupt that was the last of them
abbrev pub answered_text : ℕ → ℕ → List ℕ
answered_text at answer = done_text at ++ codes " isr " ++ decimal answer

-- how a search for a condition ended: where it holds, at the most moves that it might make, or as
-- far back as records are kept
abbrev pub end_text : SearchEnd → List ℕ
end_text Met = codes "met"
end_text Limit = codes "limit"
end_text Start = codes "start"

-- how many moves are done, how many are undone, and of how many of those done a record is kept
abbrev pub moves_text : ℕ → ℕ → ℕ → List ℕ
moves_text done undone kept =
    codes "moves " ++ decimal done ++ codes " undone " ++ decimal undone
    ++ codes " kept " ++ decimal kept

-- which session has the wheel; `-` for nobody
abbrev pub number_or_dash : Option ℕ → List ℕ
number_or_dash None = codes "-"
number_or_dash (Some number) = decimal number

abbrev pub holder_text : Option ℕ → List ℕ
holder_text holder = codes "wheel " ++ number_or_dash holder

-- the number of a watch that is kept now, or was dropped
abbrev pub watch_text : ℕ → List ℕ
watch_text number = codes "ok watch " ++ decimal number

-- what is replied to a request of the timeline
abbrev pub answer_reply : Answer → Reply
answer_reply (given.Done at) = answer.Done at
answer_reply (given.Answered at said) = answer.Answered at said
answer_reply (given.Ended at end) = answer.Ended at end
answer_reply (given.Refused refusal) = answer.Refused refusal

abbrev pub reply_text : Reply → List ℕ
reply_text (answer.Done at) = done_text at
reply_text (answer.Answered at answer) = answered_text at answer
reply_text (answer.Ended at end) = done_text at ++ codes " " ++ end_text end
reply_text (answer.Moves done undone kept) = moves_text done undone kept
reply_text answer.Wheel = codes "ok wheel"
reply_text (answer.Holder holder) = holder_text holder
reply_text (answer.Watch number) = watch_text number
reply_text (answer.Refused refusal) = codes "no " ++ refusal_text refusal

-- ---- parts of views

-- what stands before a member: a `,`, but nothing before the first
abbrev pub comma_at : ℕ → List ℕ
comma_at zero = []
comma_at (suc index) = codes ","

-- the members, with `,` between each two
abbrev pub separated : {X : Type 0} → (X → List ℕ) → List X → List ℕ
separated text [] = []
separated text (x ∷ xs) = text x ++ flat_map (λ y. 44 ∷ text y) xs

-- a list; `-` where it is empty
abbrev pub list_text : {X : Type 0} → (X → List ℕ) → List X → List ℕ
list_text text [] = codes "-"
list_text text (x ∷ xs) = separated text (x ∷ xs)

-- two lower-case hexadecimal digits a byte; `-` for no bytes
abbrev pub bytes_text : List ℕ → List ℕ
bytes_text [] = codes "-"
bytes_text (byte ∷ bytes) = encode_lower (byte ∷ bytes)

-- a deadline's tick; `max` for none
abbrev pub deadline_text : Option ℕ → List ℕ
deadline_text None = codes "max"
deadline_text (Some tick) = decimal tick

-- what the list of a queue where a task waits is called
abbrev pub list_name : WaitingList → List ℕ
list_name Receiving = codes "recv"
list_name Sending = codes "send"

-- a list in which tasks wait, by the name of its queue, its set or its event group
abbrev pub listed_text : NamesView → Listed → List ℕ
listed_text names (Queue queue list) =
    list_name list ++ codes ":" ++ name_at names.queues queue
listed_text names (QueueSet queue_set) =
    codes "set:" ++ name_at names.queue_sets queue_set
listed_text names (Group group) = codes "group:" ++ name_at names.groups group

-- what the place at a side of a stream buffer is called, and of a message buffer
abbrev pub stream_side_name : Side → List ℕ
stream_side_name Reader = codes "sread"
stream_side_name Writer = codes "swrite"

abbrev pub message_side_name : Side → List ℕ
message_side_name Reader = codes "mread"
message_side_name Writer = codes "mwrite"

-- a place of a buffer, by the buffer's name
abbrev pub held_text : NamesView → Held → List ℕ
held_text names (held.Stream stream side) =
    stream_side_name side ++ codes ":" ++ name_at names.streams stream
held_text names (held.Message message side) =
    message_side_name side ++ codes ":" ++ name_at names.messages message

-- a place where tasks wait: its list, the place of a buffer, or the index of an entry
abbrev pub place_text : NamesView → Place → List ℕ
place_text names (sort.Listed list) = listed_text names list
place_text names (sort.Held held) = held_text names held
place_text names (sort.Entry index) = codes "note:" ++ decimal index

-- why a call failed
abbrev pub cause_text : Cause → List ℕ
cause_text SetFull = codes "SetFull"
cause_text TwoReaders = codes "TwoReaders"
cause_text TwoWriters = codes "TwoWriters"
cause_text EmptyData = codes "EmptyData"
cause_text BadBits = codes "BadBits"

abbrev pub phase_text : NamesView → Phase → List ℕ
phase_text names Run = codes "run"
phase_text names (Again deadline) = codes "again:" ++ deadline_text deadline
phase_text names (Given bits) = codes "given:" ++ decimal bits
phase_text names (Wait place deadline) =
    codes "wait:" ++ place_text names place ++ codes ":" ++ deadline_text deadline
phase_text names Ended = codes "ended"
phase_text names (Failed cause) = codes "failed:" ++ cause_text cause

abbrev pub entry_state_text : EntryState → List ℕ
entry_state_text Idle = codes "idle"
entry_state_text Waiting = codes "waiting"
entry_state_text Received = codes "received"

-- a notification entry
abbrev pub entry_text : Entry → List ℕ
entry_text entry = decimal entry.value ++ codes ":" ++ entry_state_text entry.state

abbrev pub is_task : ℕ → Option ℕ → Bool
is_task task None = false
is_task task (Some running) = running == task

-- the core's number; `-` for none
abbrev pub running_core_text : Option ℕ → List ℕ
running_core_text None = codes "-"
running_core_text (Some core) = decimal core

-- ---- views

-- how many there are, and how many there is room for
abbrev pub counts_text : ℕ → ℕ → List ℕ
counts_text count capacity = decimal count ++ codes "/" ++ decimal capacity

-- what is in a queue
abbrev pub contents_text : QueueSnapshot → List ℕ
contents_text queue =
    counts_text (length queue.items) queue.capacity ++ codes " items "
    ++ list_text bytes_text queue.items

-- who waits to receive and to send, by the tasks' names
abbrev pub waiting_text : NamesView → QueueSnapshot → List ℕ
waiting_text names queue =
    codes " recv " ++ list_text (name_at names.tasks) queue.receiving
    ++ codes " send " ++ list_text (name_at names.tasks) queue.sending

-- the set that a queue is a member of, by its name; `-` for none
abbrev pub membership_text : NamesView → QueueSnapshot → List ℕ
membership_text names queue =
    codes " set " ++ name_or_dash names.queue_sets queue.queue_set

-- a queue of that name
abbrev pub queue_text : NamesView → List ℕ → QueueSnapshot → List ℕ
queue_text names name queue =
    codes "queue " ++ name ++ codes " " ++ contents_text queue ++ waiting_text names queue
    ++ membership_text names queue

-- what is in a queue set: handles, the oldest first, by the names of their queues
abbrev pub handles_text : NamesView → QueueSetSnapshot → List ℕ
handles_text names queue_set =
    counts_text (length queue_set.handles) queue_set.capacity ++ codes " handles "
    ++ list_text (name_at names.queues) queue_set.handles

-- who waits to select, by the tasks' names
abbrev pub selecting_text : NamesView → QueueSetSnapshot → List ℕ
selecting_text names queue_set =
    codes " wait " ++ list_text (name_at names.tasks) queue_set.waiting

-- a queue set of that name
abbrev pub queue_set_text : NamesView → List ℕ → QueueSetSnapshot → List ℕ
queue_set_text names name queue_set =
    codes "set " ++ name ++ codes " " ++ handles_text names queue_set
    ++ selecting_text names queue_set

-- whom the reader's and the writer's place of a buffer name, by the tasks' names; `-` for nobody
abbrev pub holders_text : NamesView → Option ℕ → Option ℕ → List ℕ
holders_text names reader writer =
    codes " reader " ++ name_or_dash names.tasks reader
    ++ codes " writer " ++ name_or_dash names.tasks writer

-- what is in a stream buffer, and how many bytes have to be there to complete a reader's wait
abbrev pub stream_contents_text : StreamSnapshot → List ℕ
stream_contents_text stream =
    counts_text (length stream.bytes) stream.capacity
    ++ codes " trigger " ++ decimal stream.trigger ++ codes " bytes " ++ bytes_text stream.bytes

-- a stream buffer of that name
abbrev pub stream_text : NamesView → List ℕ → StreamSnapshot → List ℕ
stream_text names name stream =
    codes "stream " ++ name ++ codes " " ++ stream_contents_text stream
    ++ holders_text names stream.holders.reader stream.holders.writer

-- what is in a message buffer, where each message takes four bytes more than it has
abbrev pub message_contents_text : MessageSnapshot → List ℕ
message_contents_text buffer =
    counts_text (bytes_held buffer.messages) buffer.capacity ++ codes " messages "
    ++ list_text bytes_text buffer.messages

-- a message buffer of that name
abbrev pub message_text : NamesView → List ℕ → MessageSnapshot → List ℕ
message_text names name buffer =
    codes "message " ++ name ++ codes " " ++ message_contents_text buffer
    ++ holders_text names buffer.holders.reader buffer.holders.writer

-- whether a task waits for any of its bits or for all, and what becomes of them once they have come
abbrev pub wait_for_name : WaitFor → List ℕ
wait_for_name Any = codes "any"
wait_for_name All = codes "all"

abbrev pub on_met_name : OnMet → List ℕ
on_met_name Keep = codes "keep"
on_met_name Clear = codes "clear"

-- what a task waits for
abbrev pub wish_text : Wish → List ℕ
wish_text wish =
    decimal wish.bits ++ codes ":" ++ wait_for_name wish.wait_for ++ codes ":"
    ++ on_met_name wish.on_met

-- a task that waits, by its name, with its wish
abbrev pub waiter_text : NamesView → ℕ × Wish → List ℕ
waiter_text names waiter = name_at names.tasks waiter.0 ++ codes ":" ++ wish_text waiter.1

-- an event group of that name, with those who wait in the order of arrival
abbrev pub group_text : NamesView → List ℕ → GroupSnapshot → List ℕ
group_text names name group =
    codes "group " ++ name ++ codes " bits " ++ decimal group.bits ++ codes " wait "
    ++ list_text (waiter_text names) (zip group.waiting group.wishes)

abbrev pub ticks_text : Snapshot → List ℕ
ticks_text s = codes " tick " ++ decimal s.tick ++ codes " turn " ++ decimal s.turn

-- who runs and who is ready, by the tasks' names, with the tick and the turn
abbrev pub cores_text : NamesView → Snapshot → List ℕ
cores_text names s =
    codes "cores " ++ list_text (name_or_dash names.tasks) s.cores
    ++ codes " ready " ++ list_text (name_at names.tasks) s.ready ++ ticks_text s

-- what a task has, from its registers on
abbrev pub state_text : TaskSnapshot → List ℕ
state_text task =
    codes " regs " ++ list_text decimal task.registers ++ codes " data " ++ bytes_text task.bytes
    ++ codes " notes " ++ list_text entry_text task.entries

-- a task of that name that runs on that core, if on any
abbrev pub task_text : NamesView → List ℕ → Option ℕ → TaskSnapshot → List ℕ
task_text names name core task =
    codes "task " ++ name ++ codes " core " ++ running_core_text core
    ++ codes " pc " ++ decimal task.pc ++ codes " phase " ++ phase_text names task.phase
    ++ state_text task

-- a watch, by its number, and whether its condition holds
abbrev pub watch_shown_text : WatchShown → List ℕ
watch_shown_text watch =
    decimal watch.number ++ (if watch.holds then codes ":holds" else codes ":fails")

-- the watches of a session
abbrev pub watches_text : List WatchShown → List ℕ
watches_text watches = codes "watches " ++ list_text watch_shown_text watches
