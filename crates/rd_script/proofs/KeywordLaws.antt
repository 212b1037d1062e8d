-- The keyword of a word is written so, each keyword is found by how it is written, and what it makes is within its
-- application.
use denote.Ref.{Bor}
use Rattle.std.proofs.Common.{◌≡◌, ◌∙◌, ℕ, ◌<◌, ◌≤◌, true, false, cond, List, [], ◌∷◌, length, Option, Some, None, option_map, refl, sym, ap, subst}
use Rattle.std.specs.Prelude.{IfSome}
use Rattle.std.specs.List.{find}
use Rattle.std.specs.Str.{bytes_eq}
use Rattle.std.proofs.lemmas.Slice.Eq.{bytes_eq-Decides}
use Rattle.rd_app.specs.Application.{IsOperand, IsWithin}
use Rattle.rd_script.specs.Named.{NamedApplication, runs_of}
use Rattle.rd_script.specs.Named.{names_in}
use Rattle.rd_script.proofs.LimitLaws.{AreNamedObjects}
use Rattle.rd_script.specs.declared.keyword.Parameter.{Parameter}
use Rattle.rd_script.specs.declared.keyword.Parameter.TheVariants.{Register, Number, Target, Data, Time, Operand, Index, Room, Action, OnExit, WaitFor, OnMet, Name}
use Rattle.rd_script.specs.declared.keyword.Keyword.{Keyword}
use Rattle.rd_script.specs.declared.keyword.Keyword.TheVariants as keyword
use Rattle.rd_script.specs.declared.keyword.LocalKeyword.{LocalKeyword}
use Rattle.rd_script.specs.declared.keyword.LocalKeyword.TheVariants as of
use Rattle.rd_script.specs.declared.keyword.QueueKeyword.{QueueKeyword}
use Rattle.rd_script.specs.declared.keyword.QueueKeyword.TheVariants.{Send, Front, Receive, Peek, Overwrite, Reset, Count, Spaces, AddToSet, RemoveFromSet}
use Rattle.rd_script.specs.declared.keyword.QueueSetKeyword.{QueueSetKeyword}
use Rattle.rd_script.specs.declared.keyword.QueueSetKeyword.TheVariants.{Select}
use Rattle.rd_script.specs.declared.keyword.StreamKeyword.{StreamKeyword}
use Rattle.rd_script.specs.declared.keyword.StreamKeyword.TheVariants as stream_keyword
use Rattle.rd_script.specs.declared.keyword.MessageKeyword.{MessageKeyword}
use Rattle.rd_script.specs.declared.keyword.MessageKeyword.TheVariants as message_keyword
use Rattle.rd_script.specs.declared.keyword.GroupKeyword.{GroupKeyword}
use Rattle.rd_script.specs.declared.keyword.GroupKeyword.TheVariants as group_keyword
use Rattle.rd_script.specs.declared.keyword.NotifyKeyword.{NotifyKeyword}
use Rattle.rd_script.specs.declared.keyword.NotifyKeyword.TheVariants as told
use Rattle.rd_script.specs.Keywords.{Makes, InstrRow, Value, Written, first_written, group_row, keyword_of, local_row, message_row, notify_row, operands_of, queue_row, row_of, queue_set_row, stream_row, text_of, texts_of}
use Rattle.rd_script.specs.Spelling.{IsForQueue}

same_bytes : (xs ys : List ℕ) → bytes_eq xs ys ≡ true → xs ≡ ys
same_bytes xs ys e = (bytes_eq-Decides xs ys).0 e

pub text_found : (word : List ℕ) (others : List Keyword) (k : Keyword) → find (λ k. bytes_eq word (text_of (row_of k))) others ≡ Some k → word ≡ (text_of (row_of k))
text_found word [] k e = absurd cc
text_found word (first ∷ others) k e =
    elim (bytes_eq word (text_of (row_of first))) as
    (λ b. (bytes_eq word (text_of (row_of first)) ≡ b) → cond b (Some first) (find (λ k. bytes_eq word (text_of (row_of k))) others) ≡ Some k → word ≡ (text_of (row_of k))) [
      | true ↦ λ same. λ e. same_bytes word (text_of (row_of first)) same ∙ ap (λ (k : Keyword). (text_of (row_of k))) (let one : first ≡ k = cc in one)
      | false ↦ λ same. text_found word others k
    ] refl e

-- what the code's table has at a word
pub keyword_found : (word : List ℕ) (others : List Keyword)
    → option_map (λ found. found.1) (first_written word (texts_of others)) ≡ find (λ k. bytes_eq word (text_of (row_of k))) others
keyword_found word [] = refl
keyword_found word (first ∷ others) =
    elim (bytes_eq word (text_of (row_of first))) as
    (λ b. option_map (λ found. found.1) (cond b (Some (operands_of (row_of first), first)) (first_written word (texts_of others)))
    ≡ cond b (Some first) (find (λ k. bytes_eq word (text_of (row_of k))) others)) [
      | true ↦ refl
      | false ↦ keyword_found word others
    ]

pub operands_found : (word : List ℕ) (others : List Keyword) → IfSome (first_written word (texts_of others)) (λ found. found.0 ≡ operands_of (row_of found.1))
operands_found word [] = tt
operands_found word (first ∷ others) =
    elim (bytes_eq word (text_of (row_of first))) as
    (λ b. IfSome (cond b (Some (operands_of (row_of first), first)) (first_written word (texts_of others))) (λ found. found.0 ≡ operands_of (row_of found.1))) [
      | true ↦ refl
      | false ↦ operands_found word others
    ]

-- the same of a row as a contract sees it
pub keyword_shown : (row : Option (Bor (List Parameter) × Keyword))
    → option_map (λ found. found.1) row ≡ option_map (λ found. found.1) (option_map {U = List Parameter × Keyword} (λ found. (found.0.now, found.1)) row)
keyword_shown (Some found) = refl
keyword_shown None = refl

pub operands_shown : (row : Option (Bor (List Parameter) × Keyword)) (found : Option (List Parameter × Keyword))
    → option_map (λ found. (found.0.now, found.1)) row ≡ found → IfSome found (λ found. found.0 ≡ operands_of (row_of found.1))
    → IfSome row (λ found. found.0.now ≡ operands_of (row_of found.1))
operands_shown (Some row) found e h = subst (λ found. IfSome found (λ found. found.0 ≡ operands_of (row_of found.1))) (sym e) h
operands_shown None found e h = tt

-- no keyword is written as another
local_again : (k : LocalKeyword) → keyword_of (text_of (local_row k)) ≡ Some (keyword.Local k)
local_again of.Set = refl
local_again of.Add = refl
local_again of.Move = refl
local_again of.Data = refl
local_again of.Pack = refl
local_again of.Unpack = refl
local_again of.Jump = refl
local_again of.JumpZero = refl
local_again of.End = refl

queue_again : (k : QueueKeyword) → keyword_of (text_of (queue_row k)) ≡ Some (keyword.Queue k)
queue_again Send = refl
queue_again Front = refl
queue_again Receive = refl
queue_again Peek = refl
queue_again Overwrite = refl
queue_again Reset = refl
queue_again Count = refl
queue_again Spaces = refl
queue_again AddToSet = refl
queue_again RemoveFromSet = refl

queue_set_again : (k : QueueSetKeyword) → keyword_of (text_of (queue_set_row k)) ≡ Some (keyword.QueueSet k)
queue_set_again Select = refl

stream_again : (k : StreamKeyword) → keyword_of (text_of (stream_row k)) ≡ Some (keyword.Stream k)
stream_again stream_keyword.Write = refl
stream_again stream_keyword.Read = refl
stream_again stream_keyword.Reset = refl
stream_again stream_keyword.SetTrigger = refl
stream_again stream_keyword.Count = refl
stream_again stream_keyword.Spaces = refl

message_again : (k : MessageKeyword) → keyword_of (text_of (message_row k)) ≡ Some (keyword.Message k)
message_again message_keyword.Write = refl
message_again message_keyword.Read = refl
message_again message_keyword.Reset = refl
message_again message_keyword.Spaces = refl
message_again message_keyword.NextLength = refl

group_again : (k : GroupKeyword) → keyword_of (text_of (group_row k)) ≡ Some (keyword.Group k)
group_again group_keyword.Set = refl
group_again group_keyword.Clear = refl
group_again group_keyword.Get = refl
group_again group_keyword.Wait = refl
group_again group_keyword.Sync = refl

notify_again : (k : NotifyKeyword) → keyword_of (text_of (notify_row k)) ≡ Some (keyword.Notify k)
notify_again told.Notify = refl
notify_again told.Query = refl
notify_again told.Take = refl
notify_again told.Wait = refl
notify_again told.ClearState = refl
notify_again told.ClearValue = refl

pub keyword_again : (k : Keyword) → keyword_of (text_of (row_of k)) ≡ Some k
keyword_again (keyword.Local k) = local_again k
keyword_again (keyword.Queue k) = queue_again k
keyword_again (keyword.QueueSet k) = queue_set_again k
keyword_again (keyword.Stream k) = stream_again k
keyword_again (keyword.Message k) = message_again k
keyword_again (keyword.Group k) = group_again k
keyword_again (keyword.Notify k) = notify_again k

-- The objects of an application are within the limits, and each of its tasks has its name.
pub record AreThere (app : NamedApplication) : Type 0 where
  pub objects : AreNamedObjects app.objects
  pub tasks : length app.tasks.names ≡ length app.tasks.things

-- what an operand of that kind may stand for
abbrev pub IsValue : NamedApplication → ℕ → (parameter : Parameter) → Value parameter → Type 0
IsValue app len Register register = register < 8
IsValue app len Number value = Unit {0}
IsValue app len Target target = target < len
IsValue app len Data bytes = length bytes ≤ 256
IsValue app len Time wait = IsOperand wait
IsValue app len Operand value = IsOperand value
IsValue app len Index index = index < app.entries
IsValue app len Room room = (0 < room) × (room ≤ 256)
IsValue app len Action action = Unit {0}
IsValue app len OnExit exit = Unit {0}
IsValue app len WaitFor wait_for = Unit {0}
IsValue app len OnMet on_met = Unit {0}
IsValue app len (Name kind) number = number < length (names_in app.objects app.tasks.names kind)

-- Whatever its operands stand for, what a keyword makes is within the application.
abbrev pub MakesWithin : NamedApplication → ℕ → (parameters : List Parameter) → Makes parameters → Type 0
MakesWithin app len [] made = IsForQueue app.objects made → IsWithin (runs_of app) len made
MakesWithin app len (parameter ∷ others) make = (value : Value parameter) → IsValue app len parameter value → MakesWithin app len others (make value)

abbrev pub RowWithin : NamedApplication → ℕ → InstrRow → Type 0
RowWithin app len (Written text operands make) = MakesWithin app len operands make

local_within : (app : NamedApplication) (len : ℕ) (k : LocalKeyword) → RowWithin app len (local_row k)
local_within app len of.Set = λ register there value _ fits. there
local_within app len of.Add = λ register there value _ fits. there
local_within app len of.Move = λ into there from also_there fits. (there, also_there)
local_within app len of.Data = λ bytes few fits. few
local_within app len of.Pack = λ register there fits. there
local_within app len of.Unpack = λ register there fits. there
local_within app len of.Jump = λ target there fits. there
local_within app len of.JumpZero = λ register there target also_there fits. (there, also_there)
local_within app len of.End = λ fits. tt

queue_within : (app : NamedApplication) (len : ℕ) → AreThere app → (k : QueueKeyword) → RowWithin app len (queue_row k)
queue_within app len there Send = λ queue named wait read fits. (rw (← there.objects.named_queues.paired) named, read, fits)
queue_within app len there Front = λ queue named wait read fits. (rw (← there.objects.named_queues.paired) named, read, fits)
queue_within app len there Receive = λ queue named wait read fits. (rw (← there.objects.named_queues.paired) named, read, fits)
queue_within app len there Peek = λ queue named wait read fits. (rw (← there.objects.named_queues.paired) named, read, fits)
queue_within app len there Overwrite = λ queue named fits. (rw (← there.objects.named_queues.paired) named, tt, fits)
queue_within app len there Reset = λ queue named fits. (rw (← there.objects.named_queues.paired) named, tt, fits)
queue_within app len there Count = λ queue named fits. (rw (← there.objects.named_queues.paired) named, tt, fits)
queue_within app len there Spaces = λ queue named fits. (rw (← there.objects.named_queues.paired) named, tt, fits)
queue_within app len there AddToSet = λ queue named queue_set also_named fits. (rw (← there.objects.named_queues.paired) named, rw (← there.objects.named_queue_sets.paired) also_named, fits)
queue_within app len there RemoveFromSet = λ queue named queue_set also_named fits. (rw (← there.objects.named_queues.paired) named, rw (← there.objects.named_queue_sets.paired) also_named, fits)

queue_set_within : (app : NamedApplication) (len : ℕ) → AreThere app → (k : QueueSetKeyword) → RowWithin app len (queue_set_row k)
queue_set_within app len there Select = λ queue_set named wait read fits. (rw (← there.objects.named_queue_sets.paired) named, read)

stream_within : (app : NamedApplication) (len : ℕ) → AreThere app → (k : StreamKeyword) → RowWithin app len (stream_row k)
stream_within app len there stream_keyword.Write = λ stream named wait read fits. (rw (← there.objects.named_streams.paired) named, read)
stream_within app len there stream_keyword.Read = λ stream named room takes wait read fits. (rw (← there.objects.named_streams.paired) named, (takes.0, takes.1, read))
stream_within app len there stream_keyword.Reset = λ stream named fits. (rw (← there.objects.named_streams.paired) named, tt)
stream_within app len there stream_keyword.SetTrigger = λ stream named trigger read fits. (rw (← there.objects.named_streams.paired) named, read)
stream_within app len there stream_keyword.Count = λ stream named fits. (rw (← there.objects.named_streams.paired) named, tt)
stream_within app len there stream_keyword.Spaces = λ stream named fits. (rw (← there.objects.named_streams.paired) named, tt)

message_within : (app : NamedApplication) (len : ℕ) → AreThere app → (k : MessageKeyword) → RowWithin app len (message_row k)
message_within app len there message_keyword.Write = λ message named wait read fits. (rw (← there.objects.named_messages.paired) named, read)
message_within app len there message_keyword.Read = λ message named room takes wait read fits. (rw (← there.objects.named_messages.paired) named, (takes.0, takes.1, read))
message_within app len there message_keyword.Reset = λ message named fits. (rw (← there.objects.named_messages.paired) named, tt)
message_within app len there message_keyword.Spaces = λ message named fits. (rw (← there.objects.named_messages.paired) named, tt)
message_within app len there message_keyword.NextLength = λ message named fits. (rw (← there.objects.named_messages.paired) named, tt)

group_within : (app : NamedApplication) (len : ℕ) → AreThere app → (k : GroupKeyword) → RowWithin app len (group_row k)
group_within app len there group_keyword.Set = λ group named bits read fits. (rw (← there.objects.named_groups.paired) named, read)
group_within app len there group_keyword.Clear = λ group named bits read fits. (rw (← there.objects.named_groups.paired) named, read)
group_within app len there group_keyword.Get = λ group named fits. (rw (← there.objects.named_groups.paired) named, tt)
group_within app len there group_keyword.Wait = λ group named bits read wait_for _ on_met _ wait also_read fits. (rw (← there.objects.named_groups.paired) named, (read, also_read))
group_within app len there group_keyword.Sync = λ group named set read bits also_read wait read_too fits. (rw (← there.objects.named_groups.paired) named, (read, also_read, read_too))

notify_within : (app : NamedApplication) (len : ℕ) → AreThere app → (k : NotifyKeyword) → RowWithin app len (notify_row k)
notify_within app len there told.Notify = λ task named index few value read action _ fits. (rw (← there.tasks) named, few, read)
notify_within app len there told.Query = λ task named index few value read action _ fits. (rw (← there.tasks) named, few, read)
notify_within app len there told.Take = λ index few exit _ wait read fits. (few, read)
notify_within app len there told.Wait = λ index few entry_bits read exit_bits also_read wait read_too fits. (few, read, also_read, read_too)
notify_within app len there told.ClearState = λ task named index few fits. (rw (← there.tasks) named, few)
notify_within app len there told.ClearValue = λ task named index few bits read fits. (rw (← there.tasks) named, few, read)

pub row_within : (app : NamedApplication) (len : ℕ) → AreThere app → (k : Keyword) → RowWithin app len (row_of k)
row_within app len there (keyword.Local k) = local_within app len k
row_within app len there (keyword.Queue k) = queue_within app len there k
row_within app len there (keyword.QueueSet k) = queue_set_within app len there k
row_within app len there (keyword.Stream k) = stream_within app len there k
row_within app len there (keyword.Message k) = message_within app len there k
row_within app len there (keyword.Group k) = group_within app len there k
row_within app len there (keyword.Notify k) = notify_within app len there k
