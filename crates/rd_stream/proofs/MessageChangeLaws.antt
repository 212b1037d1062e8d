-- Changes of a message buffer, undone each by its inverse.
use Rattle.std.proofs.Common.{◌≡◌, ◌∙◌, ℕ, ◌+◌, ◌-◌, ◌<◌, ◌≤◌, List, [], ◌∷◌, ◌++◌, length, get_or, take, drop, refl, ap, sym, arith}
use Rattle.std.proofs.lemmas.List.{length_push, take_at, take_all, take_more, drop_more}
use Rattle.std.proofs.lemmas.List.Elements.{All-get_or, All-nil, All-cons, All-push, All-take, All-drop}
use Rattle.std.specs.Prelude.{All, Option, IfSome}
use Rattle.rd_stream.specs.Holders.{HoldersView, IsSizedHolders, holder_of, with_holder_of}
use Rattle.rd_stream.specs.MessageChanges.{MessageChange, Push, Drop, Take, Untake, SetHolder, Clear, Fill}
use Rattle.rd_stream.specs.MessageChanges.{message_applied, message_inverse_of, MessageFits, EachMessageChangeIsUndone}
use Rattle.rd_stream.specs.MessageSnapshot.{MessageSnapshot}
use Rattle.rd_stream.specs.Messages.{all_framed, bytes_held, messages_in, with_messages, with_message_holders}
use Rattle.rd_stream.specs.Sizes.{IsSizedMessageBuffer}
use Rattle.rd_stream.specs.declared.side.Side.{Side}
use Rattle.rd_stream.specs.declared.side.Side.TheVariants.{Reader, Writer}
use Rattle.rd_stream.proofs.MessageListLaws.{Reads, IsSome, length-framed, held-push, held-cons, reads}

-- ---- the places

holder_again : (side : Side) (task : Option ℕ) (holders : HoldersView) → with_holder_of side (holder_of side holders) (with_holder_of side task holders) ≡ holders
holder_again Reader task holders = refl
holder_again Writer task holders = refl

holder_sized : (side : Side) (task : Option ℕ) (holders : HoldersView) → IsSizedHolders holders → IfSome task (λ t. t < holders.task_count)
    → IsSizedHolders (with_holder_of side task holders)
holder_sized Reader task holders sized there = record { reader = there; writer = sized.writer }
holder_sized Writer task holders sized there = record { reader = sized.reader; writer = there }

holder_there : (side : Side) (task : Option ℕ) (holders : HoldersView) → IsSizedHolders holders
    → IfSome (holder_of side holders) (λ t. t < (with_holder_of side task holders).task_count)
holder_there Reader task holders sized = sized.reader
holder_there Writer task holders sized = sized.writer

same_tasks : (side : Side) (task : Option ℕ) (holders : HoldersView) → (with_holder_of side task holders).task_count ≡ holders.task_count
same_tasks Reader task holders = refl
same_tasks Writer task holders = refl

-- ---- the ends of a list of messages

last_put_back : (ms : List (List ℕ)) → 0 < length ms → take (length ms - 1) ms ++ get_or ms (length ms - 1) [] ∷ [] ≡ ms
last_put_back ms some =
    let last = length ms - 1 in
    sym (take_more ms last [] (omega arith)) ∙ take_all (last + 1) ms (omega arith)

-- the last message takes what the others leave, and so does the first
last_held : (ms : List (List ℕ)) → 0 < length ms → bytes_held (take (length ms - 1) ms) + (4 + length (get_or ms (length ms - 1) [])) ≡ bytes_held ms
last_held ms some = sym (held-push (take (length ms - 1) ms) (get_or ms (length ms - 1) [])) ∙ ap bytes_held (last_put_back ms some)

first_held : (ms : List (List ℕ)) → 0 < length ms → (4 + length (get_or ms 0 [])) + bytes_held (drop 1 ms) ≡ bytes_held ms
first_held ms some = sym (held-cons (get_or ms 0 []) (drop 1 ms)) ∙ ap bytes_held (sym (drop_more ms 0 [] some))

-- ---- what undoes a change

-- The messages of a buffer are read from their bytes.
messages_again : (buffer : MessageSnapshot) → IsSizedMessageBuffer buffer → Reads (all_framed buffer.messages) buffer.messages
messages_again buffer sized = reads (all_framed buffer.messages) buffer.messages refl sized.messages (omega (arith, sized.room, sized.few))

undoes : (buffer : MessageSnapshot) (change : MessageChange) → IsSizedMessageBuffer buffer → MessageFits buffer change
    → message_applied (message_applied buffer change) (message_inverse_of buffer change) ≡ buffer
undoes buffer (Push m) sized fits =
    let ms : List (List ℕ) = buffer.messages in
    ap (λ messages. with_messages buffer messages) (take_at ms (m ∷ []) (length (ms ++ m ∷ []) - 1) (omega (arith, length_push ms m)))
undoes buffer Drop sized fits = ap (λ messages. with_messages buffer messages) (last_put_back buffer.messages fits)
undoes buffer Take sized fits = ap (λ messages. with_messages buffer messages) (sym (drop_more buffer.messages 0 [] fits))
undoes buffer (Untake m) sized fits = refl
undoes buffer (SetHolder side task) sized fits = ap (λ holders. with_message_holders buffer holders) (holder_again side task buffer.holders)
undoes buffer Clear sized fits = ap (λ messages. with_messages buffer messages) (messages_again buffer sized).same
undoes buffer (Fill bytes) sized fits = ap (λ messages. with_messages buffer messages) (sym fits.0)

-- ---- sizes

messages_sized : (buffer : MessageSnapshot) (ms : List (List ℕ)) → IsSizedMessageBuffer buffer → bytes_held ms ≤ buffer.capacity → All IsSome ms
    → IsSizedMessageBuffer (with_messages buffer ms)
messages_sized buffer ms sized room some = record { room = room; messages = some; few = sized.few; holders = sized.holders }

sized_then : (buffer : MessageSnapshot) (change : MessageChange) → IsSizedMessageBuffer buffer → MessageFits buffer change
    → IsSizedMessageBuffer (message_applied buffer change)
sized_then buffer (Push m) sized fits =
    messages_sized buffer (buffer.messages ++ m ∷ []) sized (omega (arith, held-push buffer.messages m, length-framed m, fits.1))
    (All-push IsSome buffer.messages m sized.messages fits.0)
sized_then buffer Drop sized fits =
    let count = length buffer.messages - 1 in
    messages_sized buffer (take count buffer.messages) sized (omega (arith, last_held buffer.messages fits, sized.room))
    (All-take IsSome count buffer.messages sized.messages)
sized_then buffer Take sized fits =
    messages_sized buffer (drop 1 buffer.messages) sized (omega (arith, first_held buffer.messages fits, sized.room))
    (All-drop IsSome 1 buffer.messages sized.messages)
sized_then buffer (Untake m) sized fits =
    messages_sized buffer (m ∷ buffer.messages) sized (omega (arith, held-cons m buffer.messages, length-framed m, fits.1))
    (All-cons IsSome m buffer.messages fits.0 sized.messages)
sized_then buffer (SetHolder side task) sized fits =
    record { room = sized.room; messages = sized.messages; few = sized.few; holders = holder_sized side task buffer.holders sized.holders fits }
sized_then buffer Clear sized fits = messages_sized buffer [] sized (omega arith) (All-nil IsSome)
sized_then buffer (Fill bytes) sized fits =
    messages_sized buffer (messages_in bytes) sized (omega (arith, ap length fits.1.whole, fits.2)) fits.1.some

-- ---- the inverse fits

message_sized : (buffer : MessageSnapshot) (index : ℕ) → IsSizedMessageBuffer buffer → index < length buffer.messages → 0 < length (get_or buffer.messages index [])
message_sized buffer index sized there = All-get_or IsSome buffer.messages index [] there sized.messages

inverse_fits : (buffer : MessageSnapshot) (change : MessageChange) → IsSizedMessageBuffer buffer → MessageFits buffer change
    → MessageFits (message_applied buffer change) (message_inverse_of buffer change)
inverse_fits buffer (Push m) sized fits = omega (arith, length_push buffer.messages m)
inverse_fits buffer Drop sized fits =
    let ms : List (List ℕ) = buffer.messages in
    let last : List ℕ = get_or ms (length ms - 1) [] in
    (message_sized buffer (length ms - 1) sized (omega (arith, fits)), omega (arith, last_held ms fits, length-framed last, sized.room))
inverse_fits buffer Take sized fits =
    let ms : List (List ℕ) = buffer.messages in
    let first : List ℕ = get_or ms 0 [] in
    (message_sized buffer 0 sized fits, omega (arith, first_held ms fits, length-framed first, sized.room))
inverse_fits buffer (Untake m) sized fits = omega arith
inverse_fits buffer (SetHolder side task) sized fits = holder_there side task buffer.holders sized.holders
inverse_fits buffer Clear sized fits = (refl, (messages_again buffer sized).are, sized.room)
inverse_fits buffer (Fill bytes) sized fits = tt

-- As many tasks, and the same size.
same_numbers : (buffer : MessageSnapshot) (change : MessageChange)
    → ((message_applied buffer change).holders.task_count ≡ buffer.holders.task_count) × ((message_applied buffer change).capacity ≡ buffer.capacity)
same_numbers buffer (Push m) = (refl, refl)
same_numbers buffer Drop = (refl, refl)
same_numbers buffer Take = (refl, refl)
same_numbers buffer (Untake m) = (refl, refl)
same_numbers buffer (SetHolder side task) = (same_tasks side task buffer.holders, refl)
same_numbers buffer Clear = (refl, refl)
same_numbers buffer (Fill bytes) = (refl, refl)

pub message_change_is_undone : EachMessageChangeIsUndone
message_change_is_undone buffer change sized fits = record {
  back = undoes buffer change sized fits;
  fits = inverse_fits buffer change sized fits;
  sized = sized_then buffer change sized fits;
  task_count = (same_numbers buffer change).0;
  capacity = (same_numbers buffer change).1;
}
