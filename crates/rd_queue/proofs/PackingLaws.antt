-- A change of a queue that was put behind bytes is read at their end.
use Rattle.std.proofs.Common.{◌≡◌, ◌∙◌, ℕ, ◌<◌, ◌≤◌, ◌-◌, List, [], length, get_or, refl, ap, arith, Option, Some, None, IfSome}
use Rattle.std.proofs.Math.Nat.{mul-le-mul_right}
use Rattle.std.proofs.lemmas.List.Elements.{All-get_or}
use Rattle.std.specs.List.{concat}
use Rattle.std.specs.Prelude.{slice_index}
use Rattle.rd_bytes.proofs.Offered.{number_again, ComesBack, laid_read}
use Rattle.rd_bytes.specs.Ends.{byte_of_number}
use Rattle.rd_bytes.specs.Layouts.{FitsLayout, EachRowIsReadBack}
use Rattle.rd_bytes.specs.Tags as tags
use Rattle.rd_bytes.specs.declared.tag.TheConstants.{OF_QUEUE}
use Rattle.rd_queue.specs.declared.waiting_list.WaitingList.{WaitingList}
use Rattle.rd_queue.specs.declared.waiting_list.WaitingList.TheVariants.{Receiving, Sending}
use Rattle.rd_queue.specs.Changes.{QueueChange, InsWait, DelWait, PutBack, TakeBack, PutFront, TakeFront, SetItem, Clear, Fill, SetMember}
use Rattle.rd_queue.specs.Changes.{queue_inverse_of, QueueFits}
use Rattle.rd_queue.specs.PackedChanges.{byte_of_list, list_of_byte, queue_layout}
use Rattle.rd_queue.specs.QueueSnapshot.{QueueSnapshot}
use Rattle.rd_queue.specs.Sizes.{IsSizedList, IsSizedQueue}
use Rattle.rd_queue.proofs.ItemLaws.{length-concat}

list_again : (list : WaitingList) → list_of_byte (byte_of_list list) ≡ list
list_again Receiving = refl
list_again Sending = refl

kind_of_list : (list : WaitingList) → tags.kind_of_list (byte_of_list list) ≡ OF_QUEUE
kind_of_list Receiving = refl
kind_of_list Sending = refl

laid : (queue : ℕ) (change : QueueChange) → FitsLayout queue_layout queue change → ComesBack queue_layout queue change
laid queue (InsWait list index task) fits = record {
  again = ap (λ l. (queue, InsWait l index task)) (list_again list);
  count = refl;
  tag = omega arith;
  kind = λ bytes is fields. rw is (ap (λ (f : List ℕ). tags.kind_of_list (slice_index f 0)) fields ∙ kind_of_list list);
}
laid queue (DelWait list index) fits = record {
  again = ap (λ l. (queue, DelWait l index)) (list_again list);
  count = refl;
  tag = omega arith;
  kind = λ bytes is fields. rw is (ap (λ (f : List ℕ). tags.kind_of_list (slice_index f 0)) fields ∙ kind_of_list list);
}
laid queue (PutBack item) fits = record { again = refl; count = refl; tag = omega arith; kind = λ bytes is fields. rw is refl }
laid queue TakeBack fits = record { again = refl; count = refl; tag = omega arith; kind = λ bytes is fields. rw is refl }
laid queue (PutFront item) fits = record { again = refl; count = refl; tag = omega arith; kind = λ bytes is fields. rw is refl }
laid queue TakeFront fits = record { again = refl; count = refl; tag = omega arith; kind = λ bytes is fields. rw is refl }
laid queue (SetItem index item) fits = record { again = refl; count = refl; tag = omega arith; kind = λ bytes is fields. rw is refl }
laid queue Clear fits = record { again = refl; count = refl; tag = omega arith; kind = λ bytes is fields. rw is refl }
laid queue (Fill bytes) fits = record { again = refl; count = refl; tag = omega arith; kind = λ b is fields. rw is refl }
laid queue (SetMember queue_set) fits = record {
  again = ap (λ s. (queue, SetMember s)) (number_again queue_set fits.2);
  count = refl;
  tag = omega arith;
  kind = λ bytes is fields. rw is refl;
}

pub queue_change_is_read_back : EachRowIsReadBack queue_layout
queue_change_is_read_back = laid_read queue_layout laid

-- ---- What undoes a change of a queue fits in its bytes, where there are few tasks and few sets.

-- an index in a list, and the task there
waits_fit : (task_count : ℕ) (waiting : List ℕ) (index : ℕ) → IsSizedList task_count waiting → index < length waiting → task_count ≤ 255
    → (index < 256) × (get_or waiting index 0 < 256)
waits_fit task_count waiting index sized there few =
    let task : get_or waiting index 0 < task_count = All-get_or (λ t. t < task_count) waiting index 0 there sized.0 in
    (omega (arith, there, sized.1, few), omega (arith, task, few))

-- an item, and all items together
item_short : (queue : QueueSnapshot) (index : ℕ) → IsSizedQueue queue → index < length queue.items → length (get_or queue.items index []) < 65536
item_short queue index sized there =
    omega (arith, All-get_or (λ (i : List ℕ). length i ≡ queue.item_size) queue.items index [] there sized.items, sized.small)

pub items_short : (queue : QueueSnapshot) → IsSizedQueue queue → length (concat queue.items) ≤ 4096
items_short queue sized =
    let count : length queue.items ≤ 64 = omega (arith, sized.room, sized.few) in
    omega (arith, length-concat queue.item_size queue.items sized.items, mul-le-mul_right queue.item_size count, sized.small)

member_fits : (queue_set : Option ℕ) (count : ℕ) → IfSome queue_set (λ s. s < count) → count ≤ 255 → IfSome queue_set (λ s. s < 255)
member_fits None count there few = tt
member_fits (Some queue_set) count there few = omega (arith, there, few)

list_fits : (list : WaitingList) → byte_of_list list < 256
list_fits Receiving = omega arith
list_fits Sending = omega arith

number_fits : (number : Option ℕ) → IfSome number (λ n. n < 255) → byte_of_number number < 256
number_fits None fits = omega arith
number_fits (Some n) fits = omega (arith, fits)

pub queue_inverse_has_bytes : (n : ℕ) (queue : QueueSnapshot) (change : QueueChange) → n < 256 → IsSizedQueue queue → QueueFits queue change → queue.task_count ≤ 255
    → queue.queue_set_count ≤ 255 → FitsLayout queue_layout n (queue_inverse_of queue change)
queue_inverse_has_bytes n queue (InsWait list index task) small sized fits few few_sets = (small, (list_fits list, (small, (omega (arith, fits.0, fits.1, few), tt))), tt)
queue_inverse_has_bytes n queue (DelWait Receiving index) small sized fits few few_sets =
    let here = waits_fit queue.task_count queue.receiving index sized.receiving fits few in
    (small, (list_fits Receiving, (small, (here.0, (here.1, tt)))), tt)
queue_inverse_has_bytes n queue (DelWait Sending index) small sized fits few few_sets =
    let here = waits_fit queue.task_count queue.sending index sized.sending fits few in
    (small, (list_fits Sending, (small, (here.0, (here.1, tt)))), tt)
queue_inverse_has_bytes n queue (PutBack item) small sized fits few few_sets = (small, (small, tt), tt)
queue_inverse_has_bytes n queue TakeBack small sized fits few few_sets = (small, (small, (item_short queue (length queue.items - 1) sized (omega (arith, fits)), tt)), tt)
queue_inverse_has_bytes n queue (PutFront item) small sized fits few few_sets = (small, (small, tt), tt)
queue_inverse_has_bytes n queue TakeFront small sized fits few few_sets = (small, (small, (item_short queue 0 sized fits, tt)), tt)
queue_inverse_has_bytes n queue (SetItem index item) small sized fits few few_sets =
    (small, (small, (omega (arith, fits.0, sized.room, sized.few), (item_short queue index sized fits.0, tt))), tt)
queue_inverse_has_bytes n queue Clear small sized fits few few_sets = (small, (small, (omega (arith, items_short queue sized), tt)), tt)
queue_inverse_has_bytes n queue (Fill bytes) small sized fits few few_sets = (small, (small, tt), tt)
queue_inverse_has_bytes n queue (SetMember queue_set) small sized fits few few_sets =
    let member = member_fits queue.queue_set queue.queue_set_count sized.queue_set few_sets in
    (small, (small, (number_fits queue.queue_set member, tt)), member)
