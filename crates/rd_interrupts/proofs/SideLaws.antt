-- What an interrupt does to handles, to entries that have received, and to readers that sleep.
use Rattle.std.proofs.Common.{◌≡◌, ◌∙◌, ℕ, ◌&&◌, ◌∷◌, ◌++◌, [], true, false, cond, get_or, List, None, Some, Option, refl, ap, sym, arith}
use Rattle.std.specs.Prelude.{nat_eq}
use Rattle.std.proofs.lemmas.Bool.{false≢true}
use Rattle.std.proofs.lemmas.Bool.Decides.{nat_tests}
use Rattle.rd_notify.specs.declared.entries.Entry.{Entry}
use Rattle.rd_notify.specs.declared.entries.EntryState.TheVariants.{Received}
use Rattle.rd_notify.specs.Entries.{entry_notified, idle_entry, is_left_alone}
use Rattle.rd_queue.specs.Queues.{fitted}
use Rattle.rd_state.specs.declared.phase.Held.{Held}
use Rattle.rd_state.specs.Snapshot.{Snapshot, queue_at}
use Rattle.rd_kernel.specs.Tasks.{entry_at}
use Rattle.rd_kernel.specs.Telling.{if_waiting_for, told}
use Rattle.rd_kernel.specs.declared.waking.Waking.TheVariants.{TriesAgain}
use Rattle.rd_kernel.proofs.Offered.{IsSleeper, Sleeps, Sleeps-notified}
use Rattle.rd_moves.specs.Interrupts.{PlainInterrupt}
use Rattle.rd_moves.specs.declared.interrupt.Interrupt.TheVariants.{Notify, Send}
use Rattle.rd_notify_calls.proofs.Offered.{notified-received}
use Rattle.rd_queue_calls.specs.Posts.{membership_of, posted}
use Rattle.rd_queue_calls.specs.QueueSetLaws.{handles_in, handles_posted}
use Rattle.rd_queue_calls.proofs.Offered.{Lies-items, handles_of_posts, handles_woken_all, posted_sleeps, posted_stays}
use Rattle.rd_interrupts.specs.Interrupts.{after_interrupt, handles_interrupted, has_no_space, interrupt_notifies_first, with_item_put}

-- ---- handles

handles_put : (priorities : List ℕ) (s : Snapshot) (queue : ℕ) (bytes : List ℕ) (member : Option ℕ)
    → handles_in (posted priorities (with_item_put s queue bytes) queue member).state ≡ handles_posted s queue member
handles_put priorities s queue bytes None = handles_of_posts priorities (with_item_put s queue bytes) queue None
handles_put priorities s queue bytes (Some number) = handles_of_posts priorities (with_item_put s queue bytes) queue (Some number)

pub interrupt-handles : (priorities : List ℕ) (s : Snapshot) (interrupt : PlainInterrupt)
    → handles_in (after_interrupt priorities s interrupt) ≡ handles_interrupted s interrupt
interrupt-handles priorities s (Send queue bytes) =
    let after = (posted priorities (with_item_put s queue bytes) queue (membership_of s queue)).state in
    elim (has_no_space s queue) as (λ b. handles_in (cond b s after) ≡ cond b (handles_in s) (handles_posted s queue (membership_of s queue))) [
      | true ↦ refl
      | false ↦ handles_put priorities s queue bytes (membership_of s queue)
    ]
interrupt-handles priorities s (Notify task index value action) =
    let entry = entry_notified action value (entry_at s task index) in
    elim (is_left_alone action (entry_at s task index).state) as (λ b. handles_in (cond b s (told priorities s task index entry)) ≡ handles_in s) [
      | true ↦ refl
      | false ↦ handles_woken_all priorities TriesAgain s (if_waiting_for s task index)
    ]

-- ---- entries that have received

pub interrupt-received : (priorities : List ℕ) (s : Snapshot) (interrupt : PlainInterrupt) (target index : ℕ) → (entry_at s target index).state ≡ Received
    → (entry_at (after_interrupt priorities s interrupt) target index).state ≡ Received
interrupt-received priorities s (Send queue bytes) target index come =
    let after = (posted priorities (with_item_put s queue bytes) queue (membership_of s queue)).state in
    elim (has_no_space s queue) as (λ b. (entry_at (cond b s after) target index).state ≡ Received) [
      | true ↦ come
      | false ↦ ap (λ (es : List Entry). (get_or es index idle_entry).state) (posted_stays priorities (with_item_put s queue bytes) queue (membership_of s queue) target) ∙ come
    ]
interrupt-received priorities s (Notify of i value action) target index come = notified-received priorities s of i value target index action come

-- ---- readers that sleep

other_entry : (of i task : ℕ) → (nat_eq of task && nat_eq i 0) ≡ false → task ≡ of → 0 ≡ i → ⊥
other_entry of i task apart same same_index =
    let one : nat_eq of task ≡ true = grind (arith, nat_tests, same) in
    let two : nat_eq i 0 ≡ true = grind (arith, nat_tests, same_index) in
    false≢true (sym apart ∙ ap (λ b. b && nat_eq i 0) one ∙ two)

pub interrupt-sleeps : (priorities : List ℕ) (s : Snapshot) (interrupt : PlainInterrupt) (task : ℕ) (own : Held) → IsSleeper s task own
    → interrupt_notifies_first interrupt task ≡ false → Sleeps task s (after_interrupt priorities s interrupt)
interrupt-sleeps priorities s (Send queue bytes) task own sleeper apart =
    let items = (queue_at s queue).items ++ fitted (queue_at s queue).item_size bytes ∷ [] in
    let after = (posted priorities (with_item_put s queue bytes) queue (membership_of s queue)).state in
    elim (has_no_space s queue) as (λ b. Sleeps task s (cond b s after)) [
      | true ↦ refl
      | false ↦ posted_sleeps priorities s (with_item_put s queue bytes) task queue (membership_of s queue)
          (Lies-items s s task queue items (record { sleeps = refl; unlisted = sleeper.unlisted }))
    ]
interrupt-sleeps priorities s (Notify of i value action) task own sleeper apart =
    Sleeps-notified priorities s task of i value action own sleeper.waits (other_entry of i task apart)
