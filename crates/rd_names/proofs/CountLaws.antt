-- Counts that pass the test are the same, and then each kind has as many names as things.
use Rattle.std.proofs.Common.{◌≡◌, ◌∙◌, ℕ, ◌&&◌, Bool, true, nat_eq, length, refl, ap}
use Rattle.std.proofs.lemmas.Bool.{eq-eqb, eqb-true}
use Rattle.rd_app.specs.Application.{Application}
use Rattle.rd_names.specs.declared.names.Counts.{Counts}
use Rattle.rd_names.specs.Apps.{AreAsMany, counts_in}
use Rattle.rd_names.specs.Names.{NamesView, counts_of}
use Rattle.rd_text.proofs.Offered.{and_left, and_right}

both : (m n : ℕ) (rest : Bool) → (nat_eq m n && rest) ≡ true → (m ≡ n) × (rest ≡ true)
both m n rest e = (eqb-true m n (and_left (nat_eq m n) rest e), and_right (nat_eq m n) rest e)

pub same_counts : (a b : Counts)
    → (nat_eq a.queues b.queues
    && (nat_eq a.queue_sets b.queue_sets
    && (nat_eq a.streams b.streams
    && (nat_eq a.messages b.messages && (nat_eq a.groups b.groups && nat_eq a.tasks b.tasks))))) ≡ true
    → a ≡ b
same_counts a b e =
    let queues = both a.queues b.queues _ e in
    let queue_sets = both a.queue_sets b.queue_sets _ queues.1 in
    let streams = both a.streams b.streams _ queue_sets.1 in
    let messages = both a.messages b.messages _ streams.1 in
    let groups = both a.groups b.groups _ messages.1 in
    let tasks = eqb-true a.tasks b.tasks groups.1 in
    ap (λ n. record a { queues = n }) queues.0
    ∙ ap (λ n. record b { queue_sets = n; streams = a.streams; messages = a.messages; groups = a.groups; tasks = a.tasks }) queue_sets.0
    ∙ ap (λ n. record b { streams = n; messages = a.messages; groups = a.groups; tasks = a.tasks }) streams.0
    ∙ ap (λ n. record b { messages = n; groups = a.groups; tasks = a.tasks }) messages.0
    ∙ ap (λ n. record b { groups = n; tasks = a.tasks }) groups.0
    ∙ ap (λ n. record b { tasks = n }) tasks

pub counted : (app : Application) (names : NamesView) → counts_of names ≡ counts_in app → AreAsMany app names
counted app names same = record {
  queues = ap (λ (counts : Counts). counts.queues) same;
  queue_sets = ap (λ (counts : Counts). counts.queue_sets) same;
  streams = ap (λ (counts : Counts). counts.streams) same;
  messages = ap (λ (counts : Counts). counts.messages) same;
  groups = ap (λ (counts : Counts). counts.groups) same;
  tasks = ap (λ (counts : Counts). counts.tasks) same;
}

-- where there are as many, the test is passed
pub passes : (app : Application) (names : NamesView) → AreAsMany app names
    → (nat_eq (length names.queues) (length app.objects.queues)
    && (nat_eq (length names.queue_sets) (length app.objects.queue_sets)
    && (nat_eq (length names.streams) (length app.objects.streams)
    && (nat_eq (length names.messages) (length app.objects.messages)
    && (nat_eq (length names.groups) (length app.objects.groups) && nat_eq (length names.tasks) (length app.tasks)))))) ≡ true
passes app names paired =
    rw (
      eq-eqb _ _ paired.queues,
      eq-eqb _ _ paired.queue_sets,
      eq-eqb _ _ paired.streams,
      eq-eqb _ _ paired.messages,
      eq-eqb _ _ paired.groups,
      eq-eqb _ _ paired.tasks,
    ) refl
