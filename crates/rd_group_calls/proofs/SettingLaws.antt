-- One setting of an event group: whom it meets is given its bits, and who isn't met keeps its place.
use Rattle.rd_state.specs.declared.phase.Place.TheVariants as sort
use Rattle.std.proofs.Common.{◌+◌, ◌<◌, ◌∙◌, ◌≡◌, ◌≢◌, ◌≤◌, ◌++◌, ◌∷◌, Bool, List, None, Option, Some, [], ap, append_assoc, arith, cond, false, inl, inr}
use Rattle.std.proofs.Common.{length, refl, subst, suc, sym, true, ℕ}
use Rattle.std.proofs.lemmas.Bool.{cases_eq, cases_lt}
use Rattle.std.proofs.lemmas.Bool.Decides.{nat_tests}
use Rattle.std.proofs.lemmas.List.{get_or-set_same, length-append, length-set}
use Rattle.std.proofs.lemmas.List.Sums.{sum_by-append}
use Rattle.std.proofs.lemmas.Nat.{and_assoc, and_comm}
use Rattle.std.specs.Int.{bit_not, w32}
use Rattle.std.specs.List.{position_or_len}
use Rattle.std.specs.Option.{option_and_then}
use Rattle.std.specs.Prelude.{if◌then◌else◌, bit_and, nat_eq, nat_lt, not, position, remove}
use Rattle.rd_group.specs.GroupSnapshot.{GroupSnapshot}
use Rattle.rd_group.specs.Groups.{bits_left, left_after, met_by, met_tasks, with_bits, with_waiters}
use Rattle.rd_group.specs.Wishes.{is_met, left_of, left_when_met, without_bits}
use Rattle.rd_group.specs.declared.wish.OnMet.{OnMet}
use Rattle.rd_group.specs.declared.wish.OnMet.TheVariants.{Keep, Clear}
use Rattle.rd_group.specs.declared.wish.Wish.{Wish}
use Rattle.rd_app.specs.Application.{Application, priorities_of}
use Rattle.rd_state.specs.declared.phase.Listed.TheVariants.{Group}
use Rattle.rd_state.specs.declared.phase.Phase.TheVariants.{Given}
use Rattle.rd_state.specs.declared.phase.Place.{Place}
use Rattle.rd_state.specs.Objects.{no_group, objects_with_group}
use Rattle.rd_state.specs.Phases.{waits_at}
use Rattle.rd_state.specs.Snapshot.{Snapshot, TaskSnapshot, group_at, no_task, task_at, with_bits_at}
use Rattle.rd_state.specs.Valid.{IsValid, is_in_list, times_in_list, waits_in}
use Rattle.rd_state.specs.Waiting.{listed_at}
use Rattle.rd_state.proofs.Offered.{group_in_sized, one_if, times_in_list-cons}
use Rattle.rd_kernel.specs.Waking.{objects_without, phase_woken, woken, woken_all, woken_at}
use Rattle.rd_kernel.specs.declared.waking.Waking.{Waking}
use Rattle.rd_kernel.specs.declared.waking.Waking.TheVariants.{IsGiven}
use Rattle.rd_kernel.proofs.Offered.{AfterWaking-woken_all, IsConsistent-valid, all_have_time_left, other_none, same_one, waits_at_group, waits_is_task}
use Rattle.rd_group_calls.specs.GroupCalls.{bits_set}
use Rattle.rd_group_calls.specs.GroupLaws.{ClearingHasNoOrder, SettingsMeetTogether, together, unmet_tasks, unmet_wishes}
use Rattle.rd_group_calls.proofs.GroupCallLaws.{times_met}

-- ---- clearing

abbrev other_bits : ℕ → ℕ
other_bits wanted = bit_not w32 wanted

-- Bits are cleared in any order.
without_swaps : (bits one other : ℕ) → without_bits (without_bits bits one) other ≡ without_bits (without_bits bits other) one
without_swaps bits one other =
    and_assoc (other_bits other) bits (other_bits one) ∙ ap (bit_and bits) (and_comm (other_bits one) (other_bits other)) ∙ sym (and_assoc (other_bits one) bits (other_bits other))

left_swaps : (bits one other : ℕ) (on_one on_other : OnMet)
    → left_when_met on_other other (left_when_met on_one one bits) ≡ left_when_met on_one one (left_when_met on_other other bits)
left_swaps bits one other Keep Keep = refl
left_swaps bits one other Keep Clear = refl
left_swaps bits one other Clear Keep = refl
left_swaps bits one other Clear Clear = without_swaps bits one other

-- so also where some of the wishes aren't met
met_swaps : (b c : Bool) (bits : ℕ) (one other : Wish)
    → cond c (left_of (cond b (left_of bits one) bits) other) (cond b (left_of bits one) bits)
    ≡ cond b (left_of (cond c (left_of bits other) bits) one) (cond c (left_of bits other) bits)
met_swaps true true bits one other = left_swaps bits one.bits other.bits one.on_met other.on_met
met_swaps true false bits one other = refl
met_swaps false true bits one other = refl
met_swaps false false bits one other = refl

pub clearing_has_no_order : ClearingHasNoOrder
clearing_has_no_order bits left [] one other behind = ap (left_after bits behind) (met_swaps (is_met bits one) (is_met bits other) left one other)
clearing_has_no_order bits left (wish ∷ before) one other behind =
    clearing_has_no_order bits (if is_met bits wish then left_of left wish else left) before one other behind

-- ---- whoever stands behind others in a list

found_behind : (front : List ℕ) (task : ℕ) (tasks : List ℕ) → times_in_list task front ≡ 0
    → position_or_len (λ member. nat_eq member task) (front ++ task ∷ tasks) ≡ length front
found_behind [] task tasks none =
    let same : nat_eq task task ≡ true = grind (arith, nat_tests) in
    ap (λ b. cond (not b) (1 + position_or_len (λ member. nat_eq member task) tasks) 0) same
found_behind (first ∷ front) task tasks none = elim (cases_eq first task) [
  | inl same ↦ absurd (let one : one_if (nat_eq task first) ≡ 1 = ap (λ t. one_if (nat_eq task t)) same ∙ same_one task in
      omega (arith, none, times_in_list-cons task first front, one))
  | inr differs ↦
      let apart : nat_eq first task ≡ false = grind (arith, nat_tests, differs) in
      let later = found_behind front task tasks (omega (arith, none, times_in_list-cons task first front)) in
      ap (λ b. cond (not b) (1 + position_or_len (λ member. nat_eq member task) (front ++ task ∷ tasks)) 0) apart
      ∙ ap (λ n. 1 + n) later ∙ (let next : 1 + length front ≡ suc (length front) = omega arith in next)
]

behind_is_there : (front : List ℕ) (task : ℕ) (tasks : List ℕ) → length front < length (front ++ task ∷ tasks)
behind_is_there [] task tasks = omega arith
behind_is_there (first ∷ front) task tasks = omega (arith, behind_is_there front task tasks)

position_behind : (front : List ℕ) (task : ℕ) (tasks : List ℕ) → times_in_list task front ≡ 0
    → position (λ member. nat_eq member task) (front ++ task ∷ tasks) ≡ Some (length front)
position_behind front task tasks none =
    let all = front ++ task ∷ tasks in
    let there = behind_is_there front task tasks in
    let reached : nat_lt (length front) (length all) ≡ true = grind (arith, nat_tests, there) in
    ap (λ n. cond (nat_lt n (length all)) (Some n) None) (found_behind front task tasks none) ∙ ap (λ b. cond b (Some (length front)) None) reached

remove_behind : {X : Type 0} (front : List X) (x : X) (xs : List X) → remove (front ++ x ∷ xs) (length front) ≡ front ++ xs
remove_behind [] x xs = refl
remove_behind (first ∷ front) x xs = ap (λ rest. first ∷ rest) (remove_behind front x xs)

times_in_list-append : (t : ℕ) (front tasks : List ℕ) → times_in_list t (front ++ tasks) ≡ times_in_list t front + times_in_list t tasks
times_in_list-append t front tasks = sum_by-append (λ m. one_if (nat_eq t m)) front tasks

-- ---- one that is woken

-- The group is there, and these wait at it, with these wishes.
record HasWaiters (s : Snapshot) (group : ℕ) (tasks : List ℕ) (their_wishes : List Wish) : Type 0 where
  there : group < length s.objects.groups
  waiting : (group_at s group).waiting ≡ tasks
  wishes : (group_at s group).wishes ≡ their_wishes

HasWaiters-woken : (priorities : List ℕ) (waking : Waking) (s : Snapshot) (group : ℕ) (front : List ℕ) (before : List Wish) (task : ℕ) (wish : Wish)
    (tasks : List ℕ) (behind : List Wish) → length before ≡ length front → times_in_list task front ≡ 0
    → waits_at (task_at s task).phase ≡ Some (sort.Listed (Group group)) → HasWaiters s group (front ++ task ∷ tasks) (before ++ wish ∷ behind)
    → HasWaiters (woken priorities waking s task) group (front ++ tasks) (before ++ behind)
HasWaiters-woken priorities waking s group front before task wish tasks behind same none waits has =
    let o = s.objects in
    let g = group_at s group in
    let index = length front in
    let now = with_waiters g (remove g.waiting index) (remove g.wishes index) in
    let left : HasWaiters (record s { objects = objects_with_group o group now }) group (front ++ tasks) (before ++ behind) =
    record {
      there = omega (arith, has.there, length-set o.groups group now);
      waiting = ap (λ (x : GroupSnapshot). x.waiting) (get_or-set_same o.groups group now no_group has.there)
          ∙ ap (λ xs. remove xs index) has.waiting ∙ remove_behind front task tasks;
      wishes = ap (λ (x : GroupSnapshot). x.wishes) (get_or-set_same o.groups group now no_group has.there)
          ∙ ap (λ xs. remove xs index) has.wishes ∙ ap (remove (before ++ wish ∷ behind)) (sym same) ∙ remove_behind before wish behind;
    } in
    let found : position (λ member. nat_eq member task) g.waiting ≡ Some index =
    ap (position (λ member. nat_eq member task)) has.waiting ∙ position_behind front task tasks none in
    let at_index : HasWaiters (record s { objects = objects_without o (Group group) (position (λ member. nat_eq member task) g.waiting) }) group
    (front ++ tasks) (before ++ behind) =
    subst (λ i. HasWaiters (record s { objects = objects_without o (Group group) i }) group (front ++ tasks) (before ++ behind)) (sym found) left in
    subst (λ place. HasWaiters (woken_at priorities waking s task place) group (front ++ tasks) (before ++ behind)) (sym waits)
    (record { there = at_index.there; waiting = at_index.waiting; wishes = at_index.wishes })

-- It is in the phase that its waking leads to.
phase_when_woken : (priorities : List ℕ) (waking : Waking) (s : Snapshot) (task : ℕ) (place : Place) → task < length s.tasks
    → waits_at (task_at s task).phase ≡ Some place → (task_at (woken priorities waking s task) task).phase ≡ phase_woken waking (task_at s task).phase
phase_when_woken priorities waking s task place there waits =
    let x : TaskSnapshot = record (task_at s task) { phase = phase_woken waking (task_at s task).phase } in
    ap (λ o. (task_at (woken_at priorities waking s task o) task).phase) waits
    ∙ ap (λ (x : TaskSnapshot). x.phase) (get_or-set_same s.tasks task x no_task there)

other_stays : (priorities : List ℕ) (waking : Waking) (s : Snapshot) (task t : ℕ) → t ≢ task → task_at (woken priorities waking s task) t ≡ task_at s t
other_stays priorities waking s task t differs =
    (AfterWaking-woken_all priorities waking s (task ∷ [])).others t (omega (arith, times_in_list-cons t task [], other_none t task differs))

-- ---- all who are woken

-- Each that waited is given the same bits, and keeps them while others are woken.
each_is_given : (priorities : List ℕ) (bits : ℕ) (s : Snapshot) (tasks : List ℕ) (t : ℕ) (place : Place) → t < length s.tasks
    → waits_at (task_at s t).phase ≡ Some place → 1 ≤ times_in_list t tasks → (task_at (woken_all priorities (IsGiven bits) s tasks) t).phase ≡ Given bits
each_is_given priorities bits s [] t place there waits some = absurd (omega (arith, some))
each_is_given priorities bits s (first ∷ rest) t place there waits some =
    let p = woken priorities (IsGiven bits) s first in
    elim (cases_eq t first) [
      | inl same ↦
          let given : (task_at p t).phase ≡ Given bits =
          subst (λ n. (task_at (woken priorities (IsGiven bits) s n) t).phase ≡ Given bits) same
          (phase_when_woken priorities (IsGiven bits) s t place there waits) in
          let stays = (AfterWaking-woken_all priorities (IsGiven bits) p rest).idle t (ap waits_at given) in
          ap (λ (x : TaskSnapshot). x.phase) stays ∙ given
      | inr differs ↦
          let same = other_stays priorities (IsGiven bits) s first t differs in
          let one = AfterWaking-woken_all priorities (IsGiven bits) s (first ∷ []) in
          each_is_given priorities bits p rest t place (omega (arith, there, one.same_length))
          (ap (λ (x : TaskSnapshot). waits_at x.phase) same ∙ waits)
          (omega (arith, some, times_in_list-cons t first rest, other_none t first differs))
    ]

-- Of those behind a front, whom the bits meet are woken, and the others stay in their order.
others_stay : (priorities : List ℕ) (waking : Waking) (bits group : ℕ) (front : List ℕ) (before : List Wish) (tasks : List ℕ) (wishes : List Wish)
    (s : Snapshot) → length before ≡ length front → length wishes ≡ length tasks → ((t : ℕ) → times_in_list t front + times_in_list t tasks ≤ 1)
    → ((t : ℕ) → 1 ≤ times_in_list t tasks → waits_at (task_at s t).phase ≡ Some (sort.Listed (Group group)))
    → HasWaiters s group (front ++ tasks) (before ++ wishes)
    → HasWaiters (woken_all priorities waking s (met_tasks bits tasks wishes)) group (front ++ unmet_tasks bits tasks wishes)
    (before ++ unmet_wishes bits wishes)
others_stay priorities waking bits group front before [] [] s same both once waits has = has
others_stay priorities waking bits group front before [] (wish ∷ wishes) s same both once waits has = absurd (omega (arith, both))
others_stay priorities waking bits group front before (task ∷ tasks) [] s same both once waits has = absurd (omega (arith, both))
others_stay priorities waking bits group front before (task ∷ tasks) (wish ∷ wishes) s same both once waits has =
    let here = once task in
    let first : times_in_list task (task ∷ tasks) ≡ 1 + times_in_list task tasks = omega (arith, times_in_list-cons task task tasks, same_one task) in
    let met = met_tasks bits tasks wishes in
    let unmet = unmet_tasks bits tasks wishes in
    let unmet_too = unmet_wishes bits wishes in
    let p = woken priorities waking s task in
    elim (is_met bits wish) as (λ b. HasWaiters (woken_all priorities waking s (cond b (task ∷ met) met)) group
    (front ++ cond b unmet (task ∷ unmet)) (before ++ cond (not b) (wish ∷ unmet_too) unmet_too)) [
      | true ↦ others_stay priorities waking bits group front before tasks wishes p same (omega (arith, both))
          (λ t. omega (arith, once t, times_in_list-cons t task tasks))
          (λ t some. elim (cases_eq t task) [
            | inl is ↦ absurd (omega (arith, here, first, some, ap (λ n. times_in_list n tasks) is))
            | inr differs ↦ ap (λ (x : TaskSnapshot). waits_at x.phase) (other_stays priorities waking s task t differs)
                ∙ waits t (omega (arith, some, times_in_list-cons t task tasks))
          ])
          (HasWaiters-woken priorities waking s group front before task wish tasks wishes same (omega (arith, here, first))
          (waits task (omega (arith, first))) has)
      | false ↦
          let later = others_stay priorities waking bits group (front ++ task ∷ []) (before ++ wish ∷ []) tasks wishes s
          (omega (arith, same, length-append before (wish ∷ []), length-append front (task ∷ []))) (omega (arith, both))
          (λ t. omega (arith, once t, times_in_list-cons t task tasks, times_in_list-append t front (task ∷ []), times_in_list-cons t task []))
          (λ t some. waits t (omega (arith, some, times_in_list-cons t task tasks)))
          (record {
            there = has.there;
            waiting = has.waiting ∙ sym (append_assoc front (task ∷ []) tasks);
            wishes = has.wishes ∙ sym (append_assoc before (wish ∷ []) wishes);
          }) in
          record {
            there = later.there;
            waiting = later.waiting ∙ append_assoc front (task ∷ []) unmet;
            wishes = later.wishes ∙ append_assoc before (wish ∷ []) unmet_too;
          }
    ]

-- ---- a setting that meets nobody

-- leaves all bits
none_clears : (bits : ℕ) (tasks : List ℕ) (wishes : List Wish) (left : ℕ) → length wishes ≡ length tasks → met_tasks bits tasks wishes ≡ []
    → left_after bits wishes left ≡ left
none_clears bits [] [] left both nobody = refl
none_clears bits [] (wish ∷ wishes) left both nobody = absurd (omega (arith, both))
none_clears bits (task ∷ tasks) [] left both nobody = absurd (omega (arith, both))
none_clears bits (task ∷ tasks) (wish ∷ wishes) left both nobody =
    by_wish (is_met bits wish) (none_clears bits tasks wishes left (omega (arith, both))) nobody
  where
    by_wish : (b : Bool) → (met_tasks bits tasks wishes ≡ [] → left_after bits wishes left ≡ left)
        → cond b (task ∷ met_tasks bits tasks wishes) (met_tasks bits tasks wishes) ≡ [] → left_after bits wishes (cond b (left_of left wish) left) ≡ left
    by_wish true later e = cc
    by_wish false later e = later e

-- ---- the law

-- Whoever stands in the group's list waits there, and stands there once.
waits_there : (app : Application) (s : Snapshot) (group t : ℕ) → IsValid app s → t < length s.tasks → 1 ≤ times_in_list t (group_at s group).waiting
    → waits_at (task_at s t).phase ≡ Some (sort.Listed (Group group))
waits_there app s group t valid there some = by_place (waits_at (task_at s t).phase) refl
  where
    by_place : (o : Option Place) → waits_at (task_at s t).phase ≡ o → waits_at (task_at s t).phase ≡ Some (sort.Listed (Group group))
    by_place None e =
        absurd (omega (arith, some, valid.places (Group group) t there, ap (λ o. one_if (is_in_list (Group group) (option_and_then listed_at o))) e))
    by_place (Some place) e =
        e ∙ ap Some (waits_at_group app (all_have_time_left s.tick) s group t place there some (IsConsistent-valid app s valid) e)

once_there : (app : Application) (s : Snapshot) (group t : ℕ) → IsValid app s → group < length s.objects.groups → times_in_list t (group_at s group).waiting ≤ 1
once_there app s group t valid has = elim (cases_lt 0 (times_in_list t (group_at s group).waiting)) [
  | inl some ↦ omega (
    arith,
    valid.places (Group group) t (waits_is_task s (Group group) t valid.in_limits.sized has some),
    at_most_one (is_in_list (Group group) (waits_in (task_at s t).phase)),
  )
  | inr none ↦ omega (arith, none)
]
  where
    at_most_one : (b : Bool) → one_if b ≤ 1
    at_most_one true = omega arith
    at_most_one false = omega arith

pub settings_meet_together : SettingsMeetTogether
settings_meet_together app s group bits valid has =
    let now = together s group bits in
    let g = group_at s group in
    let met = met_by g now in
    let p = woken_all (priorities_of app) (IsGiven now) s met in
    let sized = (group_in_sized (length s.tasks) s.objects group valid.in_limits.sized.objects has).0 in
    let is_task : (t : ℕ) → 1 ≤ times_in_list t g.waiting → t < length s.tasks = λ t some. waits_is_task s (Group group) t valid.in_limits.sized has some in
    let stay : HasWaiters p group (unmet_tasks now g.waiting g.wishes) (unmet_wishes now g.wishes) =
    others_stay (priorities_of app) (IsGiven now) now group [] [] g.waiting g.wishes s refl sized.same_length
    (λ t. omega (arith, once_there app s group t valid has)) (λ t some. waits_there app s group t valid (is_task t some) some)
    (record { there = has; waiting = refl; wishes = refl }) in
    let after = with_bits (group_at p group) (bits_left g now) in
    let is_after : group_at (bits_set (priorities_of app) s group bits) group ≡ after = get_or-set_same p.objects.groups group after no_group stay.there in
    record {
      given = λ t some. let listed : 1 ≤ times_in_list t g.waiting = omega (arith, some, times_met now g.waiting g.wishes t) in
          each_is_given (priorities_of app) now s met t (sort.Listed (Group group)) (is_task t listed)
          (waits_there app s group t valid (is_task t listed) listed) some;
      unmet = λ t none. (AfterWaking-woken_all (priorities_of app) (IsGiven now) s met).others t none;
      others = ap (λ (x : GroupSnapshot). x.waiting) is_after ∙ stay.waiting;
      wishes = ap (λ (x : GroupSnapshot). x.wishes) is_after ∙ stay.wishes;
      cleared_once = ap (λ (x : GroupSnapshot). x.bits) is_after;
      nobody = λ none. ap (λ tasks. with_bits_at (woken_all (priorities_of app) (IsGiven now) s tasks) group (bits_left g now)) none
          ∙ ap (with_bits_at s group) (none_clears now g.waiting g.wishes now sized.same_length none);
    }
