-- Tasks in a list: where one stands, how often, and whether there is room for it.
use Rattle.std.proofs.Common.{◌+◌, ◌<◌, ◌∷◌, ◌≡◌, ◌≢◌, ◌≤◌, Bool, List, None, Some, [], ap, arith, cond, false, get_or, inl, inr, length, subst, suc}
use Rattle.std.proofs.Common.{sym, true, ℕ}
use Rattle.std.specs.Prelude.{◌||◌, All, nat_eq, nat_lt, not, position, slice_get}
use Rattle.std.proofs.lemmas.Bool.{cases_eq, false≢true}
use Rattle.std.proofs.lemmas.Bool.Decides.{nat_tests}
use Rattle.std.proofs.lemmas.List.Elements.{All-cons, All-get_or, All-head, All-tail}
use Rattle.rd_state.specs.Valid.{times_in_list}
use Rattle.rd_state.proofs.Offered.{one_if, times_in_list-cons}
use Rattle.std.proofs.lemmas.List.Sums.{passes_at_first}
use Rattle.std.specs.List.{AllByRecursion, IsDistinct, list_any, position_or_len}
use Rattle.std.proofs.lemmas.Map.Steps.{length-le_from_distinct_below}
use Rattle.std.specs.Option.{option_to_list}

-- ---- where a task stands in a list

abbrev is_same_task : ℕ → ℕ → Bool
is_same_task task member = nat_eq member task

position-lt : (tasks : List ℕ) (task : ℕ) → 1 ≤ times_in_list task tasks → position_or_len (is_same_task task) tasks < length tasks
position-lt [] task some = absurd (omega (arith, some))
position-lt (first ∷ rest) task some = elim (cases_eq first task) [
  | inl e ↦ let same : nat_eq first task ≡ true = grind (arith, nat_tests, e) in
      subst (λ b. cond (not b) (1 + position_or_len (is_same_task task) rest) 0 < suc (length rest)) (sym same) (omega arith)
  | inr ne ↦ let differs : nat_eq first task ≡ false = grind (arith, nat_tests, ne) in
      let other : nat_eq task first ≡ false = grind (arith, nat_tests, ne) in
      let later = position-lt rest task (omega (arith, some, times_in_list-cons task first rest, ap one_if other)) in
      subst (λ b. cond (not b) (1 + position_or_len (is_same_task task) rest) 0 < suc (length rest)) (sym differs) (omega (arith, later))
]

pub record FoundInList (task : ℕ) (tasks : List ℕ) : Type 0 where
  pub index : ℕ
  pub is_at : position (λ member. nat_eq member task) tasks ≡ Some index
  pub within : index < length tasks
  pub member : get_or tasks index 0 ≡ task

pub find_in_list : (tasks : List ℕ) (task : ℕ) → 1 ≤ times_in_list task tasks → FoundInList task tasks
find_in_list tasks task some =
    let n = position_or_len (is_same_task task) tasks in
    let within = position-lt tasks task some in
    let reached : nat_lt n (length tasks) ≡ true = grind (arith, nat_tests, within) in
    let passes = passes_at_first (is_same_task task) tasks 0 within in
    record {
      index = n;
      is_at = ap (λ b. cond b (Some n) None) reached;
      within = within;
      member = grind (arith, nat_tests, passes);
    }

-- What holds of all members holds of one that is there.
pub member_has : (P : ℕ → Type 0) (tasks : List ℕ) (task : ℕ) → All P tasks → 1 ≤ times_in_list task tasks → P task
member_has P tasks task all some =
    let f = find_in_list tasks task some in
    subst P f.member (All-get_or P tasks f.index 0 f.within all)

pub first_is_listed : (tasks : List ℕ) (task : ℕ) → 1 ≤ times_in_list task (option_to_list (slice_get tasks 0)) → 1 ≤ times_in_list task tasks
first_is_listed [] task some = absurd (omega (arith, some))
first_is_listed (first ∷ rest) task some = omega (arith, some, times_in_list-cons task first rest, times_in_list-cons task first [])

pub same_one : (task : ℕ) → one_if (nat_eq task task) ≡ 1
same_one task = let e : nat_eq task task ≡ true = grind (arith, nat_tests) in ap one_if e

pub other_none : (t task : ℕ) → t ≢ task → one_if (nat_eq t task) ≡ 0
other_none t task differs = let e : nat_eq t task ≡ false = grind (arith, nat_tests, differs) in ap one_if e

pub first_waits : (tasks : List ℕ) → 0 < length tasks → (task : ℕ) × (1 ≤ times_in_list task tasks)
first_waits [] some = absurd (omega (arith, some))
first_waits (first ∷ rest) some = (first, omega (arith, times_in_list-cons first first rest, same_one first))

-- ---- room

differs_from_all : (tasks : List ℕ) (task : ℕ) → times_in_list task tasks ≡ 0 → AllByRecursion (λ member. nat_eq task member ≡ false) tasks
differs_from_all [] task none = tt
differs_from_all (first ∷ rest) task none =
    let differs : nat_eq task first ≡ false = elim (cases_eq task first) [
      | inl e ↦
          absurd (let same : nat_eq task first ≡ true = grind (arith, nat_tests, e) in omega (arith, none, times_in_list-cons task first rest, ap one_if same))
      | inr ne ↦ grind (arith, nat_tests, ne)
    ] in
    (differs, differs_from_all rest task (omega (arith, none, times_in_list-cons task first rest)))

IsDistinct-once : (tasks : List ℕ) → ((task : ℕ) → 1 ≤ times_in_list task tasks → times_in_list task tasks ≤ 1) → IsDistinct nat_eq tasks
unfolding IsDistinct
IsDistinct-once [] once = tt
IsDistinct-once (first ∷ rest) once =
    let here : nat_eq first first ≡ true = grind (arith, nat_tests) in
    let one = ap one_if here in
    let first_once = once first (omega (arith, times_in_list-cons first first rest, one)) in (
      differs_from_all rest first (omega (arith, first_once, times_in_list-cons first first rest, one)),
      IsDistinct-once rest
          (λ task some. omega (arith, once task (omega (arith, some, times_in_list-cons task first rest)), times_in_list-cons task first rest)),
    )

is_below : (tasks : List ℕ) (n task : ℕ) → All (λ t. t < n) tasks → list_any (nat_eq task) tasks ≡ true → task < n
is_below [] n task all has = absurd (false≢true has)
is_below (first ∷ rest) n task all has = elim (cases_eq task first) [
  | inl e ↦ omega (arith, e, All-head (λ t. t < n) first rest all)
  | inr ne ↦ let differs : nat_eq task first ≡ false = grind (arith, nat_tests, ne) in
      is_below rest n task (All-tail (λ t. t < n) first rest all) (subst (λ b. (b || list_any (nat_eq task) rest) ≡ true) differs has)
]

IsDistinct-cons : (first : ℕ) (rest : List ℕ) → AllByRecursion (λ member. nat_eq first member ≡ false) rest → IsDistinct nat_eq rest
    → IsDistinct nat_eq (first ∷ rest)
unfolding IsDistinct
IsDistinct-cons first rest h k = (h, k)

-- A list in which each of n tasks stands once at the most has room for one that doesn't stand there.
pub room_for : (tasks : List ℕ) (n task : ℕ) → All (λ t. t < n) tasks → ((t : ℕ) → t < n → times_in_list t tasks ≤ 1) → task < n → times_in_list task tasks ≡ 0
    → length tasks < n
room_for tasks n task all once there none =
    let once_at : (t : ℕ) → 1 ≤ times_in_list t tasks → times_in_list t tasks ≤ 1 = λ t some. once t (member_has (λ t. t < n) tasks t all some) in
    let with_task : IsDistinct nat_eq (task ∷ tasks) = IsDistinct-cons task tasks (differs_from_all tasks task none) (IsDistinct-once tasks once_at) in
    let few =
    length-le_from_distinct_below (task ∷ tasks) n with_task (λ q has. is_below (task ∷ tasks) n q (All-cons (λ t. t < n) task tasks there all) has) in
    omega (arith, few)

-- A list in which each of n tasks stands once at the most is no longer than that.
pub all_once : (tasks : List ℕ) (n : ℕ) → All (λ t. t < n) tasks → ((t : ℕ) → t < n → times_in_list t tasks ≤ 1) → length tasks ≤ n
all_once tasks n all once =
    let once_at : (t : ℕ) → 1 ≤ times_in_list t tasks → times_in_list t tasks ≤ 1 = λ t some. once t (member_has (λ t. t < n) tasks t all some) in
    length-le_from_distinct_below tasks n (IsDistinct-once tasks once_at) (λ q has. is_below tasks n q all has)
