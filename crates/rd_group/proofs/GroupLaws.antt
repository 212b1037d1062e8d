-- Which wishes some bits meet, wish by wish, and what they leave.
use Rattle.std.proofs.Common.{◌≡◌, ◌∙◌, ℕ, ◌+◌, ◌<◌, ◌≤◌, Bool, true, false, if◌then◌else◌, List, [], ◌∷◌, ◌++◌, length, get_or, take}
use Rattle.std.proofs.Common.{refl, ap, arith, append-nil}
use Rattle.std.proofs.lemmas.Nat.{and_le_l}
use Rattle.std.proofs.lemmas.List.{length-take-le, take_more}
use Rattle.std.proofs.lemmas.List.Elements.{All-cons, All-drop, All-get_or, All-take}
use Rattle.std.specs.Prelude.{All}
use Rattle.std.specs.Int.{bit_not, w32}
use Rattle.rd_group.specs.declared.wish.Wish.{Wish}
use Rattle.rd_group.specs.declared.wish.OnMet.{OnMet}
use Rattle.rd_group.specs.declared.wish.OnMet.TheVariants.{Keep, Clear}
use Rattle.rd_group.specs.Wishes.{is_met, left_of, left_when_met}
use Rattle.rd_group.specs.Groups.{left_after, met_tasks}

-- ---- the tasks whose wishes are met

first_of_all : (b : Bool) (task : ℕ) (tasks others : List ℕ)
    → (if b then task ∷ (tasks ++ others) else (tasks ++ others)) ≡ (if b then task ∷ tasks else tasks) ++ others
first_of_all true task tasks others = refl
first_of_all false task tasks others = refl

-- one task more, at the back
met_tasks-push : (bits : ℕ) (tasks : List ℕ) (wishes : List Wish) (task : ℕ) (wish : Wish) → length wishes ≡ length tasks
    → met_tasks bits (tasks ++ task ∷ []) (wishes ++ wish ∷ []) ≡ met_tasks bits tasks wishes ++ (if is_met bits wish then task ∷ [] else [])
met_tasks-push bits [] [] task wish same = refl
met_tasks-push bits [] (w ∷ wishes) task wish same = absurd (omega (arith, same))
met_tasks-push bits (t ∷ tasks) [] task wish same = absurd (omega (arith, same))
met_tasks-push bits (t ∷ tasks) (w ∷ wishes) task wish same =
    let later = met_tasks-push bits tasks wishes task wish (omega (arith, same)) in
    ap (λ (rest : List ℕ). if is_met bits w then t ∷ rest else rest) later
    ∙ first_of_all (is_met bits w) t (met_tasks bits tasks wishes) (if is_met bits wish then task ∷ [] else [])

met_tasks-more : (bits : ℕ) (tasks : List ℕ) (wishes : List Wish) (index : ℕ) (none : Wish) → length wishes ≡ length tasks → index < length tasks
    → met_tasks bits (take (index + 1) tasks) (take (index + 1) wishes)
    ≡ met_tasks bits (take index tasks) (take index wishes) ++ (if is_met bits (get_or wishes index none) then get_or tasks index 0 ∷ [] else [])
met_tasks-more bits tasks wishes index none same there =
    rw (take_more tasks index 0 there, take_more wishes index none (omega (arith, same, there)))
    (met_tasks-push bits (take index tasks) (take index wishes) (get_or tasks index 0) (get_or wishes index none)
    (omega (arith, length-take-le index tasks (omega (arith, there)), length-take-le index wishes (omega (arith, same, there)))))

pub met_tasks-met : (bits : ℕ) (tasks : List ℕ) (wishes : List Wish) (index : ℕ) (none : Wish) → length wishes ≡ length tasks → index < length tasks
    → is_met bits (get_or wishes index none) ≡ true
    → met_tasks bits (take (index + 1) tasks) (take (index + 1) wishes) ≡ met_tasks bits (take index tasks) (take index wishes) ++ get_or tasks index 0 ∷ []
met_tasks-met bits tasks wishes index none same there met =
    met_tasks-more bits tasks wishes index none same there
    ∙ ap (λ (b : Bool). met_tasks bits (take index tasks) (take index wishes) ++ (if b then get_or tasks index 0 ∷ [] else [])) met

pub met_tasks-unmet : (bits : ℕ) (tasks : List ℕ) (wishes : List Wish) (index : ℕ) (none : Wish) → length wishes ≡ length tasks → index < length tasks
    → is_met bits (get_or wishes index none) ≡ false
    → met_tasks bits (take (index + 1) tasks) (take (index + 1) wishes) ≡ met_tasks bits (take index tasks) (take index wishes)
met_tasks-unmet bits tasks wishes index none same there unmet =
    met_tasks-more bits tasks wishes index none same there
    ∙ ap (λ (b : Bool). met_tasks bits (take index tasks) (take index wishes) ++ (if b then get_or tasks index 0 ∷ [] else [])) unmet
    ∙ append-nil (met_tasks bits (take index tasks) (take index wishes))

-- as many as there are tasks, or fewer
one_or_none : (b : Bool) (task : ℕ) (tasks : List ℕ) → length (if b then task ∷ tasks else tasks) ≤ length tasks + 1
one_or_none true task tasks = omega arith
one_or_none false task tasks = omega arith

pub length-met_tasks : (bits : ℕ) (tasks : List ℕ) (wishes : List Wish) → length (met_tasks bits tasks wishes) ≤ length tasks
length-met_tasks bits [] wishes = omega arith
length-met_tasks bits (task ∷ tasks) [] = omega arith
length-met_tasks bits (task ∷ tasks) (wish ∷ wishes) =
    omega (arith, one_or_none (is_met bits wish) task (met_tasks bits tasks wishes), length-met_tasks bits tasks wishes)

-- What holds of all tasks holds of those.
met_or_not : (P : ℕ → Type 0) (b : Bool) (task : ℕ) (tasks : List ℕ) → P task → All P tasks → All P (if b then task ∷ tasks else tasks)
met_or_not P true task tasks here later = All-cons P task tasks here later
met_or_not P false task tasks here later = later

pub All-met_tasks : (P : ℕ → Type 0) (bits : ℕ) (tasks : List ℕ) (wishes : List Wish) → All P tasks → All P (met_tasks bits tasks wishes)
All-met_tasks P bits [] wishes h = h
All-met_tasks P bits (task ∷ tasks) [] h = All-take P 0 (task ∷ tasks) h
All-met_tasks P bits (task ∷ tasks) (wish ∷ wishes) h =
    met_or_not P (is_met bits wish) task (met_tasks bits tasks wishes) (All-get_or P (task ∷ tasks) 0 0 (omega arith) h)
    (All-met_tasks P bits tasks wishes (All-drop P 1 (task ∷ tasks) h))

pub length-met_so_far : (bits : ℕ) (tasks : List ℕ) (wishes : List Wish) (index : ℕ) → index < length tasks
    → length (met_tasks bits (take index tasks) (take index wishes)) ≤ index
length-met_so_far bits tasks wishes index there =
    omega (arith, length-met_tasks bits (take index tasks) (take index wishes), length-take-le index tasks (omega (arith, there)))

-- ---- the bits that are left

-- what is left after one wish more, met or not
abbrev more_left : Bool → ℕ → Wish → ℕ
more_left met left wish = if met then left_of left wish else left

-- one wish more, at the back
left_after-push : (bits : ℕ) (wishes : List Wish) (wish : Wish) (left : ℕ)
    → left_after bits (wishes ++ wish ∷ []) left ≡ more_left (is_met bits wish) (left_after bits wishes left) wish
left_after-push bits [] wish left = refl
left_after-push bits (w ∷ wishes) wish left = left_after-push bits wishes wish (if is_met bits w then left_of left w else left)

left_after-more : (bits : ℕ) (wishes : List Wish) (index : ℕ) (none : Wish) (left : ℕ) → index < length wishes
    → left_after bits (take (index + 1) wishes) left
    ≡ more_left (is_met bits (get_or wishes index none)) (left_after bits (take index wishes) left) (get_or wishes index none)
left_after-more bits wishes index none left there =
    rw (take_more wishes index none there) (left_after-push bits (take index wishes) (get_or wishes index none) left)

pub left_after-met : (bits : ℕ) (wishes : List Wish) (index : ℕ) (none : Wish) (left : ℕ) → index < length wishes
    → is_met bits (get_or wishes index none) ≡ true
    → left_after bits (take (index + 1) wishes) left ≡ left_of (left_after bits (take index wishes) left) (get_or wishes index none)
left_after-met bits wishes index none left there met =
    left_after-more bits wishes index none left there
    ∙ ap (λ (b : Bool). more_left b (left_after bits (take index wishes) left) (get_or wishes index none)) met

pub left_after-unmet : (bits : ℕ) (wishes : List Wish) (index : ℕ) (none : Wish) (left : ℕ) → index < length wishes
    → is_met bits (get_or wishes index none) ≡ false
    → left_after bits (take (index + 1) wishes) left ≡ left_after bits (take index wishes) left
left_after-unmet bits wishes index none left there unmet =
    left_after-more bits wishes index none left there
    ∙ ap (λ (b : Bool). more_left b (left_after bits (take index wishes) left) (get_or wishes index none)) unmet

-- no bit comes in
left_when_met-le : (on_met : OnMet) (wanted bits : ℕ) → left_when_met on_met wanted bits ≤ bits
left_when_met-le Keep wanted bits = omega arith
left_when_met-le Clear wanted bits = and_le_l bits (bit_not w32 wanted)

one_of_two : (b : Bool) (less all : ℕ) → less ≤ all → (if b then less else all) ≤ all
one_of_two true less all few = few
one_of_two false less all few = omega arith

pub left_after-le : (bits : ℕ) (wishes : List Wish) (left : ℕ) → left_after bits wishes left ≤ left
left_after-le bits [] left = omega arith
left_after-le bits (wish ∷ wishes) left =
    omega (
      arith,
      left_after-le bits wishes (if is_met bits wish then left_of left wish else left),
      one_of_two (is_met bits wish) (left_of left wish) left (left_when_met-le wish.on_met wish.bits left),
    )
