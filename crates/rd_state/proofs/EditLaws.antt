-- Steps in the middle.
use Rattle.std.proofs.Common.{◌≡◌, ◌∙◌, ℕ, ◌≤◌, List, [], ◌∷◌, ◌++◌, length, drop, take, refl, subst, sym, ap, arith}
use Rattle.std.proofs.Math.Seq.{drop-length, take-length}
use Rattle.std.proofs.lemmas.List.{drop-append-le, length-set, length-take-le, length_push, take-append-le}
use Rattle.std.proofs.lemmas.List.Sums.{sum_by_push}
use Rattle.std.specs.Prelude.{Result, Ok, Err, OnOk, OnErr, insert}
use Rattle.rd_state.specs.Change.{Change}
use Rattle.rd_state.specs.Change.{SetTick, SetTurn, SetCore, InsReady, DelReady, Task, Object}
use Rattle.rd_state.specs.Snapshot.{Snapshot}
use Rattle.rd_state.specs.Change.{applied, inverse_of, cost_of, moves_lineup, weight_of, Fits}
use Rattle.rd_state.specs.EditingView.{Outset, EditingView, GoesOn, IsCalmSince, SameShape, LineupStays, Reaches, begun_at, capacity_of, editing_of}
use Rattle.std.proofs.Common.{Bool, true, false, zero, suc, ◌+◌, ◌<◌, ap₂, length-append}
use Rattle.rd_state.specs.EditingView.{room_for, room_of}
use Rattle.rd_state.specs.PackedChanges.{all_packed, packed, ChangeListView}
use Rattle.rd_state.proofs.PackingLaws.{all_packed-push, packed_short}
use Rattle.rd_state.specs.Sizes.{IsSized}
use Rattle.rd_state.specs.Undoing.{undone, CanUndo}
use Rattle.rd_state.proofs.ObjectLaws.{object_numbers}
use Rattle.rd_state.proofs.UndoLaws.{each_is_undone, undone-push, CanUndo-push}

-- A change keeps the numbers of cores, of tasks and of objects.
pub shape-applied : (s : Snapshot) (change : Change) → SameShape s (applied s change)
shape-applied s (SetTick tick) = record { cores = refl; tasks = refl; objects = refl }
shape-applied s (SetTurn turn) = record { cores = refl; tasks = refl; objects = refl }
shape-applied s (SetCore core task) = record { cores = length-set s.cores core task; tasks = refl; objects = refl }
shape-applied s (InsReady index task) = record { cores = refl; tasks = refl; objects = refl }
shape-applied s (DelReady index) = record { cores = refl; tasks = refl; objects = refl }
shape-applied s (Task task change) = record { cores = refl; tasks = length-set s.tasks task _; objects = refl }
shape-applied s (Object change) = record { cores = refl; tasks = refl; objects = object_numbers s.objects change }

abbrev outset_of : Snapshot → List Change → Bool → Outset
outset_of s changes calm = record { state = s; recorded = changes; calm = calm }

outset_same : (s t : Snapshot) (xs ys : List Change) (calm : Bool) → s ≡ t → xs ≡ ys → outset_of s xs calm ≡ outset_of t ys calm
outset_same s t xs ys calm e f = rw (e, f) refl

-- The room that a change leaves, once the list has as much memory or more.
room_after : (list list' : ChangeListView) (change : Change) → list'.changes ≡ list.changes ++ change ∷ [] → list.capacity ≤ list'.capacity
    → room_of list ≤ room_of list' + room_for (cost_of change)
room_after list list' change e grows =
    omega (
      arith,
      ap (λ changes. length (all_packed changes)) e,
      ap length (all_packed-push list.changes change),
      length-append (all_packed list.changes) (packed change),
      packed_short change,
      grows,
    )

-- A change more, and as much memory or more, leave no less in all.
capacity_after : (list list' : ChangeListView) (change : Change) → list'.changes ≡ list.changes ++ change ∷ [] → list.capacity ≤ list'.capacity
    → length (all_packed list.changes) + room_of list ≤ length (all_packed list'.changes) + room_of list'
capacity_after list list' change e grows =
    omega (
      arith,
      ap (λ changes. length (all_packed changes)) e,
      ap length (all_packed-push list.changes change),
      length-append (all_packed list.changes) (packed change),
      grows,
    )

-- Where the list grew and yet has no room for the change, it had less than that cost needs.
pub short_of_room : (list : ChangeListView) (change : Change) → list.capacity < length (all_packed list.changes ++ packed change)
    → room_of list < room_for (cost_of change)
short_of_room list change short = omega (arith, short, length-append (all_packed list.changes) (packed change), packed_short change)

-- Going back takes bytes away, and leaves the memory.
all_packed-take-le : (n : ℕ) (changes : List Change) → length (all_packed (take n changes)) ≤ length (all_packed changes)
all_packed-take-le zero changes = omega arith
all_packed-take-le (suc n) [] = omega arith
all_packed-take-le (suc n) (change ∷ later) =
    omega (
      arith,
      all_packed-take-le n later,
      length-append (packed change) (all_packed later),
      length-append (packed change) (all_packed (take n later)),
    )

pub room_back : (edit : EditingView) (s : Snapshot) (list list' : ChangeListView) (start n : ℕ) (was calm : Bool) → editing_of s list start was calm ≡ edit → list'.changes ≡ take n list.changes
    → list'.capacity ≡ list.capacity → edit.room ≤ room_of list'
room_back edit s list list' start n was calm e f same =
    omega (
      arith,
      ap (λ (old : EditingView). old.room) e,
      ap (λ changes. length (all_packed changes)) f,
      all_packed-take-le n list.changes,
      same,
    )

pub capacity_back : (edit : EditingView) (s : Snapshot) (list list' : ChangeListView) (start n : ℕ) (was calm : Bool) → editing_of s list start was calm ≡ edit
    → length (all_packed list.changes) ≤ list.capacity → list'.changes ≡ take n list.changes → list'.capacity ≡ list.capacity
    → length (all_packed list'.changes) + room_of list' ≡ capacity_of edit
capacity_back edit s list list' start n was calm e within f same =
    omega (
      arith,
      ap (λ (old : EditingView). capacity_of old) e,
      within,
      ap (λ left. length (all_packed left)) f,
      all_packed-take-le n list.changes,
      same,
    )

-- what `act` makes of a state and its record
pub Reaches-act : (s s' : Snapshot) (list list' : ChangeListView) (start : ℕ) (was calm calm' : Bool) (change : Change) → IsSized s → Fits s change → start ≤ length list.changes
    → list.capacity ≤ list'.capacity → s' ≡ applied s change → list'.changes ≡ list.changes ++ inverse_of s change ∷ []
    → Reaches (editing_of s list start was calm) (editing_of s' list' start was calm') (applied s change) (cost_of (inverse_of s change))
Reaches-act s s' list list' start was calm calm' change sized fits within grows e f =
    let law = each_is_undone s change sized fits in
    let back = inverse_of s change in
    let changes = list.changes in
    let later = drop start changes in
    let more : drop start (changes ++ back ∷ []) ≡ later ++ back ∷ [] = drop-append-le start changes (back ∷ []) within in
    let leads : undone (applied s change) (drop start (changes ++ back ∷ [])) ≡ undone s later =
    ap (undone (applied s change)) more ∙ undone-push (applied s change) later back ∙ ap (λ (t : Snapshot). undone t later) law.back in
    record {
      now = e;
      outset =
          outset_same _ _ _ _ was (ap₂ (λ (t : Snapshot) cs. undone t (drop start cs)) e f ∙ leads)
          (ap (take start) f ∙ take-append-le start changes (back ∷ []) within);
      weight = omega (arith, ap (λ cs. weight_of (drop start cs)) f, ap weight_of more, sum_by_push cost_of later back);
      room = room_after list list' back f grows;
      grows = capacity_after list list' back f grows;
      shape = subst (SameShape s) (sym e) (shape-applied s change);
    }

pub CanUndo-act : (s s' : Snapshot) (changes changes' : List Change) (start : ℕ) (change : Change) → IsSized s → Fits s change → start ≤ length changes
    → s' ≡ applied s change → changes' ≡ changes ++ inverse_of s change ∷ []
    → CanUndo s (drop start changes) → (start ≤ length changes') × CanUndo s' (drop start changes')
CanUndo-act s s' changes changes' start change sized fits within e f can =
    let law = each_is_undone s change sized fits in
    let back = inverse_of s change in
    let later = drop start changes in
    let more : drop start (changes ++ back ∷ []) ≡ later ++ back ∷ [] = drop-append-le start changes (back ∷ []) within in
    let pushed = CanUndo-push (applied s change) later back law.fits (subst (λ (t : Snapshot). CanUndo t later) (sym law.back) can) in
    rw (e, f) (
      omega (arith, within, length_push changes back),
      subst (CanUndo (applied s change)) (sym more) pushed,
    )

-- the same, seen by what `act` returns
pub Reaches-from_act : {T E : Type 0} (r : Result T E) (old : EditingView) (s s' : Snapshot) (list list' : ChangeListView) (start : ℕ) (was calm calm' : Bool) (change : Change)
    → editing_of s list start was calm ≡ old → IsSized s → Fits old.now change → start ≤ length list.changes → list.capacity ≤ list'.capacity
    → OnOk r (s' ≡ applied s change) → OnOk r (list'.changes ≡ list.changes ++ inverse_of s change ∷ [])
    → OnOk r (Reaches old (editing_of s' list' start was calm') (applied old.now change) (cost_of (inverse_of old.now change)))
Reaches-from_act r old s s' list list' start was calm calm' change e sized =
    let P : EditingView → Type 0 = λ f. Fits f.now change → start ≤ length list.changes → list.capacity ≤ list'.capacity
    → OnOk r (s' ≡ applied s change) → OnOk r (list'.changes ≡ list.changes ++ inverse_of s change ∷ [])
    → OnOk r (Reaches f (editing_of s' list' start was calm') (applied f.now change) (cost_of (inverse_of f.now change))) in
    subst P e
    (λ fits within grows.
    elim r as (λ q. OnOk q (s' ≡ applied s change) → OnOk q (list'.changes ≡ list.changes ++ inverse_of s change ∷ [])
    → OnOk q (Reaches (editing_of s list start was calm) (editing_of s' list' start was calm') (applied s change) (cost_of (inverse_of s change))))
    [ Ok x ↦ λ f g. Reaches-act s s' list list' start was calm calm' change sized fits within grows f g | Err y ↦ λ f g. tt ])

-- the room that was short, where `act` found no memory
pub short-from_act : {T E : Type 0} (r : Result T E) (old : EditingView) (s : Snapshot) (list : ChangeListView) (start : ℕ) (was calm : Bool) (change : Change)
    → editing_of s list start was calm ≡ old → OnErr r (list.capacity < length (all_packed list.changes ++ packed (inverse_of s change)))
    → OnErr r (old.room < room_for (cost_of (inverse_of old.now change)))
short-from_act r old s list start was calm change e =
    subst (λ (f : EditingView). OnErr r (list.capacity < length (all_packed list.changes ++ packed (inverse_of s change))) → OnErr r (f.room < room_for (cost_of (inverse_of f.now change)))) e
    (elim r as (λ q. OnErr q (list.capacity < length (all_packed list.changes ++ packed (inverse_of s change)))
    → OnErr q (room_of list < room_for (cost_of (inverse_of s change))))
    [ Ok x ↦ λ f. tt | Err y ↦ λ f. short_of_room list (inverse_of s change) f ])

pub CanUndo-from_act : {T E : Type 0} (r : Result T E) (old : EditingView) (s s' : Snapshot) (list list' : ChangeListView) (start : ℕ) (was calm : Bool) (change : Change)
    → editing_of s list start was calm ≡ old → IsSized s → Fits old.now change → (start ≤ length list.changes) × CanUndo s (drop start list.changes)
    → OnOk r (s' ≡ applied s change) → OnOk r (list'.changes ≡ list.changes ++ inverse_of s change ∷ []) → OnErr r (s' ≡ s) → OnErr r (list' ≡ list)
    → (start ≤ length list'.changes) × CanUndo s' (drop start list'.changes)
CanUndo-from_act r old s s' list list' start was calm change e sized fits can =
    let fits_here = subst (λ (f : EditingView). Fits f.now change) (sym e) fits in
    elim r as (λ q. OnOk q (s' ≡ applied s change) → OnOk q (list'.changes ≡ list.changes ++ inverse_of s change ∷ []) → OnErr q (s' ≡ s) → OnErr q (list' ≡ list)
    → (start ≤ length list'.changes) × CanUndo s' (drop start list'.changes))
    [ Ok x ↦ λ f g h k. CanUndo-act s s' list.changes list'.changes start change sized fits_here can.0 f g can.1 | Err y ↦ λ f g h k. rw (h, k) can ]

-- A move begins where it is, with nothing recorded.
pub editing_of-begin : (s : Snapshot) (list : ChangeListView) (start : ℕ) (calm : Bool) → start ≡ length list.changes
    → editing_of s list start calm calm ≡ begun_at s list.changes (room_of list) calm
editing_of-begin s list start calm e = rw (e, drop-length list.changes, take-length list.changes) refl

-- What a step recorded goes on from what was there before.
pub GoesOn-editing_of : (edit : EditingView) (s : Snapshot) (list : ChangeListView) (start : ℕ) (was calm : Bool) → editing_of s list start was calm ≡ edit
    → start ≤ length list.changes → CanUndo s (drop start list.changes) → GoesOn edit edit.changes
GoesOn-editing_of edit s list start was calm e within can =
    let changes = list.changes in
    let count : length (take start changes) ≡ start = length-take-le start changes within in
    subst (λ (f : EditingView). GoesOn f f.changes) e (record {
      before = ap (λ n. take n changes) count;
      leads_back = ap (λ n. undone s (drop n changes)) count;
      can_undo = subst (λ n. CanUndo s (drop n changes)) (sym count) can;
      weight = ap (λ n. weight_of (drop n changes)) count;
    })

-- ---- what calls for settling

-- Where a task joins the ready list behind its first one, that stays.
first_stays : (ready : List ℕ) (index task : ℕ) → suc index ≤ length ready → take 1 (insert ready (suc index) task) ≡ take 1 ready
first_stays [] index task within = absurd (omega (arith, within))
first_stays (first ∷ later) index task within = refl

pub lineup_stays : (s : Snapshot) (change : Change) → Fits s change → moves_lineup change ≡ false → LineupStays s (applied s change)
lineup_stays s (SetTick tick) fits still = record { cores = refl; first = refl }
lineup_stays s (SetTurn turn) fits still = record { cores = refl; first = refl }
lineup_stays s (SetCore core task) fits still = absurd cc
lineup_stays s (InsReady zero task) fits still = absurd cc
lineup_stays s (InsReady (suc index) task) fits still = record { cores = refl; first = first_stays s.ready index task fits.0 }
lineup_stays s (DelReady index) fits still = absurd cc
lineup_stays s (Task task change) fits still = record { cores = refl; first = refl }
lineup_stays s (Object change) fits still = record { cores = refl; first = refl }

pub stay_on : (outset : Outset) (s s' : Snapshot) → IsCalmSince outset s → LineupStays s s' → IsCalmSince outset s'
stay_on outset s s' calm stay = record {
  was = calm.was;
  stay = record { cores = stay.cores ∙ calm.stay.cores; first = stay.first ∙ calm.stay.first };
}

-- What `act` makes of a move that was calm: it stays so where the change leaves the line-up, or isn't made.
pub calm-from_act : {T E : Type 0} (r : Result T E) (old : EditingView) (s s' : Snapshot) (list list' : ChangeListView) (start : ℕ) (was calm calm' : Bool) (change : Change)
    → editing_of s list start was calm ≡ old → IsSized s → Fits old.now change → start ≤ length list.changes → list.capacity ≤ list'.capacity
    → OnOk r (s' ≡ applied s change) → OnOk r (list'.changes ≡ list.changes ++ inverse_of s change ∷ []) → OnErr r (s' ≡ s) → OnErr r (list' ≡ list)
    → (calm ≡ true → IsCalmSince (editing_of s list start was calm).outset s) → (calm' ≡ true → calm ≡ true) → (calm' ≡ true → OnOk r (moves_lineup change ≡ false))
    → calm' ≡ true → IsCalmSince (editing_of s' list' start was calm').outset s'
calm-from_act r old s s' list list' start was calm calm' change e sized fits within grows f g h k since only still here =
    let fits_here : Fits s change = subst (λ (edit : EditingView). Fits edit.now change) (sym e) fits in
    let before = since (only here) in
    (elim r as (λ q. OnOk q (s' ≡ applied s change) → OnOk q (list'.changes ≡ list.changes ++ inverse_of s change ∷ []) → OnErr q (s' ≡ s) → OnErr q (list' ≡ list)
    → OnOk q (moves_lineup change ≡ false) → IsCalmSince (editing_of s' list' start was calm').outset s') [
      | Ok x ↦ λ now record_now _ _ same.
          subst (λ (b : Outset). IsCalmSince b s') (sym (Reaches-act s s' list list' start was calm calm' change sized fits_here within grows now record_now).outset)
          (stay_on (editing_of s list start was calm).outset s s' before (subst (LineupStays s) (sym now) (lineup_stays s change fits_here same)))
      | Err y ↦ λ _ _ now record_now _. rw (now, record_now) before
    ]) f g h k (still here)

-- A change that leaves the line-up, whichever it is, leaves a move as calm as it was.
pub calm-from_still_act : {T E : Type 0} (r : Result T E) (old : EditingView) (s s' : Snapshot) (list list' : ChangeListView) (start : ℕ) (was calm : Bool) (change : Change)
    → editing_of s list start was calm ≡ old → IsSized s → Fits old.now change → start ≤ length list.changes → list.capacity ≤ list'.capacity
    → OnOk r (s' ≡ applied s change) → OnOk r (list'.changes ≡ list.changes ++ inverse_of s change ∷ []) → OnErr r (s' ≡ s) → OnErr r (list' ≡ list)
    → (calm ≡ true → IsCalmSince (editing_of s list start was calm).outset s) → moves_lineup change ≡ false
    → calm ≡ true → IsCalmSince (editing_of s' list' start was calm).outset s'
calm-from_still_act r old s s' list list' start was calm change e sized fits within grows f g h k since still =
    calm-from_act r old s s' list list' start was calm calm change e sized fits within grows f g h k since (λ c. c)
    (λ _. (elim r as (λ q. OnOk q (moves_lineup change ≡ false)) [ Ok x ↦ still | Err y ↦ tt ]))
