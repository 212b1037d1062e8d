-- Moves and runs from where a timeline is, and what needs memory.
use Rattle.std.proofs.Common.{◌≡◌, ◌≢◌, ◌∙◌, ℕ, ◌+◌, ◌<◌, ◌≤◌, inl, inr, true, false, cond, length, refl, ap, subst, sym, arith, List, [], ◌∷◌}
use Rattle.std.proofs.Math.Numerals.{add-one}
use Rattle.std.specs.Prelude.{◌⊎◌, Bool, nat_eq, nat_le, is_ok, IsTrue, Option, Result, Ok, Err}
use Rattle.std.proofs.lemmas.Bool.{eq-eqb, le-leb, ne_eqb}
use Rattle.rd_app.specs.Application.{Application}
use Rattle.rd_refusal.specs.declared.refusal.Refusal.{Refusal}
use Rattle.rd_refusal.specs.declared.refusal.Refusal.TheVariants.{MovesFull, NoMemory}
use Rattle.rd_state.specs.Boot.{boot_of}
use Rattle.rd_state.specs.Snapshot.{Snapshot}
use Rattle.rd_moves.specs.Moves.{PlainMove}
use Rattle.rd_calls.specs.Step.{policy_of, step}
use Rattle.rd_condition.specs.declared.condition.Condition.{Condition}
use Rattle.rd_timeline.specs.Course.{Course, HasGrown, IsAhead, IsWhyNot}
use Rattle.rd_timeline.specs.History.{state_after, state_or}
use Rattle.rd_timeline.specs.LogView.{bytes_of}
use Rattle.rd_timeline.specs.Recorded.{RecordsMoves, StandsOn}
use Rattle.rd_timeline.specs.Redoing.{IsWhyNoRedo}
use Rattle.rd_timeline.specs.Running.{IsWhyNoRun, MayLackMemory, RunLacksRoom, run_from}
use Rattle.rd_timeline.specs.Runs.{Going, AtGoal, Moves, Refused, can_make, chosen, ended, looked_for, meets, moved, moved_on, moves_of, run_on, state_of}
use Rattle.rd_timeline.specs.declared.logged.TheConstants.{MAX_KEPT_BYTES}
use Rattle.rd_timeline.proofs.PolicyLaws.{first_can, never_moved, never_ran, ran_on}
use Rattle.rd_timeline.proofs.RecordedLaws.{StandsOn-one, StandsOn-then, ahead_now}

-- ---- a move

-- the state that the moves done give is the target
pub target_given : (course : Course) → state_after course.app course.done ≡ Ok course.target → state_of course.app (moves_of course) ≡ course.target
target_given course leads = ap (state_or (boot_of course.app)) leads

-- a move more, where there is room for it or not
moved_given : (course : Course) (move : PlainMove) (full : Bool) → state_after course.app course.done ≡ Ok course.target
    → nat_eq (length course.done) course.limit ≡ full
    → moved course.app course.limit (moves_of course) move ≡ cond full (Err MovesFull) (step course.app course.target move)
moved_given course move full leads is =
    ap (λ (s : Snapshot). cond (nat_eq (length course.done) course.limit) (Err MovesFull) (step course.app s move)) (target_given course leads)
    ∙ ap (λ b. cond b (Err MovesFull) (step course.app course.target move)) is

pub moved_there : (course : Course) (move : PlainMove) (s : Snapshot) → state_after course.app course.done ≡ Ok course.target
    → length course.done ≢ course.limit → step course.app course.target move ≡ Ok s → moved course.app course.limit (moves_of course) move ≡ Ok s
moved_there course move s leads room steps = moved_given course move false leads (ne_eqb (length course.done) course.limit room) ∙ steps

-- A move that isn't made is refused, or there is no memory for it.
pub why_not_moved : (course : Course) (move : PlainMove) (refusal : Refusal) → state_after course.app course.done ≡ Ok course.target
    → IsWhyNot course move refusal
    → (moved course.app course.limit (moves_of course) move ≡ Err refusal)
    ⊎ (IsTrue (can_make course.app course.limit (moves_of course) move) × (refusal ≡ NoMemory))
why_not_moved course move refusal leads why = elim why [
  | inl full ↦ inl (moved_given course move true leads (eq-eqb (length course.done) course.limit full.0) ∙ ap (λ (r : Refusal). Err r) (sym full.1))
  | inr others ↦ elim others [
    | inl by_rules ↦ inl (moved_given course move false leads (ne_eqb (length course.done) course.limit by_rules.0) ∙ by_rules.1)
    | inr lacks ↦ inr (ap is_ok (moved_given course move false leads (ne_eqb (length course.done) course.limit lacks.0.0)) ∙ lacks.0.1, lacks.1)
  ]
]

pub go_needs_memory : (old : Course) (move : PlainMove) → state_after old.app old.done ≡ Ok old.target → IsWhyNot old move NoMemory
    → IsTrue (can_make old.app old.limit (moves_of old) move)
go_needs_memory old move leads why = elim (why_not_moved old move NoMemory leads why) [
  | inl refused ↦ absurd (never_moved old.app old.limit (moves_of old) move refused)
  | inr lacks ↦ lacks.0
]

pub redo_needs_memory : (old : Course) (count : ℕ) → IsWhyNoRedo old count NoMemory → IsTrue (nat_le count (length old.undone))
redo_needs_memory old count why = elim why [
  | inl fewer ↦ absurd cc
  | inr lacks ↦ le-leb count (length old.undone) lacks.0
]

-- ---- a run

-- What becomes of a run that has come here: the move that policy chooses next is made or refused.
goes_on : (old now : Course) (goal : Option Condition) (made : ℕ) (r : Result Snapshot Refusal) → run_from old goal made ≡ Going (moves_of now)
    → now.app ≡ old.app → now.limit ≡ old.limit → state_after now.app now.done ≡ Ok now.target
    → moved now.app now.limit (moves_of now) (policy_of now.target) ≡ r
    → run_from old goal (made + 1) ≡ looked_for goal (moved_on (moves_of now) (policy_of now.target)) r
goes_on old now goal made r going app limit leads is =
    let moves = moves_of now in
    ap (run_from old goal) (add-one made) ∙ ap (run_on old.app old.limit goal) going
    ∙ ap (λ (a : Application). run_on a old.limit goal (Going moves)) (sym app)
    ∙ ap (λ n. run_on now.app n goal (Going moves)) (sym limit)
    ∙ ap (λ (s : Snapshot). looked_for goal (moved_on moves (policy_of s)) (moved now.app now.limit moves (policy_of s))) (target_given now leads)
    ∙ ap (looked_for goal (moved_on moves (policy_of now.target))) is

-- It is made, with its record, and the goal met by it or not.
pub record MakesOneMore (old next : Course) (goal : Option Condition) (made : ℕ) (met : Bool) : Type 0 where
  pub run : run_from old goal made ≡ ended met (moves_of next)
  pub stands : StandsOn old next
  pub ahead : IsAhead next

pub one_more : (old now next : Course) (goal : Option Condition) (made : ℕ) (met : Bool) (action : PlainMove) → run_from old goal made ≡ Going (moves_of now)
    → StandsOn old now → state_after now.app now.done ≡ Ok now.target → action ≡ policy_of now.target → length now.done ≢ now.limit
    → step now.app now.target action ≡ Ok next.target → moves_of next ≡ moved_on (moves_of now) action → next.app ≡ now.app → next.limit ≡ now.limit
    → RecordsMoves now next → bytes_of now.log + MAX_KEPT_BYTES ≤ next.room.bytes → HasGrown now.room next.room → next.read ≡ now.read
    → meets goal next.target ≡ met → MakesOneMore old next goal (made + 1) met
one_more old now next goal made met action going stands leads is room steps moves app limit recorded ahead grows read looked =
    let done = ap (λ (ms : Moves). ms.done) moves in
    let stands_one = StandsOn-one now next action app limit done recorded grows read in
    let gives : moved now.app now.limit (moves_of now) (policy_of now.target) ≡ Ok next.target =
    ap (moved now.app now.limit (moves_of now)) (sym is) ∙ moved_there now action next.target leads room steps in
    record {
      run =
          goes_on old now goal made (Ok next.target) going stands.app stands.limit leads gives
          ∙ ap (λ b. ended b (moved_on (moves_of now) (policy_of now.target))) looked
          ∙ ap (ended met) (ap (moved_on (moves_of now)) (sym is) ∙ sym moves);
      stands = StandsOn-then old now next stands stands_one;
      ahead = ahead_now now next action done stands_one ahead;
    }

-- Its goal was met: the run stays there.
pub stays_there : (old next : Course) (goal : Option Condition) (made count : ℕ) → run_from old goal made ≡ AtGoal (moves_of next) → made ≤ count
    → run_from old goal count ≡ AtGoal (moves_of next)
stays_there old next goal made count is within =
    ran_on old.app old.limit goal (record (moves_of old) { undone = [] }) (AtGoal (moves_of next)) made refl is count within

-- It isn't made.
pub why_no_run : (old now : Course) (goal : Option Condition) (made count : ℕ) (refusal : Refusal) → run_from old goal made ≡ Going (moves_of now)
    → now.app ≡ old.app → now.limit ≡ old.limit → state_after now.app now.done ≡ Ok now.target → made < count
    → IsWhyNot now (policy_of now.target) refusal → IsWhyNoRun old goal count refusal
why_no_run old now goal made count refusal going app limit leads less why =
    elim (why_not_moved now (policy_of now.target) refusal leads why) [
      | inl refused ↦ inl (ran_on old.app old.limit goal (record (moves_of old) { undone = [] }) (Refused refusal) (made + 1) refl
          (goes_on old now goal made (Err refusal) going app limit leads refused) count (omega (arith, less)))
      | inr lacks ↦ inr (
        record {
          made = made;
          fewer = less;
          moves = moves_of now;
          going = going;
          next =
              subst (λ n. IsTrue (can_make old.app n (moves_of now) (chosen old.app (moves_of now)))) limit
              (subst (λ (a : Application). IsTrue (can_make a now.limit (moves_of now) (chosen a (moves_of now)))) app
              (subst (λ (s : Snapshot). IsTrue (can_make now.app now.limit (moves_of now) (policy_of s))) (sym (target_given now leads)) lacks.0));
        },
        lacks.1,
      )
    ]

pub run_needs_memory : (old : Course) (goal : Option Condition) (count : ℕ) → IsWhyNoRun old goal count NoMemory
    → IsTrue (can_make old.app old.limit (moves_of old) (chosen old.app (moves_of old)))
run_needs_memory old goal count why = elim why [
  | inl refused ↦ absurd (never_ran old.app old.limit goal (record (moves_of old) { undone = [] }) count refused)
  | inr lacks ↦ first_can old.app old.limit goal (moves_of old) lacks.0.moves lacks.0.made lacks.0.going lacks.0.next
]

-- ---- a run doesn't hang on the moves undone

pub why_from_aside : (old : Course) (goal : Option Condition) (count : ℕ) (refusal : Refusal) → IsWhyNoRun (record old { undone = [] }) goal count refusal
    → IsWhyNoRun old goal count refusal
why_from_aside old goal count refusal why = elim why [
  | inl refused ↦ inl refused
  | inr lacks ↦ inr (
    record { made = lacks.0.made; fewer = lacks.0.fewer; moves = lacks.0.moves; going = lacks.0.going; next = lacks.0.next },
    lacks.1,
  )
]

-- It sets them aside, where there are some.
lacks_aside : (old : Course) (goal : Option Condition) (count : ℕ) (undone : List PlainMove) → RunLacksRoom (record old { undone = [] }) goal count
    → MayLackMemory (record old { undone = undone }) goal count
lacks_aside old goal count [] lacks = inr lacks
lacks_aside old goal count (move ∷ rest) lacks = inl (omega arith)

pub lacks_from_aside : (old : Course) (goal : Option Condition) (count : ℕ) → RunLacksRoom (record old { undone = [] }) goal count
    → MayLackMemory old goal count
lacks_from_aside old goal count lacks = lacks_aside old goal count old.undone lacks
