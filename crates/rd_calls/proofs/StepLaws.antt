-- A valid state stays valid through a move, and a move ends in a settled state.
use Rattle.std.proofs.Common.{◌≡◌, ◌∙◌, ℕ, ◌+◌, ◌-◌, ◌%◌, ◌<◌, ◌≤◌, true, false, [], length}
use Rattle.std.proofs.Common.{get_or, Some, refl, ap, subst, sym, arith, inl, inr}
use Rattle.std.proofs.lemmas.Bool.{cases_lt, false≢true}
use Rattle.std.proofs.lemmas.List.Elements.{All-get_or}
use Rattle.std.proofs.Math.Nat.{mod-lt}
use Rattle.rd_app.specs.declared.instr.Instr.TheVariants.{Local}
use Rattle.rd_app.specs.declared.instr.LocalInstr.TheVariants.{End}
use Rattle.rd_app.specs.Application.{Application, IsApplication, IsScript, IsWithin, is_final, priorities_of}
use Rattle.rd_app.specs.TaskScript.{TaskScript}
use Rattle.rd_state.specs.Settled.{lineup_of, settled, IsSettled}
use Rattle.rd_state.specs.Sizes.{IsSized}
use Rattle.rd_state.specs.Snapshot.{Snapshot, task_at, core_at}
use Rattle.rd_state.specs.Valid.{IsValid}
use Rattle.rd_state.proofs.Offered.{scheduling_settles, stays_settled, Rescheduled, Rescheduled-settled, Rescheduled-rotated, Rescheduled-then}
use Rattle.rd_calls.specs.Step.{performed, next_instr, core_step, ticked, tick_step}
use Rattle.rd_kernel.specs.Waking.{is_due, timed_out}
use Rattle.rd_kernel.proofs.Offered.{IsValid-consistent, IsConsistent, IsConsistent-deadlines, IsConsistent-rescheduled, IsConsistent-valid}
use Rattle.rd_kernel.proofs.Offered.{all_have_time_left, due_idle}
use Rattle.rd_kernel.proofs.Offered.{is_task_on_core, room_in_ready, runs_on_core, TimedOut, TimedOut-so_far}
use Rattle.rd_kernel.proofs.Offered.{all_looked_at, any_deadline}
use Rattle.rd_calls.proofs.InstrLaws.{IsConsistent-performed, performed-tick}

-- ---- a move of a core

-- The last instruction of a script doesn't go on at the next.
not_last : (app : Application) (script : TaskScript) (pc : ℕ) → IsScript app script → pc < length script.code
    → is_final (get_or script.code pc (Local End)) ≡ false → pc + 1 < length script.code
not_last app script pc ok within e =
    elim (cases_lt (pc + 1) (length script.code)) [
      | inl lt ↦ lt
      | inr ge ↦ let last : pc ≡ length script.code - 1 = omega (arith, ge, within) in
          absurd (false≢true (sym e ∙ ap (λ k. is_final (get_or script.code k (Local End))) last ∙ ok.ends))
    ]

IsConsistent-next_instr : (app : Application) (s : Snapshot) (core task : ℕ) → IsApplication app → IsValid app s → core < length s.cores
    → core_at s core ≡ Some task
    → IsConsistent app (all_have_time_left s.tick) (performed (priorities_of app) s core task (next_instr app s task))
IsConsistent-next_instr app s core task limits valid has_core e =
    let there = is_task_on_core app s core task valid has_core e in
    let script = get_or app.tasks task (record { priority = 0; code = [] }) in
    let pc = (task_at s task).pc in
    let ok : IsScript app script =
    All-get_or (IsScript app) app.tasks task (record { priority = 0; code = [] }) (omega (arith, there, valid.in_limits.tasks)) limits.tasks in
    let within = valid.in_limits.pcs task there in
    let fits = All-get_or (IsWithin app (length script.code)) script.code pc (Local End) within ok.within in
    IsConsistent-performed app s core task (next_instr app s task) limits.some_entries valid there (runs_on_core app s core task valid has_core e) has_core e refl fits
    (not_last app script pc ok within)

pub IsValid-step : (app : Application) (s s' : Snapshot) (core task : ℕ) → IsApplication app → IsValid app s → core < length s.cores
    → core_at s core ≡ Some task
    → s' ≡ core_step app s core task → IsSized s' → IsValid app s'
IsValid-step app s s' core task limits valid there e same sized =
    let priorities = priorities_of app in
    let p = performed priorities s core task (next_instr app s task) in
    let z = core_step app s core task in
    let at = IsConsistent-next_instr app s core task limits valid there e in
    let some : 0 < length p.cores = omega (arith, limits.some_cores, at.cores) in
    let rescheduled : Rescheduled priorities (lineup_of p) (lineup_of z) = Rescheduled-settled priorities (record p { turn = core + 1 }) some in
    let consistent_z = IsConsistent-rescheduled app (all_have_time_left s.tick) p z rescheduled refl refl at in
    let tick : s.tick ≡ z.tick = sym (performed-tick priorities s core task (next_instr app s task)) in
    subst (λ (t : Snapshot). IsSized t → IsValid app t) (sym same)
    (IsValid-consistent app z (subst (λ t. IsConsistent app (all_have_time_left t) z) tick consistent_z)) sized

-- A move ends in a settled state.
pub IsSettled-step : (app : Application) (s s' : Snapshot) (core task : ℕ) → IsApplication app → IsValid app s → core < length s.cores
    → core_at s core ≡ Some task → s' ≡ core_step app s core task → IsSettled (priorities_of app) s'
IsSettled-step app s s' core task limits valid there e same =
    let priorities = priorities_of app in
    let p = performed priorities s core task (next_instr app s task) in
    let at = IsConsistent-next_instr app s core task limits valid there e in
    subst (IsSettled priorities) (sym same)
    (scheduling_settles priorities (record p { turn = core + 1 }) (omega (arith, limits.some_cores, at.cores)) at.waiting_lists.ready).settled_now

-- ---- a tick

-- What stands in the middle of a tick, when so many tasks were looked at.
pub TimedOut-of_valid : (app : Application) (s : Snapshot) (n : ℕ) → IsValid app s → n ≤ length s.tasks
    → TimedOut app n (record s { tick = s.tick + 1 }) (timed_out (priorities_of app) n (record s { tick = s.tick + 1 }))
TimedOut-of_valid app s n valid few =
    let now : Snapshot = record s { tick = s.tick + 1 } in
    TimedOut-so_far app n now few
    (IsConsistent-rescheduled app any_deadline s now (record { cores = refl; lined_up = λ task. refl; order = λ h. h }) refl refl
    (IsConsistent-deadlines app (all_have_time_left s.tick) any_deadline s (λ t h was. tt) (IsConsistent-valid app s valid)))

IsConsistent-ticked : (app : Application) (s : Snapshot) → IsValid app s → IsConsistent app (all_have_time_left (s.tick + 1)) (ticked (priorities_of app) s)
IsConsistent-ticked app s valid =
    all_looked_at app (record s { tick = s.tick + 1 }) (ticked (priorities_of app) s) valid.in_limits.tasks
    (TimedOut-of_valid app s (length s.tasks) valid (omega arith))

pub IsValid-tick : (app : Application) (s s' : Snapshot) → IsApplication app → IsValid app s → s' ≡ tick_step app s → IsSized s' → IsValid app s'
IsValid-tick app s s' limits valid same sized =
    let priorities = priorities_of app in
    let p = ticked priorities s in
    let z = tick_step app s in
    let core = (s.tick + 1) % length s.cores in
    let at = IsConsistent-ticked app s valid in
    let some : 0 < length s.cores = omega (arith, limits.some_cores, valid.in_limits.cores) in
    let some_p : 0 < length p.cores = omega (arith, limits.some_cores, at.cores) in
    let by_settling : Rescheduled priorities (lineup_of p) (lineup_of (settled priorities p)) = Rescheduled-settled priorities p some_p in
    let there : core < length (settled priorities p).cores = omega (arith, by_settling.cores, at.cores, valid.in_limits.cores, mod-lt (s.tick + 1) some) in
    let by_turns : Rescheduled priorities (lineup_of (settled priorities p)) (lineup_of z) = Rescheduled-rotated priorities core (settled priorities p) there in
    let rescheduled = Rescheduled-then priorities (lineup_of p) (lineup_of (settled priorities p)) (lineup_of z) by_settling by_turns in
    let consistent_z = IsConsistent-rescheduled app (all_have_time_left (s.tick + 1)) p z rescheduled refl refl at in
    let tick : s.tick + 1 ≡ z.tick = sym (TimedOut-of_valid app s (length s.tasks) valid (omega arith)).after.tick in
    subst (λ (t : Snapshot). IsSized t → IsValid app t) (sym same)
    (IsValid-consistent app z (subst (λ t. IsConsistent app (all_have_time_left t) z) tick consistent_z)) sized

pub IsSettled-tick : (app : Application) (s s' : Snapshot) → IsApplication app → IsValid app s → s' ≡ tick_step app s → IsSettled (priorities_of app) s'
IsSettled-tick app s s' limits valid same =
    let priorities = priorities_of app in
    let p = ticked priorities s in
    let core = (s.tick + 1) % length s.cores in
    let at = IsConsistent-ticked app s valid in
    let some : 0 < length s.cores = omega (arith, limits.some_cores, valid.in_limits.cores) in
    let some_p : 0 < length p.cores = omega (arith, limits.some_cores, at.cores) in
    let rescheduled : Rescheduled priorities (lineup_of p) (lineup_of (settled priorities p)) = Rescheduled-settled priorities p some_p in
    let there : core < length (settled priorities p).cores = omega (arith, rescheduled.cores, at.cores, valid.in_limits.cores, mod-lt (s.tick + 1) some) in
    subst (IsSettled priorities) (sym same)
    (stays_settled priorities core (settled priorities p) there (scheduling_settles priorities p some_p at.waiting_lists.ready).settled_now)

-- In the middle of a tick, there is room for a task whose time is up.
pub room_when_due : (app : Application) (s now : Snapshot) (task : ℕ) → IsValid app s → task < length s.tasks
    → now ≡ timed_out (priorities_of app) task (record s { tick = s.tick + 1 }) → IsSized now
    → is_due now.tick (task_at now task).phase ≡ true → length now.ready < length now.tasks
room_when_due app s now task valid there e sized due =
    let so_far = TimedOut-of_valid app s task valid (omega (arith, there)) in
    let at = subst (IsConsistent app any_deadline) (sym e) so_far.consistent in
    room_in_ready app any_deadline now task at sized (omega (arith, there, at.tasks, valid.in_limits.tasks))
    (due_idle now.tick (task_at now task).phase due)
