-- The goals of `Group::met` that the check left open.
use Rattle.std.proofs.Common.{rules, ◌≡◌, ◌∙◌, ◌+◌, ◌<◌, ℕ, length, get_or, take, subst, sym, ap, arith, List, ◌++◌, ◌∷◌, []}
use Rattle.rd_group.specs.GroupSnapshot.{GroupSnapshot}
use Rattle.rd_group.specs.Wishes.{is_met}
use Rattle.rd_group.specs.Groups.{met_tasks}
use Rattle.rd_group.proofs.GroupLaws.{length-met_so_far, met_tasks-met, met_tasks-unmet}
use Rattle.rd_group.proofs.group.Group.met.Goals as goal
use Rattle.rd_group.proofs.group.Group.met.Goals.{then-is_met, else-is_met}

pub push-requires : goal.push-requires
push-requires c =
    let inside = c.self.inside in
    let there : c.loop-index.index < length inside.waiting.tasks = search rules in
    let few = length-met_so_far c.args.bits inside.waiting.tasks inside.wishes.items c.loop-index.index there in
    (omega arith, rw (c.loop-index.invariant, ← c.self.view_is) (omega (arith, few, there, c.as_slice-tasks.ensures.room, c.self.invariant.5)))

pub loop-index-preserved : goal.loop-index-preserved
loop-index-preserved c =
    let bits = c.args.bits in
    let index = c.loop-index.index in
    let tasks = c.self.inside.waiting.tasks in
    let wishes = c.self.inside.wishes.items in
    let there : index < length tasks = search rules in
    let so_far : c.loop-index.met.items ≡ met_tasks bits (take index tasks) (take index wishes) =
    subst (λ (g : GroupSnapshot). c.loop-index.met.items ≡ met_tasks bits (take index g.waiting) (take index g.wishes)) (sym c.self.view_is)
    c.loop-index.invariant in
    let wish : c.index.result.now ≡ get_or wishes index c.index.result.now = search rules in
    let asked : c.is_met.result ≡ is_met bits (get_or wishes index c.index.result.now) = c.is_met.ensures ∙ ap (is_met bits) wish in
    let now : c.if-is_met.met.items ≡ met_tasks bits (take (index + 1) tasks) (take (index + 1) wishes) =
    elim c.if-is_met.branch [
      | then-is_met w ↦
          let pushed : c.if-is_met.met.items ≡ c.loop-index.met.items ++ get_or tasks index 0 ∷ [] = search rules in
          pushed ∙ ap (λ (met : List ℕ). met ++ get_or tasks index 0 ∷ []) so_far
          ∙ sym (met_tasks-met bits tasks wishes index c.index.result.now c.self.invariant.2 there (sym asked ∙ w.if-is_met.true))
      | else-is_met w ↦
          let same : c.if-is_met.met.items ≡ c.loop-index.met.items = search rules in
          same ∙ so_far ∙ sym (met_tasks-unmet bits tasks wishes index c.index.result.now c.self.invariant.2 there (sym asked ∙ w.if-is_met.false))
    ] in
    subst (λ (g : GroupSnapshot). c.if-is_met.met.items ≡ met_tasks bits (take (index + 1) g.waiting) (take (index + 1) g.wishes)) c.self.view_is now
