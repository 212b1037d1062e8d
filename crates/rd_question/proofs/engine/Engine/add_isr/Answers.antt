use Rattle.std.proofs.Common.{◌≡◌, [], ◌∷◌, ◌++◌, refl, subst}
use Rattle.rd_question.specs.Asked.{AreEach, IsIsrFor}
use Rattle.rd_question.specs.EngineView.{EngineView}
use Rattle.rd_question.proofs.engine.Engine.add_isr.Goals as goal

pub returns-in-Ok-clause-added : goal.returns-in-Ok-clause-added
returns-in-Ok-clause-added c =
    let isr = c.in_ok-handler.handler in
    let said = c.in_ok-handler.ensures in
    let plans = c.in-Ok._schedule.isrs in
    let grown = subst (λ isrs. AreEach (IsIsrFor c.self.inside.app) isrs plans) c.in_ok-push.ensures.items c.in-Ok.ensures.plan.isrs in (
      isr,
      record { calls = said.calls; times = said.times; follows = said.follows; apart = said.apart },
      rw (c.in_ok-push.ensures.items, ← c.self.view_is) refl,
      (plans, subst (λ (e : EngineView). AreEach (IsIsrFor e.app) (e.isrs ++ isr ∷ []) plans) c.self.view_is grown),
    )
