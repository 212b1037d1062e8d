-- What a condition names in an application is in each of its valid states.
use Rattle.std.proofs.Common.{◌<◌, ◌≡◌, arith, length}
use Rattle.std.proofs.lemmas.List.Elements.{All-get_or}
use Rattle.rd_app.specs.Application.{Application}
use Rattle.rd_state.specs.Snapshot.{Snapshot, TaskSnapshot, no_task}
use Rattle.rd_state.specs.Valid.{InLimits, IsValid}
use Rattle.rd_state.proofs.Offered.{group_count_shaped, message_count_shaped, queue_count_shaped, stream_count_shaped}
use Rattle.rd_condition.specs.declared.condition.Amount.{Amount}
use Rattle.rd_condition.specs.declared.condition.Amount.TheVariants.{Items, Bytes, Messages, Bits}
use Rattle.rd_condition.specs.declared.condition.Amount.TheVariants.{Register, Pc, Value, Tick}
use Rattle.rd_condition.specs.declared.condition.Condition.{Condition}
use Rattle.rd_condition.specs.declared.condition.Condition.TheVariants.{Compares, InPhase}
use Rattle.rd_condition.specs.Conditions.{HasAmount, HasCondition, IsAmountOf, IsConditionOf}

HasAmount-valid : (app : Application) (s : Snapshot) (amount : Amount) → InLimits app s → IsAmountOf app amount → HasAmount s amount
HasAmount-valid app s (Items queue) limits is = omega (arith, is, queue_count_shaped app s.objects limits.objects)
HasAmount-valid app s (Bytes stream) limits is = omega (arith, is, stream_count_shaped app s.objects limits.objects)
HasAmount-valid app s (Messages message) limits is = omega (arith, is, message_count_shaped app s.objects limits.objects)
HasAmount-valid app s (Bits group) limits is = omega (arith, is, group_count_shaped app s.objects limits.objects)
HasAmount-valid app s (Register task register) limits is = (omega (arith, is.0, limits.tasks), is.1)
HasAmount-valid app s (Pc task) limits is = omega (arith, is, limits.tasks)
HasAmount-valid app s (Value task index) limits is =
    let there : task < length s.tasks = omega (arith, is.0, limits.tasks) in
    (there, omega (arith, is.1, All-get_or (λ (t : TaskSnapshot). length t.entries ≡ app.entries) s.tasks task no_task there limits.entries))
HasAmount-valid app s Tick limits is = tt

pub HasCondition-valid : (app : Application) (s : Snapshot) (condition : Condition) → IsValid app s → IsConditionOf app condition → HasCondition s condition
HasCondition-valid app s (Compares amount comparison bound) valid is = HasAmount-valid app s amount valid.in_limits is
HasCondition-valid app s (InPhase task name) valid is = omega (arith, is, valid.in_limits.tasks)
