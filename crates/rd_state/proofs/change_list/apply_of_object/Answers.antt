-- The goals of `apply_of_object` that the check left open.
use Rattle.std.proofs.Common.{◌≡◌, ◌∙◌, ap, arith, subst, sym}
use Rattle.rd_bytes.specs.Ends.{all_but}
use Rattle.rd_state.specs.Change.{Change, Fits, Object, applied}
use Rattle.rd_state.specs.Objects.{the_object_change}
use Rattle.rd_state.specs.PackedChanges.{last_change}
use Rattle.rd_state.proofs.PackingLaws.{IsObjectTag-above, change_length-object, last_change-object}
use Rattle.rd_state.proofs.change_list.apply_of_object.Goals as goal

pub last_object_change-requires-clause-whole : goal.last_object_change-requires-clause-whole
last_object_change-requires-clause-whole c =
    omega (arith, change_length-object c.args.bytes.now (IsObjectTag-above _ c.requires.object), c.requires.ends.whole)

pub change_object-requires : goal.change_object-requires
change_object-requires c =
    let bytes = c.args.bytes.now in
    let same : last_change bytes ≡ Object (the_object_change c.last_object_change.result.0) =
    last_change-object bytes (IsObjectTag-above _ c.requires.object) ∙ ap Object (sym c.last_object_change.ensures.change) in
    subst (λ (change : Change). Fits c.args.state.now change) same c.requires.fits

pub returns-clause-state : goal.returns-clause-state
returns-clause-state c =
    let bytes = c.args.bytes.now in
    let same : last_change bytes ≡ Object (the_object_change c.last_object_change.result.0) =
    last_change-object bytes (IsObjectTag-above _ c.requires.object) ∙ ap Object (sym c.last_object_change.ensures.change) in
    c.change_object.ensures ∙ sym (ap (λ (change : Change). applied c.args.state.now change) same)

pub returns-clause-rest : goal.returns-clause-rest
returns-clause-rest c =
    c.last_object_change.ensures.rest
    ∙ ap (λ n. all_but n c.args.bytes.now) (sym (change_length-object c.args.bytes.now (IsObjectTag-above _ c.requires.object)))
