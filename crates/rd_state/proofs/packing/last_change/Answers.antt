-- The goals of `last_change` that the check left open.
use Rattle.std.proofs.Common.{◌∙◌, ap, arith, rules, sym}
use Rattle.rd_bytes.specs.Ends.{all_but, end_byte}
use Rattle.rd_state.specs.Change.{Object}
use Rattle.rd_state.proofs.PackingLaws.{IsObjectTag, change_length-object, last_change-object}
use Rattle.rd_state.proofs.packing.last_change.Goals as goal

pub last_object_change-requires-clause-whole : goal.last_object_change-requires-clause-whole
last_object_change-requires-clause-whole c =
    let is : IsObjectTag (end_byte 1 c.args.bytes.now) = record {
      tick = search rules;
      turn = search rules;
      core = search rules;
      ready = search rules;
      left = search rules;
      above = search rules;
    } in
    omega (arith, change_length-object c.args.bytes.now is, c.requires.whole)

pub returns-clause-change : goal.returns-clause-change
returns-clause-change c =
    let is : IsObjectTag (end_byte 1 c.args.bytes.now) = record {
      tick = search rules;
      turn = search rules;
      core = search rules;
      ready = search rules;
      left = search rules;
      above = search rules;
    } in
    ap Object c.last_object_change.ensures.change ∙ sym (last_change-object c.args.bytes.now is)

pub returns-clause-rest : goal.returns-clause-rest
returns-clause-rest c =
    let is : IsObjectTag (end_byte 1 c.args.bytes.now) = record {
      tick = search rules;
      turn = search rules;
      core = search rules;
      ready = search rules;
      left = search rules;
      above = search rules;
    } in
    c.last_object_change.ensures.rest ∙ ap (λ n. all_but n c.args.bytes.now) (sym (change_length-object c.args.bytes.now is))
