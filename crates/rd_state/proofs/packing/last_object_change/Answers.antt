-- The goals of `last_object_change` that the check left open: the row of event groups.
use Rattle.std.proofs.Common.{◌∙◌, ap, arith, rules, sym}
use Rattle.rd_bytes.specs.Ends.{all_but}
use Rattle.rd_state.specs.PackedChanges.{group_change_of}
use Rattle.rd_state.proofs.PackingLaws.{IsGroupKind-other}
use Rattle.rd_state.proofs.packing.last_object_change.Goals as goal

pub last_group_change-group-requires : goal.last_group_change-group-requires
last_group_change-group-requires c =
    let is = IsGroupKind-other c.args.bytes.now (search rules) (search rules) (search rules) (search rules) in
    record { some = c.requires.some; whole = omega (arith, is.length, c.requires.whole) }

pub returns-in_default-clause-change : goal.returns-in_default-clause-change
returns-in_default-clause-change c =
    let is = IsGroupKind-other c.args.bytes.now (search rules) (search rules) (search rules) (search rules) in
    ap group_change_of (sym c.last_group_change-group.ensures.row) ∙ sym is.change

pub returns-in_default-clause-rest : goal.returns-in_default-clause-rest
returns-in_default-clause-rest c =
    let is = IsGroupKind-other c.args.bytes.now (search rules) (search rules) (search rules) (search rules) in
    c.last_group_change-group.ensures.rest ∙ ap (λ n. all_but n c.args.bytes.now) (sym is.length)
