-- The goal of `ChangeList::act_of_object` that the check left open.
use Rattle.rd_state.specs.Change.{Object}
use Rattle.rd_state.specs.Objects.{the_object_change}
use Rattle.rd_state.proofs.PackingLaws.{inverse_has_bytes}
use Rattle.rd_state.proofs.change_list.ChangeList.act_of_object.Goals as goal

pub push_of_object-requires : goal.push_of_object-requires
push_of_object-requires c =
    rw (c.inverse_of.ensures, c.objects.ensures.objects) (inverse_has_bytes c.args.state.now (Object (the_object_change c.args.change)) c.sizes.ensures c.requires)
