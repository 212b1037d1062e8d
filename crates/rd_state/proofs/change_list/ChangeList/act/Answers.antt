-- The goal of `ChangeList::act` that the check left open.
use Rattle.rd_state.specs.Change.{the_change}
use Rattle.rd_state.proofs.PackingLaws.{inverse_has_bytes}
use Rattle.rd_state.proofs.change_list.ChangeList.act.Goals as goal

pub push-requires : goal.push-requires
push-requires c = rw c.inverse_of.ensures (inverse_has_bytes c.args.state.now (the_change c.args.change) c.sizes.ensures c.requires)
