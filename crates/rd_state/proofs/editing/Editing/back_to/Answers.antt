-- The goals of `Editing::back_to` that the check left open.
use Rattle.rd_state.proofs.EditLaws.{capacity_back, room_back}
use Rattle.rd_state.proofs.editing.Editing.back_to.Goals as goal

pub returns-clause-room : goal.returns-clause-room
returns-clause-room c = room_back c.args.self.now _ _ c.back_to.new.self _ _ _ _ c.self.view_is c.back_to.ensures.changes c.back_to.ensures.capacity

pub returns-clause-capacity : goal.returns-clause-capacity
returns-clause-capacity c =
    capacity_back c.args.self.now _ _ c.back_to.new.self _ _ _ _ c.self.view_is c.bytes.ensures.room c.back_to.ensures.changes c.back_to.ensures.capacity
