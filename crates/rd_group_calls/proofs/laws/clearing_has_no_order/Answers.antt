-- The goals of `clearing_has_no_order` that the check left open.
use Rattle.rd_group_calls.proofs.SettingLaws.{clearing_has_no_order}
use Rattle.rd_group_calls.proofs.laws.clearing_has_no_order.Goals as goal

pub returns : goal.returns
returns c = clearing_has_no_order
