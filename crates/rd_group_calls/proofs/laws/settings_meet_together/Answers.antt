-- The goals of `settings_meet_together` that the check left open.
use Rattle.rd_group_calls.proofs.SettingLaws.{settings_meet_together}
use Rattle.rd_group_calls.proofs.laws.settings_meet_together.Goals as goal

pub returns : goal.returns
returns c = settings_meet_together
