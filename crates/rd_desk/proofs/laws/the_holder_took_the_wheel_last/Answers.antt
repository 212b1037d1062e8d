-- The goals of the_holder_took_the_wheel_last that the check left open.
use Rattle.rd_desk.proofs.WheelLaws.{the_holder_took_the_wheel_last}
use Rattle.rd_desk.proofs.laws.the_holder_took_the_wheel_last.Goals as goal

pub returns : goal.returns
returns c = the_holder_took_the_wheel_last
