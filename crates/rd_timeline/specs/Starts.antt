-- Where a run begins, and what taking it back leaves.
use Rattle.std.specs.Prelude.{◌≡◌, ◌-◌, ◌≤◌, ◌++◌, length, take, Ok}
use Rattle.rd_timeline.specs.declared.timeline.Start.{Start}
use Rattle.rd_timeline.specs.Course.{AreMade, Course, HasGrown}
use Rattle.rd_timeline.specs.History.{state_after}

-- A run begins at this course.
pub record IsStartOf (course : Course) (start : Start) : Type 0 where
  pub done : start.done ≡ length course.done
  pub undone : start.undone ≡ course.undone

-- No more moves were done then, and those made since have a record each. They and those that were
-- undone could all be made, and there is room for them.
pub record CanCancel (old : Course) (start : Start) : Type 0 where
  pub earlier : start.done ≤ length old.done
  pub recorded : length old.done - start.done ≤ length old.log
  pub made : AreMade old.app old.limit old.room (take start.done old.done ++ start.undone)

-- All is as it was there.
pub record IsCancelled (old : Course) (start : Start) (new : Course) : Type 0 where
  pub app : new.app ≡ old.app
  pub limit : new.limit ≡ old.limit
  pub done : new.done ≡ take start.done old.done
  pub log : new.log ≡ take (length old.log - (length old.done - start.done)) old.log
  pub undone : new.undone ≡ start.undone
  pub grows : HasGrown old.room new.room
  pub read : new.read ≡ old.read
  pub leads : state_after new.app new.done ≡ Ok new.target
