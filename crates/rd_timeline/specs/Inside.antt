-- The course that the fields of a `Timeline` stand for.
use Rattle.std.specs.Prelude.{◌-◌, ◌≤◌}
use Rattle.rd_app.specs.Application.{IsApplication}
use Rattle.rd_timeline.specs.declared.timeline.Timeline.TheInside.{Inside}
use Rattle.rd_timeline.specs.Course.{Course, IsTraced}

-- What was read to go back is all that was read of records, but for what was read otherwise.
abbrev pub course_of : Inside → Course
course_of t = record {
  app = t.app;
  limit = t.limit;
  target = t.journal.target;
  done = t.journal.done;
  log = t.journal.records;
  undone = t.journal.undone;
  room = record {
    moves = t.journal.capacity;
    carried = t.journal.carried_capacity;
    bytes = t.journal.memory;
  };
  read = t.journal.read - t.others.bytes;
}

-- The way back is traced. What was read otherwise is no more than what was read.
pub record IsWhole (t : Inside) : Type 0 where
  pub traced : IsTraced (course_of t)
  pub limits : IsApplication t.app
  pub others : t.others.bytes ≤ t.journal.read
