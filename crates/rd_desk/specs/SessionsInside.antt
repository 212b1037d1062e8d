-- What holds of the fields of `Sessions`.
use Rattle.std.specs.Prelude.{◌≡◌, ◌≤◌, length, vec_capacity}
use Rattle.rd_desk.specs.declared.sessions.Sessions.TheInside.{Inside}
use Rattle.rd_desk.specs.declared.sessions.TheConstants.{MAX_JOINS}
use Rattle.rd_desk.specs.Sessions.{present_count}

pub record IsSessions (s : Inside) : Type 0 where
  pub present : s.present ≡ present_count s.slots.items
  pub joins : length s.slots.items ≤ MAX_JOINS
  pub room : MAX_JOINS ≤ vec_capacity s.slots
