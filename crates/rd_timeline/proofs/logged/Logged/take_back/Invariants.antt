-- So many records were taken back.
use Rattle.std.proofs.Common.{◌≡◌, ◌+◌, ◌-◌, drop, length, take}
use Rattle.rd_timeline.specs.History.{rewound}
use Rattle.rd_timeline.specs.LogView.{bytes_of}
use Rattle.rd_timeline.proofs.logged.Logged.take_back.Given as goal

abbrev pub invariant-loop : goal.invariant-loop
invariant-loop l = record {
  target : l.self.target ≡ rewound l.fn.self.target (drop (length l.fn.self.records - l.counter) l.fn.self.records);
  records : l.self.records ≡ take (length l.fn.self.records - l.counter) l.fn.self.records;
  read : l.self.read ≡ l.fn.self.read + bytes_of (drop (length l.fn.self.records - l.counter) l.fn.self.records);
  memory : l.self.memory ≡ l.fn.self.memory;
}
