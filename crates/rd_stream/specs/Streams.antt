-- Stream buffers as lists of bytes.
use Rattle.std.specs.Prelude.{ℕ, List, []}
use Rattle.rd_stream.specs.Holders.{HoldersView, no_holders}
use Rattle.rd_stream.specs.StreamSnapshot.{StreamSnapshot}

-- a new buffer with that trigger level, at which that many tasks can wait
abbrev pub empty_stream : ℕ → ℕ → ℕ → StreamSnapshot
empty_stream capacity trigger task_count = record {
  bytes = [];
  capacity = capacity;
  trigger = trigger;
  holders = no_holders task_count;
}

-- the buffer with these bytes, this trigger level, these names in place of its own
abbrev pub with_stream_bytes : StreamSnapshot → List ℕ → StreamSnapshot
with_stream_bytes stream bytes = record stream { bytes = bytes }

abbrev pub with_trigger : StreamSnapshot → ℕ → StreamSnapshot
with_trigger stream trigger = record stream { trigger = trigger }

abbrev pub with_stream_holders : StreamSnapshot → HoldersView → StreamSnapshot
with_stream_holders stream holders = record stream { holders = holders }
