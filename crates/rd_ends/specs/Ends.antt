-- What is known of sources and sinks, and what a call does to it.
use Rattle.std.specs.Prelude.{ℕ, ◌≡◌, ◌+◌, ◌<◌, ◌^◌, List, ◌++◌, nat_eq, if◌then◌else◌}
use Rattle.std.specs.Prelude.{Option, Result, Ok, Err}
use Rattle.std.specs.Io.KnownBytes.{Appends}

-- the bytes that reads will give, where they are known; how often it was read, how many of these
-- reads have found the end, and how many have failed
pub record SourceView : Type 0 where
  pub remaining : Option (List ℕ)
  pub reads : ℕ
  pub ends : ℕ
  pub faults : ℕ

-- the bytes that it has taken, and those that its writes were given, taken or not, where they are
-- known; how many writes have failed
pub record SinkView : Type 0 where
  pub contents : Option (List ℕ)
  pub given : Option (List ℕ)
  pub faults : ℕ

-- Nothing was read yet.
pub record IsUnread (source : SourceView) : Type 0 where
  pub reads : source.reads ≡ 0
  pub ends : source.ends ≡ 0
  pub faults : source.faults ≡ 0

-- Its counts can grow.
pub record CountsReads (source : SourceView) : Type 0 where
  pub reads : source.reads < 2 ^ 63
  pub ends : source.ends < 2 ^ 63
  pub faults : source.faults < 2 ^ 63

-- how many reads have found the end, after one more
abbrev pub ends_after : {E : Type 0} → ℕ → Result ℕ E → ℕ
ends_after ends (Ok count) = if nat_eq count 0 then ends + 1 else ends
ends_after ends (Err fault) = ends

-- how many calls have failed, after one more
abbrev pub faults_after : {T E : Type 0} → ℕ → Result T E → ℕ
faults_after faults (Ok done) = faults
faults_after faults (Err fault) = faults + 1

-- The bytes are the first of these.
abbrev pub IsFront : List ℕ → List ℕ → Type 0
IsFront front whole = (rest : List ℕ) × (whole ≡ front ++ rest)

-- The known bytes grow by these, or where the write fails by a front of them.
abbrev pub Says : {T E : Type 0} → Option (List ℕ) → Option (List ℕ) → Result T E → List ℕ → Type 0
Says old new (Ok done) bytes = Appends old new bytes
Says old new (Err fault) bytes =
    (front : List ℕ) × IsFront front bytes × Appends old new front
