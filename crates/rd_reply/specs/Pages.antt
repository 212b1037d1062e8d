-- What becomes of a page that is appended to.
use Rattle.std.specs.Prelude.{ℕ, ◌≡◌, ◌+◌, ◌<◌, ◌≤◌, List, ◌++◌, false, true, length, take}
use Rattle.std.specs.Prelude.{vec_capacity, vec_len}
use Rattle.std.specs.Global.{Vec}
use Rattle.rd_reply.specs.declared.page.Page.{Page}

-- What the page had still stands in front, and there is no less room.
pub record PageFrontStays (old new : Vec ℕ) : Type 0 where
  pub front : (count : ℕ) → count ≤ vec_len old → take count new.items ≡ take count old.items
  pub len : vec_len old ≤ vec_len new
  pub room : vec_capacity old ≤ vec_capacity new

-- The page has no room for the text.
abbrev pub LacksRoom : Vec ℕ → List ℕ → Type 0
LacksRoom page text = vec_capacity page < vec_len page + length text

-- The text was appended, unless there was no room for it, or for what would have come before it.
pub record Appends (old new : Page) (text : List ℕ) : Type 0 where
  pub same : new.bytes.ghost_name ≡ old.bytes.ghost_name
  pub added : new.is_full ≡ false → new.bytes.now.items ≡ old.bytes.now.items ++ text
  pub full : new.is_full ≡ true → old.is_full ≡ false → LacksRoom old.bytes.now text
  pub stays : old.is_full ≡ true → new.is_full ≡ true
  pub front : PageFrontStays old.bytes.now new.bytes.now
