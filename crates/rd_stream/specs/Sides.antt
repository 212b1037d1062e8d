-- The sides of a buffer in packed bytes.
use Rattle.std.specs.Prelude.{ℕ}
use Rattle.rd_bytes.specs.declared.tag.TheConstants.{SET_READER, SET_WRITER}
use Rattle.rd_stream.specs.declared.side.Side.{Side}
use Rattle.rd_stream.specs.declared.side.Side.TheVariants.{Reader, Writer}

-- the tag of the change by which the place at a side names somebody else
abbrev pub tag_of_side : Side → ℕ
tag_of_side Reader = SET_READER
tag_of_side Writer = SET_WRITER
