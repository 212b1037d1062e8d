-- Moves: what each names of an application.
use Rattle.std.specs.Prelude.{◌<◌}
use Rattle.rd_app.specs.Application.{Application}
use Rattle.rd_moves.specs.declared.moves.Move as moves
use Rattle.rd_moves.specs.declared.moves.Move.TheVariants.{Core, Tick, Carried}
use Rattle.rd_moves.specs.Carried.{IsCarriedOf, PlainCarried}

-- a move with what it carries, wherever that stands
abbrev pub PlainMove : Type 0
PlainMove = moves.Move PlainCarried

-- The move names what the application has.
abbrev pub IsMoveOf : Application → PlainMove → Type 0
IsMoveOf app (Core core) = core < app.cores
IsMoveOf app Tick = Unit {0}
IsMoveOf app (Carried carried) = IsCarriedOf app carried
