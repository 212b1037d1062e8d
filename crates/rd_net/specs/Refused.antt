-- What a connection is told that isn't let in.
use Rattle.rd_refusal.specs.declared.refusal.Refusal.{Refusal}
use Rattle.rd_refusal.specs.declared.refusal.Refusal.TheVariants as refusal
use Rattle.rd_desk.specs.declared.desk.EnterError.{EnterError}
use Rattle.rd_desk.specs.declared.desk.EnterError.TheVariants.{Full, HistoryFull, NoMemory}

-- the refusal that says why
abbrev pub refusal_of : EnterError → Refusal
refusal_of Full = refusal.Full
refusal_of (HistoryFull tally) = refusal.HistoryFull
refusal_of NoMemory = refusal.NoMemory
