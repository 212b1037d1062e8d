-- Histories that the sequential debugger could have made.
use Rattle.std.specs.Prelude.{◌≡◌, List, [], ◌∷◌}
use Rattle.rd_desk.specs.declared.entry.HistoryEntry.{HistoryEntry}
use Rattle.rd_desk.specs.Debugger.{Debugger, opening}
use Rattle.rd_desk.specs.Serving.{MayAct, reply_of, served}

-- The events, in order, lead from one debugger to the other, and each reply is the debugger's at
-- its place.
abbrev pub Leads : Debugger → List HistoryEntry → Debugger → Type 0
Leads d [] last = last ≡ d
Leads d (entry ∷ later) last =
    MayAct d entry.who entry.event
    × (entry.reply ≡ reply_of d entry.who entry.event)
    × Leads (served d entry.who entry.event) later last

-- From its opening the history leads to this debugger.
abbrev pub IsLegal : List HistoryEntry → Debugger → Type 0
IsLegal history d = Leads (opening d.app d.most_moves) history d
