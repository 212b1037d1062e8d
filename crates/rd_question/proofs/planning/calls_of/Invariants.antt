use Rattle.std.proofs.Common.{take}
use Rattle.std.specs.Prelude.{All, string_bytes}
use Rattle.rd_moves.specs.Carried.{IsCarriedOf}
use Rattle.rd_question.specs.Asked.{AreEach, IsCallOf}
use Rattle.rd_question.proofs.planning.calls_of.Given as goal

abbrev pub invariant-loop-line : goal.invariant-loop-line
invariant-loop-line l =
    record {
      said : AreEach (λ line call. IsCallOf l.app (string_bytes line) call) (take l.line-index l.lines) l.calls.items;
      named : All (IsCarriedOf l.app.runs) l.calls.items;
    }
