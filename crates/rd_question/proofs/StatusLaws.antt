-- How a request ends that the words ask for.
use Rattle.std.proofs.Common.{◌≡◌, ℕ, List, Result, Ok, Err, IfOk, subst}
use Rattle.clap.specs.Words.{Text}
use Rattle.rd_question.specs.CommandLine.{IsAskedBy}
use Rattle.rd_question.specs.Statuses.{EndsBy, IsStatusOf}
use Rattle.rd_question.specs.declared.fault.ReachFault.{ReachFault}
use Rattle.rd_question.specs.declared.options.ReachRequest.{ReachRequest}

pub ended : (words : List Text) (asked request : ReachRequest) (status : ℕ) → asked ≡ request → IsAskedBy words asked → EndsBy request status
    → IsStatusOf words status
ended words asked request status is h ends = record { request = request; asked = subst (IsAskedBy words) is h; ended = ends }

pub ended_if_done : (words : List Text) (asked request : ReachRequest) (result : Result ℕ ReachFault) → asked ≡ request → IsAskedBy words asked
    → IfOk result (EndsBy request) → IfOk result (IsStatusOf words)
ended_if_done words asked request (Ok status) is h ends = ended words asked request status is h ends
ended_if_done words asked request (Err fault) is h ends = tt
