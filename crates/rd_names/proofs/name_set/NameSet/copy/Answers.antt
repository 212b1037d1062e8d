-- The goal of copy that the check left open.
use Rattle.std.proofs.Common.{◌≡◌, ◌∙◌, IfOk, Ok, Err, List, ℕ, ap}
use Rattle.rd_text.specs.Words.{texts}
use Rattle.rd_names.specs.NameSets.{names_among}
use Rattle.rd_names.proofs.SetLaws.{names_among-distinct}
use Rattle.rd_names.proofs.name_set.NameSet.copy.Goals as goal

pub returns : goal.returns
returns c =
    let listed = ap texts c.as_slice.ensures.value ∙ c.in_ok-texts.ensures in
    let same = ap names_among listed ∙ names_among-distinct c.args.self.now c.by_invariant.ensures in
    elim c.new.result as (λ r. IfOk r (λ made. made ≡ names_among (texts c.as_slice.result.now)) → IfOk r (λ copy. copy ≡ c.args.self.now)) [
      | Ok made ↦ λ is. is ∙ same
      | Err e ↦ λ is. is
    ] c.new.ensures
