-- The goal of texts that the check left open.
use Rattle.std.proofs.Common.{◌∙◌, ◌++◌, ◌∷◌, [], ap, sym, arith, add-one}
use Rattle.std.proofs.lemmas.Grind.{common_steps}
use Rattle.rd_text.specs.Words.{texts}
use Rattle.rd_names.proofs.SetLaws.{take-found, texts-push}
use Rattle.rd_names.proofs.name_set.NameSet.texts.Goals as goal

pub loop-number-preserved : goal.loop-number-preserved
loop-number-preserved c =
    let more = take-found c.args.self.now c.loop-number.number c.name.result.now c.name.ensures in (
      rw add-one (ap texts c.push_reserved.ensures.items ∙ texts-push c.loop-number.names.items c.name.result
          ∙ ap (λ xs. xs ++ c.name.result.now ∷ []) c.loop-number.invariant.0 ∙ sym more),
      grind (arith, common_steps),
      grind (arith, common_steps),
    )
