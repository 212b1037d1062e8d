-- Claims that are read, word by word.
use Rattle.std.proofs.Common.{◌≡◌, ◌∙◌, ℕ, List, [], ◌∷◌, ◌++◌, ap, sym, subst}
use Rattle.rd_condition.specs.declared.condition.Amount.{Amount}
use Rattle.rd_condition.specs.declared.condition.Condition.TheVariants.{Compares, InPhase}
use Rattle.rd_goal.specs.declared.claim.Claim.{Claim}
use Rattle.rd_goal.specs.declared.claim.Claim.TheVariants.{Holds, Masked, Among, At, Waits, Runs}
use Rattle.rd_goal.specs.declared.claim.Claim.TheVariants.{SomeFailed, Finished, Asleep}
use Rattle.rd_goal.specs.Reading.{IsAbout, ReadsAbout, ReadsAmount, ReadsBehind, ReadsClaim, WordsView}
use Rattle.rd_goal.specs.Written.{IsAlone, IsForm, Itself, Sign, signs_of_amount}
use Rattle.rd_goal.proofs.WordLaws.{reads_both, reads_itself, reads_more, reads_none}

-- a claim about an amount is the amount's signs, and those behind it
form_about : (amount : Amount) (claim : Claim) (signs : List Sign) → IsAbout amount claim signs → IsForm claim (signs_of_amount amount ++ signs)
form_about amount (Holds (Compares compared comparison bound)) signs h = ap (λ (a : Amount). signs_of_amount a ++ signs) (sym h.0) ∙ ap (λ (more : List Sign). signs_of_amount compared ++ more) h.1
form_about amount (Holds (InPhase task name)) signs h = absurd h
form_about amount (Masked compared mask comparison bound) signs h = ap (λ (a : Amount). signs_of_amount a ++ signs) (sym h.0) ∙ ap (λ (more : List Sign). signs_of_amount compared ++ more) h.1
form_about amount (Among compared comparison other) signs h = ap (λ (a : Amount). signs_of_amount a ++ signs) (sym h.0) ∙ ap (λ (more : List Sign). signs_of_amount compared ++ more) h.1
form_about amount (At task pc) signs h = absurd h
form_about amount (Waits task place) signs h = absurd h
form_about amount (Runs task) signs h = absurd h
form_about amount SomeFailed signs h = absurd h
form_about amount Finished signs h = absurd h
form_about amount Asleep signs h = absurd h

pub about_behind : (first : List ℕ) (amount : Amount) (old mid new : WordsView) (claim : Claim) → ReadsAmount first old mid amount
    → ReadsAbout amount mid new claim → ReadsBehind first old new claim
about_behind first amount old mid new claim h k = record {
  signs = h.signs ++ k.signs;
  form = subst (λ (signs : List Sign). IsForm claim (signs ++ k.signs)) h.form (form_about amount claim k.signs k.about);
  reads = reads_both h.signs k.signs old mid new h.reads k.reads;
}

pub behind_first : (first : List ℕ) (old mid new : WordsView) (claim : Claim) → old.ahead ≡ first ∷ mid.ahead → mid.source ≡ old.source
    → ReadsBehind first mid new claim → ReadsClaim old new claim
behind_first first old mid new claim ahead source h = record {
  signs = Itself first ∷ h.signs;
  form = h.form;
  reads = reads_more (Itself first) h.signs old mid new (reads_itself old mid first ahead source) h.reads;
}

-- a claim that is one word
form_alone : (word : List ℕ) (claim : Claim) → IsAlone word claim → IsForm claim (Itself word ∷ [])
form_alone word (Holds condition) h = absurd h
form_alone word (Masked amount mask comparison bound) h = absurd h
form_alone word (Among amount comparison other) h = absurd h
form_alone word (At task pc) h = absurd h
form_alone word (Waits task place) h = absurd h
form_alone word (Runs task) h = absurd h
form_alone word SomeFailed h = ap (λ (w : List ℕ). Itself w ∷ []) h
form_alone word Finished h = ap (λ (w : List ℕ). Itself w ∷ []) h
form_alone word Asleep h = ap (λ (w : List ℕ). Itself w ∷ []) h

pub behind_alone : (first : List ℕ) (words : WordsView) (claim : Claim) → IsAlone first claim → ReadsBehind first words words claim
behind_alone first words claim alone = record { signs = []; form = form_alone first claim alone; reads = reads_none words }
