use Rattle.std.proofs.Common.{◌≡◌, ◌∙◌, ℕ, List, None, Some, ap, position, subst, sym}
use Rattle.std.specs.Prelude.{slice_get}
use Rattle.std.specs.Str.{bytes_eq}
use Rattle.rd_names.specs.Names.{names_of}
use Rattle.rd_goal.specs.Reading.{GoalSource, WordsView}
use Rattle.rd_goal.specs.Written.{IsNameOf, Named}
use Rattle.rd_goal.proofs.WordLaws.{found_named, is_its_name, is_wrong, no_name, reads_one, unfound}
use Rattle.rd_goal.proofs.words.GoalReader.named.Goals as goal

pub returns-in-Some-find-clause-read : goal.returns-in-Some-find-clause-read
returns-in-Some-find-clause-read c =
    let word = c.in_ok-word.word.now in
    let number = c.in-Some-find.number in
    let names = names_of c.args.kind c.self.inside.app.now.names in
    let found = subst (λ (name : List ℕ). position (bytes_eq name) names ≡ Some number) (is_its_name word c.in-Some.name.now (sym c.in-Some.ensures)) (sym c.in-Some-find.ensures) in
    let here = found_named names word number found in
    let there = subst (λ (source : GoalSource). slice_get (names_of c.args.kind source.app.names) number ≡ Some word)
    (ap (λ (v : WordsView). v.source) c.self.view_is ∙ c.in_ok-word.ensures.source) here in
    reads_one (Named c.args.kind number) c.args.self.now c.next.new.self word there c.in_ok-word.ensures.read c.in_ok-word.ensures.source

pub wanted-requires : goal.wanted-requires
wanted-requires c =
    let word = c.in_ok-word.word.now in
    let named = (c.limits.ensures.named c.args.kind).named in
    let none : ¬ IsNameOf c.self.inside.app.now c.args.kind word = λ is. no_name (names_of c.args.kind c.self.inside.app.now.names) word named (sym c.in_default.ensures) is.0 is.1 in
    let same = ap (λ (v : WordsView). v.source) c.self.view_is ∙ c.in_ok-word.ensures.source in
    is_wrong c.args.what c.args.self.now c.next.new.self word c.in_ok-word.ensures.last c.in_ok-word.ensures.source
    (c.requires.kind word (subst (λ (source : GoalSource). ¬ IsNameOf source.app c.args.kind word) same none))

pub wanted-requires-in-None : goal.wanted-requires-in-None
wanted-requires-in-None c =
    let word = c.in_ok-word.word.now in
    let names = names_of c.args.kind c.self.inside.app.now.names in
    let unknown = subst (λ (name : List ℕ). position (bytes_eq name) names ≡ None) (is_its_name word c.in-Some.name.now (sym c.in-Some.ensures)) (sym c.in-None.ensures) in
    let none : ¬ IsNameOf c.self.inside.app.now c.args.kind word = λ is. unfound names word unknown is.0 is.1 in
    let same = ap (λ (v : WordsView). v.source) c.self.view_is ∙ c.in_ok-word.ensures.source in
    is_wrong c.args.what c.args.self.now c.next.new.self word c.in_ok-word.ensures.last c.in_ok-word.ensures.source
    (c.requires.kind word (subst (λ (source : GoalSource). ¬ IsNameOf source.app c.args.kind word) same none))
