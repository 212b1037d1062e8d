use Rattle.std.proofs.Common.{◌≡◌, ◌∙◌, ◌+◌, ℕ, List, Some, ap, subst, sym}
use Rattle.std.specs.Option.{is_some}
use Rattle.std.specs.Prelude.{not, position, slice_get}
use Rattle.std.specs.Str.{bytes_eq}
use Rattle.rd_names.specs.Names.{names_of}
use Rattle.rd_text.specs.declared.kind.Kind.TheVariants as kind
use Rattle.rd_goal.specs.Reading.{IsRefusal, WordsView}
use Rattle.rd_goal.specs.declared.reading.NoGoal.TheVariants.{Either}
use Rattle.rd_goal.proofs.WordLaws.{is_found, is_its_name, is_word_at, name_next, next_ahead, no_name_next}
use Rattle.rd_goal.proofs.words.GoalReader.names_stream.Goals as goal

pub returns-then-is_message-clause-wrong : goal.returns-then-is_message-clause-wrong
returns-then-is_message-clause-wrong c =
    let inside = c.self.inside in
    let word = c.in-Some.word.now.now in
    let name = c.in-Some-name.name.now in
    let names = inside.app.now.names in
    let same = is_its_name word name (sym c.in-Some-name.ensures) in
    let stream = is_found (names_of kind.Stream names) name (ap is_some (sym c.find.ensures) ∙ sym c.if-is_stream.ensures) in
    let message = is_found (names_of kind.Message names) name (ap is_some (sym c.find-2.ensures) ∙ sym c.if-is_message.ensures) in
    subst (λ (v : WordsView). IsRefusal v.source (Either (inside.read + 1))) c.self.view_is
    (record {
      right = (
        word,
        is_word_at inside.words.now inside.read c.in-Some.word.now c.in-Some.ensures.lookup.3.0 c.in-Some.ensures.lookup.1,
        (stream.0, subst (λ (w : List ℕ). slice_get (names_of kind.Stream names) stream.0 ≡ Some w) same stream.1),
        (message.0, subst (λ (w : List ℕ). slice_get (names_of kind.Message names) message.0 ≡ Some w) same message.1),
      );
      inside = λ is. absurd cc;
    })

pub returns-in_default-name-clause-stream : goal.returns-in_default-name-clause-stream
returns-in_default-name-clause-stream c =
    let now = c.args.self.now in
    let here = sym (ap (λ (v : WordsView). v.ahead) c.self.view_is)
    ∙ next_ahead c.self.inside.words.now c.self.inside.read c.in-Some.word.now c.in-Some.ensures.lookup.3.0 c.in-Some.ensures.lookup.1 in
    ap not (sym (no_name_next kind.Message now.source.app now.ahead _ c.in-Some.word.now.now here (sym c.in_default-name.ensures)))

pub returns-clause-stream : goal.returns-clause-stream
returns-clause-stream c =
    let now = c.args.self.now in
    let name = c.in-Some-name.name.now in
    let here = sym (ap (λ (v : WordsView). v.ahead) c.self.view_is)
    ∙ next_ahead c.self.inside.words.now c.self.inside.read c.in-Some.word.now c.in-Some.ensures.lookup.3.0 c.in-Some.ensures.lookup.1 in
    let found = c.is_some-is_message.ensures ∙ ap is_some c.find-2.ensures
    ∙ ap (λ (v : WordsView). is_some (position (bytes_eq name) (names_of kind.Message v.source.app.names))) c.self.view_is in
    ap not (found ∙ sym (name_next kind.Message now.source.app now.ahead _ c.in-Some.word.now.now name here (sym c.in-Some-name.ensures)))
