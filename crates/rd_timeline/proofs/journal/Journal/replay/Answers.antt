-- The goals of `Journal::replay` that the check left open.
use Rattle.std.proofs.Common.{◌∙◌, ◌+◌, ap, arith, drop, length, rules, subst, sym, take}
use Rattle.std.specs.Prelude.{List}
use Rattle.std.proofs.lemmas.List.{length_push}
use Rattle.rd_moves.specs.Carried.{PlainCarried}
use Rattle.rd_moves.specs.Moves.{PlainMove}
use Rattle.rd_timeline.specs.Decoded.{decoded, carried_at, move_of}
use Rattle.rd_timeline.specs.JournalView.{JournalView, next_undone}
use Rattle.rd_timeline.specs.LogView.{RecordsMove}
use Rattle.rd_timeline.specs.LoggedView.{IsWhyNotPlayed}
use Rattle.rd_timeline.proofs.JournalLaws.{IsLater, border_on, next_by_byte, next_is_kept}
use Rattle.rd_timeline.proofs.journal.Journal.replay.Goals as goal

pub go_on-requires : goal.go_on-requires
go_on-requires c =
    omega (
      arith,
      c.carried_at.ensures ∙ ap carried_at c.index-byte.ensures,
      next_is_kept c.self.inside c.args.self.now c.index-byte.result.now c.self.view_is c.self.invariant c.requires.some,
    )

pub invariant_of-self-2 : goal.invariant_of-self-2
invariant_of-self-2 c =
    let count = c.carried_at.ensures ∙ ap carried_at c.index-byte.ensures in
    let later = subst (IsLater c.self.inside c.args.self.now) (sym count)
    (border_on c.self.inside c.args.self.now c.index-byte.result.now c.self.view_is c.self.invariant c.requires.some) in
    record {
      border = later.border;
      records =
          omega (
            arith,
            ap length c.in_ok-play.ensures.lays.records,
            length_push c.self.inside.logged.records c.in_ok-play.ensures.lays.undo,
            c.self.invariant.records,
          );
      done = later.done_carried ∙ ap length (sym c.go_on.ensures.done);
      undone = later.undone_carried ∙ ap length (sym c.go_on.ensures.undone);
    }

pub returns-clause-done : goal.returns-clause-done
returns-clause-done c =
    let count = c.carried_at.ensures ∙ ap carried_at c.index-byte.ensures in
    let later = subst (IsLater c.self.inside c.args.self.now) (sym count)
    (border_on c.self.inside c.args.self.now c.index-byte.result.now c.self.view_is c.self.invariant c.requires.some) in
    ap (λ (es : List PlainCarried). decoded (take (c.self.inside.done + 1) c.self.inside.moves.items) es) c.go_on.ensures.done ∙ later.done

pub returns-clause-undone : goal.returns-clause-undone
returns-clause-undone c =
    let count = c.carried_at.ensures ∙ ap carried_at c.index-byte.ensures in
    let later = subst (IsLater c.self.inside c.args.self.now) (sym count)
    (border_on c.self.inside c.args.self.now c.index-byte.result.now c.self.view_is c.self.invariant c.requires.some) in
    ap (λ (es : List PlainCarried). decoded (drop (c.self.inside.done + 1) c.self.inside.moves.items) es) c.go_on.ensures.undone ∙ later.undone

pub returns-in_err-play-clause-refusals : goal.returns-in_err-play-clause-refusals
returns-in_err-play-clause-refusals c =
    let next = c.move_of-action.ensures ∙ ap (λ byte. move_of byte c.self.inside.carried.undone) c.index-byte.ensures
    ∙ next_by_byte c.self.inside c.args.self.now c.index-byte.result.now c.self.view_is c.requires.some in
    let why : IsWhyNotPlayed c.args.app.now c.args.self.now.target (next_undone c.args.self.now) c.in_err-play.field-0.0 =
    subst (λ (move : PlainMove). IsWhyNotPlayed c.args.app.now c.args.self.now.target move c.in_err-play.field-0.0) next
    (subst (λ (v : JournalView). IsWhyNotPlayed c.args.app.now v.target c.move_of-action.result c.in_err-play.field-0.0) c.self.view_is c.in_err-play.ensures.refusals) in
    search rules

pub returns-clause-lays : goal.returns-clause-lays
returns-clause-lays c =
    let next = c.move_of-action.ensures ∙ ap (λ byte. move_of byte c.self.inside.carried.undone) c.index-byte.ensures
    ∙ next_by_byte c.self.inside c.args.self.now c.index-byte.result.now c.self.view_is c.requires.some in
    subst (λ (move : PlainMove). RecordsMove c.args.app.now c.args.self.now.target move c.play.new.self.target c.args.self.now.records c.play.new.self.records) next
    (subst (λ (v : JournalView). RecordsMove c.args.app.now v.target c.move_of-action.result c.play.new.self.target v.records c.play.new.self.records) c.self.view_is
    c.in_ok-play.ensures.lays)
