-- The goals of `Journal::play` that the check left open.
use Rattle.std.proofs.Common.{◌∙◌, ◌+◌, ◌++◌, ◌∷◌, [], ap, arith, length, sym, take}
use Rattle.std.specs.Prelude.{ℕ, List}
use Rattle.std.proofs.lemmas.List.{length-take-le, length_push}
use Rattle.rd_moves.specs.Carried.{PlainCarried}
use Rattle.rd_timeline.specs.Decoded.{decoded, carried_among}
use Rattle.rd_timeline.specs.JournalView.{JournalView}
use Rattle.rd_timeline.proofs.JournalLaws.{done_count, carried_done, has_byte, moves_laid}
use Rattle.rd_timeline.proofs.journal.Journal.play.Goals as goal

pub push_reserved-requires : goal.push_reserved-requires
push_reserved-requires c =
    omega (
      arith,
      ap length c.truncate.ensures.items,
      length-take-le c.self.inside.done c.self.inside.moves.items c.self.invariant.border,
      c.truncate.ensures.capacity,
      c.requires.capacity,
      done_count c.self.inside c.args.self.now c.self.view_is c.self.invariant,
      ap (λ (v : JournalView). v.capacity) c.self.view_is,
    )

pub lay-requires : goal.lay-requires
lay-requires c is =
    omega (
      arith,
      c.requires.carried_room is,
      carried_done c.self.inside c.args.self.now c.self.view_is c.self.invariant,
      ap (λ (v : JournalView). v.carried_capacity) c.self.view_is,
    )

pub invariant_of-self-2 : goal.invariant_of-self-2
invariant_of-self-2 c =
    let bytes = c.push_reserved.ensures.items ∙ ap (λ (bs : List ℕ). bs ++ c.byte_of_move-byte.result ∷ []) c.truncate.ensures.items
    ∙ ap (λ b. take c.self.inside.done c.self.inside.moves.items ++ b ∷ []) c.byte_of_move-byte.ensures in
    let laid = moves_laid c.self.inside c.args.action.now c.push_reserved.new.self.items c.self.invariant (has_byte c.args.app.now c.args.action.now c.limits.ensures c.requires.named) bytes in
    record {
      border = laid.border;
      records =
          omega (
            arith,
            ap length c.in_ok-play.ensures.lays.records,
            length_push c.self.inside.logged.records c.in_ok-play.ensures.lays.undo,
            c.self.invariant.records,
          );
      done = laid.done_carried ∙ ap length (sym c.lay.ensures.done);
      undone = ap carried_among laid.none ∙ sym (ap length c.lay.ensures.undone);
    }

pub returns-clause-done : goal.returns-clause-done
returns-clause-done c =
    let bytes = c.push_reserved.ensures.items ∙ ap (λ (bs : List ℕ). bs ++ c.byte_of_move-byte.result ∷ []) c.truncate.ensures.items
    ∙ ap (λ b. take c.self.inside.done c.self.inside.moves.items ++ b ∷ []) c.byte_of_move-byte.ensures in
    let laid = moves_laid c.self.inside c.args.action.now c.push_reserved.new.self.items c.self.invariant (has_byte c.args.app.now c.args.action.now c.limits.ensures c.requires.named) bytes in
    ap (λ (es : List PlainCarried). decoded (take (c.self.inside.done + 1) c.push_reserved.new.self.items) es) c.lay.ensures.done ∙ laid.done
    ∙ ap (λ (v : JournalView). v.done ++ c.args.action.now ∷ []) c.self.view_is

pub returns-clause-undone : goal.returns-clause-undone
returns-clause-undone c =
    let bytes = c.push_reserved.ensures.items ∙ ap (λ (bs : List ℕ). bs ++ c.byte_of_move-byte.result ∷ []) c.truncate.ensures.items
    ∙ ap (λ b. take c.self.inside.done c.self.inside.moves.items ++ b ∷ []) c.byte_of_move-byte.ensures in
    let laid = moves_laid c.self.inside c.args.action.now c.push_reserved.new.self.items c.self.invariant (has_byte c.args.app.now c.args.action.now c.limits.ensures c.requires.named) bytes in
    ap (λ (bs : List ℕ). decoded bs c.lay.new.self.undone) laid.none
