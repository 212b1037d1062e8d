-- The goals of `Journal::put_back` that the check left open.
use Rattle.std.proofs.Common.{ap, arith, length}
use Rattle.std.proofs.lemmas.List.{length-take-le}
use Rattle.rd_timeline.specs.Decoded.{carried_in}
use Rattle.rd_timeline.specs.JournalView.{JournalView}
use Rattle.rd_timeline.proofs.DecodedLaws.{carried_in-decoded, length-decoded}
use Rattle.rd_timeline.proofs.JournalLaws.{done_count, carried_done}
use Rattle.rd_timeline.proofs.journal.Journal.put_back.Goals as goal

pub unwrap-requires : goal.unwrap-requires
unwrap-requires c =
    c.extend_from_slice.ensures.succeeds (omega (
      arith,
      c.truncate.ensures.capacity,
      ap length c.truncate.ensures.items,
      length-take-le c.self.inside.done c.self.inside.moves.items c.self.invariant.border,
      ap length c.as_slice.ensures.value,
      done_count c.self.inside c.args.self.now c.self.view_is c.self.invariant,
      ap length c.aside.view_is,
      length-decoded c.aside.inside.moves.items c.aside.inside.carried.items,
      ap (λ (v : JournalView). v.capacity) c.self.view_is,
      c.requires.moves,
    ))

pub put_back-requires : goal.put_back-requires
put_back-requires c =
    omega (
      arith,
      c.requires.carried,
      carried_done c.self.inside c.args.self.now c.self.view_is c.self.invariant,
      ap carried_in c.aside.view_is,
      carried_in-decoded c.aside.inside.moves.items c.aside.inside.carried.items (omega (arith, c.aside.invariant)),
      c.aside.invariant,
      ap (λ (v : JournalView). v.carried_capacity) c.self.view_is,
    )
