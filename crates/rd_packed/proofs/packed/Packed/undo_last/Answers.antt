-- The goals of `Packed::undo_last` that the check left open.
use Rattle.std.proofs.Common.{◌≡◌, ◌-◌, ◌∙◌, ap, sym, subst, arith, drop, length, take}
use Rattle.rd_packed.specs.Records.{PackedView, before_record, change_count, last_body, last_record, record_packed, records_in}
use Rattle.rd_packed.specs.TapeView.{TapeView}
use Rattle.rd_state.specs.PackedChanges.{changes_in}
use Rattle.rd_state.specs.Undoing.{undone, CanUndo}
use Rattle.rd_packed.proofs.RecordLaws.{last_record_read, trailer_there}
use Rattle.rd_packed.proofs.packed.Packed.undo_last.Goals as goal

pub read_trailer-size-requires : goal.read_trailer-size-requires
read_trailer-size-requires c =
    let there =
    trailer_there c.self.inside.records c.self.inside.tape.bytes c.args.self.now.records (ap (λ (v : PackedView). v.records) c.self.view_is) c.requires.some c.self.invariant in
    record { trailer = omega (arith, there, c.len-end.ensures); there = omega (arith, c.len-end.ensures) }

pub overflow_sub-start-2 : goal.overflow_sub-start-2
overflow_sub-start-2 c =
    let p = last_record_read c.self.inside.records c.self.inside.tape.bytes c.args.self.now.records c.len-end.result c.read_trailer-size.result.0
    (ap (λ (v : PackedView). v.records) c.self.view_is) c.requires.some c.self.invariant
    c.len-end.ensures c.read_trailer-size.ensures.size in
    omega (arith, p.room)

pub read-requires : goal.read-requires
read-requires c =
    let p = last_record_read c.self.inside.records c.self.inside.tape.bytes c.args.self.now.records c.len-end.result c.read_trailer-size.result.0
    (ap (λ (v : PackedView). v.records) c.self.view_is) c.requires.some c.self.invariant
    c.len-end.ensures c.read_trailer-size.ensures.size in
    omega (arith, p.room, c.len-end.ensures, ap (λ (t : TapeView). length t.bytes) c.read_trailer-size.ensures.tape)

pub back_by-requires-clause-are : goal.back_by-requires-clause-are
back_by-requires-clause-are c =
    let p = last_record_read c.self.inside.records c.self.inside.tape.bytes c.args.self.now.records c.len-end.result c.read_trailer-size.result.0
    (ap (λ (v : PackedView). v.records) c.self.view_is) c.requires.some c.self.invariant
    c.len-end.ensures c.read_trailer-size.ensures.size in
    let body : c.read.result.now ≡ last_body c.self.inside.tape.bytes =
    c.read.ensures.bytes ∙ ap (λ (t : TapeView). take c.read_trailer-size.result.0 (drop (c.len-end.result - 8 - c.read_trailer-size.result.0) t.bytes)) c.read_trailer-size.ensures.tape ∙ p.body in
    rw (c.read_trailer-size.ensures.count, p.whole, body) p.ends.are

pub back_by-requires-clause-fits : goal.back_by-requires-clause-fits
back_by-requires-clause-fits c =
    let p = last_record_read c.self.inside.records c.self.inside.tape.bytes c.args.self.now.records c.len-end.result c.read_trailer-size.result.0
    (ap (λ (v : PackedView). v.records) c.self.view_is) c.requires.some c.self.invariant
    c.len-end.ensures c.read_trailer-size.ensures.size in
    let body : c.read.result.now ≡ last_body c.self.inside.tape.bytes =
    c.read.ensures.bytes ∙ ap (λ (t : TapeView). take c.read_trailer-size.result.0 (drop (c.len-end.result - 8 - c.read_trailer-size.result.0) t.bytes)) c.read_trailer-size.ensures.tape ∙ p.body in
    rw (c.read_trailer-size.ensures.count, p.whole, body) (subst (CanUndo c.args.state.now) p.last c.requires.fits)

pub invariant_of-self : goal.invariant_of-self
invariant_of-self c =
    let p = last_record_read c.self.inside.records c.self.inside.tape.bytes c.args.self.now.records c.len-end.result c.read_trailer-size.result.0
    (ap (λ (v : PackedView). v.records) c.self.view_is) c.requires.some c.self.invariant
    c.len-end.ensures c.read_trailer-size.ensures.size in
    let cut : c.cut.new.self.bytes ≡ before_record c.self.inside.tape.bytes =
    ap (λ (t : TapeView). t.bytes) c.cut.ensures
    ∙ ap (take (c.len-end.result - 8 - c.read_trailer-size.result.0))
    (ap (λ (t : TapeView). t.bytes) c.read.follows.holds-at-none ∙ ap (λ (t : TapeView). t.bytes) c.read_trailer-size.ensures.tape) ∙ p.cut in
    rw cut p.rest

pub returns-clause-state : goal.returns-clause-state
returns-clause-state c =
    let p = last_record_read c.self.inside.records c.self.inside.tape.bytes c.args.self.now.records c.len-end.result c.read_trailer-size.result.0
    (ap (λ (v : PackedView). v.records) c.self.view_is) c.requires.some c.self.invariant
    c.len-end.ensures c.read_trailer-size.ensures.size in
    let body : c.read.result.now ≡ last_body c.self.inside.tape.bytes =
    c.read.ensures.bytes ∙ ap (λ (t : TapeView). take c.read_trailer-size.result.0 (drop (c.len-end.result - 8 - c.read_trailer-size.result.0) t.bytes)) c.read_trailer-size.ensures.tape ∙ p.body in
    let read : changes_in c.read_trailer-size.result.1 c.read.result.now ≡ last_record c.self.inside.tape.bytes =
    ap (λ k. changes_in k c.read.result.now) (c.read_trailer-size.ensures.count ∙ ap change_count p.whole) ∙ ap (changes_in (change_count c.self.inside.tape.bytes)) body in
    c.back_by.ensures ∙ ap (undone c.args.state.now) (read ∙ sym p.last)

pub returns-clause-records : goal.returns-clause-records
returns-clause-records c =
    let p = last_record_read c.self.inside.records c.self.inside.tape.bytes c.args.self.now.records c.len-end.result c.read_trailer-size.result.0
    (ap (λ (v : PackedView). v.records) c.self.view_is) c.requires.some c.self.invariant
    c.len-end.ensures c.read_trailer-size.ensures.size in
    let cut : c.cut.new.self.bytes ≡ before_record c.self.inside.tape.bytes =
    ap (λ (t : TapeView). t.bytes) c.cut.ensures
    ∙ ap (take (c.len-end.result - 8 - c.read_trailer-size.result.0))
    (ap (λ (t : TapeView). t.bytes) c.read.follows.holds-at-none ∙ ap (λ (t : TapeView). t.bytes) c.read_trailer-size.ensures.tape) ∙ p.cut in
    ap (records_in (c.self.inside.records - 1)) cut ∙ sym p.front

pub returns-clause-read : goal.returns-clause-read
returns-clause-read c =
    let p = last_record_read c.self.inside.records c.self.inside.tape.bytes c.args.self.now.records c.len-end.result c.read_trailer-size.result.0
    (ap (λ (v : PackedView). v.records) c.self.view_is) c.requires.some c.self.invariant
    c.len-end.ensures c.read_trailer-size.ensures.size in
    omega (
      arith,
      p.taken,
      ap (λ u. length (record_packed u)) p.last,
      ap (λ (v : TapeView). v.read) c.read_trailer-size.ensures.tape,
      ap (λ (v : TapeView). v.read) c.read.follows.holds-at-none,
      ap (λ (v : TapeView). v.read) c.cut.ensures,
      ap (λ (v : PackedView). v.read) c.self.view_is,
    )
