-- The goals of `Packed::append` that the check left open.
use Rattle.std.proofs.Common.{◌≡◌, ◌∙◌, ◌+◌, ◌≤◌, ◌∷◌, ◌++◌, [], length, ap, sym, arith, length-append}
use Rattle.std.proofs.lemmas.Bool.{false≢true}
use Rattle.rd_state.proofs.Offered.{count-le}
use Rattle.rd_state.specs.PackedChanges.{all_packed, changes_in, AreChanges}
use Rattle.rd_packed.specs.Records.{records_in, records_packed, trailer, PackedView}
use Rattle.rd_packed.proofs.RecordLaws.{takes_little, records_in-push, records_packed-records_in, record_count-le, AreRecords-push}
use Rattle.rd_packed.proofs.packed.Packed.append.Goals as goal

pub push_record-requires-clause-small : goal.push_record-requires-clause-small
push_record-requires-clause-small c = rw c.bytes.ensures.bytes c.requires

pub push_record-requires-clause-few : goal.push_record-requires-clause-few
push_record-requires-clause-few c =
    let fits = count-le (length c.args.changes.now.changes) c.bytes.result.now c.bytes.ensures.are in
    omega (arith, fits, c.len-count.ensures, ap length c.bytes.ensures.bytes, c.requires)

pub overflow_add-self : goal.overflow_add-self
overflow_add-self c =
    let count = count-le (length c.args.changes.now.changes) c.bytes.result.now c.bytes.ensures.are in
    let are : AreChanges c.len-count.result c.bytes.result.now = rw c.len-count.ensures c.bytes.ensures.are in
    let all =
    AreRecords-push c.self.inside.records c.self.inside.tape.bytes c.bytes.result.now c.len-count.result (rw c.bytes.ensures.bytes c.requires)
    (omega (arith, count, c.len-count.ensures, ap length c.bytes.ensures.bytes, c.requires)) are c.self.invariant in
    let fits : c.self.inside.records + 1 ≤ length c.push_record.new.tape.bytes = record_count-le _ _ (rw c.in_ok-push_record.ensures.ok all) in
    omega (arith, fits, c.len-len.ensures)

pub invariant_of-self-2 : goal.invariant_of-self-2
invariant_of-self-2 c =
    let count = count-le (length c.args.changes.now.changes) c.bytes.result.now c.bytes.ensures.are in
    let are : AreChanges c.len-count.result c.bytes.result.now = rw c.len-count.ensures c.bytes.ensures.are in
    rw c.in_ok-push_record.ensures.ok
    (AreRecords-push c.self.inside.records c.self.inside.tape.bytes c.bytes.result.now c.len-count.result (rw c.bytes.ensures.bytes c.requires)
    (omega (arith, count, c.len-count.ensures, ap length c.bytes.ensures.bytes, c.requires)) are c.self.invariant)

pub returns-clause-ok : goal.returns-clause-ok
returns-clause-ok c =
    let count = count-le (length c.args.changes.now.changes) c.bytes.result.now c.bytes.ensures.are in
    let are : AreChanges c.len-count.result c.bytes.result.now = rw c.len-count.ensures c.bytes.ensures.are in
    let undo : changes_in c.len-count.result c.bytes.result.now ≡ c.args.changes.now.changes = rw c.len-count.ensures c.bytes.ensures.changes in
    rw (c.in_ok-push_record.ensures.ok, ← c.self.view_is)
    (records_in-push c.self.inside.records c.self.inside.tape.bytes c.bytes.result.now c.len-count.result (rw c.bytes.ensures.bytes c.requires)
    (omega (arith, count, c.len-count.ensures, ap length c.bytes.ensures.bytes, c.requires)) are
    ∙ ap (λ u. records_in c.self.inside.records c.self.inside.tape.bytes ++ u ∷ []) undo)

pub returns-in_err-push_record-clause-enough : goal.returns-in_err-push_record-clause-enough
returns-in_err-push_record-clause-enough c =
    let bytes = c.self.inside.tape.bytes in
    let body = all_packed c.args.changes.now.changes in
    let all : records_packed c.args.self.now.records ≡ bytes =
    ap (λ (v : PackedView). records_packed v.records) (sym c.self.view_is) ∙ records_packed-records_in c.self.inside.records bytes c.self.invariant in
    λ room. absurd (false≢true (c.in_err-push_record.ensures.enough
    (omega (
      arith,
      room,
      length-append body (trailer (length body) (length c.args.changes.now.changes)),
      ap length all,
      ap length c.bytes.ensures.bytes,
      ap (λ (v : PackedView). v.capacity) c.self.view_is,
    ))))

pub returns-clause-records_take_little : goal.returns-clause-records_take_little
returns-clause-records_take_little c = takes_little c.args.changes.now.changes

pub returns-in_err-push_record-clause-records_take_little : goal.returns-in_err-push_record-clause-records_take_little
returns-in_err-push_record-clause-records_take_little c = takes_little c.args.changes.now.changes
