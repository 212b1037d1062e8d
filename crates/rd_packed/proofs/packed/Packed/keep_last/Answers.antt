-- The goals of `Packed::keep_last` that the check left open.
use Rattle.std.proofs.Common.{◌≡◌, ◌∙◌, ◌+◌, ◌-◌, ◌*◌, ap, sym, arith, drop, length}
use Rattle.std.proofs.lemmas.Bool.Decides.{nat_tests}
use Rattle.rd_packed.specs.Records.{PackedView, records_in, start_of_last}
use Rattle.rd_packed.specs.TapeView.{TapeView}
use Rattle.rd_packed.proofs.RecordLaws.{length-records_in}
use Rattle.rd_packed.proofs.TrimLaws.{all_kept, last_kept}
use Rattle.rd_packed.proofs.packed.Packed.keep_last.Goals as goal

pub start_of_last-start-requires : goal.start_of_last-start-requires
start_of_last-start-requires c =
    let kept = last_kept c.self.inside.records c.args.n c.self.inside.tape.bytes (omega (arith, c.if-n-self.true)) c.self.invariant in
    kept.has

pub drop_front-requires : goal.drop_front-requires
drop_front-requires c =
    let kept = last_kept c.self.inside.records c.args.n c.self.inside.tape.bytes (omega (arith, c.if-n-self.true)) c.self.invariant in
    omega (
      arith,
      kept.within,
      c.start_of_last-start.ensures.start,
      ap (λ (t : TapeView). length t.bytes) c.start_of_last-start.ensures.tape,
    )

pub returns-then-n-self-clause-records : goal.returns-then-n-self-clause-records
returns-then-n-self-clause-records c =
    let kept = last_kept c.self.inside.records c.args.n c.self.inside.tape.bytes (omega (arith, c.if-n-self.true)) c.self.invariant in
    let now : c.drop_front.new.self.bytes ≡ drop (start_of_last c.args.n c.self.inside.tape.bytes) c.self.inside.tape.bytes =
    ap (λ (t : TapeView). t.bytes) c.drop_front.ensures ∙ ap (λ (t : TapeView). drop c.start_of_last-start.result t.bytes) c.start_of_last-start.ensures.tape
    ∙ ap (λ k. drop k c.self.inside.tape.bytes) c.start_of_last-start.ensures.start in
    let view : records_in c.self.inside.records c.self.inside.tape.bytes ≡ c.args.self.now.records = ap (λ (v : PackedView). v.records) c.self.view_is in
    let count : c.self.inside.records ≡ length c.args.self.now.records =
    sym (length-records_in c.self.inside.records c.self.inside.tape.bytes) ∙ ap length view in
    ap (records_in c.args.n) now ∙ kept.records ∙ ap (drop (c.self.inside.records - c.args.n)) view
    ∙ ap (λ k. drop (k - c.args.n) c.args.self.now.records) count

pub invariant_of-self : goal.invariant_of-self
invariant_of-self c =
    let kept = last_kept c.self.inside.records c.args.n c.self.inside.tape.bytes (omega (arith, c.if-n-self.true)) c.self.invariant in
    let now : c.drop_front.new.self.bytes ≡ drop (start_of_last c.args.n c.self.inside.tape.bytes) c.self.inside.tape.bytes =
    ap (λ (t : TapeView). t.bytes) c.drop_front.ensures ∙ ap (λ (t : TapeView). drop c.start_of_last-start.result t.bytes) c.start_of_last-start.ensures.tape
    ∙ ap (λ k. drop k c.self.inside.tape.bytes) c.start_of_last-start.ensures.start in
    rw now kept.are

pub returns-then-n-self-clause-read : goal.returns-then-n-self-clause-read
returns-then-n-self-clause-read c =
    let view : records_in c.self.inside.records c.self.inside.tape.bytes ≡ c.args.self.now.records = ap (λ (v : PackedView). v.records) c.self.view_is in
    let count : c.self.inside.records ≡ length c.args.self.now.records =
    sym (length-records_in c.self.inside.records c.self.inside.tape.bytes) ∙ ap length view in
    let read : c.drop_front.new.self.read ≡ c.args.self.now.read + 8 * c.args.n =
    omega (
      arith,
      ap (λ (t : TapeView). t.read) c.drop_front.ensures,
      ap (λ (t : TapeView). t.read) c.start_of_last-start.ensures.tape,
      ap (λ (v : PackedView). v.read) c.self.view_is,
    ) in
    grind (arith, nat_tests, read, count, c.if-n-self.true)

pub returns-else-n-self-clause-records : goal.returns-else-n-self-clause-records
returns-else-n-self-clause-records c =
    let view : records_in c.self.inside.records c.self.inside.tape.bytes ≡ c.args.self.now.records = ap (λ (v : PackedView). v.records) c.self.view_is in
    let count : c.self.inside.records ≡ length c.args.self.now.records =
    sym (length-records_in c.self.inside.records c.self.inside.tape.bytes) ∙ ap length view in
    sym (all_kept c.args.n c.args.self.now.records (omega (arith, count, c.if-n-self.false)))

pub returns-else-n-self-clause-read : goal.returns-else-n-self-clause-read
returns-else-n-self-clause-read c =
    let view : records_in c.self.inside.records c.self.inside.tape.bytes ≡ c.args.self.now.records = ap (λ (v : PackedView). v.records) c.self.view_is in
    let count : c.self.inside.records ≡ length c.args.self.now.records =
    sym (length-records_in c.self.inside.records c.self.inside.tape.bytes) ∙ ap length view in
    grind (arith, nat_tests, count, c.if-n-self.false)
