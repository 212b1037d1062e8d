-- The goals of `Packed::read` that the check left open.
use Rattle.std.proofs.Common.{◌≡◌, ◌∙◌, ◌+◌, ℕ, List, ap, arith, drop, length, refl, sym, take}
use Rattle.rd_packed.specs.Records.{PackedView, records_in, records_packed}
use Rattle.rd_packed.specs.TapeView.{TapeView}
use Rattle.rd_packed.proofs.RecordLaws.{records_packed-records_in}
use Rattle.rd_packed.proofs.packed.Packed.read.Goals as goal

pub read-requires : goal.read-requires
read-requires c =
    omega (
      arith,
      c.requires,
      ap (λ (v : PackedView). length (records_packed v.records)) c.self.view_is,
      ap length (records_packed-records_in c.self.inside.records c.self.inside.tape.bytes c.self.invariant),
    )

-- what is seen of so many records on a tape
abbrev seen : ℕ → TapeView → PackedView
seen records tape = record { records = records_in records tape.bytes; capacity = tape.capacity; read = tape.read }

pub returns : goal.returns
returns c =
    let all : records_packed c.args.self.now.records ≡ c.self.inside.tape.bytes =
    ap (λ (v : PackedView). records_packed v.records) (sym c.self.view_is)
    ∙ records_packed-records_in c.self.inside.records c.self.inside.tape.bytes c.self.invariant in
    let counted : seen c.self.inside.records c.read.follows.lender-at-none ≡ record c.args.self.now { read = c.args.self.now.read + c.args.n } =
    ap (seen c.self.inside.records) c.read.follows.holds-at-none
    ∙ ap (λ (v : PackedView). record v { read = v.read + c.args.n }) c.self.view_is in (
      (refl, (λ _. tt), counted),
      record {
        count = tt;
        bytes = c.read.ensures.bytes ∙ ap (λ (bytes : List ℕ). take c.args.n (drop c.args.from bytes)) (sym all);
      },
    )
