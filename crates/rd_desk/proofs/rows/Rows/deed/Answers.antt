-- The goals of deed that the check left open.
use Rattle.std.proofs.Common.{◌≡◌, arith, subst, sym}
use Rattle.std.specs.Prelude.{Option, IsSomeAnd}
use Rattle.rd_desk.specs.declared.entry.Noted.{Noted}
use Rattle.rd_desk.specs.HistoryView.{deed_of}
use Rattle.rd_desk.proofs.RowLaws.{as_many, deed_again, noted_read}
use Rattle.rd_desk.proofs.rows.Rows.deed.Goals as goal

pub index-requires : goal.index-requires
index-requires c = omega (arith, c.requires, c.self.inside.rows.ok.0, as_many c.self.inside c.args.self.now c.self.view_is)

pub returns : goal.returns
returns c =
    let P : Option Noted → Type 0 = λ o. IsSomeAnd o (λ noted. c.index.result.now.deed ≡ deed_of noted.event) in
    subst P (sym (noted_read c.self.inside c.args.self.now c.args.index c.index.result.now c.self.view_is c.requires c.index.ensures)) (deed_again c.index.result.now.deed _)
