-- The goal of start_of that the check left open.
use Rattle.std.proofs.Common.{◌≡◌, ◌∙◌, ◌-◌, ap, arith, sym, suc}
use Rattle.std.proofs.lemmas.Option.{slice_get-get_or}
use Rattle.rd_desk.specs.RowsInside.{start_at}
use Rattle.rd_desk.proofs.RowLaws.{start_behind}
use Rattle.rd_desk.proofs.rows.start_of.Goals as goal

pub returns-else-index-eq0 : goal.returns-else-index-eq0
returns-else-index-eq0 c =
    let rows = c.args.rows.now in
    let before = c.args.index - 1 in
    let next : suc before ≡ c.args.index = omega (arith, c.if-index-eq0.false) in
    c.end.ensures ∙ sym (sym (ap (start_at 0 rows) next) ∙ start_behind 0 rows before _ (slice_get-get_or rows before _ (omega (arith, c.requires))))
