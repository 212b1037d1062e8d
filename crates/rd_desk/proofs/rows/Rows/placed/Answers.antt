-- The goals of placed that the check left open.
use Rattle.std.proofs.Common.{◌≡◌, ◌∙◌, ◌<◌, List, ℕ, ap, arith, length, subst, sym}
use Rattle.std.specs.Prelude.{Some, get_or, slice_get, slice_range}
use Rattle.std.proofs.lemmas.Option.{slice_get-get_or}
use Rattle.rd_desk.specs.declared.entry.Noted.{Noted}
use Rattle.rd_desk.specs.declared.kept.KeptKind.TheVariants as kind
use Rattle.rd_desk.specs.declared.rows.Deed.TheVariants.{Enter}
use Rattle.rd_desk.specs.declared.rows.KeptRow.{KeptRow}
use Rattle.rd_desk.specs.declared.rows.Rows.TheInside.{Inside}
use Rattle.rd_desk.specs.Rows.{RowsView}
use Rattle.rd_desk.specs.RowsInside.{AreRowsWhole, AreRows, IsPlaced, IsRowOf, noted_by, noted_from, row_end, rows_of, start_at}
use Rattle.rd_desk.proofs.RowLaws.{as_many, noted_at, noted_placed, row_at, row_placed}
use Rattle.rd_desk.proofs.rows.Rows.placed.Goals as goal

pub start_of-start-requires : goal.start_of-start-requires
start_of-start-requires c =
    omega (arith, c.requires, as_many c.self.inside c.args.self.now c.self.view_is, ap length c.as_slice-rows.ensures.value)

pub offset_bounds-rows-index : goal.offset_bounds-rows-index
offset_bounds-rows-index c =
    omega (arith, c.requires, as_many c.self.inside c.args.self.now c.self.view_is, c.self.inside.rows.ok)

pub bounds-rows-index : goal.bounds-rows-index
bounds-rows-index c =
    omega (arith, c.requires, as_many c.self.inside c.args.self.now c.self.view_is, ap length c.as_slice-rows.ensures.value)

-- the row at an index, where it is read
abbrev row_of : List KeptRow → ℕ → KeptRow
row_of rows index = get_or rows index (record { first = 0; second = 0; third = 0; number = 0; low_end = 0; high_end = 0; deed = Enter; kind = kind.Done })

-- it is a row of these bytes
is_row : (r : Inside) (now : RowsView) (index : ℕ) (rows : List KeptRow) → rows_of r ≡ now → AreRowsWhole r → rows ≡ r.rows.items → index < length now.noted
    → IsRowOf r.bytes.items (start_at 0 rows index) (row_of rows index)
is_row r now index rows seen whole are there =
    let within : index < length rows = omega (arith, there, as_many r now seen, ap length are) in
    row_at r.bytes.items 0 rows index (row_of rows index) (subst (AreRows r.bytes.items 0) (sym are) whole) (slice_get-get_or rows index _ within)

pub bytes_of-requires : goal.bytes_of-requires
bytes_of-requires c =
    let row = row_of c.as_slice-rows.result.now c.args.index in
    subst (λ (all : List ℕ). IsRowOf all c.start_of-start.result row) (sym c.as_slice.ensures.value)
    (subst (λ (start : ℕ). IsRowOf c.self.inside.bytes.items start row) (sym c.start_of-start.ensures) (is_row c.self.inside c.args.self.now c.args.index c.as_slice-rows.result.now c.self.view_is c.self.invariant c.as_slice-rows.ensures.value c.requires))

-- its bytes are those that it has there
bytes_are : (c : goal.After-bytes_of) → c.bytes_of.result.now
    ≡ slice_range c.self.inside.bytes.items (start_at 0 c.as_slice-rows.result.now c.args.index) (row_end (row_of c.as_slice-rows.result.now c.args.index))
bytes_are c =
    let row = row_of c.as_slice-rows.result.now c.args.index in
    c.bytes_of.ensures
    ∙ ap (λ (all : List ℕ). slice_range all c.start_of-start.result (row_end row)) c.as_slice.ensures.value
    ∙ ap (λ (start : ℕ). slice_range c.self.inside.bytes.items start (row_end row)) c.start_of-start.ensures

pub returns-clause-noted : goal.returns-clause-noted
returns-clause-noted c =
    let bytes = c.self.inside.bytes.items in
    let rows = c.as_slice-rows.result.now in
    let row = row_of rows c.args.index in
    let within : c.args.index < length rows = omega (arith, c.requires, as_many c.self.inside c.args.self.now c.self.view_is, ap length c.as_slice-rows.ensures.value) in
    ap (λ (v : RowsView). slice_get v.noted c.args.index) (sym c.self.view_is)
    ∙ ap (λ (all : List KeptRow). slice_get (noted_from bytes 0 all) c.args.index) (sym c.as_slice-rows.ensures.value)
    ∙ noted_at bytes 0 rows c.args.index row (slice_get-get_or rows c.args.index _ within)
    ∙ ap (λ (noted : Noted). Some noted) (noted_placed bytes (start_at 0 rows c.args.index) row (is_row c.self.inside c.args.self.now c.args.index c.as_slice-rows.result.now c.self.view_is c.self.invariant c.as_slice-rows.ensures.value c.requires))
    ∙ ap (λ (all : List ℕ). Some (noted_by row all)) (sym (bytes_are c))

pub returns-clause-placed : goal.returns-clause-placed
returns-clause-placed c =
    let rows = c.as_slice-rows.result.now in
    let row = row_of rows c.args.index in
    subst (IsPlaced row) (sym (bytes_are c)) (row_placed c.self.inside.bytes.items (start_at 0 rows c.args.index) row (is_row c.self.inside c.args.self.now c.args.index c.as_slice-rows.result.now c.self.view_is c.self.invariant c.as_slice-rows.ensures.value c.requires))
