-- The goals of push that the check left open.
use Rattle.std.proofs.Common.{◌≡◌, ◌∙◌, ◌++◌, ◌∷◌, [], List, ℕ, ap, append_assoc, arith, length, length-append, subst, sym}
use Rattle.rd_desk.specs.declared.entry.Noted.{Noted}
use Rattle.rd_desk.specs.declared.rows.KeptRow.{KeptRow}
use Rattle.rd_desk.specs.HistoryView.{deed_event, reply_bytes}
use Rattle.rd_desk.specs.Rows.{RowsView}
use Rattle.rd_desk.specs.RowsInside.{AreRows, noted_from}
use Rattle.rd_desk.specs.declared.kept.Kept.{Kept}
use Rattle.rd_desk.specs.Kept.{IsKeptOf}
use Rattle.rd_desk.proofs.RowLaws.{IsRowFor, noted_behind, noted_push, row_behind, rows_push}
use Rattle.rd_desk.proofs.rows.Rows.push.Goals as goal

-- all bytes there are then
bytes_are : (c : goal.After-push_reserved)
    → c.append_reserved-2.new.bytes.items ≡ c.self.inside.bytes.items ++ (c.args.line.now ++ reply_bytes c.args.reply.now)
bytes_are c =
    let bytes = c.self.inside.bytes.items in
    c.append_reserved-2.ensures.items ∙ ap (λ (all : List ℕ). all ++ c.reply_bytes.result.now) c.append_reserved.ensures.items
    ∙ ap (λ (text : List ℕ). (bytes ++ c.args.line.now) ++ text) c.reply_bytes.ensures
    ∙ append_assoc bytes c.args.line.now (reply_bytes c.args.reply.now)

-- the row that came
row_is : (c : goal.After-push_reserved) → IsRowFor c.self.inside.bytes.items c.args.number c.args.deed c.args.line.now c.args.reply.now c.new.result
row_is c = record {
  numbered = c.new.ensures.number;
  done = c.new.ensures.deed;
  ends = omega (arith, c.new.ensures.end, c.len.ensures, c.append_reserved-2.ensures.len, c.append_reserved.ensures.len, ap length c.reply_bytes.ensures, c.self.inside.bytes.ok.0);
  keeps = subst (λ (kept : Kept). IsKeptOf kept (length c.args.line.now) c.args.reply.now) (sym c.new.ensures.kept) c.of-packed.ensures;
}

pub invariant_of-self : goal.invariant_of-self
invariant_of-self c =
    let bytes = c.self.inside.bytes.items in
    let line = c.args.line.now in
    let reply = c.args.reply.now in
    let more = line ++ reply_bytes reply in
    let row = c.new.result in
    let end = (row_is c).ends in
    subst (λ (rows : List KeptRow). AreRows c.append_reserved-2.new.bytes.items 0 rows) (sym c.push_reserved.ensures.items)
    (subst (λ (all : List ℕ). AreRows all 0 (c.self.inside.rows.items ++ row ∷ [])) (sym (bytes_are c))
    (rows_push bytes more 0 c.self.inside.rows.items row c.self.invariant
    (row_behind bytes c.args.number c.args.deed line reply row (row_is c) c.requires.line)
    (omega (arith, end, length-append bytes more, length-append line (reply_bytes reply)))))

pub returns-clause-noted : goal.returns-clause-noted
returns-clause-noted c =
    let bytes = c.self.inside.bytes.items in
    let line = c.args.line.now in
    let reply = c.args.reply.now in
    let rows = c.self.inside.rows.items in
    let row = c.new.result in
    let more = line ++ reply_bytes reply in
    ap (λ (all : List ℕ). noted_from all 0 c.push_reserved.new.self.items) (bytes_are c)
    ∙ ap (noted_from (bytes ++ more) 0) c.push_reserved.ensures.items
    ∙ noted_push bytes more 0 rows row c.self.invariant
    ∙ ap (λ (noted : Noted). noted_from bytes 0 rows ++ noted ∷ []) (noted_behind bytes c.args.number c.args.deed line reply row (row_is c))
    ∙ ap (λ (v : RowsView). v.noted ++ record { number = c.args.number; event = deed_event c.args.deed line; reply = reply } ∷ []) c.self.view_is
