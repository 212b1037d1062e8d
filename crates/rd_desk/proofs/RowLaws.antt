-- Rows with one more, and the one at an index.
use Rattle.std.proofs.Common.{◌≡◌, ◌∙◌, ℕ, zero, suc, ◌+◌, ◌-◌, ◌≤◌, ◌<◌, List, [], ◌∷◌, ◌++◌, length, take, drop, refl, ap, subst, sym, arith, append_assoc, length-append}
use Rattle.std.specs.Prelude.{Some, get_or, slice_get, slice_range}
use Rattle.std.proofs.lemmas.List.{append-nil, drop-append-le, drop-drop, drop-take, length-drop, length-take-le, take-append-le, take-take, take_all}
use Rattle.std.proofs.lemmas.Option.{slice_get_read}
use Rattle.rd_desk.specs.declared.entry.Noted.{Noted}
use Rattle.rd_desk.specs.declared.rows.Deed.{Deed}
use Rattle.rd_desk.specs.declared.rows.Deed.TheVariants.{Enter, Ask, Leave}
use Rattle.rd_desk.specs.declared.rows.KeptRow.{KeptRow}
use Rattle.rd_desk.specs.declared.rows.Rows.TheInside.{Inside}
use Rattle.rd_desk.specs.declared.reply.DeskReply.{DeskReply}
use Rattle.rd_desk.specs.HistoryView.{IsLineOf, deed_event, deed_of, reply_bytes}
use Rattle.rd_desk.specs.Kept.{IsKeptOf, line_end_of, reply_kept}
use Rattle.rd_desk.specs.Rows.{RowsView}
use Rattle.rd_desk.specs.declared.kept.Kept.{Kept}
use Rattle.rd_desk.specs.declared.kept.Kept.TheVariants as kept
use Rattle.rd_desk.specs.RowsInside.{AreRows, IsPlaced, IsRowOf, line_end, line_size, noted_by, noted_from, noted_in, row_end, row_kept, rows_of, start_at}

-- ---- parts of bytes, where others came behind

range_before : (bytes more : List ℕ) (from to : ℕ) → from ≤ to → to ≤ length bytes → slice_range (bytes ++ more) from to ≡ slice_range bytes from to
range_before bytes more from to rising within =
    ap (take (to - from)) (drop-append-le from bytes more (omega (arith, rising, within)))
    ∙ take-append-le (to - from) (drop from bytes) more (omega (arith, length-drop from bytes, rising, within))

drop_front : (xs ys : List ℕ) → drop (length xs) (xs ++ ys) ≡ ys
drop_front [] ys = refl
drop_front (x ∷ xs) ys = drop_front xs ys

take_front : (xs ys : List ℕ) → take (length xs) (xs ++ ys) ≡ xs
take_front xs ys = take-append-le (length xs) xs ys (omega arith) ∙ take_all (length xs) xs (omega arith)

-- the part that came behind, and the one behind that
range_behind : (bytes line others : List ℕ) (from to : ℕ) → from ≡ length bytes → to ≡ length bytes + length line
    → slice_range (bytes ++ (line ++ others)) from to ≡ line
range_behind bytes line others from to starts ends =
    ap (λ n. take (to - n) (drop n (bytes ++ (line ++ others)))) starts
    ∙ ap (take (to - length bytes)) (drop_front bytes (line ++ others))
    ∙ ap (λ n. take n (line ++ others)) (let n : to - length bytes ≡ length line = omega (arith, ends) in n)
    ∙ take_front line others

-- ---- what stands in a row, where other bytes came behind

noted_before : (bytes more : List ℕ) (start : ℕ) (row : KeptRow) → IsRowOf bytes start row → noted_in (bytes ++ more) start row ≡ noted_in bytes start row
noted_before bytes more start row within =
    ap (λ (line : List ℕ). record {
      number = row.number;
      event = deed_event row.deed line;
      reply = reply_kept (row_kept row) (slice_range (bytes ++ more) (line_end start row) (row_end row));
    }) (range_before bytes more start (line_end start row) within.starts (omega (arith, within.middles, within.ends)))
    ∙ ap (λ (text : List ℕ). record {
      number = row.number;
      event = deed_event row.deed (slice_range bytes start (line_end start row));
      reply = reply_kept (row_kept row) text;
    }) (range_before bytes more (line_end start row) (row_end row) within.middles within.ends)

row_before : (bytes more : List ℕ) (start : ℕ) (row : KeptRow) → IsRowOf bytes start row → IsRowOf (bytes ++ more) start row
row_before bytes more start row is = record {
  ends = omega (arith, length-append bytes more, is.ends);
  middles = is.middles;
  starts = is.starts;
  line = subst (IsLineOf row.deed) (sym (range_before bytes more start (line_end start row) is.starts (omega (arith, is.middles, is.ends)))) is.line;
}

-- ---- one row more, whose bytes came behind the others

pub rows_push : (bytes more : List ℕ) (start : ℕ) (rows : List KeptRow) (row : KeptRow) → AreRows bytes start rows → IsRowOf (bytes ++ more) (length bytes) row
    → row_end row ≡ length (bytes ++ more) → AreRows (bytes ++ more) start (rows ++ row ∷ [])
rows_push bytes more start [] row ends is end =
    (subst (λ (from : ℕ). IsRowOf (bytes ++ more) from row) (sym ends) is, end)
rows_push bytes more start (first ∷ rows) row are is end =
    (row_before bytes more start first are.0, rows_push bytes more (row_end first) rows row are.1 is end)

pub noted_push : (bytes more : List ℕ) (start : ℕ) (rows : List KeptRow) (row : KeptRow) → AreRows bytes start rows
    → noted_from (bytes ++ more) start (rows ++ row ∷ []) ≡ noted_from bytes start rows ++ noted_in (bytes ++ more) (length bytes) row ∷ []
noted_push bytes more start [] row ends = ap (λ (from : ℕ). noted_in (bytes ++ more) from row ∷ []) ends
noted_push bytes more start (first ∷ rows) row are =
    ap (λ (noted : Noted). noted ∷ noted_from (bytes ++ more) (row_end first) (rows ++ row ∷ [])) (noted_before bytes more start first are.0)
    ∙ ap (λ (later : List Noted). noted_in bytes start first ∷ later) (noted_push bytes more (row_end first) rows row are.1)

-- It is the row of a reply behind a line that comes behind these bytes.
pub record IsRowFor (bytes : List ℕ) (number : ℕ) (deed : Deed) (line : List ℕ) (reply : DeskReply) (row : KeptRow) : Type 0 where
  pub numbered : row.number ≡ number
  pub done : row.deed ≡ deed
  pub ends : row_end row ≡ length bytes + length line + length (reply_bytes reply)
  pub keeps : IsKeptOf (row_kept row) (length line) reply

-- its bytes
middle_of : (bytes : List ℕ) (number : ℕ) (deed : Deed) (line : List ℕ) (reply : DeskReply) (row : KeptRow) → IsRowFor bytes number deed line reply row
    → line_end (length bytes) row ≡ length bytes + length line
middle_of bytes number deed line reply row is =
    ap (λ (end : ℕ). line_end_of (length bytes) end (row_kept row)) is.ends ∙ is.keeps.ends (length bytes)

line_behind : (bytes : List ℕ) (number : ℕ) (deed : Deed) (line : List ℕ) (reply : DeskReply) (row : KeptRow) → IsRowFor bytes number deed line reply row
    → slice_range (bytes ++ (line ++ reply_bytes reply)) (length bytes) (line_end (length bytes) row) ≡ line
line_behind bytes number deed line reply row is =
    range_behind bytes line (reply_bytes reply) (length bytes) (line_end (length bytes) row) refl (middle_of bytes number deed line reply row is)

text_behind : (bytes : List ℕ) (number : ℕ) (deed : Deed) (line : List ℕ) (reply : DeskReply) (row : KeptRow) → IsRowFor bytes number deed line reply row
    → slice_range (bytes ++ (line ++ reply_bytes reply)) (line_end (length bytes) row) (row_end row) ≡ reply_bytes reply
text_behind bytes number deed line reply row is =
    let text = reply_bytes reply in
    let middle = middle_of bytes number deed line reply row is in
    let end = is.ends in
    ap (λ (all : List ℕ). slice_range all (line_end (length bytes) row) (row_end row))
    (sym (append_assoc bytes line text) ∙ ap (λ (last : List ℕ). (bytes ++ line) ++ last) (sym (append-nil text)))
    ∙ range_behind (bytes ++ line) text [] (line_end (length bytes) row) (row_end row) (omega (arith, middle, length-append bytes line))
    (omega (arith, end, length-append bytes line))

pub noted_behind : (bytes : List ℕ) (number : ℕ) (deed : Deed) (line : List ℕ) (reply : DeskReply) (row : KeptRow) → IsRowFor bytes number deed line reply row
    → noted_in (bytes ++ (line ++ reply_bytes reply)) (length bytes) row
    ≡ record { number = number; event = deed_event deed line; reply = reply }
noted_behind bytes number deed line reply row is =
    let all = bytes ++ (line ++ reply_bytes reply) in
    ap (λ (l : List ℕ). record { number = row.number; event = deed_event row.deed l; reply = reply_kept (row_kept row) (slice_range all (line_end (length bytes) row) (row_end row)) })
    (line_behind bytes number deed line reply row is)
    ∙ ap (λ (t : List ℕ). record { number = row.number; event = deed_event row.deed line; reply = reply_kept (row_kept row) t }) (text_behind bytes number deed line reply row is)
    ∙ ap (λ (r : DeskReply). record { number = row.number; event = deed_event row.deed line; reply = r }) is.keeps.gives
    ∙ ap (λ (d : Deed). record { number = row.number; event = deed_event d line; reply = reply }) is.done
    ∙ ap (λ (n : ℕ). record { number = n; event = deed_event deed line; reply = reply }) is.numbered

pub row_behind : (bytes : List ℕ) (number : ℕ) (deed : Deed) (line : List ℕ) (reply : DeskReply) (row : KeptRow) → IsRowFor bytes number deed line reply row
    → IsLineOf deed line → IsRowOf (bytes ++ (line ++ reply_bytes reply)) (length bytes) row
row_behind bytes number deed line reply row is said =
    let middle = middle_of bytes number deed line reply row is in
    let end = is.ends in record {
      ends = omega (arith, end, length-append bytes (line ++ reply_bytes reply), length-append line (reply_bytes reply));
      middles = omega (arith, middle, end);
      starts = omega (arith, middle);
      line = subst (λ (d : Deed). IsLineOf d (slice_range (bytes ++ (line ++ reply_bytes reply)) (length bytes) (line_end (length bytes) row))) (sym is.done)
          (subst (IsLineOf deed) (sym (line_behind bytes number deed line reply row is)) said);
    }

-- ---- a row and its bytes by themselves

-- where its line ends hangs on how many bytes it has alone
size_of_line : (kept : Kept) (start end size : ℕ) → end ≡ start + size → line_end_of start end kept ≡ start + line_end_of 0 size kept
size_of_line kept.Done start end size is = is
size_of_line (kept.Reached at) start end size is = is
size_of_line (kept.Answered answer at) start end size is = is
size_of_line (kept.Ended way at) start end size is = is
size_of_line (kept.Moves done undone kept) start end size is = is
size_of_line kept.Wheel start end size is = is
size_of_line (kept.Holder holder) start end size is = is
size_of_line (kept.Watch number) start end size is = is
size_of_line (kept.TooFar kept) start end size is = is
size_of_line (kept.Held holder) start end size is = is
size_of_line (kept.Refused cause) start end size is = is
size_of_line (kept.Shown line) start end size is = omega arith

length_of_range : (bytes : List ℕ) (from to : ℕ) → from ≤ to → to ≤ length bytes → length (slice_range bytes from to) ≡ to - from
length_of_range bytes from to rising within = length-take-le (to - from) (drop from bytes) (omega (arith, length-drop from bytes, rising, within))

middle_is : (bytes : List ℕ) (start : ℕ) (row : KeptRow) → IsRowOf bytes start row
    → line_end start row ≡ start + line_size row (slice_range bytes start (row_end row))
middle_is bytes start row is =
    let middles = is.middles in
    let starts = is.starts in
    let long = length_of_range bytes start (row_end row) (omega (arith, middles, starts)) is.ends in
    size_of_line (row_kept row) start (row_end row) (length (slice_range bytes start (row_end row))) (omega (arith, long, middles, starts))

line_is : (bytes : List ℕ) (start : ℕ) (row : KeptRow) → IsRowOf bytes start row
    → let all = slice_range bytes start (row_end row) in slice_range bytes start (line_end start row) ≡ take (line_size row all) all
line_is bytes start row is =
    let all = slice_range bytes start (row_end row) in
    let middle = middle_is bytes start row is in
    let middles = is.middles in
    ap (λ (n : ℕ). take n (drop start bytes)) (let n : line_end start row - start ≡ line_size row all = omega (arith, middle) in n)
    ∙ sym (take-take (line_size row all) (row_end row - start) (drop start bytes) (omega (arith, middle, middles)))

text_is : (bytes : List ℕ) (start : ℕ) (row : KeptRow) → IsRowOf bytes start row
    → let all = slice_range bytes start (row_end row) in slice_range bytes (line_end start row) (row_end row) ≡ drop (line_size row all) all
text_is bytes start row is =
    let all = slice_range bytes start (row_end row) in
    let size = line_size row all in
    let middle = middle_is bytes start row is in
    let middles = is.middles in
    ap (λ (n : ℕ). take (row_end row - line_end start row) (drop n bytes)) middle
    ∙ ap (take (row_end row - line_end start row)) (sym (drop-drop size start bytes))
    ∙ sym (drop-take size (row_end row - line_end start row) (drop start bytes))
    ∙ ap (λ (n : ℕ). drop size (take n (drop start bytes))) (let n : size + (row_end row - line_end start row) ≡ row_end row - start = omega (arith, middle, middles) in n)

pub noted_placed : (bytes : List ℕ) (start : ℕ) (row : KeptRow) → IsRowOf bytes start row → noted_in bytes start row ≡ noted_by row (slice_range bytes start (row_end row))
noted_placed bytes start row is =
    let all = slice_range bytes start (row_end row) in
    ap (λ (line : List ℕ). record {
      number = row.number;
      event = deed_event row.deed line;
      reply = reply_kept (row_kept row) (slice_range bytes (line_end start row) (row_end row));
    }) (line_is bytes start row is)
    ∙ ap (λ (text : List ℕ). record {
      number = row.number;
      event = deed_event row.deed (take (line_size row all) all);
      reply = reply_kept (row_kept row) text;
    }) (text_is bytes start row is)

pub row_placed : (bytes : List ℕ) (start : ℕ) (row : KeptRow) → IsRowOf bytes start row → IsPlaced row (slice_range bytes start (row_end row))
row_placed bytes start row is =
    let middle = middle_is bytes start row is in
    let middles = is.middles in
    let starts = is.starts in
    let long = length_of_range bytes start (row_end row) (omega (arith, middles, starts)) is.ends in
    record {
      within = omega (arith, middle, middles, starts, long);
      line = subst (IsLineOf row.deed) (line_is bytes start row is) is.line;
    }

-- ---- the row at an index

pub noted_length : (bytes : List ℕ) (start : ℕ) (rows : List KeptRow) → length (noted_from bytes start rows) ≡ length rows
noted_length bytes start [] = refl
noted_length bytes start (row ∷ rows) = ap suc (noted_length bytes (row_end row) rows)

pub noted_at : (bytes : List ℕ) (start : ℕ) (rows : List KeptRow) (index : ℕ) (row : KeptRow) → slice_get rows index ≡ Some row
    → slice_get (noted_from bytes start rows) index ≡ Some (noted_in bytes (start_at start rows index) row)
noted_at bytes start [] index row at = absurd cc
noted_at bytes start (first ∷ rows) zero row at =
    let is : first ≡ row = cc in ap (λ (r : KeptRow). Some (noted_in bytes start r)) is
noted_at bytes start (first ∷ rows) (suc index) row at = noted_at bytes (row_end first) rows index row at

pub row_at : (bytes : List ℕ) (start : ℕ) (rows : List KeptRow) (index : ℕ) (row : KeptRow) → AreRows bytes start rows → slice_get rows index ≡ Some row
    → IsRowOf bytes (start_at start rows index) row
row_at bytes start [] index row are at = absurd cc
row_at bytes start (first ∷ rows) zero row are at =
    let is : first ≡ row = cc in subst (IsRowOf bytes start) is are.0
row_at bytes start (first ∷ rows) (suc index) row are at = row_at bytes (row_end first) rows index row are.1 at

pub start_behind : (start : ℕ) (rows : List KeptRow) (index : ℕ) (row : KeptRow) → slice_get rows index ≡ Some row → start_at start rows (suc index) ≡ row_end row
start_behind start [] index row at = absurd cc
start_behind start (first ∷ rows) zero row at =
    let is : first ≡ row = cc in ap (λ (r : KeptRow). row_end r) is
start_behind start (first ∷ rows) (suc index) row at = start_behind (row_end first) rows index row at

-- as many as there are rows
pub as_many : (r : Inside) (now : RowsView) → rows_of r ≡ now → length r.rows.items ≡ length now.noted
as_many r now seen = sym (noted_length r.bytes.items 0 r.rows.items) ∙ ap (λ (v : RowsView). length v.noted) seen

-- a row that was read is what is noted at its index
pub noted_read : (r : Inside) (now : RowsView) (index : ℕ) (row : KeptRow) → rows_of r ≡ now → index < length now.noted → row ≡ get_or r.rows.items index row
    → slice_get now.noted index ≡ Some (noted_in r.bytes.items (start_at 0 r.rows.items index) row)
noted_read r now index row seen within read =
    ap (λ (v : RowsView). slice_get v.noted index) (sym seen)
    ∙ noted_at r.bytes.items 0 r.rows.items index row
    (slice_get_read r.rows.items (length r.rows.items) index row refl (omega (arith, within, as_many r now seen)) read)

pub deed_again : (deed : Deed) (line : List ℕ) → deed ≡ deed_of (deed_event deed line)
deed_again Enter line = refl
deed_again Ask line = refl
deed_again Leave line = refl
