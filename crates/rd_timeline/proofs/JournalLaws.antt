-- The border between moves done and moves undone, earlier and later.
use Rattle.std.proofs.Common.{◌≡◌, ◌∙◌, ℕ, ◌+◌, ◌-◌, ◌<◌, ◌≤◌, List, [], ◌∷◌, ◌++◌, length, take, drop, ap, subst, sym, arith}
use Rattle.std.specs.Global.{Vec}
use Rattle.std.specs.Prelude.{slice_index_or, vec_capacity}
use Rattle.std.proofs.Math.ListN.{drop_of_length-le}
use Rattle.std.proofs.lemmas.List.{drop-append-le, drop_all, drop_more, length-append, length-drop, length-take-le, length_push, take-append-drop, take-take, take_all, take_more}
use Rattle.rd_app.specs.Application.{Application, IsApplication}
use Rattle.rd_app.proofs.Offered.{few_cores_of}
use Rattle.rd_moves.specs.Moves.{PlainMove}
use Rattle.rd_moves.specs.declared.moves.Move.TheVariants.{Carried, Core, Tick}
use Rattle.rd_moves.specs.Moves.{IsMoveOf}
use Rattle.rd_timeline.specs.declared.journal.Journal.TheInside.{Inside}
use Rattle.rd_timeline.specs.Decoded.{HasByte, byte_of, decoded, carried_of, carried_among, carried_at, carried_in, move_of}
use Rattle.rd_timeline.specs.CarriedView.{CarriedView}
use Rattle.rd_timeline.specs.JournalInside.{IsInOrder, journal_of}
use Rattle.rd_timeline.specs.JournalView.{JournalView, next_undone}
use Rattle.rd_timeline.proofs.DecodedLaws.{decoded-cut, decoded-one, decoded-parts, carried_among-append, carried_among-cons, carried_among-parts, carried_at-one, carried_in-decoded, length-decoded, move_of-more}

-- As much is kept of what the moves done carry as they carry.
pub carried_done : (j : Inside) (old : JournalView) → journal_of j ≡ old → IsInOrder j → carried_in old.done ≡ length j.carried.done
carried_done j old is order =
    subst (λ (v : JournalView). carried_in v.done ≡ length j.carried.done) is
    (carried_in-decoded (take j.done j.moves.items) j.carried.done (omega (arith, order.done)) ∙ order.done)

-- as many moves done as the border says, and the others undone
pub done_count : (j : Inside) (old : JournalView) → journal_of j ≡ old → IsInOrder j → length old.done ≡ j.done
done_count j old is order =
    subst (λ (v : JournalView). length v.done ≡ j.done) is
    (length-decoded (take j.done j.moves.items) j.carried.done ∙ length-take-le j.done j.moves.items order.border)

pub undone_count : (j : Inside) (old : JournalView) → journal_of j ≡ old → length old.undone ≡ length j.moves.items - j.done
undone_count j old is =
    subst (λ (v : JournalView). length v.undone ≡ length j.moves.items - j.done) is
    (length-decoded (drop j.done j.moves.items) j.carried.undone ∙ length-drop j.done j.moves.items)

-- ---- some moves back

-- A journal whose border is so many moves earlier, of which so many carry something.
pub record IsEarlier (j : Inside) (old : JournalView) (n k : ℕ) : Type 0 where
  pub enough : k ≤ length j.carried.done
  pub done : decoded (take (j.done - n) j.moves.items) (take (length j.carried.done - k) j.carried.done) ≡ take (length old.done - n) old.done
  pub undone : decoded (drop (j.done - n) j.moves.items) (drop (length j.carried.done - k) j.carried.done ++ j.carried.undone)
      ≡ drop (length old.done - n) old.done ++ old.undone
  pub done_carried : carried_among (take (j.done - n) j.moves.items) ≡ length (take (length j.carried.done - k) j.carried.done)
  pub undone_carried : carried_among (drop (j.done - n) j.moves.items) ≡ length (drop (length j.carried.done - k) j.carried.done ++ j.carried.undone)

-- the last moves done, by their bytes
last_carried : (j : Inside) (n : ℕ) → IsInOrder j
    → carried_in (drop (length (journal_of j).done - n) (journal_of j).done) ≡ carried_among (drop (j.done - n) (take j.done j.moves.items))
last_carried j n order =
    let xs = take j.done j.moves.items in
    let es = j.carried.done in
    let m = j.done - n in
    let len : length (decoded xs es) ≡ j.done = length-decoded xs es ∙ length-take-le j.done j.moves.items order.border in
    let border : length (decoded xs es) - n ≡ m = omega (arith, len) in
    let cut = decoded-cut xs es m order.done (omega (arith, length-take-le j.done j.moves.items order.border)) in
    ap (λ i. carried_in (drop i (decoded xs es))) border ∙ ap carried_in cut.later
    ∙ carried_in-decoded (drop m xs) (drop (carried_among (take m xs)) es) (omega (arith, cut.later_carried))

-- the same, of what is seen
pub carried_in_last : (j : Inside) (old : JournalView) (n : ℕ) → journal_of j ≡ old → IsInOrder j
    → carried_in (drop (length old.done - n) old.done) ≡ carried_among (drop (j.done - n) (take j.done j.moves.items))
carried_in_last j old n is order =
    subst (λ (v : JournalView). carried_in (drop (length v.done - n) v.done) ≡ carried_among (drop (j.done - n) (take j.done j.moves.items))) is
    (last_carried j n order)

back_here : (j : Inside) (n k : ℕ) → IsInOrder j → k ≡ carried_in (drop (length (journal_of j).done - n) (journal_of j).done)
    → IsEarlier j (journal_of j) n k
back_here j n k order count =
    let d = j.done in
    let bytes = j.moves.items in
    let xs = take d bytes in
    let ys = drop d bytes in
    let es = j.carried.done in
    let us = j.carried.undone in
    let m = d - n in
    let t = carried_among (take m xs) in
    let len_xs : length xs ≡ d = length-take-le d bytes order.border in
    let len : length (decoded xs es) ≡ d = length-decoded xs es ∙ len_xs in
    let border : length (decoded xs es) - n ≡ m = omega (arith, len) in
    let cut = decoded-cut xs es m order.done (omega (arith, len_xs)) in
    let last : k ≡ carried_among (drop m xs) = count ∙ last_carried j n order in
    let left : length es - k ≡ t = omega (arith, last, carried_among-parts xs m, order.done) in
    let first_bytes : take m bytes ≡ take m xs = sym (take-take m d bytes (omega arith)) in
    let last_bytes : drop m bytes ≡ drop m xs ++ ys =
    ap (drop m) (sym (take-append-drop d bytes)) ∙ drop-append-le m xs ys (omega (arith, len_xs)) in
    record {
      enough = omega (arith, last, carried_among-parts xs m, order.done);
      done =
          ap (λ i. decoded (take m bytes) (take i es)) left ∙ ap (λ (bs : List ℕ). decoded bs (take t es)) first_bytes ∙ sym cut.first
          ∙ ap (λ i. take i (decoded xs es)) (sym border);
      undone =
          ap (λ i. decoded (drop m bytes) (drop i es ++ us)) left ∙ ap (λ (bs : List ℕ). decoded bs (drop t es ++ us)) last_bytes
          ∙ decoded-parts (drop m xs) ys (drop t es) us cut.later_carried ∙ ap (λ (ms : List PlainMove). ms ++ decoded ys us) (sym cut.later)
          ∙ ap (λ i. drop i (decoded xs es) ++ decoded ys us) (sym border);
      done_carried = ap carried_among first_bytes ∙ cut.first_carried ∙ ap (λ i. length (take i es)) (sym left);
      undone_carried =
          omega (
            arith,
            ap carried_among last_bytes,
            carried_among-append (drop m xs) ys,
            cut.later_carried,
            ap (λ i. length (drop i es)) left,
            length-append (drop (length es - k) es) us,
            order.undone,
          );
    }

pub border_back : (j : Inside) (old : JournalView) (n k : ℕ) → journal_of j ≡ old → IsInOrder j → k ≡ carried_in (drop (length old.done - n) old.done)
    → IsEarlier j old n k
border_back j old n k is order count =
    subst (λ (v : JournalView). k ≡ carried_in (drop (length v.done - n) v.done) → IsEarlier j v n k) is (back_here j n k order) count

-- ---- one move on

-- Where a move is undone, there is a byte for it.
byte_there : (j : Inside) (old : JournalView) → journal_of j ≡ old → 0 < length old.undone → j.done < length j.moves.items
byte_there j old is some =
    let there : 0 < length (decoded (drop j.done j.moves.items) j.carried.undone) = subst (λ (v : JournalView). 0 < length v.undone) (sym is) some in
    omega (arith, there, length-decoded (drop j.done j.moves.items) j.carried.undone, length-drop j.done j.moves.items)

-- the move that is redone next, by its byte
pub next_by_byte : (j : Inside) (old : JournalView) (d : ℕ) → journal_of j ≡ old → 0 < length old.undone
    → move_of (slice_index_or j.moves.items j.done d) j.carried.undone ≡ next_undone old
next_by_byte j old d is some =
    let first = drop_more j.moves.items j.done d (byte_there j old is some) in
    sym (ap (λ (bytes : List ℕ). slice_index_or (decoded bytes j.carried.undone) 0 Tick) first) ∙ ap next_undone is

-- What it carries is kept.
pub next_is_kept : (j : Inside) (old : JournalView) (d : ℕ) → journal_of j ≡ old → IsInOrder j → 0 < length old.undone
    → carried_at (slice_index_or j.moves.items j.done d) ≤ length j.carried.undone
next_is_kept j old d is order some =
    let byte = slice_index_or j.moves.items j.done d in
    let rest = drop (j.done + 1) j.moves.items in
    omega (arith, ap carried_among (drop_more j.moves.items j.done d (byte_there j old is some)), carried_among-cons byte rest, order.undone)

-- A journal whose border is one move later, which carries so much: the first of those undone is done.
pub record IsLater (j : Inside) (old : JournalView) (k : ℕ) : Type 0 where
  pub border : j.done + 1 ≤ length j.moves.items
  pub done : decoded (take (j.done + 1) j.moves.items) (j.carried.done ++ take k j.carried.undone) ≡ old.done ++ next_undone old ∷ []
  pub undone : decoded (drop (j.done + 1) j.moves.items) (drop k j.carried.undone) ≡ drop 1 old.undone
  pub done_carried : carried_among (take (j.done + 1) j.moves.items) ≡ length (j.carried.done ++ take k j.carried.undone)
  pub undone_carried : carried_among (drop (j.done + 1) j.moves.items) ≡ length (drop k j.carried.undone)

pub border_on : (j : Inside) (old : JournalView) (d : ℕ) → journal_of j ≡ old → IsInOrder j → 0 < length old.undone
    → IsLater j old (carried_at (slice_index_or j.moves.items j.done d))
border_on j old d is order some =
    let n = j.done in
    let bytes = j.moves.items in
    let byte = slice_index_or bytes n d in
    let xs = take n bytes in
    let rest = drop (n + 1) bytes in
    let es = j.carried.done in
    let us = j.carried.undone in
    let k = carried_at byte in
    let less = byte_there j old is some in
    let first : drop n bytes ≡ byte ∷ rest = drop_more bytes n d less in
    let last : take (n + 1) bytes ≡ xs ++ byte ∷ [] = take_more bytes n d less in
    let enough = next_is_kept j old d is order some in
    let one : length (take k us) ≡ k = length-take-le k us enough in
    let next : move_of byte (take k us) ≡ next_undone old =
    sym (move_of-more byte (take k us) (drop k us) (omega (arith, one))) ∙ ap (move_of byte) (take-append-drop k us) ∙ next_by_byte j old d is some in
    record {
      border = omega (arith, less);
      done =
          ap (λ (bs : List ℕ). decoded bs (es ++ take k us)) last ∙ decoded-parts xs (byte ∷ []) es (take k us) order.done
          ∙ ap (λ (m : PlainMove). decoded xs es ++ m ∷ []) next ∙ ap (λ (v : JournalView). v.done ++ next_undone old ∷ []) is;
      undone = sym (ap (λ (bs : List ℕ). drop 1 (decoded bs us)) first) ∙ ap (λ (v : JournalView). drop 1 v.undone) is;
      done_carried =
          omega (
            arith,
            ap carried_among last,
            carried_among-append xs (byte ∷ []),
            carried_among-cons byte [],
            length-append es (take k us),
            order.done,
            one,
          );
      undone_carried = omega (arith, ap carried_among first, carried_among-cons byte rest, order.undone, length-drop k us);
    }

-- The moves undone are cut off.
pub moves_set_aside : (j : Inside) (moves : Vec ℕ) (carried : CarriedView) → IsInOrder j → moves.items ≡ take j.done j.moves.items
    → vec_capacity moves ≡ vec_capacity j.moves → carried ≡ record j.carried { undone = [] }
    → journal_of (record j { moves = moves; carried = carried }) ≡ record (journal_of j) { undone = [] }
moves_set_aside j moves carried order items capacity same =
    let view : List ℕ → List ℕ → ℕ → CarriedView → JournalView = λ before after n e. record {
      target = j.logged.target;
      done = decoded before e.done;
      records = j.logged.records;
      undone = decoded after e.undone;
      capacity = n;
      carried_capacity = e.capacity;
      memory = j.logged.memory;
      read = j.logged.read;
    } in
    let d = j.done in
    let before : take d moves.items ≡ take d j.moves.items = ap (take d) items ∙ take-take d d j.moves.items (omega arith) in
    let after : drop d moves.items ≡ [] =
    ap (drop d) items ∙ drop_all d (take d j.moves.items) (omega (arith, length-take-le d j.moves.items order.border)) in
    ap (λ (bs : List ℕ). view bs (drop d moves.items) (vec_capacity moves) carried) before
    ∙ ap (λ (bs : List ℕ). view (take d j.moves.items) bs (vec_capacity moves) carried) after
    ∙ ap (λ n. view (take d j.moves.items) [] n carried) capacity
    ∙ ap (λ (e : CarriedView). view (take d j.moves.items) [] (vec_capacity j.moves) e) same

-- The moves before the border, and one more.
pub record IsLaid (j : Inside) (move : PlainMove) (bytes : List ℕ) : Type 0 where
  pub border : j.done + 1 ≤ length bytes
  pub done : decoded (take (j.done + 1) bytes) (j.carried.done ++ carried_of move) ≡ (journal_of j).done ++ move ∷ []
  pub none : drop (j.done + 1) bytes ≡ []
  pub done_carried : carried_among (take (j.done + 1) bytes) ≡ length (j.carried.done ++ carried_of move)

pub moves_laid : (j : Inside) (move : PlainMove) (bytes : List ℕ) → IsInOrder j → HasByte move → bytes ≡ take j.done j.moves.items ++ byte_of move ∷ []
    → IsLaid j move bytes
moves_laid j move bytes order has is =
    let xs = take j.done j.moves.items in
    let es = j.carried.done in
    let byte = byte_of move in
    let count : length bytes ≡ j.done + 1 =
    omega (arith, ap length is, length_push xs byte, length-take-le j.done j.moves.items order.border) in
    let all : take (j.done + 1) bytes ≡ xs ++ byte ∷ [] = take_all (j.done + 1) bytes (omega (arith, count)) ∙ is in
    record {
      border = omega (arith, count);
      done =
          ap (λ (bs : List ℕ). decoded bs (es ++ carried_of move)) all ∙ decoded-parts xs (byte ∷ []) es (carried_of move) order.done
          ∙ ap (λ (ms : List PlainMove). decoded xs es ++ ms) (decoded-one move has);
      none = drop_of_length-le bytes (omega (arith, count));
      done_carried =
          omega (
            arith,
            ap carried_among all,
            carried_among-append xs (byte ∷ []),
            carried_at-one move has,
            length-append es (carried_of move),
            order.done,
          );
    }

-- A move of the application has a byte.
pub has_byte : (app : Application) (move : PlainMove) → IsApplication app → IsMoveOf app move → HasByte move
has_byte app (Core core) limits named = omega (arith, named, few_cores_of app limits)
has_byte app Tick limits named = tt
has_byte app (Carried carried) limits named = tt
