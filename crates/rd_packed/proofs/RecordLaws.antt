-- Records that were put behind bytes are read at their end.
use Rattle.std.proofs.Common.{◌≡◌, ◌∙◌, ℕ, zero, suc, ◌+◌, ◌-◌, ◌<◌, ◌≤◌, ◌^◌, List, [], ◌∷◌, ◌++◌, length, take, drop, get_or}
use Rattle.std.proofs.Common.{add-one, refl, ap, sym, arith, append_assoc, append-nil, length-append}
use Rattle.std.proofs.lemmas.List.{length-take-le, length-drop, get_or-drop, get_or-take, take_all, take-take, drop-take}
use Rattle.std.proofs.Math.Seq.{take-append_seam, drop-append_seam, get_or-append_seam}
use Rattle.std.proofs.lemmas.Nat.{from_le_bytes-to_le_bytes_4}
use Rattle.std.specs.Prelude.{Result, Ok, Err, OnOk}
use Rattle.rd_bytes.proofs.Offered.{end_word_of, length-all_but}
use Rattle.rd_bytes.specs.Ends.{end_byte, end_word}
use Rattle.rd_state.proofs.Offered.{all_packed-changes_in, length-changes_in, weight_bounds_bytes}
use Rattle.rd_state.specs.Change.{Change, cost_of, saved_bytes, weight_of}
use Rattle.rd_state.specs.PackedChanges.{all_packed, changes_in, AreChanges}
use Rattle.std.proofs.lemmas.List.Sums.{sum_by-cons}
use Rattle.rd_packed.specs.Records.{TakesLittle, saved_of, trailer, record_packed, records_packed, body_size, change_count, record_size, last_body, last_record, last_of_all}
use Rattle.rd_packed.specs.Records.{before_record, records_in, EndsInRecord, AreRecords}

pub length-records_in : (n : ℕ) (bytes : List ℕ) → length (records_in n bytes) ≡ n
length-records_in zero bytes = refl
length-records_in (suc n) bytes = omega (arith, length-append (records_in n (before_record bytes)) (last_record bytes ∷ []), length-records_in n (before_record bytes))

-- The record is at the end of bytes, behind the rest of them.
pub record RecordIsAtEnd (bytes rest : List ℕ) (undo : List Change) : Type 0 where
  pub ends : EndsInRecord bytes
  pub same : last_record bytes ≡ undo
  pub before : before_record bytes ≡ rest

pub record_read : (b body : List ℕ) (count : ℕ) → length body < 2 ^ 32 → count < 2 ^ 32 → AreChanges count body
    → RecordIsAtEnd ((b ++ body) ++ trailer (length body) count) b (changes_in count body)
record_read b body count small few are =
    let x : List ℕ = trailer (length body) count in
    let f : List ℕ = b ++ body in
    let size : body_size (f ++ x) ≡ length body = end_word_of f x 5 (omega arith) (omega arith) ∙ from_le_bytes-to_le_bytes_4 (length body) small in
    let many : change_count (f ++ x) ≡ count = end_word_of f x 1 (omega arith) (omega arith) ∙ from_le_bytes-to_le_bytes_4 count few in
    let start : length (f ++ x) - (8 + length body) ≡ length b = omega (arith, length-append f x, length-append b body) in
    let saved : drop (length b) (f ++ x) ≡ body ++ x = ap (drop (length b)) (append_assoc b body x) ∙ drop-append_seam b (body ++ x) in
    let inside : last_body (f ++ x) ≡ body = rw (size, start, saved) (take-append_seam body x) in
    record {
      same = ap (λ n. changes_in n (last_body (f ++ x))) many ∙ ap (changes_in count) inside;
      before = rw (size, start) (ap (take (length b)) (append_assoc b body x) ∙ take-append_seam b (body ++ x));
      ends = record {
        trailer = omega (arith, length-append f x);
        room = rw size (omega (arith, length-append f x, length-append b body));
        are = rw (many, inside) are;
      };
    }

pub records_in-push : (n : ℕ) (b body : List ℕ) (count : ℕ) → length body < 2 ^ 32 → count < 2 ^ 32 → AreChanges count body
    → records_in (n + 1) ((b ++ body) ++ trailer (length body) count) ≡ records_in n b ++ changes_in count body ∷ []
records_in-push n b body count small few are =
    let r = record_read b body count small few are in
    rw (add-one, r.same, r.before) refl

-- the bytes of a record, by those of its changes
record_again : (body : List ℕ) (count : ℕ) → AreChanges count body → record_packed (changes_in count body) ≡ body ++ trailer (length body) count
record_again body count are = rw (all_packed-changes_in count body are, length-changes_in count body) refl

pub AreRecords-push : (n : ℕ) (b body : List ℕ) (count : ℕ) → length body < 2 ^ 32 → count < 2 ^ 32 → AreChanges count body
    → AreRecords n b → AreRecords (n + 1) ((b ++ body) ++ trailer (length body) count)
AreRecords-push n b body count small few are all =
    let r = record_read b body count small few are in
    rw add-one (
      r.ends,
      rw (r.before, r.same, record_again body count are) (sym (append_assoc b body (trailer (length body) count))),
      rw r.before all,
    )

-- what is read at the end of one record more
record PeeledRecord (n : ℕ) (bytes : List ℕ) : Type 0 where
  pub ends : EndsInRecord bytes
  pub whole : before_record bytes ++ record_packed (last_record bytes) ≡ bytes
  pub rest : AreRecords (n - 1) (before_record bytes)
  pub is : records_in n bytes ≡ records_in (n - 1) (before_record bytes) ++ last_record bytes ∷ []

peeled_record : (n : ℕ) (bytes : List ℕ) → 0 < n → AreRecords n bytes → PeeledRecord n bytes
peeled_record zero bytes some are = absurd (omega arith)
peeled_record (suc n) bytes some are =
    let e : suc n - 1 ≡ n = omega arith in
    record { ends = are.0; whole = are.1; rest = rw e are.2; is = rw e refl }

records_packed-push : (records : List (List Change)) (undo : List Change) → records_packed (records ++ undo ∷ []) ≡ records_packed records ++ record_packed undo
records_packed-push [] undo = append-nil (record_packed undo)
records_packed-push (first ∷ later) undo =
    ap (λ rest. record_packed first ++ rest) (records_packed-push later undo) ∙ sym (append_assoc (record_packed first) (records_packed later) (record_packed undo))

-- The bytes are those of the records.
pub records_packed-records_in : (n : ℕ) (bytes : List ℕ) → AreRecords n bytes → records_packed (records_in n bytes) ≡ bytes
records_packed-records_in zero bytes are = sym are
records_packed-records_in (suc n) bytes are =
    records_packed-push (records_in n (before_record bytes)) (last_record bytes)
    ∙ ap (λ before. before ++ record_packed (last_record bytes)) (records_packed-records_in n (before_record bytes) are.2) ∙ are.1

-- Each record takes eight bytes at least.
pub record_count-le : (n : ℕ) (bytes : List ℕ) → AreRecords n bytes → n ≤ length bytes
record_count-le zero bytes are = omega arith
record_count-le (suc n) bytes are =
    omega (arith, record_count-le n (before_record bytes) are.2, length-all_but bytes (record_size bytes), are.0.room, are.0.trailer)

-- What follows from what a call promises where it succeeds.
pub on_ok_then : {T E P Q : Type 0} (r : Result T E) → OnOk r P → (P → Q) → OnOk r Q
on_ok_then (Ok x) holds follows = follows holds
on_ok_then (Err y) holds follows = tt

-- Changes weigh as many as they are, and as many bytes as they save.
weight_parts : (undo : List Change) → weight_of undo ≡ length undo + saved_of undo
weight_parts [] = refl
weight_parts (change ∷ later) =
    omega (arith, sum_by-cons cost_of change later, sum_by-cons saved_bytes change later, weight_parts later)

pub takes_little : (undo : List Change) → TakesLittle undo
takes_little undo =
    omega (
      arith,
      weight_bounds_bytes undo,
      weight_parts undo,
      length-append (all_packed undo) (trailer (length (all_packed undo)) (length undo)),
    )

-- the numbers of the trailer, read by itself
trailer_byte : (bytes : List ℕ) (k : ℕ) → 1 ≤ k → k ≤ 8 → 8 ≤ length bytes → end_byte k (take 8 (drop (length bytes - 8) bytes)) ≡ end_byte k bytes
trailer_byte bytes k some small there =
    let rest = drop (length bytes - 8) bytes in
    let eight : length (take 8 rest) ≡ 8 = length-take-le 8 rest (omega (arith, length-drop (length bytes - 8) bytes)) in
    let e : length bytes - 8 + (8 - k) ≡ length bytes - k = omega arith in
    ap (λ n. get_or (take 8 rest) (n - k) 0) eight ∙ get_or-take 8 rest (8 - k) 0 (omega arith) ∙ get_or-drop (length bytes - 8) bytes (8 - k) 0
    ∙ ap (λ i. get_or bytes i 0) e

-- the two numbers, as they stand in all bytes
pub record IsTrailer (bytes t : List ℕ) : Type 0 where
  pub size : end_word 5 t ≡ body_size bytes
  pub count : end_word 1 t ≡ change_count bytes

pub trailer_numbers : (bytes t : List ℕ) → 8 ≤ length bytes → t ≡ take 8 (drop (length bytes - 8) bytes) → IsTrailer bytes t
trailer_numbers bytes t there is =
    let b : (k : ℕ) → 1 ≤ k → k ≤ 8 → end_byte k t ≡ end_byte k bytes = λ k some small. ap (end_byte k) is ∙ trailer_byte bytes k some small there in
    let e8 = b 8 (omega arith) (omega arith) in
    let e7 = b 7 (omega arith) (omega arith) in
    let e6 = b 6 (omega arith) (omega arith) in
    let e5 = b 5 (omega arith) (omega arith) in
    let e4 = b 4 (omega arith) (omega arith) in
    let e3 = b 3 (omega arith) (omega arith) in
    let e2 = b 2 (omega arith) (omega arith) in
    let e1 = b 1 (omega arith) (omega arith) in
    record { size = rw (e8, e7, e6, e5) refl; count = rw (e4, e3, e2, e1) refl }

-- Those of the record that ends at a place.
pub trailer_at : (bytes t : List ℕ) (end : ℕ) → 8 ≤ end → end ≤ length bytes → t ≡ take 8 (drop (end - 8) bytes) → IsTrailer (take end bytes) t
trailer_at bytes t end there within is =
    let front : List ℕ = take end bytes in
    let len : length front ≡ end = length-take-le end bytes within in
    let again : end ≡ end - 8 + 8 = omega arith in
    let here : take 8 (drop (length front - 8) front) ≡ take 8 (drop (end - 8) bytes) =
    ap (λ k. take 8 (drop (k - 8) front)) len ∙ ap (λ k. take 8 (drop (end - 8) (take k bytes))) again ∙ ap (take 8) (drop-take (end - 8) 8 bytes)
    ∙ take-take 8 8 (drop (end - 8) bytes) (omega arith) in
    trailer_numbers front t (omega (arith, len)) (is ∙ sym here)

last_is : (front : List (List Change)) (last : List Change) → last_of_all (front ++ last ∷ []) ≡ last
last_is front last =
    let e : length (front ++ last ∷ []) - 1 ≡ length front = omega (arith, length-append front (last ∷ [])) in
    ap (λ k. get_or (front ++ last ∷ []) k []) e ∙ get_or-append_seam front last [] []

front_is : (front : List (List Change)) (last : List Change) → take (length (front ++ last ∷ []) - 1) (front ++ last ∷ []) ≡ front
front_is front last =
    let e : length (front ++ last ∷ []) - 1 ≡ length front = omega (arith, length-append front (last ∷ [])) in
    ap (λ k. take k (front ++ last ∷ [])) e ∙ take-append_seam front (last ∷ [])

-- What going back by the last record reads, and what it leaves.
pub record LastRecordRead (n : ℕ) (bytes : List ℕ) (records : List (List Change)) (end size : ℕ) : Type 0 where
  pub whole : take end bytes ≡ bytes
  pub ends : EndsInRecord bytes
  pub rest : AreRecords (n - 1) (before_record bytes)
  pub room : size + 8 ≤ end
  pub body : take size (drop (end - 8 - size) bytes) ≡ last_body bytes
  pub cut : take (end - 8 - size) bytes ≡ before_record bytes
  pub taken : length (record_packed (last_record bytes)) ≡ size + 8
  pub last : last_of_all records ≡ last_record bytes
  pub front : take (length records - 1) records ≡ records_in (n - 1) (before_record bytes)

pub last_record_read : (n : ℕ) (bytes : List ℕ) (records : List (List Change)) (end size : ℕ) → records_in n bytes ≡ records → 0 < length records
    → AreRecords n bytes → end ≡ length bytes → size ≡ body_size (take end bytes) → LastRecordRead n bytes records end size
last_record_read n bytes records end size view some are all at_end =
    let whole : take end bytes ≡ bytes = take_all end bytes (omega arith) in
    let is : size ≡ body_size bytes = at_end ∙ ap body_size whole in
    let peel : PeeledRecord n bytes = peeled_record n bytes (omega (arith, some, length-records_in n bytes, ap length view)) are in
    let start : end - 8 - size ≡ length bytes - record_size bytes = omega (arith, is, all) in
    let peeled : records ≡ records_in (n - 1) (before_record bytes) ++ last_record bytes ∷ [] = sym view ∙ peel.is in
    record {
      whole = whole;
      ends = peel.ends;
      rest = peel.rest;
      room = omega (arith, is, all, peel.ends.room);
      body = ap (λ k. take k (drop (end - 8 - size) bytes)) is ∙ ap (λ k. take (body_size bytes) (drop k bytes)) start;
      cut = ap (λ k. take k bytes) start;
      taken =
          omega (
            arith,
            ap length peel.whole,
            length-append (before_record bytes) (record_packed (last_record bytes)),
            length-all_but bytes (record_size bytes),
            is,
            peel.ends.room,
          );
      last = ap last_of_all peeled ∙ last_is (records_in (n - 1) (before_record bytes)) (last_record bytes);
      front = ap (λ (r : List (List Change)). take (length r - 1) r) peeled ∙ front_is (records_in (n - 1) (before_record bytes)) (last_record bytes);
    }

-- There is a trailer, where there is a record.
pub trailer_there : (n : ℕ) (bytes : List ℕ) (records : List (List Change)) → records_in n bytes ≡ records → 0 < length records → AreRecords n bytes
    → 8 ≤ length bytes
trailer_there n bytes records view some are =
    (peeled_record n bytes (omega (arith, some, length-records_in n bytes, ap length view)) are).ends.trailer
