-- The last records, of which the bytes are the last bytes.
use Rattle.std.proofs.Common.{◌≡◌, ◌∙◌, ℕ, zero, suc, ◌+◌, ◌-◌, ◌<◌, ◌≤◌, List, [], ◌∷◌, ◌++◌, length, take, drop, get_or, min}
use Rattle.std.proofs.Common.{refl, ap, sym, arith, append_assoc}
use Rattle.std.proofs.lemmas.List.{length-take-le, length-drop, get_or-drop, take-take, drop-take, drop-drop, drop-append-le, drop_all}
use Rattle.std.proofs.Math.Seq.{drop-append_seam}
use Rattle.rd_bytes.proofs.Offered.{length-all_but}
use Rattle.rd_bytes.specs.Ends.{end_byte}
use Rattle.rd_state.specs.Change.{Change}
use Rattle.rd_state.specs.PackedChanges.{changes_in}
use Rattle.rd_packed.specs.Records.{record_packed, records_packed, body_size, change_count, record_size, last_body, last_record, last_of_all}
use Rattle.rd_packed.specs.Records.{before_record, records_in, start_of_last, EndsInRecord, AreRecords, HasLast}
use Rattle.rd_packed.proofs.RecordLaws.{length-records_in}

-- A byte so far from the end stays there where the front is dropped, if it isn't dropped with it.
end_byte-drop : (s k : ℕ) (bytes : List ℕ) → 1 ≤ k → s + k ≤ length bytes → end_byte k (drop s bytes) ≡ end_byte k bytes
end_byte-drop s k bytes some there =
    let e : s + (length (drop s bytes) - k) ≡ length bytes - k = omega (arith, length-drop s bytes) in
    get_or-drop s bytes (length (drop s bytes) - k) 0 ∙ ap (λ i. get_or bytes i 0) e

-- The record at the end stays where the bytes before it lose their front.
pub record EndStays (s : ℕ) (bytes : List ℕ) : Type 0 where
  pub ends : EndsInRecord (drop s bytes)
  pub same : last_record (drop s bytes) ≡ last_record bytes
  pub before : before_record (drop s bytes) ≡ drop s (before_record bytes)

end_stays : (s : ℕ) (bytes : List ℕ) → EndsInRecord bytes → s + record_size bytes ≤ length bytes → EndStays s bytes
end_stays s bytes ends there =
    let rest = drop s bytes in
    let b : (k : ℕ) → 1 ≤ k → k ≤ 8 → end_byte k rest ≡ end_byte k bytes = λ k some small. end_byte-drop s k bytes some (omega arith) in
    let e8 = b 8 (omega arith) (omega arith) in
    let e7 = b 7 (omega arith) (omega arith) in
    let e6 = b 6 (omega arith) (omega arith) in
    let e5 = b 5 (omega arith) (omega arith) in
    let e4 = b 4 (omega arith) (omega arith) in
    let e3 = b 3 (omega arith) (omega arith) in
    let e2 = b 2 (omega arith) (omega arith) in
    let e1 = b 1 (omega arith) (omega arith) in
    let size : body_size rest ≡ body_size bytes = rw (e8, e7, e6, e5) refl in
    let count : change_count rest ≡ change_count bytes = rw (e4, e3, e2, e1) refl in
    let keep : ℕ = length bytes - record_size bytes in
    let left : length rest - record_size rest ≡ keep - s = omega (arith, length-drop s bytes, size) in
    let again : s + (keep - s) ≡ keep = omega arith in
    let body : last_body rest ≡ last_body bytes =
    ap (λ n. take n (drop (length rest - record_size rest) rest)) size ∙ ap (λ n. take (body_size bytes) (drop n rest)) left
    ∙ ap (take (body_size bytes)) (drop-drop (keep - s) s bytes ∙ ap (λ n. drop n bytes) again) in
    record {
      ends = record {
        trailer = omega (arith, length-drop s bytes);
        room = omega (arith, length-drop s bytes, size);
        are = rw (count, body) ends.are;
      };
      same = ap (λ n. changes_in n (last_body rest)) count ∙ ap (changes_in (change_count bytes)) body;
      before = ap (λ n. take n rest) left ∙ sym (drop-take s (keep - s) bytes) ∙ ap (λ n. drop s (take n bytes)) again;
    }

-- Of n records the last k are kept.
pub record LastKept (n k : ℕ) (bytes : List ℕ) : Type 0 where
  pub has : HasLast k bytes
  pub within : start_of_last k bytes ≤ length bytes
  pub are : AreRecords k (drop (start_of_last k bytes) bytes)
  pub records : records_in k (drop (start_of_last k bytes) bytes) ≡ drop (n - k) (records_in n bytes)

pub last_kept : (n k : ℕ) (bytes : List ℕ) → k ≤ n → AreRecords n bytes → LastKept n k bytes
last_kept n zero bytes some are =
    let none : length (records_in n bytes) ≤ n - 0 = omega (arith, length-records_in n bytes) in
    let end : length bytes ≤ length bytes = omega arith in
    record {
      has = tt;
      within = end;
      are = drop_all (length bytes) bytes end;
      records = sym (drop_all (n - 0) (records_in n bytes) none);
    }
last_kept zero (suc k) bytes some are = absurd (omega arith)
last_kept (suc n) (suc k) bytes some are =
    let before = before_record bytes in
    let kept : LastKept n k before = last_kept n k before (omega arith) are.2 in
    let s : ℕ = start_of_last k before in
    let len : length before ≡ length bytes - record_size bytes = length-all_but bytes (record_size bytes) in
    let end : EndStays s bytes = end_stays s bytes are.0 (omega (arith, kept.within, len, are.0.room)) in
    let all : List Change = last_record bytes in
    let step : suc n - suc k ≡ n - k = omega arith in
    let front : List (List Change) = records_in n before in
    let few : n - k ≤ length front = omega (arith, length-records_in n before) in
    let whole : drop s before ++ record_packed all ≡ drop s bytes =
    sym (drop-append-le s before (record_packed all) kept.within) ∙ ap (drop s) are.1 in
    let again : records_in k (drop s before) ++ all ∷ [] ≡ drop (n - k) (front ++ all ∷ []) =
    ap (λ r. r ++ all ∷ []) kept.records ∙ sym (drop-append-le (n - k) front (all ∷ []) few) in
    record {
      has = (are.0, kept.has);
      within = omega (arith, kept.within, len);
      are = (end.ends, rw (end.before, end.same) whole, rw end.before kept.are);
      records = rw (end.before, end.same, step) again;
    }

-- There is a trailer at the end, where there is a record.
pub trailer_before : (n start : ℕ) (bytes : List ℕ) → 0 < n → start ≤ length bytes → HasLast n (take start bytes) → 8 ≤ start
trailer_before zero start bytes some within has = absurd (omega arith)
trailer_before (suc n) start bytes some within has = omega (arith, has.0.trailer, length-take-le start bytes within)

-- A step from the end of a record to its start.
pub record Turn (n start size : ℕ) (bytes : List ℕ) : Type 0 where
  pub room : size + 8 ≤ start
  pub has : HasLast (n - 1) (take (start - 8 - size) bytes)
  pub leads : start_of_last (n - 1) (take (start - 8 - size) bytes) ≡ start_of_last n (take start bytes)

pub turn : (n start size : ℕ) (bytes : List ℕ) → 0 < n → start ≤ length bytes → HasLast n (take start bytes) → size ≡ body_size (take start bytes)
    → Turn n start size bytes
turn zero start size bytes some within has is = absurd (omega arith)
turn (suc n) start size bytes some within has is =
    let front : List ℕ = take start bytes in
    let len : length front ≡ start = length-take-le start bytes within in
    let from : length front - record_size front ≡ start - 8 - size = omega (arith, len, is, has.0.room) in
    let before : before_record front ≡ take (start - 8 - size) bytes =
    ap (λ k. take k front) from ∙ take-take (start - 8 - size) start bytes (omega arith) in
    let one : suc n - 1 ≡ n = omega arith in
    record { room = omega (arith, len, is, has.0.room); has = rw (one, ← before) has.1; leads = rw (one, ← before) refl }

-- To keep all of them changes nothing.
pub all_kept : (n : ℕ) (records : List (List Change)) → length records ≤ n → drop (length records - n) records ≡ records
all_kept n records few =
    let none : length records - n ≡ 0 = omega arith in
    ap (λ k. drop k records) none

-- To keep n of them and then m is to keep the smaller number.
pub kept_again : (m n : ℕ) (records : List (List Change))
    → drop (length (drop (length records - n) records) - m) (drop (length records - n) records) ≡ drop (length records - min m n) records
kept_again m n records =
    let first : ℕ = length records - n in
    let len : length (drop first records) ≡ length records - first = length-drop first records in
    let both : first + (length (drop first records) - m) ≡ length records - min m n = omega (arith, len) in
    drop-drop (length (drop first records) - m) first records ∙ ap (λ k. drop k records) both

-- The bytes of all records are those that are given up, and then those that are kept.
pub records_packed-parts : (k : ℕ) (records : List (List Change)) → records_packed (take k records) ++ records_packed (drop k records) ≡ records_packed records
records_packed-parts zero records = refl
records_packed-parts (suc k) [] = refl
records_packed-parts (suc k) (first ∷ later) =
    append_assoc (record_packed first) (records_packed (take k later)) (records_packed (drop k later))
    ∙ ap (λ rest. record_packed first ++ rest) (records_packed-parts k later)

-- The bytes of the records that are kept are the last bytes of all.
pub kept_bytes : (k : ℕ) (records : List (List Change))
    → records_packed (drop k records) ≡ drop (length (records_packed (take k records))) (records_packed records)
kept_bytes k records =
    let front : List ℕ = records_packed (take k records) in
    sym (drop-append_seam front (records_packed (drop k records))) ∙ ap (drop (length front)) (records_packed-parts k records)

-- The last record stays the last one, where any is kept.
pub last_of_kept : (n : ℕ) (records : List (List Change)) → 0 < n → 0 < length records
    → last_of_all (drop (length records - n) records) ≡ last_of_all records
last_of_kept n records any some =
    let k : ℕ = length records - n in
    let len : length (drop k records) ≡ length records - k = length-drop k records in
    let last : k + (length (drop k records) - 1) ≡ length records - 1 = omega (arith, len) in
    get_or-drop k records (length (drop k records) - 1) [] ∙ ap (λ i. get_or records i []) last

-- To keep n and go back by the last one leaves what is left by going back first and keeping one less.
pub front_of_kept : (n : ℕ) (records : List (List Change)) → 0 < n → 0 < length records
    → take (length (drop (length records - n) records) - 1) (drop (length records - n) records)
    ≡ drop (length (take (length records - 1) records) - (n - 1)) (take (length records - 1) records)
front_of_kept n records any some =
    let k : ℕ = length records - n in
    let front : List (List Change) = take (length records - 1) records in
    let len : length (drop k records) ≡ length records - k = length-drop k records in
    let less : length front ≡ length records - 1 = length-take-le (length records - 1) records (omega arith) in
    let again : k + (length (drop k records) - 1) ≡ length records - 1 = omega (arith, len) in
    let from : k ≡ length front - (n - 1) = omega (arith, less) in
    sym (drop-take k (length (drop k records) - 1) records) ∙ ap (λ i. drop k (take i records)) again ∙ ap (λ i. drop i front) from
