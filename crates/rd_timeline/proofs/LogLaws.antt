-- Logs with a record more, and with one less.
use Rattle.std.proofs.Common.{◌≡◌, ◌∙◌, ℕ, ◌+◌, ◌-◌, ◌<◌, ◌≤◌, List, [], ◌∷◌, ◌++◌, length, take, drop, get_or, ap, subst, sym, arith, length-append}
use Rattle.std.proofs.lemmas.List.{drop-append-le, drop-drop, drop_more, length-take-le, take-append-drop, take-take, take_more}
use Rattle.std.proofs.Math.Seq.{get_or-append_seam}
use Rattle.rd_app.specs.Application.{Application}
use Rattle.rd_calls.proofs.Offered.{record_has_room}
use Rattle.rd_moves.specs.Moves.{PlainMove}
use Rattle.rd_calls.specs.declared.play.TheConstants.{MAX_RECORD_BYTES}
use Rattle.rd_calls.specs.Step.{IsPlayed}
use Rattle.rd_packed.specs.Records.{last_of_all, record_packed, records_packed}
use Rattle.rd_state.proofs.Offered.{length-weight-le, weight_bounds_bytes}
use Rattle.rd_state.specs.Change.{Change}
use Rattle.rd_state.specs.PackedChanges.{all_packed}
use Rattle.rd_state.specs.Sizes.{IsSized}
use Rattle.rd_state.specs.Snapshot.{Snapshot}
use Rattle.rd_state.specs.Undoing.{undone, CanUndo}
use Rattle.rd_timeline.specs.History.{rewound, CanRewind}
use Rattle.rd_timeline.specs.LogView.{bytes_of}
use Rattle.rd_timeline.proofs.HistoryLaws.{CanRewind-later}

-- The changes of a move take no more bytes than a record may.
pub played_short : (app : Application) (s s' : Snapshot) (move : PlainMove) (undo : List Change) → IsSized s → IsPlayed app s move s' undo
    → length (all_packed undo) ≤ MAX_RECORD_BYTES
played_short app s s' move undo sized played =
    omega (arith, weight_bounds_bytes undo, length-weight-le undo, played.small, record_has_room app s move sized)

-- Records take as many bytes as the first ones and the others.
bytes_of-append : (first later : List (List Change)) → bytes_of (first ++ later) ≡ bytes_of first + bytes_of later
bytes_of-append [] later = omega arith
bytes_of-append (undo ∷ first) later =
    omega (
      arith,
      bytes_of-append first later,
      length-append (record_packed undo) (records_packed (first ++ later)),
      length-append (record_packed undo) (records_packed first),
    )

pub bytes_of-parts : (m : ℕ) (records : List (List Change)) → bytes_of records ≡ bytes_of (take m records) + bytes_of (drop m records)
bytes_of-parts m records = ap bytes_of (sym (take-append-drop m records)) ∙ bytes_of-append (take m records) (drop m records)

bytes_of-one : (undo : List Change) → bytes_of (undo ∷ []) ≡ length (record_packed undo)
bytes_of-one undo = omega (arith, length-append (record_packed undo) [])

-- Where all but the first m records were taken back, and the last of those is now.
pub record IsOneBack (s : Snapshot) (records left : List (List Change)) (m : ℕ) : Type 0 where
  pub some : 0 < length left
  pub can : CanRewind s (drop (m - 1) records) → CanUndo (rewound s (drop m records)) (last_of_all left)
  pub target : undone (rewound s (drop m records)) (last_of_all left) ≡ rewound s (drop (m - 1) records)
  pub first : take (length left - 1) left ≡ take (m - 1) records
  pub bytes : bytes_of (drop (m - 1) records) ≡ length (record_packed (last_of_all left)) + bytes_of (drop m records)

pub one_back : (s : Snapshot) (records left : List (List Change)) (m : ℕ) → left ≡ take m records → 0 < m → m ≤ length records
    → IsOneBack s records left m
one_back s records left m is some within =
    let undo = get_or records (m - 1) [] in
    let before : m - 1 + 1 ≡ m = omega (arith, some) in
    let less : m - 1 < length records = omega (arith, some, within) in
    let len : length left ≡ m = ap length is ∙ length-take-le m records within in
    let first = take (m - 1) records in
    let first_len : length first ≡ m - 1 = length-take-le (m - 1) records (omega (arith, less)) in
    let parts : left ≡ first ++ undo ∷ [] =
    is ∙ ap (λ k. take k records) (sym before) ∙ take_more records (m - 1) [] less in
    let last : last_of_all left ≡ undo =
    ap last_of_all parts
    ∙ ap (λ k. get_or (first ++ undo ∷ []) k []) (omega (arith, length-append first (undo ∷ []))) ∙ get_or-append_seam first undo [] [] in
    let here : drop (m - 1) records ≡ undo ∷ drop m records =
    drop_more records (m - 1) [] less ∙ ap (λ k. undo ∷ drop k records) before in
    record {
      some = omega (arith, len, some);
      can =
          λ can. subst (CanUndo (rewound s (drop m records))) (sym last) (subst (CanRewind s) here can).1;
      target = ap (undone (rewound s (drop m records))) last ∙ sym (ap (rewound s) here);
      first =
          ap (λ k. take k left) (omega (arith, len)) ∙ ap (take (m - 1)) is ∙ take-take (m - 1) m records (omega (arith, some));
      bytes =
          omega (
            arith,
            ap bytes_of here,
            bytes_of-append (undo ∷ []) (drop m records),
            bytes_of-one undo,
            ap (λ (u : List Change). length (record_packed u)) last,
          );
    }

-- The records taken back so far, and one more, can be.
pub can_one_more : (s : Snapshot) (records : List (List Change)) (start m : ℕ) → start ≤ m → CanRewind s (drop start records) → CanRewind s (drop m records)
can_one_more s records start m within can =
    let rest : start + (m - start) ≡ m = omega (arith, within) in
    subst (CanRewind s) (drop-drop (m - start) start records ∙ ap (λ k. drop k records) rest) (CanRewind-later s (drop start records) (m - start) can)

-- Of a log all but so many records are left, and one more is taken back.
pub one_record_back : (log left : List (List Change)) (count : ℕ) → left ≡ take (length log - count) log → count < length log
    → (take (length left - 1) left ≡ take (length log - (count + 1)) log)
    × (bytes_of (drop (length left - 1) left) + bytes_of (drop (length log - count) log) ≡ bytes_of (drop (length log - (count + 1)) log))
one_record_back log left count is less =
    let m = length log - count in
    let j = length log - (count + 1) in
    let at : length left - 1 ≡ j = omega (arith, ap length is, length-take-le m log (omega arith), less) in
    let later : drop j (take m log) ++ drop m log ≡ drop j log =
    sym (drop-append-le j (take m log) (drop m log) (omega (arith, length-take-le m log (omega arith), less)))
    ∙ ap (drop j) (take-append-drop m log) in (
      ap (λ k. take k left) at ∙ ap (take j) is ∙ take-take j m log (omega (arith, less)),
      omega (
        arith,
        ap (λ k. bytes_of (drop k left)) at,
        ap (λ (rs : List (List Change)). bytes_of (drop j rs)) is,
        bytes_of-append (drop j (take m log)) (drop m log),
        ap bytes_of later,
      ),
    )
