-- A change that was laid out behind bytes is read at their end, however wide its fields are.
use Rattle.std.proofs.Common.{◌≡◌, ◌∙◌, ℕ, ◌+◌, ◌-◌, ◌<◌, ◌≤◌, List, [], ◌∷◌, ◌++◌, length, get_or, refl, ap, ap₂, sym, arith, append_assoc, length-append}
use Rattle.std.proofs.lemmas.List.{get_or_append_left}
use Rattle.std.proofs.lemmas.Nat.{from_le_bytes-to_le_bytes_2, from_le_bytes-to_le_bytes_4, from_le_bytes-to_le_bytes_8}
use Rattle.std.specs.Int.{w16, to_le_bytes}
use Rattle.rd_bytes.specs.Ends.{all_but, bytes_before, end_byte, end_short, end_word, end_long}
use Rattle.rd_bytes.specs.Tags.{last_kind}
use Rattle.rd_bytes.specs.declared.tag.TheConstants.{INS_WAIT}
use Rattle.rd_bytes.specs.Layouts.{Width, Byte, Short, Word, Long, Count, width_size, FitsWidth, bytes_of, end_number, size, FitWidths, encoded, last_fields}
use Rattle.rd_bytes.specs.Layouts.{count_in, Layout, row_widths, last_length, laid_out, FitsLayout, EachRowIsReadBack}
use Rattle.rd_bytes.proofs.EndLaws.{end_byte_of, end_short_of, end_word_of, end_long_of, all_but_saved, bytes_before_end}

length-bytes_of : (width : Width) (number : ℕ) → length (bytes_of width number) ≡ width_size width
length-bytes_of Byte number = refl
length-bytes_of Short number = refl
length-bytes_of Word number = refl
length-bytes_of Long number = refl
length-bytes_of Count number = refl

length-encoded : (widths : List Width) (fields : List ℕ) → FitWidths widths fields → length (encoded widths fields) ≡ size widths
length-encoded [] fields fits = refl
length-encoded (width ∷ later) [] fits = absurd fits
length-encoded (width ∷ later) (field ∷ fields) fits =
    omega (arith, length-append (bytes_of width field) (encoded later fields), length-bytes_of width field, length-encoded later fields fits.1)

-- a byte of some that stand before others
byte_before : (x y : List ℕ) (k i : ℕ) → k + i ≡ length x + length y → i < length x → end_byte k (x ++ y) ≡ get_or x i 0
byte_before x y k i at there =
    let start : length (x ++ y) - k ≡ i = omega (arith, at, length-append x y) in
    ap (λ j. get_or (x ++ y) j 0) start ∙ get_or_append_left x y 0 i there

-- a number that stands before other bytes
short_before : (number : ℕ) (y : List ℕ) → number < 65536 → end_short (1 + length y) (to_le_bytes w16 number ++ y) ≡ number
short_before number y fits =
    let x : List ℕ = to_le_bytes w16 number in
    let short : end_short (1 + length y) (x ++ y) ≡ end_short 1 x =
    rw (byte_before x y (1 + length y + 1) 0 (omega arith) (omega arith), byte_before x y (1 + length y) 1 (omega arith) (omega arith)) refl in
    short ∙ from_le_bytes-to_le_bytes_2 number fits

number_before : (width : Width) (number : ℕ) (y : List ℕ) → FitsWidth width number → end_number width (1 + length y) (bytes_of width number ++ y) ≡ number
number_before Byte number y fits = byte_before (number ∷ []) y (1 + length y) 0 (omega arith) (omega arith)
number_before Short number y fits = short_before number y fits
number_before Count number y fits = short_before number y fits
number_before Word number y fits =
    let x : List ℕ = bytes_of Word number in
    let word : end_word (1 + length y) (x ++ y) ≡ end_word 1 x =
    rw (
      byte_before x y (1 + length y + 3) 0 (omega arith) (omega arith),
      byte_before x y (1 + length y + 2) 1 (omega arith) (omega arith),
      byte_before x y (1 + length y + 1) 2 (omega arith) (omega arith),
      byte_before x y (1 + length y) 3 (omega arith) (omega arith),
    ) refl in
    word ∙ from_le_bytes-to_le_bytes_4 number fits
number_before Long number y fits =
    let x : List ℕ = bytes_of Long number in
    let long : end_long (1 + length y) (x ++ y) ≡ end_long 1 x =
    rw (
      byte_before x y (1 + length y + 7) 0 (omega arith) (omega arith),
      byte_before x y (1 + length y + 6) 1 (omega arith) (omega arith),
      byte_before x y (1 + length y + 5) 2 (omega arith) (omega arith),
      byte_before x y (1 + length y + 4) 3 (omega arith) (omega arith),
      byte_before x y (1 + length y + 3) 4 (omega arith) (omega arith),
      byte_before x y (1 + length y + 2) 5 (omega arith) (omega arith),
      byte_before x y (1 + length y + 1) 6 (omega arith) (omega arith),
      byte_before x y (1 + length y) 7 (omega arith) (omega arith),
    ) refl in
    long ∙ from_le_bytes-to_le_bytes_8 number fits

-- whatever is before it
end_number_of : (b x : List ℕ) (width : Width) (k : ℕ) → 1 ≤ k → k + width_size width ≤ length x + 1 → end_number width k (b ++ x) ≡ end_number width k x
end_number_of b x Byte k some there = end_byte_of b x k some (omega (arith, there))
end_number_of b x Short k some there = end_short_of b x k some (omega (arith, there))
end_number_of b x Word k some there = end_word_of b x k some (omega (arith, there))
end_number_of b x Long k some there = end_long_of b x k some (omega (arith, there))
end_number_of b x Count k some there = end_short_of b x k some (omega (arith, there))

number_read : (b y : List ℕ) (width : Width) (number k : ℕ) → FitsWidth width number → k ≡ 1 + length y → end_number width k (b ++ (bytes_of width number ++ y)) ≡ number
number_read b y width number k fits at =
    let x : List ℕ = bytes_of width number ++ y in
    end_number_of b x width k (omega (arith, at)) (omega (arith, at, length-append (bytes_of width number) y, length-bytes_of width number))
    ∙ ap (λ j. end_number width j x) at ∙ number_before width number y fits

-- fields before a tag
fields_read : (b : List ℕ) (widths : List Width) (fields : List ℕ) (tag : ℕ) → FitWidths widths fields
    → last_fields widths (b ++ (encoded widths fields ++ tag ∷ [])) ≡ fields
fields_read b [] [] tag fits = refl
fields_read b [] (field ∷ fields) tag fits = absurd fits
fields_read b (width ∷ later) [] tag fits = absurd fits
fields_read b (width ∷ later) (field ∷ fields) tag fits =
    let first : List ℕ = bytes_of width field in
    let y : List ℕ = encoded later fields ++ tag ∷ [] in
    let whole : b ++ (encoded (width ∷ later) (field ∷ fields) ++ tag ∷ []) ≡ b ++ (first ++ y) =
    ap (λ x. b ++ x) (append_assoc first (encoded later fields) (tag ∷ [])) in
    let long : length y ≡ size later + 1 = omega (arith, length-append (encoded later fields) (tag ∷ []), length-encoded later fields fits.1) in
    let here : end_number width (2 + size later) (b ++ (first ++ y)) ≡ field = number_read b y width field _ fits.0 (omega (arith, long)) in
    let behind : last_fields later (b ++ (first ++ y)) ≡ fields =
    ap (last_fields later) (sym (append_assoc b first y)) ∙ fields_read (b ++ first) later fields tag fits.1 in
    ap (last_fields (width ∷ later)) whole ∙ ap₂ (λ (x : ℕ) (xs : List ℕ). x ∷ xs) here behind

-- What has to hold of each change of a layout: it is again the change of its tag, its fields and
-- what it carries, the fields say how many bytes that are, and those at the end of bytes its kind.
pub record ComesBack {Change : Type 0} (layout : Layout Change) (object : ℕ) (change : Change) : Type 0 where
  pub again : layout.read (layout.row object change).0 (layout.row object change).1 (layout.row object change).2 ≡ (object, change)
  pub count : count_in (row_widths layout object change) (layout.row object change).1 ≡ length (layout.row object change).2
  pub tag : INS_WAIT ≤ (layout.row object change).0
  pub kind : (bytes : List ℕ) → end_byte 1 bytes ≡ (layout.row object change).0
      → last_fields (row_widths layout object change) bytes ≡ (layout.row object change).1 → last_kind bytes ≡ layout.kind

-- Then each change that was laid out behind bytes is read at their end.
pub laid_read : {Change : Type 0} (layout : Layout Change) → ((object : ℕ) (change : Change) → FitsLayout layout object change → ComesBack layout object change)
    → EachRowIsReadBack layout
laid_read layout each b object change fits =
    let row : ℕ × List ℕ × List ℕ = layout.row object change in
    let widths : List Width = layout.widths row.0 in
    let is = each object change fits in
    let x : List ℕ = encoded widths row.1 ++ row.0 ∷ [] in
    let bytes : List ℕ = b ++ laid_out layout object change in
    let apart : bytes ≡ (b ++ row.2) ++ x = sym (append_assoc b row.2 x) in
    let long : length x ≡ size widths + 1 = omega (arith, length-append (encoded widths row.1) (row.0 ∷ []), length-encoded widths row.1 fits.1) in
    let tag : end_byte 1 bytes ≡ row.0 =
    ap (end_byte 1) apart ∙ end_byte_of (b ++ row.2) x 1 (omega arith) (omega (arith, long))
    ∙ end_byte_of (encoded widths row.1) (row.0 ∷ []) 1 (omega arith) (omega arith) in
    let fields : last_fields widths bytes ≡ row.1 = ap (last_fields widths) apart ∙ fields_read (b ++ row.2) widths row.1 row.0 fits.1 in
    let carried : bytes_before (1 + size widths) (length row.2) bytes ≡ row.2 =
    ap (bytes_before (1 + size widths) (length row.2)) apart ∙ bytes_before_end b row.2 x (1 + size widths) (length row.2) (omega (arith, long)) refl in
    let whole : last_length layout bytes ≡ 1 + size widths + length row.2 =
    ap (λ t. 1 + size (layout.widths t) + count_in (layout.widths t) (last_fields (layout.widths t) bytes)) tag
    ∙ ap (λ (f : List ℕ). 1 + size widths + count_in widths f) fields ∙ ap (λ n. 1 + size widths + n) is.count in
    record {
      ends = record {
        some = omega (arith, long, ap length apart, length-append (b ++ row.2) x);
        whole = omega (arith, whole, long, ap length apart, length-append (b ++ row.2) x, length-append b row.2);
      };
      tag = omega (arith, tag, is.tag);
      kind = is.kind bytes tag fields;
      same =
          ap (λ t. layout.read t (last_fields (layout.widths t) bytes) (bytes_before (1 + size (layout.widths t)) (count_in (layout.widths t) (last_fields (layout.widths t) bytes)) bytes)) tag
          ∙ ap (λ (f : List ℕ). layout.read row.0 f (bytes_before (1 + size widths) (count_in widths f) bytes)) fields
          ∙ ap (λ n. layout.read row.0 row.1 (bytes_before (1 + size widths) n bytes)) is.count ∙ ap (layout.read row.0 row.1) carried ∙ is.again;
      before = ap (λ n. all_but n bytes) whole ∙ ap (all_but (1 + size widths + length row.2)) apart ∙ all_but_saved b row.2 x (1 + size widths + length row.2) (omega (arith, long));
    }
