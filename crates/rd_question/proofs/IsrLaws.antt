-- The end of a text, and an interrupt with one option more.
use Rattle.std.proofs.Common.{◌≡◌, ◌≢◌, ◌∙◌, ◌<◌, ◌≤◌, ◌+◌, ◌-◌, ◌++◌, ◌∷◌, ◌||◌, ◌==◌, ℕ, suc, Bool, true, false, List, [], Option, Some, None, cond, drop, get_or, length, take, refl, sym, ap, subst, arith, codes}
use Rattle.std.proofs.lemmas.Bool.{eq-eqb, ne_eqb}
use Rattle.std.proofs.lemmas.List.{take-append-drop}
use Rattle.std.proofs.lemmas.Str.Pattern.{NoCharPasses-char, drop_at_char}
use Rattle.std.specs.Borrow.{Bor}
use Rattle.std.specs.Prelude.{IsSome}
use Rattle.std.specs.Str.{bytes_eq}
use Rattle.std.specs.Str.Pattern.{RFindsChar, SplitsAroundMatch}
use Rattle.rd_question.specs.IsrWords.{AreOnce, IsTextOf, IsWhole, IsrOption, SaysIsr, SaysTwice, as_text, before_last, behind_last, before_word, calls_before, has_byte, last_option, last_word, value_of}
use Rattle.rd_question.specs.declared.handler.NoHandler.{NoHandler}
use Rattle.rd_question.specs.declared.handler.NoHandler.TheVariants.{Twice}
use Rattle.rd_question.specs.declared.handler.Said.{Said}

-- ---- the end of a text

lacks : (byte : ℕ) (text : List ℕ) → ((i : ℕ) → i < length text → get_or text i 0 ≢ byte) → has_byte byte text ≡ false
lacks byte [] none = refl
lacks byte (first ∷ text) none =
    ap (λ (b : Bool). b || has_byte byte text) (ne_eqb first byte (none 0 (omega arith)))
    ∙ lacks byte text (λ i within. none (suc i) (omega (arith, within)))

or_true : (one other : Bool) → other ≡ true → (one || other) ≡ true
or_true true other is = refl
or_true false other is = is

or_false : (one other : Bool) → (one || other) ≡ false → other ≡ false
or_false true other is = let bad : true ≡ false = is in absurd cc
or_false false other is = is

has_there : (byte : ℕ) (front back : List ℕ) → has_byte byte (front ++ byte ∷ back) ≡ true
has_there byte [] back = ap (λ (b : Bool). b || has_byte byte back) (eq-eqb byte byte refl)
has_there byte (first ∷ front) back = or_true (first == byte) (has_byte byte (front ++ byte ∷ back)) (has_there byte front back)

behind_none : (byte : ℕ) (text : List ℕ) → has_byte byte text ≡ false → behind_last byte text ≡ text
behind_none byte [] none = refl
behind_none byte (first ∷ text) none = ap (λ (b : Bool). cond b (behind_last byte text) (first ∷ text)) none

before_none : (byte : ℕ) (text : List ℕ) → has_byte byte text ≡ false → before_last byte text ≡ []
before_none byte [] none = refl
before_none byte (first ∷ text) none =
    let later = or_false (first == byte) (has_byte byte text) none in
    ap (λ (b : Bool). cond b (first ∷ before_last byte text) []) later

behind_there : (byte : ℕ) (front back : List ℕ) → has_byte byte back ≡ false → behind_last byte (front ++ byte ∷ back) ≡ back
behind_there byte [] back none =
    ap (λ (b : Bool). cond b (behind_last byte back) (byte ∷ back)) (has_there byte [] back) ∙ behind_none byte back none
behind_there byte (first ∷ front) back none =
    ap (λ (b : Bool). cond b (behind_last byte (front ++ byte ∷ back)) (first ∷ (front ++ byte ∷ back))) (has_there byte (first ∷ front) back)
    ∙ behind_there byte front back none

before_there : (byte : ℕ) (front back : List ℕ) → has_byte byte back ≡ false → before_last byte (front ++ byte ∷ back) ≡ front
before_there byte [] back none = ap (λ (b : Bool). cond b (byte ∷ before_last byte back) []) none
before_there byte (first ∷ front) back none =
    ap (λ (b : Bool). cond b (first ∷ before_last byte (front ++ byte ∷ back)) []) (has_there byte front back)
    ∙ ap (λ (rest : List ℕ). first ∷ rest) (before_there byte front back none)

-- takes the clause of `rsplit_once` at an ASCII character
pub split_last : (byte : ℕ) (text front back : List ℕ) → byte < 128 → SplitsAroundMatch (RFindsChar byte) text front back
    → (front ≡ before_last byte text) × (back ≡ behind_last byte text)
split_last byte text front back low h =
    let i = h.0 in
    let j = h.1 in
    let is : text ≡ take i text ++ byte ∷ drop j text =
    sym (take-append-drop i text) ∙ ap (λ (rest : List ℕ). take i text ++ rest) (drop_at_char byte text i j h.2.1 low) in
    let none : has_byte byte (drop j text) ≡ false = lacks byte (drop j text) (λ k. NoCharPasses-char byte (drop j text) k h.2.0 low) in (
      h.3 ∙ sym (before_there byte (take i text) (drop j text) none) ∙ ap (before_last byte) (sym is),
      h.4 ∙ sym (behind_there byte (take i text) (drop j text) none) ∙ ap (behind_last byte) (sym is),
    )

pub no_split : (byte : ℕ) (text : List ℕ) → byte < 128 → RFindsChar byte text None
    → ([] ≡ before_last byte text) × (text ≡ behind_last byte text)
no_split byte text low h =
    let none : has_byte byte text ≡ false = lacks byte text (λ k. NoCharPasses-char byte text k h low) in
    (sym (before_none byte text none), sym (behind_none byte text none))

-- ---- one option more

value_here : (name value : List ℕ) (options : List IsrOption) (word : List ℕ) → name ≡ word → bytes_eq word word ≡ true
    → value_of word (record { name = name; value = value } ∷ options) ≡ Some value
value_here name value options word is same =
    ap (λ (n : List ℕ). cond (bytes_eq n word) (Some value) (value_of word options)) is
    ∙ ap (λ (b : Bool). cond b (Some value) (value_of word options)) same

value_else : (name value : List ℕ) (options : List IsrOption) (word other : List ℕ) → name ≡ word → bytes_eq word other ≡ false
    → value_of other (record { name = name; value = value } ∷ options) ≡ value_of other options
value_else name value options word other is same =
    ap (λ (n : List ℕ). cond (bytes_eq n other) (Some value) (value_of other options)) is
    ∙ ap (λ (b : Bool). cond b (Some value) (value_of other options)) same

-- the text of the options, with the last one of the calls
more_text : (text : List ℕ) (old : Said) (new : Said) (s : SaysIsr text old) → IsWhole (calls_before old.calls.now) true
    → new.calls.now ≡ calls_before old.calls.now → IsTextOf new.calls.now (last_option old.calls.now ∷ s.options) text
more_text text old new s whole calls = (old.calls.now, s.written, whole, calls, refl)

none_of : (said : Option (Bor (List ℕ))) (value : Option (List ℕ)) → as_text said ≡ value → said ≡ None → value ≡ None
none_of said value is none = sym is ∙ ap as_text none

once_more : (options : List IsrOption) (text : List ℕ) (word : List ℕ) → last_word (before_word text) ≡ word → value_of word options ≡ None → AreOnce options
    → AreOnce (last_option text ∷ options)
once_more options text word is none once = (ap (λ (n : List ℕ). value_of n options) is ∙ none, once)

pub says_times : (text : List ℕ) (old new : Said) → SaysIsr text old → IsWhole (calls_before old.calls.now) true → last_word (before_word old.calls.now) ≡ codes "times"
    → new.calls.now ≡ calls_before old.calls.now → old.times ≡ None → as_text new.times ≡ Some (last_word old.calls.now) → new.after ≡ old.after → new.apart ≡ old.apart → SaysIsr text new
says_times text old new s whole name calls none value after apart =
    let n = last_word (before_word old.calls.now) in
    let v = last_word old.calls.now in
    record {
      options = last_option old.calls.now ∷ s.options;
      written = more_text text old new s whole calls;
      once = once_more s.options old.calls.now (codes "times") name (none_of old.times _ s.times none) s.once;
      times = value ∙ sym (value_here n v s.options (codes "times") name refl);
      after = ap as_text after ∙ s.after ∙ sym (value_else n v s.options (codes "times") (codes "after") name refl);
      apart = ap as_text apart ∙ s.apart ∙ sym (value_else n v s.options (codes "times") (codes "apart") name refl);
    }

pub says_after : (text : List ℕ) (old new : Said) → SaysIsr text old → IsWhole (calls_before old.calls.now) true → last_word (before_word old.calls.now) ≡ codes "after"
    → new.calls.now ≡ calls_before old.calls.now → old.after ≡ None → as_text new.after ≡ Some (last_word old.calls.now) → new.times ≡ old.times → new.apart ≡ old.apart → SaysIsr text new
says_after text old new s whole name calls none value times apart =
    let n = last_word (before_word old.calls.now) in
    let v = last_word old.calls.now in
    record {
      options = last_option old.calls.now ∷ s.options;
      written = more_text text old new s whole calls;
      once = once_more s.options old.calls.now (codes "after") name (none_of old.after _ s.after none) s.once;
      times = ap as_text times ∙ s.times ∙ sym (value_else n v s.options (codes "after") (codes "times") name refl);
      after = value ∙ sym (value_here n v s.options (codes "after") name refl);
      apart = ap as_text apart ∙ s.apart ∙ sym (value_else n v s.options (codes "after") (codes "apart") name refl);
    }

pub says_apart : (text : List ℕ) (old new : Said) → SaysIsr text old → IsWhole (calls_before old.calls.now) true → last_word (before_word old.calls.now) ≡ codes "apart"
    → new.calls.now ≡ calls_before old.calls.now → old.apart ≡ None → as_text new.apart ≡ Some (last_word old.calls.now) → new.times ≡ old.times → new.after ≡ old.after → SaysIsr text new
says_apart text old new s whole name calls none value times after =
    let n = last_word (before_word old.calls.now) in
    let v = last_word old.calls.now in
    record {
      options = last_option old.calls.now ∷ s.options;
      written = more_text text old new s whole calls;
      once = once_more s.options old.calls.now (codes "apart") name (none_of old.apart _ s.apart none) s.once;
      times = ap as_text times ∙ s.times ∙ sym (value_else n v s.options (codes "apart") (codes "times") name refl);
      after = ap as_text after ∙ s.after ∙ sym (value_else n v s.options (codes "apart") (codes "after") name refl);
      apart = value ∙ sym (value_here n v s.options (codes "apart") name refl);
    }

some_text : (said : Option (Bor (List ℕ))) (value : Option (List ℕ)) → as_text said ≡ value → IsSome said → IsSome value
some_text None value is some = let bad : ⊥ = cc in absurd bad
some_text (Some t) value is some = subst IsSome is (search)

pub says_twice : (text word : List ℕ) (old : Said) (was : Option (Bor (List ℕ))) (why : NoHandler) (option : Bor (List ℕ)) (s : SaysIsr text old)
    → IsWhole (calls_before old.calls.now) true → last_word (before_word old.calls.now) ≡ word → as_text was ≡ value_of word s.options → IsSome was
    → why ≡ Twice option → option.now ≡ codes "--" ++ word → SaysTwice text why
says_twice text word old was why option s whole name is some cause called = record {
  calls = calls_before old.calls.now;
  one = last_option old.calls.now;
  others = s.options;
  written = (old.calls.now, s.written, whole, refl, refl);
  twice = subst (λ (n : List ℕ). IsSome (value_of n s.options)) (sym name) (some_text was (value_of word s.options) is some);
  option = option;
  cause = cause;
  called = called ∙ ap (λ (n : List ℕ). codes "--" ++ n) (sym name);
}
