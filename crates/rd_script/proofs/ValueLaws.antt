-- What the steps of reading answer, and when.
use Rattle.std.proofs.Common.{◌≡◌, ◌∙◌, ℕ, ◌≤◌, ◌&&◌, true, false, not, cond, List, Some, Ok, Err, ok_or, refl, sym, ap, arith, nat_le}
use Rattle.std.proofs.lemmas.Bool.Decides.{nat_tests}
use Rattle.std.specs.List.{list_any}
use Rattle.std.specs.Str.{bytes_eq}
use Rattle.serde_json.specs.Data.{Data, null, boolean, number, string, array, object, unsigned, negative, float, Items}
use Rattle.serde_json.specs.Events.{items_len}
use Rattle.serde_json.specs.Find.{get}
use Rattle.rd_script.specs.declared.error.AppError.TheVariants as fault
use Rattle.rd_text.specs.Words.{is_name}
use Rattle.rd_script.specs.Values.{is_object_with, object_with, field, in_limits, number_in, array_in, new_name}
use Rattle.rd_script.proofs.Steps.{bind_ok, guard_ok, ok_or_ok, then_is}
use Rattle.rd_text.proofs.Offered.{and_left, and_right, not_true}

pub object_ok : (known : List (List ℕ)) (d : Data) (u : Unit {0}) → object_with known d ≡ Ok u → is_object_with known d ≡ true
object_ok known d u e = (guard_ok (is_object_with known d) tt u _ e).0

pub field_ok : (key : List ℕ) (d x : Data) → field key d ≡ Ok x → get key d ≡ Some x
field_ok key d x e = ok_or_ok (get key d) x _ e

pub limits_ok : (least most n m : ℕ) → in_limits least most n ≡ Ok m → (n ≡ m) × (least ≤ m) × (m ≤ most)
limits_ok least most n m e =
    let g = guard_ok (nat_le least n && nat_le n most) n m _ e in
    let low : nat_le least n ≡ true = and_left _ _ g.0 in
    let high : nat_le n most ≡ true = and_right (nat_le least n) _ g.0 in
    (g.1, grind (arith, nat_tests), grind (arith, nat_tests))

pub limits_again : (least most n : ℕ) → least ≤ n → n ≤ most → in_limits least most n ≡ Ok n
limits_again least most n low high = grind (arith, nat_tests)

pub number_ok : (least most : ℕ) (d : Data) (n : ℕ) → number_in least most d ≡ Ok n → (d ≡ number (unsigned n)) × (least ≤ n) × (n ≤ most)
number_ok least most null n e = absurd cc
number_ok least most (boolean b) n e = absurd cc
number_ok least most (number (unsigned m)) n e = let l = limits_ok least most m n e in (ap (λ (k : ℕ). number (unsigned k)) l.0, l.1, l.2)
number_ok least most (number (negative z)) n e = absurd cc
number_ok least most (number (float x)) n e = absurd cc
number_ok least most (string s) n e = absurd cc
number_ok least most (array ds) n e = absurd cc
number_ok least most (object ms) n e = absurd cc

pub array_ok : (least most : ℕ) (d : Data) (ds : Items) → array_in least most d ≡ Ok ds → (d ≡ array ds) × (least ≤ items_len ds) × (items_len ds ≤ most)
array_ok least most null ds e = absurd cc
array_ok least most (boolean b) ds e = absurd cc
array_ok least most (number n) ds e = absurd cc
array_ok least most (string s) ds e = absurd cc
array_ok least most (array es) ds e =
    let a = bind_ok (in_limits least most (items_len es)) _ ds e in
    let l = limits_ok least most (items_len es) a.0 a.1 in
    let is : es ≡ ds = cc in
    (ap array is, omega (arith, ap items_len is), omega (arith, ap items_len is))
array_ok least most (object ms) ds e = absurd cc

pub name_ok : (names : List (List ℕ)) (d : Data) (name : List ℕ) → new_name names d ≡ Ok name
    → (d ≡ string name) × (is_name name ≡ true) × (list_any (bytes_eq name) names ≡ false)
name_ok names null name e = absurd cc
name_ok names (boolean b) name e = absurd cc
name_ok names (number n) name e = absurd cc
name_ok names (string s) name e =
    let g = guard_ok (is_name s && not (list_any (bytes_eq s) names)) s name _ e in
    let named = and_left _ _ g.0 in
    let fresh = not_true (list_any (bytes_eq s) names) (and_right (is_name s) _ g.0) in
    (ap string g.1, ap is_name (sym g.1) ∙ named, ap (λ (t : List ℕ). list_any (bytes_eq t) names) (sym g.1) ∙ fresh)
name_ok names (array ds) name e = absurd cc
name_ok names (object ms) name e = absurd cc

-- ---- and again

pub object_again : (known : List (List ℕ)) (d : Data) → is_object_with known d ≡ true → object_with known d ≡ Ok tt
object_again known d e = ap (λ b. cond b (Ok tt) (Err fault.Shape)) e

pub field_again : (key : List ℕ) (d x : Data) → get key d ≡ Some x → field key d ≡ Ok x
field_again key d x e = ap (λ o. ok_or o fault.Shape) e

pub number_again : (least most : ℕ) (d : Data) (n : ℕ) → d ≡ number (unsigned n) → least ≤ n → n ≤ most → number_in least most d ≡ Ok n
number_again least most d n e low high = ap (number_in least most) e ∙ limits_again least most n low high

pub array_again : (least most : ℕ) (d : Data) (ds : Items) → d ≡ array ds → least ≤ items_len ds → items_len ds ≤ most → array_in least most d ≡ Ok ds
array_again least most d ds e low high =
    ap (array_in least most) e ∙ then_is (in_limits least most (items_len ds)) _ (items_len ds) _ (limits_again least most (items_len ds) low high) refl

pub name_again : (names : List (List ℕ)) (d : Data) (name : List ℕ) → d ≡ string name → is_name name ≡ true → list_any (bytes_eq name) names ≡ false
    → new_name names d ≡ Ok name
name_again names d name e named fresh =
    ap (new_name names) e ∙ ap (λ b. cond (b && not (list_any (bytes_eq name) names)) (Ok name) (Err fault.Name)) named
    ∙ ap (λ b. cond (true && not b) (Ok name) (Err fault.Name)) fresh
