-- Values, keys and names, in the words of the collections that hold them.
use Rattle.std.proofs.Common.{◌≡◌, ℕ, ◌+◌, ◌<◌, ◌&&◌, Bool, List, [], ◌∷◌, length, map, get_or, drop, refl, ap}
use Rattle.std.proofs.Common.{string_bytes, String, Global, add-one, drop-cons}
use Rattle.serde_json.specs.Data.{item}
use Rattle.std.specs.List.{list_all}
use Rattle.serde_json.specs.View.{view, items_view, members_view}
use Rattle.serde_json.specs.declared.value.Value.{Value}
use Rattle.serde_json.specs.Events.{items_len}
use Rattle.serde_json.proofs.Views.{items_len-items_view}
use Rattle.rd_script.specs.Values.{keys_of}

-- the keys of a map, all tested
pub keys_all : (p : List ℕ → Bool) (es : List (String Global × Value))
    → list_all p (keys_of (members_view es)) ≡ list_all (λ key. p (string_bytes key)) (map (λ e. e.0) es)
keys_all p [] = refl
keys_all p (e ∷ es) = ap (λ b. p (string_bytes e.0) && b) (keys_all p es)

pub items_count : (vs : List Value) → items_len (items_view vs) ≡ length vs
items_count vs = items_len-items_view vs

-- the values from an index on
pub items_from : (vs : List Value) (i : ℕ) (v : Value) → i < length vs → v ≡ get_or vs i v
    → items_view (drop i vs) ≡ item (view v) (items_view (drop (i + 1) vs))
items_from vs i v lt is = rw (drop-cons vs i v, ← is, add-one i) refl
