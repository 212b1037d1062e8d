-- The values of a file: what stands there, or the first fault that is met, and which values say
-- that.
use Rattle.std.specs.Prelude.{ℕ, ◌≡◌, ◌&&◌, Bool, false, not, List, [], ◌∷◌, ◌++◌, nat_le}
use Rattle.std.specs.Prelude.{if◌then◌else◌, Option, Some, None, option_map, option_and_then}
use Rattle.std.specs.Prelude.{unwrap_or}
use Rattle.std.specs.Prelude.{Result, Ok, Err, ok_or, ⊤}
use Rattle.std.specs.List.{list_all, list_any}
use Rattle.std.specs.Str.{bytes_eq}
use Rattle.serde_json.specs.Data.{Data, number, unsigned, array, Items, no_items, item, Members}
use Rattle.serde_json.specs.Data.{no_members, member}
use Rattle.serde_json.specs.Events.{items_len}
use Rattle.serde_json.specs.Find.{get, as_number, as_u64, as_str, as_array, as_object}
use Rattle.rd_script.specs.Named.{Named}
use Rattle.rd_script.specs.declared.error.AppError.{AppError}
use Rattle.rd_script.specs.declared.error.AppError.TheVariants as fault
use Rattle.rd_script.specs.Spelling.{◌>>=◌}
use Rattle.rd_text.specs.Words.{is_name}

abbrev pub keys_of : Members → List (List ℕ)
keys_of no_members = []
keys_of (member key d ms) = key ∷ keys_of ms

abbrev pub has_only : List (List ℕ) → Members → Bool
has_only known ms = list_all (λ key. list_any (bytes_eq key) known) (keys_of ms)

-- is it an object with no other keys than these?
abbrev pub is_object_with : List (List ℕ) → Data → Bool
is_object_with known d = unwrap_or (option_map (has_only known) (as_object d)) false

abbrev pub object_with : List (List ℕ) → Data → Result ⊤ AppError
object_with known d = if is_object_with known d then Ok tt else Err fault.Shape

-- what stands at a key
abbrev pub field : List ℕ → Data → Result Data AppError
field key d = ok_or (get key d) fault.Shape

abbrev pub in_limits : ℕ → ℕ → ℕ → Result ℕ AppError
in_limits least most n = if nat_le least n && nat_le n most then Ok n else Err fault.Limit

abbrev pub number_in : ℕ → ℕ → Data → Result ℕ AppError
number_in least most d = do
  n ← ok_or (option_and_then as_u64 (as_number d)) fault.Shape
  in_limits least most n

-- the same of a key that may be left out
abbrev pub number_or : ℕ → ℕ → ℕ → Option Data → Result ℕ AppError
number_or otherwise least most None = Ok otherwise
number_or otherwise least most (Some d) = number_in least most d

abbrev pub array_in : ℕ → ℕ → Data → Result Items AppError
array_in least most d = do
  ds ← ok_or (as_array d) fault.Shape
  _ ← in_limits least most (items_len ds)
  Ok ds

abbrev pub array_or_empty : ℕ → Option Data → Result Items AppError
array_or_empty most None = Ok no_items
array_or_empty most (Some d) = array_in 0 most d

-- a name that is none of those before it
abbrev pub new_name : List (List ℕ) → Data → Result (List ℕ) AppError
new_name names d = do
  name ← ok_or (as_str d) fault.Shape
  if is_name name && not (list_any (bytes_eq name) names) then Ok name else Err fault.Name

-- ---- arrays of named things

abbrev pub nothing_named : {X : Type 0} → Named X
nothing_named = record { names = []; things = [] }

-- one more thing of that name
abbrev pub with_named : {X : Type 0} → Named X → List ℕ → X → Named X
with_named before name thing = record {
  names = before.names ++ name ∷ [];
  things = before.things ++ thing ∷ [];
}

-- those before, and those of the array, each read over those before it
abbrev pub named_after : {X : Type 0} → (Named X → Data → Result (List ℕ × X) AppError)
    → Named X → Items
    → Result (Named X) AppError
named_after read before no_items = Ok before
named_after read before (item d ds) = do
  thing ← read before d
  named_after read (with_named before thing.0 thing.1) ds

-- what the array at a key names, each read over those before it
abbrev pub named_at : {X : Type 0} → (Named X → Data → Result (List ℕ × X) AppError) → ℕ → List ℕ
    → Data
    → Result (Named X) AppError
named_at read most key d = do
  ds ← array_or_empty most (get key d)
  named_after read nothing_named ds

-- ---- what values say, whatever the order in which they are read

-- what stands at a key, or what it means to leave the key out
abbrev pub IsNumberOr : ℕ → Option Data → ℕ → Type 0
IsNumberOr otherwise None n = n ≡ otherwise
IsNumberOr otherwise (Some d) n = d ≡ number (unsigned n)

abbrev pub IsArrayOrEmpty : Option Data → Items → Type 0
IsArrayOrEmpty None ds = ds ≡ no_items
IsArrayOrEmpty (Some d) ds = d ≡ array ds

-- The values of an array say these things of these names, one after another.
abbrev pub SayEach : {X : Type 0} → (Data → List ℕ → X → Type 0) → Items → List (List ℕ) → List X
    → Type 0
SayEach Is no_items [] [] = Unit {0}
SayEach Is (item d ds) (name ∷ names) (thing ∷ things) =
    Is d name thing × SayEach Is ds names things
SayEach Is _ _ _ = ⊥

abbrev pub SayEachNamed : {X : Type 0} → (Data → List ℕ → X → Type 0) → Items → Named X → Type 0
SayEachNamed Is ds named = SayEach Is ds named.names named.things

-- The array at a key says these things of these names.
abbrev pub SaysNamed : {X : Type 0} → (Data → List ℕ → X → Type 0) → List ℕ → Data → Named X
    → Type 0
SaysNamed Is key d named = (ds : Items) × IsArrayOrEmpty (get key d) ds × SayEachNamed Is ds named

-- ---- what the code gives

-- What was returned, seen by view, is what reading gives.
abbrev pub Gives : {X Y : Type 0} → (X → Y) → Result X AppError → Result Y AppError → Type 0
Gives view (Ok x) read = read ≡ Ok (view x)
Gives view (Err e) read = read ≡ Err e
