-- A queue set that is read is spelled by its value, and what spells a queue set is read.
use Rattle.std.proofs.Common.{◌≡◌, ◌∙◌, ℕ, ◌<◌, ◌≤◌, ◌||◌, Bool, true, false, cond, codes, nat_eq, List, [], ◌∷◌, ◌++◌, length, map, append_assoc}
use Rattle.std.proofs.Common.{Option, Some, Ok, Err, ok_or, position, refl, length-append, sym, ap, subst, arith}
use Rattle.std.specs.Cmp.{nat_eq_equiv}
use Rattle.std.specs.List.{AllByRecursion, IsDistinct, concat, list_any}
use Rattle.std.specs.Str.{bytes_eq}
use Rattle.std.proofs.lemmas.Bool.Decides.{nat_tests}
use Rattle.std.proofs.lemmas.List.{append-nil, map-append}
use Rattle.std.proofs.lemmas.List.Elements.{All-from_recursion, recursion_from_All}
use Rattle.std.proofs.lemmas.List.Folds.{concat-append, list_any-append}
use Rattle.std.proofs.lemmas.Map.Keys.{IsDistinct-push}
use Rattle.std.proofs.lemmas.Map.Steps.{length-le_from_distinct_below}
use Rattle.serde_json.specs.Data.{Data, null, boolean, number, unsigned, string, array, object, Items, no_items, item}
use Rattle.serde_json.specs.Find.{get, as_array, as_str}
use Rattle.rd_app.specs.Objects.{IsQueueSetShape, members_of}
use Rattle.rd_script.specs.Named.{NamedObjects, shapes_of}
use Rattle.rd_script.specs.Values.{is_object_with, object_with, field, number_in, new_name}
use Rattle.rd_script.specs.Objects.{IsMember, AreMembers, SaysQueueSet, queue_set_keys, member_of, members_after, queue_set_of}
use Rattle.rd_script.specs.Named.{Named}
use Rattle.rd_app.specs.QueueSetShapeView.{QueueSetShapeView}
use Rattle.rd_script.specs.declared.error.AppError.TheVariants as fault
use Rattle.rd_script.specs.Spelling.{index_of}
use Rattle.rd_script.proofs.NamedLaws.{AllByRecursion-push, AllByRecursion-last, AllByRecursion-first}
use Rattle.rd_script.proofs.ScriptLaws.{text_is}
use Rattle.rd_script.proofs.SpellingLaws.{then_some, named_ok, index_again, index_there}
use Rattle.rd_script.proofs.Steps.{bind_ok, ok_or_ok, then_is}
use Rattle.rd_script.proofs.ValueLaws.{object_again, field_again, name_again, limits_again, object_ok, field_ok, number_ok, name_ok}
use Rattle.rd_text.specs.Words.{name_of}
use Rattle.rd_text.proofs.Offered.{IsNewName}

-- ---- distinct members

AllByRecursion-at : {X : Type 0} (P : X → Type 0) (xs : List X) (x : X) (ys : List X) → AllByRecursion P (xs ++ x ∷ ys) → P x
AllByRecursion-at P [] x ys h = h.0
AllByRecursion-at P (y ∷ xs) x ys h = AllByRecursion-at P xs x ys h.1

-- a member that stands after others, all of them distinct, is none of them
fresh_where_distinct : (xs : List ℕ) (x : ℕ) (ys : List ℕ) → IsDistinct nat_eq (xs ++ x ∷ ys) → list_any (nat_eq x) xs ≡ false
unfolding IsDistinct
fresh_where_distinct [] x ys h = refl
fresh_where_distinct (y ∷ xs) x ys h =
    let differs = AllByRecursion-at (λ other. nat_eq y other ≡ false) xs x ys h.0 in
    rw (nat_eq_equiv.symm x y ∙ differs) (fresh_where_distinct xs x ys h.1)

distinct_first : (xs ys : List ℕ) → IsDistinct nat_eq (xs ++ ys) → IsDistinct nat_eq xs
unfolding IsDistinct
distinct_first [] ys h = tt
distinct_first (x ∷ xs) ys h = (AllByRecursion-first (λ other. nat_eq x other ≡ false) xs ys h.0, distinct_first xs ys h.1)

pub no_members : IsDistinct nat_eq []
unfolding IsDistinct
no_members = tt

pub members_of-append : (queue_sets others : List QueueSetShapeView) → members_of (queue_sets ++ others) ≡ members_of queue_sets ++ members_of others
members_of-append queue_sets others =
    ap concat (map-append (λ (queue_set : QueueSetShapeView). queue_set.members) queue_sets others)
    ∙ concat-append (map (λ (queue_set : QueueSetShapeView). queue_set.members) queue_sets) (map (λ (queue_set : QueueSetShapeView). queue_set.members) others)

pub members_of-push : (queue_sets : List QueueSetShapeView) (queue_set : QueueSetShapeView) → members_of (queue_sets ++ queue_set ∷ []) ≡ members_of queue_sets ++ queue_set.members
members_of-push queue_sets queue_set = members_of-append queue_sets (queue_set ∷ []) ∙ ap (λ (ms : List ℕ). members_of queue_sets ++ ms) (append-nil queue_set.members)

-- ---- the members of a set

-- a test that chose no fault
not_taken : (b : Bool) (x y : ℕ) → cond b (Err fault.Name) (Ok x) ≡ Ok y → (b ≡ false) × (x ≡ y)
not_taken true x y e = absurd cc
not_taken false x y e = (refl, cc)

member_takes : (queues : List (List ℕ)) (others : List ℕ) (d : Data) (queue : ℕ) → member_of queues others d ≡ Ok queue
    → IsMember queues d queue × (list_any (nat_eq queue) others ≡ false)
member_takes queues others d queue e =
    let text = bind_ok (ok_or (as_str d) _) _ queue e in
    let name = bind_ok (ok_or (name_of text.0) _) _ queue text.2 in
    let found = bind_ok (index_of queues name.0) _ queue name.2 in
    let new = not_taken (list_any (nat_eq found.0) others) found.0 queue found.2 in
    let named = named_ok queues text.0 name.0 found.0 (ok_or_ok (name_of text.0) name.0 _ name.1) found.1 in
    subst (λ (q : ℕ). IsMember queues d q × (list_any (nat_eq q) others ≡ false)) new.1
    ((text.0, text_is d text.0 (ok_or_ok (as_str d) text.0 _ text.1), named), new.0)

member_again : (queues : List (List ℕ)) (others : List ℕ) (d : Data) (queue : ℕ) → IsMember queues d queue → list_any (nat_eq queue) others ≡ false
    → member_of queues others d ≡ Ok queue
member_again queues others d queue h new =
    let name = then_some (λ name. position (bytes_eq name) queues) (name_of h.0) queue h.2 in
    ap (member_of queues others) h.1
    ∙ then_is (ok_or (name_of h.0) fault.Name) _ name.0 _ (ap (λ (o : Option (List ℕ)). ok_or o fault.Name) name.1)
    (then_is (index_of queues name.0) _ queue _ (index_again queues name.0 queue name.2) (ap (λ b. cond b (Err fault.Name) (Ok queue)) new))

-- what an array adds to the members of a set
record AddsMembers (queues : List (List ℕ)) (others members : List ℕ) (ds : Items) (made : List ℕ) : Type 0 where
  more : List ℕ
  made_are : made ≡ members ++ more
  said : AreMembers queues ds more
  there : AllByRecursion (λ queue. queue < length queues) more
  once : IsDistinct nat_eq (others ++ made)

members_take : (queues : List (List ℕ)) (others members : List ℕ) (ds : Items) (made : List ℕ) → members_after queues others members ds ≡ Ok made
    → IsDistinct nat_eq (others ++ members) → AddsMembers queues others members ds made
members_take queues others members no_items made e once =
    let is : members ≡ made = cc in
    record {
      more = [];
      made_are = sym is ∙ sym (append-nil members);
      said = tt;
      there = tt;
      once = subst (λ (ms : List ℕ). IsDistinct nat_eq (others ++ ms)) is once;
    }
members_take queues others members (item d ds) made e once =
    let first = bind_ok (member_of queues (others ++ members) d) _ made e in
    let taken = member_takes queues (others ++ members) d first.0 first.1 in
    let more = IsDistinct-push nat_eq_equiv (others ++ members) first.0 once taken.1 in
    let pushed = subst (IsDistinct nat_eq) (append_assoc others members (first.0 ∷ [])) more in
    let rest = members_take queues others (members ++ first.0 ∷ []) ds made first.2 pushed in
    record {
      more = first.0 ∷ rest.more;
      made_are = rest.made_are ∙ append_assoc members (first.0 ∷ []) rest.more;
      said = (taken.0, rest.said);
      there = (index_there queues taken.0.0 first.0 taken.0.2, rest.there);
      once = rest.once;
    }

members_again : (queues : List (List ℕ)) (others members : List ℕ) (ds : Items) (more : List ℕ) → AreMembers queues ds more
    → IsDistinct nat_eq (others ++ (members ++ more)) → members_after queues others members ds ≡ Ok (members ++ more)
members_again queues others members no_items [] h once = ap Ok (sym (append-nil members))
members_again queues others members no_items (queue ∷ more) h once = absurd h
members_again queues others members (item d ds) [] h once = absurd h
members_again queues others members (item d ds) (queue ∷ more) h once =
    let new = fresh_where_distinct (others ++ members) queue more (subst (IsDistinct nat_eq) (sym (append_assoc others members (queue ∷ more))) once) in
    let same = append_assoc members (queue ∷ []) more in
    then_is (member_of queues (others ++ members) d) _ queue _ (member_again queues (others ++ members) d queue h.0 new)
    (members_again queues others (members ++ queue ∷ []) ds more h.1 (subst (λ (ms : List ℕ). IsDistinct nat_eq (others ++ ms)) (sym same) once) ∙ ap Ok same)

-- ---- queue sets

-- a set of so many queues
pub record IsQueueSetOf (queues : ℕ) (queue_set : QueueSetShapeView) : Type 0 where
  pub some : 1 ≤ queue_set.capacity
  pub few : queue_set.capacity ≤ 2048
  pub members : AllByRecursion (λ queue. queue < queues) queue_set.members

-- sets of so many queues, each a member at most once
pub record AreQueueSetsOf (queues : ℕ) (queue_sets : List QueueSetShapeView) : Type 0 where
  pub shapes : AllByRecursion (IsQueueSetOf queues) queue_sets
  pub one_each : IsDistinct nat_eq (members_of queue_sets)

pub no_queue_sets : (queues : ℕ) → AreQueueSetsOf queues []
no_queue_sets queues = record { shapes = tt; one_each = no_members }

pub queue_sets_first : (queues : ℕ) (queue_sets others : List QueueSetShapeView) → AreQueueSetsOf queues (queue_sets ++ others) → AreQueueSetsOf queues queue_sets
queue_sets_first queues queue_sets others all = record {
  shapes = AllByRecursion-first (IsQueueSetOf queues) queue_sets others all.shapes;
  one_each = distinct_first (members_of queue_sets) (members_of others) (subst (IsDistinct nat_eq) (members_of-append queue_sets others) all.one_each);
}

array_is : (d : Data) (ds : Items) → as_array d ≡ Some ds → d ≡ array ds
array_is null ds e = absurd cc
array_is (boolean b) ds e = absurd cc
array_is (number n) ds e = absurd cc
array_is (string s) ds e = absurd cc
array_is (array es) ds e = let is : es ≡ ds = cc in ap array is
array_is (object ms) ds e = absurd cc

-- the set was read so
record IsQueueSetRead (queues names : List (List ℕ)) (queue_sets : List QueueSetShapeView) (d text length_value members_value : Data) (texts : Items)
    (name : List ℕ) (queue_set : QueueSetShapeView) : Type 0 where
  keys : is_object_with queue_set_keys d ≡ true
  name_at : get (codes "name") d ≡ Some text
  length_at : get (codes "length") d ≡ Some length_value
  members_at : get (codes "members") d ≡ Some members_value
  named : new_name names text ≡ Ok name
  capacity : number_in 1 2048 length_value ≡ Ok queue_set.capacity
  texts_are : as_array members_value ≡ Some texts
  members : members_after queues (members_of queue_sets) [] texts ≡ Ok queue_set.members

read_takes : (queues names : List (List ℕ)) (queue_sets : List QueueSetShapeView) (d text length_value members_value : Data) (texts : Items) (name : List ℕ)
    (queue_set : QueueSetShapeView) → IsQueueSetRead queues names queue_sets d text length_value members_value texts name queue_set → AreQueueSetsOf (length queues) queue_sets
    → SaysQueueSet queues d name queue_set × IsNewName names name × AreQueueSetsOf (length queues) (queue_sets ++ queue_set ∷ [])
read_takes queues names queue_sets d text length_value members_value texts name queue_set read are_sets =
    let named = name_ok names text name read.named in
    let capacity = number_ok 1 2048 length_value queue_set.capacity read.capacity in
    let before : IsDistinct nat_eq (members_of queue_sets ++ []) = subst (IsDistinct nat_eq) (sym (append-nil (members_of queue_sets))) are_sets.one_each in
    let adds = members_take queues (members_of queue_sets) [] texts queue_set.members read.members before in
    let of_queues : IsQueueSetOf (length queues) queue_set = record {
      some = capacity.1;
      few = capacity.2;
      members = subst (AllByRecursion (λ queue. queue < length queues)) (sym adds.made_are) adds.there;
    } in (
      (
        texts,
        record {
          keys = read.keys;
          name_at = read.name_at ∙ ap Some named.0;
          length_at = read.length_at ∙ ap Some capacity.0;
          members_at = read.members_at ∙ ap Some (array_is members_value texts read.texts_are);
          members = subst (AreMembers queues texts) (sym adds.made_are) adds.said;
        },
      ),
      record { named = named.1; fresh = named.2 },
      record {
        shapes = AllByRecursion-push (IsQueueSetOf (length queues)) queue_sets queue_set are_sets.shapes of_queues;
        one_each = subst (IsDistinct nat_eq) (sym (members_of-push queue_sets queue_set)) adds.once;
      },
    )

pub queue_set_takes : (queues : List (List ℕ)) (before : Named QueueSetShapeView) (d : Data) (t : List ℕ × QueueSetShapeView) → queue_set_of queues before d ≡ Ok t
    → AreQueueSetsOf (length queues) before.things
    → SaysQueueSet queues d t.0 t.1 × IsNewName before.names t.0 × AreQueueSetsOf (length queues) (before.things ++ t.1 ∷ [])
unfolding queue_set_of
queue_set_takes queues before d t e are_sets =
    let names = before.names in
    let queue_sets = before.things in
    let keys = bind_ok (object_with queue_set_keys d) _ t e in
    let text = bind_ok (field (codes "name") d) _ t keys.2 in
    let length_value = bind_ok (field (codes "length") d) _ t text.2 in
    let members_value = bind_ok (field (codes "members") d) _ t length_value.2 in
    let name = bind_ok (new_name names text.0) _ t members_value.2 in
    let capacity = bind_ok (number_in 1 2048 length_value.0) _ t name.2 in
    let texts = bind_ok (ok_or (as_array members_value.0) _) _ t capacity.2 in
    let members = bind_ok (members_after queues (members_of queue_sets) [] texts.0) _ t texts.2 in
    let is : (name.0, record { capacity = capacity.0; members = members.0 }) ≡ t = cc in
    let queue_set_is : record { capacity = capacity.0; members = members.0 } ≡ t.1 = ap (λ (t : List ℕ × QueueSetShapeView). t.1) is in
    read_takes queues names queue_sets d text.0 length_value.0 members_value.0 texts.0 t.0 t.1 (record {
      keys = object_ok queue_set_keys d keys.0 keys.1;
      name_at = field_ok (codes "name") d text.0 text.1;
      length_at = field_ok (codes "length") d length_value.0 length_value.1;
      members_at = field_ok (codes "members") d members_value.0 members_value.1;
      named = name.1 ∙ ap (λ (t : List ℕ × QueueSetShapeView). Ok t.0) is;
      capacity = capacity.1 ∙ ap (λ (queue_set : QueueSetShapeView). Ok queue_set.capacity) queue_set_is;
      texts_are = ok_or_ok (as_array members_value.0) texts.0 _ texts.1;
      members = members.1 ∙ ap (λ (queue_set : QueueSetShapeView). Ok queue_set.members) queue_set_is;
    }) are_sets

pub queue_set_again : (queues : List (List ℕ)) (before : Named QueueSetShapeView) (d : Data) (name : List ℕ) (queue_set : QueueSetShapeView) → SaysQueueSet queues d name queue_set
    → IsNewName before.names name → AreQueueSetsOf (length queues) (before.things ++ queue_set ∷ []) → queue_set_of queues before d ≡ Ok (name, queue_set)
unfolding queue_set_of
queue_set_again queues before d name queue_set h new all =
    let names = before.names in
    let queue_sets = before.things in
    let said = h.1 in
    let limits = AllByRecursion-last (IsQueueSetOf (length queues)) queue_sets queue_set all.shapes in
    let once = subst (IsDistinct nat_eq) (members_of-push queue_sets queue_set) all.one_each in
    then_is (object_with queue_set_keys d) _ tt _ (object_again queue_set_keys d said.keys)
    (then_is (field (codes "name") d) _ (string name) _ (field_again (codes "name") d _ said.name_at)
    (then_is (field (codes "length") d) _ (number (unsigned queue_set.capacity)) _ (field_again (codes "length") d _ said.length_at)
    (then_is (field (codes "members") d) _ (array h.0) _ (field_again (codes "members") d _ said.members_at)
    (then_is (new_name names (string name)) _ name _ (name_again names (string name) name refl new.named new.fresh)
    (then_is (number_in 1 2048 (number (unsigned queue_set.capacity))) _ queue_set.capacity _ (limits_again 1 2048 queue_set.capacity limits.some limits.few)
    (then_is (members_after queues (members_of queue_sets) [] h.0) _ queue_set.members _ (members_again queues (members_of queue_sets) [] h.0 queue_set.members said.members once)
    refl))))))

-- ---- the sets among objects

pub queue_sets_in_limits : (o : NamedObjects) (queues : ℕ) (queue_sets : List QueueSetShapeView) → length o.queues.things ≡ queues → AllByRecursion (IsQueueSetOf queues) queue_sets
    → AllByRecursion (IsQueueSetShape (shapes_of o)) queue_sets
queue_sets_in_limits o queues [] same all = tt
queue_sets_in_limits o queues (queue_set ∷ queue_sets) same all =
    let there = subst (λ (n : ℕ). AllByRecursion (λ queue. queue < n) queue_set.members) (sym same) all.0.members in
    let shape : IsQueueSetShape (shapes_of o) queue_set = record {
      some = omega (arith, all.0.some);
      few = all.0.few;
      members = All-from_recursion (λ queue. queue < length o.queues.things) queue_set.members there;
    } in
    (shape, queue_sets_in_limits o queues queue_sets same all.1)

pub queue_sets_of_limits : (o : NamedObjects) (queues : ℕ) (queue_sets : List QueueSetShapeView) → length o.queues.things ≡ queues → AllByRecursion (IsQueueSetShape (shapes_of o)) queue_sets
    → AllByRecursion (IsQueueSetOf queues) queue_sets
queue_sets_of_limits o queues [] same all = tt
queue_sets_of_limits o queues (queue_set ∷ queue_sets) same all =
    let there = recursion_from_All (λ queue. queue < length o.queues.things) queue_set.members all.0.members in
    let of_queues : IsQueueSetOf queues queue_set = record {
      some = omega (arith, all.0.some);
      few = all.0.few;
      members = subst (λ (n : ℕ). AllByRecursion (λ queue. queue < n) queue_set.members) same there;
    } in
    (of_queues, queue_sets_of_limits o queues queue_sets same all.1)

-- ---- how the code reads members

is_member_of : (queue_sets : List QueueSetShapeView) (queue : ℕ)
    → list_any (λ queue_set. list_any (nat_eq queue) queue_set.members) queue_sets ≡ list_any (nat_eq queue) (members_of queue_sets)
is_member_of [] queue = refl
is_member_of (queue_set ∷ queue_sets) queue =
    ap (λ b. list_any (nat_eq queue) queue_set.members || b) (is_member_of queue_sets queue) ∙ sym (list_any-append (nat_eq queue) queue_set.members (members_of queue_sets))

-- a member of one of these sets, or one of these members
pub taken_is : (queue_sets : List QueueSetShapeView) (members : List ℕ) (queue : ℕ)
    → list_any (nat_eq queue) (members_of queue_sets ++ members) ≡ (list_any (λ queue_set. list_any (nat_eq queue) queue_set.members) queue_sets || list_any (nat_eq queue) members)
taken_is queue_sets members queue =
    list_any-append (nat_eq queue) (members_of queue_sets) members ∙ ap (λ b. b || list_any (nat_eq queue) members) (sym (is_member_of queue_sets queue))

-- distinct numbers of so many queues
pub record AreDistinctQueues (queues : ℕ) (members : List ℕ) : Type 0 where
  pub there : AllByRecursion (λ queue. queue < queues) members
  pub once : IsDistinct nat_eq members

pub none_yet : (queues : ℕ) → AreDistinctQueues queues []
none_yet queues = record { there = tt; once = no_members }

is_below : (members : List ℕ) (queues queue : ℕ) → AllByRecursion (λ queue. queue < queues) members → list_any (nat_eq queue) members ≡ true → queue < queues
is_below [] queues queue all has = absurd cc
is_below (member ∷ members) queues queue all has =
    elim (nat_eq queue member) as (λ b. (nat_eq queue member ≡ b) → (b || list_any (nat_eq queue) members) ≡ true → queue < queues) [
      | true ↦ λ same. λ any. let is : queue ≡ member = grind (arith, nat_tests) in omega (arith, is, all.0)
      | false ↦ λ differs. is_below members queues queue all.1
    ] refl has

neither : (a b : Bool) → (a || b) ≡ false → (a ≡ false) × (b ≡ false)
neither true b e = absurd cc
neither false b e = (refl, e)

-- one more member is another of the queues, so that there is room for it
pub once_push : (queues : List (List ℕ)) (others members : List ℕ) (d : Data) (queue : ℕ) → member_of queues (others ++ members) d ≡ Ok queue
    → AreDistinctQueues (length queues) members → AreDistinctQueues (length queues) (members ++ queue ∷ []) × (length members < length queues)
once_push queues others members d queue e placed =
    let taken = member_takes queues (others ++ members) d queue e in
    let there = index_there queues taken.0.0 queue taken.0.2 in
    let all = AllByRecursion-push (λ queue. queue < length queues) members queue placed.there there in
    let new = (neither (list_any (nat_eq queue) others) (list_any (nat_eq queue) members)
    (sym (list_any-append (nat_eq queue) others members) ∙ taken.1)).1 in
    let once = IsDistinct-push nat_eq_equiv members queue placed.once new in
    let more = members ++ queue ∷ [] in
    let few = length-le_from_distinct_below more (length queues) once (λ q has. is_below more (length queues) q all has) in
    (record { there = all; once = once }, omega (arith, few, length-append members (queue ∷ [])))
