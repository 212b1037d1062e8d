-- An edit writes what it says at its spot, and nothing elsewhere.
use Rattle.std.proofs.Common.{◌∙◌, ◌∷◌, ◌≡◌, ◌≢◌, List, [], ap, arith, get_or, inl, inr, length, refl, set, sym, ℕ}
use Rattle.std.specs.Prelude.{nat_eq, nat_le, nat_lt}
use Rattle.std.proofs.lemmas.Bool.{cases_eq, cases_lt}
use Rattle.std.proofs.lemmas.List.{get_or-set_other, get_or-set_same, set_past}
use Rattle.std.proofs.lemmas.List.Elements.{All-get_or}
use Rattle.rd_group.specs.GroupSnapshot.{GroupSnapshot}
use Rattle.rd_group.specs.Groups.{with_bits}
use Rattle.rd_notify.specs.Entries.{idle_entry}
use Rattle.rd_notify.specs.declared.entries.Entry.{Entry}
use Rattle.rd_queue.specs.QueueSnapshot.{QueueSnapshot}
use Rattle.rd_queue.specs.Queues.{with_items}
use Rattle.rd_stream.specs.StreamSnapshot.{StreamSnapshot}
use Rattle.rd_stream.specs.Streams.{with_stream_bytes}
use Rattle.rd_state.specs.Objects.{no_group, no_queue, no_stream}
use Rattle.rd_state.specs.Sizes.{IsSizedTask}
use Rattle.rd_state.specs.Snapshot.{Snapshot, TaskSnapshot, group_at, items_at, no_task, queue_at, stream_at, task_at, with_task}
use Rattle.rd_kernel.specs.Tasks.{entry_at}
use Rattle.rd_kernel.proofs.Offered.{EachStays-task, both, task_now}
use Rattle.rd_moves.specs.declared.edit.Edit.TheVariants.{Register, Data, Pc, Value, Bits, Item, Byte}
use Rattle.rd_edits.specs.EditLaws.{EditsWriteOneSpot, OfBits, OfByte, OfData, OfItem, OfPc, OfRegister, OfValue, EditSpot, read_at}
use Rattle.rd_edits.specs.Edits.{edited}
use Rattle.rd_edits.proofs.SizedLaws.{below}
use Rattle.rd_edits.proofs.ValidityLaws.{IsEditAt-valid}

-- ---- a spot of one number, and one of two

-- what is read of another member, once one was changed
read_other : {A X : Type 0} (f : X → A) (xs : List X) (number other : ℕ) (now d : X) → other ≢ number → f (get_or (set xs number now) other d) ≡ f (get_or xs other d)
read_other f xs number other now d apart = ap f (get_or-set_other xs number other now d apart)

-- of a member of a member's list, once one of them was changed
read_within : {A X Y : Type 0} (list : X → List Y) (f : Y → A) (xs : List X) (number other : ℕ) (now d : X) (i j : ℕ) (y e : Y)
    → list now ≡ set (list (get_or xs number d)) i y → (other ≡ number → j ≡ i → ⊥)
    → f (get_or (list (get_or (set xs number now) other d)) j e) ≡ f (get_or (list (get_or xs other d)) j e)
read_within list f xs number other now d i j y e is apart = elim (cases_eq other number) [
  | inl same ↦ elim (cases_lt number (length xs)) [
    | inl there ↦
        ap (λ n. f (get_or (list (get_or (set xs number now) n d)) j e)) same ∙ ap (λ x. f (get_or (list x) j e)) (get_or-set_same xs number now d there)
        ∙ ap (λ ys. f (get_or ys j e)) is ∙ ap f (get_or-set_other (list (get_or xs number d)) i j y e (apart same))
        ∙ sym (ap (λ n. f (get_or (list (get_or xs n d)) j e)) same)
    | inr past ↦ ap (λ zs. f (get_or (list (get_or zs other d)) j e)) (set_past xs number now past)
  ]
  | inr differs ↦ ap (λ x. f (get_or (list x) j e)) (get_or-set_other xs number other now d differs)
]

-- A spot of two numbers is another one where both are not the same.
apart_by : (spot : ℕ → ℕ → EditSpot) (a b c d : ℕ) → spot a b ≢ spot c d → a ≡ c → b ≡ d → ⊥
apart_by spot a b c d apart first second = apart (ap (λ n. spot n b) first ∙ ap (spot c) second)

-- ---- the others

of_register : (s : Snapshot) (task register value : ℕ) (spot : EditSpot) → spot ≢ OfRegister task register
    → read_at (edited s (Register task register value)) spot ≡ read_at s spot
of_register s task register value spot = at spot
  where
    x : TaskSnapshot
    x = record (task_at s task) { registers = set (task_at s task).registers register value }

    at : (spot : EditSpot) → spot ≢ OfRegister task register → read_at (with_task s task x) spot ≡ read_at s spot
    at (OfRegister other r) apart =
        read_within (λ (t : TaskSnapshot). t.registers) (λ n. n ∷ []) s.tasks task other x no_task register r value 0 refl
        (apart_by OfRegister other r task register apart)
    at (OfData other) apart = EachStays-task (λ (t : TaskSnapshot). t.bytes) s task x refl other
    at (OfPc other) apart = EachStays-task (λ (t : TaskSnapshot). t.pc ∷ []) s task x refl other
    at (OfValue other index) apart = EachStays-task (λ (t : TaskSnapshot). (get_or t.entries index idle_entry).value ∷ []) s task x refl other
    at (OfBits group) apart = refl
    at (OfItem queue index) apart = refl
    at (OfByte stream index) apart = refl

of_data : (s : Snapshot) (task : ℕ) (bytes : List ℕ) (spot : EditSpot) → spot ≢ OfData task → read_at (edited s (Data task bytes)) spot ≡ read_at s spot
of_data s task bytes spot = at spot
  where
    x : TaskSnapshot
    x = record (task_at s task) { bytes = bytes }

    at : (spot : EditSpot) → spot ≢ OfData task → read_at (with_task s task x) spot ≡ read_at s spot
    at (OfRegister other r) apart = EachStays-task (λ (t : TaskSnapshot). get_or t.registers r 0 ∷ []) s task x refl other
    at (OfData other) apart = read_other (λ (t : TaskSnapshot). t.bytes) s.tasks task other x no_task (λ same. apart (ap OfData same))
    at (OfPc other) apart = EachStays-task (λ (t : TaskSnapshot). t.pc ∷ []) s task x refl other
    at (OfValue other index) apart = EachStays-task (λ (t : TaskSnapshot). (get_or t.entries index idle_entry).value ∷ []) s task x refl other
    at (OfBits group) apart = refl
    at (OfItem queue index) apart = refl
    at (OfByte stream index) apart = refl

of_pc : (s : Snapshot) (task pc : ℕ) (spot : EditSpot) → spot ≢ OfPc task → read_at (edited s (Pc task pc)) spot ≡ read_at s spot
of_pc s task pc spot = at spot
  where
    x : TaskSnapshot
    x = record (task_at s task) { pc = pc }

    at : (spot : EditSpot) → spot ≢ OfPc task → read_at (with_task s task x) spot ≡ read_at s spot
    at (OfRegister other r) apart = EachStays-task (λ (t : TaskSnapshot). get_or t.registers r 0 ∷ []) s task x refl other
    at (OfData other) apart = EachStays-task (λ (t : TaskSnapshot). t.bytes) s task x refl other
    at (OfPc other) apart = read_other (λ (t : TaskSnapshot). t.pc ∷ []) s.tasks task other x no_task (λ same. apart (ap OfPc same))
    at (OfValue other index) apart = EachStays-task (λ (t : TaskSnapshot). (get_or t.entries index idle_entry).value ∷ []) s task x refl other
    at (OfBits group) apart = refl
    at (OfItem queue index) apart = refl
    at (OfByte stream index) apart = refl

of_value : (s : Snapshot) (task index value : ℕ) (spot : EditSpot) → spot ≢ OfValue task index → read_at (edited s (Value task index value)) spot ≡ read_at s spot
of_value s task index value spot = at spot
  where
    entry : Entry
    entry = record (entry_at s task index) { value = value }

    x : TaskSnapshot
    x = record (task_at s task) { entries = set (task_at s task).entries index entry }

    at : (spot : EditSpot) → spot ≢ OfValue task index → read_at (with_task s task x) spot ≡ read_at s spot
    at (OfRegister other r) apart = EachStays-task (λ (t : TaskSnapshot). get_or t.registers r 0 ∷ []) s task x refl other
    at (OfData other) apart = EachStays-task (λ (t : TaskSnapshot). t.bytes) s task x refl other
    at (OfPc other) apart = EachStays-task (λ (t : TaskSnapshot). t.pc ∷ []) s task x refl other
    at (OfValue other i) apart =
        read_within (λ (t : TaskSnapshot). t.entries) (λ (e : Entry). e.value ∷ []) s.tasks task other x no_task index i entry idle_entry refl
        (apart_by OfValue other i task index apart)
    at (OfBits group) apart = refl
    at (OfItem queue i) apart = refl
    at (OfByte stream i) apart = refl

of_bits : (s : Snapshot) (group bits : ℕ) (spot : EditSpot) → spot ≢ OfBits group → read_at (edited s (Bits group bits)) spot ≡ read_at s spot
of_bits s group bits (OfRegister task r) apart = refl
of_bits s group bits (OfData task) apart = refl
of_bits s group bits (OfPc task) apart = refl
of_bits s group bits (OfValue task index) apart = refl
of_bits s group bits (OfBits other) apart =
    read_other (λ (g : GroupSnapshot). g.bits ∷ []) s.objects.groups group other (with_bits (group_at s group) bits) no_group (λ same. apart (ap OfBits same))
of_bits s group bits (OfItem queue index) apart = refl
of_bits s group bits (OfByte stream index) apart = refl

of_item : (s : Snapshot) (queue index : ℕ) (bytes : List ℕ) (spot : EditSpot) → spot ≢ OfItem queue index
    → read_at (edited s (Item queue index bytes)) spot ≡ read_at s spot
of_item s queue index bytes (OfRegister task r) apart = refl
of_item s queue index bytes (OfData task) apart = refl
of_item s queue index bytes (OfPc task) apart = refl
of_item s queue index bytes (OfValue task i) apart = refl
of_item s queue index bytes (OfBits group) apart = refl
of_item s queue index bytes (OfItem other i) apart =
    read_within (λ (q : QueueSnapshot). q.items) (λ (item : List ℕ). item) s.objects.queues queue other
    (with_items (queue_at s queue) (set (items_at s queue) index bytes)) no_queue index i bytes [] refl (apart_by OfItem other i queue index apart)
of_item s queue index bytes (OfByte stream i) apart = refl

of_byte : (s : Snapshot) (stream index value : ℕ) (spot : EditSpot) → spot ≢ OfByte stream index
    → read_at (edited s (Byte stream index value)) spot ≡ read_at s spot
of_byte s stream index value (OfRegister task r) apart = refl
of_byte s stream index value (OfData task) apart = refl
of_byte s stream index value (OfPc task) apart = refl
of_byte s stream index value (OfValue task i) apart = refl
of_byte s stream index value (OfBits group) apart = refl
of_byte s stream index value (OfItem queue i) apart = refl
of_byte s stream index value (OfByte other i) apart =
    read_within (λ (b : StreamSnapshot). b.bytes) (λ n. n ∷ []) s.objects.streams stream other
    (with_stream_bytes (stream_at s stream) (set (stream_at s stream).bytes index value)) no_stream index i value 0 refl
    (apart_by OfByte other i stream index apart)

-- ---- all edits

pub edits_write_one_spot : EditsWriteOneSpot
edits_write_one_spot app s (Register task register value) valid named good =
    let there = IsEditAt-valid app s (Register task register value) valid named in
    let x = task_at s task in
    let eight = (All-get_or IsSizedTask s.tasks task no_task there.0 valid.in_limits.sized.tasks.tasks).registers in
    record {
      written = ap (λ (t : TaskSnapshot). get_or t.registers register 0 ∷ []) (task_now s task (record x { registers = set x.registers register value }) there.0)
          ∙ ap (λ n. n ∷ []) (get_or-set_same x.registers register value 0 (omega (arith, eight, there.1)));
      others = of_register s task register value;
    }
edits_write_one_spot app s (Data task bytes) valid named good =
    let there = IsEditAt-valid app s (Data task bytes) valid named in
    record {
      written = ap (λ (t : TaskSnapshot). t.bytes) (task_now s task (record (task_at s task) { bytes = bytes }) there);
      others = of_data s task bytes;
    }
edits_write_one_spot app s (Pc task pc) valid named good =
    let there = IsEditAt-valid app s (Pc task pc) valid named in
    record {
      written = ap (λ (t : TaskSnapshot). t.pc ∷ []) (task_now s task (record (task_at s task) { pc = pc }) there);
      others = of_pc s task pc;
    }
edits_write_one_spot app s (Value task index value) valid named good =
    let there = IsEditAt-valid app s (Value task index value) valid named in
    let x = task_at s task in
    let entry : Entry = record (entry_at s task index) { value = value } in
    record {
      written = ap (λ (t : TaskSnapshot). (get_or t.entries index idle_entry).value ∷ []) (task_now s task (record x { entries = set x.entries index entry }) there.0)
          ∙ ap (λ (e : Entry). e.value ∷ []) (get_or-set_same x.entries index entry idle_entry there.1);
      others = of_value s task index value;
    }
edits_write_one_spot app s (Bits group bits) valid named good =
    let there = IsEditAt-valid app s (Bits group bits) valid named in
    record {
      written = ap (λ (g : GroupSnapshot). g.bits ∷ []) (get_or-set_same s.objects.groups group (with_bits (group_at s group) bits) no_group there);
      others = of_bits s group bits;
    }
edits_write_one_spot app s (Item queue index bytes) valid named good =
    let there = IsEditAt-valid app s (Item queue index bytes) valid named in
    let items = set (items_at s queue) index bytes in
    let within = below index (length (items_at s queue)) (both (nat_lt index (length (items_at s queue))) (nat_eq (length bytes) (queue_at s queue).item_size) good).0 in
    record {
      written = ap (λ (q : QueueSnapshot). get_or q.items index []) (get_or-set_same s.objects.queues queue (with_items (queue_at s queue) items) no_queue there)
          ∙ get_or-set_same (items_at s queue) index bytes [] within;
      others = of_item s queue index bytes;
    }
edits_write_one_spot app s (Byte stream index value) valid named good =
    let there = IsEditAt-valid app s (Byte stream index value) valid named in
    let was = (stream_at s stream).bytes in
    let within = below index (length was) (both (nat_lt index (length was)) (nat_le value 255) good).0 in
    record {
      written = ap (λ (b : StreamSnapshot). get_or b.bytes index 0 ∷ [])
          (get_or-set_same s.objects.streams stream (with_stream_bytes (stream_at s stream) (set was index value)) no_stream there)
          ∙ ap (λ n. n ∷ []) (get_or-set_same was index value 0 within);
      others = of_byte s stream index value;
    }
