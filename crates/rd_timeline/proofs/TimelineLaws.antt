-- What holds of the fields of a timeline.
use Rattle.std.proofs.Common.{ℕ, max, ◌<◌, ◌≤◌, ◌≡◌, ◌≢◌, ◌∙◌, ◌+◌, ◌-◌, take, drop, List, [], ◌∷◌, ◌++◌, length, refl, ap, subst, sym, arith}
use Rattle.std.specs.Prelude.{Ok, IsOk, All, is_ok, slice_index_or}
use Rattle.std.proofs.Math.Seq.{drop-append_seam, take-append_seam}
use Rattle.std.proofs.lemmas.List.{append_assoc, append-nil, length-append, length-drop, length-take-le, length_push, take-append-drop}
use Rattle.std.proofs.lemmas.List.Elements.{All-append, All-cons, All-drop, All-nil, All-take}
use Rattle.rd_app.specs.Application.{Application, IsApplication, priorities_of}
use Rattle.rd_state.specs.Change.{Change}
use Rattle.rd_state.specs.Boot.{boot_of}
use Rattle.rd_state.specs.Snapshot.{Snapshot}
use Rattle.rd_state.specs.Undoing.{undone, CanUndo}
use Rattle.rd_state.specs.Settled.{IsSettled}
use Rattle.rd_state.specs.Valid.{IsValid}
use Rattle.rd_moves.specs.Moves.{PlainMove}
use Rattle.rd_moves.specs.declared.moves.Move.TheVariants.{Carried, Core, Tick}
use Rattle.rd_calls.proofs.Offered.{carried-settled}
use Rattle.rd_calls.specs.Step.{step, LeavesSettled}
use Rattle.rd_moves.specs.Moves.{IsMoveOf}
use Rattle.rd_packed.specs.declared.count.ReadCount.{ReadCount}
use Rattle.rd_timeline.specs.declared.timeline.Start.{Start}
use Rattle.rd_timeline.specs.declared.timeline.Timeline.TheInside.{Inside}
use Rattle.rd_timeline.specs.Course.{AreMade, Course, HasGrown, IsTraced, Capacity, base_of}
use Rattle.rd_timeline.specs.Decoded.{carried_in}
use Rattle.rd_timeline.specs.History.{CanRewind, IsStateAfter, Retraces, rewound, state_after}
use Rattle.rd_timeline.specs.Inside.{IsWhole, course_of}
use Rattle.rd_timeline.specs.JournalView.{HasCarriedRoom, JournalView}
use Rattle.rd_timeline.specs.Starts.{CanCancel}
use Rattle.rd_timeline.proofs.DecodedLaws.{carried_in-append}
use Rattle.rd_timeline.proofs.HistoryLaws.{CanRewind-back, CanRewind-later, CanRewind-push, Retraces-back, Retraces-boot, Retraces-later, Retraces-now, Retraces-push, first_is_made, state_after-push}

-- ---- moves that can be made

AreMade-none : (app : Application) (limit : ℕ) (room : Capacity) → AreMade app limit room []
AreMade-none app limit room =
    record { state = refl; named = All-nil (IsMoveOf app); within = omega arith; has_room = omega arith; has_carried_room = omega arith }

-- one more
AreMade-push : (app : Application) (limit : ℕ) (room : Capacity) (moves : List PlainMove) (move : PlainMove) (s s' : Snapshot) → All (IsMoveOf app) moves → IsMoveOf app move
    → state_after app moves ≡ Ok s → step app s move ≡ Ok s' → length moves < limit → length moves < room.moves → carried_in (moves ++ move ∷ []) ≤ room.carried
    → AreMade app limit room (moves ++ move ∷ [])
AreMade-push app limit room moves move s s' all named state steps less has carried_has = record {
  state = ap is_ok (state_after-push app moves move s state ∙ steps);
  named = All-append (IsMoveOf app) moves (move ∷ []) all (All-cons (IsMoveOf app) move [] named (All-nil (IsMoveOf app)));
  within = omega (arith, length_push moves move, less);
  has_room = omega (arith, length_push moves move, has);
  has_carried_room = carried_has;
}

-- with more room
pub AreMade-grown : (app : Application) (limit : ℕ) (old new : Capacity) (moves : List PlainMove) → AreMade app limit old moves → HasGrown old new
    → AreMade app limit new moves
AreMade-grown app limit old new moves made grows = record {
  state = made.state;
  named = made.named;
  within = made.within;
  has_room = omega (arith, made.has_room, grows.moves);
  has_carried_room = omega (arith, made.has_carried_room, grows.carried);
}

pub HasGrown-none : (room : Capacity) → HasGrown room room
HasGrown-none room = record { moves = omega arith; carried = omega arith; bytes = omega arith }

pub HasGrown-same : (old new : Capacity) → new ≡ old → HasGrown old new
HasGrown-same old new same = subst (λ (room : Capacity). HasGrown old room) (sym same) (HasGrown-none old)

pub HasGrown-then : (old now new : Capacity) → HasGrown old now → HasGrown now new → HasGrown old new
HasGrown-then old now new first then = record {
  moves = omega (arith, first.moves, then.moves);
  carried = omega (arith, first.carried, then.carried);
  bytes = omega (arith, first.bytes, then.bytes);
}

-- those done, of them and those undone
named_done : (app : Application) (done undone : List PlainMove) → All (IsMoveOf app) (done ++ undone) → All (IsMoveOf app) done
named_done app done undone all =
    subst (All (IsMoveOf app)) (take-append_seam done undone) (All-take (IsMoveOf app) (length done) (done ++ undone) all)

-- those done alone
AreMade-done : (app : Application) (limit : ℕ) (room : Capacity) (done undone : List PlainMove) (s : Snapshot) → AreMade app limit room (done ++ undone)
    → state_after app done ≡ Ok s → AreMade app limit room done
AreMade-done app limit room done undone s made state = record {
  state = ap is_ok state;
  named = named_done app done undone made.named;
  within = omega (arith, length-append done undone, made.within);
  has_room = omega (arith, length-append done undone, made.has_room);
  has_carried_room = omega (arith, carried_in-append done undone, made.has_carried_room);
}

-- the one to be redone next
pub next_is_named : (app : Application) (done undone : List PlainMove) → All (IsMoveOf app) (done ++ undone) → 0 < length undone
    → IsMoveOf app (slice_index_or undone 0 Tick)
next_is_named app done undone all some =
    subst (All (IsMoveOf app)) (drop-append_seam done undone) (All-drop (IsMoveOf app) (length done) (done ++ undone) all) 0 Tick some

pub next_is_made : (app : Application) (done undone : List PlainMove) (s : Snapshot) → state_after app done ≡ Ok s
    → IsOk (state_after app (done ++ undone)) → 0 < length undone → IsOk (step app s (slice_index_or undone 0 Tick))
next_is_made app done [] s state is some = absurd (omega (arith, some))
next_is_made app done (move ∷ rest) s state is some = first_is_made app done move rest s state is

-- Where it is done, the moves are the same altogether.
pub all_the_same : (done undone : List PlainMove) → 0 < length undone → (done ++ slice_index_or undone 0 Tick ∷ []) ++ drop 1 undone ≡ done ++ undone
all_the_same done [] some = absurd (omega (arith, some))
all_the_same done (move ∷ rest) some = append_assoc done (move ∷ []) rest

-- ---- what is traced back

-- The moves done are those without a record and those with one.
pub all_based : (c : Course) → length c.log ≤ length c.done → base_of c + length c.log ≡ length c.done
all_based c fewer = omega (arith, fewer)

-- the state now is that after the moves done
pub traced_now : (c : Course) → IsTraced c → IsStateAfter c.app c.done c.target
traced_now c traced = Retraces-now c.app (base_of c) c.done c.log c.target (all_based c traced.records) traced.retraces

-- one move and its record more
retraces_push : (c : Course) (move : PlainMove) (last : List Change) (s : Snapshot) → IsTraced c → step c.app c.target move ≡ Ok s → undone s last ≡ c.target
    → IsValid c.app s → IsSettled (priorities_of c.app) s
    → Retraces c.app (length (c.done ++ move ∷ []) - length (c.log ++ last ∷ [])) (c.done ++ move ∷ []) (c.log ++ last ∷ []) s
retraces_push c move last s traced steps back valid settled =
    let same : base_of c ≡ length (c.done ++ move ∷ []) - length (c.log ++ last ∷ []) = omega (arith, length_push c.log last, length_push c.done move) in
    subst (λ b. Retraces c.app b (c.done ++ move ∷ []) (c.log ++ last ∷ []) s) same
    (Retraces-push c.app (base_of c) c.done c.log move last c.target s (all_based c traced.records) traced.retraces steps back valid settled)

-- what there is room for
abbrev pub room_of : JournalView → Capacity
room_of journal = record { moves = journal.capacity; carried = journal.carried_capacity; bytes = journal.memory }

-- Whether a course is traced hangs on its application, its limit, its target, what is done and undone, and that there is no less room.
traced_as : (t : Inside) (c : Course) → IsTraced c → t.app ≡ c.app → t.limit ≡ c.limit → t.journal.target ≡ c.target → t.journal.done ≡ c.done
    → t.journal.records ≡ c.log → t.journal.undone ≡ c.undone → HasGrown c.room (room_of t.journal) → IsTraced (course_of t)
traced_as t c traced app limit target done log undone grows =
    let P : Application → ℕ → Snapshot → List PlainMove → List (List Change) → List PlainMove → Type 0 =
    λ a n s ms rs us. IsTraced (record (course_of t) { app = a; limit = n; target = s; done = ms; log = rs; undone = us }) in
    let here : P c.app c.limit c.target c.done c.log c.undone = record {
      records = traced.records;
      retraces = traced.retraces;
      rewinds = traced.rewinds;
      made = AreMade-grown c.app c.limit c.room (room_of t.journal) (c.done ++ c.undone) traced.made grows;
    } in
    subst (λ (a : Application). P a t.limit t.journal.target t.journal.done t.journal.records t.journal.undone) (sym app)
    (subst (λ n. P c.app n t.journal.target t.journal.done t.journal.records t.journal.undone) (sym limit)
    (subst (λ (s : Snapshot). P c.app c.limit s t.journal.done t.journal.records t.journal.undone) (sym target)
    (subst (λ (ms : List PlainMove). P c.app c.limit c.target ms t.journal.records t.journal.undone) (sym done)
    (subst (λ (rs : List (List Change)). P c.app c.limit c.target c.done rs t.journal.undone) (sym log)
    (subst (λ (us : List PlainMove). P c.app c.limit c.target c.done c.log us) (sym undone) here)))))

pub IsWhole-new : (t : Inside) (s : Snapshot) → IsApplication t.app → s ≡ boot_of t.app → IsValid t.app s → IsSettled (priorities_of t.app) s
    → t.journal.target ≡ s → t.journal.done ≡ [] → t.journal.records ≡ [] → t.journal.undone ≡ [] → t.others.bytes ≡ 0 → IsWhole t
IsWhole-new t s limits boot valid settled target done log undone none_read =
    let at_boot : IsTraced (record (course_of t) { target = s; done = []; log = []; undone = [] }) =
    record { records = omega arith; retraces = Retraces-boot t.app s boot valid settled; rewinds = tt; made = AreMade-none t.app t.limit (room_of t.journal) } in
    record {
      traced = traced_as t _ at_boot refl refl target done log undone (HasGrown-none (room_of t.journal));
      limits = limits;
      others = omega (arith, none_read);
    }

-- one move and its record more, and none undone
pub IsTraced-push : (c : Course) (move : PlainMove) (last : List Change) (s : Snapshot) (room : Capacity) → IsTraced c → IsMoveOf c.app move → length c.done ≢ c.limit
    → length c.done < room.moves → carried_in (c.done ++ move ∷ []) ≤ room.carried → step c.app c.target move ≡ Ok s → undone s last ≡ c.target → CanUndo s last
    → IsValid c.app s → IsSettled (priorities_of c.app) s
    → IsTraced (record c { target = s; done = c.done ++ move ∷ []; log = c.log ++ last ∷ []; undone = []; room = room })
IsTraced-push c move last s room traced named more has carried_has steps back can valid settled = record {
  records = omega (arith, length_push c.log last, length_push c.done move, traced.records);
  retraces = retraces_push c move last s traced steps back valid settled;
  rewinds = CanRewind-push s c.log last can (subst (λ (t : Snapshot). CanRewind t c.log) (sym back) traced.rewinds);
  made =
      subst (AreMade c.app c.limit room) (sym (append-nil (c.done ++ move ∷ [])))
      (AreMade-push c.app c.limit room c.done move c.target s (named_done c.app c.done c.undone traced.made.named) named
      (traced_now c traced).state steps
      (omega (arith, length-append c.done c.undone, traced.made.within, more)) has carried_has);
}

-- the first of those undone is done again, with its record
pub IsTraced-replay : (c : Course) (move : PlainMove) (last : List Change) (s : Snapshot) (rest : List PlainMove) → IsTraced c
    → (c.done ++ move ∷ []) ++ rest ≡ c.done ++ c.undone → step c.app c.target move ≡ Ok s → undone s last ≡ c.target → CanUndo s last
    → IsValid c.app s → IsSettled (priorities_of c.app) s
    → IsTraced (record c { target = s; done = c.done ++ move ∷ []; log = c.log ++ last ∷ []; undone = rest })
IsTraced-replay c move last s rest traced same steps back can valid settled = record {
  records = omega (arith, length_push c.log last, length_push c.done move, traced.records);
  retraces = retraces_push c move last s traced steps back valid settled;
  rewinds = CanRewind-push s c.log last can (subst (λ (t : Snapshot). CanRewind t c.log) (sym back) traced.rewinds);
  made = subst (AreMade c.app c.limit c.room) (sym same) traced.made;
}

-- all but the last n moves and their records
IsTraced-back : (c : Course) (n : ℕ) → n ≤ length c.log → IsTraced c
    → IsTraced (record c {
      target = rewound c.target (drop (length c.log - n) c.log);
      done = take (length c.done - n) c.done;
      log = take (length c.log - n) c.log;
      undone = drop (length c.done - n) c.done ++ c.undone;
    })
IsTraced-back c n within traced =
    let base = base_of c in
    let k = length c.log - n in
    let m = length c.done - n in
    let back = rewound c.target (drop k c.log) in
    let border : base + k ≡ m = omega (arith, within, traced.records) in
    let len_done = length-take-le m c.done (omega arith) in
    let len_log = length-take-le k c.log (omega arith) in
    let same : base ≡ length (take m c.done) - length (take k c.log) = omega (arith, border, len_done, len_log) in
    record {
      records = omega (arith, len_done, len_log, traced.records);
      retraces =
          subst (λ b. Retraces c.app b (take m c.done) (take k c.log) back) same
          (subst (λ i. Retraces c.app base (take i c.done) (take k c.log) back) border
          (Retraces-back c.app base c.done c.log c.target k (all_based c traced.records) (omega arith) traced.retraces));
      rewinds = CanRewind-back c.target c.log k traced.rewinds;
      made =
          subst (AreMade c.app c.limit c.room)
          (sym (sym (append_assoc (take m c.done) (drop m c.done) c.undone) ∙ ap (λ (ms : List PlainMove). ms ++ c.undone) (take-append-drop m c.done))) traced.made;
    }

-- the same moves, with fewer records
IsTraced-trim : (c : Course) (keep : ℕ) → IsTraced c → IsTraced (record c { log = drop (length c.log - keep) c.log })
IsTraced-trim c keep traced =
    let j = length c.log - keep in
    let len = length-drop j c.log in
    let same : base_of c + j ≡ length c.done - length (drop j c.log) = omega (arith, len, traced.records) in
    record {
      records = omega (arith, len, traced.records);
      retraces =
          subst (λ b. Retraces c.app b c.done (drop j c.log) c.target) same
          (Retraces-later c.app (base_of c) c.done c.log c.target j traced.retraces);
      rewinds = CanRewind-later c.target c.log j traced.rewinds;
      made = traced.made;
    }

-- Nothing is left to schedule after a move, where nothing was before it.
pub settled_after : (app : Application) (s : Snapshot) (move : PlainMove) (s' : Snapshot) → IsSettled (priorities_of app) s → LeavesSettled app s move s'
    → IsSettled (priorities_of app) s'
settled_after app s (Core core) s' before leaves = leaves
settled_after app s Tick s' before leaves = leaves
settled_after app s (Carried carried) s' before leaves = carried-settled app s carried s' before leaves

-- the state now is that after the moves done
pub state_now : (t : Inside) → IsWhole t → IsStateAfter t.app t.journal.done t.journal.target
state_now t whole = traced_now (course_of t) whole.traced

-- the fields after one move more
pub IsWhole-push : (t t' : Inside) (move : PlainMove) (last : List Change) → IsWhole t → t'.app ≡ t.app → t'.limit ≡ t.limit
    → IsMoveOf t.app move → length t.journal.done ≢ t.limit → step t.app t.journal.target move ≡ Ok t'.journal.target → undone t'.journal.target last ≡ t.journal.target
    → CanUndo t'.journal.target last
    → IsValid t.app t'.journal.target → IsSettled (priorities_of t.app) t'.journal.target → t'.journal.done ≡ t.journal.done ++ move ∷ []
    → t'.journal.records ≡ t.journal.records ++ last ∷ [] → t'.journal.undone ≡ [] → length t.journal.done < t'.journal.capacity
    → carried_in (t.journal.done ++ move ∷ []) ≤ t'.journal.carried_capacity → t'.others.bytes ≤ t'.journal.read → IsWhole t'
IsWhole-push t t' move last whole app limit named more steps back can valid settled done log undone has carried_has others =
    let room = room_of t'.journal in
    let pushed = IsTraced-push (course_of t) move last t'.journal.target room whole.traced named more has carried_has steps back can valid settled in
    record {
      traced = traced_as t' _ pushed app limit refl done log undone (HasGrown-none room);
      limits = subst IsApplication (sym app) whole.limits;
      others = others;
    }

-- the fields without the last n moves
pub IsWhole-back : (t : Inside) (journal : JournalView) (others : ReadCount) (n : ℕ) → n ≤ length t.journal.records → IsWhole t
    → journal.target ≡ rewound t.journal.target (drop (length t.journal.records - n) t.journal.records)
    → journal.done ≡ take (length t.journal.done - n) t.journal.done → journal.records ≡ take (length t.journal.records - n) t.journal.records
    → journal.undone ≡ drop (length t.journal.done - n) t.journal.done ++ t.journal.undone → HasGrown (room_of t.journal) (room_of journal)
    → others.bytes ≤ journal.read → IsWhole (record t { journal = journal; others = others })
IsWhole-back t journal others n within whole target done log undone grows read = record {
  traced = traced_as (record t { journal = journal; others = others }) _ (IsTraced-back (course_of t) n within whole.traced) refl refl target done log undone grows;
  limits = whole.limits;
  others = read;
}

-- the fields with fewer records
pub IsWhole-trim : (t : Inside) (journal : JournalView) (others : ReadCount) (keep : ℕ) → IsWhole t → journal.target ≡ t.journal.target → journal.done ≡ t.journal.done
    → journal.records ≡ drop (length t.journal.records - keep) t.journal.records → journal.undone ≡ t.journal.undone → HasGrown (room_of t.journal) (room_of journal)
    → others.bytes ≤ journal.read → IsWhole (record t { journal = journal; others = others })
IsWhole-trim t journal others keep whole target done log undone grows read = record {
  traced = traced_as (record t { journal = journal; others = others }) _ (IsTraced-trim (course_of t) keep whole.traced) refl refl target done log undone grows;
  limits = whole.limits;
  others = read;
}

-- the fields with the moves undone set aside
pub IsWhole-aside : (t : Inside) (journal : JournalView) → IsWhole t → journal ≡ record t.journal { undone = [] } → IsWhole (record t { journal = journal })
IsWhole-aside t journal whole is =
    subst (λ (v : JournalView). IsWhole (record t { journal = v })) (sym is) (record {
      traced = record {
        records = whole.traced.records;
        retraces = whole.traced.retraces;
        rewinds = whole.traced.rewinds;
        made =
            subst (AreMade t.app t.limit (room_of t.journal)) (sym (append-nil t.journal.done))
            (AreMade-done t.app t.limit (room_of t.journal) t.journal.done t.journal.undone t.journal.target whole.traced.made (state_now t whole).state);
      };
      limits = whole.limits;
      others = whole.others;
    })

-- the fields without the last n moves, those since a run began, and with those undone of before
pub IsWhole-cancel : (t : Inside) (journal : JournalView) (others : ReadCount) (start : Start) (n : ℕ) → n ≡ length t.journal.done - start.done → IsWhole t
    → CanCancel (course_of t) start → journal.target ≡ rewound t.journal.target (drop (length t.journal.records - n) t.journal.records)
    → journal.done ≡ take (length t.journal.done - n) t.journal.done → journal.records ≡ take (length t.journal.records - n) t.journal.records
    → journal.undone ≡ start.undone → HasGrown (room_of t.journal) (room_of journal) → others.bytes ≤ journal.read
    → IsWhole (record t { journal = journal; others = others })
IsWhole-cancel t journal others start n is whole can target done log undone grows read =
    let m = length t.journal.done - n in
    let first : start.done ≡ m = omega (arith, is, can.earlier) in
    let back = IsTraced-back (course_of t) n (omega (arith, is, can.recorded)) whole.traced in
    let traced : IsTraced (record (course_of t) {
      target = rewound t.journal.target (drop (length t.journal.records - n) t.journal.records);
      done = take m t.journal.done;
      log = take (length t.journal.records - n) t.journal.records;
      undone = start.undone;
    }) = record {
      records = back.records;
      retraces = back.retraces;
      rewinds = back.rewinds;
      made = subst (λ k. AreMade t.app t.limit (room_of t.journal) (take k t.journal.done ++ start.undone)) first can.made;
    } in
    record {
      traced = traced_as (record t { journal = journal; others = others }) _ traced refl refl target done log undone grows;
      limits = whole.limits;
      others = read;
    }

-- the fields after the first of the moves undone was made again
pub IsWhole-replay : (t : Inside) (journal : JournalView) (move : PlainMove) (last : List Change) → IsWhole t
    → (t.journal.done ++ move ∷ []) ++ journal.undone ≡ t.journal.done ++ t.journal.undone → step t.app t.journal.target move ≡ Ok journal.target
    → undone journal.target last ≡ t.journal.target → CanUndo journal.target last → IsValid t.app journal.target
    → IsSettled (priorities_of t.app) journal.target → journal.done ≡ t.journal.done ++ move ∷ []
    → journal.records ≡ t.journal.records ++ last ∷ [] → HasGrown (room_of t.journal) (room_of journal) → journal.read ≡ t.journal.read
    → IsWhole (record t { journal = journal })
IsWhole-replay t journal move last whole same steps back can valid settled done log grows read =
    let again = IsTraced-replay (course_of t) move last journal.target journal.undone whole.traced same steps back can valid settled in
    record {
      traced = traced_as (record t { journal = journal }) _ again refl refl refl done log refl grows;
      limits = whole.limits;
      others = omega (arith, read, whole.others);
    }

-- Once there is room for a move, there is room for what the moves done carry, and it.
pub carried_fits : (move : PlainMove) (reserved : JournalView) → HasCarriedRoom reserved move → carried_in reserved.done ≤ reserved.carried_capacity
    → carried_in (reserved.done ++ move ∷ []) ≤ reserved.carried_capacity
carried_fits move reserved room were = omega (arith, carried_in-append reserved.done (move ∷ []), one_more move room, were)
  where
    one_more : (m : PlainMove) → HasCarriedRoom reserved m → carried_in reserved.done + carried_in (m ∷ []) ≤ max (carried_in reserved.done) reserved.carried_capacity
    one_more (Core core) room = omega arith
    one_more Tick room = omega arith
    one_more (Carried carried) room = omega (arith, room refl)
