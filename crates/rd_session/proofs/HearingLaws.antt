-- What a session hears, one page after the other.
use Rattle.std.proofs.Common.{◌≡◌, ◌∙◌, ℕ, ◌+◌, ◌<◌, true, false, List, [], ◌∷◌, ◌++◌, length, take, drop, refl, ap, subst, sym, arith}
use Rattle.std.specs.Prelude.{Option, Some, None, Result, Ok, Err, OnErr, OnOk, nat_eq, if◌then◌else◌}
use Rattle.std.proofs.lemmas.Bool.Decides.{nat_tests}
use Rattle.std.specs.Io.KnownBytes.{Consumes, IsAtEnd, Keeps}
use Rattle.std.proofs.lemmas.List.{append_assoc, append-nil, length_push}
use Rattle.std.proofs.lemmas.Grind.{flat_map-append}
use Rattle.rd_ends.specs.Ends.{IsUnread, SourceView}
use Rattle.rd_ends.proofs.Offered.{Consumes-append, Consumes-same, Consumes-none}
use Rattle.rd_session.specs.Lines.{AddsRead, Line, Whole, Long, front_of, last_of, lines_from, lines_of, rest_from, without_return}
use Rattle.rd_session.specs.declared.lines.Front.TheVariants as front
use Rattle.rd_session.specs.declared.session.Ended.{Ended}
use Rattle.rd_session.specs.declared.session.Ended.TheVariants.{LineTooLong, WriteFault}
use Rattle.rd_session.specs.Answers.{BreaksOff, Talk, Talks}
use Rattle.rd_session.specs.Gathering.{BreaksAmid, HearsMore, SaysAll, Spot, Stops, Talking}
use Rattle.rd_session.specs.Hearing.{ArePages, Heard, NoneIsLong, AtInputEnd, ReadFailed, WriteFailed, LongLine, AllReads, bytes_of}
use Rattle.rd_session.proofs.GatheringLaws.{BreaksOff-more, Talks-of}
use Rattle.rd_session.proofs.LineLaws.{line_cut, lines_from-append, long_cut, part_cut, rest_from-append}

-- ---- lines behind one another

pub HearsMore-none : (old : Spot) → HearsMore [] old old
HearsMore-none old start heard who t = subst (λ (ls : List Line). Talking start ls [] 0 old) (sym (append-nil heard)) t

pub HearsMore-then : (xs ys : List Line) (old between new : Spot) → between.talk.seat.who ≡ old.talk.seat.who → HearsMore xs old between → HearsMore ys between new
    → HearsMore (xs ++ ys) old new
HearsMore-then xs ys old between new same one two start heard who t =
    subst (λ (ls : List Line). Talking start ls [] 0 new) (append_assoc heard xs ys) (two start (heard ++ xs) (who ∙ sym same) (one start heard who t))

pub BreaksAmid-then : (xs ys : List Line) (old between : Spot) (new : Talk) → between.talk.seat.who ≡ old.talk.seat.who → HearsMore xs old between → BreaksAmid ys between new
    → BreaksAmid (xs ++ ys) old new
BreaksAmid-then xs ys old between new same one two start heard who t =
    subst (λ (ls : List Line). BreaksOff ls start new) (append_assoc heard xs ys) (two start (heard ++ xs) (who ∙ sym same) (one start heard who t))

pub BreaksAmid-more : (xs ys : List Line) (old : Spot) (new : Talk) → BreaksAmid xs old new → BreaksAmid (xs ++ ys) old new
BreaksAmid-more xs ys old new one start heard who t =
    subst (λ (ls : List Line). BreaksOff ls start new) (append_assoc heard xs ys) (BreaksOff-more (heard ++ xs) ys start new (one start heard who t))

pub SaysAll-then : (xs ys : List Line) (old between : Spot) (new : Talk) → between.talk.seat.who ≡ old.talk.seat.who → HearsMore xs old between → SaysAll ys between new
    → SaysAll (xs ++ ys) old new
SaysAll-then xs ys old between new same one two start heard who t =
    subst (λ (ls : List Line). Talks ls start new) (append_assoc heard xs ys) (two start (heard ++ xs) (who ∙ sym same) (one start heard who t))

-- ---- amid the lines that were read

-- Of all bytes the lines before these were answered.
pub record Answering (all now : List ℕ) (old new : Spot) : Type 0 where
  pub heard : List Line
  pub lines : lines_from (Some []) all ≡ heard ++ lines_from (Some []) now
  pub rest : rest_from (Some []) all ≡ rest_from (Some []) now
  pub told : HearsMore heard old new
  pub who : new.talk.seat.who ≡ old.talk.seat.who

pub Answering-new : (all : List ℕ) (old : Spot) → Answering all all old old
Answering-new all old = record { heard = []; lines = refl; rest = refl; told = HearsMore-none old; who = refl }

-- the line at the front is one of them
with_line : (all now : List ℕ) (len : ℕ) (old between : Spot) (line : List ℕ) → (a : Answering all now old between)
    → front_of now ≡ front.Line len → line ≡ without_return (take len now)
    → lines_from (Some []) all ≡ (a.heard ++ Whole line ∷ []) ++ lines_from (Some []) (drop (len + 1) now)
with_line all now len old between line a at is =
    let cut = line_cut now len at in
    a.lines ∙ ap (λ (ls : List Line). a.heard ++ ls) (cut.0 ∙ ap (λ (l : List ℕ). Whole l ∷ lines_from (Some []) (drop (len + 1) now)) (sym is))
    ∙ sym (append_assoc a.heard (Whole line ∷ []) (lines_from (Some []) (drop (len + 1) now)))

pub Answering-more : (all now later : List ℕ) (len : ℕ) (old between new : Spot) (line : List ℕ)
    → Answering all now old between → front_of now ≡ front.Line len → line ≡ without_return (take len now)
    → HearsMore (Whole line ∷ []) between new → new.talk.seat.who ≡ between.talk.seat.who → later ≡ drop (len + 1) now → Answering all later old new
Answering-more all now later len old between new line a at is one same next = record {
  heard = a.heard ++ Whole line ∷ [];
  lines = with_line all now len old between line a at is ∙ ap (λ (bs : List ℕ). (a.heard ++ Whole line ∷ []) ++ lines_from (Some []) bs) (sym next);
  rest = a.rest ∙ (line_cut now len at).1 ∙ ap (λ (bs : List ℕ). rest_from (Some []) bs) (sym next);
  told = HearsMore-then a.heard (Whole line ∷ []) old between new a.who a.told one;
  who = same ∙ a.who;
}

pub Answering-breaks : (all now : List ℕ) (len : ℕ) (old between : Spot) (new : Talk) (line : List ℕ)
    → Answering all now old between → front_of now ≡ front.Line len → line ≡ without_return (take len now)
    → BreaksAmid (Whole line ∷ []) between new → BreaksAmid (lines_from (Some []) all) old new
Answering-breaks all now len old between new line a at is one =
    subst (λ (ls : List Line). BreaksAmid ls old new) (sym (with_line all now len old between line a at is))
    (BreaksAmid-more (a.heard ++ Whole line ∷ []) (lines_from (Some []) (drop (len + 1) now)) old new (BreaksAmid-then a.heard (Whole line ∷ []) old between new a.who a.told one))

pub Answering-long : (all now : List ℕ) (old between : Spot) (new : Talk) → Answering all now old between → front_of now ≡ front.TooLong
    → SaysAll (Long ∷ []) between new → SaysAll (lines_from (Some []) all) old new × (rest_from (Some []) all ≡ None)
Answering-long all now old between new a at one =
    let cut = long_cut now at in (
      subst (λ (ls : List Line). SaysAll ls old new) (sym (a.lines ∙ ap (λ (ls : List Line). a.heard ++ ls) cut.0)) (SaysAll-then a.heard (Long ∷ []) old between new a.who a.told one),
      a.rest ∙ cut.1,
    )

pub Answering-long_breaks : (all now : List ℕ) (old between : Spot) (new : Talk) → Answering all now old between → front_of now ≡ front.TooLong
    → BreaksAmid (Long ∷ []) between new → BreaksAmid (lines_from (Some []) all) old new
Answering-long_breaks all now old between new a at one =
    subst (λ (ls : List Line). BreaksAmid ls old new) (sym (a.lines ∙ ap (λ (ls : List Line). a.heard ++ ls) (long_cut now at).0)) (BreaksAmid-then a.heard (Long ∷ []) old between new a.who a.told one)

-- no whole line is left
no_more : (all now : List ℕ) (old between : Spot) → (a : Answering all now old between) → front_of now ≡ front.Part → lines_from (Some []) all ≡ a.heard
no_more all now old between a at = a.lines ∙ ap (λ (ls : List Line). a.heard ++ ls) (part_cut now at).0 ∙ append-nil a.heard

-- what comes with no line more
pub Answering-part : (all now : List ℕ) (old between new : Spot) → Answering all now old between → front_of now ≡ front.Part
    → HearsMore [] between new → HearsMore (lines_from (Some []) all) old new
Answering-part all now old between new a at one =
    subst (λ (ls : List Line). HearsMore ls old new) (append-nil a.heard ∙ sym (no_more all now old between a at)) (HearsMore-then a.heard [] old between new a.who a.told one)

pub Answering-lost : (all now : List ℕ) (old between : Spot) (new : Talk) → Answering all now old between → front_of now ≡ front.Part
    → BreaksAmid [] between new → BreaksAmid (lines_from (Some []) all) old new
Answering-lost all now old between new a at one =
    subst (λ (ls : List Line). BreaksAmid ls old new) (append-nil a.heard ∙ sym (no_more all now old between a at)) (BreaksAmid-then a.heard [] old between new a.who a.told one)

pub Answering-rest : (all now : List ℕ) (old between : Spot) → Answering all now old between → front_of now ≡ front.Part → rest_from (Some []) all ≡ Some now
Answering-rest all now old between a at = a.rest ∙ (part_cut now at).1

-- ---- one page after the other

pages_push : (pages : List (List ℕ)) (page : List ℕ) → bytes_of (pages ++ page ∷ []) ≡ bytes_of pages ++ page
pages_push pages page = flat_map-append (λ (p : List ℕ). p) pages (page ∷ []) ∙ ap (λ (bs : List ℕ). bytes_of pages ++ bs) (append-nil page)

-- one page more, behind what isn't too long
ArePages-push : (rest : Option (List ℕ)) (held : List ℕ) (pages : List (List ℕ)) (page : List ℕ) → ArePages rest pages → rest_from rest (bytes_of pages) ≡ Some held → 0 < length page
    → ArePages rest (pages ++ page ∷ [])
ArePages-push None held [] page are is some = absurd cc
ArePages-push None held (p ∷ pages) page are is some = absurd are
ArePages-push (Some begun) held [] page are is some = (some, tt)
ArePages-push (Some begun) held (p ∷ pages) page are is some =
    (are.0, ArePages-push (rest_from (Some begun) p) held pages page are.1 (sym (rest_from-append (Some begun) p (bytes_of pages)) ∙ is) some)

-- What a session has heard when it is about to read: all answers are written, and no whole line is left.
pub record Hears (had now : SourceView) (start : Talk) (spot : Spot) (held : List ℕ) : Type 0 where
  pub pages : List (List ℕ)
  pub are_pages : ArePages (Some []) pages
  pub read : Consumes had.remaining now.remaining (bytes_of pages)
  pub told : Talking start (lines_from (Some []) (bytes_of pages)) [] 0 spot
  pub rest : rest_from (Some []) (bytes_of pages) ≡ Some held
  pub part : front_of held ≡ front.Part
  pub who : start.seat.who ≡ spot.talk.seat.who
  pub reads : now.reads ≡ length pages
  pub ends : now.ends ≡ 0
  pub faults : now.faults ≡ 0

pub Hears-new : (had : SourceView) (start : Talk) (spot : Spot) (held : List ℕ) → IsUnread had → held ≡ [] → Talking start [] [] 0 spot → start.seat.who ≡ spot.talk.seat.who → Hears had had start spot held
Hears-new had start spot held unread none told who =
    subst (λ (bs : List ℕ). Hears had had start spot bs) (sym none) (record {
      pages = [];
      are_pages = tt;
      read = Consumes-none had.remaining;
      told = told;
      rest = refl;
      part = refl;
      who = who;
      reads = unread.reads;
      ends = unread.ends;
      faults = unread.faults;
    })

-- the lines of a page are those of what is left and the page
page_lines : (bytes held page all : List ℕ) → rest_from (Some []) bytes ≡ Some held → front_of held ≡ front.Part → all ≡ held ++ page
    → (lines_from (Some []) (bytes ++ page) ≡ lines_from (Some []) bytes ++ lines_from (Some []) all) × (rest_from (Some []) (bytes ++ page) ≡ rest_from (Some []) all)
page_lines bytes held page all rest part is =
    let cut = part_cut held part in
    let lines : lines_from (Some []) all ≡ lines_from (Some held) page =
    ap (λ (bs : List ℕ). lines_from (Some []) bs) is ∙ lines_from-append (Some []) held page
    ∙ ap (λ (ls : List Line). ls ++ lines_from (rest_from (Some []) held) page) cut.0 ∙ ap (λ (r : Option (List ℕ)). lines_from r page) cut.1 in
    let rests : rest_from (Some []) all ≡ rest_from (Some held) page =
    ap (λ (bs : List ℕ). rest_from (Some []) bs) is ∙ rest_from-append (Some []) held page ∙ ap (λ (r : Option (List ℕ)). rest_from r page) cut.1 in (
      lines_from-append (Some []) bytes page ∙ ap (λ (r : Option (List ℕ)). lines_from (Some []) bytes ++ lines_from r page) rest ∙ ap (λ (ls : List Line). lines_from (Some []) bytes ++ ls) (sym lines),
      rest_from-append (Some []) bytes page ∙ ap (λ (r : Option (List ℕ)). rest_from r page) rest ∙ sym rests,
    )

-- What a read has brought, behind what is left.
pub record Read (had now later : SourceView) (start : Talk) (spot : Spot) (all : List ℕ) : Type 0 where
  pub pages : List (List ℕ)
  pub are_pages : ArePages (Some []) pages
  pub read : Consumes had.remaining later.remaining (bytes_of pages)
  pub before : List Line
  pub told : Talking start before [] 0 spot
  pub lines : lines_from (Some []) (bytes_of pages) ≡ before ++ lines_from (Some []) all
  pub rest : rest_from (Some []) (bytes_of pages) ≡ rest_from (Some []) all
  pub who : start.seat.who ≡ spot.talk.seat.who
  pub reads : later.reads ≡ length pages
  pub ends : later.ends ≡ 0
  pub faults : later.faults ≡ 0

-- how many reads have found the end, after one that brought so many bytes
abbrev pub ends_with : ℕ → ℕ → ℕ
ends_with ends count = if nat_eq count 0 then ends + 1 else ends

no_end_more : (ends count : ℕ) → 0 < count → ends_with ends count ≡ ends
no_end_more ends count some =
    let is : nat_eq count 0 ≡ false = grind (arith, nat_tests, some) in
    rw is refl

one_end_more : (ends count : ℕ) → count ≡ 0 → ends_with ends count ≡ ends + 1
one_end_more ends count none =
    let is : nat_eq count 0 ≡ true = grind (arith, nat_tests, none) in
    rw is refl

pub Read-of : (had now later : SourceView) (start : Talk) (spot : Spot) (held all : List ℕ) (count : ℕ)
    → Hears had now start spot held → AddsRead held all now.remaining later.remaining count → 0 < count
    → later.reads ≡ now.reads + 1 → later.ends ≡ ends_with now.ends count → later.faults ≡ now.faults
    → Read had now later start spot all
Read-of had now later start spot held all count hears adds some reads ends faults =
    let page = page_lines (bytes_of hears.pages) held adds.bytes all hears.rest hears.part adds.added in
    let bytes = pages_push hears.pages adds.bytes in
    record {
      pages = hears.pages ++ adds.bytes ∷ [];
      are_pages = ArePages-push (Some []) held hears.pages adds.bytes hears.are_pages hears.rest (omega (arith, adds.len, some));
      read = subst (λ (bs : List ℕ). Consumes had.remaining later.remaining bs) (sym bytes) (Consumes-append had.remaining now.remaining later.remaining (bytes_of hears.pages) adds.bytes hears.read adds.consumed);
      before = lines_from (Some []) (bytes_of hears.pages);
      told = hears.told;
      lines = ap (λ (bs : List ℕ). lines_from (Some []) bs) bytes ∙ page.0;
      rest = ap (λ (bs : List ℕ). rest_from (Some []) bs) bytes ∙ page.1;
      who = hears.who;
      reads = omega (arith, reads, hears.reads, length_push hears.pages adds.bytes);
      ends = ends ∙ no_end_more now.ends count some ∙ hears.ends;
      faults = faults ∙ hears.faults;
    }

pub Hears-more : (had now later : SourceView) (start : Talk) (spot new : Spot) (all held : List ℕ)
    → Read had now later start spot all → HearsMore (lines_from (Some []) all) spot new → new.talk.seat.who ≡ spot.talk.seat.who
    → rest_from (Some []) all ≡ Some held → front_of held ≡ front.Part → Hears had later start new held
Hears-more had now later start spot new all held r more who rest part = record {
  pages = r.pages;
  are_pages = r.are_pages;
  read = r.read;
  told = subst (λ (ls : List Line). Talking start ls [] 0 new) (sym r.lines) (more start r.before r.who r.told);
  rest = r.rest ∙ rest;
  part = part;
  who = r.who ∙ sym who;
  reads = r.reads;
  ends = r.ends;
  faults = r.faults;
}

-- ---- where it ends

-- All lines so far were answered.
all_told : (had now : SourceView) (start : Talk) (spot : Spot) (held : List ℕ) → (hears : Hears had now start spot held) → spot.pending.out ≡ spot.pending.begun
    → Talks (lines_of (bytes_of hears.pages) false) start spot.talk
all_told had now start spot held hears all = Talks-of (lines_from (Some []) (bytes_of hears.pages)) start spot all hears.told

pub Heard-failed : (had now later : SourceView) (start : Talk) (spot : Spot) (held : List ℕ)
    → Hears had now start spot held → spot.pending.out ≡ spot.pending.begun → Keeps now.remaining later.remaining
    → later.reads ≡ now.reads + 1 → later.ends ≡ now.ends → later.faults ≡ now.faults + 1 → Heard had later start spot.talk
Heard-failed had now later start spot held hears all keeps reads ends faults = record {
  pages = hears.pages;
  are_pages = hears.are_pages;
  read = Consumes-same had.remaining now.remaining later.remaining (bytes_of hears.pages) hears.read keeps;
  end = ReadFailed;
  ends = ends ∙ hears.ends;
  faults = omega (arith, faults, hears.faults);
  reads = omega (arith, reads, hears.reads);
  is_end = ((held, hears.rest), all_told had now start spot held hears all);
}

pub Heard-spent : (had now : SourceView) (start : Talk) (spot : Spot) (held : List ℕ)
    → Hears had now start spot held → spot.pending.out ≡ spot.pending.begun → now.reads ≡ 16777216 → Heard had now start spot.talk
Heard-spent had now start spot held hears all spent = record {
  pages = hears.pages;
  are_pages = hears.are_pages;
  read = hears.read;
  end = AllReads;
  ends = hears.ends;
  faults = hears.faults;
  reads = omega (arith, hears.reads);
  is_end = (spent, (held, hears.rest), all_told had now start spot held hears all);
}

pub Heard-stops : (why : Ended) (had now later : SourceView) (start : Talk) (spot : Spot) (new : Talk) (all : List ℕ)
    → Read had now later start spot all → Stops why (lines_from (Some []) all) (rest_from (Some []) all) spot new → Heard had later start new
Heard-stops LineTooLong had now later start spot new all r stops = record {
  pages = r.pages;
  are_pages = r.are_pages;
  read = r.read;
  end = LongLine;
  ends = r.ends;
  faults = r.faults;
  reads = omega (arith, r.reads);
  is_end = (r.rest ∙ stops.1, subst (λ (ls : List Line). Talks ls start new) (sym r.lines) (stops.0 start r.before r.who r.told));
}
Heard-stops WriteFault had now later start spot new all r stops = record {
  pages = r.pages;
  are_pages = r.are_pages;
  read = r.read;
  end = WriteFailed false;
  ends = r.ends;
  faults = r.faults;
  reads = omega (arith, r.reads);
  is_end = subst (λ (ls : List Line). BreaksOff ls start new) (sym r.lines) (stops start r.before r.who r.told);
}

no_bytes : (bytes : List ℕ) (count : ℕ) → length bytes ≡ count → count ≡ 0 → bytes ≡ []
no_bytes [] count len none = refl
no_bytes (x ∷ xs) count len none = absurd (omega (arith, len, none))

-- What a read has found that found the end.
record HeardEnd (had later : SourceView) (start : Talk) (spot : Spot) (all : List ℕ) : Type 0 where
  pages : List (List ℕ)
  are_pages : ArePages (Some []) pages
  read : Consumes had.remaining later.remaining (bytes_of pages)
  told : Talking start (lines_from (Some []) (bytes_of pages)) [] 0 spot
  lines : lines_of (bytes_of pages) true ≡ lines_from (Some []) (bytes_of pages) ++ last_of (Some all)
  none_long : NoneIsLong (bytes_of pages)
  who : start.seat.who ≡ spot.talk.seat.who
  reads : later.reads ≡ length pages + 1
  ends : later.ends ≡ 1
  faults : later.faults ≡ 0

HeardEnd-of : (had now later : SourceView) (start : Talk) (spot : Spot) (held all : List ℕ) (count : ℕ)
    → Hears had now start spot held → AddsRead held all now.remaining later.remaining count → count ≡ 0
    → later.reads ≡ now.reads + 1 → later.ends ≡ ends_with now.ends count → later.faults ≡ now.faults
    → HeardEnd had later start spot all
HeardEnd-of had now later start spot held all count hears adds none reads ends faults =
    let empty = no_bytes adds.bytes count adds.len none in
    let left : all ≡ held = adds.added ∙ ap (λ (bs : List ℕ). held ++ bs) empty ∙ append-nil held in
    record {
      pages = hears.pages;
      are_pages = hears.are_pages;
      read = subst (λ (bs : List ℕ). Consumes had.remaining later.remaining bs) (ap (λ (bs : List ℕ). bytes_of hears.pages ++ bs) empty ∙ append-nil (bytes_of hears.pages))
          (Consumes-append had.remaining now.remaining later.remaining (bytes_of hears.pages) adds.bytes hears.read adds.consumed);
      told = hears.told;
      lines = ap (λ (o : Option (List ℕ)). lines_from (Some []) (bytes_of hears.pages) ++ last_of o) (hears.rest ∙ ap (λ (l : List ℕ). Some l) (sym left));
      none_long = (held, hears.rest);
      who = hears.who;
      reads = omega (arith, reads, hears.reads);
      ends = omega (arith, ends, one_end_more now.ends count none, hears.ends);
      faults = faults ∙ hears.faults;
    }

-- The input ends, and what is left is a line.
pub Heard-end : (had now later : SourceView) (start : Talk) (spot : Spot) (new : Talk) (held all : List ℕ) (count : ℕ)
    → Hears had now start spot held → AddsRead held all now.remaining later.remaining count → count ≡ 0
    → later.reads ≡ now.reads + 1 → later.ends ≡ ends_with now.ends count → later.faults ≡ now.faults
    → IsAtEnd later.remaining → SaysAll (last_of (Some all)) spot new → Heard had later start new
Heard-end had now later start spot new held all count hears adds none reads ends faults at_end said =
    let e = HeardEnd-of had now later start spot held all count hears adds none reads ends faults in
    record {
      pages = e.pages;
      are_pages = e.are_pages;
      read = e.read;
      end = AtInputEnd;
      ends = e.ends;
      faults = e.faults;
      reads = omega (arith, e.reads);
      is_end = (at_end, e.none_long, subst (λ (ls : List Line). Talks ls start new) (sym e.lines) (said start _ e.who e.told));
    }

pub Heard-end_breaks : (had now later : SourceView) (start : Talk) (spot : Spot) (new : Talk) (held all : List ℕ) (count : ℕ)
    → Hears had now start spot held → AddsRead held all now.remaining later.remaining count → count ≡ 0
    → later.reads ≡ now.reads + 1 → later.ends ≡ ends_with now.ends count → later.faults ≡ now.faults
    → IsAtEnd later.remaining → BreaksAmid (last_of (Some all)) spot new → Heard had later start new
Heard-end_breaks had now later start spot new held all count hears adds none reads ends faults at_end off =
    let e = HeardEnd-of had now later start spot held all count hears adds none reads ends faults in
    record {
      pages = e.pages;
      are_pages = e.are_pages;
      read = e.read;
      end = WriteFailed true;
      ends = e.ends;
      faults = e.faults;
      reads = omega (arith, e.reads);
      is_end = (at_end, e.none_long, subst (λ (ls : List Line). BreaksOff ls start new) (sym e.lines) (off start _ e.who e.told));
    }

-- The same, as its last line was answered or not.
pub Heard-ended : {T E : Type 0} (result : Result T E) (had now later : SourceView) (start : Talk) (spot : Spot) (new : Talk) (held all rest : List ℕ) (count : ℕ)
    → Hears had now start spot held → AddsRead held all now.remaining later.remaining count → count ≡ 0
    → later.reads ≡ now.reads + 1 → later.ends ≡ ends_with now.ends count → later.faults ≡ now.faults
    → IsAtEnd later.remaining → rest ≡ all → OnOk result (SaysAll (last_of (Some rest)) spot new) → OnErr result (BreaksAmid (last_of (Some rest)) spot new)
    → Heard had later start new
Heard-ended (Ok done) had now later start spot new held all rest count hears adds none reads ends faults at_end is said off =
    Heard-end had now later start spot new held all count hears adds none reads ends faults at_end (subst (λ (bs : List ℕ). SaysAll (last_of (Some bs)) spot new) is said)
Heard-ended (Err fault) had now later start spot new held all rest count hears adds none reads ends faults at_end is said off =
    Heard-end_breaks had now later start spot new held all count hears adds none reads ends faults at_end (subst (λ (bs : List ℕ). BreaksAmid (last_of (Some bs)) spot new) is off)
