-- What becomes of a page through several texts that are appended to it.
use Rattle.std.proofs.Common.{◌≡◌, ◌∙◌, refl, sym, subst, Bool, false, true, true≢false, ℕ, List}
use Rattle.std.proofs.Common.{◌++◌, length, ap, arith, append_assoc, length-append}
use Rattle.std.specs.Global.{Vec}
use Rattle.rd_reply.specs.declared.page.Page.{Page}
use Rattle.rd_reply.specs.Pages.{Appends, LacksRoom, PageFrontStays}

front_then : (old between new : Vec ℕ)
    → PageFrontStays old between → PageFrontStays between new → PageFrontStays old new
front_then old between new first second = record {
  front = λ count within. second.front count (omega (arith, within, first.len))
      ∙ first.front count within;
  len = omega (arith, first.len, second.len);
  room = omega (arith, first.room, second.room);
}

-- A page that isn't full in the end wasn't before.
fits_before : (before after : Bool)
    → (before ≡ true → after ≡ true) → after ≡ false → before ≡ false
fits_before false after stays fits = refl
fits_before true after stays fits = absurd (true≢false (sym (stays refl) ∙ fits))

-- Where there is no room for a text, there is none for a longer one.
full_at_first : (page : Vec ℕ) (s t : List ℕ) → LacksRoom page s → LacksRoom page (s ++ t)
full_at_first page s t full = omega (arith, full, length-append s t)

full_at_second : (old between : Vec ℕ) (s t : List ℕ) → between.items ≡ old.items ++ s
    → PageFrontStays old between
    → LacksRoom between t → LacksRoom old (s ++ t)
full_at_second old between s t is front full =
    omega (
      arith,
      full,
      front.room,
      length-append s t,
      ap length is,
      length-append old.items s,
      old.ok.0,
      between.ok.0,
    )

full_then : (old between new : Page) (s t : List ℕ) → Appends old between s → Appends between new t
    → new.is_full ≡ true → old.is_full ≡ false → (is : Bool) → between.is_full ≡ is
    → LacksRoom old.bytes.now (s ++ t)
full_then old between new s t first second full fits false is =
    full_at_second old.bytes.now between.bytes.now s t (first.added is) first.front
    (second.full full is)
full_then old between new s t first second full fits true is =
    full_at_first old.bytes.now s t (first.full is fits)

-- one text and then another
pub appends_then : {old between new : Page} {s t : List ℕ}
    → Appends old between s → Appends between new t → Appends old new (s ++ t)
appends_then {old = old} {between = between} {new = new} {s = s} {t = t} first second = record {
  same = second.same ∙ first.same;
  added = λ fits.
      second.added fits
      ∙ ap (λ (bytes : List ℕ). bytes ++ t)
      (first.added (fits_before between.is_full new.is_full second.stays fits))
      ∙ append_assoc old.bytes.now.items s t;
  full = λ is_full fits.
      full_then old between new s t first second is_full fits between.is_full refl;
  stays = λ is_full. second.stays (first.stays is_full);
  front = front_then _ _ _ first.front second.front;
}

-- the same text, written in another way
pub appends_as : {old new : Page} {s t : List ℕ} → Appends old new s → s ≡ t → Appends old new t
appends_as {old = old} {new = new} appends same = subst (Appends old new) same appends
