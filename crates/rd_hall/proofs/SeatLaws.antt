-- A series with one receipt more, and receipts as they are kept.
use Rattle.std.proofs.Common.{◌≡◌, ℕ, ◌+◌, ◌-◌, ◌≤◌, List, [], ◌∷◌, ◌++◌, length, map, refl, ap, subst, sym, arith, ◌∙◌}
use Rattle.std.specs.Prelude.{Some, IsSomeAnd, slice_get}
use Rattle.std.proofs.lemmas.List.{length_push}
use Rattle.rd_desk.specs.declared.entry.Noted.{Noted}
use Rattle.rd_desk.specs.declared.entry.Receipt.{Receipt}
use Rattle.rd_desk.specs.Rows.{receipt_of}
use Rattle.rd_hall.specs.Account.{first_place}
use Rattle.rd_hall.specs.SeatView.{SeatView, AreReceipts, IsSeries, IsSeat, next_place, seat_of}

pub IsSeries-push : (who place : ℕ) (rs : List Receipt) (r : Receipt) → IsSeries who place rs → r.entry.who ≡ who → next_place place rs ≤ r.place
    → IsSeries who place (rs ++ r ∷ [])
IsSeries-push who place [] r series by behind = (by, behind, tt)
IsSeries-push who place (x ∷ xs) r series by behind = (series.0, series.1, IsSeries-push who (x.place + 1) xs r series.2 by behind)

pub next_place-push : (place : ℕ) (rs : List Receipt) (r : Receipt) → next_place place (rs ++ r ∷ []) ≡ r.place + 1
next_place-push place [] r = refl
next_place-push place (x ∷ xs) r = next_place-push (x.place + 1) xs r

get_pushed : (rs : List Receipt) (r : Receipt) → slice_get (rs ++ r ∷ []) (length rs) ≡ Some r
get_pushed [] r = refl
get_pushed (x ∷ xs) r = get_pushed xs r

-- it is the last one then
last_push : (receipts longer : List Receipt) (r : Receipt) → longer ≡ receipts ++ r ∷ [] → slice_get longer (length longer - 1) ≡ Some r
last_push receipts longer r is =
    let at : length longer - 1 ≡ length receipts = omega (arith, ap length is, length_push receipts r) in
    ap (slice_get longer) at ∙ ap (λ (rs : List Receipt). slice_get rs (length receipts)) is ∙ get_pushed receipts r

-- receipts with one more, behind them
pub AreReceipts-push : (who : ℕ) (receipts longer : List Receipt) (behind behind' : ℕ) (r : Receipt) → AreReceipts who receipts behind
    → r.entry.who ≡ who → next_place 0 receipts ≤ r.place → longer ≡ receipts ++ r ∷ [] → behind' ≡ r.place + 1 → AreReceipts who longer behind'
AreReceipts-push who receipts longer behind behind' r before by place is n = record {
  some = omega (arith, ap length is, length_push receipts r);
  series = subst (IsSeries who 0) (sym is) (IsSeries-push who 0 receipts r before.series by place);
  next = n ∙ sym (ap (next_place 0) is ∙ next_place-push 0 receipts r);
}

-- and so with the last of them, which stands by itself
pub receipts-push : (who : ℕ) (receipts longer : List Receipt) (behind behind' : ℕ) (r : Receipt) → AreReceipts who receipts behind
    → r.entry.who ≡ who → next_place 0 receipts ≤ r.place → longer ≡ receipts ++ r ∷ [] → behind' ≡ r.place + 1
    → AreReceipts who longer behind' × (slice_get longer (length longer - 1) ≡ Some r)
receipts-push who receipts longer behind behind' r before by place is n =
    (AreReceipts-push who receipts longer behind behind' r before by place is n, last_push receipts longer r is)

-- a seat whose fields are these
pub IsSeat-of : (who : ℕ) (receipts : List Receipt) (behind parts amount : ℕ) → AreReceipts who receipts behind → parts ≡ 1 → amount ≡ length receipts
    → IsSeat (record { who = who; receipts = receipts; share = amount }) behind parts amount
IsSeat-of who receipts behind parts amount are part all = record { receipts = are; parts = part; amount = all }

-- a seat with the receipt of what was done for it
pub IsSeat-push : (seat : SeatView) (next parts amount : ℕ) (r : Receipt) (receipts : List Receipt) (next' parts' amount' : ℕ) → IsSeat seat next parts amount
    → r.entry.who ≡ seat.who → next ≤ r.place → receipts ≡ seat.receipts ++ r ∷ [] → next' ≡ r.place + 1 → parts' ≡ parts → amount' ≡ amount + 1
    → IsSeat (record { who = seat.who; receipts = receipts; share = amount' }) next' parts' amount'
IsSeat-push seat next parts amount r receipts next' parts' amount' before by behind is n p a = record {
  receipts = AreReceipts-push seat.who seat.receipts receipts next next' r before.receipts by (omega (arith, behind, before.receipts.next)) is n;
  parts = p ∙ before.parts;
  amount = omega (arith, a, before.amount, ap length is, length_push seat.receipts r);
}

-- ---- receipts as they are kept

first_of : (who : ℕ) (noted : List Noted) (place : ℕ) → IsSomeAnd (slice_get noted 0) (λ one. place ≡ one.number) → place ≡ first_place (map (receipt_of who) noted)
first_of who [] place none = absurd none
first_of who (one ∷ later) place is = is

-- the place of the first receipt
pub first_is : (who : ℕ) (noted : List Noted) (place share : ℕ) (now : SeatView) → seat_of who noted share ≡ now
    → IsSomeAnd (slice_get noted 0) (λ one. place ≡ one.number) → place ≡ first_place now.receipts
first_is who noted place share now seen is = first_of who noted place is ∙ ap (λ (seat : SeatView). first_place seat.receipts) seen
