-- What an event leaves of a debugger as it was, and what is known at its end.
use Rattle.std.proofs.Common.{◌≡◌, ◌∙◌, ℕ, ◌+◌, ◌<◌, ◌≤◌, List, [], ◌∷◌, ◌++◌, length, ap, subst, sym}
use Rattle.std.specs.Prelude.{Result, Ok, Err, IfOk}
use Rattle.std.proofs.lemmas.List.{length_push}
use Rattle.rd_names.specs.Apps.{AppView}
use Rattle.rd_desk.specs.declared.entry.Event.{Event}
use Rattle.rd_desk.specs.declared.entry.Receipt.{Receipt}
use Rattle.rd_desk.specs.Debugger.{Debugger, opening}
use Rattle.rd_desk.specs.DeskView.{DeskView, Does, IsSound, used}
use Rattle.rd_desk.specs.Legal.{IsLegal, Leads}
use Rattle.rd_desk.proofs.Offered.{same_served}
use Rattle.rd_hall.specs.Account.{ClosedView}
use Rattle.rd_hall.specs.SeatView.{ReceiptsView, SeatView, seat_with, with_receipt}
use Rattle.rd_desk.specs.declared.entry.HistoryEntry.{HistoryEntry}
use Rattle.rd_hall.specs.Seats.{Finds, IsFound, IsOf, SharedView, Serves}

-- ---- the application and the limits

pub IsOf-does : (old new : DeskView) (who : ℕ) (event : Event) (receipt : Receipt) (app : AppView) (moves entries : ℕ)
    → Does old who event new receipt → IsOf old app moves entries → IsOf new app moves entries
IsOf-does old new who event receipt app moves entries does set_up =
    let same = same_served old.debugger who event in record {
      app = ap (λ (d : Debugger). d.app) does.debugger ∙ same.app ∙ set_up.app;
      most_moves = ap (λ (d : Debugger). d.most_moves) does.debugger ∙ same.most_moves ∙ set_up.most_moves;
      most_entries = does.most_entries ∙ set_up.most_entries;
    }

pub counted-does : (old new : DeskView) (who : ℕ) (event : Event) (receipt : Receipt) → Does old who event new receipt
    → length new.history ≡ length old.history + 1
counted-does old new who event receipt does = ap length does.history ∙ length_push old.history _

-- ---- what is found behind the lock

-- It is found as it was before the share was looked at.
pub found_so : (seen now : SharedView) (app : AppView) (moves entries share : ℕ) → now ≡ seen → IsSound seen.desk → IsOf seen.desk app moves entries
    → share ≤ length seen.desk.history → IsFound app moves entries share now.desk
found_so seen now app moves entries share same sound set_up backed =
    subst (λ (shared : SharedView). IsFound app moves entries share shared.desk) (sym same) (record { sound = sound; set_up = set_up; backed = backed })

-- receipts with one more, which the ledger counts
with_one : (kept longer : ReceiptsView) (share counted : ℕ) (receipt : Receipt) → longer.who ≡ kept.who → longer.receipts ≡ kept.receipts ++ receipt ∷ [] → counted ≡ share + 1
    → seat_with longer counted ≡ with_receipt (seat_with kept share) receipt
with_one kept longer share counted receipt same more one =
    ap (λ (who : ℕ). seat_with (record longer { who = who }) counted) same
    ∙ ap (λ (receipts : List Receipt). seat_with (record kept { receipts = receipts }) counted) more
    ∙ ap (seat_with (record kept { receipts = kept.receipts ++ receipt ∷ [] })) one

-- what was served then for what a seat keeps, whose receipt it keeps now
pub serves_seat : (seat : SeatView) (kept longer : ReceiptsView) (share counted : ℕ) (receipt : Receipt) (asked : Event) (app : AppView) (moves entries : ℕ)
    → seat_with kept share ≡ seat → longer.who ≡ kept.who → longer.receipts ≡ kept.receipts ++ receipt ∷ [] → counted ≡ share + 1
    → Finds app moves entries share (λ d. (used d < d.most_entries) × (new : DeskView) × Does d kept.who asked new receipt)
    → Finds app moves entries seat.share (λ d. (used d < d.most_entries) × Serves d seat asked (seat_with longer counted))
serves_seat seat kept longer share counted receipt asked app moves entries seen same more one found =
    subst (λ (seat : SeatView). Finds app moves entries seat.share (λ d. (used d < d.most_entries) × Serves d seat asked (seat_with longer counted))) seen
    (found.0, found.1, (found.2.0, (found.2.1, (receipt, found.2.2, with_one kept longer share counted receipt same more one))))

-- ---- what is known of a debugger that has ended

pub legal_of : {E : Type 0} (result : Result ClosedView E) (history : List HistoryEntry) (gones : List SeatView) (d : Debugger) (app : AppView) (moves : ℕ)
    → IfOk result (λ closed. closed ≡ record { history = history; gones = gones }) → IsLegal history d → d.app ≡ app → d.most_moves ≡ moves
    → IfOk result (λ closed. (end : Debugger) × Leads (opening app moves) closed.history end)
legal_of (Ok closed) history gones d app moves is legal a m =
    let of_moves : Leads (opening d.app moves) history d = subst (λ (n : ℕ). Leads (opening d.app n) history d) m legal in
    let of_app : Leads (opening app moves) history d = subst (λ (x : AppView). Leads (opening x moves) history d) a of_moves in
    (d, subst (λ (h : List HistoryEntry). Leads (opening app moves) h d) (sym (ap (λ (c : ClosedView). c.history) is)) of_app)
legal_of (Err error) history gones d app moves is legal a m = tt

pub gones_of : {E : Type 0} (result : Result ClosedView E) (history : List HistoryEntry) (gones : List SeatView)
    → IfOk result (λ closed. closed ≡ record { history = history; gones = gones }) → IfOk result (λ closed. closed.gones ≡ gones)
gones_of (Ok closed) history gones is = ap (λ (c : ClosedView). c.gones) is
gones_of (Err error) history gones is = tt
