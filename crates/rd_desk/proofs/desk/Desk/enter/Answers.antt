-- The goal of enter that the check left open.
use Rattle.std.proofs.Common.{◌≡◌, ◌∙◌, ◌+◌, ◌++◌, ◌∷◌, [], List, ap, arith, length, refl}
use Rattle.std.proofs.lemmas.List.{length_push}
use Rattle.rd_desk.specs.declared.entry.HistoryEntry.{HistoryEntry}
use Rattle.rd_desk.specs.declared.entry.Event.TheVariants.{Enter}
use Rattle.rd_desk.specs.Debugger.{Debugger}
use Rattle.rd_desk.specs.DeskView.{RoomedDesk, entry_of, used}
use Rattle.rd_desk.proofs.DeskLaws.{legal_push}
use Rattle.rd_desk.proofs.desk.Desk.enter.Goals as goal

pub invariant_of-self : goal.invariant_of-self
invariant_of-self c =
    let d = c.self.inside in
    let whole = c.self.invariant in
    let who = length d.machine.debugger.sessions + 1 in
    let last = entry_of d.machine.debugger who Enter in
    let entries : c.admit.new.history.entries ≡ d.history.entries ++ last ∷ [] =
    c.admit.ensures.history ∙ ap (λ (es : List HistoryEntry). es ++ last ∷ []) c.make_room.ensures.entries in
    let longer = ap length entries in
    let one_more = length_push d.history.entries last in
    let one_joined = ap (λ (e : Debugger). length e.sessions) c.admit.ensures.machine in
    let joined = length_push d.machine.debugger.sessions in
    let seen = ap (λ (v : RoomedDesk). used v.desk) c.self.view_is in
    let limit = ap (λ (v : RoomedDesk). v.desk.most_entries) c.self.view_is in
    let before = ap (λ (v : RoomedDesk). length v.desk.debugger.sessions) c.self.view_is in
    let may = c.in_ok-may_enter.ensures.ok in
    record {
      legal = legal_push d.machine.debugger d.history.entries who Enter c.admit.new.machine.debugger c.admit.new.history.entries whole.legal refl c.admit.ensures.machine entries;
      within = omega (arith, longer, one_more, c.admit.ensures.present, seen, limit, may.free);
      joins = omega (arith, one_joined, joined, before, may.joins);
      room = omega (arith, c.admit.ensures.present, c.admit.ensures.room, c.in-Ok.ensures.ok_rows, whole.room);
    }
