-- The goals of record_command that the check left open.
use Rattle.std.proofs.Common.{◌≡◌, ◌∙◌, ◌++◌, ◌∷◌, ℕ, [], List, ap, arith, inl, length, subst, sym}
use Rattle.rd_text.specs.Words.{words_of}
use Rattle.rd_state.specs.Change.{Change}
use Rattle.rd_command.specs.Commands.{command_of}
use Rattle.std.specs.Prelude.{Result, Ok, Err, OnErr}
use Rattle.std.proofs.lemmas.List.{length_push}
use Rattle.rd_desk.specs.declared.entry.HistoryEntry.{HistoryEntry}
use Rattle.rd_desk.specs.declared.entry.Event.TheVariants.{Ask}
use Rattle.rd_desk.specs.Asked.{asked_by}
use Rattle.rd_desk.specs.Debugger.{Debugger}
use Rattle.rd_desk.specs.DeskView.{RoomedDesk, entry_of, used}
use Rattle.rd_desk.specs.Legal.{IsLegal}
use Rattle.rd_desk.specs.Memory.{NeedsMemory}
use Rattle.rd_desk.specs.Serving.{IsAnswered}
use Rattle.rd_desk.specs.Sessions.{present_count}
use Rattle.rd_desk.proofs.DeskLaws.{entry_is, legal_push, sessions_stay, a_view_shows}
use Rattle.rd_desk.proofs.desk.Desk.record_command.Goals as goal

pub invariant_of-self-2 : goal.invariant_of-self-2
invariant_of-self-2 c =
    let d = c.self.inside in
    let whole = c.self.invariant in
    let who = c.args.who in
    let command = c.args.order.now.command in
    let reply = c.in_ok-reply.reply in
    let there = rw (← c.self.view_is) at c.requires.there in
    let answered : IsAnswered d.machine.debugger who command c.serve.new.self.debugger reply = c.in_ok-reply.ensures.ok in
    let stay = sessions_stay d.machine.debugger who command there in
    let last = entry_of d.machine.debugger who (Ask command) in
    let kept : HistoryEntry = record { who = who; event = Ask (asked_by c.line-line.result.now); reply = reply } in
    let before : c.make_room_for.new.history.entries ≡ d.history.entries = c.make_room_for.ensures.entries ∙ c.make_room.ensures.entries in
    let entries : c.push.new.self.entries ≡ d.history.entries ++ last ∷ [] =
    c.push.ensures.entries ∙ ap (λ (es : List HistoryEntry). es ++ kept ∷ []) before
    ∙ ap (λ (e : HistoryEntry). d.history.entries ++ e ∷ []) (entry_is d.machine.debugger who c.line-line.result.now command reply (ap (λ (line : List ℕ). command_of (words_of line)) c.line-line.ensures.line ∙ c.line-line.ensures.says) answered.reply_is) in
    let longer = ap length entries in
    let one_more = length_push d.history.entries last in
    let present = ap (λ (e : Debugger). present_count e.sessions) answered.after ∙ stay.present in
    let joins = ap (λ (e : Debugger). length e.sessions) answered.after ∙ stay.joins in
    let seen = ap (λ (v : RoomedDesk). used v.desk) c.self.view_is in
    let limit = ap (λ (v : RoomedDesk). v.desk.most_entries) c.self.view_is in
    record {
      legal = legal_push d.machine.debugger d.history.entries who (Ask command) c.serve.new.self.debugger c.push.new.self.entries whole.legal there answered.after entries;
      within = omega (arith, longer, one_more, present, seen, limit, c.requires.free);
      joins = omega (arith, joins, whole.joins);
      room = omega (arith, present, c.push.ensures.room, c.make_room_for.ensures.rows, c.in_ok-make_room.ensures.ok_rows, c.present-rows.ensures);
    }

pub invariant_of-self-in_err-make_room_for : goal.invariant_of-self-in_err-make_room_for
invariant_of-self-in_err-make_room_for c =
    let d = c.self.inside in
    let whole = c.self.invariant in
    let who = c.args.who in
    let command = c.args.order.now.command in
    let reply = c.in_ok-reply.reply in
    let answered : IsAnswered d.machine.debugger who command c.serve.new.self.debugger reply = c.in_ok-reply.ensures.ok in
    let same : c.serve.new.self.debugger ≡ d.machine.debugger =
    answered.after ∙ (a_view_shows d.machine.debugger who command reply answered.reply_is c.in_err-make_room_for.ensures.err).0 in
    let before : c.make_room_for.new.history.entries ≡ d.history.entries = c.make_room_for.ensures.entries ∙ c.make_room.ensures.entries in
    let longer = ap length before in
    let present = ap (λ (e : Debugger). present_count e.sessions) same in
    let joins = ap (λ (e : Debugger). length e.sessions) same in
    record {
      legal = subst (λ (e : Debugger). IsLegal c.make_room_for.new.history.entries e) (sym same)
          (subst (λ (es : List HistoryEntry). IsLegal es d.machine.debugger) (sym before) whole.legal);
      within = omega (arith, longer, present, whole.within);
      joins = omega (arith, joins, whole.joins);
      room = omega (arith, present, c.make_room_for.ensures.rows, c.make_room.ensures.rows_grow, whole.room);
    }

on_err : {T E : Type 0} (P : Type 0) (result : Result T E) → P → OnErr result P
on_err P (Ok value) p = tt
on_err P (Err error) p = p

pub returns-in_err-make_room_for-clause-err : goal.returns-in_err-make_room_for-clause-err
returns-in_err-make_room_for-clause-err c =
    let d = c.self.inside in
    let who = c.args.who in
    let command = c.args.order.now.command in
    let reply = c.in_ok-reply.reply in
    let answered : IsAnswered d.machine.debugger who command c.serve.new.self.debugger reply = c.in_ok-reply.ensures.ok in
    let same : c.serve.new.self.debugger ≡ d.machine.debugger =
    answered.after ∙ (a_view_shows d.machine.debugger who command reply answered.reply_is c.in_err-make_room_for.ensures.err).0 in
    let before : c.make_room_for.new.history.entries ≡ d.history.entries = c.make_room_for.ensures.entries ∙ c.make_room.ensures.entries in
    let stays : c.serve.new.self.log ≡ d.machine.log = c.in_ok-reply.ensures.shown c.in_err-make_room_for.ensures.err in
    on_err _ c.from_residual-in_err-make_room_for.result
    (ap (λ (e : Debugger). record { debugger = e; log = c.serve.new.self.log; most_entries = d.limit; history = c.make_room_for.new.history.entries }) same
    ∙ ap (λ (log : List (List Change)). record { debugger = d.machine.debugger; log = log; most_entries = d.limit; history = c.make_room_for.new.history.entries }) stays
    ∙ ap (λ (es : List HistoryEntry). record { debugger = d.machine.debugger; log = d.machine.log; most_entries = d.limit; history = es }) before
    ∙ ap (λ (v : RoomedDesk). v.desk) c.self.view_is)

pub returns-in_err-make_room_for-clause-lacks : goal.returns-in_err-make_room_for-clause-lacks
returns-in_err-make_room_for-clause-lacks c =
    let who = c.args.who in
    let command = c.args.order.now.command in
    let answered : IsAnswered c.self.inside.machine.debugger who command c.serve.new.self.debugger c.in_ok-reply.reply = c.in_ok-reply.ensures.ok in
    let shows = a_view_shows c.self.inside.machine.debugger who command c.in_ok-reply.reply answered.reply_is c.in_err-make_room_for.ensures.err in
    let needs = subst (λ (v : RoomedDesk). NeedsMemory v.desk.debugger who command) c.self.view_is shows.1 in
    on_err _ c.from_residual-in_err-make_room_for.result (inl needs)
