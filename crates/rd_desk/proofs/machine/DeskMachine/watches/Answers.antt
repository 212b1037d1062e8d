-- The goal of watches that the check left open.
use Rattle.std.proofs.Common.{◌≡◌, ◌∙◌, ap, subst, sym}
use Rattle.rd_reply.specs.Replies.{line_of, watches_text}
use Rattle.rd_state.specs.Boot.{boot_of}
use Rattle.rd_state.specs.Snapshot.{Snapshot}
use Rattle.rd_timeline.specs.History.{state_or}
use Rattle.rd_desk.specs.declared.reply.DeskReply.TheVariants.{Shown}
use Rattle.rd_desk.specs.Debugger.{MachineView, own_watches, target_of}
use Rattle.rd_desk.specs.MachineInside.{debugger_of}
use Rattle.rd_desk.specs.Sessions.{WatchesView}
use Rattle.rd_desk.specs.Views.{watches_shown}
use Rattle.rd_desk.proofs.machine.DeskMachine.watches.Goals as goal

pub returns : goal.returns
returns c =
    let m = c.self.inside in
    let target : target_of (debugger_of m) ≡ m.timeline.target = ap (state_or (boot_of m.timeline.app)) c.by_invariant.ensures.leads in
    subst (λ (v : MachineView). Shown c.in_ok-text.text ≡ Shown (line_of (watches_text (watches_shown (target_of v.debugger) (own_watches v.debugger c.args.who))))) c.self.view_is
    (ap Shown c.in_ok-text.ensures
    ∙ ap (λ (w : WatchesView). Shown (line_of (watches_text (watches_shown m.timeline.target w)))) c.watches-watches.ensures
    ∙ ap (λ (s : Snapshot). Shown (line_of (watches_text (watches_shown s (own_watches (debugger_of m) c.args.who))))) (sym target))
