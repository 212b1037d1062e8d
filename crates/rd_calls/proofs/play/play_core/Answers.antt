-- The goals of `play_core` that the check left open.
use Rattle.std.proofs.Common.{◌≡◌, refl, rules}
use Rattle.std.specs.Prelude.{OnErr, OnOk}
use Rattle.rd_state.specs.EditingView.{added, begun_at}
use Rattle.rd_moves.specs.declared.moves.Move.TheVariants as move
use Rattle.rd_calls.specs.Step.{IsPlayed}
use Rattle.rd_calls.proofs.CarriedLaws.{CanPlay-from}
use Rattle.rd_calls.proofs.PlayLaws.{IsPlayed-from, Leads-core, err_room-from, grows-from, room-from, short-from}
use Rattle.rd_calls.proofs.play.play_core.Goals as goal

pub returns : goal.returns
returns c =
    let old = c.args.editing.now in
    let app = c.args.app.now in
    let made = c.move_core-made in
    let begun = begun_at old.now old.changes old.room old.calm in
    let leads = Leads-core app old.now c.args.core c.args.task c.limits.ensures c.requires.caller.valid c.requires.core c.requires.task in
    let played : OnOk made.result (IsPlayed app old.now (move.Core c.args.core) c.finish.new.editing.now (added old.changes c.finish.new.editing.changes)) =
    IsPlayed-from made.result app old.now c.finish.new.editing.now _ _ _ c.begin.new.self _ old.changes c.finish.new.editing.changes old.room old.calm
    (search rules) leads c.finish.ensures.sized (search rules) c.finish.ensures.state c.finish.ensures.record in
    let state : OnErr made.result (c.finish.new.editing.now ≡ old.now) = search rules in
    rw c.finish.ensures.made
    (record {
      before = search rules;
      played = played;
      room = room-from made.result app old.now _ _ _ old.room c.finish.new.editing.room begun made.new.editing refl leads (rw c.begin.ensures at made.ensures.ok) c.finish.ensures.room;
      short = short-from made.result app old.now _ _ _ old.room begun made.new.editing refl leads (rw c.begin.ensures at made.ensures.err);
      state = state;
      changes = search rules;
      err_room = err_room-from made.result _ begun made.new.editing c.finish.new.editing refl c.finish.ensures.capacity (rw c.begin.ensures at made.ensures.err) c.finish.ensures.err_record;
      grows = rw c.finish.ensures.capacity (grows-from made.result _ _ begun made.new.editing (rw c.begin.ensures at made.ensures.ok) (rw c.begin.ensures at made.ensures.err));
      can_play =
          CanPlay-from made.result app old.now _ _ _ begun made.new.editing c.finish.new.editing (added old.changes c.finish.new.editing.changes) c.requires.caller.valid c.requires.calm
          (rw c.begin.ensures at made.ensures.ok) (rw c.begin.ensures at made.ensures.err) c.finish.ensures.calm played state;
    })
