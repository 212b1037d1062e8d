-- The goals of `back_until` that the check left open.
use Rattle.std.proofs.Common.{◌≡◌, ◌∙◌, ◌+◌, ◌-◌, ◌<◌, cond, ap, arith, drop, length, sym, take, Some}
use Rattle.std.proofs.lemmas.Bool.{false≢true}
use Rattle.rd_timeline.specs.Backward.{last_met}
use Rattle.rd_timeline.specs.Course.{base_of}
use Rattle.rd_timeline.specs.LogView.{bytes_of}
use Rattle.rd_timeline.specs.Runs.{back_at, moves_of}
use Rattle.rd_timeline.proofs.BackwardLaws.{IsBack-here, IsBack-next, looked_back, place_back}
use Rattle.rd_timeline.proofs.HistoryLaws.{on_ok}
use Rattle.rd_timeline.proofs.timeline.Timeline.back_until.Goals as goal

pub loop-init : goal.loop-init
loop-init c =
    let old = c.args.self.now in
    let all : length old.log - 0 ≡ length old.done - base_of old = omega (arith, c.by_invariant.ensures.traced.records) in record {
      place = ap (last_met old.app c.args.condition (base_of old) old.done) all;
      back = IsBack-here old;
    }

pub loop-preserved : goal.loop-preserved
loop-preserved c =
    let i = c.loop.invariant in
    let old = c.args.self.now in
    let new = c.back.new.self in
    let went = c.back.ensures in
    let fewer = c.by_invariant.ensures.traced.records in
    let less : c.loop.counter < length old.log = omega (arith, c.loop-test.true, c.kept-end.ensures) in
    let back =
    IsBack-next old c.loop.self new c.loop.counter c.unwrap.result c.back.result i.back less fewer c.unwrap.ensures went.moves went.log went.app went.limit
    went.room went.read in
    let leads = on_ok c.back.result c.unwrap.result c.unwrap.ensures went.leads in
    let rest = last_met old.app c.args.condition (base_of old) old.done (length old.log - (c.loop.counter + 1)) in record {
      place =
          sym (looked_back old new c.args.condition c.loop.counter back less fewer leads
          ∙ ap (λ b. cond b (Some (length new.done)) rest) (sym c.meets.ensures ∙ c.if-meets.false)) ∙ i.place;
      back = back;
    }

pub returns-then-meets : goal.returns-then-meets
returns-then-meets c =
    let i = c.loop.invariant in
    let old = c.args.self.now in
    let new = c.back.new.self in
    let went = c.back.ensures in
    let fewer = c.by_invariant.ensures.traced.records in
    let less : c.loop.counter < length old.log = omega (arith, c.loop-test.true, c.kept-end.ensures) in
    let back =
    IsBack-next old c.loop.self new c.loop.counter c.unwrap.result c.back.result i.back less fewer c.unwrap.ensures went.moves went.log went.app went.limit
    went.room went.read in
    let leads = on_ok c.back.result c.unwrap.result c.unwrap.ensures went.leads in
    let rest = last_met old.app c.args.condition (base_of old) old.done (length old.log - (c.loop.counter + 1)) in
    let place = place_back old new (c.loop.counter + 1) c.at.result back (omega (arith, less)) fewer c.at.ensures in record {
      at = c.at.ensures;
      place =
          ap Some c.at.ensures
          ∙ sym (looked_back old new c.args.condition c.loop.counter back less fewer leads
          ∙ ap (λ b. cond b (Some (length new.done)) rest) (sym c.meets.ensures ∙ c.if-meets.true)) ∙ i.place;
      start = λ same. absurd (false≢true (sym same));
      moves = back.moves ∙ ap (back_at (moves_of old)) place.0;
      log = back.log ∙ ap (λ k. take k old.log) place.1;
      app = back.app;
      limit = back.limit;
      room = back.room;
      read = back.read ∙ ap (λ k. old.read + bytes_of (drop k old.log)) place.1;
      leads = leads;
    }

pub returns : goal.returns
returns c =
    let i = c.loop.invariant in
    let old = c.args.self.now in
    let fewer = c.by_invariant.ensures.traced.records in
    let all : c.loop.counter ≡ length old.log = omega (arith, c.loop-test.false, c.loop.auto.counter-end, c.kept-end.ensures) in
    let none : length old.log - c.loop.counter ≡ 0 = omega (arith, all) in
    let place = place_back old c.loop.self c.loop.counter c.at-2.result i.back (omega (arith, all)) fewer c.at-2.ensures in record {
      at = c.at-2.ensures;
      place = sym (ap (last_met old.app c.args.condition (base_of old) old.done) none) ∙ i.place;
      start = λ same. sym place.0 ∙ ap (λ n. length old.done - n) all;
      moves = i.back.moves ∙ ap (back_at (moves_of old)) place.0;
      log = i.back.log ∙ ap (λ k. take k old.log) place.1;
      app = i.back.app;
      limit = i.back.limit;
      room = i.back.room;
      read = i.back.read ∙ ap (λ k. old.read + bytes_of (drop k old.log)) place.1;
      leads = c.by_invariant-2.ensures.leads;
    }
