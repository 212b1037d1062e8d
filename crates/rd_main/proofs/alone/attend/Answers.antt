-- What the one session was: the goal of attend that the check left open.
use Rattle.std.proofs.Common.{rules}
use Rattle.rd_main.proofs.alone.attend.Goals as goal

pub returns-in-Ok-finish-clause-attended : goal.returns-in-Ok-finish-clause-attended
returns-in-Ok-finish-clause-attended g c =
    let heard = c.session-gone.ensures.heard in
    record {
      gone = c.session-gone.result;
      alone = search (rules, c.in-Ok-finish.ensures.gones, c.push_reserved.ensures.items, c.in_ok-gones.ensures.items);
      attended = record {
        joined = c.in-Ok.seat.session;
        entered = c.in-Ok.ensures.ok;
        stayed = heard.0;
        heard = heard.1;
        left = heard.2;
      };
    }
