-- The goals of server_of that the check left open.
use Rattle.std.proofs.Common.{◌≡◌, ◌∙◌, List, ℕ, Option, Some, None, Bor, true, arith, codes, is_some, option_map, refl, sym, true≢false}
use Rattle.clap.specs.Words.{found_of, rows_of, first_of}
use Rattle.rd_start.specs.Requests.{IsServable}
use Rattle.rd_start.proofs.WordsLaws.{number_found, number_in}
use Rattle.rd_start.proofs.options.server_of.Goals as goal

-- a path that was found is there
named : (path : Option (Bor (List ℕ))) (first : Option (List ℕ)) → option_map (λ p. p.now) path ≡ first → is_some first ≡ true
    → is_some path ≡ true
named None first e some = absurd (let none : first ≡ None = sym e in true≢false (sym some ∙ (rw none refl)))
named (Some path) first e some = refl

pub returns-in_err-port-clause-some : goal.returns-in_err-port-clause-some
returns-in_err-port-clause-some c = λ has.
    let given = number_in (codes "port") 1 65535 (found_of c.args.options.now) has.port in
    let refused = c.in_err-port.ensures.value given.0 given.1 in
    absurd (refused.1.0 (given.2.0, given.2.1))

pub returns-in_err-sessions-clause-some : goal.returns-in_err-sessions-clause-some
returns-in_err-sessions-clause-some c = λ has.
    let given = number_in (codes "sessions") 1 64 (found_of c.args.options.now) has.sessions in
    let refused = c.in_err-sessions.ensures.value given.0 given.1 in
    absurd (refused.1.0 (given.2.0, given.2.1))

pub returns-then-can_serve-clause-settings : goal.returns-then-can_serve-clause-settings
returns-then-can_serve-clause-settings c =
    let found = found_of c.args.options.now in
    let port = c.in_ok-port.ensures in
    let sessions = c.in_ok-sessions.ensures in
    record {
      settings = c.requires.settings;
      port = number_found (codes "port") found c.in_ok-port.port port.none (λ t e. (port.value t e).0.1);
      sessions = number_found (codes "sessions") found c.in_ok-sessions.sessions sessions.none (λ t e. (sessions.value t e).0.1);
    }

pub returns-else-can_serve-clause-some : goal.returns-else-can_serve-clause-some
returns-else-can_serve-clause-some c = λ has.
    let found = found_of c.args.options.now in
    let port = number_in (codes "port") 1 65535 found has.port in
    let sessions = number_in (codes "sessions") 1 64 found has.sessions in
    let port_is = (c.in_ok-port.ensures.value port.0 port.1).0.1 in
    let sessions_are = (c.in_ok-sessions.ensures.value sessions.0 sessions.1).0.1 in
    let servable : IsServable c.args.settings c.in_ok-port.port c.in_ok-sessions.sessions = record {
      each = c.requires.limits;
      named = named c.args.settings.app (first_of (codes "app") (rows_of found)) c.requires.settings.app has.app;
      least_port = omega (arith, port_is, port.2.2);
      most_port = omega (arith, port_is, port.2.3);
      one = omega (arith, sessions_are, sessions.2.2);
      most = omega (arith, sessions_are, sessions.2.3);
    } in
    absurd (true≢false (sym (c.can_serve.ensures.1 servable) ∙ c.if-can_serve.false))
