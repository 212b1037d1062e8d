-- What holds in each turn of has_only's loop.
use Rattle.std.proofs.Common.{◌≡◌, string_bytes}
use Rattle.std.specs.List.{list_all, list_any}
use Rattle.std.specs.Str.{bytes_eq}
use Rattle.serde_json.specs.View.{members_view}
use Rattle.rd_script.specs.Values.{has_only}
use Rattle.rd_text.specs.Words.{texts}
use Rattle.rd_script.proofs.values.has_only.Given as goal

-- the keys that are left decide
abbrev pub invariant-loop-key : goal.invariant-loop-key
invariant-loop-key l =
    let known = texts l.known in
    list_all (λ key. list_any (bytes_eq (string_bytes key)) known) l.key-iterator
    ≡ has_only known (members_view l.members.entries)
