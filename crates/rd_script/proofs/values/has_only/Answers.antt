-- The goals of has_only that the check left open.
use Rattle.std.proofs.Common.{◌∙◌, ℕ, List, String, Global, string_bytes, sym, ap}
use Rattle.std.specs.List.{list_any, list_all}
use Rattle.std.specs.Str.{bytes_eq}
use Rattle.rd_text.specs.Words.{texts}
use Rattle.rd_script.proofs.FileLemmas.{keys_all}
use Rattle.rd_script.proofs.values.has_only.Goals as goal

pub loop-key-init : goal.loop-key-init
loop-key-init c =
    let test = λ (key : List ℕ). list_any (bytes_eq key) (texts c.args.known.now) in
    ap (λ (keys : List (String Global)). list_all (λ key. test (string_bytes key)) keys)
    (c.into_iter-key-iterator.ensures.into_iter_gives ∙ c.keys-key-items.ensures.rest)
    ∙ sym (keys_all test c.args.members.now.entries)
