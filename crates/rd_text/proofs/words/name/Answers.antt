-- The goals of name that the check left open.
use Rattle.std.proofs.Common.{◌≡◌, true, rules}
use Rattle.rd_text.specs.Words.{is_name}
use Rattle.rd_text.proofs.NameLemmas.{name-IsUtf8}
use Rattle.rd_text.proofs.words.name.Goals as goal

pub unwrap-requires : goal.unwrap-requires
unwrap-requires c =
    let named : is_name c.args.word.now ≡ true = search rules in
    let text = name-IsUtf8 c.args.word.now named in
    search rules
