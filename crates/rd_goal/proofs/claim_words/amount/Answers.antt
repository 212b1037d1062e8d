use Rattle.std.proofs.Common.{rules}
use Rattle.rd_goal.proofs.claim_words.amount.Goals as goal

pub wanted-requires : goal.wanted-requires
wanted-requires c = (c.args.word.now, c.requires.last, (c.requires.other.0, c.requires.other.1, search rules))
