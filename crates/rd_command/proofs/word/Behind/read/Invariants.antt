-- What holds in each turn of read's loop.
use Rattle.std.proofs.Common.{◌≡◌, ◌≤◌, ◌++◌, length}
use Rattle.rd_command.specs.declared.word.TheConstants.{MAX_WORDS}
use Rattle.rd_command.proofs.word.Behind.read.Given as goal

-- the words so far are read, and as many as there may be
abbrev pub invariant-loop-text : goal.invariant-loop-text
invariant-loop-text l =
    (l.self-inside.words.items ++ l.text-iterator ≡ l.fn.words) × (length l.self-inside.words.items ≤ MAX_WORDS)
