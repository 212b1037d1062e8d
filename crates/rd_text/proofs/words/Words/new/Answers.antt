-- The goals of new that the check left open.
use Rattle.rd_text.proofs.WordLemmas.{words_said, words_only}
use Rattle.rd_text.proofs.words.Words.new.Goals as goal

pub returns-clause-spaced : goal.returns-clause-spaced
returns-clause-spaced c = words_said c.args.line.now

pub returns-clause-only : goal.returns-clause-only
returns-clause-only c = λ words. λ h. words_only words c.args.line.now h
