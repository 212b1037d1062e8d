-- The goals of keyword_of that the check left open.
use Rattle.std.proofs.Common.{◌∙◌, ap, option_map}
use Rattle.rd_script.specs.Keywords.{first_written, keywords, texts_of}
use Rattle.rd_script.proofs.KeywordLaws.{keyword_found, keyword_shown, operands_found, operands_shown}
use Rattle.rd_script.proofs.keyword.keyword_of.Goals as goal

pub returns-clause-keyword : goal.returns-clause-keyword
returns-clause-keyword c =
    keyword_shown c.first_written.result ∙ ap (option_map (λ found. found.1)) c.first_written.ensures ∙ keyword_found c.args.word.now keywords

pub returns-clause-operands : goal.returns-clause-operands
returns-clause-operands c =
    operands_shown c.first_written.result (first_written c.args.word.now (texts_of keywords)) c.first_written.ensures (operands_found c.args.word.now keywords)
