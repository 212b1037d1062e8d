-- The goals of index_of that the check left open.
use Rattle.std.proofs.Common.{ℕ, Option, ap, ok_or, sym}
use Rattle.std.specs.Str.{bytes_eq}
use Rattle.std.proofs.lemmas.Iterator.Adapters.{position_from-zero}
use Rattle.rd_script.specs.declared.error.AppError.TheVariants as fault
use Rattle.rd_text.specs.Words.{texts}
use Rattle.rd_script.proofs.reader.index_of.Goals as goal

pub loop-index-init : goal.loop-index-init
loop-index-init c = ap (λ (o : Option ℕ). ok_or o fault.Name) (sym (position_from-zero (bytes_eq c.args.name.now) (texts c.args.names.now)))
