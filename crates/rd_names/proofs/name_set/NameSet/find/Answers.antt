-- The goal of find that the check left open.
use Rattle.std.proofs.Common.{◌∙◌, ap, sym, string_bytes, position}
use Rattle.std.specs.Str.{bytes_eq}
use Rattle.rd_names.proofs.SetLaws.{position-map}
use Rattle.rd_names.proofs.name_set.NameSet.find.Goals as goal

pub returns : goal.returns
returns c =
    let test = bytes_eq c.args.name.now in
    c.get_index_of.ensures.index ∙ sym (position-map test string_bytes c.self.inside.ordered.keys) ∙ ap (position test) c.self.view_is
