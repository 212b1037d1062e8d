-- The goals of move_to_front that the check left open.
use Rattle.std.proofs.Common.{◌∙◌, ◌-◌, ℕ, List, take, ap}
use Rattle.rd_session.proofs.ReadLaws.{moved_to_front}
use Rattle.rd_session.proofs.lines.move_to_front.Goals as goal

pub returns : goal.returns
returns c =
    ap (λ (xs : List ℕ). take (c.args.end - c.args.start) xs) c.copy_within.ensures.after
    ∙ moved_to_front c.args.buffer.now c.args.start c.args.end c.requires.start c.requires.end
