-- The goals of tell that the check left open.
use Rattle.std.proofs.Common.{◌∙◌, refl, sym, ap}
use Rattle.std.proofs.lemmas.List.{append-nil}
use Rattle.rd_session.specs.Gathering.{line_in}
use Rattle.rd_session.specs.Replies.{reply_line}
use Rattle.rd_session.proofs.GatheringLaws.{Talking-gathered}
use Rattle.rd_session.proofs.spot.Spot.tell.Goals as goal

pub returns-in-Done-clause-said : goal.returns-in-Done-clause-said
returns-in-Done-clause-said g c = λ start heard answer who says t.
    Talking-gathered start heard _ answer _ _ _ _ _ (says ∙ ap line_in c.last.ensures ∙ ap reply_line c.in-Done.is) (sym (append-nil c.args.self.now.pending.now.bytes)) refl refl t

pub returns-in-Told-clause-said : goal.returns-in-Told-clause-said
returns-in-Told-clause-said g c = λ start heard answer who says t.
    Talking-gathered start heard _ answer _ _ _ _ _ (says ∙ ap line_in c.last.ensures ∙ ap reply_line c.in-Told.is) c.put_short.ensures.bytes c.put_short.ensures.begun c.put_short.ensures.out t

pub returns-then-fits-clause-said : goal.returns-then-fits-clause-said
returns-then-fits-clause-said g c = λ start heard answer who says t.
    Talking-gathered start heard _ answer _ _ _ _ _ (says ∙ ap line_in c.last.ensures ∙ ap reply_line c.in-Shown.is) (rw c.as_slice-line.ensures at c.put.ensures.bytes) c.put.ensures.begun c.put.ensures.out t
