-- The goal of `Desk::by_invariant` that the check left open.
use Rattle.std.proofs.Common.{subst}
use Rattle.rd_desk.specs.DeskView.{IsSound, RoomedDesk}
use Rattle.rd_desk.proofs.desk.Desk.by_invariant.Goals as goal

pub returns : goal.returns
returns c =
    let whole = c.self.invariant in
    let now = c.by_invariant.ensures in
    subst (λ (v : RoomedDesk). IsSound v.desk) c.self.view_is (record {
      legal = whole.legal;
      within = whole.within;
      joins = whole.joins;
      leads = now.leads;
      leads_back = now.leads_back;
      paired = now.paired;
    })
