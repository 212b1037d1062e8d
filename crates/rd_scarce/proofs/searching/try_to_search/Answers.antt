-- The goal of try_to_search that the check left open: what is looked for names nothing of an application.
use Rattle.rd_scarce.proofs.searching.try_to_search.Goals as goal

pub search_from-requires-clause-goal : goal.search_from-requires-clause-goal
search_from-requires-clause-goal c = c.in_ok-goal.ensures c.split-program.result.0
