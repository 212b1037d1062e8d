-- The goals of load where a file is named.
use Rattle.rd_start.proofs.FaultLaws.{opened_app, opened_fault, opened_refused}
use Rattle.rd_start.proofs.file.load.Goals as goal

pub returns-clause-app : goal.returns-clause-app
returns-clause-app g c = λ _. opened_app _ c.open.result c.app_of_opened.result c.app_of_opened.ensures.failed c.app_of_opened.ensures.app

pub returns-clause-refused : goal.returns-clause-refused
returns-clause-refused g c = opened_refused _ c.open.result c.app_of_opened.result c.app_of_opened.ensures.failed c.app_of_opened.ensures.fault

pub returns-clause-fault : goal.returns-clause-fault
returns-clause-fault g c = opened_fault _ c.open.result c.app_of_opened.result c.app_of_opened.ensures.failed c.app_of_opened.ensures.fault
