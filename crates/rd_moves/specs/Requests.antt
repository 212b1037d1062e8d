-- Requests: what each names of an application.
use Rattle.rd_app.specs.Application.{Application}
use Rattle.rd_condition.specs.declared.condition.Condition.{Condition}
use Rattle.rd_condition.specs.Conditions.{IsConditionOf}
use Rattle.rd_moves.specs.Carried.{PlainCarried}
use Rattle.rd_moves.specs.declared.request.Request as requests
use Rattle.rd_moves.specs.declared.request.Request.TheVariants.{Go, Back, Forward, Redo, Until}
use Rattle.rd_moves.specs.declared.request.Request.TheVariants.{BackUntil, Trim}
use Rattle.rd_moves.specs.declared.request.Search.{Search}
use Rattle.rd_moves.specs.declared.request.Search.TheVariants as search
use Rattle.rd_moves.specs.Moves.{IsMoveOf}

-- a request with what its move carries, wherever that stands
abbrev pub PlainRequest : Type 0
PlainRequest = requests.Request PlainCarried

-- The request names what the application has. (That a count is one says its type.)
abbrev pub IsRequestOf : Application → PlainRequest → Type 0
IsRequestOf app (Go action) = IsMoveOf app action
IsRequestOf app (Back count) = Unit {0}
IsRequestOf app (Forward count) = Unit {0}
IsRequestOf app (Redo count) = Unit {0}
IsRequestOf app (Until condition count) = IsConditionOf app condition
IsRequestOf app (BackUntil condition) = IsConditionOf app condition
IsRequestOf app (Trim keep) = Unit {0}

-- the search for a condition, as a request
abbrev pub request_for : Search → Condition → PlainRequest
request_for (search.Until count) condition = Until condition count
request_for search.BackUntil condition = BackUntil condition
