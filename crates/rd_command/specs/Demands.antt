-- What a command asks of a timeline.
use Rattle.rd_moves.specs.Requests.{PlainRequest}
use Rattle.rd_command.specs.declared.demand.Form.{Form}
use Rattle.rd_command.specs.declared.demand.Form.TheVariants.{Bare, Carrying}
use Rattle.rd_command.specs.Keywords.{carrying}

-- the request that it is
abbrev pub demanded : Form → PlainRequest
demanded (Bare request) = request
demanded (Carrying carried) = carrying carried
