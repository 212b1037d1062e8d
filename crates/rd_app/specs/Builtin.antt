-- The built-in application: one task that sends three times to a queue with room for two items.
use Rattle.std.specs.Prelude.{List, [], ◌∷◌}
use Rattle.rd_app.specs.declared.instr.Instr.{Instr}
use Rattle.rd_app.specs.declared.instr.Operand.TheVariants.{Number}
use Rattle.rd_app.specs.declared.instr.Instr.TheVariants.{Local, Queue}
use Rattle.rd_app.specs.declared.instr.LocalInstr.TheVariants.{Data, End}
use Rattle.rd_app.specs.declared.instr.QueueCall.TheVariants.{Send}
use Rattle.rd_app.specs.declared.profile.Profile.TheVariants.{One}
use Rattle.rd_queue.specs.declared.end.End.TheVariants.{Back}
use Rattle.rd_app.specs.Application.{Application}
use Rattle.rd_app.specs.Objects.{no_shapes}

-- the instructions of its task
abbrev pub builtin_code : List Instr
builtin_code =
    Local (Data (65 ∷ []))
    ∷ Queue 0 (Send Back (Number 0))
    ∷ Queue 0 (Send Back (Number 0))
    ∷ Queue 0 (Send Back (Number 0))
    ∷ Local End
    ∷ []

abbrev pub builtin : Application
builtin = record {
  profile = One;
  cores = 1;
  entries = 1;
  tick = 0;
  objects = record no_shapes { queues = record { capacity = 2; item_size = 1 } ∷ [] };
  tasks = record { priority = 1; code = builtin_code } ∷ [];
}
