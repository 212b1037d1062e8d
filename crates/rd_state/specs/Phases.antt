-- What a phase says of its task. All else that hangs on phases is defined by these.
use Rattle.std.specs.Prelude.{ℕ, Bool, true, false, Option, Some, None, is_some}
use Rattle.rd_state.specs.declared.phase.Phase.{Phase}
use Rattle.rd_state.specs.declared.phase.Phase.TheVariants.{Run, Again, Given, Wait}
use Rattle.rd_state.specs.declared.phase.Phase.TheVariants.{Ended, Failed}
use Rattle.rd_state.specs.declared.phase.Place.{Place}

-- Can it run? Then it is on a core, or ready.
abbrev pub can_run : Phase → Bool
can_run Run = true
can_run (Again deadline) = true
can_run (Given bits) = true
can_run (Wait place deadline) = false
can_run Ended = false
can_run (Failed cause) = false

-- Was it woken from a call, which it tries again?
abbrev pub tries_again : Phase → Bool
tries_again Run = false
tries_again (Again deadline) = true
tries_again (Given bits) = false
tries_again (Wait place deadline) = false
tries_again Ended = false
tries_again (Failed cause) = false

-- Is a call of a task in this phase its first try?
abbrev pub is_first : Phase → Bool
is_first Run = true
is_first (Again deadline) = false
is_first (Given bits) = false
is_first (Wait place deadline) = false
is_first Ended = false
is_first (Failed cause) = false

-- the place where it waits, if it does
abbrev pub waits_at : Phase → Option Place
waits_at Run = None
waits_at (Again deadline) = None
waits_at (Given bits) = None
waits_at (Wait place deadline) = Some place
waits_at Ended = None
waits_at (Failed cause) = None

-- Is it in a call that it began before, whether it waits or tries it again?
abbrev pub is_in_call : Phase → Bool
is_in_call Run = false
is_in_call (Again deadline) = true
is_in_call (Given bits) = false
is_in_call (Wait place deadline) = true
is_in_call Ended = false
is_in_call (Failed cause) = false

-- the bits that an event group gave it, which its call has only to return
abbrev pub given_bits : Phase → Option ℕ
given_bits Run = None
given_bits (Again deadline) = None
given_bits (Given bits) = Some bits
given_bits (Wait place deadline) = None
given_bits Ended = None
given_bits (Failed cause) = None

abbrev pub was_given : Phase → Bool
was_given phase = is_some (given_bits phase)

-- the deadline that its call was given at the first try; none where there is none
abbrev pub kept_deadline : Phase → Option ℕ
kept_deadline Run = None
kept_deadline (Again deadline) = deadline
kept_deadline (Given bits) = None
kept_deadline (Wait place deadline) = deadline
kept_deadline Ended = None
kept_deadline (Failed cause) = None
