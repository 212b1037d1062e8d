-- Profiles of applications.
use Rattle.std.specs.Prelude.{ℕ, Bool, true, false}
use Rattle.rd_app.specs.declared.profile.Profile.{Profile}
use Rattle.rd_app.specs.declared.profile.Profile.TheVariants.{One, Two}

-- how many cores an application of a profile has at the most
abbrev pub max_cores : Profile → ℕ
max_cores One = 8
max_cores Two = 16

-- Has an application of a profile interrupts?
abbrev pub has_interrupts : Profile → Bool
has_interrupts One = false
has_interrupts Two = true
