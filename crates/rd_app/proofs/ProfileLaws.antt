-- How many cores there are at the most, whatever the profile.
use Rattle.std.proofs.Common.{◌≤◌, arith}
use Rattle.rd_app.specs.declared.profile.Profile.{Profile}
use Rattle.rd_app.specs.declared.profile.Profile.TheVariants.{One, Two}
use Rattle.rd_app.specs.declared.profile.TheConstants.{MAX_CORES}
use Rattle.rd_app.specs.Application.{Application, IsApplication}
use Rattle.rd_app.specs.Profiles.{max_cores}

max_cores_few : (profile : Profile) → max_cores profile ≤ MAX_CORES
max_cores_few One = omega arith
max_cores_few Two = omega arith

pub few_cores_of : (app : Application) → IsApplication app → app.cores ≤ MAX_CORES
few_cores_of app limits = omega (arith, limits.few_cores, max_cores_few app.profile)
