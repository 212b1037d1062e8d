-- The built-in application is within the limits.
use Rattle.std.proofs.Common.{rules, ◌≡◌, [], nat_eq, sym, subst}
use Rattle.std.specs.List.{IsDistinct}
use Rattle.rd_app.specs.Application.{Application, IsApplication}
use Rattle.rd_app.specs.Builtin.{builtin}
use Rattle.rd_app.specs.Objects.{members_of}

-- no sets have no members
no_members : IsDistinct nat_eq (members_of [])
unfolding IsDistinct
no_members = tt

limits : IsApplication builtin
limits = search (rules, no_members)

pub builtin_is_application : (app : Application) → app ≡ builtin → IsApplication app
builtin_is_application app is = subst IsApplication (sym is) limits
