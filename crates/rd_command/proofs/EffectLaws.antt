-- What is bound does what the keyword of its command says.
use Rattle.std.proofs.Common.{◌≡◌, ◌∙◌, Option, Some, option_map, ap, refl, sym}
use Rattle.rd_names.specs.Apps.{AppView}
use Rattle.rd_command.specs.declared.binding.Bound.{Bound}
use Rattle.rd_command.specs.declared.binding.Bound.TheVariants as bound
use Rattle.rd_command.specs.declared.keyword.CommandKeyword.{CommandKeyword}
use Rattle.rd_command.specs.declared.keyword.CommandKeyword.TheVariants.{Ask, AskByWatch, TakeWheel, GiveWheel, Watch, Unwatch, Show, Look}
use Rattle.rd_command.specs.declared.keyword.CommandKeyword.TheVariants as keyword
use Rattle.rd_command.specs.declared.view.View.TheVariants.{Thing, Cores, Overview}
use Rattle.rd_command.specs.Bindings.{Reading, bound_by, bound_of, by_watch, wheel_for, known_of, made_by}
use Rattle.rd_command.specs.Commands.{CommandView}
use Rattle.rd_command.specs.Keywords.{Wheel, request_row, search_row, thing_row, unwatch_row, watch_row, wheel_of}
use Rattle.rd_command.proofs.Steps.{mapped}

-- Whatever was found, what is made of it has that to do with the wheel.
always_so : {Found : Type 0} (does : Found → Bound) (found : Option Found) (made : Bound) (wheel : Wheel) → ((x : Found) → wheel_for (does x) ≡ wheel)
    → option_map does found ≡ Some made → wheel_for made ≡ wheel
always_so does found made wheel always e =
    let one = mapped does found made e in
    sym (ap wheel_for one.2) ∙ always one.0

keyword_wheel : (k : CommandKeyword) (reading : Reading) (made : Bound) → bound_by k reading ≡ Some made → wheel_for made ≡ wheel_of k
keyword_wheel (Ask k) reading made e = always_so (λ request. bound.Asks request) (made_by (request_row k) reading) made _ (λ request. refl) e
keyword_wheel (AskByWatch k) reading made e = always_so by_watch (made_by (search_row k) reading) made _ (λ found. refl) e
keyword_wheel TakeWheel reading made e = let is : bound.TakesWheel ≡ made = cc in sym (ap wheel_for is)
keyword_wheel GiveWheel reading made e = let is : bound.GivesWheel ≡ made = cc in sym (ap wheel_for is)
keyword_wheel Watch reading made e = always_so (λ condition. bound.Keeps condition) (made_by watch_row reading) made _ (λ condition. refl) e
keyword_wheel Unwatch reading made e = always_so (λ number. bound.Drops number) (made_by unwatch_row reading) made _ (λ number. refl) e
keyword_wheel (Show kind) reading made e =
    always_so (λ number. bound.Looks (Thing kind number)) (made_by (thing_row kind) reading) made _ (λ number. refl) e
keyword_wheel keyword.Cores reading made e = let is : bound.Looks Cores ≡ made = cc in sym (ap wheel_for is)
keyword_wheel (Look of) reading made e = let is : bound.Looks (Overview of) ≡ made = cc in sym (ap wheel_for is)

pub wheel_as_said : (app : AppView) (command : CommandView) (made : Bound) → bound_of app command ≡ Some made
    → wheel_for made ≡ wheel_of command.keyword
wheel_as_said app command made e =
    keyword_wheel command.keyword (record { known = known_of app; words = command.operands }) made e
