-- Lines that are commands, with what these are bound to.
use Rattle.std.proofs.Common.{◌≡◌, ◌∙◌, ℕ, Bool, List, [], Option, Some, Result, ap, subst, sym, unwrap_or}
use Rattle.std.specs.Result.{result_ok}
use Rattle.rd_text.specs.Words.{words_of}
use Rattle.rd_command.specs.declared.binding.Bound.{Bound}
use Rattle.rd_command.specs.declared.binding.Unknown.{Unknown}
use Rattle.rd_command.specs.declared.keyword.CommandKeyword.TheVariants.{TakeWheel}
use Rattle.rd_command.specs.Bindings.{IsOrder, KnownView, bound_in}
use Rattle.rd_command.specs.Commands.{CommandView, command_in, command_of}
use Rattle.rd_command.specs.Keywords.{needs_wheel}

-- the command of a line is the one that its words spell
pub command_is : (line : List ℕ) (command : CommandView) → command_of (words_of line) ≡ Some command → command_in line ≡ command
unfolding command_in
command_is line command e = ap (λ (found : Option CommandView). unwrap_or found (record { keyword = TakeWheel; operands = [] })) e

-- what a line was found to be, of the same line
pub order_is : (known : KnownView) (line again : List ℕ) (command : CommandView) (needs : Bool) (bound : Result Bound Unknown) → again ≡ line
    → command_of (words_of line) ≡ Some command → needs ≡ needs_wheel command.keyword → result_ok bound ≡ bound_in known command → IsOrder known again needs bound
order_is known line again command needs bound same spelled needed is =
    let spelled_again = subst (λ (l : List ℕ). command_of (words_of l) ≡ Some command) (sym same) spelled in
    let one = command_is again command spelled_again in
    record {
      is_command = spelled_again ∙ ap (λ (c : CommandView). Some c) (sym one);
      needs_it = needed ∙ ap (λ (c : CommandView). needs_wheel c.keyword) (sym one);
      is_bound = is ∙ ap (λ (c : CommandView). bound_in known c) (sym one);
    }
