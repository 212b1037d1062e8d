-- Who has the wheel, by the history alone.
use Rattle.std.proofs.Common.{◌≡◌, ◌∙◌, ℕ, List, [], ◌∷◌, true, false, cond, refl, ap, sym}
use Rattle.std.specs.Prelude.{Bool, Option, None, Some, is_none, position}
use Rattle.rd_refusal.specs.declared.refusal.Refusal.{Refusal}
use Rattle.rd_refusal.specs.declared.refusal.Refusal.TheVariants.{Held, NoSuch}
use Rattle.rd_condition.specs.declared.condition.Condition.{Condition}
use Rattle.rd_moves.specs.declared.request.Search.{Search}
use Rattle.rd_command.specs.Bindings.{wheel_for}
use Rattle.rd_command.specs.Commands.{CommandView}
use Rattle.rd_command.specs.Keywords.{Wheel, Taken, Given, Needed, Free, wheel_of}
use Rattle.rd_command.specs.declared.binding.Bound.{Bound}
use Rattle.rd_command.specs.declared.binding.Bound.TheVariants as bound
use Rattle.rd_command.proofs.Offered.{wheel_as_said}
use Rattle.rd_desk.specs.declared.entry.HistoryEntry.{HistoryEntry}
use Rattle.rd_desk.specs.declared.entry.Event.{Event}
use Rattle.rd_desk.specs.declared.entry.Event.TheVariants.{Enter, Ask, Leave}
use Rattle.rd_desk.specs.declared.reply.DeskReply.{DeskReply}
use Rattle.rd_desk.specs.Debugger.{Debugger, is_holder, opening, own_watches}
use Rattle.rd_desk.specs.Laws.{TheHolderTookTheWheelLast}
use Rattle.rd_desk.specs.Legal.{Leads}
use Rattle.rd_desk.specs.Serving.{after_bound, after_dropped, after_kept, after_search, refused, reply_of, reply_to_bound, reply_to_giver, served}
use Rattle.rd_desk.specs.Sessions.{watch_at}
use Rattle.rd_desk.specs.Wheel.{holder_after, holder_behind, holder_by, is_wheel}
use Rattle.rd_desk.proofs.CommandedLaws.{commanded}

-- ---- the wheel behind a command

search_wheel : (d : Debugger) (watch : Option Condition) (search : Search) → (after_search d watch search).wheel ≡ d.wheel
search_wheel d None search = refl
search_wheel d (Some condition) search = refl

kept_wheel : (d : Debugger) (who : ℕ) (condition : Condition) (number : Option ℕ) → (after_kept d who condition number).wheel ≡ d.wheel
kept_wheel d who condition None = refl
kept_wheel d who condition (Some number) = refl

dropped_wheel : (d : Debugger) (who number : ℕ) (watch : Option Condition) → (after_dropped d who number watch).wheel ≡ d.wheel
dropped_wheel d who number None = refl
dropped_wheel d who number (Some condition) = refl

given_wheel : (wheel : Option ℕ) (mine : Bool) → cond mine None wheel ≡ cond (is_wheel (reply_to_giver mine)) None wheel
given_wheel wheel true = refl
given_wheel wheel false = refl

bound_wheel : (d : Debugger) (who : ℕ) (made : Bound)
    → (after_bound d who made).wheel ≡ holder_behind d.wheel who (wheel_for made) (reply_to_bound d who made)
bound_wheel d who (bound.Asks asked) = refl
bound_wheel d who (bound.AsksByWatch watch search) = search_wheel d (watch_at (own_watches d who) watch) search
bound_wheel d who bound.TakesWheel = refl
bound_wheel d who bound.GivesWheel = given_wheel d.wheel (is_holder d.wheel who)
bound_wheel d who (bound.Keeps condition) = kept_wheel d who condition (position is_none (own_watches d who))
bound_wheel d who (bound.Drops number) = dropped_wheel d who number (watch_at (own_watches d who) number)
bound_wheel d who (bound.Looks view) = refl

-- a refusal gives the wheel to nobody
refused_wheel : (wheel : Option ℕ) (who : ℕ) (part : Wheel) (refusal : Refusal) → wheel ≡ holder_behind wheel who part (refused refusal)
refused_wheel wheel who Taken refusal = refl
refused_wheel wheel who Given refusal = refl
refused_wheel wheel who Needed refusal = refl
refused_wheel wheel who Free refusal = refl

command_wheel : (d : Debugger) (who : ℕ) (command : CommandView)
    → (served d who (Ask command)).wheel ≡ holder_by d.wheel who (Ask command) (reply_of d who (Ask command))
command_wheel d who command =
    commanded (λ (after : Debugger) (reply : DeskReply). after.wheel ≡ holder_behind d.wheel who (wheel_of command.keyword) reply) d who command
    (λ holder. refused_wheel d.wheel who (wheel_of command.keyword) (Held holder)) (refused_wheel d.wheel who (wheel_of command.keyword) NoSuch)
    (λ made free is.
    bound_wheel d who made
    ∙ ap (λ (part : Wheel). holder_behind d.wheel who part (reply_to_bound d who made)) (wheel_as_said d.app command made is))

-- ---- the wheel behind a history

served_wheel : (d : Debugger) (who : ℕ) (event : Event) → (served d who event).wheel ≡ holder_by d.wheel who event (reply_of d who event)
served_wheel d who Enter = refl
served_wheel d who (Ask command) = command_wheel d who command
served_wheel d who Leave = refl

led_wheel : (d : Debugger) (history : List HistoryEntry) (last : Debugger) → Leads d history last → last.wheel ≡ holder_after d.wheel history
led_wheel d [] last leads = ap (λ (e : Debugger). e.wheel) leads
led_wheel d (entry ∷ later) last leads =
    led_wheel (served d entry.who entry.event) later last leads.2
    ∙ ap (λ wheel. holder_after wheel later)
    (served_wheel d entry.who entry.event ∙ ap (λ (r : DeskReply). holder_by d.wheel entry.who entry.event r) (sym leads.1))

pub the_holder_took_the_wheel_last : TheHolderTookTheWheelLast
the_holder_took_the_wheel_last d history legal = led_wheel (opening d.app d.most_moves) history d legal
