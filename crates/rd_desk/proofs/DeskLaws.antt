-- A history with one entry more, and what no event changes.
use Rattle.std.proofs.Common.{◌≡◌, ◌≢◌, ◌∙◌, ℕ, List, [], ◌∷◌, ◌++◌, true, false, length, refl, ap, subst, sym}
use Rattle.std.specs.Prelude.{Bool, Result, Ok, Err, IfOk, IsSomeAnd, OnErr, Option, None, Some, ◌-◌, is_none, position, slice_set, unwrap_or}
use Rattle.std.proofs.lemmas.List.{length-set}
use Rattle.rd_condition.specs.declared.condition.Condition.{Condition}
use Rattle.rd_moves.specs.declared.request.Search.{Search}
use Rattle.rd_names.specs.Apps.{AppView}
use Rattle.rd_command.specs.Bindings.{bound_of}
use Rattle.rd_command.specs.Commands.{CommandView, command_of}
use Rattle.rd_text.specs.Words.{words_of}
use Rattle.rd_command.specs.declared.binding.Bound.{Bound}
use Rattle.rd_command.specs.declared.binding.Bound.TheVariants as bound
use Rattle.rd_desk.specs.declared.entry.HistoryEntry.{HistoryEntry}
use Rattle.rd_desk.specs.declared.entry.Event.{Event}
use Rattle.rd_desk.specs.declared.entry.Event.TheVariants.{Enter, Ask, Leave}
use Rattle.rd_desk.specs.declared.reply.DeskReply.{DeskReply}
use Rattle.rd_desk.specs.declared.reply.DeskReply.TheVariants.{Done, Told, Shown}
use Rattle.rd_desk.specs.Asked.{asked_by, no_command}
use Rattle.rd_desk.specs.Debugger.{Debugger, is_holder, opening, own_watches, watching}
use Rattle.rd_desk.specs.declared.entry.Receipt.{Receipt}
use Rattle.rd_desk.specs.DeskView.{DeskView, Does, entry_of}
use Rattle.rd_desk.specs.Legal.{IsLegal, Leads}
use Rattle.rd_desk.specs.Memory.{NeedsMemory, is_text, needs_memory}
use Rattle.rd_desk.specs.Serving.{MayAct, after_bound, after_command, after_dropped, after_kept, after_search, held_by, reply_to_bound, reply_to_command, reply_to_dropped, reply_to_giver, reply_to_kept, reply_to_search, served}
use Rattle.rd_desk.specs.HistoryView.{IsView}
use Rattle.rd_desk.specs.Sessions.{IsPresent, WatchesView, present_count, watch_at}
use Rattle.rd_desk.proofs.CommandedLaws.{commanded}
use Rattle.rd_desk.proofs.SessionLaws.{as_many_with, present_with}

-- ---- what an event doesn't change: the application, and how many moves may be done

pub record IsSame (d e : Debugger) : Type 0 where
  pub app : e.app ≡ d.app
  pub most_moves : e.most_moves ≡ d.most_moves

same : (d : Debugger) → IsSame d d
same d = record { app = refl; most_moves = refl }

same_search : (d : Debugger) (watch : Option Condition) (search : Search) → IsSame d (after_search d watch search)
same_search d None search = same d
same_search d (Some condition) search = record { app = refl; most_moves = refl }

same_kept : (d : Debugger) (who : ℕ) (condition : Condition) (number : Option ℕ) → IsSame d (after_kept d who condition number)
same_kept d who condition None = same d
same_kept d who condition (Some number) = record { app = refl; most_moves = refl }

same_dropped : (d : Debugger) (who number : ℕ) (watch : Option Condition) → IsSame d (after_dropped d who number watch)
same_dropped d who number None = same d
same_dropped d who number (Some condition) = record { app = refl; most_moves = refl }

same_bound : (d : Debugger) (who : ℕ) (made : Bound) → IsSame d (after_bound d who made)
same_bound d who (bound.Asks asked) = record { app = refl; most_moves = refl }
same_bound d who (bound.AsksByWatch watch search) = same_search d (watch_at (own_watches d who) watch) search
same_bound d who bound.TakesWheel = record { app = refl; most_moves = refl }
same_bound d who bound.GivesWheel = record { app = refl; most_moves = refl }
same_bound d who (bound.Keeps condition) = same_kept d who condition (position is_none (own_watches d who))
same_bound d who (bound.Drops number) = same_dropped d who number (watch_at (own_watches d who) number)
same_bound d who (bound.Looks view) = same d

pub same_served : (d : Debugger) (who : ℕ) (event : Event) → IsSame d (served d who event)
same_served d who Enter = record { app = refl; most_moves = refl }
same_served d who (Ask command) =
    commanded (λ (after : Debugger) (reply : DeskReply). IsSame d after) d who command (λ holder. same d) (same d) (λ made _ _. same_bound d who made)
same_served d who Leave = record { app = refl; most_moves = refl }

-- a debugger that was opened alike
opened_alike : (d e : Debugger) → IsSame d e → opening e.app e.most_moves ≡ opening d.app d.most_moves
opened_alike d e is = ap (λ (app : AppView). opening app e.most_moves) is.app ∙ ap (opening d.app) is.most_moves

-- ---- a command neither lets a session in nor out

pub record Stay (d e : Debugger) : Type 0 where
  pub present : present_count e.sessions ≡ present_count d.sessions
  pub joins : length e.sessions ≡ length d.sessions
  pub others_stay : (other : ℕ) → IsPresent d.sessions other → IsPresent e.sessions other

stays : (d : Debugger) → Stay d d
stays d = record { present = refl; joins = refl; others_stay = λ other there. there }

stay_watching : (d : Debugger) (who : ℕ) (watches : WatchesView) → IsPresent d.sessions who → Stay d (watching d who watches)
stay_watching d who watches there = record {
  present = as_many_with d.sessions who watches there;
  joins = length-set d.sessions (who - 1) (Some watches);
  others_stay = λ other is. present_with d.sessions who watches other is;
}

stay_search : (d : Debugger) (watch : Option Condition) (search : Search) → Stay d (after_search d watch search)
stay_search d None search = stays d
stay_search d (Some condition) search = record { present = refl; joins = refl; others_stay = λ other there. there }

stay_kept : (d : Debugger) (who : ℕ) (condition : Condition) (number : Option ℕ) → IsPresent d.sessions who → Stay d (after_kept d who condition number)
stay_kept d who condition None there = stays d
stay_kept d who condition (Some number) there = stay_watching d who (slice_set (own_watches d who) number (Some condition)) there

stay_dropped : (d : Debugger) (who number : ℕ) (watch : Option Condition) → IsPresent d.sessions who → Stay d (after_dropped d who number watch)
stay_dropped d who number None there = stays d
stay_dropped d who number (Some condition) there = stay_watching d who (slice_set (own_watches d who) number None) there

stay_bound : (d : Debugger) (who : ℕ) (made : Bound) → IsPresent d.sessions who → Stay d (after_bound d who made)
stay_bound d who (bound.Asks asked) there = record { present = refl; joins = refl; others_stay = λ other there. there }
stay_bound d who (bound.AsksByWatch watch search) there = stay_search d (watch_at (own_watches d who) watch) search
stay_bound d who bound.TakesWheel there = record { present = refl; joins = refl; others_stay = λ other there. there }
stay_bound d who bound.GivesWheel there = record { present = refl; joins = refl; others_stay = λ other there. there }
stay_bound d who (bound.Keeps condition) there = stay_kept d who condition (position is_none (own_watches d who)) there
stay_bound d who (bound.Drops number) there = stay_dropped d who number (watch_at (own_watches d who) number) there
stay_bound d who (bound.Looks view) there = stays d

pub sessions_stay : (d : Debugger) (who : ℕ) (command : CommandView) → IsPresent d.sessions who → Stay d (after_command d who command)
sessions_stay d who command there =
    commanded (λ (after : Debugger) (reply : DeskReply). Stay d after) d who command (λ holder. stays d) (stays d) (λ made _ _. stay_bound d who made there)

-- ---- one entry more

Leads-push : (d : Debugger) (history : List HistoryEntry) (last : Debugger) (who : ℕ) (event : Event) → Leads d history last → MayAct last who event
    → Leads d (history ++ entry_of last who event ∷ []) (served last who event)
Leads-push d [] last who event is may =
    let P : Debugger → Type 0 = λ start. Leads start (entry_of last who event ∷ []) (served last who event) in
    subst P is (may, refl, refl)
Leads-push d (entry ∷ later) last who event leads may =
    (leads.0, leads.1, Leads-push (served d entry.who entry.event) later last who event leads.2 may)

pub legal_push : (d : Debugger) (history : List HistoryEntry) (who : ℕ) (event : Event) (after : Debugger) (longer : List HistoryEntry) → IsLegal history d
    → MayAct d who event → after ≡ served d who event → longer ≡ history ++ entry_of d who event ∷ [] → IsLegal longer after
legal_push d history who event after longer legal may then is =
    let more = Leads-push (opening d.app d.most_moves) history d who event legal may in
    let begun = subst (λ (start : Debugger). Leads start (history ++ entry_of d who event ∷ []) (served d who event)) (sym (opened_alike d (served d who event) (same_served d who event))) more in
    let P : List HistoryEntry → Debugger → Type 0 = λ entries e. IsLegal entries e in
    subst (λ (entries : List HistoryEntry). P entries after) (sym is)
    (subst (λ (e : Debugger). P (history ++ entry_of d who event ∷ []) e) (sym then) begun)

-- ---- what is shown changes nothing, and takes memory

search_is_told : (d : Debugger) (watch : Option Condition) (search : Search) (text : List ℕ) → reply_to_search d watch search ≢ Shown text
search_is_told d None search text is = absurd cc
search_is_told d (Some condition) search text is = absurd cc

kept_is_told : (number : Option ℕ) (text : List ℕ) → reply_to_kept number ≢ Shown text
kept_is_told None text is = absurd cc
kept_is_told (Some number) text is = absurd cc

dropped_is_told : (number : ℕ) (watch : Option Condition) (text : List ℕ) → reply_to_dropped number watch ≢ Shown text
dropped_is_told number None text is = absurd cc
dropped_is_told number (Some condition) text is = absurd cc

giver_is_told : (b : Bool) (text : List ℕ) → reply_to_giver b ≢ Shown text
giver_is_told true text is = absurd cc
giver_is_told false text is = absurd cc

-- What shows a text leaves the debugger as it was, and takes memory for the text.
abbrev Shows : Debugger → Debugger → Type 0 → Type 0
Shows d after Needs = (after ≡ d) × Needs

shows_bound : (d : Debugger) (who : ℕ) (made : Bound) (text : List ℕ) → reply_to_bound d who made ≡ Shown text
    → Shows d (after_bound d who made) (needs_memory d who made ≡ true)
shows_bound d who (bound.Asks asked) text is = absurd cc
shows_bound d who (bound.AsksByWatch watch search) text is = absurd (search_is_told d (watch_at (own_watches d who) watch) search text is)
shows_bound d who bound.TakesWheel text is = absurd cc
shows_bound d who bound.GivesWheel text is = absurd (giver_is_told (is_holder d.wheel who) text is)
shows_bound d who (bound.Keeps condition) text is = absurd (kept_is_told (position is_none (own_watches d who)) text is)
shows_bound d who (bound.Drops number) text is = absurd (dropped_is_told number (watch_at (own_watches d who) number) text is)
shows_bound d who (bound.Looks view) text is = (refl, ap is_text is)

view_is : (reply : DeskReply) → IsView reply → (text : List ℕ) × (reply ≡ Shown text)
view_is Done view = absurd view
view_is (Told told) view = absurd view
view_is (Shown text) view = (text, refl)

-- what needs memory, once it is bound
needs : (d : Debugger) (who : ℕ) (command : CommandView) (made : Bound) → held_by d who command ≡ None → bound_of d.app command ≡ Some made
    → needs_memory d who made ≡ true → NeedsMemory d who command
needs d who command made free is takes = record {
  free = free;
  needs = subst (λ (o : Option Bound). IsSomeAnd o (λ bound. needs_memory d who bound ≡ true)) {x = Some made} (sym is) takes;
}

pub a_view_shows : (d : Debugger) (who : ℕ) (command : CommandView) (reply : DeskReply) → reply ≡ reply_to_command d who command → IsView reply
    → Shows d (after_command d who command) (NeedsMemory d who command)
a_view_shows d who command reply is view =
    let shown = view_is reply view in
    commanded (λ (after : Debugger) (given : DeskReply). given ≡ Shown shown.0 → Shows d after (NeedsMemory d who command)) d who command
    (λ holder told. absurd cc) (λ told. absurd cc)
    (λ made free bound told.
    let shows = shows_bound d who made shown.0 told in (shows.0, needs d who command made free bound shows.1))
    (sym is ∙ shown.1)

-- ---- the command of a line

pub asked_is : (line : List ℕ) (command : CommandView) → command_of (words_of line) ≡ Some command → asked_by line ≡ command
asked_is line command is = ap (λ o. unwrap_or o no_command) is

-- the entry of a command that was answered
pub entry_is : (d : Debugger) (who : ℕ) (line : List ℕ) (command : CommandView) (reply : DeskReply) → command_of (words_of line) ≡ Some command
    → reply ≡ reply_to_command d who command
    → record { who = who; event = Ask (asked_by line); reply = reply } ≡ entry_of d who (Ask command)
entry_is d who line command reply is replied =
    ap (λ (c : CommandView). record { who = who; event = Ask c; reply = reply }) (asked_is line command is)
    ∙ ap (λ (r : DeskReply). record { who = who; event = Ask command; reply = r }) replied

-- Whoever is present stays so, whatever is asked.
pub presence_stays : {E : Type 0} (old new : DeskView) (who : ℕ) (command : CommandView) (result : Result Receipt E)
    → IfOk result (Does old who (Ask command) new) → OnErr result (new ≡ old) → (other : ℕ) → IsPresent old.debugger.sessions other
    → IsPresent new.debugger.sessions other
presence_stays old new who command (Ok receipt) does same other there =
    subst (λ (d : Debugger). IsPresent d.sessions other) (sym does.debugger) ((sessions_stay old.debugger who command does.may).others_stay other there)
presence_stays old new who command (Err error) does same other there =
    subst (λ (d : DeskView). IsPresent d.debugger.sessions other) (sym same) there
