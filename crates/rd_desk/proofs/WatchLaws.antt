-- A watch is its own session's, and the history stays.
use Rattle.std.proofs.Common.{◌≡◌, ◌≢◌, ◌∙◌, ℕ, ◌-◌, ◌<◌, List, [], ◌∷◌, ◌++◌, length, refl, ap, suc, sym, zero, arith}
use Rattle.std.specs.Prelude.{Option, None, Some, is_none, position, slice_get, slice_set, unwrap_or}
use Rattle.std.proofs.lemmas.List.{get_or-set_other, get_or_append_left}
use Rattle.rd_condition.specs.declared.condition.Condition.{Condition}
use Rattle.rd_moves.specs.declared.request.Search.{Search}
use Rattle.rd_command.specs.Bindings.{bound_of}
use Rattle.rd_command.specs.Commands.{CommandView}
use Rattle.rd_command.specs.declared.binding.Bound.{Bound}
use Rattle.rd_command.specs.declared.binding.Bound.TheVariants as bound
use Rattle.rd_command.specs.declared.view.View.{View}
use Rattle.rd_command.specs.declared.view.View.TheVariants as view
use Rattle.rd_desk.specs.declared.entry.HistoryEntry.{HistoryEntry}
use Rattle.rd_desk.specs.declared.entry.Event.TheVariants.{Enter, Ask, Leave}
use Rattle.rd_desk.specs.declared.reply.DeskReply.{DeskReply}
use Rattle.rd_desk.specs.Debugger.{Debugger, own_watches, target_of, watching}
use Rattle.rd_desk.specs.DeskView.{entry_of}
use Rattle.rd_desk.specs.Laws.{TheHistoryStays, WatchesAreDroppedByTheirSession, WatchesAreSeenByTheirSession}
use Rattle.rd_desk.specs.Serving.{after_bound, after_dropped, after_kept, after_search, held_by, overview_in, reply_if_there, reply_to_bound, reply_to_dropped, reply_to_kept, reply_to_search, reply_unless_held, view_of}
use Rattle.rd_desk.specs.Sessions.{SessionsView, WatchesView, session_at, watch_at}
use Rattle.rd_desk.proofs.CommandedLaws.{commanded}
use Rattle.rd_desk.proofs.SessionLaws.{there_within}

-- what changes at one session leaves the watches of another
pub other_stays : (sessions : SessionsView) (who other : ℕ) (slot : Option WatchesView) → 0 < who → 0 < other → who ≢ other
    → session_at (slice_set sessions (who - 1) slot) other ≡ session_at sessions other
other_stays sessions who other slot some others differ =
    get_or-set_other sessions (who - 1) (other - 1) slot None (λ same. differ (omega (arith, same, some, others)))

own_stay : (d : Debugger) (who other : ℕ) (slot : Option WatchesView) → 0 < who → 0 < other → who ≢ other
    → unwrap_or (session_at (slice_set d.sessions (who - 1) slot) other) [] ≡ own_watches d other
own_stay d who other slot some others differ =
    ap (λ (o : Option WatchesView). unwrap_or o []) (other_stays d.sessions who other slot some others differ)

-- ---- no other drops it

dropped_search : (d : Debugger) (other : ℕ) (watch : Option Condition) (search : Search) → own_watches (after_search d watch search) other ≡ own_watches d other
dropped_search d other None search = refl
dropped_search d other (Some condition) search = refl

dropped_kept : (d : Debugger) (who other : ℕ) (condition : Condition) (number : Option ℕ) → 0 < who → 0 < other → who ≢ other
    → own_watches (after_kept d who condition number) other ≡ own_watches d other
dropped_kept d who other condition None some others differ = refl
dropped_kept d who other condition (Some number) some others differ =
    own_stay d who other (Some (slice_set (own_watches d who) number (Some condition))) some others differ

dropped_dropped : (d : Debugger) (who other number : ℕ) (watch : Option Condition) → 0 < who → 0 < other → who ≢ other
    → own_watches (after_dropped d who number watch) other ≡ own_watches d other
dropped_dropped d who other number None some others differ = refl
dropped_dropped d who other number (Some condition) some others differ =
    own_stay d who other (Some (slice_set (own_watches d who) number None)) some others differ

dropped_bound : (d : Debugger) (who other : ℕ) (made : Bound) → 0 < who → 0 < other → who ≢ other
    → own_watches (after_bound d who made) other ≡ own_watches d other
dropped_bound d who other (bound.Asks asked) some others differ = refl
dropped_bound d who other (bound.AsksByWatch watch search) some others differ = dropped_search d other (watch_at (own_watches d who) watch) search
dropped_bound d who other bound.TakesWheel some others differ = refl
dropped_bound d who other bound.GivesWheel some others differ = refl
dropped_bound d who other (bound.Keeps condition) some others differ =
    dropped_kept d who other condition (position is_none (own_watches d who)) some others differ
dropped_bound d who other (bound.Drops number) some others differ =
    dropped_dropped d who other number (watch_at (own_watches d who) number) some others differ
dropped_bound d who other (bound.Looks view) some others differ = refl

pub watches_are_dropped_by_their_session : WatchesAreDroppedByTheirSession
watches_are_dropped_by_their_session d who other Enter may there differ =
    ap (λ (o : Option WatchesView). unwrap_or o []) (get_or_append_left d.sessions _ None (other - 1) (there_within d.sessions other there))
watches_are_dropped_by_their_session d who other (Ask command) may there differ =
    commanded (λ (after : Debugger) (reply : DeskReply). own_watches after other ≡ own_watches d other) d who command (λ holder. refl) refl
    (λ made _ _. dropped_bound d who other made may.numbered there.numbered differ)
watches_are_dropped_by_their_session d who other Leave may there differ = own_stay d who other None may.numbered there.numbered differ

-- ---- no other sees it

seen_search : (d : Debugger) (other : ℕ) (watches : WatchesView) (watch : Option Condition) (search : Search)
    → reply_to_search (watching d other watches) watch search ≡ reply_to_search d watch search
seen_search d other watches None search = refl
seen_search d other watches (Some condition) search = refl

seen_view : (d : Debugger) (who other : ℕ) (watches : WatchesView) (seen : View) → own_watches (watching d other watches) who ≡ own_watches d who
    → view_of (watching d other watches) who seen ≡ view_of d who seen
seen_view d who other watches (view.Thing kind number) own = refl
seen_view d who other watches view.Cores own = refl
seen_view d who other watches (view.Overview of) own =
    ap (λ (ws : WatchesView). overview_in (target_of d) d.moves d.wheel ws of) own

seen_bound : (d : Debugger) (who other : ℕ) (watches : WatchesView) (made : Bound) → own_watches (watching d other watches) who ≡ own_watches d who
    → reply_to_bound (watching d other watches) who made ≡ reply_to_bound d who made
seen_bound d who other watches (bound.Asks asked) own = refl
seen_bound d who other watches (bound.AsksByWatch watch search) own =
    ap (λ (ws : WatchesView). reply_to_search (watching d other watches) (watch_at ws watch) search) own
    ∙ seen_search d other watches (watch_at (own_watches d who) watch) search
seen_bound d who other watches bound.TakesWheel own = refl
seen_bound d who other watches bound.GivesWheel own = refl
seen_bound d who other watches (bound.Keeps condition) own = ap (λ (ws : WatchesView). reply_to_kept (position is_none ws)) own
seen_bound d who other watches (bound.Drops number) own = ap (λ (ws : WatchesView). reply_to_dropped number (watch_at ws number)) own
seen_bound d who other watches (bound.Looks view) own = seen_view d who other watches view own

seen_there : (d : Debugger) (who other : ℕ) (watches : WatchesView) (made : Option Bound)
    → own_watches (watching d other watches) who ≡ own_watches d who
    → reply_if_there (watching d other watches) who made ≡ reply_if_there d who made
seen_there d who other watches None own = refl
seen_there d who other watches (Some command) own = seen_bound d who other watches command own

seen_held : (d : Debugger) (who other : ℕ) (watches : WatchesView) (command : CommandView) (holder : Option ℕ)
    → own_watches (watching d other watches) who ≡ own_watches d who
    → reply_unless_held (watching d other watches) who command holder ≡ reply_unless_held d who command holder
seen_held d who other watches command None own = seen_there d who other watches (bound_of d.app command) own
seen_held d who other watches command (Some holder) own = refl

pub watches_are_seen_by_their_session : WatchesAreSeenByTheirSession
watches_are_seen_by_their_session d who other watches Enter may there differ = refl
watches_are_seen_by_their_session d who other watches (Ask command) may there differ =
    seen_held d who other watches command (held_by d who command)
    (own_stay d other who (Some watches) there.numbered may.numbered (λ same. differ (sym same)))
watches_are_seen_by_their_session d who other watches Leave may there differ = refl

-- ---- the history

get_before : (xs ys : List HistoryEntry) (place : ℕ) → place < length xs → slice_get (xs ++ ys) place ≡ slice_get xs place
get_before [] ys place within = absurd (omega (arith, within))
get_before (x ∷ xs) ys zero within = refl
get_before (x ∷ xs) ys (suc place) within = get_before xs ys place (omega (arith, within))

pub the_history_stays : TheHistoryStays
the_history_stays old new who event receipt does place within =
    ap (λ (entries : List HistoryEntry). slice_get entries place) does.history
    ∙ get_before old.history (entry_of old.debugger who event ∷ []) place within
