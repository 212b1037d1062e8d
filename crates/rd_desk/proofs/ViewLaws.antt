-- The watches that are shown.
use Rattle.std.proofs.Common.{◌≡◌, ◌∙◌, ℕ, ◌+◌, ◌<◌, ◌≤◌, List, ◌∷◌, ◌++◌, length, drop, None, ap, sym, add-one, drop-cons, append_assoc}
use Rattle.std.proofs.lemmas.List.{append-nil, drop_all}
use Rattle.rd_state.specs.Snapshot.{Snapshot}
use Rattle.rd_reply.specs.declared.watches.WatchShown.{WatchShown}
use Rattle.rd_desk.specs.Sessions.{WatchesView, watch_at}
use Rattle.rd_desk.specs.Views.{shown_at, shown_from}

-- ---- watches, one after another

-- what is shown from an index on: that of the watch at it comes first
pub shown_next : (s : Snapshot) (watches : WatchesView) (start number : ℕ) → number < length watches
    → shown_from s start (drop number watches) ≡ shown_at s start (watch_at watches number) ++ shown_from s (start + 1) (drop (number + 1) watches)
shown_next s watches start number there =
    let first : drop number watches ≡ watch_at watches number ∷ drop (number + 1) watches = rw (add-one, drop-cons watches number None) in
    ap (shown_from s start) first

pub shown_more : (s : Snapshot) (watches : WatchesView) (number : ℕ) (shown : List WatchShown) (all : List WatchShown) → number < length watches
    → shown ++ shown_from s number (drop number watches) ≡ all
    → (shown ++ shown_at s number (watch_at watches number)) ++ shown_from s (number + 1) (drop (number + 1) watches) ≡ all
shown_more s watches number shown all there so_far =
    append_assoc shown (shown_at s number (watch_at watches number)) (shown_from s (number + 1) (drop (number + 1) watches))
    ∙ sym (ap (λ (more : List WatchShown). shown ++ more) (shown_next s watches number number there)) ∙ so_far

pub shown_all : (s : Snapshot) (watches : WatchesView) (number : ℕ) (shown : List WatchShown) (all : List WatchShown) → length watches ≤ number
    → shown ++ shown_from s number (drop number watches) ≡ all → shown ≡ all
shown_all s watches number shown all past so_far =
    sym (append-nil shown) ∙ sym (ap (λ (more : WatchesView). shown ++ shown_from s number more) (drop_all number watches past)) ∙ so_far
