-- Where nothing is wrong with the words, `clap` finds `run` or `serve`, with all that each has to have and as many as may be.
use Rattle.std.proofs.Common.{◌≡◌, ◌∙◌, ◌&&◌, ◌||◌, ◌==◌, ◌++◌, ℕ, zero, suc, Bool, true, false, not, cond, List, [], ◌∷◌, length, drop, Option, Some, None}
use Rattle.std.proofs.Common.{IfSome, is_some, option_and_then, option_map, find, fold, codes, slice_get, encode_utf8, inl, inr, ap, arith, eqb-true, refl, subst, sym, true≢false}
use Rattle.std.specs.Prelude.{⊤}
use Rattle.std.specs.List.{list_any}
use Rattle.std.specs.Option.{option_map_or}
use Rattle.std.specs.Str.{bytes_eq, chars}
use Rattle.std.proofs.lemmas.Slice.Eq.{bytes_eq-Decides}
use Rattle.clap.specs.Lexer.{long_of, short_of}
use Rattle.clap.specs.Words.{App, IsUnsignedIn, Kinds, Row, Rule, Shape, Text, built, first_of, new_rule, one_of}
use Rattle.clap.specs.ValueTests.{accepts}
use Rattle.clap.specs.Walk.{Held, Names, Outcome, Step, Waiting, Walk, idle, option, positional, next, trailing, subcommand, value, done, plain, refused, waits}
use Rattle.clap.specs.Walk.{after_flag, after_step, answers_to, arg_by_id, arg_by_index, arg_by_long, arg_by_short, at_row, attached_value, bundle_met, bundle_step, finished}
use Rattle.clap.specs.Walk.{flag_met, has_row, is_pending, long_met, long_or_other, more_values, nothing_held, option_met, option_word, plain_word, reacted}
use Rattle.clap.specs.Walk.{row_text, rows_after, settled, settled_rows, short_met, short_or_plain, subcommand_met, subcommand_or_other, takes_several, takes_values}
use Rattle.clap.specs.Walk.{to_positional, used, used_by_id, values_or_missing, walk, walk_from, walked, walked_from, with_default, without, word_met}
use Rattle.clap.specs.Walk.{action_of, default_rows, reading_by, used_as}
use Rattle.clap.specs.Takes.{is_given}
use Rattle.clap.specs.Simple.{entered, label_of, names_of, new_shape, rows_at}
use Rattle.clap.specs.Facts.{explicit_source}
use Rattle.clap.specs.Kinds.{or_else, range_kinds}
use Rattle.clap.specs.Values.{read_as}
use Rattle.clap.specs.declared.builder.value_parser.Reading.{Reading}
use Rattle.clap.specs.Faults.{bundle_fault, bundle_step_fault, check_fault, defaults_fault, entered_fault, flag_word_fault, flags_fault, level_fault, long_fault, option_fault}
use Rattle.clap.specs.Faults.{other_fault, positional_fault, react_fault, settle_fault, short_fault, step_fault, stray_fault, turn_fault, use_fault, walk_fault, word_fault}
use Rattle.clap.specs.declared.builder.action.ArgAction.{ArgAction}
use Rattle.clap.specs.declared.builder.action.ArgAction.TheVariants.{Set}
use Rattle.clap.specs.declared.error.kind.ErrorKind.{ErrorKind}
use Rattle.clap.specs.declared.error.kind.ErrorKind.TheVariants as kind
use Rattle.clap.specs.declared.builder.value_parser.ValueParser.TheVariants.{Unsigned}
use Rattle.clap.specs.declared.parser.matches.ValueSource.{ValueSource}
use Rattle.clap.specs.declared.parser.matches.ValueSource.TheVariants.{CommandLine, DefaultValue}
use Rattle.clap.proofs.ValueTestLemmas.{accepts-Accepts}
use Rattle.rd_start.specs.Requests.{HasLimits, HasServerLimits, IsWhole, command_line, faults_of, subcommand_in}

-- ---- steps that all pass

neither : (a b : Kinds) → or_else a b ≡ [] → (a ≡ []) × (b ≡ [])
neither [] b e = (refl, e)
neither (k ∷ ks) b e = absurd cc

none_of : (k : ErrorKind) → k ∷ [] ≡ [] → ⊥
none_of k e = cc

-- ---- what each use of an argument preserves of the rows, a walk preserves

module _ (s : Shape) (names : Names) (Good : List Row → Type 0)
    (preserve : (q : Rule → Bool) (a : Rule) (values : List Text) (rows : List Row) → find q s.rules ≡ Some a
    → use_fault s.args_override_self a values rows ≡ [] → Good rows → Good (used a values rows)) where
  by_id : (found : Option Rule) (id : Text) (values : List Text) (rows : List Row) → found ≡ arg_by_id s.rules id
      → option_map_or (λ a. use_fault s.args_override_self a values rows) found [] ≡ [] → Good rows → Good (used_by_id found values rows)
  by_id None id values rows is e good = good
  by_id (Some a) id values rows is e good = preserve (λ r. bytes_eq r.id id) a values rows (sym is) e good

  settle : (pending : Option (Text × List Text)) (rows : List Row)
      → option_map_or (λ p. option_map_or (λ a. use_fault s.args_override_self a p.1 rows) (arg_by_id s.rules p.0) []) pending [] ≡ []
      → Good rows → Good (settled_rows s.rules pending rows)
  settle None rows e good = good
  settle (Some p) rows e good = by_id (arg_by_id s.rules p.0) p.0 p.1 rows refl e good

  react : (q : Rule → Bool) (a : Rule) (values : List Text) (h : Held) → find q s.rules ≡ Some a
      → react_fault s.rules s.args_override_self a values h ≡ [] → Good h.rows → Good (reacted s.rules a values h).rows
  react q a values h is e good =
      let parts = neither (settle_fault s.rules s.args_override_self h) _ e in
      preserve q a values _ is parts.1 (settle h.pending h.rows parts.0 good)

  an_option : (q : Rule → Bool) (a : Rule) (v : Option Text) (h : Held) → find q s.rules ≡ Some a
      → option_fault s.rules s.args_override_self a v h ≡ [] → Good h.rows → Good (option_met s.rules a v h).0.rows
  an_option q a (Some v) h is e good = react q a (v ∷ []) h is e good
  an_option q a None h is e good = settle h.pending h.rows e good

  a_flag : (q : Rule → Bool) (a : Rule) (v : Option Text) (h : Held) → find q s.rules ≡ Some a
      → cond (is_some v) (kind.TooManyValues ∷ []) (react_fault s.rules s.args_override_self a [] h) ≡ [] → Good h.rows
      → Good (flag_met s.rules a v h).0.rows
  a_flag q a (Some v) h is e good = good
  a_flag q a None h is e good = react q a [] h is e good

  a_long : (found : Option Rule) (name : Text) (v : Option Text) (h : Held) → found ≡ arg_by_long s.rules name
      → long_fault s.rules s.args_override_self found v h ≡ [] → Good h.rows → Good (long_met s.rules found v h).0.rows
  a_long None name v h is e good = good
  a_long (Some a) name v h is e good = go (takes_values a) e
    where
      go : (b : Bool) → cond b (option_fault s.rules s.args_override_self a v h)
          (cond (is_some v) (kind.TooManyValues ∷ []) (react_fault s.rules s.args_override_self a [] h)) ≡ []
          → Good (cond b (option_met s.rules a v h) (flag_met s.rules a v h)).0.rows
      go true e = an_option _ a v h (sym is) e good
      go false e = a_flag _ a v h (sym is) e good

  a_short : (found : Option Rule) (x : ℕ) (rest : Text) (h : Held) (after : Held → Held × Outcome) (wrong : Held → Kinds)
      → found ≡ arg_by_short s.rules x → ((k : Held) → wrong k ≡ [] → Good k.rows → Good (after k).0.rows)
      → short_fault s.rules s.args_override_self found rest h wrong ≡ [] → Good h.rows → Good (short_met s.rules found rest h after).0.rows
  a_short None x rest h after wrong is then e good = good
  a_short (Some a) x rest h after wrong is then e good = go (takes_values a) e
    where
      go : (b : Bool) → cond b (option_fault s.rules s.args_override_self a (attached_value rest) h)
          (or_else (react_fault s.rules s.args_override_self a [] h) (wrong (reacted s.rules a [] h))) ≡ []
          → Good (cond b (option_met s.rules a (attached_value rest) h) (after (reacted s.rules a [] h))).0.rows
      go true e = an_option _ a (attached_value rest) h (sym is) e good
      go false e =
          let parts = neither (react_fault s.rules s.args_override_self a [] h) _ e in
          then _ parts.1 (react _ a [] h (sym is) parts.0 good)

  abbrev Bundles : ℕ → Type 0
  Bundles k = (flags : Text) (skip : ℕ) (so_far : Outcome) (h : Held) → flags_fault s.rules s.args_override_self k flags skip h ≡ []
      → Good h.rows → Good (bundle_met s.rules k flags skip so_far h).0.rows

  a_step : (k : ℕ) → Bundles k → (first : Option ℕ) (flags : Text) (skip : ℕ) (so_far : Outcome) (h : Held)
      → bundle_step_fault s.rules s.args_override_self first flags skip h (flags_fault s.rules s.args_override_self k) ≡ [] → Good h.rows
      → Good (bundle_step s.rules first flags skip so_far h (bundle_met s.rules k)).0.rows
  a_step k then None flags skip so_far h e good = good
  a_step k then (Some x) flags zero so_far h e good =
      a_short (arg_by_short s.rules x) x (drop (length (encode_utf8 x)) flags) h _ _ refl (then (drop (length (encode_utf8 x)) flags) 0 done) e good
  a_step k then (Some x) flags (suc skip) so_far h e good = then (drop (length (encode_utf8 x)) flags) skip so_far h e good

  a_bundle : (k : ℕ) → Bundles k
  unfolding bundle_met flags_fault
  a_bundle zero flags skip so_far h e good = good
  a_bundle (suc k) flags skip so_far h e good = a_step k (a_bundle k) (slice_get (chars flags) 0) flags skip so_far h e good

  -- a word that is no flag changes no row
  no_row : (waiting : Waiting) (word : Text) (h : Held) → (plain_word s.rules waiting word h).0.rows ≡ h.rows
  no_row idle word h = refl
  no_row positional word h = refl
  no_row (option id) word h = go (arg_by_id s.rules id)
    where
      go : (found : Option Rule) → (option_word found id word h).0.rows ≡ h.rows
      go None = refl
      go (Some a) = refl

  no_row_after : (waiting : Waiting) (word : Text) (h : Held) (o : Outcome) → (after_flag s.rules waiting word h o).0.rows ≡ h.rows
  no_row_after waiting word h done = refl
  no_row_after waiting word h (waits id) = refl
  no_row_after waiting word h plain = no_row waiting word h
  no_row_after waiting word h refused = no_row waiting word h

  a_short_word : (flags : Option Text) (waiting : Waiting) (word : Text) (h : Held)
      → option_map_or (λ f. bundle_fault s.rules s.args_override_self f h) flags [] ≡ [] → Good h.rows
      → Good (short_or_plain s.rules waiting word flags h).0.rows
  a_short_word None waiting word h e good = subst Good (sym (no_row waiting word h)) good
  a_short_word (Some flags) waiting word h e good =
      subst Good (sym (no_row_after waiting word _ _)) (a_bundle (length flags) flags h.skip plain (record h { skip = 0 }) e good)

  a_flag_word : (long : Option (Text × Option Text)) (waiting : Waiting) (word : Text) (h : Held)
      → flag_word_fault s.rules s.args_override_self long word h ≡ [] → Good h.rows → Good (long_or_other s.rules waiting word long h).0.rows
  a_flag_word None waiting word h e good = a_short_word (short_of word) waiting word h e good
  a_flag_word (Some p) waiting word h e good =
      subst Good (sym (no_row_after waiting word _ _)) (a_long (arg_by_long s.rules p.0) p.0 p.1 h refl e good)

  another_word : (met : Option Text) (waiting : Waiting) (position : ℕ) (word : Text) (h : Held) → other_fault s met word h ≡ []
      → Good h.rows → Good (subcommand_or_other s.rules met waiting position word h).0.rows
  another_word (Some name) waiting position word h e good = good
  another_word None waiting position word h e good = go (bytes_eq word (45 ∷ 45 ∷ [])) e
    where
      go : (b : Bool) → cond b [] (flag_word_fault s.rules s.args_override_self (long_of word) word h) ≡ []
          → Good (cond b (h, trailing position) (long_or_other s.rules waiting word (long_of word) h)).0.rows
      go true e = good
      go false e = a_flag_word (long_of word) waiting word h e good

  a_word : (is_trailing : Bool) (waiting : Waiting) (position : ℕ) (word : Text) (h : Held) → word_fault s names is_trailing waiting word h ≡ []
      → Good h.rows → Good (word_met s.rules names is_trailing waiting position word h).0.rows
  a_word true waiting position word h e good = good
  a_word false waiting position word h e good = another_word (subcommand_met names waiting word) waiting position word h e good

  to_place : (found : Option Rule) (word : Text) (w : Walk) (h : Held)
      → option_map_or (λ a. positional_fault s.rules s.args_override_self a h) found (stray_fault s) ≡ [] → Good h.rows
      → Good (to_positional s.rules found word w h).held.rows
  to_place None word w h e good = good
  to_place (Some a) word w h e good = go (is_pending a h.pending && takes_several a) e
    where
      go : (b : Bool) → cond b [] (settle_fault s.rules s.args_override_self h) ≡ [] → Good (cond b h (settled s.rules h)).rows
      go true e = good
      go false e = settle h.pending h.rows e good

  after_word : (step : Step) (word : Text) (w : Walk) (h : Held) → step_fault s w.position h step ≡ [] → Good h.rows
      → Good (after_step s.rules word w h step).held.rows
  after_word (next waiting) word w h e good = good
  after_word (trailing position) word w h e good = good
  after_word (subcommand name) word w h e good = good
  after_word value word w h e good = to_place (arg_by_index s.rules w.position) word w h e good

  a_turn : (stopped : Option (Text × List Text)) (w : Walk) (word : Text)
      → cond (is_some stopped) [] (or_else (word_fault s names w.is_trailing w.waiting word w.held)
      (step_fault s w.position (word_met s.rules names w.is_trailing w.waiting w.position word w.held).0
      (word_met s.rules names w.is_trailing w.waiting w.position word w.held).1)) ≡ []
      → Good w.held.rows → Good (walked_from s.rules names stopped w word).held.rows
  a_turn (Some p) w word e good = good
  a_turn None w word e good =
      let parts = neither (word_fault s names w.is_trailing w.waiting word w.held) _ e in
      let met = a_word w.is_trailing w.waiting w.position word w.held parts.0 good in
      after_word _ word w _ parts.1 met

  pub walk_preserves : (words : List Text) (w : Walk) → walk_fault s names w words ≡ [] → Good w.held.rows
      → Good (fold (walked s.rules names) w words).held.rows
  unfolding walk_fault walked
  walk_preserves [] w e good = good
  walk_preserves (word ∷ words) w e good =
      let parts = neither (turn_fault s names w word) _ e in
      walk_preserves words _ parts.1 (a_turn w.stopped w word parts.0 good)

  pub level_preserves : (words : List Text) → walk_fault s names (walk_from nothing_held) words ≡ []
      → settle_fault s.rules s.args_override_self (walk s.rules names nothing_held words).held ≡ [] → Good []
      → Good (settled s.rules (walk s.rules names nothing_held words).held).rows
  level_preserves words e settles good =
      let end = (walk s.rules names nothing_held words).held in
      settle end.pending end.rows settles (walk_preserves words (walk_from nothing_held) e good)

-- ---- no walk over words that pass ends at `help`

abbrev IsNoHelp : Step → Type 0
IsNoHelp (next waiting) = ⊤
IsNoHelp (trailing position) = ⊤
IsNoHelp (subcommand name) = bytes_eq name (codes "help") ≡ false
IsNoHelp value = ⊤

abbrev EndsElsewhere : Option (Text × List Text) → Type 0
EndsElsewhere stop = IfSome stop (λ p. bytes_eq p.0 (codes "help") ≡ false)

module _ (s : Shape) (names : Names) (has_help : s.disable_help_subcommand ≡ false) where
  no_flag : (waiting : Waiting) (word : Text) (h : Held) → IsNoHelp (plain_word s.rules waiting word h).1
  no_flag idle word h = tt
  no_flag positional word h = tt
  no_flag (option id) word h = tt

  flag_or_not : (waiting : Waiting) (word : Text) (h : Held) (o : Outcome) → IsNoHelp (after_flag s.rules waiting word h o).1
  flag_or_not waiting word h done = tt
  flag_or_not waiting word h (waits id) = tt
  flag_or_not waiting word h plain = no_flag waiting word h
  flag_or_not waiting word h refused = no_flag waiting word h

  short_or_not : (flags : Option Text) (waiting : Waiting) (word : Text) (h : Held) → IsNoHelp (short_or_plain s.rules waiting word flags h).1
  short_or_not None waiting word h = no_flag waiting word h
  short_or_not (Some flags) waiting word h = flag_or_not waiting word _ _

  long_or_not : (long : Option (Text × Option Text)) (waiting : Waiting) (word : Text) (h : Held)
      → IsNoHelp (long_or_other s.rules waiting word long h).1
  long_or_not None waiting word h = short_or_not (short_of word) waiting word h
  long_or_not (Some p) waiting word h = flag_or_not waiting word _ _

  help_or_not : (met : Option Text) (waiting : Waiting) (position : ℕ) (word : Text) (h : Held) → other_fault s met word h ≡ []
      → IsNoHelp (subcommand_or_other s.rules met waiting position word h).1
  help_or_not None waiting position word h e = go (bytes_eq word (45 ∷ 45 ∷ []))
    where
      go : (b : Bool) → IsNoHelp (cond b (h, trailing position) (long_or_other s.rules waiting word (long_of word) h)).1
      go true = tt
      go false = long_or_not (long_of word) waiting word h
  help_or_not (Some name) waiting position word h e = go (bytes_eq name (codes "help")) s.disable_help_subcommand has_help e
    where
      go : (b d : Bool) → d ≡ false → cond (b && not d) (kind.DisplayHelp ∷ kind.InvalidSubcommand ∷ []) [] ≡ [] → b ≡ false
      go false d is e = refl
      go true false is e = absurd cc
      go true true is e = absurd (true≢false is)

  word_or_help : (is_trailing : Bool) (waiting : Waiting) (position : ℕ) (word : Text) (h : Held) → word_fault s names is_trailing waiting word h ≡ []
      → IsNoHelp (word_met s.rules names is_trailing waiting position word h).1
  word_or_help true waiting position word h e = tt
  word_or_help false waiting position word h e = help_or_not (subcommand_met names waiting word) waiting position word h e

  place_or_help : (found : Option Rule) (word : Text) (w : Walk) (h : Held) → EndsElsewhere w.stopped
      → EndsElsewhere (to_positional s.rules found word w h).stopped
  place_or_help None word w h ends = ends
  place_or_help (Some a) word w h ends = tt

  step_or_help : (step : Step) (word : Text) (w : Walk) (h : Held) → IsNoHelp step → EndsElsewhere w.stopped
      → EndsElsewhere (after_step s.rules word w h step).stopped
  step_or_help (next waiting) word w h is ends = ends
  step_or_help (trailing position) word w h is ends = ends
  step_or_help (subcommand name) word w h is ends = is
  step_or_help value word w h is ends = place_or_help (arg_by_index s.rules w.position) word w h ends

  turn_or_help : (stopped : Option (Text × List Text)) (w : Walk) (word : Text)
      → cond (is_some stopped) [] (or_else (word_fault s names w.is_trailing w.waiting word w.held)
      (step_fault s w.position (word_met s.rules names w.is_trailing w.waiting w.position word w.held).0
      (word_met s.rules names w.is_trailing w.waiting w.position word w.held).1)) ≡ []
      → EndsElsewhere stopped → EndsElsewhere w.stopped → EndsElsewhere (walked_from s.rules names stopped w word).stopped
  turn_or_help (Some p) w word e ends here = ends
  turn_or_help None w word e ends here =
      let parts = neither (word_fault s names w.is_trailing w.waiting word w.held) _ e in
      step_or_help _ word w _ (word_or_help w.is_trailing w.waiting w.position word w.held parts.0) here

  walk_or_help : (words : List Text) (w : Walk) → walk_fault s names w words ≡ [] → EndsElsewhere w.stopped
      → EndsElsewhere (fold (walked s.rules names) w words).stopped
  unfolding walk_fault walked
  walk_or_help [] w e ends = ends
  walk_or_help (word ∷ words) w e ends =
      let parts = neither (turn_fault s names w word) _ e in
      walk_or_help words _ parts.1 (turn_or_help w.stopped w word parts.0 ends ends)

-- ---- the command line, built

abbrev line : App
line = built command_line

abbrev shape_at : ℕ → List Shape → Shape
shape_at k [] = new_shape []
shape_at zero (s ∷ rest) = s
shape_at (suc k) (s ∷ rest) = shape_at k rest

abbrev rule_at : ℕ → List Rule → Rule
rule_at k [] = new_rule []
rule_at zero (a ∷ rest) = a
rule_at (suc k) (a ∷ rest) = rule_at k rest

abbrev run_shape : Shape
run_shape = shape_at 0 line.subs

abbrev serve_shape : Shape
serve_shape = shape_at 1 line.subs

abbrev help_command : Shape
help_command = shape_at 2 line.subs

abbrev app_rule : Rule
app_rule = rule_at 0 run_shape.rules

abbrev moves_rule : Rule
moves_rule = rule_at 1 run_shape.rules

abbrev history_rule : Rule
history_rule = rule_at 2 run_shape.rules

abbrev help_flag : Rule
help_flag = rule_at 3 run_shape.rules

abbrev served_app_rule : Rule
served_app_rule = rule_at 0 serve_shape.rules

abbrev port_rule : Rule
port_rule = rule_at 1 serve_shape.rules

abbrev sessions_rule : Rule
sessions_rule = rule_at 2 serve_shape.rules

-- An option of one number, as those of moves and history are.
abbrev number_rule : Text → ℕ → ℕ → List Text → Bool → Rule
number_rule name least most defaults required = record moves_rule {
  id = name;
  long = Some name;
  parser = Some (Unsigned least most);
  defaults = defaults;
  required = required;
}

abbrev with_its_default : Text → ℕ → Rule
with_its_default name least = number_rule name least 1000000 (codes "100000" ∷ []) false

moves_are_one : moves_rule ≡ with_its_default (codes "moves") 1
moves_are_one = refl

history_is_one : history_rule ≡ with_its_default (codes "history") 2
history_is_one = refl

port_is_one : port_rule ≡ number_rule (codes "port") 1 65535 [] true
port_is_one = refl

sessions_are_one : sessions_rule ≡ number_rule (codes "sessions") 1 64 [] true
sessions_are_one = refl

-- ---- what is asked of the values of an option

one_value : (n : ℕ) → range_kinds 1 1 n ≡ [] → n ≡ 1
one_value n e = go (n == 0) (1 == n) refl e
  where
    go : (none one : Bool) → one ≡ (1 == n) → cond none (kind.InvalidValue ∷ []) (cond one [] (kind.WrongNumberOfValues ∷ [])) ≡ []
        → n ≡ 1
    go true one is e = absurd (none_of kind.InvalidValue e)
    go false true is e = sym (eqb-true 1 n (sym is))
    go false false is e = absurd (none_of kind.WrongNumberOfValues e)

not_there : (b : Bool) → cond (b && true) (kind.ArgumentConflict ∷ []) [] ≡ [] → b ≡ false
not_there true e = absurd (none_of kind.ArgumentConflict e)
not_there false e = refl

it_passes : (b : Bool) → or_else (cond b [] (kind.ValueValidation ∷ [])) [] ≡ [] → b ≡ true
it_passes true e = refl
it_passes false e = absurd (none_of kind.ValueValidation e)

help_fails : (values : List Text) (rows : List Row) → use_fault false help_flag values rows ≡ [] → ⊥
help_fails values rows e = none_of kind.DisplayHelp (neither (range_kinds 0 0 (length values)) _ e).1

neither_holds : (a b : Bool) → (a || b) ≡ false → (a ≡ false) × (b ≡ false)
neither_holds true b e = absurd (true≢false e)
neither_holds false b e = (refl, e)

same_either : (b : Bool) (rows : List Row) → cond b rows rows ≡ rows
same_either true rows = refl
same_either false rows = refl

-- an option without a default adds no row
none_added : (a : Rule) (rows : List Row) → a.defaults ≡ [] → with_default rows a ≡ rows
none_added a rows none =
    ap (λ (texts : List Text). cond (has_row a.id rows) rows (default_rows a.id (reading_by a) texts rows)) none
    ∙ same_either (has_row a.id rows) rows

abbrev UsePreserves : (List Row → Type 0) → List Text → List Row → Rule → Type 0
UsePreserves P values rows a = use_fault false a values rows ≡ [] → P rows → P (used a values rows)

-- ---- the row of an option: its one value is one that the option takes

module _ (name : Text) (Takes : Text → Type 0) where
  abbrev is_it : Row → Bool
  is_it r = bytes_eq r.id name

  abbrev IsGoodRow : Row → Type 0
  IsGoodRow r = (text : Text) × (row_text r ≡ Some text) × Takes text

  abbrev Good : List Row → Type 0
  Good rows = IfSome (find is_it rows) IsGoodRow

  -- the option has a value that it takes
  abbrev Has : List Row → Type 0
  Has rows = (text : Text) × (one_of name rows ≡ Some text) × Takes text

  abbrev Stays : (Row → List Row) → Type 0
  Stays change = (t : Row) (ts : List Row) → is_it t ≡ false → find is_it (change t ++ ts) ≡ find is_it ts

  more_stay : (source : ValueSource) (values : List Text) → Stays (more_values source values)
  more_stay source values t ts other = rw other refl

  none_stay : Stays (λ (_ : Row). [])
  none_stay t ts other = refl

  not_it : (other : Text) (r : Row) → bytes_eq other name ≡ false → bytes_eq r.id other ≡ true → is_it r ≡ false
  not_it other r differs e = ap (λ (id : Text). bytes_eq id name) ((bytes_eq-Decides r.id other).0 e) ∙ differs

  absent : (row : Row) → is_it row ≡ false → find is_it (row ∷ []) ≡ None
  absent row e = ap (λ (b : Bool). cond b (Some row) None) e

  -- a change of another option's row leaves this one
  other_row : (other : Text) (change : Row → List Row) (r : Row) (rest after : List Row) → bytes_eq other name ≡ false
      → find is_it after ≡ find is_it rest → Stays change → (b : Bool) → bytes_eq r.id other ≡ b
      → find is_it (cond b (change r ++ rest) (r ∷ after)) ≡ cond (is_it r) (Some r) (find is_it rest)
  other_row other change r rest after differs same stay true e =
      let it = not_it other r differs e in
      stay r rest it ∙ sym (ap (λ (b : Bool). cond b (Some r) (find is_it rest)) it)
  other_row other change r rest after differs same stay false e = ap (λ (o : Option Row). cond (is_it r) (Some r) o) same

  others_stay : (other : Text) (change : Row → List Row) (missing rows : List Row) → bytes_eq other name ≡ false → find is_it missing ≡ None
      → Stays change → find is_it (at_row other change missing rows) ≡ find is_it rows
  others_stay other change missing [] differs none stay = none
  others_stay other change missing (r ∷ rest) differs none stay =
      other_row other change r rest _ differs (others_stay other change missing rest differs none stay) stay (bytes_eq r.id other) refl

  other_preserves : (other : Text) (values : List Text) (row : Row) (rows : List Row) → bytes_eq other name ≡ false → is_it row ≡ false → Good rows
      → Good (at_row other (more_values CommandLine values) (row ∷ []) (without other rows))
  other_preserves other values row rows differs new good =
      let change = more_values CommandLine values in
      let same = others_stay other change (row ∷ []) (without other rows) differs (absent row new) (more_stay CommandLine values)
      ∙ others_stay other (λ (_ : Row). []) [] rows differs refl none_stay in
      subst (λ (o : Option Row). IfSome o IsGoodRow) (sym same) good

  -- a row that comes where none was
  left_alone : (rows : List Row) → has_row name rows ≡ false → without name rows ≡ rows
  left_alone [] none = refl
  left_alone (r ∷ rest) none =
      let parts = neither_holds (is_it r) _ none in
      ap (λ (b : Bool). cond b rest (r ∷ without name rest)) parts.0 ∙ ap (λ (t : List Row). r ∷ t) (left_alone rest parts.1)

  added_row : (change : Row → List Row) (row : Row) (rows : List Row) → is_it row ≡ true → has_row name rows ≡ false
      → find is_it (at_row name change (row ∷ []) rows) ≡ Some row
  added_row change row [] is none = ap (λ (b : Bool). cond b (Some row) None) is
  added_row change row (r ∷ rest) is none =
      let parts = neither_holds (is_it r) _ none in
      ap (λ (b : Bool). find is_it (cond b (change r ++ rest) (r ∷ at_row name change (row ∷ []) rest))) parts.0
      ∙ (ap (λ (b : Bool). cond b (Some r) (find is_it (at_row name change (row ∷ []) rest))) parts.0
      ∙ added_row change row rest is parts.1)

  used_first : (change : Row → List Row) (row : Row) (rows : List Row) → is_it row ≡ true → IsGoodRow row → has_row name rows ≡ false
      → Good (at_row name change (row ∷ []) (without name rows))
  used_first change row rows is good none =
      let same = ap (λ (rs : List Row). find is_it (at_row name change (row ∷ []) rs)) (left_alone rows none)
      ∙ added_row change row rows is none in
      subst (λ (o : Option Row). IfSome o IsGoodRow) (sym same) good

  is_itself : bytes_eq name name ≡ true
  is_itself = (bytes_eq-Decides name name).1 refl

  -- a use of another option preserves it
  other_rule : (a : Rule) (values : List Text) (rows : List Row) → action_of a ≡ Set → bytes_eq a.id name ≡ false
      → UsePreserves Good values rows a
  other_rule a values rows sets differs = λ e good.
      subst (λ (action : ArgAction). Good (used_as action a.id (reading_by a) (values_or_missing a values) rows)) (sym sets)
      (other_preserves a.id (values_or_missing a values) _ rows differs differs good)

  -- ---- at the end, its default where no row of it is there

  from_row : (rows : List Row) (r : Row) → find is_it rows ≡ Some r → IsGoodRow r → Has rows
  from_row rows r e good = (good.0, ap (option_and_then row_text) e ∙ good.1, good.2)

  found_if : (rows : List Row) → has_row name rows ≡ true → find is_it rows ≡ None → ⊥
  found_if [] e none = true≢false (sym e)
  found_if (r ∷ rest) e none = go (is_it r) (found_if rest) e none
    where
      go : (b : Bool) → (list_any is_it rest ≡ true → find is_it rest ≡ None → ⊥) → (b || list_any is_it rest) ≡ true
          → cond b (Some r) (find is_it rest) ≡ None → ⊥
      go true then e none = cc
      go false then e none = then e none

  there : (rows : List Row) → has_row name rows ≡ true → Good rows → Has rows
  there rows e good = go (find is_it rows) refl good
    where
      go : (o : Option Row) → find is_it rows ≡ o → IfSome o IsGoodRow → Has rows
      go None none good = absurd (found_if rows e none)
      go (Some r) is good = from_row rows r is good

  given : (rows : List Row) → is_given name rows ≡ true → Good rows → Has rows
  given rows e good = go (find is_it rows) refl e good
    where
      go : (o : Option Row) → find is_it rows ≡ o → option_map_or (λ r. explicit_source r.source) o false ≡ true → IfSome o IsGoodRow
          → Has rows
      go None none e good = absurd (true≢false (sym e))
      go (Some r) is e good = from_row rows r is good

  by_default : (change : Row → List Row) (row : Row) (rows : List Row) → is_it row ≡ true → IsGoodRow row → has_row name rows ≡ false
      → Has (at_row name change (row ∷ []) rows)
  by_default change row rows is good none = from_row (at_row name change (row ∷ []) rows) row (added_row change row rows is none) good

  one_or_other : (rows other : List Row) (b : Bool) → (b ≡ true → Has rows) → (b ≡ false → Has other) → Has (cond b rows other)
  one_or_other rows other true h d = h refl
  one_or_other rows other false h d = d refl

  number_added : (least : ℕ) (rows : List Row) → Takes (codes "100000") → Good rows → Has (with_default rows (with_its_default name least))
  number_added least rows default good = one_or_other rows _ (has_row name rows) (λ e. there rows e good)
      (λ none. by_default (more_values DefaultValue (codes "100000" ∷ [])) _ rows is_itself (codes "100000", refl, default) none)

  -- another option's default leaves it
  default_stays : (other : Text) (from : ℕ) (rows : List Row) → bytes_eq other name ≡ false
      → find is_it (with_default rows (with_its_default other from)) ≡ find is_it rows
  default_stays other from rows differs = go (has_row other rows)
    where
      go : (b : Bool) → find is_it (cond b rows (default_rows other (reading_by (with_its_default other from)) (codes "100000" ∷ []) rows))
          ≡ find is_it rows
      go true = refl
      go false = others_stay other (more_values DefaultValue (codes "100000" ∷ [])) _ rows differs (absent _ differs)
          (more_stay DefaultValue (codes "100000" ∷ []))

  good_stays : (other : Text) (from : ℕ) (rows : List Row) → bytes_eq other name ≡ false → Good rows
      → Good (with_default rows (with_its_default other from))
  good_stays other from rows differs good =
      subst (λ (o : Option Row). IfSome o IsGoodRow) (sym (default_stays other from rows differs)) good

  has_stays : (other : Text) (from : ℕ) (rows : List Row) → bytes_eq other name ≡ false → Has rows
      → Has (with_default rows (with_its_default other from))
  has_stays other from rows differs has =
      (has.0, ap (option_and_then row_text) (default_stays other from rows differs) ∙ has.1, has.2)

-- a use of an option of one number: the number is within the limits
number_preserves : (name : Text) (least most : ℕ) (defaults : List Text) (required : Bool) (values : List Text) (rows : List Row)
    → UsePreserves (Good name (IsUnsignedIn least most)) values rows (number_rule name least most defaults required)
number_preserves name least most defaults required [] rows = λ e _. absurd (none_of kind.InvalidValue e)
number_preserves name least most defaults required (v ∷ u ∷ rest) rows = λ e _.
    let one = one_value (length (v ∷ u ∷ rest)) (neither (range_kinds 1 1 (length (v ∷ u ∷ rest))) _ e).0 in
    absurd (omega arith)
number_preserves name least most defaults required (v ∷ []) rows = λ e _.
    let parts = neither (cond (has_row name rows && true) (kind.ArgumentConflict ∷ []) []) _ e in
    let none = not_there (has_row name rows) parts.0 in
    let passed = it_passes (accepts false (Unsigned least most) v) parts.1 in
    used_first name (IsUnsignedIn least most) (more_values CommandLine (v ∷ [])) _ rows (is_itself name (IsUnsignedIn least most))
    (v, refl, accepts-Accepts false (Unsigned least most) v passed) none

-- a use of the application's option: there is a text
app_preserves : (values : List Text) (rows : List Row) → UsePreserves (Good (codes "app") (λ _. ⊤)) values rows served_app_rule
app_preserves [] rows = λ e _. absurd (none_of kind.InvalidValue e)
app_preserves (v ∷ u ∷ rest) rows = λ e _.
    let one = one_value (length (v ∷ u ∷ rest)) (neither (range_kinds 1 1 (length (v ∷ u ∷ rest))) _ e).0 in
    absurd (omega arith)
app_preserves (v ∷ []) rows = λ e _.
    let none = not_there (has_row (codes "app") rows) (neither (cond (has_row (codes "app") rows && true) (kind.ArgumentConflict ∷ []) []) _ e).0 in
    used_first (codes "app") (λ _. ⊤) (more_values CommandLine (v ∷ [])) _ rows refl (v, refl, tt) none

-- ---- the words behind a subcommand

-- what each of the arguments preserves, the one that is used preserves
abbrev Each : (Rule → Type 0) → List Rule → Type 0
Each Holds [] = ⊤
Each Holds (a ∷ rest) = Holds a × Each Holds rest

found_holds : (Holds : Rule → Type 0) (rules : List Rule) → Each Holds rules → (q : Rule → Bool) (a : Rule) → find q rules ≡ Some a
    → Holds a
found_holds Holds [] each q a is = absurd cc
found_holds Holds (x ∷ rest) each q a is = go (q x) (found_holds Holds rest each.1 q a) is
  where
    go : (b : Bool) → (find q rest ≡ Some a → Holds a) → cond b (Some x) (find q rest) ≡ Some a → Holds a
    go true later is = let same : x ≡ a = cc in subst Holds same each.0
    go false later is = later is

abbrev InMoves : Text → Type 0
InMoves = IsUnsignedIn 1 1000000

abbrev InHistory : Text → Type 0
InHistory = IsUnsignedIn 2 1000000

abbrev InPort : Text → Type 0
InPort = IsUnsignedIn 1 65535

abbrev InSessions : Text → Type 0
InSessions = IsUnsignedIn 1 64

abbrev AnyText : Text → Type 0
AnyText text = ⊤

-- help preserves what there is, since it ends the parse
help_preserves : (name : Text) (Takes : Text → Type 0) (values : List Text) (rows : List Row) → UsePreserves (Good name Takes) values rows help_flag
help_preserves name Takes values rows = λ e good. absurd (help_fails values rows e)

moves_preserved : (values : List Text) (rows : List Row) → UsePreserves (Good (codes "moves") InMoves) values rows moves_rule
moves_preserved = number_preserves (codes "moves") 1 1000000 (codes "100000" ∷ []) false

history_preserved : (values : List Text) (rows : List Row) → UsePreserves (Good (codes "history") InHistory) values rows history_rule
history_preserved = number_preserves (codes "history") 2 1000000 (codes "100000" ∷ []) false

port_preserved : (values : List Text) (rows : List Row) → UsePreserves (Good (codes "port") InPort) values rows port_rule
port_preserved = number_preserves (codes "port") 1 65535 [] true

sessions_preserved : (values : List Text) (rows : List Row) → UsePreserves (Good (codes "sessions") InSessions) values rows sessions_rule
sessions_preserved = number_preserves (codes "sessions") 1 64 [] true

-- what the defaults of moves and history add at the end
abbrev with_defaults : List Row → List Row
with_defaults rows = with_default (with_default rows moves_rule) history_rule

many_moves : InMoves (codes "100000")
many_moves = accepts-Accepts false (Unsigned 1 1000000) (codes "100000") refl

many_entries : InHistory (codes "100000")
many_entries = accepts-Accepts false (Unsigned 2 1000000) (codes "100000") refl

limits_in : (rows : List Row) → Good (codes "moves") InMoves rows → Good (codes "history") InHistory rows → HasLimits (with_defaults rows)
limits_in rows moves history = record {
  moves = has_stays (codes "moves") InMoves (codes "history") 2 (with_default rows moves_rule) refl
      (number_added (codes "moves") InMoves 1 rows many_moves moves);
  history = number_added (codes "history") InHistory 2 (with_default rows moves_rule) many_entries
      (good_stays (codes "history") InHistory (codes "moves") 1 rows refl history);
}

-- what both defaults leave, and was given
given_at_end : (name : Text) (Takes : Text → Type 0) (rows : List Row) → bytes_eq (codes "moves") name ≡ false
    → bytes_eq (codes "history") name ≡ false → is_given name (with_defaults rows) ≡ true → Good name Takes rows
    → Has name Takes (with_defaults rows)
given_at_end name Takes rows no_moves no_history is good =
    given name Takes (with_defaults rows) is
    (good_stays name Takes (codes "history") 2 (with_default rows moves_rule) no_history
    (good_stays name Takes (codes "moves") 1 rows no_moves good))

-- ---- `run`

run_ends : (rows : List Row) → fold with_default rows run_shape.rules ≡ with_defaults rows
run_ends rows =
    none_added help_flag (with_defaults (with_default rows app_rule)) refl ∙ ap with_defaults (none_added app_rule rows refl)

module _ (name : Text) (Takes : Text → Type 0)
    (preserve : (values : List Text) (rows : List Row) → Each (UsePreserves (Good name Takes) values rows) run_shape.rules) where
  run_preserves : (words : List Text) → walk_fault run_shape [] (walk_from nothing_held) words ≡ []
      → settle_fault run_shape.rules false (walk run_shape.rules [] nothing_held words).held ≡ []
      → Good name Takes (settled run_shape.rules (walk run_shape.rules [] nothing_held words).held).rows
  run_preserves words walks settles =
      level_preserves run_shape [] (Good name Takes)
      (λ q a values rows is. found_holds (UsePreserves (Good name Takes) values rows) run_shape.rules (preserve values rows) q a is)
      words walks settles tt

in_run : (words : List Text) → level_fault run_shape [] nothing_held words false [] ≡ [] → HasLimits (rows_after run_shape.rules [] words)
in_run words e =
    let parts = neither (walk_fault run_shape [] (walk_from nothing_held) words) _ e in
    let more = neither (settle_fault run_shape.rules false (walk run_shape.rules [] nothing_held words).held) _ parts.1 in
    let end = (settled run_shape.rules (walk run_shape.rules [] nothing_held words).held).rows in
    let moves = run_preserves (codes "moves") InMoves (λ values rows. (
      other_rule (codes "moves") InMoves app_rule values rows refl refl,
      (
        moves_preserved values rows,
        (
          other_rule (codes "moves") InMoves history_rule values rows refl refl,
          (help_preserves (codes "moves") InMoves values rows, tt),
        ),
      ),
    )) words parts.0 more.0 in
    let history = run_preserves (codes "history") InHistory (λ values rows. (
      other_rule (codes "history") InHistory app_rule values rows refl refl,
      (
        other_rule (codes "history") InHistory moves_rule values rows refl refl,
        (
          history_preserved values rows,
          (help_preserves (codes "history") InHistory values rows, tt),
        ),
      ),
    )) words parts.0 more.0 in
    subst HasLimits (sym (run_ends end)) (limits_in end moves history)

-- ---- `serve`

serve_ends : (rows : List Row) → fold with_default rows serve_shape.rules ≡ with_defaults rows
serve_ends rows =
    let named = with_default rows served_app_rule in
    let at_port = with_default named port_rule in
    let first = none_added sessions_rule at_port refl ∙ (none_added port_rule named refl ∙ none_added served_app_rule rows refl) in
    none_added help_flag (with_defaults (with_default at_port sessions_rule)) refl ∙ ap with_defaults first

module _ (name : Text) (Takes : Text → Type 0)
    (preserve : (values : List Text) (rows : List Row) → Each (UsePreserves (Good name Takes) values rows) serve_shape.rules) where
  serve_preserves : (words : List Text) → walk_fault serve_shape [] (walk_from nothing_held) words ≡ []
      → settle_fault serve_shape.rules false (walk serve_shape.rules [] nothing_held words).held ≡ []
      → Good name Takes (settled serve_shape.rules (walk serve_shape.rules [] nothing_held words).held).rows
  serve_preserves words walks settles =
      level_preserves serve_shape [] (Good name Takes)
      (λ q a values rows is. found_holds (UsePreserves (Good name Takes) values rows) serve_shape.rules (preserve values rows) q a is)
      words walks settles tt

-- the three that are required are given
all_given : (app port sessions : Bool) (k : ErrorKind)
    → cond (not app || (not port || (not sessions || false))) (k ∷ []) [] ≡ []
    → (app ≡ true) × (port ≡ true) × (sessions ≡ true)
all_given true true true k e = (refl, refl, refl)
all_given false port sessions k e = absurd cc
all_given true false sessions k e = absurd cc
all_given true true false k e = absurd cc

required_given : (rows : List Row) → check_fault serve_shape rows false ≡ []
    → (is_given (codes "app") rows ≡ true) × (is_given (codes "port") rows ≡ true) × (is_given (codes "sessions") rows ≡ true)
required_given rows e =
    all_given (is_given (codes "app") rows) (is_given (codes "port") rows) (is_given (codes "sessions") rows) kind.MissingRequiredArgument e

-- a row that has a text has a first value
first_there : (rows : List Row) → Has (codes "app") AnyText rows → is_some (first_of (codes "app") rows) ≡ true
first_there rows has = go (find (λ r. bytes_eq r.id (codes "app")) rows) has.1
  where
    first : (how : Reading) (value : Option Text) → option_map (read_as how) value ≡ Some has.0 → is_some value ≡ true
    first how None e = absurd cc
    first how (Some v) e = refl

    go : (o : Option Row) → option_and_then row_text o ≡ Some has.0 → is_some (option_and_then (λ r. slice_get r.values 0) o) ≡ true
    go None e = absurd cc
    go (Some r) e = first r.reading (slice_get r.values 0) e

in_serve : (words : List Text) → level_fault serve_shape [] nothing_held words false [] ≡ []
    → HasServerLimits (rows_after serve_shape.rules [] words)
in_serve words e =
    let parts = neither (walk_fault serve_shape [] (walk_from nothing_held) words) _ e in
    let more = neither (settle_fault serve_shape.rules false (walk serve_shape.rules [] nothing_held words).held) _ parts.1 in
    let end = (settled serve_shape.rules (walk serve_shape.rules [] nothing_held words).held).rows in
    let last = neither (defaults_fault end serve_shape.rules) _ more.1 in
    let all = required_given (with_defaults end)
    (subst (λ (rows : List Row). check_fault serve_shape rows false ≡ []) (serve_ends end) last.1) in
    let app = serve_preserves (codes "app") AnyText (λ values rows. (
      app_preserves values rows,
      (
        other_rule (codes "app") AnyText port_rule values rows refl refl,
        (
          other_rule (codes "app") AnyText sessions_rule values rows refl refl,
          (
            other_rule (codes "app") AnyText moves_rule values rows refl refl,
            (
              other_rule (codes "app") AnyText history_rule values rows refl refl,
              (help_preserves (codes "app") AnyText values rows, tt),
            ),
          ),
        ),
      ),
    )) words parts.0 more.0 in
    let port = serve_preserves (codes "port") InPort (λ values rows. (
      other_rule (codes "port") InPort served_app_rule values rows refl refl,
      (
        port_preserved values rows,
        (
          other_rule (codes "port") InPort sessions_rule values rows refl refl,
          (
            other_rule (codes "port") InPort moves_rule values rows refl refl,
            (
              other_rule (codes "port") InPort history_rule values rows refl refl,
              (help_preserves (codes "port") InPort values rows, tt),
            ),
          ),
        ),
      ),
    )) words parts.0 more.0 in
    let sessions = serve_preserves (codes "sessions") InSessions (λ values rows. (
      other_rule (codes "sessions") InSessions served_app_rule values rows refl refl,
      (
        other_rule (codes "sessions") InSessions port_rule values rows refl refl,
        (
          sessions_preserved values rows,
          (
            other_rule (codes "sessions") InSessions moves_rule values rows refl refl,
            (
              other_rule (codes "sessions") InSessions history_rule values rows refl refl,
              (help_preserves (codes "sessions") InSessions values rows, tt),
            ),
          ),
        ),
      ),
    )) words parts.0 more.0 in
    let moves = serve_preserves (codes "moves") InMoves (λ values rows. (
      other_rule (codes "moves") InMoves served_app_rule values rows refl refl,
      (
        other_rule (codes "moves") InMoves port_rule values rows refl refl,
        (
          other_rule (codes "moves") InMoves sessions_rule values rows refl refl,
          (
            moves_preserved values rows,
            (
              other_rule (codes "moves") InMoves history_rule values rows refl refl,
              (help_preserves (codes "moves") InMoves values rows, tt),
            ),
          ),
        ),
      ),
    )) words parts.0 more.0 in
    let history = serve_preserves (codes "history") InHistory (λ values rows. (
      other_rule (codes "history") InHistory served_app_rule values rows refl refl,
      (
        other_rule (codes "history") InHistory port_rule values rows refl refl,
        (
          other_rule (codes "history") InHistory sessions_rule values rows refl refl,
          (
            other_rule (codes "history") InHistory moves_rule values rows refl refl,
            (
              history_preserved values rows,
              (help_preserves (codes "history") InHistory values rows, tt),
            ),
          ),
        ),
      ),
    )) words parts.0 more.0 in
    let here : HasServerLimits (with_defaults end) = record {
      each = limits_in end moves history;
      app = first_there (with_defaults end) (given_at_end (codes "app") AnyText end refl refl all.0 app);
      port = given_at_end (codes "port") InPort end refl refl all.1 port;
      sessions = given_at_end (codes "sessions") InSessions end refl refl all.2 sessions;
    } in
    subst HasServerLimits (sym (serve_ends end)) here

-- ---- the whole command line

wants_run : (rows : List Row) (has : Bool) → check_fault line.top rows has ≡ [] → has ≡ true
wants_run rows true e = refl
wants_run rows false e = absurd (none_of kind.MissingSubcommand e)

or_nothing : (b : Bool) → (b || false) ≡ true → b ≡ true
or_nothing true e = refl
or_nothing false e = e

not_help : (name : Text) → bytes_eq name (codes "help") ≡ false → (bytes_eq (codes "help") name || false) ≡ true → ⊥
not_help name other e =
    let same = (bytes_eq-Decides (codes "help") name).0 (or_nothing _ e) in
    true≢false (sym ((bytes_eq-Decides name (codes "help")).1 (sym same)) ∙ other)

in_either : (words : List Text) (x y z : Bool) → (z ≡ true → ⊥)
    → option_map_or (λ s. level_fault s [] nothing_held words false [])
    (cond x (Some run_shape) (cond y (Some serve_shape) (cond z (Some help_command) None))) [] ≡ []
    → is_some (option_map (λ s. rows_at s words) (cond x (Some run_shape) (cond y (Some serve_shape) (cond z (Some help_command) None)))) ≡ true
    → IsWhole (option_map (λ s. rows_at s words) (cond x (Some run_shape) (cond y (Some serve_shape) (cond z (Some help_command) None))))
in_either words true y z other e some = inl (refl, in_run words e)
in_either words false true z other e some = inr (refl, in_serve words e)
in_either words false false true other e some = absurd (other refl)
in_either words false false false other e some = absurd (true≢false (sym some))

at_stop : (stop : Option (Text × List Text)) → EndsElsewhere stop → entered_fault line stop ≡ [] → is_some (entered line stop) ≡ true
    → IsWhole (entered line stop)
at_stop None elsewhere e some = absurd (true≢false (sym some))
at_stop (Some p) elsewhere e some =
    in_either p.1 (answers_to p.0 (label_of run_shape)) (answers_to p.0 (label_of serve_shape)) (answers_to p.0 (label_of help_command))
    (not_help p.0 elsewhere) e some

-- Words with which nothing is wrong give a whole session or server.
pub whole_always : (words : List Text) → faults_of words ≡ [] → IsWhole (subcommand_in words)
unfolding faults_of subcommand_in
whole_always words e =
    let end = walk line.top.rules (names_of line) nothing_held words in
    let first = neither (walk_fault line.top (names_of line) (walk_from nothing_held) words) _ e in
    let below = neither (entered_fault line end.stopped) _ first.1 in
    let settles = neither (settle_fault line.top.rules false end.held) _ below.1 in
    let last = neither (defaults_fault (settled line.top.rules end.held).rows line.top.rules) _ settles.1 in
    let elsewhere = walk_or_help line.top (names_of line) refl words (walk_from nothing_held) first.0 tt in
    at_stop end.stopped elsewhere below.0 (wants_run (finished line.top.rules end.held) (is_some (entered line end.stopped)) last.1)
