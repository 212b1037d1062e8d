-- The goals of options that the check left open.
use Rattle.std.proofs.Common.{◌≡◌, ◌∙◌, ◌==◌, Ok, Err, List, length, map, string_bytes, String, Global, eq-eqb, eqb-true, false, refl, subst, sym, true≢false}
use Rattle.std.proofs.lemmas.Option.{IfSome_then}
use Rattle.clap.specs.Words.{kind_of, subcommand_rows_of}
use Rattle.rd_start.specs.Requests.{IsWhole}
use Rattle.rd_start.proofs.WalkLaws.{whole_always}
use Rattle.rd_start.proofs.WordsLaws.{asked_by_words, asked_for_help, fails_by, fault_of_words, no_words_asked, no_words_settings}
use Rattle.rd_start.proofs.WordsLaws.{none_untold, request_of_words, some_words, subcommand_found, told}
use Rattle.rd_start.proofs.options.options.Goals as goal

-- words that are there are read as they are
some_read : (words : List (String Global)) → (length words == 0) ≡ false → (length words ≡ 0 → ⊥)
some_read words e none = true≢false (sym (eq-eqb _ _ none) ∙ e)

pub returns-then-is_empty-clause-settings : goal.returns-then-is_empty-clause-settings
returns-then-is_empty-clause-settings c =
    no_words_settings string_bytes c.args.words.now (eqb-true _ _ (sym c.is_empty.ensures ∙ c.if-is_empty.true))

pub returns-then-is_empty-clause-asked : goal.returns-then-is_empty-clause-asked
returns-then-is_empty-clause-asked c =
    no_words_asked string_bytes c.args.words.now (eqb-true _ _ (sym c.is_empty.ensures ∙ c.if-is_empty.true))

pub returns-in-Err-clause-asked : goal.returns-in-Err-clause-asked
returns-in-Err-clause-asked c =
    let read = some_words string_bytes c.args.words.now (some_read _ (sym c.is_empty.ensures ∙ c.if-is_empty.false)) in
    let why = fails_by _ _ _ (Err c.in-Err.error) c.in_ok-command.ensures read c.in-Err.ensures.kinds in
    asked_for_help _ (kind_of c.in-Err.error) _ why c.without_settings.ensures.asked c.without_settings.ensures.help

pub returns-in-Err-clause-fault : goal.returns-in-Err-clause-fault
returns-in-Err-clause-fault c =
    let read = some_words string_bytes c.args.words.now (some_read _ (sym c.is_empty.ensures ∙ c.if-is_empty.false)) in
    let why = fails_by _ _ _ (Err c.in-Err.error) c.in_ok-command.ensures read c.in-Err.ensures.kinds in
    fault_of_words _ (kind_of c.in-Err.error) _ why c.without_settings.ensures.fault

pub returns-in-Ok-clause-settings : goal.returns-in-Ok-clause-settings
returns-in-Ok-clause-settings c =
    let m = c.in-Ok.matches in
    let words = map string_bytes c.args.words.now in
    let read = some_words string_bytes c.args.words.now (some_read _ (sym c.is_empty.ensures ∙ c.if-is_empty.false)) in
    let found = subcommand_found _ words m c.in_ok-command.ensures c.in-Ok.ensures.matches in
    told c.request_of.result c.ok_or.result _ c.ok_or.ensures.value
    (IfSome_then c.request_of.result c.request_of.ensures.settings
    (λ request. request_of_words words _ (subcommand_rows_of m) request read found))

pub returns-in-Ok-clause-asked : goal.returns-in-Ok-clause-asked
returns-in-Ok-clause-asked c =
    let m = c.in-Ok.matches in
    let words = map string_bytes c.args.words.now in
    let read = some_words string_bytes c.args.words.now (some_read _ (sym c.is_empty.ensures ∙ c.if-is_empty.false)) in
    let found = subcommand_found _ words m c.in_ok-command.ensures c.in-Ok.ensures.matches in
    let none = fails_by _ words _ (Ok m) c.in_ok-command.ensures read c.in-Ok.ensures.kinds in
    told c.request_of.result c.ok_or.result _ c.ok_or.ensures.value
    (IfSome_then c.request_of.result c.request_of.ensures.name
    (λ request. asked_by_words words _ (subcommand_rows_of m) request read found none))

pub returns-in-Ok-clause-fault : goal.returns-in-Ok-clause-fault
returns-in-Ok-clause-fault c =
    let m = c.in-Ok.matches in
    let words = map string_bytes c.args.words.now in
    let found = subcommand_found _ words m c.in_ok-command.ensures c.in-Ok.ensures.matches in
    let none = fails_by _ words words (Ok m) c.in_ok-command.ensures refl c.in-Ok.ensures.kinds in
    let whole = subst IsWhole (sym found) (whole_always words none) in
    none_untold c.request_of.result c.ok_or.result _ c.ok_or.ensures.value (c.request_of.ensures.some whole)
