-- The goals of keep that the check left open.
use Rattle.std.proofs.Common.{◌∙◌, List, Bor, ℕ, Ok, ap, sym}
use Rattle.rd_names.specs.Apps.{AppView}
use Rattle.rd_names.specs.Names.{lists_view}
use Rattle.rd_script.specs.Draft.{app_draft_view}
use Rattle.rd_script.specs.Named.{names_with, together}
use Rattle.rd_script.specs.Objects.{drafts_view}
use Rattle.rd_script.proofs.AppLaws.{together_by, there_is}
use Rattle.rd_text.specs.Words.{texts}
use Rattle.rd_script.proofs.file.keep.Goals as goal

pub unwrap-requires : goal.unwrap-requires
unwrap-requires c =
    let draft = c.args.draft.now in
    let made = c.in_ok-program.ensures.ok in
    let lists = c.lists-lists.ensures
    ∙ ap (λ (tasks : List (Bor (List ℕ))). names_with (drafts_view draft.objects) (texts tasks)) c.as_slice.ensures.value in
    let kept = together_by (app_draft_view draft) c.in_ok-program.program c.in_ok-program.names (lists_view c.lists-lists.result)
    (rw made.0 at c.keep_program.ensures) c.requires (rw made.1 at c.new-names.ensures) lists in
    there_is c.new.result c.in_ok-program.program c.in_ok-program.names kept.paired c.new.ensures

pub returns : goal.returns
returns c =
    let draft = c.args.draft.now in
    let made = c.in_ok-program.ensures.ok in
    let lists = c.lists-lists.ensures
    ∙ ap (λ (tasks : List (Bor (List ℕ))). names_with (drafts_view draft.objects) (texts tasks)) c.as_slice.ensures.value in
    let kept = together_by (app_draft_view draft) c.in_ok-program.program c.in_ok-program.names (lists_view c.lists-lists.result)
    (rw made.0 at c.keep_program.ensures) c.requires (rw made.1 at c.new-names.ensures) lists in
    let same = rw c.unwrap.ensures at c.new.ensures in
    kept.is ∙ ap (λ (app : AppView). Ok (together app)) (sym same)
