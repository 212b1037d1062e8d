-- The goals of read_text that the check left open.
use Rattle.std.proofs.Common.{◌∙◌, sym, true≢false}
use Rattle.serde_json.specs.View.{view}
use Rattle.rd_script.proofs.AppLaws.{text_is_file, text_is_none, text_is_some, at_any}
use Rattle.rd_script.proofs.file.read_text.Goals as goal
use Rattle.rd_script.proofs.file.read_text.Goals.{then-is_memory, else-is_memory}

pub returns-in-Ok-clause-exact : goal.returns-in-Ok-clause-exact
returns-in-Ok-clause-exact c =
    let is = text_is_file c.args.text.now (view c.in-Ok.file) c.in-Ok.ensures.ok in
    rw is (at_any c.read_file.result _ c.read_file.ensures)

pub returns-in-Ok-clause-memory : goal.returns-in-Ok-clause-memory
returns-in-Ok-clause-memory c = λ e. text_is_some c.args.text.now (view c.in-Ok.file) c.in-Ok.ensures.ok

pub returns-after-is_memory-clause-exact : goal.returns-after-is_memory-clause-exact
returns-after-is_memory-clause-exact c =
    elim c.if-is_memory.branch [
      | then-is_memory w ↦ λ other. absurd (other w.result-is)
      | else-is_memory w ↦ λ other. rw w.result-is
          (text_is_none c.args.text.now (c.in-Err.ensures.err (λ memory. true≢false (sym (c.is_memory.ensures.1 memory) ∙ w.if-is_memory.false))))
    ]

pub returns-after-is_memory-clause-memory : goal.returns-after-is_memory-clause-memory
returns-after-is_memory-clause-memory c =
    elim c.if-is_memory.branch [
      | then-is_memory w ↦ λ e. c.in-Err.ensures.memory (c.is_memory.ensures.0 w.if-is_memory.true)
      | else-is_memory w ↦ λ e. absurd cc
    ]
