-- The goal of command: what each step adds.
use Rattle.std.proofs.Common.{◌∙◌, true, ap, ap₂}
use Rattle.std.proofs.lemmas.Result.{IfOk-weaker}
use Rattle.clap.specs.Words.{with_rule}
use Rattle.clap.specs.Simple.{app_of_fields, on_top}
use Rattle.rd_question.proofs.options.command.Goals as goal

pub returns : goal.returns
returns c =
    let described = ap app_of_fields c.after_help.ensures ∙ (ap app_of_fields c.about.ensures ∙ c.new.ensures.app) in
    let named = ap app_of_fields c.in_ok-bin_name.ensures.0 ∙ described in
    let no_name = ap app_of_fields c.no_binary_name.ensures ∙ ap (on_top (λ s. record s { no_binary_name = true })) named in
    let with_file = c.in_ok-arg.ensures.shape c.file_arg.ensures.local ∙ ap₂ with_rule no_name c.file_arg.ensures.rule in
    let with_goal = c.in_ok-arg-2.ensures.shape c.goal_arg.ensures.local ∙ ap₂ with_rule with_file c.goal_arg.ensures.rule in
    let with_lost = c.in_ok-arg-3.ensures.shape c.lost_arg.ensures.local ∙ ap₂ with_rule with_goal c.lost_arg.ensures.rule in
    let with_doomed = c.in_ok-arg-4.ensures.shape c.doomed_arg.ensures.local ∙ ap₂ with_rule with_lost c.doomed_arg.ensures.rule in
    let with_from = c.in_ok-arg-5.ensures.shape c.from_arg.ensures.local ∙ ap₂ with_rule with_doomed c.from_arg.ensures.rule in
    let with_moves = c.in_ok-arg-6.ensures.shape c.moves_arg.ensures.local ∙ ap₂ with_rule with_from c.moves_arg.ensures.rule in
    let with_pace = c.in_ok-arg-7.ensures.shape c.pace_arg.ensures.local ∙ ap₂ with_rule with_moves c.pace_arg.ensures.rule in
    let with_isr = c.in_ok-arg-8.ensures.shape c.isr_arg.ensures.local ∙ ap₂ with_rule with_pace c.isr_arg.ensures.rule in
    let with_times = c.in_ok-arg-9.ensures.shape c.times_arg.ensures.local ∙ ap₂ with_rule with_isr c.times_arg.ensures.rule in
    let with_after = c.in_ok-arg-10.ensures.shape c.after_arg.ensures.local ∙ ap₂ with_rule with_times c.after_arg.ensures.rule in
    let with_apart = c.in_ok-arg-11.ensures.shape c.apart_arg.ensures.local ∙ ap₂ with_rule with_after c.apart_arg.ensures.rule in
    let with_surprises = c.in_ok-arg-12.ensures.shape c.surprises_arg.ensures.local ∙ ap₂ with_rule with_apart c.surprises_arg.ensures.rule in
    let with_states = c.in_ok-arg-13.ensures.shape c.states_arg.ensures.local ∙ ap₂ with_rule with_surprises c.states_arg.ensures.rule in
    let with_memory = c.in_ok-arg-14.ensures.shape c.memory_arg.ensures.local ∙ ap₂ with_rule with_states c.memory_arg.ensures.rule in
    let with_part = c.in_ok-arg-15.ensures.shape c.part_arg.ensures.local ∙ ap₂ with_rule with_memory c.part_arg.ensures.rule in
    let with_exact = c.in_ok-arg-16.ensures.shape c.exact_arg.ensures.local ∙ ap₂ with_rule with_part c.exact_arg.ensures.rule in
    let with_progress = c.in_ok-arg-17.ensures.shape c.progress_arg.ensures.local ∙ ap₂ with_rule with_exact c.progress_arg.ensures.rule in
    IfOk-weaker c.arg-18.result _ _
    (λ line added. added.shape c.engine_arg.ensures.local ∙ ap₂ with_rule with_progress c.engine_arg.ensures.rule) c.arg-18.ensures
