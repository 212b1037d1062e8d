-- The goals of options that the check left open.
use Rattle.std.proofs.Common.{Ok, Err, map, string_bytes}
use Rattle.clap.specs.Words.{found_of, kind_of, rows_of}
use Rattle.rd_question.proofs.LineLaws.{asked_for_help, asked_if_request, fails_by, fault_in_words, fault_of_words, goal_fault_in_words, rows_found}
use Rattle.rd_question.proofs.options.options.Goals as goal

pub returns-in-Err-clause-asked : goal.returns-in-Err-clause-asked
returns-in-Err-clause-asked c =
    let words = map string_bytes c.args.words.now in
    let why = fails_by _ words (Err c.in-Err.error) c.in_ok-command.ensures c.in-Err.ensures.kinds in
    asked_for_help words (kind_of c.in-Err.error) c.without_question.result why c.without_question.ensures.help

pub returns-in_ok-question-in-Ok-clause-asked : goal.returns-in_ok-question-in-Ok-clause-asked
returns-in_ok-question-in-Ok-clause-asked c =
    let words = map string_bytes c.args.words.now in
    let same = rows_found _ words c.in-Ok.matches c.in_ok-command.ensures c.in-Ok.ensures.matches in
    let none = fails_by _ words (Ok c.in-Ok.matches) c.in_ok-command.ensures c.in-Ok.ensures.kinds in
    asked_if_request words (rows_of (found_of c.in-Ok.matches)) c.request_of.result same none c.request_of.ensures.asked

pub returns-in_ok-question-in-Ok-clause-fault : goal.returns-in_ok-question-in-Ok-clause-fault
returns-in_ok-question-in-Ok-clause-fault c =
    let words = map string_bytes c.args.words.now in
    let same = rows_found _ words c.in-Ok.matches c.in_ok-command.ensures c.in-Ok.ensures.matches in
    let none = fails_by _ words (Ok c.in-Ok.matches) c.in_ok-command.ensures c.in-Ok.ensures.kinds in
    goal_fault_in_words words (rows_of (found_of c.in-Ok.matches)) c.request_of.result same none c.request_of.ensures.fault

pub returns-in_err-question-in-Ok-clause-fault : goal.returns-in_err-question-in-Ok-clause-fault
returns-in_err-question-in-Ok-clause-fault c =
    let words = map string_bytes c.args.words.now in
    let same = rows_found _ words c.in-Ok.matches c.in_ok-command.ensures c.in-Ok.ensures.matches in
    let none = fails_by _ words (Ok c.in-Ok.matches) c.in_ok-command.ensures c.in-Ok.ensures.kinds in
    fault_in_words words (rows_of (found_of c.in-Ok.matches)) c.from_residual-in_err-question-in-Ok.result c.in_err-question-in-Ok.field-0.0
    c.from_residual-in_err-question-in-Ok.ensures.1 same none c.in_err-question-in-Ok.ensures.fault

pub returns-in-Err-clause-fault : goal.returns-in-Err-clause-fault
returns-in-Err-clause-fault c =
    let words = map string_bytes c.args.words.now in
    let why = fails_by _ words (Err c.in-Err.error) c.in_ok-command.ensures c.in-Err.ensures.kinds in
    fault_of_words words (kind_of c.in-Err.error) c.without_question.result why c.without_question.ensures.fault
