-- The words ask for all assertions, or about one statement; or no file follows the label.
use Rattle.std.proofs.Common.{List, map, ap, codes}
use Rattle.std.proofs.lemmas.Result.{IfErr-weaker, IfOk-weaker}
use Rattle.clap.specs.Words.{Row, Text, found_of, rows_of}
use Rattle.mm_base.proofs.Lists.{error_keeps}
use Rattle.mm_words.specs.Words.{Commands}
use Rattle.mm_words.specs.RefusedWords.{IsWordFault}
use Rattle.mm_words.proofs.AskedWords.{assertions_asked, statement_asked, statement_refused}
use Rattle.mm_words.proofs.find_request.statement_request.Goals as goal

pub returns-then-is_given-clause-request : goal.returns-then-is_given-clause-request
returns-then-is_given-clause-request c =
    IfOk-weaker c.assertions_request.result _ _
    (λ request asks words commands. asks words
    (assertions_asked (rows_of (found_of c.args.matches.now)) _ _ _ c.is_given.ensures
    c.is_given-comment.ensures c.in_ok-words.ensures c.if-is_given.true words commands))
    c.assertions_request.ensures.request

pub returns-then-is_given-clause-fault : goal.returns-then-is_given-clause-fault
returns-then-is_given-clause-fault c =
    IfErr-weaker c.assertions_request.result _ _
    (λ stop refused words commands. refused words
    (assertions_asked (rows_of (found_of c.args.matches.now)) _ _ _ c.is_given.ensures
    c.is_given-comment.ensures c.in_ok-words.ensures c.if-is_given.true words commands))
    c.assertions_request.ensures.fault

pub returns-in_err-label-clause-fault : goal.returns-in_err-label-clause-fault
returns-in_err-label-clause-fault c =
    let rows : List Row = rows_of (found_of c.args.matches.now) in
    error_keeps c.from_residual-in_err-label.result c.in_err-label.field-0.0
    (λ stop. (words : List Text) → Commands words (codes "statement") rows
    → IsWordFault words stop)
    c.from_residual-in_err-label.ensures.1
    (statement_refused rows _ _ _ c.is_given.ensures c.is_given-comment.ensures
    c.in_ok-words.ensures c.if-is_given.false _ _ (ap (map (λ word. word.now)) c.deref.ensures.value)
    c.in_err-label.ensures.fault)

pub returns-clause-request : goal.returns-clause-request
returns-clause-request c = λ words commands.
    statement_asked (rows_of (found_of c.args.matches.now)) _ _ _ c.is_given.ensures
    c.is_given-comment.ensures c.in_ok-words.ensures c.if-is_given.false _ _ _
    (ap (map (λ word. word.now)) c.deref.ensures.value)
    (rw c.as_bytes-label.ensures.value c.in_ok-label.ensures.parts) words commands
