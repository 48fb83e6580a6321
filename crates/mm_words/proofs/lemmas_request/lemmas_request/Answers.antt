-- The words ask for a list of lemmas, or for a file with them; or flags don't stand beside each other,
-- what stands behind an option is no number, or no such file is asked for.
use Rattle.std.proofs.Common.{◌∙◌, IsTrue, List, ap, codes, map, rules}
use Rattle.clap.specs.Words.{Row, Text, found_of, rows_of}
use Rattle.mm_base.proofs.Lists.{error_keeps}
use Rattle.mm_words.specs.Words.{Commands}
use Rattle.mm_words.specs.RefusedWords.{IsWordFault}
use Rattle.mm_words.proofs.LemmaWishes.{apart_refused, least_refused, lemma_file_asked}
use Rattle.mm_words.proofs.LemmaWishes.{lemmas_asked, most_refused, wish_refused}
use Rattle.mm_words.proofs.lemmas_request.lemmas_request.Goals as goal

pub returns-then-not-stand_together-clause-fault : goal.returns-then-not-stand_together-clause-fault
returns-then-not-stand_together-clause-fault c =
    apart_refused (rows_of (found_of c.args.matches.now)) _ _ _ _ c.lemmas_flags-flags.ensures
    (λ together. let is : IsTrue c.stand_together.result = c.stand_together.ensures.1
    (rw (c.is_some-has_prefix.ensures, c.is_some-has_comment.ensures) together) in search rules)

pub returns-in_err-most-clause-fault : goal.returns-in_err-most-clause-fault
returns-in_err-most-clause-fault c =
    let rows : List Row = rows_of (found_of c.args.matches.now) in
    error_keeps c.from_residual-in_err-most.result c.in_err-most.field-0.0
    (λ stop. (words : List Text) → Commands words (codes "lemmas") rows → IsWordFault words stop)
    c.from_residual-in_err-most.ensures.1
    (most_refused rows _ _ _ _ c.lemmas_flags-flags.ensures _ c.in_err-most.ensures.fault)

pub returns-in_err-least-clause-fault : goal.returns-in_err-least-clause-fault
returns-in_err-least-clause-fault c =
    let rows : List Row = rows_of (found_of c.args.matches.now) in
    error_keeps c.from_residual-in_err-least.result c.in_err-least.field-0.0
    (λ stop. (words : List Text) → Commands words (codes "lemmas") rows → IsWordFault words stop)
    c.from_residual-in_err-least.ensures.1
    (least_refused rows _ _ _ _ c.lemmas_flags-flags.ensures _ c.in_err-least.ensures.fault)

pub returns-then-flags-clause-request : goal.returns-then-flags-clause-request
returns-then-flags-clause-request c =
    let is : IsTrue c.stand_together.result = search rules in
    lemmas_asked (rows_of (found_of c.args.matches.now)) _ _ _ _ c.lemmas_flags-flags.ensures
    (rw (c.is_some-has_prefix.ensures, c.is_some-has_comment.ensures)
    at c.stand_together.ensures.0 is)
    c.if-flags.true _ _ (c.in_ok-most.ensures.number, c.in_ok-least.ensures.number) _
    c.in_ok-words.ensures

pub returns-in_err-asked-clause-fault : goal.returns-in_err-asked-clause-fault
returns-in_err-asked-clause-fault c =
    let rows : List Row = rows_of (found_of c.args.matches.now) in
    let is : IsTrue c.stand_together.result = search rules in
    error_keeps c.from_residual-in_err-asked.result c.in_err-asked.field-0.0
    (λ stop. (words : List Text) → Commands words (codes "lemmas") rows → IsWordFault words stop)
    c.from_residual-in_err-asked.ensures.1
    (wish_refused rows _ _ _ _ c.lemmas_flags-flags.ensures
    (rw (c.is_some-has_prefix.ensures, c.is_some-has_comment.ensures)
    at c.stand_together.ensures.0 is)
    c.if-flags.false _ _
    (ap (map (λ word. word.now)) c.deref.ensures.value ∙ c.in_ok-words.ensures)
    c.in_err-asked.ensures.fault)

pub returns-clause-request : goal.returns-clause-request
returns-clause-request c =
    let is : IsTrue c.stand_together.result = search rules in
    lemma_file_asked (rows_of (found_of c.args.matches.now)) _ _ _ _ c.lemmas_flags-flags.ensures
    (rw (c.is_some-has_prefix.ensures, c.is_some-has_comment.ensures)
    at c.stand_together.ensures.0 is)
    c.if-flags.false c.in_ok-asked.asked
    (rw (c.in_ok-asked.ensures.limits.0, c.in_ok-asked.ensures.limits.1)
    (c.in_ok-most.ensures.number, c.in_ok-least.ensures.number))
    _ (ap (map (λ word. word.now)) c.deref.ensures.value ∙ c.in_ok-words.ensures)
    c.in_ok-asked.ensures.wish
