-- The words ask on which axioms each theorem rests, or one, by the flags that are given; or these
-- exclude each other, or no file follows the label.
use Rattle.std.proofs.Common.{IsTrue, List, ap, map, refl, rules, codes}
use Rattle.clap.specs.Words.{Row, Text, found_of, rows_of}
use Rattle.mm_base.proofs.Lists.{error_keeps}
use Rattle.mm_words.specs.Words.{Commands}
use Rattle.mm_words.specs.RefusedWords.{IsWordFault}
use Rattle.mm_words.proofs.AskedWords.{all_axioms_asked, axioms_refused, label_asked}
use Rattle.mm_words.proofs.AskedWords.{label_refused}
use Rattle.mm_words.proofs.axioms_request.axioms_request.Goals as goal

pub returns-then-not-to_stands_alone-clause-fault : goal.returns-then-not-to_stands_alone-clause-fault
returns-then-not-to_stands_alone-clause-fault c =
    axioms_refused (rows_of (found_of c.args.matches.now)) _ _ _ _ c.axioms_flags-flags.ensures
    c.in_ok-words.ensures _ c.is_some.ensures
    (λ alone. let is : IsTrue c.to_stands_alone.result = c.to_stands_alone.ensures.1 alone in search rules)

pub returns-then-flags-clause-request : goal.returns-then-flags-clause-request
returns-then-flags-clause-request c = λ words commands.
    let is : IsTrue c.to_stands_alone.result = search rules in (
      refl,
      all_axioms_asked (rows_of (found_of c.args.matches.now)) _ _ _ _ c.axioms_flags-flags.ensures
          c.in_ok-words.ensures _ c.is_some.ensures (c.to_stands_alone.ensures.0 is) c.if-flags.true
          words commands,
    )

pub returns-in_err-label-clause-fault : goal.returns-in_err-label-clause-fault
returns-in_err-label-clause-fault c =
    let rows : List Row = rows_of (found_of c.args.matches.now) in
    error_keeps c.from_residual-in_err-label.result c.in_err-label.field-0.0
    (λ stop. (words : List Text) → Commands words (codes "axioms") rows → IsWordFault words stop)
    c.from_residual-in_err-label.ensures.1
    (label_refused rows _ _ _ _ c.axioms_flags-flags.ensures c.in_ok-words.ensures
    c.if-flags.false _ _ (ap (map (λ word. word.now)) c.deref.ensures.value)
    c.in_err-label.ensures.fault)

pub returns-clause-request : goal.returns-clause-request
returns-clause-request c = λ words commands.
    let rows : List Row = rows_of (found_of c.args.matches.now) in
    let is : IsTrue c.to_stands_alone.result = search rules in
    let parts = c.in_ok-label.ensures.parts in
    c.axioms_question.ensures words _ _
    (rw (c.if-flags.false, c.is_some.ensures) at c.to_stands_alone.ensures.0 is)
    (rw c.as_bytes.ensures.value (label_asked rows _ _ _ _ c.axioms_flags-flags.ensures
    c.in_ok-words.ensures c.if-flags.false _ _ _
    (ap (map (λ word. word.now)) c.deref.ensures.value) parts.0 words commands))
    parts.1
