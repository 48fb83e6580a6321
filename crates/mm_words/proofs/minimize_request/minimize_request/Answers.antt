-- The words ask for shorter proofs by the flags that are given; or these don't agree, or no file is
-- named.
use Rattle.std.proofs.Common.{IsTrue, List, ap, map, refl, rules, codes}
use Rattle.clap.specs.Words.{Row, Text, found_of, rows_of}
use Rattle.mm_base.proofs.Lists.{error_keeps}
use Rattle.mm_words.specs.Words.{Commands}
use Rattle.mm_words.specs.RefusedWords.{IsWordFault}
use Rattle.mm_words.proofs.AskedWords.{few_refused, file_asked, flags_refused, list_asked}
use Rattle.mm_words.proofs.AskedWords.{minimized_asked, name_refused}
use Rattle.mm_words.proofs.minimize_request.minimize_request.Goals as goal

pub returns-then-not-do_agree-clause-fault : goal.returns-then-not-do_agree-clause-fault
returns-then-not-do_agree-clause-fault c =
    flags_refused (rows_of (found_of c.args.matches.now)) _ _ _ _ _ c.minimize_flags-flags.ensures
    c.in_ok-words.ensures
    (λ agree. let is : IsTrue c.do_agree.result = c.do_agree.ensures.1 agree in search rules)

pub returns-then-flags-clause-request : goal.returns-then-flags-clause-request
returns-then-flags-clause-request c = λ words commands.
    let is : IsTrue c.do_agree.result = search rules in
    rw c.listed_request.ensures (
      refl,
      list_asked (rows_of (found_of c.args.matches.now)) _ _ _ _ _ c.minimize_flags-flags.ensures
          c.in_ok-words.ensures (c.do_agree.ensures.0 is) c.if-flags.true words commands,
    )

pub returns-in_err-file-clause-fault : goal.returns-in_err-file-clause-fault
returns-in_err-file-clause-fault c =
    let rows : List Row = rows_of (found_of c.args.matches.now) in
    error_keeps c.from_residual-in_err-file.result c.in_err-file.field-0.0
    (λ stop. (words : List Text) → Commands words (codes "minimize") rows → IsWordFault words stop)
    c.from_residual-in_err-file.ensures.1
    (name_refused rows _ _ _ _ _ c.minimize_flags-flags.ensures c.in_ok-words.ensures
    c.if-flags-2.true _ _ (ap (map (λ word. word.now)) c.deref.ensures.value)
    c.in_err-file.ensures.fault)

pub returns-then-flags-2-clause-request : goal.returns-then-flags-2-clause-request
returns-then-flags-2-clause-request c =
    let is : IsTrue c.do_agree.result = search rules in
    file_asked (rows_of (found_of c.args.matches.now)) _ _ _ _ _ c.minimize_flags-flags.ensures
    c.in_ok-words.ensures (c.do_agree.ensures.0 is) c.if-flags.false c.if-flags-2.true _ _ _
    (ap (map (λ word. word.now)) c.deref.ensures.value) c.in_ok-file.ensures.named

pub returns-in_err-label-clause-fault : goal.returns-in_err-label-clause-fault
returns-in_err-label-clause-fault c =
    let rows : List Row = rows_of (found_of c.args.matches.now) in
    error_keeps c.from_residual-in_err-label.result c.in_err-label.field-0.0
    (λ stop. (words : List Text) → Commands words (codes "minimize") rows → IsWordFault words stop)
    c.from_residual-in_err-label.ensures.1
    (few_refused rows _ _ _ _ _ c.minimize_flags-flags.ensures c.in_ok-words.ensures
    c.if-flags.false _ _ (ap (map (λ word. word.now)) c.deref-2.ensures.value)
    c.in_err-label.ensures.fault)

pub returns-clause-request : goal.returns-clause-request
returns-clause-request c = λ words commands.
    let is : IsTrue c.do_agree.result = search rules in
    let parts = c.in_ok-label.ensures.parts in
    rw c.as_bytes.ensures.value (minimized_asked (rows_of (found_of c.args.matches.now)) _ _ _ _ _
    c.minimize_flags-flags.ensures c.in_ok-words.ensures (c.do_agree.ensures.0 is)
    c.if-flags.false c.if-flags-2.false _ _ _
    (ap (map (λ word. word.now)) c.deref-2.ensures.value) parts.0 parts.1 words commands)
