-- The words are put on a line, which asks for the code.
use Rattle.std.proofs.Common.{sym, ◌∙◌, ap, ◌++◌}
use Rattle.mm_help.proofs.AskedCodes.{capitals_asked, explains, explains_none}
use Rattle.mm_help.proofs.explain.explanation.Goals as goal

pub returns-in-Some-clause-text : goal.returns-in-Some-clause-text
returns-in-Some-clause-text c =
    let are = capitals_asked c.args.asked.now c.deref.result.now c.in_ok-code.code.now
    c.deref-2.result.now (c.deref.ensures ∙ c.in_ok-line.ensures.ok) c.in_ok-code.ensures
    (c.deref-2.ensures ∙ c.in_ok-capitals.ensures.ok) in
    explains c.args.texts.now c.args.asked.now c.as_bytes.result.now c.deref-2.result.now _
    c.in-Some.rule (sym c.is_empty.ensures ∙ c.if-is_empty.false)
    (c.as_bytes.ensures.value ∙ c.in_ok-line.ensures.ok) are
    c.in-Some.ensures.found.0 c.in-Some.ensures.found.1
    (c.in_ok-text_with-in-Some.ensures
    ∙ ap (λ added. c.in-Some.rule.text.now ++ added) c.advice_on.ensures)

pub returns-clause-unknown : goal.returns-clause-unknown
returns-clause-unknown c =
    let are = capitals_asked c.args.asked.now c.deref.result.now c.in_ok-code.code.now
    c.deref-2.result.now (c.deref.ensures ∙ c.in_ok-line.ensures.ok) c.in_ok-code.ensures
    (c.deref-2.ensures ∙ c.in_ok-capitals.ensures.ok) in
    explains_none c.args.texts.now c.args.asked.now c.deref-2.result.now
    (sym c.is_empty.ensures ∙ c.if-is_empty.false) are c.in-None.ensures.unknown
