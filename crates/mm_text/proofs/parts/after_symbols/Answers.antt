use Rattle.std.proofs.Common.{◌≡◌, length, refl, sym, ap, ◌∙◌, arith}
use Rattle.std.proofs.lemmas.List.{length-map}
use Rattle.mm_base.specs.Statement.{plain_statement}
use Rattle.mm_text.specs.Mirror.Reader.{InBody, has_count}
use Rattle.mm_text.proofs.Reader.OneToken.{step_not_ended, step_too_few, step_whole, step_to_proof}
use Rattle.mm_text.proofs.Reader.OneToken.{gives_faulty, gives_same, same_more, gives_whole}
use Rattle.mm_text.proofs.parts.after_symbols.Goals as goal

pub returns-then-not-ends_symbols : goal.returns-then-not-ends_symbols
returns-then-not-ends_symbols c =
    let s = plain_statement c.args.into.now in
    gives_faulty _ (InBody s) _ _ _ _ _ c.args.into.now.label _ _ _ refl refl
    (step_not_ended s _ c.args.keyword c.requires.sign
    (sym c.ends_symbols.ensures ∙ c.if-not-ends_symbols.true)) refl c.fault.ensures

pub returns-then-not-has_count : goal.returns-then-not-has_count
returns-then-not-has_count c =
    let s = plain_statement c.args.into.now in
    let count : length s.symbols ≡ c.len.result = length-map _ _ ∙ omega arith in
    gives_faulty _ (InBody s) _ _ _ _ _ c.args.into.now.label _ _ _ refl refl
    (step_too_few s _ c.args.keyword c.requires.sign
    (sym c.ends_symbols.ensures ∙ c.if-not-ends_symbols.false)
    (ap (has_count s.kind) count ∙ sym c.has_count.ensures ∙ c.if-not-has_count.true)) refl
    c.fault-then-not-has_count.ensures

pub returns-then-is_provable : goal.returns-then-is_provable
returns-then-is_provable c =
    let s = plain_statement c.args.into.now in
    let count : length s.symbols ≡ c.len.result = length-map _ _ ∙ omega arith in
    gives_same _ _ _ _ _ _ (same_more _ (InBody s) _ _ _ _ refl (step_to_proof s _ c.args.keyword
    c.requires.sign (sym c.ends_symbols.ensures ∙ c.if-not-ends_symbols.false)
    (ap (has_count s.kind) count ∙ sym c.has_count.ensures ∙ c.if-not-has_count.false)
    (sym c.is_provable.ensures ∙ c.if-is_provable.true))) c.proof.ensures

pub returns : goal.returns
returns c =
    let s = plain_statement c.args.into.now in
    let count : length s.symbols ≡ c.len.result = length-map _ _ ∙ omega arith in
    gives_whole _ (InBody s) _ _ _ s refl (step_whole s _ c.args.keyword c.requires.sign
    (sym c.ends_symbols.ensures ∙ c.if-not-ends_symbols.false)
    (ap (has_count s.kind) count ∙ sym c.has_count.ensures ∙ c.if-not-has_count.false)
    (sym c.is_provable.ensures ∙ c.if-is_provable.false))
