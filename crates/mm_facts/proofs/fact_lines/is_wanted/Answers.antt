-- What differs by number differs by name.
use Rattle.std.proofs.Common.{◌≡◌, List, ℕ, Bool, ap, sym, ◌∙◌, is_some}
use Rattle.std.specs.Prelude.{not}
use Rattle.mm_frame.specs.Numbers.{symbols_of}
use Rattle.mm_frame.specs.declared.number.Sym.{Sym}
use Rattle.mm_step.specs.Stores.{numbers_in}
use Rattle.mm_rules.specs.Answer.{labels_at}
use Rattle.mm_facts.specs.Explained.{difference, hypothesis_asks}
use Rattle.mm_facts.specs.Mirror.Explaining.{is_told}
use Rattle.mm_facts.proofs.DetailTexts.{difference_told}
use Rattle.mm_facts.proofs.fact_lines.is_wanted.Goals as goal

pub returns-then-unmet : goal.returns-then-unmet
returns-then-unmet c = λ label number.
    let named : List Sym → List (List ℕ) = λ symbols. labels_at (symbols_of
    c.args.book.now.statements) (numbers_in symbols) in
    let told : difference (named c.args.asked.now) (named c.args.given.now) ≡ c.difference.result =
    difference_told c.args.book.now.statements c.args.asked.now c.args.given.now c.difference.result
    c.requires.asked c.requires.given c.difference.ensures.same c.difference.ensures.differ
    c.difference.ensures.first in
    c.is_some-differ.ensures ∙ ap is_some (sym told)
    ∙ ap (λ (b : Bool). is_told b (hypothesis_asks label (named c.args.asked.now) number (named
    c.args.given.now))) (sym c.if-unmet.true)

pub returns-else-unmet : goal.returns-else-unmet
returns-else-unmet c = λ label number.
    let named : List Sym → List (List ℕ) = λ symbols. labels_at (symbols_of
    c.args.book.now.statements) (numbers_in symbols) in
    let told : difference (named c.args.asked.now) (named c.args.given.now) ≡ c.difference.result =
    difference_told c.args.book.now.statements c.args.asked.now c.args.given.now c.difference.result
    c.requires.asked c.requires.given c.difference.ensures.same c.difference.ensures.differ
    c.difference.ensures.first in
    ap not (c.is_some-differ.ensures ∙ ap is_some (sym told))
    ∙ ap (λ (b : Bool). is_told b (hypothesis_asks label (named c.args.asked.now) number (named
    c.args.given.now))) (sym c.if-unmet.false)
