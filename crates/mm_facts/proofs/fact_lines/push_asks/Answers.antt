-- What differs by number differs by name.
use Rattle.std.proofs.Common.{List, ℕ}
use Rattle.std.proofs.lemmas.Result.{on_ok_weaker}
use Rattle.mm_frame.specs.Numbers.{symbols_of}
use Rattle.mm_frame.specs.declared.number.Sym.{Sym}
use Rattle.mm_step.specs.Stores.{numbers_in}
use Rattle.mm_rules.specs.Answer.{labels_at}
use Rattle.std.proofs.Common.{◌≡◌, ◌∙◌}
use Rattle.mm_facts.specs.Explained.{difference}
use Rattle.mm_facts.proofs.DetailTexts.{asks_same, asks_other, difference_told}
use Rattle.mm_facts.proofs.fact_lines.push_asks.Goals as goal

pub returns-in_ok-push_between-in-Some : goal.returns-in_ok-push_between-in-Some
returns-in_ok-push_between-in-Some c =
    let name : List Sym → List (List ℕ) = λ symbols. labels_at (symbols_of c.args.book.now.statements) (numbers_in symbols) in
    let told : difference (name c.args.asked.now) (name c.args.given.now) ≡ c.difference.result =
    difference_told c.args.book.now.statements c.args.asked.now c.args.given.now c.difference.result
    c.requires.asked c.requires.given c.difference.ensures.same c.difference.ensures.differ c.difference.ensures.first in
    on_ok_weaker c.push_but_given.result
    (λ h. asks_other c.args.out.now.items c.push_between.new.out.items c.push_but_given.new.out.items c.args.label.now
    (name c.args.asked.now) (name c.args.given.now) c.args.step.now c.in-Some.field-0 (told ∙ c.in-Some.is)
    c.in_ok-push_between-in-Some.ensures h)
    c.push_but_given.ensures

pub returns-in_ok-push_between-in-None-2 : goal.returns-in_ok-push_between-in-None-2
returns-in_ok-push_between-in-None-2 c =
    let name : List Sym → List (List ℕ) = λ symbols. labels_at (symbols_of c.args.book.now.statements) (numbers_in symbols) in
    let told : difference (name c.args.asked.now) (name c.args.given.now) ≡ c.difference.result =
    difference_told c.args.book.now.statements c.args.asked.now c.args.given.now c.difference.result
    c.requires.asked c.requires.given c.difference.ensures.same c.difference.ensures.differ c.difference.ensures.first in
    on_ok_weaker c.push_expression.result
    (λ h. asks_same c.args.out.now.items c.push_between-in-None.new.out.items c.push_between-in-None-2.new.out.items
    c.push_expression.new.out.items c.args.label.now (name c.args.asked.now) (name c.args.given.now) c.args.step.now
    (told ∙ c.in-None.is) c.in_ok-push_between-in-None.ensures c.in_ok-push_between-in-None-2.ensures h)
    c.push_expression.ensures
