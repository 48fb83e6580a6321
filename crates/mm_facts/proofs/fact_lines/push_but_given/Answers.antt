-- What differs by number differs by name.
use Rattle.std.proofs.Common.{List, ℕ, Some, None, sym, append-nil}
use Rattle.std.proofs.lemmas.Result.{on_ok_weaker}
use Rattle.mm_frame.specs.Numbers.{symbols_of}
use Rattle.mm_frame.specs.declared.number.Sym.{Sym}
use Rattle.mm_step.specs.Stores.{numbers_in}
use Rattle.mm_rules.specs.Answer.{labels_at}
use Rattle.std.proofs.Common.{◌≡◌, ◌∙◌}
use Rattle.mm_facts.specs.Explained.{difference}
use Rattle.mm_facts.proofs.DetailTexts.{but_given, difference_told}
use Rattle.mm_facts.proofs.fact_lines.push_but_given.Goals as goal

pub returns-in-Some : goal.returns-in-Some
returns-in-Some c =
    let name : List Sym → List (List ℕ) = λ symbols. labels_at (symbols_of c.args.book.now.statements) (numbers_in symbols) in
    let told : difference (name c.args.asked.now) (name c.args.given.now) ≡ c.difference.result =
    difference_told c.args.book.now.statements c.args.asked.now c.args.given.now c.difference.result
    c.requires.asked c.requires.given c.difference.ensures.same c.difference.ensures.differ c.difference.ensures.first in
    on_ok_weaker c.push_difference.result
    (λ h. but_given c.args.out.now.items c.push_expression.new.out.items c.push_between.new.out.items
    c.push_expression-2.new.out.items c.push_difference.new.out.items (name c.args.asked.now) (name c.args.given.now)
    c.args.step.now (Some c.in-Some.index) (told ∙ c.in-Some.is)
    c.in_ok-push_expression.ensures c.in_ok-push_between.ensures c.in_ok-push_expression-2.ensures h)
    c.push_difference.ensures

pub returns-in-None : goal.returns-in-None
returns-in-None c =
    let name : List Sym → List (List ℕ) = λ symbols. labels_at (symbols_of c.args.book.now.statements) (numbers_in symbols) in
    let told : difference (name c.args.asked.now) (name c.args.given.now) ≡ c.difference.result =
    difference_told c.args.book.now.statements c.args.asked.now c.args.given.now c.difference.result
    c.requires.asked c.requires.given c.difference.ensures.same c.difference.ensures.differ c.difference.ensures.first in
    but_given c.args.out.now.items c.push_expression.new.out.items c.push_between.new.out.items
    c.push_expression-2.new.out.items c.push_expression-2.new.out.items (name c.args.asked.now) (name c.args.given.now)
    c.args.step.now None (told ∙ c.in-None.is)
    c.in_ok-push_expression.ensures c.in_ok-push_between.ensures c.in_ok-push_expression-2.ensures
    (sym (append-nil c.push_expression-2.new.out.items))
