-- What isn't alone is told.
use Rattle.std.proofs.Common.{◌++◌, Bool, List, ℕ, true, false, codes, ap, sym, ◌∙◌}
use Rattle.std.proofs.lemmas.Result.{on_ok_weaker}
use Rattle.mm_frame.specs.Numbers.{symbols_of}
use Rattle.mm_step.specs.Stores.{numbers_in}
use Rattle.mm_rules.specs.Answer.{labels_at}
use Rattle.mm_facts.specs.Explained.{is_alone, replacements_text, replacement_text}
use Rattle.mm_facts.proofs.DetailTexts.{behind_word, four_parts, alone_told}
use Rattle.mm_facts.proofs.fact_lines.push_replacements.Goals as goal

pub returns-then-is_alone : goal.returns-then-is_alone
returns-then-is_alone c =
    let e = labels_at (symbols_of c.args.book.now.statements) (numbers_in c.args.e.now) in
    let f = labels_at (symbols_of c.args.book.now.statements) (numbers_in c.args.f.now) in
    on_ok_weaker c.push_unless_alone.result
    (λ h. h ∙ ap (λ (b : Bool). c.args.out.now.items ++ replacements_text c.args.x.now c.args.y.now
    e f b (is_alone c.args.y.now f))
    (sym c.if-is_alone.true ∙ c.is_alone.ensures))
    c.push_unless_alone.ensures

pub returns-then-is_alone-2 : goal.returns-then-is_alone-2
returns-then-is_alone-2 c =
    let e = labels_at (symbols_of c.args.book.now.statements) (numbers_in c.args.e.now) in
    let f = labels_at (symbols_of c.args.book.now.statements) (numbers_in c.args.f.now) in
    behind_word c.args.out.now.items (codes ", where ") (replacement_text c.args.x.now e)
    c.extend_from_slice.new.self.items
    c.push_replaced.new.out.items c.in_ok-extend_from_slice.ensures.items
    c.in_ok-push_replaced.ensures
    ∙ ap (λ (t : List ℕ). c.args.out.now.items ++ t)
    (alone_told c.args.x.now c.args.y.now e f false true (sym c.is_alone.ensures ∙
    c.if-is_alone.false)
    (sym c.is_alone-2.ensures ∙ c.if-is_alone-2.true))

pub returns : goal.returns
returns c =
    let e = labels_at (symbols_of c.args.book.now.statements) (numbers_in c.args.e.now) in
    let f = labels_at (symbols_of c.args.book.now.statements) (numbers_in c.args.f.now) in
    on_ok_weaker c.push_replaced-2.result
    (λ h. four_parts c.args.out.now.items (codes ", where ") (replacement_text c.args.x.now e)
    (codes "  and ")
    (replacement_text c.args.y.now f) c.extend_from_slice.new.self.items
    c.push_replaced.new.out.items
    c.extend_from_slice-2.new.self.items c.push_replaced-2.new.out.items
    c.in_ok-extend_from_slice.ensures.items
    c.in_ok-push_replaced.ensures c.in_ok-extend_from_slice-2.ensures.items h
    ∙ ap (λ (t : List ℕ). c.args.out.now.items ++ t)
    (alone_told c.args.x.now c.args.y.now e f false false (sym c.is_alone.ensures ∙
    c.if-is_alone.false)
    (sym c.is_alone-2.ensures ∙ c.if-is_alone-2.false)))
    c.push_replaced-2.ensures
