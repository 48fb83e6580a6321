-- The line's end, or the lines.
use Rattle.std.proofs.Common.{◌++◌, Bool, codes, ap, sym, ◌∙◌}
use Rattle.std.proofs.lemmas.Result.{on_ok_weaker}
use Rattle.mm_frame.specs.Numbers.{symbols_of}
use Rattle.mm_step.specs.Stores.{numbers_in}
use Rattle.mm_rules.specs.Answer.{labels_at}
use Rattle.mm_facts.specs.Explained.{unless_alone}
use Rattle.mm_facts.proofs.DetailTexts.{behind_word}
use Rattle.mm_facts.proofs.fact_lines.push_unless_alone.Goals as goal

pub returns-then-is_alone : goal.returns-then-is_alone
returns-then-is_alone c =
    let e = labels_at (symbols_of c.args.book.now.statements) (numbers_in c.args.e.now) in
    on_ok_weaker c.push_between.result
    (λ h. h ∙ ap (λ (b : Bool). c.args.out.now.items ++ unless_alone c.args.x.now e b) (sym
    c.if-is_alone.true ∙ c.is_alone.ensures))
    c.push_between.ensures

pub returns : goal.returns
returns c =
    let e = labels_at (symbols_of c.args.book.now.statements) (numbers_in c.args.e.now) in
    on_ok_weaker c.push_replaced.result
    (λ h. behind_word c.args.out.now.items (codes ", where ") _ c.extend_from_slice.new.self.items
    c.push_replaced.new.out.items
    c.in_ok-extend_from_slice.ensures.items h
    ∙ ap (λ (b : Bool). c.args.out.now.items ++ unless_alone c.args.x.now e b) (sym
    c.if-is_alone.false ∙ c.is_alone.ensures))
    c.push_replaced.ensures
