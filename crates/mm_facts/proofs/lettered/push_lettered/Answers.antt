-- The parts of the line are those of the step that it tells.
use Rattle.std.proofs.Common.{◌<◌, ◌++◌, ◌∙◌, List, length, sym, ap, subst}
use Rattle.std.specs.List.{AllByRecursion}
use Rattle.mm_frame.specs.declared.number.Sym.{Sym}
use Rattle.mm_frame.specs.Sentence.{Sentence}
use Rattle.mm_frame.specs.Numbers.{symbols_of}
use Rattle.mm_step.specs.Stores.{numbers_in}
use Rattle.mm_rules.specs.Answer.{labels_at}
use Rattle.mm_rules.specs.Shown.{symbols_text}
use Rattle.mm_facts.proofs.LetteredLines.{symbols_within, line_told}
use Rattle.mm_facts.proofs.lettered.push_lettered.Goals as goal

pub push_symbols-requires : goal.push_symbols-requires
push_symbols-requires c =
    subst (λ (symbols : List Sym).
    AllByRecursion (λ n. n < length (symbols_of c.args.book.now.statements)) (numbers_in symbols))
    (sym c.deref.ensures.value)
    (symbols_within c.args.book.now.statements c.args.line.now c.requires.0 c.requires.1)

pub returns-clause-text : goal.returns-clause-text
returns-clause-text c = λ step tells.
    let statements : List Sentence = c.args.book.now.statements in
    line_told statements c.args.line.now step c.args.counted.now c.args.number c.args.position
    c.args.letters.now c.args.out.now.items c.push_decimal.new.out.items c.push.new.self.items
    c.push_position.new.out.items c.push-2.new.self.items c.push_letters.new.out.items
    c.push-3.new.self.items c.push_called.new.out.items c.push_symbols.new.out.items
    c.push-4.new.self.items tells c.in_ok-push_decimal.ensures c.in_ok-push.ensures.items
    c.in_ok-push_position.ensures.position c.in_ok-push-2.ensures.items c.in_ok-push_letters.ensures
    c.in_ok-push-3.ensures.items (c.in_ok-push_called.ensures step.called tells.called)
    (c.in_ok-push_symbols.ensures
    ∙ ap (λ (symbols : List Sym). c.push_called.new.out.items
    ++ symbols_text (labels_at (symbols_of statements) (numbers_in symbols)))
    c.deref.ensures.value)
    c.in_ok-push-4.ensures.items
