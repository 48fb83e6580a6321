-- Each number is that of a symbol.
use Rattle.std.proofs.Common.{◌<◌, ℕ, length}
use Rattle.mm_frame.specs.declared.number.Sym.{Sym}
use Rattle.mm_frame.specs.Numbers.{symbols_of}
use Rattle.mm_rules.proofs.Numbers.{all_at}
use Rattle.mm_find.proofs.Assertions.{names_next}
use Rattle.mm_find.proofs.assertion.names_at.Goals as goal

pub name-requires : goal.name-requires
name-requires c =
    all_at (λ (s : Sym). s.0) (λ (n : ℕ). n < length (symbols_of c.args.book.now.statements))
    c.args.symbols.now c.loop-symbol.symbol-index _ c.requires c.loop-symbol-test.true

pub loop-symbol-preserved : goal.loop-symbol-preserved
loop-symbol-preserved c =
    names_next (symbols_of c.args.book.now.statements) c.args.symbols.now c.loop-symbol.symbol-index
    _
    c.loop-symbol.names.items c.push.new.self.items _ c.name.ensures c.in_ok-push.ensures.items
    c.loop-symbol-test.true c.loop-symbol.invariant
