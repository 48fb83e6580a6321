-- The number is that of a symbol.
use Rattle.std.proofs.Common.{◌<◌, ℕ, length}
use Rattle.mm_frame.specs.declared.number.Sym.{Sym}
use Rattle.mm_frame.specs.Numbers.{symbols_of}
use Rattle.mm_rules.proofs.Numbers.{all_at}
use Rattle.mm_facts.proofs.fact_lines.symbol_at.Goals as goal

pub name-requires : goal.name-requires
name-requires c =
    all_at (λ (s : Sym). s.0) (λ (n : ℕ). n < length (symbols_of c.args.book.now.statements)) c.args.symbols.now c.args.index _ c.requires c.if-index-symbols.true
