-- The first of the statement's symbols.
use Rattle.std.proofs.Common.{Option, sym, subst, ◌∙◌}
use Rattle.mm_frame.specs.declared.number.Sym.{Sym}
use Rattle.mm_axioms.specs.Mirror.Codes.{IsCodeOf}
use Rattle.mm_axioms.proofs.TypeCodes.{code_at}
use Rattle.mm_axioms.proofs.essential.type_code.Goals as goal

pub returns : goal.returns
returns c = λ s at.
    subst (λ (o : Option Sym). IsCodeOf c.args.book.now.statements s.symbols o)
    (sym (c.copied.ensures ∙ c.first.ensures.value))
    (code_at c.args.book.now.statements c.expression.result.now s.symbols
    (c.expression.ensures s at))
