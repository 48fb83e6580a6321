use Rattle.mm_frame.specs.Mirror.Layout.{statements_of, GivesType}
use Rattle.mm_frame.proofs.Rules.SymbolLookups.{typed_says, untyped, some_of_active}
use Rattle.mm_frame.proofs.lookups.is_typed.Goals as goal

pub returns-in-Some-floating : goal.returns-in-Some-floating
returns-in-Some-floating c = typed_says _ _ c.in-Some.info _ _ c.requires.sound.0
    (rw c.in-Some.is at c.symbol_info.ensures) c.in-Some-floating.is c.is_active_now.ensures

pub returns-in-None : goal.returns-in-None
returns-in-None c =
    let st = statements_of c.args.tables.now in
    let x = c.args.variable.now in
    ((λ h. absurd (cc h)), (λ typed. absurd (untyped st x c.requires.sound.0 (rw c.in-None.is at c.symbol_info.ensures) (some_of_active st (GivesType x) typed))))
