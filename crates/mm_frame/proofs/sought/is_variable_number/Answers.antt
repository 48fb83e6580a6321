use Rattle.std.proofs.Common.{refl}
use Rattle.mm_frame.specs.Active.{IsVariable}
use Rattle.mm_frame.specs.Mirror.Layout.{statements_of}
use Rattle.mm_frame.proofs.Rules.SymbolLookups.{has_variable, of_number, no_number, number_info}
use Rattle.mm_frame.proofs.sought.is_variable_number.Goals as goal

pub returns-in-Some : goal.returns-in-Some
returns-in-Some c =
    let st = statements_of c.args.tables.now in
    let (x, is, known) = rw c.in-Some.is at (number_info _ _ c.requires.infos c.info.ensures) in
    of_number st x c.args.symbol.0 (λ y. IsVariable st y) c.is_some.result is (rw c.is_some.ensures (has_variable st x c.in-Some.info.variable known.known.variable))

pub returns-in-None : goal.returns-in-None
returns-in-None c =
    no_number _ _ _ _ (rw c.in-None.is at (number_info _ _ c.requires.infos c.info.ensures)) refl
