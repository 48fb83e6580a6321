use Rattle.std.proofs.Common.{refl, inl, inr}
use Rattle.mm_base.specs.declared.statement.Kind.TheVariants.{Variables}
use Rattle.mm_frame.specs.Sentence.{Declares}
use Rattle.mm_frame.specs.Active.{IsActiveSymbol}
use Rattle.mm_frame.specs.Mirror.Latest.{IsLatest}
use Rattle.mm_frame.specs.Mirror.Layout.{statements_of}
use Rattle.mm_frame.proofs.Rules.SymbolLookups.{variable_says, has_constant, active_symbol}
use Rattle.mm_frame.proofs.Rules.SymbolLookups.{of_number, no_number, number_info}
use Rattle.mm_frame.proofs.sought.is_active_number.Goals as goal
use Rattle.std.proofs.lemmas.Option.{slice_get_within}

pub returns-in-Some-variable : goal.returns-in-Some-variable
returns-in-Some-variable c =
    let st = statements_of c.args.tables.now in
    let (x, is, known) = rw c.in-Some.is at (number_info _ _ c.requires.infos c.info.ensures) in
    let other = rw c.in-Some-variable.is at (has_constant st x c.in-Some.info c.requires.sound.0 known) in
    let says = variable_says st x c.in-Some.info c.in-Some-variable.index c.is_active_now.result c.requires.sound.0 known c.in-Some-variable.is c.is_active_now.ensures in
    let either = active_symbol st x c.requires.sound.0 in
    of_number st x c.args.symbol.0 (λ y. IsActiveSymbol st y) c.is_active_now.result is (
      (λ t. either.1 (inr (says.0 t))),
      (λ a. elim (either.0 a) [ inl k ↦ absurd (other k) | inr v ↦ says.1 v ]),
    )

pub returns-in-None-variable : goal.returns-in-None-variable
returns-in-None-variable c =
    let st = statements_of c.args.tables.now in
    let (x, is, known) = rw c.in-Some.is at (number_info _ _ c.requires.infos c.info.ensures) in
    let constant = rw c.in-None-variable.is at (has_constant st x c.in-Some.info c.requires.sound.0 known) in
    of_number st x c.args.symbol.0 (λ y. IsActiveSymbol st y) _ is ((λ t. (active_symbol st x c.requires.sound.0).1 (inl constant)), (λ a. refl))

pub returns-in-None : goal.returns-in-None
returns-in-None c =
    no_number _ _ _ _ (rw c.in-None.is at (number_info _ _ c.requires.infos c.info.ensures)) refl

pub is_active_now-requires-clause-index : goal.is_active_now-requires-clause-index
is_active_now-requires-clause-index c =
    let st = statements_of c.args.tables.now in
    let (x, is, known) = rw c.in-Some.is at (number_info _ _ c.requires.infos c.info.ensures) in
    let index = c.in-Some-variable.index in
    let latest : IsLatest (Declares Variables x) st index = rw c.in-Some-variable.is at
    known.known.variable in
    slice_get_within st index latest.statement latest.there
