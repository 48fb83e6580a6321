use Rattle.std.proofs.Common.{refl}
use Rattle.mm_frame.specs.Active.{IsTyped}
use Rattle.mm_frame.specs.Mirror.Layout.{statements_of}
use Rattle.mm_frame.proofs.Rules.SymbolLookups.{typed_says, known_latest, of_number, no_number}
use Rattle.mm_frame.proofs.Rules.SymbolLookups.{number_info}
use Rattle.mm_frame.proofs.sought.is_typed_number.Goals as goal
use Rattle.std.proofs.lemmas.Option.{slice_get_within}

pub returns-in-Some-floating : goal.returns-in-Some-floating
returns-in-Some-floating c =
    let st = statements_of c.args.tables.now in
    let (x, is, known) = rw c.in-Some.is at (number_info _ _ c.requires.infos c.info.ensures) in
    of_number st x c.args.variable.0 (λ y. IsTyped st y) c.is_active_now.result is
    (typed_says st x c.in-Some.info c.in-Some-floating.index c.is_active_now.result c.requires.sound.0 known c.in-Some-floating.is c.is_active_now.ensures)

pub returns-in-None : goal.returns-in-None
returns-in-None c =
    no_number _ _ _ _ (rw c.in-None.is at (number_info _ _ c.requires.infos c.info.ensures)) refl

pub is_active_now-requires-clause-index : goal.is_active_now-requires-clause-index
is_active_now-requires-clause-index c =
    let st = statements_of c.args.tables.now in
    let (x, is, known) = rw c.in-Some.is at (number_info _ _ c.requires.infos c.info.ensures) in
    let index = c.in-Some-floating.index in
    let latest = known_latest st x c.in-Some.info index known c.in-Some-floating.is in
    slice_get_within st index latest.statement latest.there
