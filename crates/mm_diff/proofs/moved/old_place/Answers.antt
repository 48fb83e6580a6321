-- Both databases have the label, and its number in the old one is among these.
use Rattle.std.proofs.Common.{refl}
use Rattle.mm_alike.proofs.DifferingNumbers.{named_by}
use Rattle.mm_diff.proofs.MovedPlaces.{shared_asserts, shared_named}
use Rattle.mm_diff.proofs.moved.old_place.Goals as goal

pub unreachable-requires : goal.unreachable-requires
unreachable-requires c =
    let old = c.args.old.now.statements in
    let new = c.args.new.now.statements in
    let named = named_by new c.label.result.now c.args.id.0
    (shared_asserts new old c.args.id.0 c.requires.id) (λ s at. c.label.ensures s at) in
    c.in-None-index_of.ensures.none refl
    ((c.requires.before.each c.in-Some.former.0).1
    (c.label.result.now, c.in-Some.ensures.some, c.args.id.0, named))

pub unreachable-requires-in-None : goal.unreachable-requires-in-None
unreachable-requires-in-None c =
    let old = c.args.old.now.statements in
    let new = c.args.new.now.statements in
    let named = named_by new c.label.result.now c.args.id.0
    (shared_asserts new old c.args.id.0 c.requires.id) (λ s at. c.label.ensures s at) in
    let (n, there) = shared_named new old c.args.id.0 c.label.result.now c.requires.id named in
    c.in-None.ensures.none refl n there

pub returns : goal.returns
returns c =
    let old = c.args.old.now.statements in
    let new = c.args.new.now.statements in
    let named = named_by new c.label.result.now c.args.id.0
    (shared_asserts new old c.args.id.0 c.requires.id) (λ s at. c.label.ensures s at) in
    (c.label.result.now, named, c.in-Some.former.0, c.in-Some.ensures.some, c.in-Some-index_of.ensures.found)
