-- What the label stands for tells whether it is to blame.
use Rattle.std.proofs.Common.{◌↔◌, IsTrue, subst, sym}
use Rattle.mm_places.specs.declared.whole_places.Blame.{Blame}
use Rattle.mm_places.specs.Mirror.CodeWhole.{IsBlamed}
use Rattle.mm_places.proofs.ProofPlaces.WholePlaces.{unknown_blamed, idle_blamed}
use Rattle.mm_places.proofs.whole_places.is_blamed.Goals as goal

pub returns-in-Unknown : goal.returns-in-Unknown
returns-in-Unknown c =
    let st = c.args.book.now.statements in
    let at = c.args.own.now.index in
    subst (λ (why : Blame). IsTrue c.is_unknown.result ↔ IsBlamed why st at c.args.label.now)
    (sym c.in-Unknown.is)
    (unknown_blamed st at c.args.label.now c.use_of-found.result c.use_of-found.ensures
    c.is_unknown.result c.is_unknown.ensures)

pub returns-in-Idle : goal.returns-in-Idle
returns-in-Idle c =
    let st = c.args.book.now.statements in
    let at = c.args.own.now.index in
    subst (λ (why : Blame). IsTrue c.is_idle.result ↔ IsBlamed why st at c.args.label.now)
    (sym c.in-Idle.is)
    (idle_blamed st at c.args.label.now c.use_of-found.result c.requires.sound.0
    c.use_of-found.ensures c.is_idle.result c.is_idle.ensures)
