-- The move stands in its token, and nothing is left at the end.
use Rattle.std.proofs.Common.{length, map, refl, subst, sym, List, ℕ}
use Rattle.mm_step.specs.Plain.{token_texts}
use Rattle.mm_base.specs.Token.{PlainToken, plain_token}
use Rattle.mm_step.specs.Moves.{Move}
use Rattle.mm_places.specs.Places.{IsMovePlace}
use Rattle.mm_facts.specs.Why.{IsStopPlace}
use Rattle.mm_facts.proofs.HaltDetails.{none_left}
use Rattle.mm_facts.proofs.FaultPlaces.{place_fits, some_said, stop_at_move, never_none}
use Rattle.mm_rules.proofs.Judgements.JudgedProofs.{texts_of}
use Rattle.mm_facts.proofs.fault_places.stop_place.Goals as goal

pub unreachable-requires : goal.unreachable-requires
unreachable-requires c =
    let (before, s, moves, said, less) =
    some_said (token_texts c.args.tokens.now) c.args.halt.now c.requires.halt c.in_default.not-End in
    never_none (token_texts c.args.tokens.now) c.args.halt.now.passed c.move_place.result c.in-None.is
    c.move_place.ensures.said c.move_place.ensures.known_said before s moves said less

pub position_of-requires : goal.position_of-requires
position_of-requires c =
    let place = c.in-Some.place in
    let fits = place_fits c.args.tokens.now c.args.halt.now.passed place.0 place.1 c.requires.room
    c.in-Some.ensures.place in
    record { token = fits.0; byte = fits.1 }

pub returns : goal.returns
returns c = λ limit st before s prefix moves h.
    stop_at_move st h.there.left c.args.halt.now.at c.in_default.not-End h.place
    (map plain_token c.args.tokens.now) c.args.end
    c.args.halt.now.passed (length h.there.earlier) c.in-Some.place.0 c.in-Some.place.1
    c.position_of.result h.count
    (subst (λ ts. IsMovePlace ts c.args.halt.now.passed c.in-Some.place.0 c.in-Some.place.1)
    (texts_of c.args.tokens.now) c.in-Some.ensures.place)
    c.position_of.ensures

pub returns-in-End : goal.returns-in-End
returns-in-End c = λ limit st before s prefix moves h.
    let placed : List PlainToken = map plain_token c.args.tokens.now in
    let none = none_left st h.there.left c.args.halt.now.at c.in-End.is h.place in
    subst (λ (left : List (Move (List ℕ))). IsStopPlace placed c.args.end
    (length h.there.earlier) left c.args.end) (sym none) refl
