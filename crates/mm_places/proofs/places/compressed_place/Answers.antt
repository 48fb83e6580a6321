-- The code is sought behind the first `)`.
use Rattle.std.proofs.Common.{◌+◌, arith}
use Rattle.std.proofs.lemmas.List.{take_rest}
use Rattle.mm_step.specs.Plain.{token_texts}
use Rattle.mm_places.proofs.ProofPlaces.MovePlaces.{endless_place, none_found, some_found}
use Rattle.mm_places.proofs.ProofPlaces.MovePlaces.{only_found, few_pieces}
use Rattle.mm_places.proofs.places.compressed_place.Goals as goal

pub returns-in_err-closing-clause-found : goal.returns-in_err-closing-clause-found
returns-in_err-closing-clause-found c token byte at =
    absurd (endless_place (token_texts c.args.rest.now) c.args.number token byte c.in_err-closing.ensures
    at)

pub returns-in_err-piece-clause-found : goal.returns-in_err-piece-clause-found
returns-in_err-piece-clause-found c token byte at =
    let i = c.in_ok-closing.closing in
    absurd (none_found c.args.rest.now _ i c.args.number (take_rest c.args.rest.now (i + 1))
    c.in_ok-closing.ensures.1 c.in_ok-closing.ensures.2 c.in_err-piece.ensures token byte at)

pub overflow_add-result-2 : goal.overflow_add-result-2
overflow_add-result-2 c =
    let i = c.in_ok-closing.closing in
    omega (
      arith,
      few_pieces c.args.rest.now _ i c.args.number (take_rest c.args.rest.now (i + 1))
          c.in_ok-closing.ensures.1 c.in_ok-closing.ensures.2 c.in_ok-piece.piece c.in_ok-piece.byte
          c.in_ok-piece.ensures,
    )

pub returns-clause-place : goal.returns-clause-place
returns-clause-place c =
    let i = c.in_ok-closing.closing in
    some_found c.args.rest.now _ i c.args.number (take_rest c.args.rest.now (i + 1))
    c.in_ok-closing.ensures.1 c.in_ok-closing.ensures.2 c.in_ok-piece.piece c.in_ok-piece.byte
    c.in_ok-piece.ensures

pub returns-clause-found : goal.returns-clause-found
returns-clause-found c token byte at =
    let i = c.in_ok-closing.closing in
    only_found c.args.rest.now _ i c.args.number (take_rest c.args.rest.now (i + 1))
    c.in_ok-closing.ensures.1 c.in_ok-closing.ensures.2 c.in_ok-piece.piece c.in_ok-piece.byte
    c.in_ok-piece.ensures token byte at
