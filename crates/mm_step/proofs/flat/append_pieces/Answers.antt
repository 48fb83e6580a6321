use Rattle.std.proofs.Common.{◌≡◌, ◌+◌, ◌++◌, drop, length, ap, ◌∙◌, subst, arith}
use Rattle.std.proofs.lemmas.List.{length-map, length-append, get_or_default}
use Rattle.mm_frame.specs.declared.piece.Piece.{Piece}
use Rattle.mm_step.specs.Mirror.Buffer.{parts_of}
use Rattle.mm_step.specs.Stores.{numbers_in, said_by}
use Rattle.mm_step.proofs.ByNumbers.NumberedSymbols.{said_over, no_piece}
use Rattle.mm_step.proofs.StoreRanges.{pieces-step}
use Rattle.mm_step.proofs.flat.append_pieces.Goals as goal

pub returns-then-not-branch-clause-said : goal.returns-then-not-branch-clause-said
returns-then-not-branch-clause-said c =
    let said = c.in_ok-append_piece.ensures.said in
    let says = subst (λ (p : Piece). numbers_in said.0 ≡ said_by (drop c.args.base (parts_of c.loop-piece.symbols c.args.stack.now)) p) (c.piece.ensures ∙ c.piece-item.is ∙ get_or_default c.args.pieces.now c.loop-piece.piece-index c.piece-item.result no_piece c.loop-piece-test.true) said.2 in
    let more = c.loop-piece.invariant.0 in
    let step = pieces-step c.args.symbols.now c.loop-piece.symbols c.append_piece.new.symbols more said.0 c.args.stack.now c.args.base c.loop-piece.piece-index c.args.pieces.now
    c.requires.parts c.loop-piece-test.true c.loop-piece.invariant.1 c.loop-piece.invariant.2 said.1 says in
    said_over (said_by (drop c.args.base (parts_of c.args.symbols.now c.args.stack.now))) c.args.pieces.now (c.loop-piece.piece-index + 1) c.args.limit
    (omega (
      arith,
      c.in_ok-append_piece.ensures.over c.if-not-branch.true,
      c.len-start.ensures,
      ap length step.0,
      ap length step.1,
      length-append c.args.symbols.now (more ++ said.0),
      length-map (more ++ said.0) (λ s. s.0),
    ))

pub loop-piece-preserved : goal.loop-piece-preserved
loop-piece-preserved c =
    let said = c.in_ok-append_piece.ensures.said in
    let says = subst (λ (p : Piece). numbers_in said.0 ≡ said_by (drop c.args.base (parts_of c.loop-piece.symbols c.args.stack.now)) p) (c.piece.ensures ∙ c.piece-item.is ∙ get_or_default c.args.pieces.now c.loop-piece.piece-index c.piece-item.result no_piece c.loop-piece-test.true) said.2 in
    let more = c.loop-piece.invariant.0 in
    let step = pieces-step c.args.symbols.now c.loop-piece.symbols c.append_piece.new.symbols more said.0 c.args.stack.now c.args.base c.loop-piece.piece-index c.args.pieces.now
    c.requires.parts c.loop-piece-test.true c.loop-piece.invariant.1 c.loop-piece.invariant.2 said.1 says in
    (more ++ said.0, step.0, step.1)
