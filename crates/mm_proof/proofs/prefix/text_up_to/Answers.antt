use Rattle.std.proofs.Common.{refl}
use Rattle.mm_proof.proofs.ProofTokens.QuestionMarks.{piece_past, piece_none, piece_some}
use Rattle.mm_proof.proofs.prefix.text_up_to.Goals as goal
use Rattle.mm_proof.proofs.prefix.text_up_to.Goals.{in-Some+then-not-is_empty+in_ok-push}
use Rattle.mm_proof.proofs.prefix.text_up_to.Goals.{in-Some+else-not-is_empty, in_default}

pub returns : goal.returns
returns c = elim c.match-get.branch [
  | in-Some+then-not-is_empty+in_ok-push w ↦ let there = w.in-Some.ensures.lookup in
      rw w.text-is (piece_some c.args.tokens.now c.in_ok-text.text.items _ c.args.index w.question_index.result w.in-Some.token.now _ w.in_ok-push.ensures.items c.in_ok-text.ensures.items
      there.3.0 there.1 w.question_index.ensures w.if-not-is_empty.ensures refl)
  | in-Some+else-not-is_empty w ↦ let there = w.in-Some.ensures.lookup in
      rw w.text-is (piece_none c.args.tokens.now c.in_ok-text.text.items c.args.index w.question_index.result w.in-Some.token.now there.3.0 there.1 w.question_index.ensures w.if-not-is_empty.ensures
      c.in_ok-text.ensures.items)
  | in_default w ↦ rw w.text-is (piece_past c.args.tokens.now c.in_ok-text.text.items c.args.index w.in_default.ensures.lookup.3 c.in_ok-text.ensures.items)
]
