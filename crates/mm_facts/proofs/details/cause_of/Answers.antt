-- The tokens are at fault, or the moves that the judged ones say stop.
use Rattle.std.proofs.Common.{ℕ, List, ◌<◌, take, length, sym, ap, ◌∙◌, arith}
use Rattle.std.proofs.lemmas.List.{length-map}
use Rattle.std.proofs.lemmas.Option.{slice_get_within, same_Some}
use Rattle.mm_places.specs.WholePlaces.{IsWholePlace}
use Rattle.mm_proof.proofs.ProofTokens.ProofLabels.{text_at}
use Rattle.mm_step.specs.Plain.{token_texts}
use Rattle.mm_facts.proofs.TokenHalts.{whole_before, text_fault, known_text_fault, of_judged}
use Rattle.mm_facts.proofs.details.cause_of.Goals as goal

pub steps_of-requires-clause-whole : goal.steps_of-requires-clause-whole
steps_of-requires-clause-whole c = λ index s proof.
    whole_before c.args.profile (take index c.args.book.now.statements) s
    (token_texts c.args.tokens.now) c.args.fault.0 c.args.fault.1 (c.requires.fault index s proof)
    c.if-fault-eq0.false

pub whole_place-requires-clause-fault : goal.whole_place-requires-clause-fault
whole_place-requires-clause-fault c = λ whole index s proof. (
  c.args.profile,
  text_fault c.args.profile (take index c.args.book.now.statements) s (token_texts c.args.tokens.now)
      c.args.fault.0 c.args.fault.1 (c.requires.fault index s proof) c.if-fault-eq0.true whole,
)

pub whole_place-requires-clause-known_fault : goal.whole_place-requires-clause-known_fault
whole_place-requires-clause-known_fault c = λ known index s proof. (
  c.args.profile,
  known_text_fault c.args.profile (take index c.args.book.now.statements) s
      (token_texts c.args.tokens.now) c.args.fault.0 c.args.fault.1 (c.requires.fault index s proof)
      c.if-fault-eq0.true known,
)

pub returns-then-fault-eq0-clause-cause : goal.returns-then-fault-eq0-clause-cause
returns-then-fault-eq0-clause-cause c =
    let st = c.args.book.now.statements in
    let tokens = c.args.tokens.now in
    let index = c.in_ok-index.index in
    let byte = c.in_ok-index.byte in
    let (text, there, short) = c.in_ok-index.ensures.within in
    let less : index < length tokens =
    omega (arith, slice_get_within (token_texts tokens) index text there, length-map tokens (λ t. t.text.now))
    in
    let at = text_at (λ t. t.text.now) tokens index _ less in
    record {
      sound = c.frame-own.ensures.sound;
      fault = c.requires.fault;
      causes = (
        c.if-fault-eq0.true,
        (λ position s number.
            of_judged (token_texts tokens)
            (λ (ts : List (List ℕ)). IsWholePlace (take position st) s ts c.args.fault.0 index
            byte)
            (λ whole. c.in_ok-index.ensures.place whole position s number)
            (λ known. c.in_ok-index.ensures.known_place known position s number)),
        at,
        omega (arith, short, ap length (same_Some text _ (sym there ∙ at))),
        c.in_ok-listed.ensures,
      );
    }

pub returns-clause-cause : goal.returns-clause-cause
returns-clause-cause c = record {
  sound = c.frame-own.ensures.sound;
  fault = c.requires.fault;
  causes = (c.if-fault-eq0.false, c.in_ok-steps.ensures, c.in_ok-stop.ensures.halted);
}
