use Rattle.std.proofs.Common.{refl, sym, ◌∙◌}
use Rattle.mm_base.specs.Token.{plain_token}
use Rattle.mm_base.specs.Statement.{plain_statement}
use Rattle.mm_text.specs.Mirror.Reader.{InProof}
use Rattle.mm_text.specs.Mirror.Steps.{plain_scope}
use Rattle.mm_text.proofs.Reader.OneToken.{step_ends_proof, step_in_proof, gives_same, gives_faulty}
use Rattle.mm_text.proofs.Reader.OneToken.{gives_err, answers_refused, gives_whole}
use Rattle.mm_text.proofs.parts.proof.Goals as goal

pub returns-in_err-token : goal.returns-in_err-token
returns-in_err-token c =
    gives_err (plain_scope c.args.scope.now) _ _ _ _ _ _ c.from_residual-in_err-token.ensures.1
    (c.loop-cursor.invariant ∙ c.in_ok-words_of_proof.ensures.reads)
    (c.in_err-token.ensures (InProof (plain_statement c.words_of_proof.new.into)) refl refl)

pub returns-then-not-is_stop : goal.returns-then-not-is_stop
returns-then-not-is_stop c =
    let s = plain_statement c.words_of_proof.new.into in
    let t = plain_token c.in_ok-token.token in
    let taken = rw c.in-Some.is at c.in_ok-token.ensures in
    gives_faulty _ (InProof s) _ _ _ t _ c.words_of_proof.new.into.label _ _ _
    (c.loop-cursor.invariant ∙ c.in_ok-words_of_proof.ensures.reads) taken.first
    (step_in_proof s t c.in-Some.keyword taken.text (sym c.is_stop.ensures ∙ c.if-not-is_stop.true))
    refl c.fault.ensures

pub returns-in-Some : goal.returns-in-Some
returns-in-Some c =
    let s = plain_statement c.words_of_proof.new.into in
    let t = plain_token c.in_ok-token.token in
    let taken = rw c.in-Some.is at c.in_ok-token.ensures in
    gives_same _ _ _ _ _ _ (c.loop-cursor.invariant ∙ c.in_ok-words_of_proof.ensures.reads)
    (gives_whole (plain_scope c.args.scope.now) (InProof s) c.words_of_proof.new.cursor c.token_within.new.cursor t _ taken.first (step_ends_proof s t c.in-Some.keyword taken.text (sym c.is_stop.ensures ∙ c.if-not-is_stop.false)))

pub returns-in_err-add_to_proof-in-None : goal.returns-in_err-add_to_proof-in-None
returns-in_err-add_to_proof-in-None c =
    gives_err (plain_scope c.args.scope.now) _ _ _ _ _ _
    c.from_residual-in_err-add_to_proof-in-None.ensures.1
    (c.loop-cursor.invariant ∙ c.in_ok-words_of_proof.ensures.reads)
    (answers_refused _ (InProof (plain_statement c.words_of_proof.new.into)) _ _ _ _ _ tt
    (rw c.in-None.is at c.in_ok-token.ensures).first c.in_err-add_to_proof-in-None.ensures)
