-- The text is that of the proof, and what is found is told.
use Rattle.std.proofs.Common.{◌≡◌, ◌∙◌, ℕ, List, length, map, ap, sym, rules, vec_len}
use Rattle.std.proofs.lemmas.List.{length-map}
use Rattle.mm_base.specs.Statement.{plain_statement, PlainStatement}
use Rattle.mm_base.specs.Token.{plain_token}
use Rattle.mm_text.specs.Files.{PlainFile, plain_file}
use Rattle.mm_rules.specs.Verdict.{proof_of}
use Rattle.mm_explain.proofs.LoneProofs.LoneTheorems.{of_reached}
use Rattle.mm_mend.specs.Mend.{AreFirst, IsMend, changes_for, most_told, proof_text, reach_of}
use Rattle.mm_mend.specs.Reply.{mend_status}
use Rattle.mm_mend.specs.declared.change.Change.{Change}
use Rattle.mm_mend.proofs.MendedTheorems.{all_meant, own_room, own_texts, proof_number}
use Rattle.mm_mend.proofs.mend.mends_reply.Goals as goal

pub first_mends-requires-clause-proof : goal.first_mends-requires-clause-proof
first_mends-requires-clause-proof c =
    proof_number (map plain_file c.args.files.now) c.args.reached.now c.requires

pub first_mends-requires-clause-meant : goal.first_mends-requires-clause-meant
first_mends-requires-clause-meant c =
    all_meant (map plain_file c.args.files.now) c.args.reached.now c.requires

pub first_mends-requires-clause-room : goal.first_mends-requires-clause-room
first_mends-requires-clause-room c =
    own_room (map plain_file c.args.files.now) c.args.reached.now c.requires c.deref.result.now
    c.deref.ensures.value

pub returns : goal.returns
returns c = λ label r.
    let files : List PlainFile = map plain_file c.args.files.now in
    let s : PlainStatement = plain_statement c.args.reached.now.statement in
    let proof : List ℕ = proof_text files s in
    let reach : ℕ = reach_of proof s.span.0 c.args.place in
    let found : List Change = c.in_ok-found.found.items in
    let is_proof = c.proof_text-proof.ensures.text in
    let texts = own_texts c.args.reached.now c.deref.result.now c.deref.ensures.value in
    let is_reach : c.reach_of-reach.result ≡ reach =
    rw is_proof at c.reach_of-reach.ensures.reach in
    let long : vec_len c.args.reached.now.statement.proof
    ≡ length c.args.reached.now.statement.proof.items = search rules in
    let words : c.len.result ≡ length s.proof =
    c.len.ensures ∙ long ∙ sym (length-map c.args.reached.now.statement.proof.items plain_token) in
    let tried : c.deref-2.result.now ≡ changes_for (length s.proof) reach proof =
    c.deref-2.ensures.value ∙ (rw (words, is_reach, is_proof) at c.in_ok-changes.ensures) in
    record {
      found = found;
      first = of_reached files label c.args.reached.now r
          (λ before t. AreFirst (IsMend before t (proof_of s) proof) most_told
          (changes_for (length s.proof) reach proof) found)
          (λ index t number. rw (texts, is_proof, tried) at (c.in_ok-found.ensures index t number));
      said = rw (c.new-text.ensures.items, is_proof, c.deref-3.ensures.value) at
          c.in_ok-push_lines.ensures;
      ends = c.status_of-status.ensures ∙ ap mend_status c.deref-5.ensures.value;
      noted = rw (c.deref-4.ensures.value, c.leaves_places.ensures, is_reach, is_proof) at
          c.in_ok-note.ensures;
    }
