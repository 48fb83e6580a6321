-- The proof at fault is that of the statement, and the text its head and the facts.
use Rattle.std.proofs.Common.{◌≡◌, ◌+◌, ◌∷◌, ℕ, List, ◌++◌, ◌-◌, map, length, take, drop, ap}
use Rattle.std.proofs.Common.{Option, refl, sym, subst, ◌∙◌}
use Rattle.std.specs.Prelude.{option_map}
use Rattle.std.proofs.lemmas.Result.{on_ok_weaker}
use Rattle.mm_base.specs.Statement.{PlainStatement, plain_statement}
use Rattle.mm_base.specs.Token.{PlainToken, plain_token}
use Rattle.mm_text.specs.Files.{PlainFile, plain_file}
use Rattle.mm_frame.specs.Sentence.{sentence_of}
use Rattle.mm_step.specs.Plain.{token_texts}
use Rattle.mm_rules.specs.Answer.{plain_refusal}
use Rattle.mm_rules.specs.Verdict.{PlainRefusal, proof_of, sentences}
use Rattle.mm_rules.proofs.Judgements.JudgedProofs.{texts_of}
use Rattle.mm_explain.specs.Why.{head_lines}
use Rattle.mm_explain.specs.Later.{stated_later}
use Rattle.mm_explain.specs.Unused.{AreUnused, unused_text}
use Rattle.mm_facts.specs.Explained.{Detail, details_text}
use Rattle.mm_facts.specs.Mirror.Explaining.{IsCauseOf}
use Rattle.mm_explain.proofs.Explanations.{told_parts, proof_in_room, fault_there, explained_there}
use Rattle.mm_explain.proofs.Explanations.{refused_place, explanation_told}
use Rattle.mm_explain.proofs.LaterLabels.{labels_behind}
use Rattle.mm_explain.proofs.OutlinedStatements.{kept_again}
use Rattle.mm_explain.proofs.why.push_explanation.Goals as goal

pub cause_of-requires-clause-proof : goal.cause_of-requires-clause-proof
cause_of-requires-clause-proof c =
    let r = c.requires.refused in (
      length (sentences r.before),
      sentence_of (plain_statement c.args.statement.now),
      c.last_number-id.ensures (sentences r.before) (told_parts r),
    )

pub cause_of-requires-clause-room : goal.cause_of-requires-clause-room
cause_of-requires-clause-room c =
    proof_in_room c.requires.refused (token_texts c.deref.result.now)
    (ap token_texts c.deref.ensures.value ∙ texts_of c.args.statement.now.proof.items)

pub cause_of-requires-clause-fault : goal.cause_of-requires-clause-fault
cause_of-requires-clause-fault c =
    let r = c.requires.refused in
    fault_there r c.last_number-id.result.0
    (c.last_number-id.ensures (sentences r.before) (told_parts r)) (token_texts c.deref.result.now)
    (ap token_texts c.deref.ensures.value ∙ texts_of c.args.statement.now.proof.items)
    c.fault_in-fault.result.0
    c.fault_in-fault.result.1 c.fault_in-fault.ensures.rule c.fault_in-fault.ensures.step

pub fault_place-at-requires-clause-room : goal.fault_place-at-requires-clause-room
fault_place-at-requires-clause-room c =
    let s = plain_statement c.args.statement.now in
    proof_in_room c.requires.refused (proof_of s) refl

pub fault_place-at-requires-clause-cause : goal.fault_place-at-requires-clause-cause
fault_place-at-requires-clause-cause c =
    let r = c.requires.refused in
    let same = ap token_texts c.deref.ensures.value
    ∙ texts_of c.args.statement.now.proof.items in (
      c.args.manner.profile,
      c.args.book.now.statements,
      c.last_number-id.result.0,
      length (sentences r.before),
      c.fault_in-fault.result.0,
      c.fault_in-fault.result.1,
      c.last_number-id.ensures (sentences r.before) (told_parts r),
      subst
          (λ (ts : List (List ℕ)). IsCauseOf c.args.manner.profile c.args.book.now.statements
          c.last_number-id.result.0 ts c.fault_in-fault.result.0 c.fault_in-fault.result.1
          c.in_ok-cause.cause)
          same c.in_ok-cause.ensures.cause,
    )

pub push_cause-requires-clause-proof : goal.push_cause-requires-clause-proof
push_cause-requires-clause-proof c =
    let r = c.requires.refused in (
      length (sentences r.before),
      sentence_of (plain_statement c.args.statement.now),
      c.last_number-id.ensures (sentences r.before) (told_parts r),
    )

pub push_cause-requires-clause-cause : goal.push_cause-requires-clause-cause
push_cause-requires-clause-cause c =
    (token_texts c.deref.result.now, c.fault_in-fault.result.1, c.in_ok-cause.ensures.cause)

pub push_hypothesis_places-requires-clause-placed : goal.push_hypothesis_places-requires-clause-placed
push_hypothesis_places-requires-clause-placed c =
    let r = c.requires.refused in
    refused_place r c.last_number-id.result.0 (c.args.refusal.now.statement - 1) refl
    (c.last_number-id.ensures (sentences r.before) (told_parts r))

pub unknown_label-unknown-requires : goal.unknown_label-unknown-requires
unknown_label-unknown-requires c =
    let r = c.requires.refused in (
      c.args.manner.profile,
      c.args.book.now.statements,
      c.last_number-id.result.0,
      length (sentences r.before),
      sentence_of (plain_statement c.args.statement.now),
      token_texts c.deref.result.now,
      c.fault_in-fault.result.1,
      c.last_number-id.ensures (sentences r.before) (told_parts r),
      c.in_ok-cause.ensures.cause,
    )

pub push_later-requires : goal.push_later-requires
push_later-requires c =
    kept_again (map plain_file c.args.outline.now.files.now) c.push_hypothesis_places.new.outline
    c.in_ok-push_hypothesis_places.ensures.kept

pub returns-clause-told : goal.returns-clause-told
returns-clause-told c =
    let r = c.requires.refused in
    let st = c.args.book.now.statements in
    let files : List PlainFile = map plain_file c.args.outline.now.files.now in
    let id = c.last_number-id.result.0 in
    let rule = c.fault_in-fault.result.0 in
    let step = c.fault_in-fault.result.1 in
    let tokens = token_texts c.deref.result.now in
    let index = length (sentences r.before) in
    let s = plain_statement c.args.statement.now in
    let mine = c.last_number-id.ensures (sentences r.before) (told_parts r) in
    let own = ap token_texts c.deref.ensures.value ∙ texts_of c.args.statement.now.proof.items in
    let caused = c.in_ok-cause.ensures.cause in
    let placed : List PlainToken = map plain_token c.deref.result.now in
    let caused_by = λ (ts : List (List ℕ)).
    IsCauseOf c.args.manner.profile st id ts rule step c.in_ok-cause.cause in
    let own_cause = subst caused_by own caused in
    let place =
    c.fault_place-at.ensures c.args.manner.profile st id index rule step mine own_cause in
    let standing = refused_place r id (c.args.refusal.now.statement - 1) refl mine in
    let (details, facts, put) =
    c.in_ok-push_cause.ensures files placed step
    (subst caused_by (texts_of c.deref.result.now) caused)
    c.in_ok-cause.ensures.told index (sentence_of s) mine in
    let head = head_lines c.args.manner.source files c.fault_place-at.result
    (plain_refusal c.args.refusal.now) in
    let (places, stand, more) =
    c.in_ok-push_hypothesis_places.ensures.told standing c.args.manner.profile step own_cause in
    let again = ap token_texts (c.deref.ensures.value ∙ sym c.deref-2.ensures.value) in
    let (unused, by_none, last) = c.in_ok-push_unused.ensures c.args.manner.profile id rule step
    (subst caused_by again caused) index (sentence_of s) mine in
    let label : Option (List ℕ) = option_map (λ l. l.now) c.unknown_label-unknown.result in
    let later : List Detail = stated_later files label r.after in
    let number : c.args.refusal.now.statement ≡ length r.before + 1 =
    ap (λ (p : PlainRefusal). p.statement) r.refused.refused in
    let behind : drop c.args.refusal.now.statement (r.before ++ s ∷ r.after) ≡ r.after =
    ap (λ n. drop n (r.before ++ s ∷ r.after)) number ∙ labels_behind r.before r.after s in
    on_ok_weaker c.push_later.result
    (λ stated. (
      head ++ details_text (details ++ places) ++ unused_text unused ++ details_text later,
      explained_there r id mine c.args.manner.source tokens own placed
          (ap (map plain_token) c.deref.ensures.value) rule step c.fault_in-fault.ensures.rule
          c.fault_in-fault.ensures.step c.fault_place-at.result place details facts places stand
          unused
          (subst (λ (ts : List (List ℕ)). AreUnused (take index st) (sentence_of s) ts step unused)
          (sym again) by_none) label
          (c.unknown_label-unknown.ensures c.args.manner.profile st id index (sentence_of s) tokens
          step mine caused),
      explanation_told c.args.out.now.items head details places (unused_text unused) later
          c.push_head_lines.new.out.items c.push_cause.new.out.items
          c.push_hypothesis_places.new.out.items c.push_unused.new.out.items
          c.push_later.new.out.items c.in_ok-push_head_lines.ensures put more last
          ((rw c.in_ok-push_hypothesis_places.ensures.kept.same at stated)
          (r.before ++ s ∷ r.after) r.ending r.reads
          ∙ ap (λ (ss : List PlainStatement). c.push_unused.new.out.items
          ++ details_text (stated_later files label ss)) behind),
    ))
    c.push_later.ensures.told

pub returns-clause-kept : goal.returns-clause-kept
returns-clause-kept c =
    rw c.in_ok-push_hypothesis_places.ensures.kept.same at c.push_later.ensures.kept
