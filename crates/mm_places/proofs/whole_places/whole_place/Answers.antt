-- All the tokens, or those of the known prefix, are judged at the place of the `$p`.
use Rattle.std.proofs.Common.{◌≡◌, ℕ, List, true, take, sym, ap, subst, ◌∙◌}
use Rattle.std.proofs.lemmas.Bool.{false≢true}
use Rattle.std.proofs.lemmas.Result.{IfOk-weaker}
use Rattle.mm_step.specs.declared.profile.Profile.{Profile}
use Rattle.mm_proof.specs.CheckedPrefix.{checked_prefix}
use Rattle.mm_step.specs.Plain.{token_texts}
use Rattle.mm_proof.specs.Strict.{IsTextFault}
use Rattle.mm_proof.specs.Tokens.{is_incomplete}
use Rattle.mm_places.specs.WholePlaces.{IsWholePlace}
use Rattle.mm_places.proofs.ProofPlaces.WholePlaces.{own_proof, in_tokens, place_back}
use Rattle.mm_places.proofs.whole_places.whole_place.Goals as goal

pub place_in-requires-clause-own : goal.place_in-requires-clause-own
place_in-requires-clause-own c =
    let p = c.requires.proof in
    let own = c.frame-own.ensures.index in
    own_proof c.args.book.now.statements c.args.id.0 c.frame-own.result.index own.0 own.1 p.0 p.1
    p.2

pub place_in-requires-else-is_incomplete-clause-own :
    goal.place_in-requires-else-is_incomplete-clause-own
place_in-requires-else-is_incomplete-clause-own c =
    let p = c.requires.proof in
    let own = c.frame-own.ensures.index in
    own_proof c.args.book.now.statements c.args.id.0 c.frame-own.result.index own.0 own.1 p.0 p.1
    p.2

pub place_in-requires-clause-broken : goal.place_in-requires-clause-broken
place_in-requires-clause-broken c = λ index s proof.
    let known : is_incomplete (token_texts c.args.tokens.now) ≡ true =
    sym c.is_incomplete.ensures ∙ c.if-is_incomplete.true in
    subst
    (λ (ts : List (List ℕ)). (profile : Profile)
    × IsTextFault profile (take index c.args.book.now.statements) s ts c.args.rule)
    (sym (ap token_texts c.deref.ensures.value ∙ c.in_ok-prefix.ensures))
    (c.requires.known_fault known index s proof)

pub place_in-requires-else-is_incomplete-clause-broken :
    goal.place_in-requires-else-is_incomplete-clause-broken
place_in-requires-else-is_incomplete-clause-broken c =
    c.requires.fault
    (λ known. false≢true (sym c.if-is_incomplete.false ∙ c.is_incomplete.ensures ∙ known))

pub returns-in_ok-prefix-clause-known_place :
    goal.returns-in_ok-prefix-clause-known_place
returns-in_ok-prefix-clause-known_place c = λ known.
    IfOk-weaker c.place_in.result _ _
    (λ place there index s proof.
    subst
    (λ (ts : List (List ℕ)). IsWholePlace (take index c.args.book.now.statements) s ts c.args.rule
    place.0 place.1)
    (ap token_texts c.deref.ensures.value ∙ c.in_ok-prefix.ensures)
    (there index s proof))
    c.place_in.ensures

pub returns-in_ok-prefix-clause-within : goal.returns-in_ok-prefix-clause-within
returns-in_ok-prefix-clause-within c =
    let st = c.args.book.now.statements in
    let p = c.requires.proof in
    let known : is_incomplete (token_texts c.args.tokens.now) ≡ true =
    sym c.is_incomplete.ensures ∙ c.if-is_incomplete.true in
    let fault = c.requires.known_fault known p.0 p.1 p.2 in
    let prefix = checked_prefix (token_texts c.args.tokens.now) in
    IfOk-weaker c.place_in.result _ _
    (λ place there.
    let at =
    subst
    (λ (ts : List (List ℕ)). IsWholePlace (take p.0 st) p.1 ts c.args.rule place.0 place.1)
    (ap token_texts c.deref.ensures.value ∙ c.in_ok-prefix.ensures)
    (there p.0 p.1 p.2) in
    place_back (token_texts c.args.tokens.now) place.0 place.1
    (in_tokens fault.0 (take p.0 st) p.1 prefix c.args.rule place.0 place.1 fault.1 at))
    c.place_in.ensures

pub returns-else-is_incomplete-clause-within : goal.returns-else-is_incomplete-clause-within
returns-else-is_incomplete-clause-within c =
    let st = c.args.book.now.statements in
    let p = c.requires.proof in
    let whole : ¬ (is_incomplete (token_texts c.args.tokens.now) ≡ true) =
    λ known. false≢true (sym c.if-is_incomplete.false ∙ c.is_incomplete.ensures ∙ known) in
    let fault = c.requires.fault whole p.0 p.1 p.2 in
    IfOk-weaker c.place_in-else-is_incomplete.result _ _
    (λ place there.
    in_tokens fault.0 (take p.0 st) p.1 (token_texts c.args.tokens.now) c.args.rule place.0 place.1
    fault.1 (there p.0 p.1 p.2))
    c.place_in-else-is_incomplete.ensures
