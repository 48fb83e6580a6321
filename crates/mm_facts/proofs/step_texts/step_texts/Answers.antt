-- The step that made an entry has a line and an index, by its number.
use Rattle.std.proofs.Common.{◌≡◌, ◌-◌, ◌<◌, ℕ, List, Some, length, map, slice_get, take, arith}
use Rattle.std.proofs.Common.{rules, [], ◌∷◌, refl, sym, ap, subst, vec_len, ◌∙◌}
use Rattle.std.proofs.lemmas.List.{length-append, length-map}
use Rattle.std.proofs.lemmas.Option.{slice_get_read}
use Rattle.mm_base.specs.Token.{PlainToken, plain_token}
use Rattle.mm_text.specs.Files.{PlainFile, plain_file}
use Rattle.mm_proof.proofs.ProofVerdicts.JudgedMoves.{seen_moves}
use Rattle.mm_step.specs.Plain.{token_texts}
use Rattle.mm_places.specs.Places.{AreMovePlaces}
use Rattle.mm_facts.specs.Mirror.Explaining.{step_indices_from}
use Rattle.mm_facts.specs.StepTexts.{TellsMove}
use Rattle.mm_facts.proofs.FaultPlaces.{has_place}
use Rattle.mm_facts.proofs.StepPlaces.{first_pass, first_within, found_of, found_within}
use Rattle.mm_facts.proofs.StepPlaces.{found_index, one_text_more, all_told}
use Rattle.mm_facts.proofs.step_texts.step_texts.Goals as goal

pub names_before-requires-clause-within : goal.names_before-requires-clause-within
names_before-requires-clause-within c =
    first_within c.args.book.now.statements c.args.id.0 c.args.steps.now c.args.halt.now
    c.requires.steps c.requires.halted

pub names_before-requires-clause-pass : goal.names_before-requires-clause-pass
names_before-requires-clause-pass c =
    first_pass c.args.book.now.statements c.args.id.0 c.args.steps.now c.args.halt.now
    c.requires.halted

pub loop-entry-init : goal.loop-entry-init
loop-entry-init c = record {
  same = c.new-counted.ensures;
  count = ap length c.new-texts.ensures.items;
  told = λ index s moves proof numbered k number less there. absurd (omega arith);
}

pub overflow_sub-number : goal.overflow_sub-number
overflow_sub-number c =
    let p = c.requires.proof in
    let told = c.requires.said p.0 p.1 p.2 in
    let number = c.index-number.result.now in
    let inside : c.loop-entry.entry < length c.args.halt.now.origins.items =
    (let e = c.len-entry-end.ensures in let k = c.loop-entry-test.true in omega arith) in
    let there : slice_get c.args.halt.now.origins.items c.loop-entry.entry ≡ Some number =
    slice_get_read c.args.halt.now.origins.items (length c.args.halt.now.origins.items)
    c.loop-entry.entry number refl inside c.index-number.ensures in
    let found = found_of c.args.book.now.statements c.args.id.0 c.args.steps.now c.args.halt.now
    c.requires.halted c.steps.inside.entries.items c.steps.inside.codes.items
    (seen_moves c.steps.view_is) c.in_ok-names.names.items c.in_ok-names.ensures.listed
    c.in_ok-indices.indices.items
    (c.in_ok-indices.ensures ∙ ap (step_indices_from 0) c.deref.ensures.value)
    p.0 p.1 told.1 p.2 told.3 c.loop-entry.entry number there in
    let within = found_within found in
    omega (arith, within.0)

pub index-requires : goal.index-requires
index-requires c =
    let p = c.requires.proof in
    let told = c.requires.said p.0 p.1 p.2 in
    let number = c.index-number.result.now in
    let inside : c.loop-entry.entry < length c.args.halt.now.origins.items =
    (let e = c.len-entry-end.ensures in let k = c.loop-entry-test.true in omega arith) in
    let there : slice_get c.args.halt.now.origins.items c.loop-entry.entry ≡ Some number =
    slice_get_read c.args.halt.now.origins.items (length c.args.halt.now.origins.items)
    c.loop-entry.entry number refl inside c.index-number.ensures in
    let found = found_of c.args.book.now.statements c.args.id.0 c.args.steps.now c.args.halt.now
    c.requires.halted c.steps.inside.entries.items c.steps.inside.codes.items
    (seen_moves c.steps.view_is) c.in_ok-names.names.items c.in_ok-names.ensures.listed
    c.in_ok-indices.indices.items
    (c.in_ok-indices.ensures ∙ ap (step_indices_from 0) c.deref.ensures.value)
    p.0 p.1 told.1 p.2 told.3 c.loop-entry.entry number there in
    let within = found_within found in
    let full : vec_len c.in_ok-names.names ≡ length c.in_ok-names.names.items = search rules in
    omega (arith, within.1)

pub overflow_sub-number-in-loop-entry : goal.overflow_sub-number-in-loop-entry
overflow_sub-number-in-loop-entry c =
    let p = c.requires.proof in
    let told = c.requires.said p.0 p.1 p.2 in
    let number = c.index-number.result.now in
    let inside : c.loop-entry.entry < length c.args.halt.now.origins.items =
    (let e = c.len-entry-end.ensures in let k = c.loop-entry-test.true in omega arith) in
    let there : slice_get c.args.halt.now.origins.items c.loop-entry.entry ≡ Some number =
    slice_get_read c.args.halt.now.origins.items (length c.args.halt.now.origins.items)
    c.loop-entry.entry number refl inside c.index-number.ensures in
    let found = found_of c.args.book.now.statements c.args.id.0 c.args.steps.now c.args.halt.now
    c.requires.halted c.steps.inside.entries.items c.steps.inside.codes.items
    (seen_moves c.steps.view_is) c.in_ok-names.names.items c.in_ok-names.ensures.listed
    c.in_ok-indices.indices.items
    (c.in_ok-indices.ensures ∙ ap (step_indices_from 0) c.deref.ensures.value)
    p.0 p.1 told.1 p.2 told.3 c.loop-entry.entry number there in
    let within = found_within found in
    omega (arith, within.0)

pub index-index-requires : goal.index-index-requires
index-index-requires c =
    let p = c.requires.proof in
    let told = c.requires.said p.0 p.1 p.2 in
    let number = c.index-number.result.now in
    let inside : c.loop-entry.entry < length c.args.halt.now.origins.items =
    (let e = c.len-entry-end.ensures in let k = c.loop-entry-test.true in omega arith) in
    let there : slice_get c.args.halt.now.origins.items c.loop-entry.entry ≡ Some number =
    slice_get_read c.args.halt.now.origins.items (length c.args.halt.now.origins.items)
    c.loop-entry.entry number refl inside c.index-number.ensures in
    let found = found_of c.args.book.now.statements c.args.id.0 c.args.steps.now c.args.halt.now
    c.requires.halted c.steps.inside.entries.items c.steps.inside.codes.items
    (seen_moves c.steps.view_is) c.in_ok-names.names.items c.in_ok-names.ensures.listed
    c.in_ok-indices.indices.items
    (c.in_ok-indices.ensures ∙ ap (step_indices_from 0) c.deref.ensures.value)
    p.0 p.1 told.1 p.2 told.3 c.loop-entry.entry number there in
    let within = found_within found in
    let full : vec_len c.in_ok-indices.indices ≡ length c.in_ok-indices.indices.items =
    search rules in
    omega (arith, within.2)

pub step_text-requires-clause-within : goal.step_text-requires-clause-within
step_text-requires-clause-within c =
    let p = c.requires.proof in
    let told = c.requires.said p.0 p.1 p.2 in
    let number = c.index-number.result.now in
    let inside : c.loop-entry.entry < length c.args.halt.now.origins.items =
    (let e = c.len-entry-end.ensures in let k = c.loop-entry-test.true in omega arith) in
    let there : slice_get c.args.halt.now.origins.items c.loop-entry.entry ≡ Some number =
    slice_get_read c.args.halt.now.origins.items (length c.args.halt.now.origins.items)
    c.loop-entry.entry number refl inside c.index-number.ensures in
    let found = found_of c.args.book.now.statements c.args.id.0 c.args.steps.now c.args.halt.now
    c.requires.halted c.steps.inside.entries.items c.steps.inside.codes.items
    (seen_moves c.steps.view_is) c.in_ok-names.names.items c.in_ok-names.ensures.listed
    c.in_ok-indices.indices.items
    (c.in_ok-indices.ensures ∙ ap (step_indices_from 0) c.deref.ensures.value)
    p.0 p.1 told.1 p.2 told.3 c.loop-entry.entry number there in
    let within = found_within found in
    let index = c.index-index.result.now in
    let at_index : slice_get c.in_ok-indices.indices.items (number - 1) ≡ Some index =
    slice_get_read c.in_ok-indices.indices.items (length c.in_ok-indices.indices.items)
    (number - 1) index refl within.2 c.index-index.ensures in
    subst (λ (places : List (ℕ × ℕ)). index < length places)
    (sym c.deref-in-loop-entry.ensures.value)
    (has_place (token_texts c.args.tokens.now) (length c.in_ok-places.places.items)
    c.in_ok-places.ensures.said c.in_ok-places.ensures.known_said
    (take p.0 c.args.book.now.statements) p.1 told.1 told.2 index
    (found_index found index at_index))

pub step_text-requires-clause-places : goal.step_text-requires-clause-places
step_text-requires-clause-places c =
    subst (λ (places : List (ℕ × ℕ)). AreMovePlaces (token_texts c.args.tokens.now) places)
    (sym c.deref-in-loop-entry.ensures.value) c.in_ok-places.ensures.places

pub loop-entry-preserved : goal.loop-entry-preserved
loop-entry-preserved c = record {
  same = c.step_text.ensures.files ∙ c.loop-entry.invariant.same;
  count = omega (
    arith,
    c.loop-entry.invariant.count,
    ap length c.in_ok-push.ensures.items,
    length-append c.loop-entry.texts.items (c.in_ok-text.text ∷ []),
  );
  told = λ index s moves proof numbered.
      let files : List PlainFile = map plain_file c.args.files.now in
      let placed : List PlainToken = map plain_token c.args.tokens.now in
      let number = c.index-number.result.now in
      let inside : c.loop-entry.entry < length c.args.halt.now.origins.items =
      (let e = c.len-entry-end.ensures in let k = c.loop-entry-test.true in omega arith) in
      let there : slice_get c.args.halt.now.origins.items c.loop-entry.entry ≡ Some number =
      slice_get_read c.args.halt.now.origins.items (length c.args.halt.now.origins.items)
      c.loop-entry.entry number refl inside c.index-number.ensures in
      let found = found_of c.args.book.now.statements c.args.id.0 c.args.steps.now c.args.halt.now
      c.requires.halted c.steps.inside.entries.items c.steps.inside.codes.items
      (seen_moves c.steps.view_is) c.in_ok-names.names.items c.in_ok-names.ensures.listed
      c.in_ok-indices.indices.items
      (c.in_ok-indices.ensures ∙ ap (step_indices_from 0) c.deref.ensures.value)
      index s moves proof numbered c.loop-entry.entry number there in
      let within = found_within found in
      let at = c.index-index.result.now in
      let at_index : slice_get c.in_ok-indices.indices.items (number - 1) ≡ Some at =
      slice_get_read c.in_ok-indices.indices.items (length c.in_ok-indices.indices.items)
      (number - 1) at refl within.2 c.index-index.ensures in
      let line = c.index.result.now in
      let at_line : slice_get c.in_ok-names.names.items (number - 1) ≡ Some line =
      slice_get_read c.in_ok-names.names.items (length c.in_ok-names.names.items) (number - 1) line
      refl within.1 c.index.ensures in
      one_text_more files placed found c.args.halt.now.origins.items c.loop-entry.texts.items
      c.push.new.self.items c.loop-entry.entry line at c.in_ok-text.text at_line at_index
      (λ called own. subst
      (λ (fs : List PlainFile). TellsMove fs placed at number called c.in_ok-text.text.items)
      c.loop-entry.invariant.same (c.in_ok-text.ensures.text called own))
      c.in_ok-push.ensures.items c.loop-entry.invariant.count there
      (c.loop-entry.invariant.told index s moves proof numbered);
}

pub returns-clause-count : goal.returns-clause-count
returns-clause-count c =
    let end = c.loop-entry-test.false in
    let past = c.loop-entry.auto.entry-end in
    omega (arith, c.loop-entry.invariant.count, c.len-entry-end.ensures)

pub returns-clause-texts : goal.returns-clause-texts
returns-clause-texts c = λ index s moves proof numbered.
    let end = c.loop-entry-test.false in
    let past = c.loop-entry.auto.entry-end in
    all_told (map plain_file c.args.files.now) (map plain_token c.args.tokens.now) moves
    c.args.halt.now.origins.items (map (λ t. t.items) c.loop-entry.texts.items) c.loop-entry.entry
    (length-map c.loop-entry.texts.items (λ t. t.items) ∙ c.loop-entry.invariant.count)
    (omega (arith, c.len-entry-end.ensures))
    (c.loop-entry.invariant.told index s moves proof numbered)
