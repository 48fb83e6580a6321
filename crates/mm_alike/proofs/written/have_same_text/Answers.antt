-- The bytes are those of the proofs.
use Rattle.std.proofs.Common.{List, ℕ, false, sym, ap, subst, ◌∙◌}
use Rattle.std.proofs.lemmas.Option.{get_or_from_slice_get}
use Rattle.std.proofs.lemmas.Slice.Eq.{bytes_eq-Decides}
use Rattle.mm_code.specs.Words.{tokens_in}
use Rattle.mm_frame.specs.Numbers.{IsAssertionNumber}
use Rattle.mm_frame.specs.Sentence.{Sentence}
use Rattle.mm_rules.specs.Conclusion.{Conclusion}
use Rattle.mm_verdict.proofs.Verdicts.AcceptedStatements.{KeptWell}
use Rattle.mm_alike.specs.Mirror.Homes.{words_outside}
use Rattle.mm_alike.proofs.CheckedTheorems.{home_within, own_home, own_tokens, own_within}
use Rattle.mm_alike.proofs.CheckedTheorems.{theorem_asserts}
use Rattle.mm_alike.proofs.written.have_same_text.Goals as goal

pub name_the_same-requires-clause-one : goal.name_the_same-requires-clause-one
name_the_same-requires-clause-one c =
    subst (λ (ss : List Sentence). IsAssertionNumber ss c.args.one.0)
    (sym (ap (λ (v : Conclusion). v.sentences) c.checked.view_is))
    (theorem_asserts c.args.checked.now.sentences c.args.one.0 c.requires.theorem)

pub name_the_same-requires-clause-other : goal.name_the_same-requires-clause-other
name_the_same-requires-clause-other c =
    subst (λ (ss : List Sentence). IsAssertionNumber ss c.args.other.0)
    (sym (ap (λ (v : Conclusion). v.sentences) c.other_checked.view_is))
    (theorem_asserts c.args.other_checked.now.sentences c.args.other.0 c.requires.other_theorem)

pub bounds-homes-one : goal.bounds-homes-one
bounds-homes-one c =
    home_within c.args.checked.now c.args.homes.now c.args.one.0
    (subst KeptWell c.checked.view_is c.checked.invariant) c.requires.complete c.requires.theorem

pub bounds-other_homes-other : goal.bounds-other_homes-other
bounds-other_homes-other c =
    home_within c.args.other_checked.now c.args.other_homes.now c.args.other.0
    (subst KeptWell c.other_checked.view_is c.other_checked.invariant) c.requires.other_complete
    c.requires.other_theorem

pub bytes_at-bytes-requires : goal.bytes_at-bytes-requires
bytes_at-bytes-requires c =
    let now : Conclusion = c.args.checked.now in
    let well = subst KeptWell c.checked.view_is c.checked.invariant in
    let files = ap (λ (v : Conclusion). v.files) c.checked.view_is in
    let home = get_or_from_slice_get c.args.homes.now c.args.one.0 _
    (record { file = 0; span = (0, 0) })
    (own_home now c.args.homes.now c.args.one.0 well c.requires.complete c.requires.theorem) in
    rw (files, home)
    (own_within now c.args.homes.now c.args.one.0 well c.requires.complete c.requires.theorem)

pub bytes_at-other_bytes-requires : goal.bytes_at-other_bytes-requires
bytes_at-other_bytes-requires c =
    let now : Conclusion = c.args.other_checked.now in
    let well = subst KeptWell c.other_checked.view_is c.other_checked.invariant in
    let files = ap (λ (v : Conclusion). v.files) c.other_checked.view_is in
    let home = get_or_from_slice_get c.args.other_homes.now c.args.other.0 _
    (record { file = 0; span = (0, 0) })
    (own_home now c.args.other_homes.now c.args.other.0 well c.requires.other_complete
    c.requires.other_theorem) in
    rw (files, home)
    (own_within now c.args.other_homes.now c.args.other.0 well c.requires.other_complete
    c.requires.other_theorem)

pub returns : goal.returns
returns c = λ told.
    let now : Conclusion = c.args.checked.now in
    let then : Conclusion = c.args.other_checked.now in
    let well = subst KeptWell c.checked.view_is c.checked.invariant in
    let well_too = subst KeptWell c.other_checked.view_is c.other_checked.invariant in
    let here = ap (λ (v : Conclusion). v.sentences) c.checked.view_is in
    let there = ap (λ (v : Conclusion). v.sentences) c.other_checked.view_is in
    let files = ap (λ (v : Conclusion). v.files) c.checked.view_is in
    let files_too = ap (λ (v : Conclusion). v.files) c.other_checked.view_is in
    let home = get_or_from_slice_get c.args.homes.now c.args.one.0 _
    (record { file = 0; span = (0, 0) })
    (own_home now c.args.homes.now c.args.one.0 well c.requires.complete c.requires.theorem) in
    let home_too = get_or_from_slice_get c.args.other_homes.now c.args.other.0 _
    (record { file = 0; span = (0, 0) })
    (own_home then c.args.other_homes.now c.args.other.0 well_too c.requires.other_complete
    c.requires.other_theorem) in
    let mine = own_tokens now c.args.homes.now c.args.one.0 well c.requires.complete
    c.requires.theorem c.bytes_at-bytes.result.now
    (rw (files, home) at c.bytes_at-bytes.ensures) in
    let theirs = own_tokens then c.args.other_homes.now c.args.other.0 well_too
    c.requires.other_complete c.requires.other_theorem c.bytes_at-other_bytes.result.now
    (rw (files_too, home_too) at c.bytes_at-other_bytes.ensures) in
    let same = (bytes_eq-Decides c.bytes_at-bytes.result.now c.bytes_at-other_bytes.result.now).0
    (sym c.eq.ensures ∙ told) in (
      rw (here, there) at (c.name_the_same.ensures c.if-not-name_the_same.false),
      λ statements others reads reads_too i s j t at at_too.
          sym (mine statements reads i s at)
          ∙ ap (λ (bs : List ℕ). words_outside false (tokens_in bs)) same
          ∙ theirs others reads_too j t at_too,
    )
