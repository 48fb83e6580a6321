-- The bytes of the proof, which `check` accepted.
use Rattle.std.proofs.Common.{ap, subst, ◌∙◌}
use Rattle.std.proofs.lemmas.Option.{get_or_from_slice_get}
use Rattle.mm_rules.specs.Conclusion.{Conclusion}
use Rattle.mm_verdict.proofs.Verdicts.AcceptedStatements.{KeptWell}
use Rattle.mm_alike.proofs.CheckedTheorems.{home_within, own_bytes, own_home, own_proof, own_room}
use Rattle.mm_alike.proofs.CheckedTheorems.{own_steps, own_within, own_words}
use Rattle.mm_alike.proofs.database.theorem_at.Goals as goal

pub bounds-homes-id : goal.bounds-homes-id
bounds-homes-id c =
    home_within c.args.checked.now c.args.homes.now c.args.id.0
    (subst KeptWell c.checked.view_is c.checked.invariant) c.requires.complete c.requires.theorem

pub bytes_at-bytes-requires : goal.bytes_at-bytes-requires
bytes_at-bytes-requires c =
    let now : Conclusion = c.args.checked.now in
    let well = subst KeptWell c.checked.view_is c.checked.invariant in
    let files = ap (λ (v : Conclusion). v.files) c.checked.view_is in
    let home = get_or_from_slice_get c.args.homes.now c.args.id.0 _
    (record { file = 0; span = (0, 0) })
    (own_home now c.args.homes.now c.args.id.0 well c.requires.complete c.requires.theorem) in
    rw (files, home)
    (own_within now c.args.homes.now c.args.id.0 well c.requires.complete c.requires.theorem)

pub proof_in-requires : goal.proof_in-requires
proof_in-requires c =
    let now : Conclusion = c.args.checked.now in
    let well = subst KeptWell c.checked.view_is c.checked.invariant in
    let files = ap (λ (v : Conclusion). v.files) c.checked.view_is in
    let home = get_or_from_slice_get c.args.homes.now c.args.id.0 _
    (record { file = 0; span = (0, 0) })
    (own_home now c.args.homes.now c.args.id.0 well c.requires.complete c.requires.theorem) in
    own_bytes now c.args.homes.now c.args.id.0 well c.requires.complete c.requires.theorem
    c.bytes_at-bytes.result.now (rw (files, home) at c.bytes_at-bytes.ensures)

pub read_theorem-requires-clause-proof : goal.read_theorem-requires-clause-proof
read_theorem-requires-clause-proof c =
    let now : Conclusion = c.args.checked.now in
    let well = subst KeptWell c.checked.view_is c.checked.invariant in
    let files = ap (λ (v : Conclusion). v.files) c.checked.view_is in
    let told = ap (λ (v : Conclusion). v.sentences) c.checked.view_is in
    let under = ap (λ (v : Conclusion). v.profile) c.checked.view_is in
    let home = get_or_from_slice_get c.args.homes.now c.args.id.0 _
    (record { file = 0; span = (0, 0) })
    (own_home now c.args.homes.now c.args.id.0 well c.requires.complete c.requires.theorem) in
    let words = c.in_ok-statement.ensures ∙ own_words now c.args.homes.now c.args.id.0 well
    c.requires.complete c.requires.theorem c.bytes_at-bytes.result.now
    (rw (files, home) at c.bytes_at-bytes.ensures) in
    rw (under, told, words)
    (own_proof now c.args.homes.now c.args.id.0 well c.requires.complete c.requires.theorem)

pub read_theorem-requires-clause-room : goal.read_theorem-requires-clause-room
read_theorem-requires-clause-room c =
    let now : Conclusion = c.args.checked.now in
    let well = subst KeptWell c.checked.view_is c.checked.invariant in
    let files = ap (λ (v : Conclusion). v.files) c.checked.view_is in
    let home = get_or_from_slice_get c.args.homes.now c.args.id.0 _
    (record { file = 0; span = (0, 0) })
    (own_home now c.args.homes.now c.args.id.0 well c.requires.complete c.requires.theorem) in
    let words = c.in_ok-statement.ensures ∙ own_words now c.args.homes.now c.args.id.0 well
    c.requires.complete c.requires.theorem c.bytes_at-bytes.result.now
    (rw (files, home) at c.bytes_at-bytes.ensures) in
    rw words (own_room now c.args.homes.now c.args.id.0 well c.requires.complete
    c.requires.theorem)

pub returns-in-Ok-clause-whole : goal.returns-in-Ok-clause-whole
returns-in-Ok-clause-whole c =
    rw (ap (λ (v : Conclusion). v.sentences) c.checked.view_is) at c.in-Ok.ensures.theorem

pub returns-in-Ok-clause-told : goal.returns-in-Ok-clause-told
returns-in-Ok-clause-told c =
    let now : Conclusion = c.args.checked.now in
    let well = subst KeptWell c.checked.view_is c.checked.invariant in
    let files = ap (λ (v : Conclusion). v.files) c.checked.view_is in
    let told = ap (λ (v : Conclusion). v.sentences) c.checked.view_is in
    let home = get_or_from_slice_get c.args.homes.now c.args.id.0 _
    (record { file = 0; span = (0, 0) })
    (own_home now c.args.homes.now c.args.id.0 well c.requires.complete c.requires.theorem) in
    let words = c.in_ok-statement.ensures ∙ own_words now c.args.homes.now c.args.id.0 well
    c.requires.complete c.requires.theorem c.bytes_at-bytes.result.now
    (rw (files, home) at c.bytes_at-bytes.ensures) in
    own_steps now c.args.homes.now c.args.id.0 well c.requires.complete c.requires.theorem
    c.in-Ok.theorem.steps.moves (rw (told, c.in-Ok.ensures.id, words) at c.in-Ok.ensures.said)
