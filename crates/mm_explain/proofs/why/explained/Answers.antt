-- Where no refusal is kept, the files are accepted; else all are told.
use Rattle.std.proofs.Common.{◌≡◌, List, [], ◌∷◌, ◌++◌, false, map, sym, ap, ◌∙◌, append-nil, refl}
use Rattle.std.proofs.Common.{inl, inr}
use Rattle.std.proofs.Common.{arith, length-append}
use Rattle.mm_text.specs.Files.{PlainFile, plain_file}
use Rattle.mm_rules.specs.Answer.{plain_refusal}
use Rattle.mm_rules.specs.Status.{number_of}
use Rattle.mm_verdict.specs.Why.{is_of_proofs}
use Rattle.mm_verdict.proofs.Verdicts.LoopOverStatements.{none_there, some_there}
use Rattle.mm_explain.proofs.Explanations.{tells_why}
use Rattle.mm_explain.proofs.LastFaults.{ends_run}
use Rattle.mm_explain.proofs.why.explained.Goals as goal

pub conclude-requires : goal.conclude-requires
conclude-requires c =
    let v = c.in-Ok.ensures.visited in
    (v.clean (sym v.seen.kept ∙ ap (map plain_refusal)
    (none_there c.judge_files.new.visitor.refusals (sym c.if-is_empty.ensures)))).0

pub proofs_told-requires : goal.proofs_told-requires
proofs_told-requires c =
    let v = c.in-Ok.ensures.visited in rw v.seen.same_files v.seen.outline.readable

pub returns-in-Ok-clause-why : goal.returns-in-Ok-clause-why
returns-in-Ok-clause-why c =
    let v = c.in-Ok.ensures.visited in
    let reasons = c.judge_files.new.visitor in
    let files : List PlainFile = map plain_file c.args.files.now in
    let told_text = c.in_ok-told-in-Ok.told.items in
    let told = rw (v.seen.same_profile, v.seen.same_source, v.seen.same_files)
    at (c.in_ok-told-in-Ok.ensures v.listed v.seen.kept
    (rw v.seen.same_files v.seen.noted)
    (rw (v.seen.same_profile, v.seen.same_source, v.seen.same_files) v.seen.explained)) in
    tells_why c.args.profile c.args.source files v.listed reasons.refusals.items []
    told_text told_text
    c.in_ok-text-in-Ok.text.items (number_of c.in_ok-text-in-Ok.status)
    (rw (append-nil v.listed) v.faults) v.seen.kept v.seen.explained.proofs told tt [] tt refl
    c.deref.result.now (c.deref.ensures.value ∙ sym (append-nil _))
    (rw c.deref.ensures.value (some_there reasons.refusals (sym c.if-is_empty.ensures)))
    c.in_ok-text-in-Ok.ensures.text c.in_ok-text-in-Ok.ensures.status

pub told_with_last-requires-clause-readable : goal.told_with_last-requires-clause-readable
told_with_last-requires-clause-readable c =
    let m = rw c.in-Err-Refused.field-0-is at c.in-Err-Refused.ensures.stopped in
    rw m.seen.same_files m.seen.outline.readable

pub told_with_last-requires-clause-ends : goal.told_with_last-requires-clause-ends
told_with_last-requires-clause-ends c =
    let m = rw c.in-Err-Refused.field-0-is at c.in-Err-Refused.ensures.stopped in
    let last = c.in-Err-Refused.last in
    let none : m.others ≡ [] = elim (m.rest) [ inl never ↦ absurd never | inr e ↦ e ] in
    let other : is_of_proofs last.rule ≡ false =
    elim (m.kind) [ inl never ↦ absurd never | inr e ↦ e ] in
    rw (c.in-Err-Refused.field-0-is, m.seen.same_files)
    (ends_run c.args.profile (map plain_file c.args.files.now) m.listed (plain_refusal last) other
    (rw none at m.faults))

pub returns-in-Err-Refused-clause-why : goal.returns-in-Err-Refused-clause-why
returns-in-Err-Refused-clause-why c =
    let m = rw c.in-Err-Refused.field-0-is at c.in-Err-Refused.ensures.stopped in
    let reasons = c.judge_files.new.visitor in
    let files : List PlainFile = map plain_file c.args.files.now in
    let last = c.in-Err-Refused.last in
    let none : m.others ≡ [] = elim (m.rest) [ inl never ↦ absurd never | inr e ↦ e ] in
    let other : is_of_proofs last.rule ≡ false =
    elim (m.kind) [ inl never ↦ absurd never | inr e ↦ e ] in
    let all : c.deref-in-Err-Refused.result.now ≡ reasons.refusals.items ++ last ∷ [] =
    c.deref-in-Err-Refused.ensures.value
    ∙ (rw c.in-Err-Refused.field-0-is at c.in_ok-told-in-Err-Refused.ensures.kept) in
    let told = rw (
      m.seen.same_profile,
      m.seen.same_source,
      m.seen.same_files,
      c.in-Err-Refused.field-0-is,
    )
    at (c.in_ok-told-in-Err-Refused.ensures.told m.listed m.seen.kept
    (rw m.seen.same_files m.seen.noted)
    (rw (m.seen.same_profile, m.seen.same_source, m.seen.same_files) m.seen.explained)) in
    tells_why c.args.profile c.args.source files m.listed reasons.refusals.items (last ∷ [])
    told.proofs c.in_ok-told-in-Err-Refused.told.items
    c.in_ok-text-in-Err-Refused.text.items (number_of c.in_ok-text-in-Err-Refused.status)
    (rw none at m.faults) m.seen.kept m.seen.explained.proofs told.told (other, tt)
    (told.explanation ∷ []) (told.explains, tt)
    (told.said ∙ ap (λ t. t ++ told.proofs) (sym (append-nil told.explanation)))
    c.deref-in-Err-Refused.result.now all
    (rw all (omega (arith, length-append reasons.refusals.items (last ∷ []))))
    c.in_ok-text-in-Err-Refused.ensures.text c.in_ok-text-in-Err-Refused.ensures.status
