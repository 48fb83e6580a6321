-- There is one, or there is none or there are more.
use Rattle.std.proofs.Common.{◌≡◌, ◌<◌, List, Some, ap, length, sym, ◌∙◌, arith, rules, vec_len}
use Rattle.std.proofs.lemmas.List.{length-map}
use Rattle.std.proofs.lemmas.Option.{slice_get-get_or}
use Rattle.mm_frame.specs.declared.number.LabelId.{LabelId}
use Rattle.mm_frame.proofs.Names.NameNumbers.{get_mapped}
use Rattle.mm_step.specs.Plain.{ids_in}
use Rattle.mm_diff.proofs.RenamedLabels.{not_one, only_one}
use Rattle.mm_diff.proofs.renamed.only_alike.Goals as goal

pub returns-then-len-eq1-clause-some : goal.returns-then-len-eq1-clause-some
returns-then-len-eq1-clause-some c =
    let ids : List LabelId = c.in_ok-alike.alike.items in
    let long : vec_len c.in_ok-alike.alike ≡ length ids = search rules in
    let one : length ids ≡ 1 = sym long ∙ sym c.len.ensures ∙ c.if-len-eq1.true in
    let some : 0 < length ids = omega arith in
    let x : LabelId = c.index.result.now in
    only_one c.args.book.now.statements c.args.other.now.statements c.args.id.0
    (ids_in c.args.those.now) (ids_in ids) x.0 c.requires.those c.in_ok-alike.ensures
    (length-map ids (λ (l : LabelId). l.0) ∙ one)
    (get_mapped (λ (l : LabelId). l.0) ids 0 x
    (slice_get-get_or ids 0 x some ∙ ap (λ (l : LabelId). Some l) (sym c.index.ensures)))

pub returns-clause-none : goal.returns-clause-none
returns-clause-none c = λ none.
    let ids : List LabelId = c.in_ok-alike.alike.items in
    let long : vec_len c.in_ok-alike.alike ≡ length ids = search rules in
    not_one c.args.book.now.statements c.args.other.now.statements c.args.id.0
    (ids_in c.args.those.now) (ids_in ids) c.requires.those c.in_ok-alike.ensures
    (λ one. c.if-len-eq1.false
    (c.len.ensures ∙ long ∙ sym (length-map ids (λ (l : LabelId). l.0)) ∙ one))
