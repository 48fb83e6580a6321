-- Each number with its word.
use Rattle.std.proofs.Common.{◌≡◌, length, sym, ◌∙◌, rules, vec_len}
use Rattle.std.proofs.lemmas.List.{length-map}
use Rattle.mm_frame.specs.declared.number.LabelId.{LabelId}
use Rattle.mm_diff.specs.Mirror.Changes.{plain_changes, plain_dependence, plain_renaming}
use Rattle.mm_diff.proofs.DiffLines.{sums_told}
use Rattle.mm_diff.proofs.text.push_sums.Goals as goal

pub returns : goal.returns
returns c =
    let changes = c.args.changes.now in
    let long_gone : vec_len changes.gone ≡ length changes.gone.items = search rules in
    let long_added : vec_len changes.added ≡ length changes.added.items = search rules in
    let long_changed : vec_len changes.changed ≡ length changes.changed.items = search rules in
    let long_reproved : vec_len changes.reproved ≡ length changes.reproved.items = search rules in
    let long_renamed : vec_len changes.renamed ≡ length changes.renamed.items = search rules in
    let long_moved : vec_len changes.moved ≡ length changes.moved.items = search rules in
    let long_further : vec_len changes.further ≡ length changes.further.items = search rules in
    let long_less : vec_len changes.less ≡ length changes.less.items = search rules in
    sums_told (plain_changes changes) c.len.result c.len-2.result c.len-3.result c.len-4.result
    c.len-5.result c.len-6.result c.len-7.result c.len-8.result _ _ _ _ _ _ _ _ _ _ _
    (c.len.ensures ∙ long_gone ∙ sym (length-map changes.gone.items (λ (l : LabelId). l.0)))
    (c.len-2.ensures ∙ long_added ∙ sym (length-map changes.added.items (λ (l : LabelId). l.0)))
    (c.len-3.ensures ∙ long_changed ∙ sym (length-map changes.changed.items (λ (l : LabelId). l.0)))
    (c.len-4.ensures ∙ long_reproved ∙ sym (length-map changes.reproved.items (λ (l : LabelId). l.0)))
    (c.len-5.ensures ∙ long_renamed ∙ sym (length-map changes.renamed.items plain_renaming))
    (c.len-6.ensures ∙ long_moved ∙ sym (length-map changes.moved.items (λ (l : LabelId). l.0)))
    (c.len-7.ensures ∙ long_further ∙ sym (length-map changes.further.items plain_dependence))
    (c.len-8.ensures ∙ long_less ∙ sym (length-map changes.less.items plain_dependence))
    c.in_ok-extend_from_slice.ensures.items c.in_ok-push_sum.ensures c.in_ok-push_sum-2.ensures
    c.in_ok-push_sum-3.ensures c.in_ok-push_sum-4.ensures c.in_ok-push_sum-5.ensures
    c.in_ok-push_sum-6.ensures c.in_ok-push_sum-7.ensures c.in_ok-push_sum-8.ensures
    c.in_ok-push.ensures.items
