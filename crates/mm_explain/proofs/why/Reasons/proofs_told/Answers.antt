-- The line, the first explanations, and the count of the others.
use Rattle.std.proofs.Common.{◌≡◌, ◌-◌, ap, length, map, min, rules, vec_len, ◌∙◌}
use Rattle.mm_text.specs.Files.{plain_file}
use Rattle.mm_explain.proofs.Explanations.{told_proofs}
use Rattle.mm_explain.proofs.why.Reasons.proofs_told.Goals as goal

pub returns : goal.returns
returns c = λ listed kept noted explained.
    let self = c.args.self.now in
    let long : vec_len self.explanations ≡ length self.explanations.items = search rules in
    let many : vec_len self.refusals ≡ length self.refusals.items = search rules in
    told_proofs self.profile self.source (map plain_file self.files.now) listed
    self.refusals.items self.explanations.items c.in_ok-text.text.items c.push_explanations.new.out.items
    c.push_more.new.out.items c.most_explained-most.result c.min-told.result
    c.saturating_sub-more.result kept
    ((rw (c.deref.ensures.value, kept) at c.in_ok-text.ensures) noted.each noted.are noted.has)
    explained (rw c.deref-2.ensures.value at c.most_explained-most.ensures)
    (c.min-told.ensures ∙ ap (min c.most_explained-most.result) (c.len.ensures ∙ long))
    (c.saturating_sub-more.ensures
    ∙ ap (λ n. n - c.most_explained-most.result) (c.len-2.ensures ∙ many))
    (rw c.deref-3.ensures.value at c.in_ok-push_explanations.ensures) c.in_ok-push_more.ensures
