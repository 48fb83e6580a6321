-- The book has the label with the number.
use Rattle.std.proofs.Common.{◌≡◌, ℕ, ◌<◌, length, slice_get, Some, sym, subst}
use Rattle.mm_frame.specs.Sentence.{Sentence}
use Rattle.mm_rules.specs.Conclusion.{Conclusion, labels_in}
use Rattle.mm_rules.proofs.Numbers.{count_labelled, label_named}
use Rattle.mm_verdict.proofs.checked.Checked.name.Goals as goal

pub returns : goal.returns
returns c =
    let within : c.args.id.0 < length (labels_in c.self.inside.book.statements) =
    subst (λ (v : Conclusion). c.args.id.0 < length v.labels) (sym c.self.view_is) c.requires in
    subst (λ (v : Conclusion). slice_get v.labels c.args.id.0 ≡ Some c.label.result.now) c.self.view_is
    (label_named (λ (s : Sentence). s.label) c.self.inside.book.statements c.args.id.0 c.label.result.now
    (subst (λ (n : ℕ). c.args.id.0 < n) (sym (count_labelled (λ (s : Sentence). s.label) c.self.inside.book.statements)) within) c.label.ensures)
