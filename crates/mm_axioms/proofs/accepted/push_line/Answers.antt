-- The book has the label with the number.
use Rattle.std.proofs.Common.{◌≡◌, ℕ, ◌<◌, List, slice_get, Some, sym, subst}
use Rattle.mm_frame.specs.Sentence.{Sentence}
use Rattle.mm_rules.specs.Conclusion.{labels_in}
use Rattle.mm_rules.proofs.Numbers.{count_labelled, label_named}
use Rattle.mm_axioms.proofs.AcceptedProofs.{one_line}
use Rattle.mm_axioms.proofs.accepted.push_line.Goals as goal

pub returns : goal.returns
returns c =
    let st : List Sentence = c.args.book.now.statements in
    let there : slice_get (labels_in st) c.args.number.0 ≡ Some c.label.result.now =
    label_named (λ (s : Sentence). s.label) st c.args.number.0 c.label.result.now
    (subst (λ (n : ℕ). c.args.number.0 < n)
    (sym (count_labelled (λ (s : Sentence). s.label) st)) c.requires) c.label.ensures in
    rw there
    (one_line c.args.out.now.items c.label.result.now c.extend_from_slice.new.self.items
    c.push.new.self.items c.in_ok-extend_from_slice.ensures.items c.in_ok-push.ensures.items)
