-- All statements are passed, and their labels were offered.
use Rattle.std.proofs.Common.{ap, map}
use Rattle.mm_code.specs.Layout.{texts}
use Rattle.mm_text.specs.Files.{plain_file}
use Rattle.mm_text.proofs.PassedStatements.{all_taken}
use Rattle.mm_explain.proofs.NearestLabels.{all_offered}
use Rattle.mm_explain.proofs.label_suggestion.nearest_labels.Goals as goal

pub returns : goal.returns
returns c =
    let left = c.in-Ok.statements in
    let reads = c.in-Ok.ensures.unread.reads in
    let near = c.new-nearest.ensures in
    record {
      whole = λ readable. (
        left.statements,
        left.ending,
        reads,
        all_offered c.new-nearest.result c.pass_next.new.visitor.nearest _ left.statements
            c.args.label.now (ap (λ b. b.now) near.wanted) (ap (λ b. texts b.now) near.listed)
            (all_taken (map plain_file c.args.files.now) left.statements left.ending
            c.in-Ok.ensures.readable reads)
            c.in_ok-pass_next.ensures near.begun,
      );
      broken = λ rule breaks. absurd (c.in-Ok.ensures.readable rule breaks);
    }
