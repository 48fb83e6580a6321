use Rattle.std.proofs.Common.{rules, ◌<◌, length}
use Rattle.mm_frame.proofs.BookLists.ReadLabels.{label_known}
use Rattle.mm_frame.proofs.reads.is_label.Goals as goal

pub returns : goal.returns
returns c =
    let t = c.args.tables.now in
    let known = label_known t c.args.id.0 c.requires in
    ((λ is. known.0 (search rules)), (λ number. let lt : c.args.id.0 < length t.named.items = known.1 number in search rules))
