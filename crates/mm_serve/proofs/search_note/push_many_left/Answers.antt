-- The line is made of three parts.
use Rattle.mm_serve.proofs.FilesRead.{three_parts}
use Rattle.mm_serve.proofs.search_note.push_many_left.Goals as goal

pub returns : goal.returns
returns c =
    three_parts c.extend_from_slice-2.result c.args.notes.now.items
    c.extend_from_slice.new.self.items c.push_decimal.new.out.items _ _ _ _
    c.in_ok-extend_from_slice.ensures.items c.in_ok-push_decimal.ensures
    c.extend_from_slice-2.ensures.items
