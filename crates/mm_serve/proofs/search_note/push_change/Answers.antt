-- The line is made of four parts.
use Rattle.mm_serve.proofs.FilesRead.{four_parts}
use Rattle.mm_serve.proofs.search_note.push_change.Goals as goal

pub returns : goal.returns
returns c =
    four_parts c.push_decimal-2.result c.args.notes.now.items
    c.extend_from_slice.new.self.items c.push_decimal.new.out.items
    c.extend_from_slice-2.new.self.items _ _ _ _ _
    c.in_ok-extend_from_slice.ensures.items c.in_ok-push_decimal.ensures
    c.in_ok-extend_from_slice-2.ensures.items c.push_decimal-2.ensures
