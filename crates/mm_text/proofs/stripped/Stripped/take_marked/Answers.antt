use Rattle.std.proofs.Common.{sym, ◌∙◌}
use Rattle.mm_text.proofs.Alike.StrippedFiles.{both_told, mark_left_out_so}
use Rattle.mm_text.proofs.stripped.Stripped.take_marked.Goals as goal

pub returns-then-byte-ne41 : goal.returns-then-byte-ne41
returns-then-byte-ne41 c =
    both_told c.leave_out.result _ _ _ c.leave_out.ensures.kept c.leave_out.ensures.state (λ kept state bytes stripped.
    mark_left_out_so bytes c.args.self.now.kept.items c.leave_out.new.self.kept.items c.args.self.now.state c.leave_out.new.self.state c.args.last c.args.byte
    (sym c.is_quiet.ensures ∙ c.if-is_quiet.true) c.if-byte-ne40.true c.if-byte-ne41.true c.requires kept state stripped)
