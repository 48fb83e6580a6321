use Rattle.std.proofs.Common.{not, ap, ◌∙◌}
use Rattle.mm_frame.specs.Pieces.{variables_of}
use Rattle.mm_frame.proofs.Frames.VariableIndices.{variables_counted, noted_longer, noted_by_some}
use Rattle.mm_frame.proofs.Frames.VariableIndices.{noted_by_none}
use Rattle.mm_frame.proofs.noted.NotedIndices.note_behind.Goals as goal

pub returns-then-is_none : goal.returns-then-is_none
returns-then-is_none c noted =
    let variables = variables_of c.args.before.now in
    let indices = c.make_room.new.self.indices.items in
    let longer = noted_longer c.args.self.now.indices.items indices variables c.in_ok-make_room.ensures.longer noted in
    rw (variables_counted c.args.before.now) at
    (noted_by_none indices variables c.args.variable.0 c.index_of.result (c.is_none.ensures ∙ ap not c.if-is_none.true) (c.index_of.ensures longer) c.in_ok-make_room.ensures.room longer)

pub returns-else-is_none : goal.returns-else-is_none
returns-else-is_none c noted =
    let longer = noted_longer _ _ _ c.in_ok-make_room.ensures.longer noted in
    noted_by_some _ _ _ c.index_of.result (c.is_none.ensures ∙ ap not c.if-is_none.false)
    (c.index_of.ensures longer) longer
