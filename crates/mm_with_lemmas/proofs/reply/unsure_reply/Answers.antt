-- Nothing is told but the note.
use Rattle.std.proofs.Common.{refl, ap, ◌∙◌}
use Rattle.mm_with_lemmas.specs.Reply.{unsure_note}
use Rattle.mm_with_lemmas.proofs.reply.unsure_reply.Goals as goal

pub returns : goal.returns
returns c = record {
  none = c.new.ensures.items;
  ends = refl;
  noted = c.in_ok-note.ensures ∙ ap unsure_note c.name_of.ensures;
}
