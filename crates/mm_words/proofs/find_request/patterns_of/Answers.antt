-- The pattern behind the command comes first, and then those behind `--and`.
use Rattle.std.proofs.Common.{refl}
use Rattle.mm_words.proofs.find_request.patterns_of.Goals as goal

pub returns : goal.returns
returns c =
    rw (
      c.in_ok-extend_from_slice.ensures.items,
      c.in_ok-push.ensures.items,
      c.new-patterns.ensures.items,
      c.deref.ensures.value,
      c.asked_word.ensures,
      c.in_ok-others.ensures,
    ) refl
