-- The files are those with the bytes.
use Rattle.std.proofs.Common.{map, ap, ◌∙◌}
use Rattle.mm_text.specs.Files.{plain_file}
use Rattle.mm_text.specs.Replaced.{with_bytes}
use Rattle.mm_rules.specs.Conclusion.{Conclusion}
use Rattle.mm_with_lemmas.proofs.judged.is_with_lemmas.Goals as goal

pub are_with_lemmas-requires : goal.are_with_lemmas-requires
are_with_lemmas-requires c =
    ap (map plain_file) c.deref.ensures.value ∙ c.in_ok-anew.ensures
    ∙ ap (λ (v : Conclusion). with_bytes v.files c.args.number c.args.bytes.now) c.old.view_is
