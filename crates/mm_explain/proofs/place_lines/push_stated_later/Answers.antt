-- The line, part by part.
use Rattle.std.proofs.Common.{◌∙◌, ◌++◌, ap, map}
use Rattle.mm_text.specs.Files.{plain_file}
use Rattle.mm_rules.specs.declared.position.Place.{Place}
use Rattle.mm_rules.specs.Places.{place_text}
use Rattle.mm_facts.proofs.DetailTexts.{three_parts}
use Rattle.mm_explain.proofs.place_lines.push_stated_later.Goals as goal

pub returns : goal.returns
returns c =
    three_parts _ _ _ _ _ _ _ c.in_ok-extend_from_slice.ensures.items
    (c.in_ok-push_place.ensures
    ∙ ap (λ (p : Place). c.extend_from_slice.new.self.items
    ++ place_text (map plain_file c.args.files.now) p) c.place_of.ensures)
    c.in_ok-push.ensures.items
