use Rattle.std.proofs.Common.{sym, ap, ◌∙◌, length, subst, true, List, length-set, arith}
use Rattle.std.specs.List.{AllByRecursion}
use Rattle.std.proofs.lemmas.List.{length-replicate}
use Rattle.mm_text.specs.declared.comments.Position.{Position}
use Rattle.mm_text.specs.Mirror.Position.{IsPosition}
use Rattle.mm_text.proofs.Inclusions.OpenFiles.{begins, room_at_begin, no_file}
use Rattle.mm_text.proofs.nest.Nest.begin.Goals as goal

pub returns : goal.returns
returns c =
    let e = c.in_ok-named.ensures.items_if_clones_equal (λ y h. h) in (
      record {
        position = c.begin.ensures.position;
        waits = subst (λ (l : List Position). AllByRecursion IsPosition l) (sym c.in_ok-open.ensures.items) tt;
        room = omega (arith, c.in_ok-open.ensures.len, c.in_ok-open.ensures.exact, room_at_begin c.args.files.now c.in_ok-named.named.items c.requires.some e);
        names = c.requires.names;
        named = length-set c.in_ok-named.named.items 0 true ∙ ap length e ∙ length-replicate _ _;
        small = c.requires.small;
        naming = tt;
      },
      begins c.args.files.now no_file c.in_ok-named.named.items c.begin.result c.in_ok-open.open.items c.requires.some e c.begin.ensures.bytes c.begin.ensures.file c.begin.ensures.at c.in_ok-open.ensures.items,
    )
