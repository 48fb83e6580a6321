use Rattle.std.proofs.Common.{◌≡◌, length, sym, subst, ◌∙◌, All}
use Rattle.std.proofs.lemmas.List.{length-map}
use Rattle.mm_listing.specs.Mirror.StepUses.{IsAmong, sources_of}
use Rattle.mm_listing.proofs.Machines.StepUses.{roots_among}
use Rattle.mm_listing.proofs.uses.used_steps.Goals as goal

pub sources_at-requires : goal.sources_at-requires
sources_at-requires c = rw (c.deref.ensures.value, c.deref-2.ensures.value) c.requires.among

pub invariant_of-result : goal.invariant_of-result
invariant_of-result c =
    let sources = c.args.links.sources.items in
    let origins = c.args.links.origins.items in
    let uses = c.args.links.uses in
    let many : length uses.items ≡ length sources =
    sym (length-map uses.items (λ l. l.items)) ∙ c.requires.long in
    let roots : c.in_ok-roots.roots.items ≡ sources_of sources origins =
    rw (c.deref.ensures.value, c.deref-2.ensures.value) at c.in_ok-roots.ensures in
    record {
      earlier = c.requires.earlier;
      rooted = subst (λ n. All (IsAmong n) c.in_ok-roots.roots.items) (sym many)
          (subst (All (IsAmong (length sources))) (sym roots)
          (roots_among sources origins c.requires.no_later c.requires.among));
    }
