-- The statement is told, and the end of its block.
use Rattle.std.proofs.Common.{[], List, map, inl, inr, refl, sym, ap, ◌∙◌, append-nil}
use Rattle.std.proofs.lemmas.Option.{slice_get-get_or}
use Rattle.std.proofs.lemmas.Result.{on_ok_weaker}
use Rattle.mm_base.proofs.Lists.{one_there, zip_left}
use Rattle.mm_base.specs.Token.{plain_token}
use Rattle.mm_text.specs.Files.{PlainFile, plain_file}
use Rattle.mm_explain.specs.declared.outline.Brief.{Brief}
use Rattle.mm_explain.specs.Mirror.Outlined.{IsBrief}
use Rattle.mm_explain.proofs.HypothesisScopes.{scope_told}
use Rattle.mm_explain.proofs.scope.push_scope.Goals as goal

pub returns-in_ok-push_stated_at-in-Some : goal.returns-in_ok-push_stated_at-in-Some
returns-in_ok-push_stated_at-in-Some c =
    let files : List PlainFile = map plain_file c.args.files.now in
    let briefs : List Brief = c.args.briefs.now in
    let index = c.in-Some.index in
    on_ok_weaker c.push_end.result
    (λ told statements are.
    let (h, there, named) = c.in-Some.ensures.there statements are in
    let (end, ends, same) = c.block_end.ensures statements are in
    let (brief, at, is) = zip_left IsBrief statements briefs index h are there in
    let found = one_there briefs index _ brief
    (slice_get-get_or briefs index _ c.in-Some.ensures.within) at in (
      _,
      inr (index, h, there, named, end, ends, refl),
      scope_told files c.args.out.now.items c.push_stated_at.new.out.items
          c.push_end.new.out.items _ h.first _ end c.in_ok-push_stated_at-in-Some.ensures
          (ap (λ (b : Brief). plain_token b.first) found ∙ is.first) told same,
    ))
    c.push_end.ensures

pub returns-in-None : goal.returns-in-None
returns-in-None c = λ statements are. (
  [],
  inl (c.in-None.ensures.there statements are, refl),
  sym (append-nil c.args.out.now.items),
)
