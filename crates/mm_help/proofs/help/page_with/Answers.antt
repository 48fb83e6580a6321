-- One more page is that of another command.
use Rattle.std.proofs.Common.{◌≢◌, sym, ◌∙◌}
use Rattle.mm_help.specs.declared.pages.Page.{Page}
use Rattle.mm_help.proofs.AskedCodes.{all_more, different}
use Rattle.mm_help.proofs.help.page_with.Goals as goal

pub loop-page-preserved : goal.loop-page-preserved
loop-page-preserved c =
    all_more (λ (page : Page). page.command.now ≢ c.args.command.now) c.args.pages.now
    c.loop-page.page-index _ c.loop-page-test.true c.loop-page.invariant
    (different _ c.args.command.now (sym c.eq.ensures ∙ c.if-eq.false))
