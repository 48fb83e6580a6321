use Rattle.std.proofs.Common.{◌≢◌, take}
use Rattle.std.specs.List.{AllByRecursion}
use Rattle.mm_help.proofs.help.page_with.Given as goal

-- No page so far is that of the command.
abbrev pub invariant-loop-page : goal.invariant-loop-page
invariant-loop-page l =
    AllByRecursion (λ page. page.command.now ≢ l.command) (take l.page-index l.pages)
