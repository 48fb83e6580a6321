use Rattle.std.proofs.Common.{rules, ◌≡◌, length, refl, ◌∙◌, vec_len}
use Rattle.mm_listing.proofs.Machines.ListedLines.{lists_mark}
use Rattle.mm_listing.proofs.lines.ListerMachine.mark.Goals as goal

pub returns-clause-ran : goal.returns-clause-ran
returns-clause-ran g c first prefix allowed was =
    let lines = c.args.self.now.lines.now in
    let long : vec_len lines ≡ length lines.items = search rules in
    lists_mark g.S.Store.stack g.S.Store.kept first c.args.self.now _ prefix c.len-number.result was
    (c.in_ok-mark.ensures.ran first.judge prefix allowed.0 was.judged) refl refl
    c.in_ok-push.ensures.items (c.len-number.ensures ∙ long) refl
