use Rattle.std.proofs.Common.{◌≡◌, ap, sym, subst, ◌∙◌, map, length}
use Rattle.mm_frame.specs.Mirror.Stated.{stated_by, newest_of, IsLastSpan, IsLatestStated}
use Rattle.mm_frame.proofs.pairs.Pairs.latest.Goals as goal

pub returns : goal.returns
returns c =
    let spans = c.self.inside.spans.items in
    let stated : map stated_by spans ≡ c.args.self.now.stated.pairs = ap (λ t. t.stated.pairs)
    c.self.view_is in
    let items = c.deref.ensures.value in
    let newest : c.newest_of.result ≡ newest_of c.self.inside.near.items c.self.inside.newest c.args.pair =
    c.newest_of.ensures ∙ ap (λ near. newest_of near c.self.inside.newest c.args.pair) c.deref-2.ensures.value in
    let last : IsLastSpan spans (length spans) c.args.pair c.newest_of.result =
    subst (λ o. IsLastSpan spans (length spans) c.args.pair o) (sym newest) (c.self.invariant.last c.args.pair) in
    let there = subst (λ xs. IsLastSpan xs (length xs) c.args.pair c.newest_of.result) (sym items) last in
    subst (λ xs. IsLatestStated xs c.args.pair c.args.before c.latest_from.result) (ap (map stated_by) items ∙ stated) (c.latest_from.ensures c.args.pair there)
