use Rattle.std.proofs.Common.{rules, ◌≡◌, ◌+◌, length, Err, ap, subst, ◌∙◌, vec_len, not, ◌||◌}
use Rattle.std.proofs.Common.{get_or, [], false, take}
use Rattle.std.proofs.lemmas.Result.{err_from_is_err_and}
use Rattle.mm_frame.proofs.Names.LabelNumbers.{numbered_unique}
use Rattle.mm_listing.specs.Uses.{AreRoots, rows_of}
use Rattle.mm_proof.specs.Mirror.CodeSteps.{code_moves}
use Rattle.mm_step.specs.Mirror.Sites.{CodeSite}
use Rattle.mm_listing.specs.Mirror.StepUses.{AreUsesAt, sources_of}
use Rattle.mm_proof.proofs.ProofVerdicts.JudgedMoves.{wrong_end, wrong_move, on_rule_from}
use Rattle.mm_listing.proofs.Machines.ListedEnd.{lists_end}
use Rattle.mm_listing.proofs.Machines.ToldLines.{lines_unless}
use Rattle.mm_listing.proofs.Machines.ProofHalts.{meant_before, made_before}
use Rattle.mm_listing.proofs.Machines.StepUses.{made_among, rows_long, roots_at}
use Rattle.mm_listing.proofs.uses.links_in_frame.Goals as goal

pub link_codes-requires-clause-meant : goal.link_codes-requires-clause-meant
link_codes-requires-clause-meant g c =
    let same = ap (λ (t : CodeSite). t.site) c.table.view_is in
    let own = rw same at c.expression-expression.ensures.site in
    meant_before c.args.table.now.site own

pub link_codes-requires-clause-usable : goal.link_codes-requires-clause-usable
link_codes-requires-clause-usable g c =
    let same = ap (λ (t : CodeSite). t.site) c.table.view_is in
    let own = rw same at c.expression-expression.ensures.site in
    made_before c.args.table.now.site _ own c.requires.steps

pub returns-in_err-links-clause-fault : goal.returns-in_err-links-clause-fault
returns-in_err-links-clause-fault g c =
    let same = ap (λ (t : CodeSite). t.site) c.table.view_is in
    let own = rw same at c.expression-expression.ensures.site in
    let p = err_from_is_err_and c.from_residual.result c.from_residual.ensures.1 in
    rw (p.1, p.2) (on_rule_from c.in_err-links.field-0.0 _ (λ rule at is.
    wrong_move _ _ _ _ own.s _ rule at own.proof.numbered
    (λ names numbered. c.link_codes.ensures.fault rule at (c.in_err-links.was ∙ ap Err is) names
    numbered)))

pub returns-in_err-ending-clause-fault : goal.returns-in_err-ending-clause-fault
returns-in_err-ending-clause-fault g c =
    let same = ap (λ (t : CodeSite). t.site) c.table.view_is in
    let own = rw same at c.expression-expression.ensures.site in
    let symbols = rw same at c.expression-expression.ensures.symbols in
    let p = err_from_is_err_and c.from_residual-in_err-ending.result
    c.from_residual-in_err-ending.ensures.1 in
    let lines = c.in_ok-links.links.lines in
    let long : vec_len lines ≡ length lines.items = search rules in
    rw (p.1, p.2) (on_rule_from c.in_err-ending.field-0.0 _ (λ rule at is.
    wrong_end _ _ _ _ own.s _ _ _ _ _ rule at c.one_number.ensures own.proof.numbered symbols
    c.in_ok-links.ensures.run
    (let told = c.ending.ensures.fault rule at (c.in_err-ending.was ∙ ap Err is) in
    (told.0 ∙ ap (λ n. n + 1) (c.len.ensures ∙ long), told.1))))

pub used_steps-requires-clause-among : goal.used_steps-requires-clause-among
used_steps-requires-clause-among g c =
    let site = c.args.table.now.site in
    made_among site.limit site.statements site.index _ c.in_ok-links.links.sources.items
    c.in_ok-links.ensures.sources.0 (c.requires.steps.moves, c.requires.steps.numbered) _
    c.in_ok-links.links.origins.items c.in_ok-links.ensures.origins

pub used_steps-requires-clause-long : goal.used_steps-requires-clause-long
used_steps-requires-clause-long g c =
    let site = c.args.table.now.site in
    rows_long site.limit site.statements site.index _ c.in_ok-links.links.sources.items
    c.in_ok-links.ensures.sources.0 (c.requires.steps.moves, c.requires.steps.numbered)
    c.args.essential _ c.in_ok-links.ensures.uses.0

pub used_steps-requires-clause-no_later : goal.used_steps-requires-clause-no_later
used_steps-requires-clause-no_later g c = c.in_ok-links.ensures.sources.1

pub used_steps-requires-clause-earlier : goal.used_steps-requires-clause-earlier
used_steps-requires-clause-earlier g c = c.in_ok-links.ensures.uses.1

pub returns-clause-linked : goal.returns-clause-linked
returns-clause-linked g c index s moves proof numbered =
    let same = ap (λ (t : CodeSite). t.site) c.table.view_is in
    let site = c.args.table.now.site in
    let own = rw same at c.expression-expression.ensures.site in
    let symbols = rw same at c.expression-expression.ensures.symbols in
    let here = (numbered_unique site.statements site.number site.index index own.s s
    own.proof.numbered proof.numbered).0 in
    let l = lists_end _ _ _ _ own.s _ _ _ _ _
    (λ step. not c.args.essential || get_or [] step false) _ own.proof.numbered symbols
    c.in_ok-links.ensures.run c.in_ok-ending.ensures.ok c.in_ok-links.ensures.lines index s moves
    proof numbered in
    let uses = subst (λ p. AreUsesAt c.args.essential site.statements p
    (code_moves c.args.table.now.ids c.args.codes.now) (rows_of c.in_ok-links.links.uses.items))
    here c.in_ok-links.ensures.uses.0 in
    let rooted = subst (λ p. AreRoots (take p site.statements) moves
    (sources_of c.in_ok-links.links.sources.items c.in_ok-links.links.origins.items)) here
    (roots_at site.limit site.statements site.index _ _ _ _ c.in_ok-links.links.origins.items
    c.in_ok-links.links.sources.items c.in_ok-links.ensures.run c.in_ok-links.ensures.origins
    c.in_ok-links.ensures.sources.0 moves numbered) in
    let used = c.in_ok-used_steps.ensures in
    rw (used.0, used.1, used.2) (
      l.0,
      (lines_unless c.args.essential _ _ moves _ l.1, uses moves numbered, rooted),
    )
