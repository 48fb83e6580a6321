-- One statement more, with a label or without.
use Rattle.std.proofs.Common.{[], ◌∷◌, ◌++◌, sym, ◌∙◌, ap}
use Rattle.mm_base.specs.Statement.{plain_statement}
use Rattle.mm_verdict.proofs.Questions.TheoremsAgain.{plain_labelled}
use Rattle.mm_alike.specs.declared.homes.Home.{Home}
use Rattle.mm_alike.proofs.ProofWords.{homes_begun, homes_more, homes_passed, homes_whole}
use Rattle.mm_alike.proofs.homes.homes_of.Goals as goal

pub loop-statement-init : goal.loop-statement-init
loop-statement-init c =
    homes_begun c.args.checked.now.files c.in_ok-statements.statements c.new-homes.result.items
    c.in_ok-statements.ensures.unread c.in_ok-statements.ensures.faultless c.new-homes.ensures.items

pub loop-statement-preserved-in-Continue-branch-3 : goal.loop-statement-preserved-in-Continue-branch-3
loop-statement-preserved-in-Continue-branch-3 c =
    let next = rw c.if-branch.true at c.in_ok-more.ensures.on in
    homes_more c.args.checked.now.files c.loop-statement.statements c.more.new.self
    (plain_statement c.more.new.into) c.loop-statement.homes.items c.push.new.self.items
    c.loop-statement.invariant next
    (plain_labelled c.more.new.into.label ∙ sym c.is_some.ensures ∙ c.if-is_some.true)
    (c.in_ok-push.ensures.items
    ∙ ap (λ (h : Home). c.loop-statement.homes.items ++ h ∷ []) c.home_of.ensures)

pub loop-statement-preserved : goal.loop-statement-preserved
loop-statement-preserved c =
    let next = rw c.if-branch.true at c.in_ok-more.ensures.on in
    homes_passed c.args.checked.now.files c.loop-statement.statements c.more.new.self
    (plain_statement c.more.new.into) c.loop-statement.homes.items c.loop-statement.invariant next
    (plain_labelled c.more.new.into.label ∙ sym c.is_some.ensures ∙ c.if-is_some.false)

pub returns : goal.returns
returns c =
    let none = rw c.if-branch.false at c.in_ok-more.ensures.on in
    homes_whole c.args.checked.now.files c.loop-statement.statements c.more.new.self
    (plain_statement c.more.new.into) c.loop-statement.homes.items c.loop-statement.invariant none
