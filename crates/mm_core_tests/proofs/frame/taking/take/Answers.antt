-- A refused statement breaks the rule after those in the book, which is as it was.
use Rattle.std.proofs.Common.{◌≡◌, Err, OnErr, subst}
use Rattle.mm_frame.specs.declared.answer.RuleFault.TheVariants.{Rule}
use Rattle.mm_core_tests.proofs.frame.taking.take.Goals as goal

pub returns : goal.returns
returns c rule is =
    let refused : c.take.result ≡ Err (Rule rule) = (let answered = is in cc) in
    let same = subst (λ r. OnErr r (c.take.new.self ≡ c.args.book.now)) refused c.take.ensures.unchanged in
    rw same (c.take.ensures.rule rule refused)
