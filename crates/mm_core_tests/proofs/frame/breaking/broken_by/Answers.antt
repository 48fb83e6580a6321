-- A statement that is refused breaks the rule that is told.
use Rattle.std.proofs.Common.{◌≡◌, Ok, Err}
use Rattle.mm_frame.specs.declared.answer.RuleFault.TheVariants.{Rule}
use Rattle.mm_core_tests.proofs.frame.breaking.broken_by.Goals as goal

pub breaking_symbol-requires-clause-broken : goal.breaking_symbol-requires-clause-broken
breaking_symbol-requires-clause-broken c =
    let refused : c.take.result ≡ Ok (Err (Rule c.in-Err-Rule.rule)) =
    (let was = c.in_ok-take.is in let rule = c.in-Err-Rule.is in
    let field = c.in-Err-Rule.field-0-is in let told = c.in-Err-Rule.rule-is in cc) in
    c.take.ensures c.in-Err-Rule.rule refused
