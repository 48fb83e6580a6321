use Rattle.std.proofs.Common.{Bool}
use Rattle.std.proofs.lemmas.Result.{IfOk-weaker}
use Rattle.mm_frame.specs.Sentence.{sentence_in}
use Rattle.mm_frame.specs.Mirror.Told.{IsTold}
use Rattle.mm_frame.proofs.Rules.RepeatedSymbols.{twice_told}
use Rattle.mm_frame.proofs.broken.repeats.Goals as goal

pub returns-then-is_list : goal.returns-then-is_list
returns-then-is_list c =
    let Q : Bool → Type 0 = λ r. IsTold r (sentence_in c.args.statement.now) in
    IfOk-weaker _ _ Q (λ r h. record { told = λ kind. twice_told c.args.statement.now.symbols.items r (rw c.deref.ensures.value at h) }) c.has_repeats.ensures
