-- The parts of the line are written one after the other.
use Rattle.std.proofs.Common.{List, ℕ, ◌++◌, codes, decimal}
use Rattle.mm_verdict.specs.declared.watch.SoFar.{SoFar}
use Rattle.mm_serve.proofs.AnsweredWords.{beginning_both, breaks_before, breaks_both}
use Rattle.mm_serve.proofs.AnsweredWords.{on_failure, takes_both}
use Rattle.mm_serve.proofs.progress_line.say_line.Goals as goal

abbrev theorems : SoFar → List ℕ
theorems so_far = codes "\rmm: " ++ decimal so_far.theorems

abbrev of_all : SoFar → List ℕ
of_all so_far = codes " of " ++ decimal so_far.of

abbrev bytes : SoFar → List ℕ
bytes so_far = codes " theorems, " ++ decimal so_far.bytes

abbrev saved : List ℕ
saved = codes " bytes saved"

pub returns-in_err-say_number-clause-beginning : goal.returns-in_err-say_number-clause-beginning
returns-in_err-say_number-clause-beginning g c =
    let s = c.args.so_far in
    on_failure c.from_residual.result
    (breaks_before g.P.Write.contents (theorems s ++ of_all s ++ bytes s) saved _ _
    (breaks_before g.P.Write.contents (theorems s ++ of_all s) (bytes s) _ _
    (breaks_before g.P.Write.contents (theorems s) (of_all s) _ _
    c.in_err-say_number.ensures.beginning)))

pub returns-in_err-say_number-2-clause-beginning :
    goal.returns-in_err-say_number-2-clause-beginning
returns-in_err-say_number-2-clause-beginning g c =
    let s = c.args.so_far in
    on_failure c.from_residual-in_err-say_number-2.result
    (breaks_before g.P.Write.contents (theorems s ++ of_all s ++ bytes s) saved _ _
    (breaks_before g.P.Write.contents (theorems s ++ of_all s) (bytes s) _ _
    (breaks_both g.P.Write.contents (theorems s) (of_all s) _ c.say_number.new.device _
    c.in_ok-say_number.ensures.all c.in_err-say_number-2.ensures.beginning)))

pub returns-in_err-say_number-3-clause-beginning :
    goal.returns-in_err-say_number-3-clause-beginning
returns-in_err-say_number-3-clause-beginning g c =
    let s = c.args.so_far in
    on_failure c.from_residual-in_err-say_number-3.result
    (breaks_before g.P.Write.contents (theorems s ++ of_all s ++ bytes s) saved _ _
    (breaks_both g.P.Write.contents (theorems s ++ of_all s) (bytes s) _ c.say_number-2.new.device _
    (takes_both g.P.Write.contents (theorems s) (of_all s) _ c.say_number.new.device _
    c.in_ok-say_number.ensures.all c.in_ok-say_number-2.ensures.all)
    c.in_err-say_number-3.ensures.beginning))

pub returns-clause-beginning : goal.returns-clause-beginning
returns-clause-beginning g c =
    let s = c.args.so_far in
    beginning_both g.P.Write.contents (theorems s ++ of_all s ++ bytes s) saved c.say_text.result _
    c.say_number-3.new.device _
    (takes_both g.P.Write.contents (theorems s ++ of_all s) (bytes s) _ c.say_number-2.new.device _
    (takes_both g.P.Write.contents (theorems s) (of_all s) _ c.say_number.new.device _
    c.in_ok-say_number.ensures.all c.in_ok-say_number-2.ensures.all)
    c.in_ok-say_number-3.ensures.all) c.say_text.ensures.beginning
