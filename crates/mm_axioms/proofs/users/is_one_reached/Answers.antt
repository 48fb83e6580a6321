-- One more number isn't reached.
use Rattle.std.proofs.Common.{◌≤◌, List, map, length, get_or, Contains, sym, subst}
use Rattle.std.proofs.lemmas.List.{take_all}
use Rattle.std.proofs.lemmas.Option.{slice_get-get_or}
use Rattle.mm_frame.specs.declared.number.LabelId.{LabelId}
use Rattle.mm_axioms.proofs.Resting.UsersOf.{none_next}
use Rattle.mm_axioms.proofs.users.is_one_reached.Goals as goal

pub loop-number-preserved : goal.loop-number-preserved
loop-number-preserved c =
    let numbers : List LabelId = c.args.numbers.now in
    let x : LabelId = get_or numbers c.loop-number.number-index (record { 0 = 0 }) in
    let at = slice_get-get_or numbers c.loop-number.number-index (record { 0 = 0 }) c.loop-number-test.true in
    none_next c.args.marks.now c.args.assertion.0 numbers c.loop-number.number-index x c.loop-number.invariant at
    (λ reached. absurd (let t = c.is_reached.ensures.1 reached in let f = c.if-is_reached.false in cc))

pub returns-clause-all : goal.returns-clause-all
returns-clause-all c = λ n among reached.
    let numbers : List LabelId = c.args.numbers.now in
    let all : length numbers ≤ c.loop-number.number-index = c.loop-number-test.false in
    absurd (c.loop-number.invariant n (subst (λ (xs : List LabelId). Contains (map (λ (l : LabelId). l.0) xs) n) (sym (take_all c.loop-number.number-index numbers all)) among) reached)
