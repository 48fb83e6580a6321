-- The first moves of a whole proof make a row of trees.
use Rattle.std.proofs.Common.{ℕ, List, [], drop, subst, sym, take}
use Rattle.std.proofs.lemmas.List.{take-append-drop}
use Rattle.mm_frame.specs.Sentence.{Sentence}
use Rattle.mm_step.specs.Moves.{Move, Makes}
use Rattle.mm_step.specs.Tree.{none, tree}
use Rattle.mm_step.proofs.ProofSteps.Derivations.{makes_split}
use Rattle.mm_core_tests.proofs.proof.forms.begun.Goals as goal

pub expand_beginning-requires-clause-makes : goal.expand_beginning-requires-clause-makes
expand_beginning-requires-clause-makes c = λ index s moves proof numbered.
    let before : List Sentence = take index c.args.theorem.now.book.statements in
    let t = c.in_ok-steps.ensures.makes index s moves proof numbered in
    let front : List (Move (List ℕ)) = take c.args.count moves in
    let left : List (Move (List ℕ)) = drop c.args.count moves in
    let whole = subst (λ (ms : List (Move (List ℕ))).
    Makes before ms none [] (tree t.0 t.1 none) t.2.kept)
    (sym (take-append-drop c.args.count moves)) t.2.made in
    let made = makes_split before front left none (tree t.0 t.1 none) [] t.2.kept whole in
    (made.0, record { kept = made.1; made = made.2 })
