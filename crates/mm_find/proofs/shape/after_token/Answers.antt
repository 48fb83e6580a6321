-- By whether the token is `$*`.
use Rattle.std.proofs.Common.{◌≡◌, ◌∙◌, ℕ, List, [], ◌∷◌, ◌++◌, Bool, codes, sym, subst, false}
use Rattle.std.proofs.lemmas.Bool.{false≢true}
use Rattle.std.proofs.lemmas.Result.{IfOk-weaker}
use Rattle.std.proofs.lemmas.Slice.Eq.{bytes_eq-Decides}
use Rattle.mm_code.specs.Layout.{texts}
use Rattle.mm_find.specs.Mirror.Marks.{AreMarks, spread}
use Rattle.mm_find.proofs.Shapes.{marks_long, shifted_are_marks, spread_are_marks}
use Rattle.mm_find.proofs.shape.after_token.Goals as goal

pub after_one-requires : goal.after_one-requires
after_one-requires c = marks_long c.requires.0 c.args.symbols.now c.args.marks.now c.requires.1

pub returns-then-eq : goal.returns-then-eq
returns-then-eq c =
    let same : c.args.token.now ≡ codes "$*" = (bytes_eq-Decides _ _).0
    (sym c.eq.ensures ∙ c.if-eq.true) in
    IfOk-weaker c.after_any.result _ _
    (λ next is shape are.
    subst (λ (ms : List Bool). AreMarks (shape ++ c.args.token.now ∷ []) []
    (texts c.args.symbols.now) ms) (sym is)
    (subst (λ (t : List ℕ). AreMarks (shape ++ t ∷ []) [] (texts c.args.symbols.now)
    (spread false c.args.marks.now)) (sym same)
    (spread_are_marks shape (texts c.args.symbols.now) c.args.marks.now are)))
    c.after_any.ensures

pub returns-else-eq : goal.returns-else-eq
returns-else-eq c =
    let other : ¬ (c.args.token.now ≡ codes "$*") =
    λ same. false≢true (sym c.if-eq.false ∙ c.eq.ensures ∙ (bytes_eq-Decides _ _).1 same) in
    IfOk-weaker c.after_one.result _ _
    (λ next is shape are.
    subst (λ (ms : List Bool). AreMarks (shape ++ c.args.token.now ∷ []) []
    (texts c.args.symbols.now) ms) (sym is)
    (shifted_are_marks shape c.args.token.now other (texts c.args.symbols.now) c.args.marks.now
    are))
    c.after_one.ensures
