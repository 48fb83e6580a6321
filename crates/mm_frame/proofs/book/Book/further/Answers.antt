-- What is found among the tables says more than mandatory pairs.
use Rattle.std.proofs.Common.{◌≡◌, List, ap, sym, subst}
use Rattle.std.proofs.lemmas.Result.{IfOk-weaker}
use Rattle.mm_frame.specs.Database.{Database}
use Rattle.mm_frame.specs.Form.{IsSound}
use Rattle.mm_frame.specs.Numbers.{IsNumbered}
use Rattle.mm_frame.specs.Pieces.{variables_of}
use Rattle.mm_frame.specs.Sentence.{Sentence}
use Rattle.mm_frame.specs.Mirror.Further.{AreFoundFurther}
use Rattle.mm_frame.specs.Mirror.Layout.{statements_of}
use Rattle.mm_frame.proofs.Frames.FurtherDistinct.{further_found}
use Rattle.mm_frame.proofs.book.Book.further.Goals as goal

pub returns : goal.returns
returns c =
    let st = c.args.self.now.statements in
    let is : statements_of c.self.inside.tables ≡ st =
    ap (λ (b : Database). b.statements) c.self.view_is in
    let variables = variables_of c.hypotheses-hypotheses.result.now in
    IfOk-weaker c.find_further.result _ _
    (λ indices found index s numbered asserts.
    let at = c.label_index.ensures index s
    (subst (λ (ss : List Sentence). IsNumbered ss c.args.id.0 index s) (sym is) numbered) in
    further_found st c.args.id.0 index s c.hypotheses-hypotheses.result.now indices.items
    (subst IsSound is c.self.invariant.sound) numbered asserts
    (c.hypotheses-hypotheses.ensures.ids index s numbered asserts)
    (c.hypotheses-hypotheses.ensures.typed index s numbered asserts)
    (subst (λ n. AreFoundFurther st variables n n indices.items) at
    (subst (λ (ss : List Sentence). AreFoundFurther ss variables c.label_index.result c.label_index.result indices.items) is found)))
    c.find_further.ensures
