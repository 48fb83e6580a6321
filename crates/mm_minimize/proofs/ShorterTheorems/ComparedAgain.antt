-- Fewer statements are left behind a theorem that is read again; and a shorter proof of it.
use Rattle.std.proofs.Common.{◌≡◌, ℕ, ◌<◌, List, [], ◌∷◌, ◌++◌, length}
use Rattle.std.proofs.Common.{Option, Some, None}
use Rattle.std.specs.Prelude.{IfSome}
use Rattle.std.proofs.Common.{ap, subst, ◌∙◌, arith}
use Rattle.std.proofs.Common.{length-append}
use Rattle.mm_base.specs.Statement.{PlainStatement, plain_statement}
use Rattle.mm_text.specs.Files.{PlainFile}
use Rattle.mm_text.specs.Reading.{Reads}
use Rattle.mm_frame.specs.Sentence.{sentence_of, IsLabelled}
use Rattle.mm_minimize.specs.declared.proof_pair.Compared.{Compared}
use Rattle.mm_verdict.specs.declared.theorem.Theorem.{Theorem}
use Rattle.mm_verdict.specs.declared.theorems.Rereading.{Rereading}
use Rattle.mm_rules.specs.Conclusion.{Conclusion}
use Rattle.mm_rules.specs.Verdict.{sentences}
use Rattle.mm_verdict.specs.Mirror.Rereading.{IsAtTheorem}
use Rattle.mm_verdict.specs.Mirror.Rereading.{IsReadTo}
use Rattle.mm_minimize.specs.Mirror.AllShortening.{AreCompared, IsShorterFor}
use Rattle.mm_render.specs.Mirror.Shortening.{AreHanded}
use Rattle.mm_verdict.specs.Mirror.Theorems.{AreProvedSteps, AreStepsOf}
use Rattle.mm_minimize.proofs.ShorterTheorems.ShorterProofs.{small_of}
use Rattle.mm_verdict.proofs.Verdicts.AcceptedStatements.{same_reading}
use Rattle.mm_verdict.proofs.Questions.TheoremsAgain.{s}

-- fewer statements are left
pub fewer_left : (files : List PlainFile) (taken between : List PlainStatement) (id : ℕ)
    (old new : Rereading) → IsReadTo files taken old → IsAtTheorem files (taken ++ between) id new
    → length new.statements.statements < length old.statements.statements
fewer_left files taken between id old new read there =
    let s : PlainStatement = plain_statement new.statement in
    let same = (same_reading files (taken ++ old.statements.statements)
    (((taken ++ between) ++ s ∷ []) ++ new.statements.statements) None None read.reads
    there.read.reads).0 in
    let count = ap length same in
    omega (
      arith,
      count,
      length-append taken old.statements.statements,
      length-append ((taken ++ between) ++ s ∷ []) new.statements.statements,
      length-append (taken ++ between) (s ∷ []),
      length-append taken between,
    )

-- ---- a shorter proof of it

pub compared_so : (c : Conclusion) (id : ℕ) (s : PlainStatement) (theorem : Theorem)
    (found : Option Compared) → theorem.id.0 ≡ id
    → ((statements : List PlainStatement) → Reads c.files statements None
    → c.sentences ≡ sentences statements)
    → AreProvedSteps c.sentences theorem.id.0 theorem.steps
    → ((label : List ℕ) → IsLabelled label (sentence_of s) → (statements : List PlainStatement)
    → Reads c.files statements None
    → AreStepsOf statements label theorem.id.0 theorem.steps.moves)
    → IfSome found (AreCompared c theorem) → IfSome found (IsShorterFor c id s)
compared_so c id s theorem None same told proved read h = tt
compared_so c id s theorem (Some both) same told proved read h = record {
  told = told;
  number = h.anew.number ∙ same;
  handed = subst (λ (n : ℕ). AreHanded c.profile c.sentences n both.new.theorem.steps
      both.new.used) same h.anew.handed;
  own_text = λ label named statements reads.
      small_of statements c.sentences label theorem both.own (told statements reads)
      (read label named statements reads) proved h.own;
  old = theorem;
  same = same;
  found = λ label named statements reads.
      h.found label statements reads (read label named statements reads);
}
