-- Type codes by number: whether two statements have one, and what of a report is of one.
use Rattle.std.proofs.Common.{◌≡◌, ℕ, ◌<◌, List, [], ◌∷◌, map, length, slice_get, Option, Some}
use Rattle.std.proofs.Common.{None, Bool, true, false, refl, sym, ap, subst, ◌∙◌}
use Rattle.std.specs.List.{AllByRecursion}
use Rattle.std.proofs.lemmas.Option.{same_Some}
use Rattle.mm_base.proofs.Lists.{all_within}
use Rattle.mm_base.specs.Statement.{PlainStatement}
use Rattle.mm_frame.specs.declared.number.Sym.{Sym}
use Rattle.mm_frame.specs.Numbers.{labelled_sentences, symbols_of, IsNumberOf, AreNumbers}
use Rattle.mm_frame.specs.Rules.{AllMeant}
use Rattle.mm_frame.specs.Sentence.{Sentence}
use Rattle.mm_frame.proofs.Names.LabelNumbers.{numbered_get, numbered_some, numbered_unique}
use Rattle.mm_frame.proofs.Names.LabelNumbers.{numbered_within}
use Rattle.mm_frame.proofs.Names.NameNumbers.{symbols_unique}
use Rattle.mm_rules.specs.Rests.{IsNamed, IsReport}
use Rattle.mm_rules.specs.Verdict.{sentences, is_proof}
use Rattle.mm_axioms.specs.Essential.{HasType, HaveOneType, AreOfType, AreTold}
use Rattle.mm_axioms.specs.Essential.{IsEssentialReport}
use Rattle.mm_axioms.specs.Mirror.Codes.{IsCodeOf, AreNumbersWithin}
use Rattle.mm_axioms.proofs.Resting.RestsOn.{named_once}
use Rattle.mm_verdict.proofs.Questions.AskedTheorems.{all_among}

-- the number of the first symbol
pub code_at : (st : List Sentence) (ns : List Sym) (symbols : List (List ℕ))
    → AreNumbers st (map (λ n. n.0) ns) symbols → IsCodeOf st symbols (slice_get ns 0)
code_at st [] [] h = refl
code_at st (n ∷ ns) (x ∷ xs) h = (x, refl, cc)
code_at st _ _ h = absurd cc

-- what is told of the type code of the statement with a number
abbrev pub TellsCode : List Sentence → ℕ → Option Sym → Type 0
TellsCode st id code = (s : Sentence) → slice_get (labelled_sentences st) id ≡ Some s
    → IsCodeOf st s.symbols code

pub no_code : (st : List Sentence) (id : ℕ) → TellsCode st id None → (x : List ℕ)
    → ¬ (HasType st x id)
no_code st id told x (index, s, numbered, first) =
    let none = told s (numbered_get st id index s numbered) in absurd cc

pub one_code : (st : List Sentence) (id : ℕ) (code : Sym) → id < length (labelled_sentences st)
    → TellsCode st id (Some code)
    → (x : List ℕ) × HasType st x id × IsNumberOf st x code.0
one_code st id code less told =
    let (index, s, numbered) = numbered_some st id less in
    let (x, first, number) = told s (numbered_get st id index s numbered) in
    (x, (index, s, numbered, first), number)

type_once : (st : List Sentence) (id : ℕ) (x y : List ℕ) → HasType st x id → HasType st y id → x ≡ y
type_once st id x y (p, s, one, first) (q, t, other, second) =
    let same : s ≡ t = (numbered_unique st id p q s t one other).1 in
    same_Some x y (sym first ∙ ap (λ (u : Sentence). slice_get u.symbols 0) same ∙ second)

-- two statements have one type code where its numbers are one
pub one_type : (st : List Sentence) (a b : ℕ) (c d : Sym) → a < length (labelled_sentences st)
    → b < length (labelled_sentences st)
    → TellsCode st a (Some c) → TellsCode st b (Some d) → c.0 ≡ d.0 → HaveOneType st a b
one_type st a b c d within less one other same =
    let (x, has, number) = one_code st a c within one in
    let (y, also, symbol) = one_code st b d less other in
    let equal : x ≡ y = same_Some x y
    (sym number ∙ ap (λ (n : ℕ). slice_get (symbols_of st) n) same ∙ symbol) in
    (x, has, subst (λ (z : List ℕ). HasType st z b) (sym equal) also)

pub type_one : (st : List Sentence) (a b : ℕ) (c d : Sym) → a < length (labelled_sentences st)
    → b < length (labelled_sentences st)
    → TellsCode st a (Some c) → TellsCode st b (Some d) → HaveOneType st a b → c.0 ≡ d.0
type_one st a b c d within less one other (z, first, second) =
    let (x, has, number) = one_code st a c within one in
    let (y, also, symbol) = one_code st b d less other in
    let p : x ≡ z = type_once st a x z has first in
    let q : y ≡ z = type_once st b y z also second in
    symbols_unique st c.0 d.0 x number
    (subst (λ (w : List ℕ). IsNumberOf st w d.0) (q ∙ sym p) symbol)

-- ---- in the words of the statements

pub essential_told : (statements : List PlainStatement) (label : List ℕ) (st : List Sentence)
    (id : ℕ) (axioms unproved some : List ℕ) → st ≡ sentences statements
    → AllMeant (sentences statements) → IsNamed statements label (λ s. is_proof s ≡ true) id
    → IsReport statements label axioms unproved → AreOfType st id axioms some
    → IsEssentialReport statements label some unproved
essential_told statements label st id axioms unproved some same all named report one =
    let number : id ≡ report.id =
    named_once statements label id report.id all named report.theorem in
    record {
      all_axioms = axioms;
      report = report;
      are_axioms = subst (λ (n : ℕ). AreOfType (sentences statements) n axioms some) number
          (subst (λ (ss : List Sentence). AreOfType ss id axioms some) same one);
    }

-- the numbers of a report's axioms are those of labels
pub axioms_within : (statements : List PlainStatement) (label axioms unproved : List ℕ)
    → IsReport statements label axioms unproved
    → AreNumbersWithin (length (labelled_sentences (sentences statements))) axioms
axioms_within statements label axioms unproved report = record {
  rising = report.are_axioms.rising;
  within = λ n among.
      let (index, s, at, holds) = ((report.are_axioms.each n).0 among).0 in
      numbered_within (sentences statements) n index _ at.numbered;
}

-- those that are told of them are, too
pub told_within : (essential : Bool) (st : List Sentence) (id : ℕ) (axioms told : List ℕ)
    (count : ℕ) → AreTold essential st id axioms told → AllByRecursion (λ n. n < count) axioms
    → AllByRecursion (λ n. n < count) told
told_within true st id axioms told count are within =
    all_within (λ n. n < count) told
    (λ n h. all_among (λ m. m < count) axioms n within ((are.each n).0 h).0)
told_within false st id axioms told count are within =
    subst (λ (ns : List ℕ). AllByRecursion (λ n. n < count) ns) (sym are) within
