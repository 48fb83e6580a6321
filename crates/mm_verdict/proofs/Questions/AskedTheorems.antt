-- From what is kept, by number, to the theorem that is asked for and to the steps of its proof.
use Rattle.std.proofs.Common.{◌≡◌, ◌≢◌, ◌↔◌, ℕ, ◌<◌, List, [], take, length}
use Rattle.std.proofs.Common.{slice_get, Contains, Bool, true, false, not}
use Rattle.std.proofs.Common.{◌&&◌, Some, inl, inr, refl, sym, ap, subst, ◌∙◌, ◌≤◌}
use Rattle.std.proofs.Common.{Result, Ok, Err, IfErr, ◌⊎◌}
use Rattle.std.specs.List.{AllByRecursion}
use Rattle.std.proofs.lemmas.Bool.{cases_lt}
use Rattle.std.proofs.lemmas.List.{take-map}
use Rattle.mm_base.specs.declared.statement.Kind.{Kind}
use Rattle.mm_base.specs.declared.statement.Kind.TheVariants.{Axiom, Provable}
use Rattle.mm_base.specs.Statement.{PlainStatement, is_provable}
use Rattle.mm_frame.specs.declared.number.LabelKind.{LabelKind}
use Rattle.mm_frame.specs.Taken.{kind_behind}
use Rattle.mm_frame.specs.Sentence.{Sentence, IsHypothesis, sentence_of, IsLabelled}
use Rattle.mm_frame.specs.Rules.{AllMeant}
use Rattle.mm_frame.specs.Numbers.{labelled_sentences, IsNumbered}
use Rattle.mm_base.proofs.Lists.{at_from_contains, contains_from_at, all_at}
use Rattle.mm_frame.proofs.Names.LabelNumbers.{numbered_get, numbered_some, numbered_unique}
use Rattle.mm_frame.proofs.Names.LabelNumbers.{numbered_within}
use Rattle.mm_frame.proofs.Rules.ObeyedRules.{allmeant_prefix}
use Rattle.mm_frame.proofs.Names.NameNumbers.{get_unmapped}
use Rattle.mm_step.specs.Tree.{Trees, none as no_trees}
use Rattle.mm_proof.specs.Proof.{IsProved, IsProvedWithin, Prove}
use Rattle.mm_step.specs.Proof.{IsWithin}
use Rattle.mm_proof.specs.Used.{IsUsedNumber}
use Rattle.mm_proof.proofs.ProofTokens.SaidMoves.{moves_once}
use Rattle.mm_step.proofs.ProofSteps.Derivations.{makes_once, zip_once}
use Rattle.mm_proof.specs.Tokens.{is_incomplete}
use Rattle.mm_rules.specs.Conclusion.{Conclusion, ProofUses, numbers_of, labels_in}
use Rattle.mm_rules.specs.Verdict.{sentences, proof_of, is_proof, is_unproved}
use Rattle.mm_rules.specs.Rests.{IsAt, IsNumberWhere, AreInOrder, tree_of, HasTree, Uses, AreUses}
use Rattle.mm_rules.specs.Rests.{RestsOn, IsNamed, IsReport}
use Rattle.mm_rules.specs.Answer.{IsKeptOf}
use Rattle.mm_rules.specs.Mirror.Marks.{IsMarked, UsedIn, AreBackward, IsAxiomNumber}
use Rattle.mm_rules.proofs.Numbers.{count_labelled, in_order_same}
use Rattle.mm_verdict.proofs.Verdicts.StatementByStatement.{Spells, AreUsesOf}
use Rattle.std.specs.Result.{IsOkUnless}
use Rattle.std.proofs.lemmas.Option.{same_Some}
use Rattle.mm_step.specs.declared.profile.Profile.{Profile}
use Rattle.mm_step.specs.declared.fault.ProofRule.{ProofRule}
use Rattle.mm_step.specs.declared.fault.ExpandFault.{ExpandFault}
use Rattle.mm_step.specs.Profiles.{limit_of}
use Rattle.mm_step.specs.Moves.{Move}
use Rattle.mm_proof.specs.Strict.{IsTextFault}
use Rattle.mm_proof.specs.UnderProfile.{IsProvedUnder}
use Rattle.mm_proof.specs.ReadSteps.{ReadSteps}
use Rattle.mm_step.specs.Steps.{IsNumberedMove}
use Rattle.mm_proof.specs.Verified.{OfMoves}
use Rattle.mm_step.proofs.ByNumbers.OneIndex.{one_index}
use Rattle.mm_proof.proofs.ProofNumbers.NumberedLabels.{one_move}
use Rattle.mm_verdict.specs.Mirror.Theorems.{IsProofOf, SayStepsOf, AreProvedSteps, AreStepsOf}
use Rattle.mm_frame.specs.declared.number.LabelKind.TheVariants as label_kinds
use Rattle.mm_step.specs.declared.fault.ExpandFault.TheVariants as expand

-- ==== from what is kept, by number, to the statements of which it is kept

-- ---- numbers of what statements say, and of statements

pub numbered_as : (statements : List PlainStatement) (id index : ℕ) (t : Sentence) → IsNumbered (sentences statements) id index t
    → (s : PlainStatement) × IsAt statements id index s × (sentence_of s ≡ t)
numbered_as statements id index t numbered =
    let (s, there, said) = get_unmapped sentence_of statements index t numbered.there in
    (s, record { there = there; numbered = rw (← said) at numbered }, said)

pub at_unique : (statements : List PlainStatement) (id p q : ℕ) (s t : PlainStatement) → IsAt statements id p s → IsAt statements id q t → (p ≡ q) × (s ≡ t)
at_unique statements id p q s t one other =
    let index : p ≡ q = (numbered_unique _ id p q _ _ one.numbered other.numbered).0 in
    (index, cc (index, one.there, other.there))

-- ---- the theorem with a label

-- a statement by its number, its label and its kind
named_as : (statements : List PlainStatement) (label : List ℕ) (P : PlainStatement → Type 0) (id index : ℕ) (t : Sentence) → IsNumbered (sentences statements) id index t → IsLabelled label t
    → ((s : PlainStatement) → IsAt statements id index s → s.kind ≡ t.kind → P s) → IsNamed statements label P id
named_as statements label P id index t numbered labelled_sentences holds =
    let (s, at, said) = numbered_as statements id index t numbered in
    let kind = ap (λ (u : Sentence). u.kind) said in
    (index, s, at, (rw (← said) at labelled_sentences, holds s at kind))

-- one statement has the number
same_proof : (statements : List PlainStatement) (test : PlainStatement → Bool) (id index : ℕ) (s : PlainStatement) → IsAt statements id index s
    → IsNumberWhere statements (λ t. test t ≡ true) id → test s ≡ true
same_proof statements test id index s at other =
    let same : s ≡ other.1 = (at_unique statements id index other.0 s other.1 at other.2).1 in
    ap test same ∙ other.3

pub proof_or_not : (kind : Kind) (incomplete : Bool) → kind ≡ Provable → ¬ ((is_provable kind && incomplete) ≡ true) → (is_provable kind && not incomplete) ≡ true
proof_or_not kind false e h = rw e refl
proof_or_not kind true e h = absurd (h (rw e refl))

pub found_theorem : (statements : List PlainStatement) (c : Conclusion) (label : List ℕ) (id index : ℕ) (t : Sentence) → IsKeptOf statements c → IsNumbered c.sentences id index t → IsLabelled label t
    → t.kind ≡ Provable → ¬ (Contains c.incomplete id) → IsNamed statements label (λ s. is_proof s ≡ true) id
found_theorem statements c label id index t kept numbered labelled_sentences provable complete =
    named_as statements label (λ s. is_proof s ≡ true) id index t
    (subst (λ (ss : List Sentence). IsNumbered ss id index t) kept.sentences numbered) labelled_sentences
    (λ s at kind. proof_or_not s.kind (is_incomplete (proof_of s)) (kind ∙ provable)
    (λ unproved. complete ((kept.incomplete.each id).1 (index, s, at, unproved))))

pub found_incomplete : (statements : List PlainStatement) (c : Conclusion) (label : List ℕ) (id index : ℕ) (t : Sentence) → IsKeptOf statements c → IsNumbered c.sentences id index t → IsLabelled label t
    → Contains c.incomplete id → IsNamed statements label (λ s. is_unproved s ≡ true) id
found_incomplete statements c label id index t kept numbered labelled_sentences among =
    named_as statements label (λ s. is_unproved s ≡ true) id index t
    (subst (λ (ss : List Sentence). IsNumbered ss id index t) kept.sentences numbered) labelled_sentences
    (λ s at kind. same_proof statements is_unproved id index s at ((kept.incomplete.each id).0 among))

pub found_other : (statements : List PlainStatement) (c : Conclusion) (label : List ℕ) (id index : ℕ) (t : Sentence) → IsKeptOf statements c → IsNumbered c.sentences id index t → IsLabelled label t
    → t.kind ≢ Provable → IsNamed statements label (λ s. s.kind ≢ Provable) id
found_other statements c label id index t kept numbered labelled_sentences other =
    named_as statements label (λ s. s.kind ≢ Provable) id index t
    (subst (λ (ss : List Sentence). IsNumbered ss id index t) kept.sentences numbered) labelled_sentences
    (λ s at kind e. other (sym kind ∙ e))

-- what is known of the kind under the label
pub found_as : (statements : List PlainStatement) (c : Conclusion) (label : List ℕ) (P : Kind → Type 0) (id index : ℕ) (t : Sentence) → IsKeptOf statements c → IsNumbered c.sentences id index t
    → IsLabelled label t → P t.kind → IsNamed statements label (λ s. P s.kind) id
found_as statements c label P id index t kept numbered labelled_sentences holds =
    named_as statements label (λ s. P s.kind) id index t
    (subst (λ (ss : List Sentence). IsNumbered ss id index t) kept.sentences numbered) labelled_sentences
    (λ s at kind. subst P (sym kind) holds)

-- what a hypothesis is not, and what a kind that isn't that of a `$p` is not
pub hypothesis_other : (kind : Kind) → IsHypothesis kind → kind ≢ Provable
hypothesis_other kind (inl e) f = cc
hypothesis_other kind (inr e) f = cc

-- a kind is one
pub kinds_once : (j k : LabelKind) → kind_behind j ≡ kind_behind k → j ≡ k
kinds_once label_kinds.Floating label_kinds.Floating e = refl
kinds_once label_kinds.Essential label_kinds.Essential e = refl
kinds_once label_kinds.Axiom label_kinds.Axiom e = refl
kinds_once label_kinds.Proof label_kinds.Proof e = refl
kinds_once _ _ e = absurd cc

pub other_kind : (k : LabelKind) (kind : Kind) → kind ≡ kind_behind k → ¬ (k ≡ label_kinds.Proof) → kind ≢ Provable
other_kind label_kinds.Proof kind e other f = other refl
other_kind _ kind e other f = cc

-- whether the statement with a number is a `$a`
pub axiom_kind : (statements : List Sentence) (id : ℕ) (k : LabelKind) → id < length (labelled_sentences statements)
    → ((s : Sentence) → slice_get (labelled_sentences statements) id ≡ Some s → s.kind ≡ kind_behind k) → k ≡ label_kinds.Axiom → IsAxiomNumber statements id
axiom_kind statements id k less told e =
    let found = numbered_some statements id less in
    (found.0, found.1, found.2, told found.1 (numbered_get statements id found.0 found.1 found.2) ∙ ap kind_behind e)

pub no_axiom_kind : (statements : List Sentence) (id : ℕ) (k : LabelKind)
    → ((s : Sentence) → slice_get (labelled_sentences statements) id ≡ Some s → s.kind ≡ kind_behind k) → ¬ (k ≡ label_kinds.Axiom) → ¬ (IsAxiomNumber statements id)
no_axiom_kind statements id k told other (index, s, numbered, kind) =
    by_kind k (sym (told s (numbered_get statements id index s numbered)) ∙ kind) other
  where
    by_kind : (j : LabelKind) → kind_behind j ≡ Axiom → ¬ (j ≡ label_kinds.Axiom) → ⊥
    by_kind label_kinds.Axiom e h = h refl
    by_kind _ e h = cc

-- ---- the tree of a proof is one

pub same_tree : (before : List Sentence) (s : Sentence) (tokens : List (List ℕ)) (p q : IsProved before s tokens) → AllMeant before → tree_of p ≡ tree_of q
same_tree before s tokens p q all =
    let moves : p.moves ≡ q.moves = moves_once before s tokens p.moves q.moves p.said q.said in
    let made = rw moves at p.proves.made in
    (makes_once before q.moves no_trees (tree_of p) (tree_of q) [] p.proves.kept q.proves.kept all made q.proves.made).0

pub map-take : (n : ℕ) (statements : List PlainStatement) → sentences (take n statements) ≡ take n (sentences statements)
map-take n statements = sym (take-map sentence_of n statements)

pub one_tree : (statements : List PlainStatement) (id p q : ℕ) (t u : Trees) → AllMeant (sentences statements) → HasTree statements id p t → HasTree statements id q u
    → (p ≡ q) × (t ≡ u)
one_tree statements id p q t u all one other =
    let same = at_unique statements id q p other.s one.s other.at one.at in
    let prefix : List PlainStatement = take p statements in
    let moved : Spells one.s u prefix =
    subst (λ (n : ℕ). Spells one.s u (take n statements)) same.0
    (subst (λ (s : PlainStatement). Spells s u (take q statements)) same.1 (other.proof, other.spelled)) in
    let meant : AllMeant (sentences prefix) = subst AllMeant (sym (map-take p statements)) (allmeant_prefix (sentences statements) p all) in
    (sym same.0, one.spelled ∙ same_tree (sentences prefix) (sentence_of one.s) (proof_of one.s) one.proof moved.0 meant ∙ sym moved.1)

-- ---- what is kept of proofs is what they use

-- a number among those of proofs is that of one
pub number_among : (uses : List ProofUses) (id : ℕ) → Contains (numbers_of uses) id → (u : ProofUses) × Contains uses u × (u.number ≡ id)
number_among uses id h =
    let at = at_from_contains (numbers_of uses) id h in
    let found = get_unmapped (λ (u : ProofUses). u.number) uses at.0 id at.1 in
    (found.0, contains_from_at uses found.0 (at.0, found.1), found.2)

pub used_is : (statements : List PlainStatement) (uses : List ProofUses) → AllMeant (sentences statements) → AreUses statements uses
    → (id used : ℕ) → UsedIn uses id used ↔ Uses statements id used
used_is statements uses all kept id used = (
  (λ (u, among, number, holds).
      let of : AreUsesOf statements u = kept.each u among in
      (of.0, of.1, subst (λ (n : ℕ). HasTree statements n of.0 of.1) number of.2, (of.3.each used).0 holds)),
  λ (index, t, has, stands).
      let found = number_among uses id ((kept.proofs.each id).1 (index, has.s, has.at, has.complete)) in
      let of : AreUsesOf statements found.0 = kept.each found.0 found.1 in
      let same = one_tree statements id index of.0 t of.1 all has (subst (λ (n : ℕ). HasTree statements n of.0 of.1) found.2 of.2) in
      (found.0, found.1, found.2, (of.3.each used).1 (rw (same.0, same.1) at stands)),
)

pub rests_as : (R S : ℕ → ℕ → Type 0) → ((id used : ℕ) → R id used → S id used) → (theorem n : ℕ) → RestsOn R theorem n → RestsOn S theorem n
rests_as R S into theorem n rests set closed =
    rests set (record { own = λ used h. closed.own used (into theorem used h); others = λ id used k h. closed.others id used k (into id used h) })

-- ---- the report

axiom_is : (statements : List PlainStatement) (n : ℕ) → IsAxiomNumber (sentences statements) n ↔ IsNumberWhere statements (λ s. s.kind ≡ Axiom) n
axiom_is statements n = (
  (λ (index, t, numbered, kind). let found = numbered_as statements n index t numbered in (index, found.0, found.1, ap (λ (u : Sentence). u.kind) found.2 ∙ kind)),
  λ (index, s, at, kind). (index, sentence_of s, at.numbered, kind),
)

-- by what is known of each number whether the theorem rests on it
pub report_by : (statements : List PlainStatement) (c : Conclusion) (label : List ℕ) (id : ℕ) (Reached : ℕ → Type 0) (axioms unproved : List ℕ)
    → IsKeptOf statements c → AllMeant c.sentences → IsNamed statements label (λ s. is_proof s ≡ true) id
    → ((n : ℕ) → Reached n ↔ RestsOn (UsedIn c.uses) id n)
    → AreInOrder (λ n. IsAxiomNumber c.sentences n × Reached n) axioms
    → AreInOrder (λ n. Contains c.incomplete n × Reached n) unproved
    → (report : IsReport statements label axioms unproved) × (report.id ≡ id)
report_by statements c label id Reached axioms unproved kept all named marked are_axioms are_unproved =
    let meant : AllMeant (sentences statements) = subst AllMeant kept.sentences all in
    let same = used_is statements c.uses meant kept.uses in
    let rests : (n : ℕ) → RestsOn (UsedIn c.uses) id n ↔ RestsOn (Uses statements) id n =
    λ n. (
      rests_as (UsedIn c.uses) (Uses statements) (λ x y. (same x y).0) id n,
      rests_as (Uses statements) (UsedIn c.uses) (λ x y. (same x y).1) id n,
    ) in
    let indexed = rw kept.sentences at are_axioms in (
      record {
        id = id;
        theorem = named;
        are_axioms = in_order_same _ _ axioms indexed (λ n. (
          (λ h. ((axiom_is statements n).0 h.0, (rests n).0 ((marked n).0 h.1))),
          λ h. ((axiom_is statements n).1 h.0, (marked n).1 ((rests n).1 h.1)),
        ));
        are_unproved = in_order_same _ _ unproved are_unproved (λ n. (
          (λ h. ((kept.incomplete.each n).0 h.0, (rests n).0 ((marked n).0 h.1))),
          λ h. ((kept.incomplete.each n).1 h.0, (marked n).1 ((rests n).1 h.1)),
        ));
      },
      refl,
    )

pub report_of : (statements : List PlainStatement) (c : Conclusion) (label : List ℕ) (id : ℕ) (marks : List Bool) (axioms unproved : List ℕ)
    → IsKeptOf statements c → AllMeant c.sentences → IsNamed statements label (λ s. is_proof s ≡ true) id
    → ((n : ℕ) → IsMarked marks n ↔ RestsOn (UsedIn c.uses) id n)
    → AreInOrder (λ n. IsAxiomNumber c.sentences n × IsMarked marks n) axioms
    → AreInOrder (λ n. Contains c.incomplete n × IsMarked marks n) unproved
    → IsReport statements label axioms unproved
report_of statements c label id marks axioms unproved kept all named marked are_axioms are_unproved =
    (report_by statements c label id (IsMarked marks) axioms unproved kept all named marked are_axioms are_unproved).0

-- ---- ranges of numbers

pub all_among : (P : ℕ → Type 0) (ids : List ℕ) (n : ℕ) → AllByRecursion P ids → Contains ids n → P n
all_among P ids n all h = let at = at_from_contains ids n h in all_at P ids at.0 n all at.1

-- a `$a` has a label
pub axiom_within : (statements : List Sentence) (n : ℕ) → IsAxiomNumber statements n → n < length (labels_in statements)
axiom_within statements n h =
    subst (λ (k : ℕ). n < k) (count_labelled (λ (s : Sentence). s.label) statements) (numbered_within statements n h.0 h.1 h.2)

-- the uses of statements are of earlier ones
pub backward : (statements : List PlainStatement) (uses : List ProofUses) → AreUses statements uses → AreBackward uses
backward statements uses kept = record {
  rising = kept.proofs.rising;
  below = λ u used among holds.
      let of : AreUsesOf statements u = kept.each u among in
      let stands : IsUsedNumber (sentences (take of.0 statements)) of.1 used = (of.3.each used).0 holds in
      rw (map-take of.0 statements, of.2.at.numbered.number) at (numbered_within
      (sentences (take of.0 statements)) used stands.0 stands.1 stands.3);
}

-- ==== what is told of a theorem's steps is told of the theorem

-- ---- the steps of a theorem prove it

-- what is proved under a profile breaks no rule over the whole of its tokens, and has its form
pub no_text_fault : (profile : Profile) (before : List Sentence) (s : Sentence)
    (tokens : List (List ℕ)) (rule : ProofRule) → IsProvedUnder profile before s tokens
    → ¬ (IsTextFault profile before s tokens rule)
no_text_fault profile before s tokens rule proved (inl fault) = proved.1.whole rule fault.broken
no_text_fault profile before s tokens rule proved (inr wrong) = wrong.2 proved.0

pub steps_prove : (profile : Profile) (st : List Sentence) (id : ℕ) (tokens : List (List ℕ))
    (steps : ReadSteps) → IsProofOf profile st id tokens → steps.profile ≡ profile
    → SayStepsOf st id tokens steps.moves → AreProvedSteps st id steps
steps_prove profile st id tokens steps proof under said index s moves number numbered =
    let Fits : List (List ℕ) → Type 0 = IsWithin (limit_of profile) in
    let told = said index s number in
    let here : proof.index ≡ index = one_index st id proof.index index proof.s s proof.number.numbered number.numbered in
    let same : proof.s ≡ s = same_Some proof.s s (sym proof.number.numbered.there ∙ ap (slice_get st) here ∙ number.numbered.there) in
    let proved : IsProvedWithin Fits (take index st) s tokens = rw (here, same) at proof.proved.1 in
    let those : told.0 ≡ moves = zip_once (IsNumberedMove st) (IsNumberedMove st) steps.moves told.0 moves (one_move st) told.2 numbered in
    subst (λ (p : Profile). Prove (IsWithin (limit_of p)) (take index st) s moves) (sym under)
    (subst (λ (ms : List (Move (List ℕ))). Prove Fits (take index st) s ms)
    (moves_once _ s tokens proved.moves told.0 proved.said told.1 ∙ those) proved.proves)

-- ---- what is told of them is told of the moves that the theorem's tokens say

pub of_theorem : (ss : List Sentence) (statements : List PlainStatement) (label : List ℕ) (id : ℕ) (steps : List (Move ℕ)) (P : List Sentence → Sentence → List (Move (List ℕ)) → Type 0)
    → ss ≡ sentences statements → (r : AreStepsOf statements label id steps) → OfMoves ss id steps (λ index s moves. P (take index ss) s moves)
    → P (sentences (take r.index statements)) (sentence_of r.s) r.moves
of_theorem ss statements label id steps P same r holds =
    let here = rw same at holds in
    rw map-take (here r.index (sentence_of r.s) r.moves r.number r.numbered)

-- ---- expansions

-- what is given is within the most
pub given_is_within : {X : Type 0} (x : X) (max n : ℕ) → (max < n → (◌≡◌ {A = Result X ExpandFault} (Ok x) (Err expand.L2)) ⊎ (◌≡◌ {A = Result X ExpandFault} (Ok x) (Err expand.Memory))) → n ≤ max
given_is_within x max n over = elim (cases_lt max n) [
  | inl h ↦ elim (over h) [ inl e ↦ cc | inr e ↦ cc ]
  | inr h ↦ h
]

-- what is refused is over the most
pub refused_is_over : {X : Type 0} (r : Result X ExpandFault) (max n : ℕ) → r ≡ Err expand.L2 → (n ≤ max → IsOkUnless r expand.Memory) → max < n
refused_is_over r max n is within = elim (cases_lt max n) [
  | inl h ↦ h
  | inr h ↦ let e : expand.L2 ≡ expand.Memory = rw is at (within h) in cc
]

-- what holds of a fault
pub why : {X E : Type 0} (r : Result X E) (P Q : E → Type 0) → ((e : E) → P e → Q e) → IfErr r P → IfErr r Q
why (Ok x) P Q f h = tt
why (Err e) P Q f h = f e h
