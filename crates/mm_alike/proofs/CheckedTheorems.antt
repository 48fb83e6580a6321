-- Theorems of a checked database: where their proofs stand, and the trees that these spell. On this
-- file rest the contracts of `database` and `reproved`.
use Rattle.std.proofs.Common.{◌≡◌, ◌↔◌, ℕ, ◌-◌, ◌<◌, ◌≤◌, List, [], take, drop, length}
use Rattle.std.proofs.Common.{slice_get, slice_range, Contains, Some, None, Bool, true, false, not}
use Rattle.std.proofs.Common.{refl, sym, ap, subst, ◌∙◌, arith, inl, inr, length-take, length-drop}
use Rattle.std.specs.List.{sum_by}
use Rattle.std.proofs.lemmas.Bool.{cases_Bool, cases_lt, false≢true}
use Rattle.std.proofs.lemmas.Option.{slice_get_within}
use Rattle.mm_base.specs.declared.statement.Kind.{Kind}
use Rattle.mm_base.specs.declared.statement.Kind.TheVariants.{Provable}
use Rattle.mm_base.specs.MostBytes.{most_bytes}
use Rattle.mm_base.specs.Statement.{PlainStatement}
use Rattle.mm_base.proofs.Lists.{at_from_contains, contains_from_at}
use Rattle.mm_code.specs.Words.{tokens_in}
use Rattle.mm_text.specs.Files.{PlainFile}
use Rattle.mm_text.specs.Reading.{Reads}
use Rattle.mm_frame.specs.Numbers.{IsAssertionNumber, IsLabelNumber, IsNumbered, labelled_sentences}
use Rattle.mm_frame.specs.Rules.{AllMeant}
use Rattle.mm_frame.specs.Sentence.{Sentence, sentence_of, IsLabelled}
use Rattle.mm_frame.proofs.Names.LabelNumbers.{numbered_get, numbered_some, numbered_unique}
use Rattle.mm_frame.proofs.Names.LabelNumbers.{numbered_within}
use Rattle.mm_frame.proofs.Names.NameNumbers.{get_unmapped}
use Rattle.mm_frame.proofs.Rules.ObeyedRules.{allmeant_prefix}
use Rattle.mm_step.specs.Moves.{Move}
use Rattle.mm_step.specs.Steps.{AreNumberedMoves, IsProofNumber}
use Rattle.mm_step.specs.Tree.{Trees, none, tree}
use Rattle.mm_forms.specs.OneTree.{MakeTree}
use Rattle.mm_proof.specs.Tokens.{is_incomplete, SayMoves}
use Rattle.mm_proof.proofs.ProofTokens.SaidMoves.{moves_once}
use Rattle.mm_rules.specs.Answer.{IsKeptOf}
use Rattle.mm_rules.specs.Conclusion.{Conclusion, ProofUses, numbers_of}
use Rattle.mm_rules.specs.Rests.{AreInOrder, AreUses, HasTree, IsAt, IsNumberWhere, tree_of}
use Rattle.mm_rules.specs.Verdict.{is_proof, is_unproved, proof_of, sentences}
use Rattle.mm_verdict.specs.Mirror.Theorems.{IsProofOf, SayStepsOf}
use Rattle.mm_verdict.proofs.FileBytes.StatementsInFiles.{file_within, provable_proof}
use Rattle.mm_verdict.proofs.Questions.AskedTheorems.{at_unique, map-take, numbered_as, one_tree}
use Rattle.mm_verdict.proofs.Questions.FewLabels.{few_labels}
use Rattle.mm_verdict.proofs.Verdicts.AcceptedStatements.{AreOf, KeptWell, proof_fits, proof_stands}
use Rattle.mm_verdict.proofs.Verdicts.AcceptedStatements.{read_statements, same_reading}
use Rattle.mm_verdict.proofs.Verdicts.AcceptedStatements.{within_limit}
use Rattle.mm_verdict.proofs.Verdicts.StatementByStatement.{all_meant}
use Rattle.mm_alike.specs.declared.homes.Home.{Home}
use Rattle.mm_alike.specs.Alike.{AreAlike, IsAssertionNamed, IsReproved, SpellTwoTrees}
use Rattle.mm_alike.specs.Mirror.Databases.{IsAlikeNamed, IsComplete, IsTheorem, SayOwnSteps}
use Rattle.mm_alike.specs.Mirror.Databases.{HaveSameText, SpellOneTree, TellsOneProof, TellsReproved}
use Rattle.mm_alike.specs.Mirror.Homes.{home_of, words_outside, IsWithinFiles}
use Rattle.mm_alike.specs.Mirror.Steps.{KeepWidths, TellsOneTree}
use Rattle.mm_alike.proofs.KeptWidths.{tokens_tree}
use Rattle.mm_alike.proofs.DifferingNumbers.{named_by, not_true, one_name_of, one_number}
use Rattle.mm_alike.proofs.DifferingNumbers.{opposite}
use Rattle.mm_alike.proofs.ProofWords.{home_at, proof_within, proof_words}
use Rattle.mm_alike.proofs.TreesOfBoth.{make_in_both, tree_in_both}

-- the labels of a checked database are few
pub few_kept : (c : Conclusion) → KeptWell c
    → length (labelled_sentences c.sentences) < 4294967295
few_kept c well =
    subst (λ (ss : List Sentence). length (labelled_sentences ss) < 4294967295)
    (sym well.origin.sentences)
    (few_labels c.profile c.files well.origin.statements well.origin.accepted)

-- its statements obey the rules of meaning
pub kept_meant : (c : Conclusion) → KeptWell c → AllMeant c.sentences
kept_meant c well =
    subst AllMeant (sym well.origin.sentences)
    (all_meant c.profile well.origin.statements well.origin.accepted.obeyed)

-- ---- the statement of a theorem

-- a theorem by its kind
pub theorem_by : (st : List Sentence) (id : ℕ) → IsLabelNumber st id
    → ((s : Sentence) → slice_get (labelled_sentences st) id ≡ Some s → s.kind ≡ Provable)
    → IsTheorem st id
theorem_by st id (index, s, numbered) told = (
  index,
  s,
  record { numbered = numbered; provable = told s (numbered_get st id index s numbered) },
)

pub no_theorem_by : (st : List Sentence) (id : ℕ) (kind : Kind) → ¬ (kind ≡ Provable)
    → ((s : Sentence) → slice_get (labelled_sentences st) id ≡ Some s → s.kind ≡ kind)
    → ¬ (IsTheorem st id)
no_theorem_by st id kind other told (index, s, number) =
    other (sym (told s (numbered_get st id index s number.numbered)) ∙ number.provable)

-- the label that stands with the number of a theorem
pub named_theorem : (st : List Sentence) (label : List ℕ) (id : ℕ) → IsTheorem st id
    → ((s : Sentence) → slice_get (labelled_sentences st) id ≡ Some s → IsLabelled label s)
    → IsAssertionNamed st label id
named_theorem st label id (index, s, number) told =
    named_by st label id (index, s, number.numbered, inr number.provable) told

module _ (st others : List Sentence) (label : List ℕ) (id : ℕ) where
  -- no other has its label and says the same, where the one that has it doesn't
  pub no_other_alike : (n : ℕ) → AllMeant others → IsAssertionNamed st label id
      → IsAssertionNamed others label n → ¬ (AreAlike st others id n) → (m : ℕ)
      → ¬ (IsAlikeNamed st others id m)
  no_other_alike n meant here there apart m (name, named, stands, alike) =
      let equal : name ≡ label = one_name_of st name label id named here in
      let same : m ≡ n =
      one_number others label m n meant
      (subst (λ (l : List ℕ). IsAssertionNamed others l m) equal stands) there in
      apart (subst (λ (k : ℕ). AreAlike st others id k) same alike)

  -- nor where none has it
  pub none_alike_here : IsAssertionNamed st label id
      → ((n : ℕ) → ¬ (IsAssertionNamed others label n)) → (m : ℕ)
      → ¬ (IsAlikeNamed st others id m)
  none_alike_here here lacks m (name, named, stands, alike) =
      lacks m (subst (λ (l : List ℕ). IsAssertionNamed others l m)
      (one_name_of st name label id named here) stands)

-- a theorem is an assertion
pub theorem_asserts : (st : List Sentence) (id : ℕ) → IsTheorem st id → IsAssertionNumber st id
theorem_asserts st id (index, s, number) = (index, s, number.numbered, inr number.provable)

-- an assertion that says the same as a theorem is one
pub alike_theorem : (st others : List Sentence) (id n : ℕ) → IsTheorem st id
    → AreAlike st others id n → IsTheorem others n
alike_theorem st others id n (index, s, number) (i, u, numbered, j, v, numbered', same) =
    let one : u ≡ s = (numbered_unique st id i index u s numbered number.numbered).1 in
    let kinds : u.kind ≡ v.kind = ap (λ p. p.0) same.assertion in (
      j,
      v,
      record {
        numbered = numbered';
        provable = sym kinds ∙ ap (λ (t : Sentence). t.kind) one ∙ number.provable;
      },
    )

-- a `$p` is proved, or its proof is incomplete
proved_or_not : (s : PlainStatement) (unknown : Bool) → s.kind ≡ Provable
    → is_incomplete (proof_of s) ≡ unknown
    → (is_unproved s ≡ unknown) × (is_proof s ≡ not unknown)
proved_or_not s unknown provable is = (
  rw (provable, is) refl,
  rw (provable, is) refl,
)

-- the statement with a number, which has a complete proof
pub record HasTheorem (statements : List PlainStatement) (id : ℕ) : Type 0 where
  pub index : ℕ
  pub s : PlainStatement
  pub at : IsAt statements id index s
  pub complete : is_proof s ≡ true

-- where no proof is incomplete, each theorem has one
theorem_in : (statements : List PlainStatement) (c : Conclusion) (id : ℕ) → IsKeptOf statements c
    → c.incomplete ≡ [] → IsTheorem c.sentences id → HasTheorem statements id
theorem_in statements c id kept complete (index, t, number) =
    let (s, at, says) = numbered_as statements id index t
    (subst (λ (ss : List Sentence). IsNumbered ss id index t) kept.sentences number.numbered) in
    let provable : s.kind ≡ Provable = ap (λ (u : Sentence). u.kind) says ∙ number.provable in
    elim (cases_Bool (is_incomplete (proof_of s))) [
      | inl unknown ↦
          let unproved = (proved_or_not s true provable unknown).0 in
          let among : Contains [] id =
          subst (λ (ns : List ℕ). Contains ns id) complete
          ((kept.incomplete.each id).1 (index, s, at, unproved)) in
          let (i, there) = at_from_contains [] id among in absurd (cc)
      | inr known ↦
          record {
            index = index;
            s = s;
            at = at;
            complete = (proved_or_not s false provable known).1;
          }
    ]

-- ---- where its proof stands

module _ (c : Conclusion) (homes : List Home) (id : ℕ) (well : KeptWell c)
    (whole : IsComplete c homes) (theorem : IsTheorem c.sentences id) where
  own : AreOf c well.origin.statements
  own =
      read_statements c well.origin.statements well.origin well.origin.accepted.reads

  pub own_theorem : HasTheorem well.origin.statements id
  own_theorem =
      theorem_in well.origin.statements c id own.kept whole.complete theorem

  pub own_home : slice_get homes id ≡ Some (home_of own_theorem.s)
  own_home =
      ap (λ (hs : List Home). slice_get hs id)
      (whole.homes well.origin.statements well.origin.accepted.reads)
      ∙ home_at well.origin.statements id own_theorem.index own_theorem.s own_theorem.at

  pub home_within : id < length homes
  home_within = slice_get_within homes id (home_of own_theorem.s) own_home

  pub own_within : IsWithinFiles c.files (home_of own_theorem.s)
  own_within =
      proof_within c.files well.origin.statements own_theorem.index own_theorem.s
      well.origin.accepted.reads own_theorem.at.there own_theorem.complete

  -- its bytes are few
  pub own_bytes : (bytes : List ℕ)
      → ((file : PlainFile) → slice_get c.files own_theorem.s.first.file ≡ Some file
      → bytes ≡ slice_range file.bytes own_theorem.s.span.0 own_theorem.s.span.1)
      → length bytes ≤ most_bytes
  own_bytes bytes are =
      let w = own_within in
      let long : length bytes ≤ length w.file.bytes =
      subst (λ (bs : List ℕ). length bs ≤ length w.file.bytes)
      (sym (are w.file w.there))
      (omega (
        arith,
        length-take (own_theorem.s.span.1 - own_theorem.s.span.0)
            (drop own_theorem.s.span.0 w.file.bytes),
        length-drop own_theorem.s.span.0 w.file.bytes,
      )) in
      let within = file_within c.files (home_of own_theorem.s).file w.file w.there in
      let limit = within_limit c.files well.origin.accepted.readable in
      omega arith

  -- its words are those of the proof
  pub own_words : (bytes : List ℕ)
      → ((file : PlainFile) → slice_get c.files own_theorem.s.first.file ≡ Some file
      → bytes ≡ slice_range file.bytes own_theorem.s.span.0 own_theorem.s.span.1)
      → words_outside false (tokens_in bytes) ≡ proof_of own_theorem.s
  own_words bytes are =
      proof_words c.files well.origin.statements own_theorem.index own_theorem.s
      well.origin.accepted.reads own_theorem.at.there own_theorem.complete bytes are

  pub own_tokens : (bytes : List ℕ)
      → ((file : PlainFile) → slice_get c.files own_theorem.s.first.file ≡ Some file
      → bytes ≡ slice_range file.bytes own_theorem.s.span.0 own_theorem.s.span.1)
      → (statements : List PlainStatement) → Reads c.files statements None → (index : ℕ)
      (s : PlainStatement) → IsAt statements id index s
      → words_outside false (tokens_in bytes) ≡ proof_of s
  own_tokens bytes are statements reads index s at =
      let same : well.origin.statements ≡ statements =
      (same_reading c.files well.origin.statements statements None None
      well.origin.accepted.reads reads).0 in
      let here : IsAt statements id own_theorem.index own_theorem.s =
      subst (λ (ss : List PlainStatement). IsAt ss id own_theorem.index own_theorem.s) same
      own_theorem.at in
      own_words bytes are
      ∙ ap proof_of (at_unique statements id own_theorem.index index own_theorem.s s here at).1

  -- which is a proof
  pub own_proof : IsProofOf c.profile c.sentences id (proof_of own_theorem.s)
  own_proof =
      subst (λ (ss : List Sentence). IsProofOf c.profile ss id (proof_of own_theorem.s))
      (sym well.origin.sentences)
      (proof_stands c.profile well.origin.statements id own_theorem.index own_theorem.s
      well.origin.accepted.obeyed own_theorem.at own_theorem.complete)

  pub own_room : sum_by length (proof_of own_theorem.s) ≤ most_bytes
  own_room =
      proof_fits c.files well.origin.statements None own_theorem.index own_theorem.s
      well.origin.accepted.readable well.origin.accepted.reads own_theorem.at.there

  -- steps that its words say are its own
  pub own_steps : (steps : List (Move ℕ))
      → SayStepsOf c.sentences id (proof_of own_theorem.s) steps → SayOwnSteps c id steps
  own_steps steps said statements reads index s at =
      let same : well.origin.statements ≡ statements =
      (same_reading c.files well.origin.statements statements None None
      well.origin.accepted.reads reads).0 in
      let here : IsAt statements id own_theorem.index own_theorem.s =
      subst (λ (ss : List PlainStatement). IsAt ss id own_theorem.index own_theorem.s) same
      own_theorem.at in
      let one : own_theorem.s ≡ s =
      (at_unique statements id own_theorem.index index own_theorem.s s here at).1 in
      subst (λ (ss : List Sentence). SayStepsOf ss id (proof_of s) steps)
      (well.origin.sentences ∙ ap sentences same)
      (subst (λ (u : PlainStatement). SayStepsOf c.sentences id (proof_of u) steps) one said)

-- ---- the tree of its proof

-- there is one
tree_kept : (statements : List PlainStatement) (uses : List ProofUses) (id : ℕ)
    → AreUses statements uses → IsNumberWhere statements (λ s. is_proof s ≡ true) id
    → (index : ℕ) × (t : Trees) × HasTree statements id index t
tree_kept statements uses id kept proved =
    let (at, there) = at_from_contains (numbers_of uses) id ((kept.proofs.each id).1 proved) in
    let (u, here, number) = get_unmapped (λ (u : ProofUses). u.number) uses at id there in
    let of = kept.each u (contains_from_at uses u (at, here)) in
    (of.0, of.1, subst (λ (n : ℕ). HasTree statements n of.0 of.1) number of.2)

-- the names of the steps that its tokens say, and the tree that they make
record IsMade (statements : List PlainStatement) (id index : ℕ) (t : Trees)
    (steps : List (Move ℕ)) : Type 0 where
  s : Sentence
  number : IsProofNumber (sentences statements) id index s
  names : List (Move (List ℕ))
  numbered : AreNumberedMoves (sentences statements) steps names
  label : List ℕ
  below : Trees
  is : t ≡ tree label below none
  made : MakeTree (take index (sentences statements)) names label below

tree_made : (statements : List PlainStatement) (id index : ℕ) (t : Trees) (steps : List (Move ℕ))
    (has : HasTree statements id index t)
    → SayStepsOf (sentences statements) id (proof_of has.s) steps → IsMade statements id index t steps
tree_made statements id index t steps has said =
    let s : Sentence = sentence_of has.s in
    let number : IsProofNumber (sentences statements) id index s = record {
      numbered = has.at.numbered;
      provable = provable_proof has.s has.complete;
    } in
    let told = said index s number in
    let before = take index (sentences statements) in
    let same : sentences (take index statements) ≡ before = map-take index statements in
    let own : SayMoves before s (proof_of has.s) has.proof.moves =
    subst (λ (ss : List Sentence). SayMoves ss s (proof_of has.s) has.proof.moves) same
    has.proof.said in
    let moves : has.proof.moves ≡ told.0 =
    moves_once before s (proof_of has.s) has.proof.moves told.0 own told.1 in
    let p = has.proof.proves in
    record {
      s = s;
      number = number;
      names = told.0;
      numbered = told.2;
      label = p.label;
      below = p.below;
      is = has.spelled;
      made =
          subst (λ (ss : List Sentence). MakeTree ss told.0 p.label p.below) same
          (subst (λ (ms : List (Move (List ℕ))).
          MakeTree (sentences (take index statements)) ms p.label p.below) moves
          (record { kept = p.kept; made = p.made }));
    }

-- ---- two theorems

module _ (c d : Conclusion) (one other : ℕ) (well : KeptWell c) (well_too : KeptWell d)
    (none_open : c.incomplete ≡ []) (none_open_too : d.incomplete ≡ [])
    (theorem : IsTheorem c.sentences one) (theorem_too : IsTheorem d.sentences other)
    (statements others : List PlainStatement) (reads : Reads c.files statements None)
    (reads_too : Reads d.files others None) where
  here : AreOf c statements
  here = read_statements c statements well.origin reads

  there : AreOf d others
  there = read_statements d others well_too.origin reads_too

  meant : AllMeant (sentences statements)
  meant = all_meant c.profile statements here.accepted.obeyed

  meant_too : AllMeant (sentences others)
  meant_too = all_meant d.profile others there.accepted.obeyed

  pub own_tree : (index : ℕ) × (t : Trees) × HasTree statements one index t
  own_tree =
      let found = theorem_in statements c one here.kept none_open theorem in
      tree_kept statements c.uses one here.kept.uses
      (found.index, found.s, found.at, found.complete)

  pub other_tree : (index : ℕ) × (t : Trees) × HasTree others other index t
  other_tree =
      let found = theorem_in others d other there.kept none_open_too theorem_too in
      tree_kept others d.uses other there.kept.uses
      (found.index, found.s, found.at, found.complete)

  -- what is told of the trees that their steps make is told of their proofs
  pub proof_told : (steps other_steps : List (Move ℕ)) (same : Bool) → SayOwnSteps c one steps
      → SayOwnSteps d other other_steps
      → TellsOneTree c.sentences d.sentences one other steps other_steps same
      → (same ≡ true) ↔ SpellOneTree statements others one other
  proof_told steps other_steps same said said_too tells =
      let (i, t, has) = own_tree in
      let (j, u, has_too) = other_tree in
      let m = tree_made statements one i t steps has (said statements reads i has.s has.at) in
      let n = tree_made others other j u other_steps has_too
      (said_too others reads_too j has_too.s has_too.at) in
      let told = (rw (here.kept.sentences, there.kept.sentences) at tells) i m.s m.names j n.s
      n.names m.number m.numbered n.number n.numbered in (
        (λ is.
            let (label, below, first, second) = told.0 is in
            let mine : t ≡ tree label below none =
            m.is ∙ tree_in_both (take i (sentences statements)) m.names m.label label m.below below
            (allmeant_prefix (sentences statements) i meant) m.made first in
            let theirs : u ≡ tree label below none =
            n.is ∙ tree_in_both (take j (sentences others)) n.names n.label label n.below below
            (allmeant_prefix (sentences others) j meant_too) n.made second in (
              t,
              i,
              has,
              j,
              subst (λ (v : Trees). HasTree others other j v) (theirs ∙ sym mine) has_too,
            )),
        (λ both.
            let (v, k, first, l, second) = both in
            let mine : t ≡ v = (one_tree statements one i k t v meant has first).1 in
            let theirs : u ≡ v = (one_tree others other j l u v meant_too has_too second).1 in
            told.1 (make_in_both (take i (sentences statements)) (take j (sentences others)) m.names
            n.names m.label n.label m.below n.below (sym m.is ∙ mine ∙ sym theirs ∙ n.is) m.made
            n.made)),
      )

  -- proofs of the same tokens spell one tree
  pub text_told : KeepWidths c.sentences d.sentences → HaveSameText c d one other
      → SpellOneTree statements others one other
  text_told kept (names, text) =
      let (i, t, has) = own_tree in
      let (j, u, has_too) = other_tree in
      let st : List Sentence = sentences statements in
      let ss : List Sentence = sentences others in
      let mine = map-take i statements in
      let theirs = map-take j others in
      let tokens : proof_of has.s ≡ proof_of has_too.s =
      text statements others reads reads_too i has.s j has_too.s has.at has_too.at in
      let same : tree_of has.proof ≡ tree_of has_too.proof =
      tokens_tree st ss i j meant meant_too (rw (here.kept.sentences, there.kept.sentences) at kept)
      (sentence_of has.s) (sentence_of has_too.s) (proof_of has_too.s) has.proof.moves
      has_too.proof.moves (tree_of has.proof) (tree_of has_too.proof) has.proof.proves.kept
      has_too.proof.proves.kept
      (λ hs ks own own_too. (rw (here.kept.sentences, there.kept.sentences) at names) i
      (sentence_of has.s) j (sentence_of has_too.s) hs ks has.at.numbered has_too.at.numbered own
      own_too)
      (rw (mine, tokens) at has.proof.said) (rw theirs at has_too.proof.said)
      (rw mine at has.proof.proves.made) (rw theirs at has_too.proof.proves.made) in (
        t,
        i,
        has,
        j,
        subst (λ (v : Trees). HasTree others other j v)
            (has_too.spelled ∙ sym same ∙ sym has.spelled) has_too,
      )

  -- they are one tree, or two
  pub trees_apart : (same : Bool) → (same ≡ true) ↔ SpellOneTree statements others one other
      → (not same ≡ true) ↔ SpellTwoTrees statements others one other
  trees_apart same told =
      let (i, t, has) = own_tree in
      let (j, u, has_too) = other_tree in (
        (λ is. (
          i,
          t,
          has,
          j,
          u,
          has_too,
          λ equal.
              opposite same is
              (told.1 (
                t,
                i,
                has,
                j,
                subst (λ (v : Trees). HasTree others other j v) (sym equal)
                    has_too,
              )),
        )),
        (λ (k, v, first, l, w, second, apart).
            not_true same (λ is.
            let (z, m, third, n, fourth) = told.0 is in
            let mine : v ≡ z = (one_tree statements one k m v z meant first third).1 in
            let theirs : w ≡ z = (one_tree others other l n w z meant_too second fourth).1 in
            apart (mine ∙ sym theirs))),
      )

-- ---- whether it is reproved

-- what is no theorem isn't
pub no_theorem : (c d : Conclusion) (id : ℕ) → KeptWell c → ¬ (IsTheorem c.sentences id)
    → TellsReproved c d id false
no_theorem c d id well other statements others reads reads_too = (
  (λ t. absurd (false≢true t)),
  (λ (label, named, n, named_too, alike, (i, t, has, j, u, has_too, apart)).
      let here = (read_statements c statements well.origin reads).kept in
      let own : IsTheorem (sentences statements) id = (
        i,
        sentence_of has.s,
        record {
          numbered = has.at.numbered;
          provable = provable_proof has.s has.complete;
        },
      ) in
      absurd (other (subst (λ (ss : List Sentence). IsTheorem ss id) (sym here.sentences)
      own))),
)

module _ (c d : Conclusion) (id : ℕ) (well : KeptWell c) (well_too : KeptWell d) where
  -- nor is one that has no other alike
  pub none_alike : ((n : ℕ) → ¬ (IsAlikeNamed c.sentences d.sentences id n))
      → TellsReproved c d id false
  none_alike lacks statements others reads reads_too = (
    (λ t. absurd (false≢true t)),
    (λ (label, named, n, named_too, alike, two).
        let here = (read_statements c statements well.origin reads).kept in
        let there = (read_statements d others well_too.origin reads_too).kept in
        absurd (lacks n (rw (here.sentences, there.sentences)
        (label, named, named_too, alike)))),
  )

  -- one that has is, where the trees are two
  pub alike_told : (n : ℕ) (same : Bool) → c.incomplete ≡ [] → d.incomplete ≡ []
      → IsTheorem c.sentences id → IsTheorem d.sentences n
      → IsAlikeNamed c.sentences d.sentences id n → TellsOneProof c d id n same
      → TellsReproved c d id (not same)
  alike_told n same none_open none_open_too theorem theorem_too alike tells statements others reads
      reads_too =
      let here = (read_statements c statements well.origin reads).kept in
      let there = (read_statements d others well_too.origin reads_too).kept in
      let (label, named, named_too, says) = rw (here.sentences, there.sentences) at alike in
      let told = trees_apart c d id n well well_too none_open none_open_too theorem theorem_too
      statements others reads reads_too same (tells statements others reads reads_too) in
      let meant = all_meant d.profile others
      (read_statements d others well_too.origin reads_too).accepted.obeyed in (
        (λ is. (label, named, n, named_too, says, told.0 is)),
        (λ (name, stands, m, stands_too, says_too, two).
            let equal : name ≡ label = one_name_of (sentences statements) name label id stands named
            in
            let one : m ≡ n =
            one_number (sentences others) label m n meant
            (subst (λ (l : List ℕ). IsAssertionNamed (sentences others) l m) equal stands_too)
            named_too in
            told.1 (subst (λ (k : ℕ). SpellTwoTrees statements others id k) one two)),
      )

-- ---- all that are

-- those among the numbers so far
abbrev pub AreReprovedTo : (c d : Conclusion) → (end : ℕ) → List ℕ → Type 0
AreReprovedTo c d end ids =
    (statements others : List PlainStatement) → Reads c.files statements None
    → Reads d.files others None
    → AreInOrder (λ n. (n < end) × IsReproved statements others n) ids

-- none is from an end on
pub reproved_before : (c : Conclusion) (statements others : List PlainStatement) (end n : ℕ)
    → KeptWell c → Reads c.files statements None
    → length (labelled_sentences c.sentences) ≤ end → IsReproved statements others n → n < end
reproved_before c statements others end n well reads past
    (label, named, m, rest, alike, two) =
    let here = (read_statements c statements well.origin reads).kept in
    let within : n < length (labelled_sentences c.sentences) =
    subst (λ (ss : List Sentence). n < length (labelled_sentences ss)) (sym here.sentences)
    (numbered_within (sentences statements) n named.0 named.1 named.2) in
    omega arith

-- an end behind all labels
pub labels_end : (st : List Sentence) (end : ℕ) → ¬ (IsLabelNumber st end)
    → length (labelled_sentences st) ≤ end
labels_end st end past = elim (cases_lt end (length (labelled_sentences st))) [
  | inl less ↦ absurd (past (numbered_some st end less))
  | inr more ↦ more
]
