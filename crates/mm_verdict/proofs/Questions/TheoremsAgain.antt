-- The theorems of checked files, which are met again one after the other, with their numbers.
use Rattle.std.proofs.Common.{◌≡◌, ℕ, ◌+◌, ◌<◌, ◌≤◌, List, [], ◌∷◌, ◌++◌, take, length, slice_get}
use Rattle.std.proofs.Common.{Bool, true, false, cond, Option, Some, None, is_some, option_map, not}
use Rattle.std.proofs.Common.{◌↔◌, Contains, refl, sym, ap, subst, ◌∙◌, arith, append_assoc}
use Rattle.std.proofs.Common.{append-nil, length-append, sum_by, IfSome}
use Rattle.std.proofs.Math.Seq.{take-append_seam}
use Rattle.std.proofs.lemmas.Bool.{false_from_ne_true}
use Rattle.std.proofs.lemmas.List.{length-map, map-append}
use Rattle.std.proofs.lemmas.List.Elements.{filter-append}
use Rattle.mm_base.specs.declared.statement.Kind.{Kind}
use Rattle.mm_base.specs.declared.statement.Kind.TheVariants.{Provable}
use Rattle.mm_base.specs.declared.token.Token.{Token}
use Rattle.mm_base.specs.Token.{PlainToken, plain_token}
use Rattle.mm_base.specs.Statement.{PlainStatement, HasForm, HasLabel, plain_statement}
use Rattle.mm_text.specs.Files.{PlainFile}
use Rattle.mm_base.specs.MostBytes.{most_bytes}
use Rattle.mm_text.specs.Reading.{Reads}
use Rattle.mm_text.specs.Remaining.{Remaining, IsUnread, ReadsOn}
use Rattle.mm_base.proofs.Lists.{contains_from_at, get_parted}
use Rattle.mm_frame.specs.declared.number.LabelId.{LabelId}
use Rattle.mm_frame.specs.Numbers.{labelled_sentences}
use Rattle.mm_frame.specs.Sentence.{Sentence, sentence_of, IsLabelled}
use Rattle.mm_frame.proofs.Names.NameNumbers.{get_mapped}
use Rattle.mm_step.specs.Moves.{Move}
use Rattle.mm_step.specs.Steps.{IsProofNumber}
use Rattle.mm_proof.specs.Tokens.{is_incomplete, SayMoves}
use Rattle.mm_verdict.specs.declared.theorems.Rereading.{Rereading}
use Rattle.mm_rules.specs.Conclusion.{Conclusion}
use Rattle.mm_rules.specs.Rests.{IsAt, IsNumberWhere}
use Rattle.mm_rules.specs.Verdict.{is_proof, proof_of, sentences}
use Rattle.mm_verdict.specs.Mirror.Rereading.{AreNoTheorems, GoesTo, HasPassed, IsAtTheorem}
use Rattle.mm_verdict.specs.Mirror.Rereading.{IsReadTo, IsTheoremIn, label_count}
use Rattle.mm_verdict.proofs.Questions.FewLabels.{few_labels}
use Rattle.mm_verdict.specs.Mirror.Theorems.{AreStepsOf, IsProofOf, SayStepsOf}
use Rattle.mm_verdict.proofs.Questions.AskedTheorems.{at_unique, map-take}
use Rattle.mm_verdict.proofs.Verdicts.AcceptedStatements.{AreOf, KeptWell, proof_fits, proof_stands}
use Rattle.mm_verdict.proofs.Verdicts.AcceptedStatements.{read_statements, same_reading}
use Rattle.mm_rules.proofs.Judgements.JudgedProofs.{labelled_said}
use Rattle.mm_verdict.proofs.Verdicts.StatementByStatement.{provable_kind}

-- ---- how many statements have a label

pub said_label : (label : Option PlainToken)
    → is_some (option_map (λ (t : PlainToken). t.text) label) ≡ is_some label
said_label None = refl
said_label (Some t) = refl

pub plain_labelled : (label : Option Token)
    → is_some (option_map plain_token label) ≡ is_some label
plain_labelled None = refl
plain_labelled (Some t) = refl

one_labelled : (s : Sentence) (b : Bool) → is_some s.label ≡ b
    → length (labelled_sentences (s ∷ [])) ≡ cond b 1 0
one_labelled s true is = ap (λ (b : Bool). length (cond b (s ∷ []) [])) is
one_labelled s false is = ap (λ (b : Bool). length (cond b (s ∷ []) [])) is

pub labels_joined : (before after : List PlainStatement)
    → label_count (before ++ after) ≡ label_count before + label_count after
labels_joined before after =
    let test : Sentence → Bool = λ s. is_some s.label in
    ap (λ (ss : List Sentence). length (labelled_sentences ss)) (map-append sentence_of before after)
    ∙ ap length (filter-append test (sentences before) (sentences after))
    ∙ length-append (labelled_sentences (sentences before)) (labelled_sentences (sentences after))

-- one more statement, with a label or without
pub labels_more : (before : List PlainStatement) (s : PlainStatement) (b : Bool)
    → is_some s.label ≡ b → label_count (before ++ s ∷ []) ≡ label_count before + cond b 1 0
labels_more before s b is =
    labels_joined before (s ∷ [])
    ∙ ap (λ (n : ℕ). label_count before + n)
    (one_labelled (sentence_of s) b (said_label s.label ∙ is))

-- ---- a statement without a label is no theorem

labelled_kind : (kind : Kind) (label : Option PlainToken) (rest : Bool) → HasLabel kind label
    → is_some label ≡ false → ¬ (kind ≡ Provable)
labelled_kind kind label rest has none provable =
    let said = labelled_said kind label has provable in
    let same = said_label label in absurd cc

pub unlabelled_other : (s : PlainStatement) → HasForm s → is_some s.label ≡ false
    → is_proof s ≡ false
unlabelled_other s formed none =
    false_from_ne_true (is_proof s) (λ complete.
    labelled_kind s.kind s.label true formed.label none
    (provable_kind s.kind (not (is_incomplete (proof_of s))) complete))

-- ---- the number of the statement that is next

pub at_next : (before after : List PlainStatement) (s : PlainStatement) → is_some s.label ≡ true
    → IsAt (before ++ s ∷ after) (label_count before) (length before) s
at_next before after s labelled =
    let all : List PlainStatement = before ++ s ∷ after in
    let count : length before ≡ length (sentences before) = sym (length-map before sentence_of) in
    let prefix : take (length before) (sentences all) ≡ sentences before =
    ap (λ (ss : List Sentence). take (length before) ss) (map-append sentence_of before (s ∷ after))
    ∙ ap (λ (n : ℕ). take n (sentences before ++ sentences (s ∷ after))) count
    ∙ take-append_seam (sentences before) (sentences (s ∷ after)) in
    record {
      there = get_parted before after s;
      numbered = record {
        there = get_mapped sentence_of all (length before) s (get_parted before after s);
        named = said_label s.label ∙ labelled;
        number = ap (λ (ss : List Sentence). length (labelled_sentences ss)) prefix;
      };
    }

-- it is a theorem if its number is that of one
module _ (before after : List PlainStatement) (s : PlainStatement)
    (labelled : is_some s.label ≡ true) where
  numbered_theorem : IsNumberWhere (before ++ s ∷ after) (λ t. is_proof t ≡ true)
      (label_count before)
      → is_proof s ≡ true
  numbered_theorem (index, t, at, complete) =
      let same = (at_unique (before ++ s ∷ after) (label_count before) index (length before) t s at
      (at_next before after s labelled)).1 in
      subst (λ (u : PlainStatement). is_proof u ≡ true) same complete

  numbered_other : ¬ (IsNumberWhere (before ++ s ∷ after) (λ t. is_proof t ≡ true)
      (label_count before))
      → is_proof s ≡ false
  numbered_other none =
      false_from_ne_true (is_proof s) (λ complete.
      none (length before, s, at_next before after s labelled, complete))

-- ---- what was passed

pub no_more : (between : List PlainStatement) (s : PlainStatement) → AreNoTheorems between
    → is_proof s ≡ false → AreNoTheorems (between ++ s ∷ [])
no_more [] s none is = (is, tt)
no_more (t ∷ between) s none is = (none.0, no_more between s none.1 is)

pub passed_none : (files : List PlainFile) (taken : List PlainStatement) (r : Rereading)
    → IsReadTo files taken r → HasPassed files taken r
passed_none files taken r read = record {
  between = [];
  none = tt;
  read = subst (λ (ss : List PlainStatement). IsReadTo files ss r) (sym (append-nil taken)) read;
}

-- the next statement was read
module _ (files : List PlainFile) (before : List PlainStatement) (old new : Rereading)
    (taken : ReadsOn old.statements true (plain_statement new.statement) new.statements)
    (read : IsReadTo files before old) where
  abbrev pub s : PlainStatement
  s = plain_statement new.statement

  pub next_reads : Reads files (before ++ s ∷ new.statements.statements) None
  next_reads = rw taken.0 at read.reads

  pub next_few : label_count before + 1 < 4294967296
  next_few =
      let all = read.few in
      let joined = labels_joined before old.statements.statements in
      omega (arith, all, joined)

  pub read_on : (b : Bool) → is_some s.label ≡ b → new.labelled ≡ old.labelled + cond b 1 0
      → IsReadTo files (before ++ s ∷ []) new
  read_on b labelled count =
      let whole = append_assoc before (s ∷ []) new.statements.statements in
      let few = rw taken.0 at read.few in
      record {
        reads = subst (λ (ss : List PlainStatement). Reads files ss None) (sym whole) next_reads;
        faultless = ap (λ (r : Remaining). r.ending) taken.1 ∙ read.faultless;
        count = omega (arith, count, read.count, labels_more before s b labelled);
        few = subst (λ (ss : List PlainStatement). label_count ss < 4294967295) (sym whole) few;
      }

  -- it is the theorem with the number
  pub met_theorem : (id : ℕ) → HasForm s → is_some s.label ≡ true → id ≡ old.labelled
      → new.labelled ≡ old.labelled + 1
      → ((statements : List PlainStatement) → Reads files statements None
      → IsNumberWhere statements (λ t. is_proof t ≡ true) id)
      → IsAtTheorem files before id new
  met_theorem id formed labelled same count there = record {
    formed = formed;
    complete = numbered_theorem before new.statements.statements s labelled
        (subst (λ (n : ℕ). IsNumberWhere (before ++ s ∷ new.statements.statements)
        (λ t. is_proof t ≡ true) n) (same ∙ read.count)
        (there (before ++ s ∷ new.statements.statements) next_reads));
    number = same ∙ read.count;
    read = read_on true labelled count;
  }

  -- it is none
  pub met_other : (id : ℕ) → is_some s.label ≡ true → id ≡ old.labelled
      → ((statements : List PlainStatement) → Reads files statements None
      → ¬ (IsNumberWhere statements (λ t. is_proof t ≡ true) id))
      → is_proof s ≡ false
  met_other id labelled same none =
      numbered_other before new.statements.statements s labelled
      (subst (λ (n : ℕ). ¬ (IsNumberWhere (before ++ s ∷ new.statements.statements)
      (λ t. is_proof t ≡ true) n)) (same ∙ read.count)
      (none (before ++ s ∷ new.statements.statements) next_reads))

-- the same, after what was passed
module _ (files : List PlainFile) (taken : List PlainStatement) (old new : Rereading)
    (next : ReadsOn old.statements true (plain_statement new.statement) new.statements)
    (passed : HasPassed files taken old) where
  abbrev pub before : List PlainStatement
  before = taken ++ passed.between

  pub passed_few : old.labelled + 1 < 4294967296
  passed_few =
      let few = next_few files before old new next passed.read in
      let count = passed.read.count in omega (arith, few, count)

  pub passed_to : (id : LabelId) → HasForm (plain_statement new.statement)
      → is_some (plain_statement new.statement).label ≡ true → id.0 ≡ old.labelled
      → new.labelled ≡ old.labelled + 1
      → ((statements : List PlainStatement) → Reads files statements None
      → IsNumberWhere statements (λ t. is_proof t ≡ true) id.0)
      → GoesTo files taken (Some id) new
  passed_to id formed labelled same count there = (
    passed.between,
    passed.none,
    met_theorem files before old new next passed.read id.0 formed labelled same count there,
  )

  pub passed_one : (b : Bool) → is_some (plain_statement new.statement).label ≡ b
      → new.labelled ≡ old.labelled + cond b 1 0
      → is_proof (plain_statement new.statement) ≡ false → HasPassed files taken new
  passed_one b labelled count other = record {
    between = passed.between ++ plain_statement new.statement ∷ [];
    none = no_more passed.between (plain_statement new.statement) passed.none other;
    read = subst (λ (ss : List PlainStatement). IsReadTo files ss new)
        (append_assoc taken passed.between (plain_statement new.statement ∷ []))
        (read_on files before old new next passed.read b labelled count);
  }

  pub passed_labelled : (id : ℕ) → is_some (plain_statement new.statement).label ≡ true
      → id ≡ old.labelled → new.labelled ≡ old.labelled + 1
      → ((statements : List PlainStatement) → Reads files statements None
      → ¬ (IsNumberWhere statements (λ t. is_proof t ≡ true) id))
      → HasPassed files taken new
  passed_labelled id labelled same count none =
      passed_one true labelled count
      (met_other files before old new next passed.read id labelled same none)

  pub passed_unlabelled : HasForm (plain_statement new.statement)
      → is_some (plain_statement new.statement).label ≡ false → new.labelled ≡ old.labelled
      → HasPassed files taken new
  passed_unlabelled formed unlabelled count =
      passed_one false unlabelled (omega (arith, count))
      (unlabelled_other (plain_statement new.statement) formed unlabelled)

-- ---- the theorem that is met

module _ (files : List PlainFile) (met : List PlainStatement) (id : ℕ) (r : Rereading)
    (there : IsAtTheorem files met id r) where
  abbrev pub here : PlainStatement
  here = plain_statement r.statement

  pub at_reads : Reads files (met ++ here ∷ r.statements.statements) None
  at_reads =
      subst (λ (ss : List PlainStatement). Reads files ss None)
      (append_assoc met (here ∷ []) r.statements.statements) there.read.reads

  pub at_labelled : is_some here.label ≡ true
  at_labelled =
      sym (said_label here.label)
      ∙ labelled_said here.kind here.label there.formed.label
      (provable_kind here.kind (not (is_incomplete (proof_of here))) there.complete)

  pub at_in : IsTheoremIn files id here
  at_in = record {
    statements = met ++ here ∷ r.statements.statements;
    reads = at_reads;
    index = length met;
    at = subst (λ (n : ℕ). IsAt (met ++ here ∷ r.statements.statements) n (length met) here)
        (sym there.number) (at_next met r.statements.statements here at_labelled);
    complete = there.complete;
  }

-- ---- what is known of the files and of a theorem in them

pub unread_faultless : (c : Conclusion) (left : Remaining) → KeptWell c → IsUnread c.files left
    → left.ending ≡ None
unread_faultless c left well unread =
    (same_reading c.files left.statements well.origin.statements left.ending None unread.reads
    well.origin.accepted.reads).1

-- labelled statements are few
pub labels_few : (c : Conclusion) (left : Remaining) → KeptWell c → IsUnread c.files left
    → label_count left.statements < 4294967295
labels_few c left well unread =
    let same = (same_reading c.files left.statements well.origin.statements left.ending None
    unread.reads well.origin.accepted.reads).0 in
    subst (λ (ss : List PlainStatement). label_count ss < 4294967295) (sym same)
    (few_labels c.profile c.files well.origin.statements well.origin.accepted)

module _ (c : Conclusion) (id : ℕ) (s : PlainStatement) (well : KeptWell c)
    (t : IsTheoremIn c.files id s) where
  abbrev of : AreOf c t.statements
  of = read_statements c t.statements well.origin t.reads

  pub proof_again : IsProofOf c.profile c.sentences id (proof_of s)
  proof_again =
      subst (λ (ss : List Sentence). IsProofOf c.profile ss id (proof_of s)) (sym of.kept.sentences)
      (proof_stands c.profile t.statements id t.index s of.accepted.obeyed t.at t.complete)

  pub room_again : sum_by length (proof_of s) ≤ most_bytes
  room_again =
      proof_fits c.files t.statements None t.index s of.accepted.readable t.reads t.at.there

pub steps_again : (c : Conclusion) (id : ℕ) (s : PlainStatement) (label : List ℕ)
    (steps : List (Move ℕ)) → KeptWell c → IsTheoremIn c.files id s
    → IsLabelled label (sentence_of s) → SayStepsOf c.sentences id (proof_of s) steps
    → (statements : List PlainStatement) → Reads c.files statements None
    → AreStepsOf statements label id steps
steps_again c id s label steps well t named said statements reads =
    let of = read_statements c statements well.origin reads in
    let same = (same_reading c.files t.statements statements None None t.reads reads).0 in
    let at : IsAt statements id t.index s =
    subst (λ (ss : List PlainStatement). IsAt ss id t.index s) same t.at in
    let number : IsProofNumber (sentences statements) id t.index (sentence_of s) = record {
      numbered = at.numbered;
      provable = provable_kind s.kind (not (is_incomplete (proof_of s))) t.complete;
    } in
    let here = subst (λ (ss : List Sentence). SayStepsOf ss id (proof_of s) steps)
    of.kept.sentences said in
    let told = here t.index (sentence_of s) number in
    record {
      index = t.index;
      s = s;
      there = at.there;
      named = named;
      complete = t.complete;
      number = number;
      moves = told.0;
      told = subst (λ (ss : List Sentence). SayMoves ss (sentence_of s) (proof_of s) told.0)
          (sym (map-take t.index statements)) told.1;
      numbered = told.2;
    }

-- an index is found for what is among numbers
pub kept_or_not : (numbers : List ℕ) (id : ℕ) (found : Option ℕ)
    → IfSome found (λ at. slice_get numbers at ≡ Some id)
    → (found ≡ None → ¬ (Contains numbers id))
    → (is_some found ≡ true) ↔ Contains numbers id
kept_or_not numbers id None h none = ((λ e. absurd cc), λ among. absurd (none refl among))
kept_or_not numbers id (Some at) h none =
    ((λ e. contains_from_at numbers id (at, h)), λ among. refl)
