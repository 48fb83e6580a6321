-- From the verdict on the tokens of a proof to that on its statement, which stands in a handed file.
use Rattle.std.proofs.Common.{◌≡◌, ℕ, List, [], ◌∷◌, ◌++◌, map, take, length, slice_get, is_some}
use Rattle.std.proofs.Common.{Bool, true, false, Option, option_map, Result, Ok, Err, MatchResult}
use Rattle.std.proofs.Common.{inl, inr, refl, sym, ap, ◌∙◌, ◌<◌, Some, subst}
use Rattle.std.proofs.lemmas.Bool.{both_ways, false_from_ne_true}
use Rattle.std.proofs.Math.Seq.{take-append_seam}
use Rattle.mm_base.specs.declared.token.Token.{Token}
use Rattle.mm_base.specs.declared.statement.Kind.{Kind}
use Rattle.mm_base.specs.declared.statement.Kind.TheVariants.{Provable}
use Rattle.mm_base.specs.Token.{PlainToken, plain_token, tokens_from}
use Rattle.mm_base.specs.Statement.{PlainStatement, HasForm, HasLabel}
use Rattle.mm_frame.specs.Sentence.{Sentence, sentence_of}
use Rattle.mm_frame.specs.Numbers.{labelled_sentences}
use Rattle.mm_step.specs.declared.fault.ProofRule.{ProofRule}
use Rattle.mm_step.specs.declared.fault.ProofFault.{ProofFault}
use Rattle.mm_proof.specs.declared.prover.Proved.{Proved}
use Rattle.mm_proof.specs.Tokens.{is_incomplete, IsIncomplete}
use Rattle.mm_step.specs.Steps.{IsProofNumber}
use Rattle.mm_proof.specs.Parsed.{OfProof}
use Rattle.mm_proof.specs.Verified.{TokensProve}
use Rattle.mm_step.specs.declared.profile.Profile.{Profile}
use Rattle.mm_step.specs.Profiles.{limit_of}
use Rattle.mm_proof.specs.Strict.{HasFormOf}
use Rattle.mm_proof.specs.UnderProfile.{IsFaultUnder, IsPrefixAllowedUnder, IsPrefixFaultUnder}
use Rattle.mm_base.proofs.Lists.{one_parting, get_pushed, all_back}
use Rattle.mm_text.specs.Files.{PlainFile}
use Rattle.mm_rules.specs.declared.rule.Rule.{Rule}
use Rattle.mm_rules.specs.Verdict.{proof_of, refusal_of, IsProofFault, PlainRefusal, Refused}
use Rattle.mm_rules.specs.Verdict.{HasVerdict}
use Rattle.mm_rules.specs.Mirror.Judged.{IsLastProof, IsJudged, Fails}
use Rattle.mm_rules.proofs.Judgements.CompleteProofs.{proof_there, unproved_there}
use Rattle.std.specs.List.{AllByRecursion}
use Rattle.std.proofs.lemmas.Option.{slice_get_within}
use Rattle.mm_text.specs.Items.{Item, Plain, Wrong, Inclusion, End, plain_tokens, items}
use Rattle.mm_text.specs.Reading.{PlainFault, Reads, EndsAt, IsInPlace}
use Rattle.mm_text.proofs.Inclusions.ItemTokens.{ItemIs, all_items, StandsIn, tokens_in_place}
use Rattle.mm_text.proofs.Reader.WholeReadings.{readings_are_formed_in_place}
use Rattle.mm_rules.specs.declared.fault.CheckFault.{CheckFault}
use Rattle.mm_rules.specs.Conclusion.{Conclusion}
use Rattle.mm_rules.specs.Answer.{IsVerdict, NamesFile}
use Rattle.mm_step.specs.declared.fault.ProofFault.TheVariants as faults
use Rattle.mm_proof.specs.declared.prover.Proved.TheVariants as proved

-- ==== what is said of the last statement's proof, from what the parser and the verifier say

-- ## The tokens of the proof

pub texts_of : (tokens : List Token) → map (λ (t : Token). t.text.now) tokens ≡ map (λ (t : PlainToken). t.text) (map plain_token tokens)
texts_of [] = refl
texts_of (t ∷ tokens) = ap (λ (rest : List (List ℕ)). t.text.now ∷ rest) (texts_of tokens)

-- ## The number of the last statement

-- the statements before the last one are these
pub prefix_of : (statements before : List Sentence) (s : Sentence) → statements ≡ before ++ s ∷ [] → take (length before) statements ≡ before
prefix_of statements before s e = ap (λ (ss : List Sentence). take (length before) ss) e ∙ take-append_seam before (s ∷ [])

pub labelled_said : (kind : Kind) (label : Option PlainToken) → HasLabel kind label → kind ≡ Provable → is_some (option_map (λ (t : PlainToken). t.text) label) ≡ true
labelled_said Provable label has e = ap (λ (o : Option PlainToken). is_some (option_map (λ (t : PlainToken). t.text) o)) has.1
labelled_said kind label has e = absurd cc

-- the last statement has its number at the index after those before it
pub last_number : (statements : List Sentence) (id : ℕ) (s : PlainStatement) → HasForm s → IsLastProof statements id s
    → (before : List Sentence) → statements ≡ before ++ sentence_of s ∷ [] → IsProofNumber statements id (length before) (sentence_of s)
last_number statements id s formed last before e =
    let same : before ≡ last.before = (one_parting before (sentence_of s ∷ []) last.before (sentence_of s ∷ []) (sym e ∙ last.whole) refl).0 in
    record {
      numbered = record {
        there = ap (λ (ss : List Sentence). slice_get ss (length before)) e ∙ get_pushed before (sentence_of s);
        named = labelled_said s.kind s.label formed.label last.provable;
        number = ap (λ (ss : List Sentence). length (labelled_sentences ss)) (prefix_of statements before (sentence_of s) e ∙ same) ∙ sym last.number;
      };
      provable = last.provable;
    }

-- ## The verdict on its proof

module _ (profile : Profile) (statements : List Sentence) (id : ℕ) (s : PlainStatement)
    (tokens : List (List ℕ)) (formed : HasForm s) (last : IsLastProof statements id s)
    (same : tokens ≡ proof_of s) where
  -- what is said of the `$p` with the number, wherever it stands, is said of the last statement
  of_last : (P : List Sentence → Sentence → List (List ℕ) → Type 0) (before : List Sentence)
      → statements ≡ before ++ sentence_of s ∷ []
      → OfProof statements id (λ index t. P (take index statements) t tokens)
      → P before (sentence_of s) (proof_of s)
  of_last P before e said =
      let number = last_number statements id s formed last before e in
      let there = said (length before) (sentence_of s) number in
      rw (prefix_of statements before (sentence_of s) e, same) at there

  -- the fault of the tokens, as all of a proof or as what is known of one, is that of the statement
  fails_as : (before : List Sentence) (rule : ProofRule) (step : ℕ)
      → (¬ (IsIncomplete tokens)
      → IsFaultUnder profile before (sentence_of s) (proof_of s) rule step)
      → (IsIncomplete tokens
      → IsPrefixFaultUnder profile before (sentence_of s) (proof_of s) rule step)
      → (b : Bool) → is_incomplete tokens ≡ b → IsProofFault profile before s rule step
  fails_as before rule step fails prefix_fails true open_one = inr (
    unproved_there s last.provable (ap is_incomplete (sym same) ∙ open_one),
    prefix_fails open_one,
  )
  fails_as before rule step fails prefix_fails false complete = inl (
    proof_there s last.provable (ap is_incomplete (sym same) ∙ complete),
    fails (λ h. both_ways _ complete h),
  )

  -- what the prover says of the tokens of the statement with the number, wherever it stands, is
  -- said of the last one
  pub judged : (result : Result Proved ProofFault) (used : List ℕ)
      → (result ≡ Ok proved.Incomplete → IsIncomplete tokens
      × OfProof statements id (λ index t.
      IsPrefixAllowedUnder profile (take index statements) t tokens))
      → (IsIncomplete tokens → ¬ (result ≡ Ok proved.Complete))
      → (result ≡ Ok proved.Complete → OfProof statements id (λ index t.
      TokensProve (limit_of profile) (take index statements) t tokens used))
      → (result ≡ Ok proved.Complete → OfProof statements id (λ index t.
      HasFormOf profile (take index statements) t tokens))
      → (¬ (IsIncomplete tokens) → (rule : ProofRule) (step : ℕ)
      → result ≡ Err (faults.Rule rule step) → OfProof statements id (λ index t.
      IsFaultUnder profile (take index statements) t tokens rule step))
      → (IsIncomplete tokens → (rule : ProofRule) (step : ℕ)
      → result ≡ Err (faults.Rule rule step) → OfProof statements id (λ index t.
      IsPrefixFaultUnder profile (take index statements) t tokens rule step))
      → (before : List Sentence) → statements ≡ before ++ sentence_of s ∷ []
      → MatchResult result (IsJudged profile before s used) (Fails profile before s)
  judged (Ok proved.Incomplete) used incomplete complete proves forms fails prefix_fails before e =
      let open_one = incomplete refl in
      (rw same at open_one.0, of_last (IsPrefixAllowedUnder profile) before e open_one.1)
  judged (Ok proved.Complete) used incomplete complete proves forms fails prefix_fails before e =
      let form = of_last (HasFormOf profile) before e (forms refl) in
      let here = of_last (λ ss t ts. TokensProve (limit_of profile) ss t ts used) before e
      (proves refl) in (
        rw same at (false_from_ne_true (is_incomplete tokens) (λ h. complete h refl)),
        record { form = form; proof = here.proof; all = here.all },
      )
  judged (Err faults.Memory) used incomplete complete proves forms fails prefix_fails before e = tt
  judged (Err (faults.Rule rule step)) used incomplete complete proves forms fails prefix_fails
      before e =
      fails_as before rule step
      (λ whole. of_last (λ ss t ts. IsFaultUnder profile ss t ts rule step) before e
      (fails whole rule step refl))
      (λ open_one. of_last (λ ss t ts. IsPrefixFaultUnder profile ss t ts rule step) before e
      (prefix_fails open_one rule step refl))
      (is_incomplete tokens) refl

-- refusals of one statement for one rule at one step
pub same_refusal : (files : List PlainFile) (count : ℕ) (s : PlainStatement) {r t : Rule} {m n : ℕ} → r ≡ t → m ≡ n
    → refusal_of files count s r m ≡ refusal_of files count s t n
same_refusal files count s e f = λ i. refusal_of files count s (e i) (f i)

-- ==== what is refused stands in one of the handed files

-- ---- all tokens among the items, those of faults and inclusions too

abbrev AllTokens : (PlainToken → Type 0) → List Item → Type 0
AllTokens P [] = Unit {0}
AllTokens P (Plain t ∷ rest) = P t × AllTokens P rest
AllTokens P (Wrong rule t ∷ rest) = P t × AllTokens P rest
AllTokens P (Inclusion t ∷ rest) = P t × AllTokens P rest
AllTokens P (End n ∷ rest) = AllTokens P rest

tokens_so : (P : PlainToken → Type 0) (its : List Item) → AllByRecursion (ItemIs P) its
    → AllTokens P its
tokens_so P [] h = tt
tokens_so P (Plain t ∷ its) h = (h.0.0, tokens_so P its h.1)
tokens_so P (End n ∷ its) h = tokens_so P its h.1
tokens_so P (item ∷ its) h = (h.0, tokens_so P its h.1)

-- ---- the file of each token was handed in

abbrev IsHanded : List PlainFile → PlainToken → Type 0
IsHanded files t = t.file < length files

home_all : (files : List PlainFile) (n : ℕ) (f : PlainFile) (tokens : List PlainToken) → n < length files → AllByRecursion (StandsIn n f.bytes) tokens → AllByRecursion (IsHanded files) tokens
home_all files n f [] within h = tt
home_all files n f (t ∷ tokens) within h = (subst (λ (k : ℕ). k < length files) (sym h.0.home) within, home_all files n f tokens within h.1)

handed : (files : List PlainFile) → AllTokens (IsHanded files) (items files)
handed files =
    tokens_so (IsHanded files) (items files) (all_items (IsHanded files) files
    (λ n f there. home_all files n f (tokens_from n 0 f.bytes) (slice_get_within files n f there) (tokens_in_place n f.bytes)))

-- the token of an item, and those before it
middle_token : (P : PlainToken → Type 0) (prefix : List Item) (item : Item) (rest : List Item) → AllTokens P (prefix ++ item ∷ rest) → AllTokens P prefix × AllTokens P (item ∷ rest)
middle_token P [] item rest h = (tt, h)
middle_token P (End n ∷ prefix) item rest h = middle_token P prefix item rest h
middle_token P (first ∷ prefix) item rest h = let inner = middle_token P prefix item rest h.1 in ((h.0, inner.0), inner.1)

all_plain : (P : PlainToken → Type 0) (prefix : List Item) → AllTokens P prefix → AllByRecursion P (plain_tokens prefix)
all_plain P [] h = tt
all_plain P (Plain t ∷ prefix) h = (h.0, all_plain P prefix h.1)
all_plain P (End n ∷ prefix) h = all_plain P prefix h
all_plain P (item ∷ prefix) h = all_plain P prefix h.1

-- ---- refusals

-- a statement of a reading begins in one of the files
first_home : (files : List PlainFile) (statements : List PlainStatement) (ending : Option PlainFault) (before : List PlainStatement) (s : PlainStatement) (after : List PlainStatement)
    → Reads files statements ending → statements ≡ before ++ s ∷ after → IsHanded files s.first
first_home files statements ending before s after reads split =
    let indexed = all_back (IsInPlace files) before (s ∷ after)
    (subst (λ (ss : List PlainStatement). AllByRecursion (IsInPlace files) ss) split (readings_are_formed_in_place files statements ending reads).in_place) in
    slice_get_within files s.first.file indexed.0.first.0 indexed.0.first.1

fault_home : (files : List PlainFile) (statements : List PlainStatement) (fault : PlainFault) → Reads files statements (Some fault) → fault.file < length files
fault_home files statements fault reads =
    let all : AllTokens (IsHanded files) (reads.0 ++ reads.1 ∷ reads.2) = subst (AllTokens (IsHanded files)) reads.4 (handed files) in
    let parts = middle_token (IsHanded files) reads.0 reads.1 reads.2 all in
    let plain : AllByRecursion (IsHanded files) (plain_tokens reads.0) = all_plain (IsHanded files) reads.0 parts.0 in
    at_item reads.1 parts.1 plain reads.6
  where
    named : (t : PlainToken) → IsHanded files t → fault.file ≡ t.file → fault.file < length files
    named t h e = subst (λ (k : ℕ). k < length files) (sym e) h

    at_item : (item : Item) → AllTokens (IsHanded files) (item ∷ reads.2) → AllByRecursion (IsHanded files) (plain_tokens reads.0) → EndsAt statements reads.3 item fault → fault.file < length files
    at_item (Plain t) h plain e = named t h.0 (ap (λ (f : PlainFault). f.file) e.2)
    at_item (Wrong rule t) h plain e = named t h.0 (ap (λ (f : PlainFault). f.file) e)
    at_item (Inclusion t) h plain e = named t h.0 (ap (λ (f : PlainFault). f.file) e.1)
    at_item (End n) h plain (inl e) =
        let tokens = reads.5.whole ∙ ap (λ (ts : List PlainToken). reads.5.finished ++ ts) e.2 in
        named e.0 (all_back (IsHanded files) reads.5.finished (e.0 ∷ e.1)
        (subst (λ (ts : List PlainToken). AllByRecursion (IsHanded files) ts) tokens plain)).0
        (ap (λ (f : PlainFault). f.file) e.3)
    at_item (End n) h plain (inr e) =
        named e.3.first (first_home files statements (Some fault) e.2 e.3 e.4.within reads e.4.whole) (ap (λ (f : PlainFault). f.file) e.5)

-- a refusal's file is one of the files
pub refused_home : (profile : Profile) (files : List PlainFile) (refusal : PlainRefusal) → HasVerdict profile files (Refused refusal) → refusal.file < length files
refused_home profile files refusal h = elim (h.4) [
  | inl r ↦ rw r.refused (first_home files h.1 h.2 r.before r.s r.after h.3 r.split)
  | inr r ↦ rw r.refused (fault_home files h.1 r.fault (rw r.ended at h.3))
]

pub names_file : (profile : Profile) (files : List PlainFile) (answer : Result Conclusion CheckFault) → IsVerdict profile files answer → NamesFile files answer
names_file profile files answer holds refusal told = refused_home profile files refusal (holds (Refused refusal) told)
