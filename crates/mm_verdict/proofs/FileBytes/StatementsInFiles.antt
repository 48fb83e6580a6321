-- Statements are read from where they stand in the files.
use Rattle.std.proofs.Common.{◌≡◌, ℕ, List, take, slice_get, true, not, ◌&&◌, Some, refl, sym, ap}
use Rattle.std.proofs.Common.{subst, ◌∙◌, ◌+◌, ◌-◌, ◌<◌, ◌≤◌, ◌↔◌, ◌++◌, map}
use Rattle.std.proofs.Common.{length, slice_set, slice_index_or, Option, None, Result, Ok, inl, inr}
use Rattle.std.proofs.Common.{arith, length-append}
use Rattle.mm_base.specs.declared.statement.Kind.TheVariants.{Axiom, Provable}
use Rattle.mm_base.specs.Statement.{PlainStatement, is_provable}
use Rattle.mm_frame.specs.Sentence.{Sentence, sentence_of, IsLabelled}
use Rattle.mm_frame.specs.Numbers.{IsNumbered}
use Rattle.mm_step.specs.Tree.{Trees, none, tree}
use Rattle.mm_proof.specs.Proof.{IsProved}
use Rattle.mm_proof.specs.Used.{IsUsedNumber}
use Rattle.mm_proof.specs.Tokens.{is_incomplete}
use Rattle.mm_rules.specs.Verdict.{sentences, proof_of, is_proof, is_unproved, AreAccepted, Verdict}
use Rattle.mm_rules.specs.Verdict.{Load, Refused, Incomplete, Yes, HasVerdict, AllObey}
use Rattle.mm_rules.specs.Verdict.{CanBeRead, unproved_of, proofs_of}
use Rattle.mm_rules.specs.Rests.{IsAt, IsNumberWhere, AreInOrder, HasTree, Uses, RestsOn, IsReport}
use Rattle.mm_rules.specs.Rests.{tree_of}
use Rattle.mm_verdict.proofs.Questions.AskedTheorems.{map-take, rests_as}
use Rattle.mm_rules.proofs.Numbers.{in_order_same}
use Rattle.std.proofs.lemmas.List.Sums.{get_or-le-sum_by, sum_by-set}
use Rattle.std.proofs.lemmas.List.{length-map, length-set, set-set, set-get_or}
use Rattle.std.proofs.lemmas.Option.{slice_get_within, get_or_from_slice_get}
use Rattle.mm_base.specs.declared.file.File.{File}
use Rattle.mm_base.specs.MostBytes.{most_bytes}
use Rattle.mm_text.specs.Files.{PlainFile, plain_file, total_bytes, BreaksLoad}
use Rattle.mm_text.specs.Reading.{Reads, IsInPlace}
use Rattle.mm_text.specs.Replaced.{with_bytes, IsProofSpan}
use Rattle.mm_text.proofs.Reader.WholeReadings.{readings_are_formed_in_place}
use Rattle.mm_base.proofs.Lists.{all_at}
use Rattle.mm_base.proofs.Lists.{get_set_cases}
use Rattle.mm_text.proofs.Inclusions.OpenFiles.{file_there}
use Rattle.mm_frame.specs.Rules.{AllMeant}
use Rattle.mm_step.specs.declared.profile.Profile.{Profile}
use Rattle.mm_rules.specs.declared.fault.CheckFault.{CheckFault}
use Rattle.mm_rules.specs.Conclusion.{Conclusion}
use Rattle.mm_rules.specs.Answer.{verdict_of_answer, verdict_of_conclusion, IsVerdict}
use Rattle.mm_rules.specs.Shown.{Stands}
use Rattle.mm_verdict.specs.Saved.{total_with}
use Rattle.mm_verdict.specs.Mirror.Rewriting.{IsHomeOf}
use Rattle.mm_verdict.proofs.ReplyTexts.{accepted_with}
use Rattle.mm_verdict.proofs.Verdicts.AcceptedStatements.{one_stands, same_reading}
use Rattle.mm_verdict.proofs.Verdicts.StatementByStatement.{all_meant, provable_kind}
use Rattle.mm_frame.proofs.Rules.ObeyedRules.{allmeant_prefix}
use Rattle.mm_text.specs.declared.fault.LoadRule.{LoadRule}
use Rattle.mm_base.specs.Token.{tokens_from}
use Rattle.mm_text.proofs.Replaced.ReplacedItems.{set_there}
use Rattle.mm_proof.specs.Strict.{IsStrict, HasFormOf}
use Rattle.mm_proof.specs.UnderProfile.{IsProvedUnder}
use Rattle.mm_step.specs.declared.profile.Profile.TheVariants.{Strict, Lenient}
use Rattle.mm_verdict.proofs.Verdicts.OneVerdict.{accepted_or_refused}
use Rattle.mm_text.specs.declared.fault.LoadRule.TheVariants as load

-- ==== what is said of theorems is said where other proofs of the same trees stand

-- ---- two statements at one index

pub record AreAlikeAt (prefix : List Sentence) (s t : PlainStatement) : Type 0 where
  pub said : sentence_of s ≡ sentence_of t
  pub proofs : is_proof s ≡ is_proof t
  pub unproved : is_unproved s ≡ is_unproved t
  pub tree : is_proof s ≡ true → (p : IsProved prefix (sentence_of s) (proof_of s)) → (q : IsProved prefix (sentence_of t) (proof_of t)) × (tree_of p ≡ tree_of q)

pub alike_at : (prefix : List Sentence) (s t : PlainStatement) → sentence_of s ≡ sentence_of t → proof_of s ≡ proof_of t → AreAlikeAt prefix s t
alike_at prefix s t said proof = record {
  said = said;
  proofs = λ i. is_provable (said i).kind && not (is_incomplete (proof i));
  unproved = λ i. is_provable (said i).kind && is_incomplete (proof i);
  tree = λ complete p. subst (λ (z : List (List ℕ)).
      (q : IsProved prefix (sentence_of t) z) × (tree_of p ≡ tree_of q)) proof
      (subst (λ (w : Sentence). (q : IsProved prefix w (proof_of s)) × (tree_of p ≡ tree_of q)) said
      (p, refl));
}

-- ---- two lists of statements

pub record Carries (statements others : List PlainStatement) : Type 0 where
  pub told : sentences statements ≡ sentences others
  pub at : (index : ℕ) (s : PlainStatement) → slice_get statements index ≡ Some s
      → (t : PlainStatement) × (slice_get others index ≡ Some t) × AreAlikeAt (sentences (take index statements)) s t

pub prefix_told : (statements others : List PlainStatement) (index : ℕ) → sentences statements ≡ sentences others → sentences (take index statements) ≡ sentences (take index others)
prefix_told statements others index told = map-take index statements ∙ ap (take index) told ∙ sym (map-take index others)

pub prefix_meant : (profile : Profile) (statements : List PlainStatement) (n : ℕ)
    → AllObey profile statements → AllMeant (sentences (take n statements))
prefix_meant profile statements n obeyed =
    subst AllMeant (sym (map-take n statements))
    (allmeant_prefix (sentences statements) n (all_meant profile statements obeyed))

pub index_carried : (statements others : List PlainStatement) (id index : ℕ) (s t : PlainStatement) → sentences statements ≡ sentences others → sentence_of s ≡ sentence_of t → slice_get others index ≡ Some t
    → IsAt statements id index s → IsAt others id index t
index_carried statements others id index s t told said there at = record {
  there = there;
  numbered = subst (λ (x : Sentence). IsNumbered (sentences others) id index x) said (subst (λ (ss : List Sentence). IsNumbered ss id index (sentence_of s)) told at.numbered);
}

-- the tree of the proof at an index, where another of the same tree stands there
pub tree_at : (statements others : List PlainStatement) (id index : ℕ) (t : Trees)
    → sentences statements ≡ sentences others → (has : HasTree statements id index t)
    → (u : PlainStatement) → slice_get others index ≡ Some u
    → AreAlikeAt (sentences (take index statements)) has.s u → HasTree others id index t
tree_at statements others id index t told has u there alike =
    let (q, same) = alike.tree has.complete has.proof in
    let moved : (p : IsProved (sentences (take index others)) (sentence_of u) (proof_of u)) × (t ≡ tree_of p) =
    subst (λ (prefix : List Sentence). (p : IsProved prefix (sentence_of u) (proof_of u)) × (t ≡ tree_of p)) (prefix_told statements others index told) (q, has.spelled ∙ same) in
    record {
      s = u;
      at = index_carried statements others id index has.s u told alike.said there has.at;
      complete = sym alike.proofs ∙ has.complete;
      proof = moved.0;
      spelled = moved.1;
    }

-- the tree of a proof
pub tree_carried : (statements others : List PlainStatement) (id index : ℕ) (t : Trees) → Carries statements others → HasTree statements id index t → HasTree others id index t
tree_carried statements others id index t carries has =
    let (u, there, alike) = carries.at index has.s has.at.there in
    tree_at statements others id index t carries.told has u there alike

uses_carried : (statements others : List PlainStatement) (id used : ℕ) → Carries statements others → Uses statements id used → Uses others id used
uses_carried statements others id used carries (index, t, has, number) =
    (index, t, tree_carried statements others id index t carries has, subst (λ (prefix : List Sentence). IsUsedNumber prefix t used) (prefix_told statements others index carries.told) number)

rests_carried : (statements others : List PlainStatement) (theorem id : ℕ) → Carries statements others → RestsOn (Uses statements) theorem id → RestsOn (Uses others) theorem id
rests_carried statements others theorem id carries =
    rests_as (Uses statements) (Uses others)
    (λ n used. uses_carried statements others n used carries) theorem id

-- the number of a statement
number_carried : (statements others : List PlainStatement) (P : PlainStatement → Type 0) (id : ℕ) → Carries statements others
    → ((prefix : List Sentence) (s t : PlainStatement) → AreAlikeAt prefix s t → P s → P t) → IsNumberWhere statements P id → IsNumberWhere others P id
number_carried statements others P id carries so (index, s, at, is) =
    let (t, there, alike) = carries.at index s at.there in
    (index, t, index_carried statements others id index s t carries.told alike.said there at, so (sentences (take index statements)) s t alike is)

-- the numbers of those that the theorem rests on, in order
order_carried : (statements others : List PlainStatement) (P : PlainStatement → Type 0)
    (theorem : ℕ) (ids : List ℕ) → Carries statements others → Carries others statements
    → ((prefix : List Sentence) (s t : PlainStatement) → AreAlikeAt prefix s t → P s → P t)
    → AreInOrder (λ n. IsNumberWhere statements P n × RestsOn (Uses statements) theorem n) ids
    → AreInOrder (λ n. IsNumberWhere others P n × RestsOn (Uses others) theorem n) ids
order_carried statements others P theorem ids to from so order = in_order_same _ _ ids order (λ n. (
  (λ h. (number_carried _ _ P n to so h.0, rests_carried statements others theorem n to h.1)),
  λ h. (number_carried _ _ P n from so h.0, rests_carried others statements theorem n from h.1),
))

-- a report
pub report_carried : (statements others : List PlainStatement) (label : List ℕ) (axioms unproved : List ℕ) → Carries statements others → Carries others statements
    → IsReport statements label axioms unproved → IsReport others label axioms unproved
report_carried statements others label axioms unproved to from r = record {
  id = r.id;
  theorem = number_carried statements others (λ s. IsLabelled label (sentence_of s) × (is_proof s ≡ true)) r.id to
      (λ prefix s t alike is. (subst (IsLabelled label) alike.said is.0, sym alike.proofs ∙ is.1)) r.theorem;
  are_axioms = order_carried statements others (λ s. s.kind ≡ Axiom) r.id axioms to from
      (λ prefix s t alike is. sym (ap (λ (x : Sentence). x.kind) alike.said) ∙ is) r.are_axioms;
  are_unproved = order_carried statements others (λ s. is_unproved s ≡ true) r.id unproved to from
      (λ prefix s t alike is. sym alike.unproved ∙ is) r.are_unproved;
}

-- ==== what is put into a file, and why nothing is

-- ---- files

pub number_within : (files : List File) (k : ℕ) (f : PlainFile) → slice_get (map plain_file files) k ≡ Some f → k < length files
number_within files k f is =
    omega (arith, slice_get_within (map plain_file files) k f is, length-map files plain_file)

-- it has no more bytes than all
pub file_within : (files : List PlainFile) (k : ℕ) (f : PlainFile) → slice_get files k ≡ Some f → length f.bytes ≤ total_bytes files
file_within files k f is =
    let Long : PlainFile → ℕ = λ g. length g.bytes in
    let own = get_or-le-sum_by Long files k f (slice_get_within files k f is) in
    omega (arith, own, ap Long (get_or_from_slice_get files k f f is))

-- with others in their place
pub replaced_at : (files : List PlainFile) (k : ℕ) (f g : PlainFile) → slice_get files k ≡ Some f → total_bytes (slice_set files k g) + length f.bytes ≡ total_bytes files + length g.bytes
replaced_at files k f g is =
    let Long : PlainFile → ℕ = λ x. length x.bytes in
    let all = sum_by-set Long files k g f (slice_get_within files k f is) in
    omega (arith, all, ap Long (get_or_from_slice_get files k f f is))

pub with_bytes_is : (files : List PlainFile) (k : ℕ) (f : PlainFile) (bytes : List ℕ) → slice_get files k ≡ Some f → with_bytes files k bytes ≡ slice_set files k (record f { bytes = bytes })
with_bytes_is files k f bytes there = ap (λ (o : Option PlainFile). elim o [ None ↦ files | Some g ↦ slice_set files k (record g { bytes = bytes }) ]) there

-- the most that it may have
pub most_is : (files : List PlainFile) (k : ℕ) (f : PlainFile) (bytes : List ℕ) (total : ℕ)
    → slice_get files k ≡ Some f → total_bytes files ≤ most_bytes → total ≡ total_bytes files
    → (most_bytes - (total - length f.bytes) < length bytes)
    ↔ (most_bytes < total_with files k bytes)
most_is files k f bytes total there within same =
    let own = file_within files k f there in
    let put = replaced_at files k f (record f { bytes = bytes }) there in
    let with_it = ap total_bytes (with_bytes_is files k f bytes there) in (
      λ less. omega (arith, less, own, put, with_it, same, within),
      λ over. omega (arith, over, own, put, with_it, same, within),
    )

pub file_most : (files : List File) (k : ℕ) (d : File) (bytes : List ℕ) (total : ℕ)
    → k < length files → total_bytes (map plain_file files) ≤ most_bytes
    → total ≡ total_bytes (map plain_file files)
    → (most_bytes - (total - length (slice_index_or files k d).bytes.now) < length bytes)
    ↔ (most_bytes < total_with (map plain_file files) k bytes)
file_most files k d bytes total less within same =
    most_is (map plain_file files) k (plain_file (slice_index_or files k d)) bytes total
    (file_there files k d less) within same

-- ---- where a theorem stands

pub home_file : (files : List PlainFile) (statements : List PlainStatement) (index : ℕ) (s : PlainStatement) → Reads files statements None → slice_get statements index ≡ Some s
    → (file : PlainFile) × (slice_get files s.first.file ≡ Some file)
home_file files statements index s reads there =
    let indexed : IsInPlace files s = all_at (IsInPlace files) statements index s (readings_are_formed_in_place files statements None reads).in_place there in
    (indexed.first.0, indexed.first.1)

pub provable_proof : (s : PlainStatement) → is_proof s ≡ true → s.kind ≡ Provable
provable_proof s complete = provable_kind s.kind (not (is_incomplete (proof_of s))) complete

pub within_bytes : (s : PlainStatement) (bytes : List ℕ) → IsProofSpan s bytes
    → (s.span.0 ≤ s.span.1) × (s.span.1 ≤ length bytes)
within_bytes s bytes p =
    let long : length bytes ≡ length p.prefix + (length p.within + length p.back) =
    ap length p.whole ∙ length-append p.prefix (p.within ++ p.back)
    ∙ ap (λ (n : ℕ). length p.prefix + n) (length-append p.within p.back) in
    (omega (arith, p.start, p.stop), omega (arith, long, p.stop))

-- what stands under a label stands at one index
pub home_of : (statements : List PlainStatement) (label : List ℕ) (t : PlainStatement) (number : ℕ) (span : ℕ × ℕ) → AllMeant (sentences statements) → Stands statements label t
    → number ≡ t.first.file → span ≡ t.span → IsHomeOf statements label number span
home_of statements label t number span all stands home same s (index, there, named) =
    let one : t ≡ s = one_stands statements label index s t all there named stands in
    (home ∙ ap (λ (u : PlainStatement). u.first.file) one, same ∙ ap (λ (u : PlainStatement). u.span) one)

-- ---- files that are accepted

pub accepted_of : (profile : Profile) (files : List PlainFile) (answer : Result Conclusion CheckFault) (c : Conclusion) → answer ≡ Ok c → IsVerdict profile files answer → (statements : List PlainStatement) × AreAccepted profile files statements
accepted_of profile files answer c is holds =
    let told : verdict_of_answer answer ≡ Some (verdict_of_conclusion c) = ap verdict_of_answer is in
    accepted_with profile files c c.incomplete (holds (verdict_of_conclusion c) told)

-- ==== files in which one proof is put in for another are accepted alike

-- ---- the statement with its new proof

abbrev pub nowhere : ℕ → ℕ → ℕ
nowhere file at = 0

-- with the tokens of a text as its proof
abbrev pub put_anew : PlainStatement → List ℕ → PlainStatement
put_anew s text = record s { proof = tokens_from s.first.file s.span.0 text; span = (s.span.0, s.span.0 + length text) }

-- A new proof of the statement: it's strict, the profile allows it, and its tree may stand there.
pub record IsNewProof (profile : Profile) (May : Trees → Type 0) (prefix : List Sentence)
    (s : Sentence) (tokens : List (List ℕ)) : Type 0 where
  pub strict : IsStrict prefix s tokens
  pub under : IsProvedUnder profile prefix s tokens
  pub proof : IsProved prefix s tokens
  pub may : May (tree_of proof)

-- the strict form is the one that either profile demands
pub form_of_strict : (profile : Profile) (prefix : List Sentence) (s : Sentence)
    (tokens : List (List ℕ)) → IsStrict prefix s tokens → HasFormOf profile prefix s tokens
form_of_strict Strict prefix s tokens strict = strict
form_of_strict Lenient prefix s tokens strict = tt

-- ---- one file among the files

-- it is there with the new bytes
pub handed_anew : (files : List PlainFile) (k : ℕ) (f : PlainFile) (bytes : List ℕ)
    → slice_get files k ≡ Some f
    → slice_get (with_bytes files k bytes) k ≡ Some (record f { bytes = bytes })
handed_anew files k f bytes there =
    rw (with_bytes_is files k f bytes there) (set_there files k f _ there)

-- its bytes are the last ones
pub with_bytes_again : (files : List PlainFile) (k : ℕ) (f : PlainFile) (bytes others : List ℕ)
    → slice_get files k ≡ Some f
    → with_bytes (with_bytes files k bytes) k others ≡ with_bytes files k others
with_bytes_again files k f bytes others there =
    with_bytes_is (with_bytes files k bytes) k (record f { bytes = bytes }) others
    (handed_anew files k f bytes there)
    ∙ ap (λ (fs : List PlainFile). slice_set fs k (record f { bytes = others }))
    (with_bytes_is files k f bytes there)
    ∙ set-set files k (record f { bytes = bytes }) (record f { bytes = others })
    ∙ sym (with_bytes_is files k f others there)

-- and its own ones change nothing
pub with_bytes_own : (files : List PlainFile) (k : ℕ) (f : PlainFile)
    → slice_get files k ≡ Some f → with_bytes files k f.bytes ≡ files
with_bytes_own files k f there =
    with_bytes_is files k f f.bytes there
    ∙ ap (λ (g : PlainFile). slice_set files k g) (sym (get_or_from_slice_get files k f f there))
    ∙ set-get_or files k f

-- ---- the files as a whole

named_back : (files : List PlainFile) (k : ℕ) (f : PlainFile) (bytes : List ℕ) → slice_get files k ≡ Some f → (i : ℕ) (x : PlainFile) → slice_get (slice_set files k (record f { bytes = bytes })) i ≡ Some x
    → (y : PlainFile) × (slice_get files i ≡ Some y) × (y.name ≡ x.name)
named_back files k f bytes there i x e =
    elim (get_set_cases files k i (record f { bytes = bytes }) x e) [
      | inl (here, same) ↦ (f, rw here there, ap (λ (u : PlainFile). u.name) same)
      | inr (apart, old) ↦ (x, old, refl)
    ]

pub readable_anew : (files : List PlainFile) (k : ℕ) (f : PlainFile) (bytes : List ℕ) → slice_get files k ≡ Some f → total_with files k bytes ≤ most_bytes → CanBeRead files → CanBeRead (with_bytes files k bytes)
readable_anew files k f bytes there fits readable rule broken = by_rule rule (subst (λ (fs : List PlainFile). BreaksLoad fs rule) (with_bytes_is files k f bytes there) broken)
  where
    less : k < length files
    less = slice_get_within files k f there

    by_rule : (r : LoadRule) → BreaksLoad (slice_set files k (record f { bytes = bytes })) r → ⊥
    by_rule load.F1 e =
        omega (arith, less, ap length e, length-set files k (record f { bytes = bytes }))
    by_rule load.F2 (some, twins) =
        let (x, at_i, one) = named_back files k f bytes there twins.i twins.one twins.at_i in
        let (y, at_j, two) = named_back files k f bytes there twins.j twins.other twins.at_j in
        readable load.F2 ((λ none. omega (arith, less, ap length none)), record { i = twins.i; j = twins.j; one = x; other = y; apart = twins.apart; at_i = at_i; at_j = at_j; same = one ∙ twins.same ∙ sym two })
    by_rule load.F3 e =
        let more : most_bytes < total_bytes (slice_set files k (record f { bytes = bytes })) = e.2 in
        omega (arith, more, ap total_bytes (with_bytes_is files k f bytes there), fits)

-- ---- the verdict

pub verdict_carried : (profile : Profile) (files others : List PlainFile) (st su : List PlainStatement) → AreAccepted profile files st → AreAccepted profile others su → unproved_of st ≡ unproved_of su → length st ≡ length su → proofs_of st ≡ proofs_of su
    → (v : Verdict) → HasVerdict profile files v → HasVerdict profile others v
verdict_carried profile files others st su one other unproved long proofs (Load rule) (broken, breaks, is) = absurd (one.readable broken breaks)
verdict_carried profile files others st su one other unproved long proofs (Refused refusal) holds = absurd (accepted_or_refused profile files st holds.1 holds.2 refusal one holds.3 holds.4)
verdict_carried profile files others st su one other unproved long proofs (Incomplete labels) (ss, accepted, is, some) =
    let same : ss ≡ st = (same_reading files ss st None None accepted.reads one.reads).0 in
    (su, other, is ∙ ap unproved_of same ∙ unproved, some)
verdict_carried profile files others st su one other unproved long proofs (Yes count done) (ss, accepted, none_left, counted, proved) =
    let same : ss ≡ st = (same_reading files ss st None None accepted.reads one.reads).0 in
    (su, other, sym unproved ∙ sym (ap unproved_of same) ∙ none_left, counted ∙ ap (λ (l : List PlainStatement). length l) same ∙ long, proved ∙ ap proofs_of same ∙ proofs)
