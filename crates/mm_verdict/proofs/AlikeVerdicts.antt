-- Files that show the same have the same verdict.
use Rattle.std.proofs.Common.{◌≡◌, ℕ, zero, suc, ◌+◌, ◌≤◌, ◌<◌, List, [], ◌∷◌, ◌++◌, map, length}
use Rattle.std.proofs.Common.{filter, fold, flat_map, slice_get, Bool, true, false}
use Rattle.std.proofs.Common.{cond, not, ◌&&◌, Option, Some, None, option_map, option_to_list}
use Rattle.std.proofs.Common.{◌⊎◌, inl, inr, refl, sym, ap, subst, ◌∙◌, arith}
use Rattle.std.specs.List.{AllZip}
use Rattle.mm_text.specs.declared.fault.LoadRule.{LoadRule}
use Rattle.mm_base.specs.Token.{PlainToken}
use Rattle.mm_base.specs.Statement.{PlainStatement, is_provable}
use Rattle.mm_base.specs.MostBytes.{most_bytes}
use Rattle.mm_text.specs.Files.{PlainFile, total_bytes, HasTwins, BreaksLoad}
use Rattle.mm_text.specs.Reading.{PlainFault, Reads}
use Rattle.mm_text.specs.LineNumbers.{feeds_in}
use Rattle.mm_text.specs.Alike.{token_on, statement_on, fault_on, AreAlike, AreReadAlike}
use Rattle.mm_text.specs.Alike.{AlikeFilesAreReadAlike}
use Rattle.mm_frame.specs.declared.rule.MeaningRule.{MeaningRule}
use Rattle.mm_frame.specs.Sentence.{Sentence, sentence_of}
use Rattle.mm_frame.specs.Rules.{FirstBroken, IsMeant}
use Rattle.mm_step.specs.declared.fault.ProofRule.{ProofRule}
use Rattle.mm_proof.specs.UnderProfile.{IsProvedUnder, IsFaultUnder, IsPrefixAllowedUnder}
use Rattle.mm_proof.specs.UnderProfile.{IsPrefixFaultUnder}
use Rattle.mm_step.specs.declared.profile.Profile.{Profile}
use Rattle.mm_proof.specs.Tokens.{is_incomplete}
use Rattle.mm_rules.specs.declared.rule.Rule.{Rule}
use Rattle.mm_rules.specs.Verdict.{Verdict, Load, Refused, Incomplete, Yes, PlainRefusal}
use Rattle.mm_rules.specs.Verdict.{HasVerdict, Obeys, AllObey, RefusesStatement, RefusesText}
use Rattle.mm_rules.specs.Verdict.{AreAccepted, CanBeRead, sentences, proof_of, is_proof}
use Rattle.mm_rules.specs.Verdict.{is_unproved, label_of, unproved_of, proofs_of, refusal_of}
use Rattle.mm_rules.specs.Verdict.{text_refusal}
use Rattle.mm_rules.specs.Places.{name_of}
use Rattle.mm_base.proofs.Lists.{cons_split, append_split, same_length, unmapped}
use Rattle.mm_text.specs.declared.fault.LoadRule.TheVariants as load
use Rattle.mm_rules.specs.declared.rule.Rule.TheVariants as rules

-- ## What is said of statements is said of them with lines in place of positions

-- a line changes no text
texts_on : (h : ℕ → ℕ → ℕ) (ts : List PlainToken) → map (λ t. t.text) ts ≡ map (λ t. t.text) (map (token_on h) ts)
texts_on h [] = refl
texts_on h (t ∷ ts) = ap (λ (l : List (List ℕ)). t.text ∷ l) (texts_on h ts)

-- nor that of a label
text_on : (h : ℕ → ℕ → ℕ) (o : Option PlainToken) → option_map (λ t. t.text) o ≡ option_map (λ t. t.text) (option_map (token_on h) o)
text_on h None = refl
text_on h (Some t) = refl

-- nor what a statement says
sentence_on : (h : ℕ → ℕ → ℕ) (s : PlainStatement) → sentence_of s ≡ sentence_of (statement_on h s)
sentence_on h s = cc (text_on h s.label, texts_on h s.symbols)

-- nor its proof
proof_on : (h : ℕ → ℕ → ℕ) (s : PlainStatement) → proof_of s ≡ proof_of (statement_on h s)
proof_on h s = texts_on h s.proof

-- nor what more of them say
sentences_on : (h : ℕ → ℕ → ℕ) (ss : List PlainStatement) → sentences ss ≡ sentences (map (statement_on h) ss)
sentences_on h [] = refl
sentences_on h (s ∷ ss) = cc (sentence_on h s, sentences_on h ss)

-- nor how many are proved
counted_on : (h : ℕ → ℕ → ℕ) (n : ℕ) (ss : List PlainStatement) → fold (λ a x. a + cond (is_proof x) 1 0) n ss ≡ fold (λ a x. a + cond (is_proof x) 1 0) n (map (statement_on h) ss)
counted_on h n [] = refl
counted_on h n (s ∷ ss) =
    counted_on h (n + cond (is_proof s) 1 0) ss
    ∙ ap (λ (p : List (List ℕ)). fold (λ a x. a + cond (is_proof x) 1 0) (n
    + cond (is_provable s.kind && not (is_incomplete p)) 1 0) (map (statement_on h) ss)) (proof_on h s)

-- labels of a statement that is kept or not
kept : (b : Bool) (s t : PlainStatement) (ss us : List PlainStatement) → label_of s ≡ label_of t → flat_map label_of ss ≡ flat_map label_of us
    → flat_map label_of (cond b (s ∷ ss) ss) ≡ flat_map label_of (cond b (t ∷ us) us)
kept true s t ss us first others =
    ap (λ (l : List (List ℕ)). l ++ flat_map label_of ss) first ∙ ap (λ (l : List (List ℕ)). label_of t ++ l) others
kept false s t ss us first others = others

-- nor the labels of those that aren't
unproved_on : (h : ℕ → ℕ → ℕ) (ss : List PlainStatement) → unproved_of ss ≡ unproved_of (map (statement_on h) ss)
unproved_on h [] = refl
unproved_on h (s ∷ ss) =
    let us : List PlainStatement = map (statement_on h) ss in
    kept (is_unproved s) s (statement_on h s) (filter is_unproved ss) (filter is_unproved us) (ap option_to_list (text_on h s.label)) (unproved_on h ss)
    ∙ ap (λ (p : List (List ℕ)). flat_map label_of (cond (is_provable s.kind && is_incomplete p)
    (statement_on h s ∷ filter is_unproved us) (filter is_unproved us))) (proof_on h s)

-- ## What is said of statements is said of others that differ in positions alone

pub same_sentence : (h k : ℕ → ℕ → ℕ) (s t : PlainStatement) → statement_on h s ≡ statement_on k t → sentence_of s ≡ sentence_of t
same_sentence h k s t is = sentence_on h s ∙ ap sentence_of is ∙ sym (sentence_on k t)

pub same_proof : (h k : ℕ → ℕ → ℕ) (s t : PlainStatement) → statement_on h s ≡ statement_on k t → proof_of s ≡ proof_of t
same_proof h k s t is = proof_on h s ∙ ap proof_of is ∙ sym (proof_on k t)

pub same_sentences : (h k : ℕ → ℕ → ℕ) (ss us : List PlainStatement) → map (statement_on h) ss ≡ map (statement_on k) us → sentences ss ≡ sentences us
same_sentences h k ss us is = sentences_on h ss ∙ ap sentences is ∙ sym (sentences_on k us)

pub same_proofs : (h k : ℕ → ℕ → ℕ) (ss us : List PlainStatement) → map (statement_on h) ss ≡ map (statement_on k) us → proofs_of ss ≡ proofs_of us
same_proofs h k ss us is = counted_on h 0 ss ∙ ap proofs_of is ∙ sym (counted_on k 0 us)

pub same_unproved : (h k : ℕ → ℕ → ℕ) (ss us : List PlainStatement) → map (statement_on h) ss ≡ map (statement_on k) us → unproved_of ss ≡ unproved_of us
same_unproved h k ss us is = unproved_on h ss ∙ ap unproved_of is ∙ sym (unproved_on k us)

-- what is said of three values is said of the same ones
pub moved : {X Y Z : Type 0} (P : X → Y → Z → Type 0) (x x' : X) (y y' : Y) (z z' : Z) → x ≡ x' → y ≡ y' → z ≡ z' → P x y z → P x' y' z'
moved P x x' y y' z z' e f g h = rw (e, f, g) at h

-- what a statement obeys, by what it says and its proof
abbrev ObeysAs : Profile → List Sentence → Sentence → List (List ℕ) → Type 0
ObeysAs profile before x p =
    IsMeant before x
    × (is_provable x.kind && not (is_incomplete p) ≡ true → IsProvedUnder profile before x p)
    × (is_provable x.kind && is_incomplete p ≡ true → IsPrefixAllowedUnder profile before x p)

pub obeys_alike : (profile : Profile) (before others : List Sentence) (s t : PlainStatement) → before ≡ others → sentence_of s ≡ sentence_of t → proof_of s ≡ proof_of t
    → Obeys profile before s → Obeys profile others t
obeys_alike profile before others s t e f g obeyed =
    let (meant, proved, known) =
    moved (ObeysAs profile) _ _ _ _ _ _ e f g (obeyed.meant, obeyed.proved, obeyed.known) in
    record { meant = meant; proved = proved; known = known }

-- the fault of its proof, by the same
abbrev IsProofFaultAs : Profile → ProofRule → ℕ → List Sentence → Sentence → List (List ℕ) → Type 0
IsProofFaultAs profile rule step before x p =
    ((is_provable x.kind && not (is_incomplete p) ≡ true)
    × IsFaultUnder profile before x p rule step)
    ⊎ ((is_provable x.kind && is_incomplete p ≡ true)
    × IsPrefixFaultUnder profile before x p rule step)

-- its fault, by the same
abbrev HasFaultAs : Profile → Rule → ℕ → List Sentence → Sentence → List (List ℕ) → Type 0
HasFaultAs profile rule step before x p =
    ((broken : MeaningRule) × FirstBroken broken before x × (rule ≡ rules.Meaning broken) × (step ≡ 0))
    ⊎ (IsMeant before x
    × (broken : ProofRule) × IsProofFaultAs profile broken step before x p
    × (rule ≡ rules.Proof broken))

-- all obey the rules if all of the others do
all_obey_alike : (profile : Profile) (h k : ℕ → ℕ → ℕ) (ss us : List PlainStatement) → map (statement_on h) ss ≡ map (statement_on k) us → AllObey profile ss → AllObey profile us
all_obey_alike profile h k ss us is obeyed before after s split =
    let (earlier, rest, whole, prefix, back) = append_split (statement_on k) (statement_on h) before (s ∷ after) ss (sym (is ∙ ap (map (statement_on k)) split)) in
    let (t, later, cut, same, tail) = cons_split (statement_on k) (statement_on h) s after rest back in
    obeys_alike profile (sentences earlier) (sentences before) t s (sym (same_sentences k h before earlier prefix)) (sym (same_sentence k h s t same)) (sym (same_proof k h s t same))
    (obeyed earlier later t (whole ∙ ap (λ (l : List PlainStatement). earlier ++ l) cut))

-- ## Refusals

-- a refusal without its position, of which its line alone is told
abbrev without_at : PlainRefusal → PlainRefusal
without_at refusal = record refusal { at = 0 }

-- the refusal of a statement, by its first token's line
abbrev refusal_at : ℕ → PlainStatement → Rule → ℕ → PlainRefusal
refusal_at count s rule step =
    record (refusal_of [] count s rule step) { at = 0; line = s.first.at + 1 }

refusal_on : (files : List PlainFile) (count : ℕ) (s : PlainStatement) (rule : Rule) (step : ℕ)
    → without_at (refusal_of files count s rule step)
    ≡ refusal_at count (statement_on (feeds_in files) s) rule step
refusal_on files count s rule step =
    λ i. record (without_at (refusal_of files count s rule step)) {
      label = text_on (feeds_in files) s.label i;
    }

-- the refusal of the text, by the line of its fault
abbrev text_refusal_at : PlainFault → PlainRefusal
text_refusal_at fault = record (text_refusal [] fault) { at = 0; line = fault.at + 1 }

text_refusal_on : (files : List PlainFile) (fault : PlainFault)
    → without_at (text_refusal files fault) ≡ text_refusal_at (fault_on (feeds_in files) fault)
text_refusal_on files fault =
    λ i. record (without_at (text_refusal files fault)) {
      label = text_on (feeds_in files) fault.label i;
    }

-- another refusal is the same, but for its position
abbrev IsSameRefusal : (PlainRefusal → Type 0) → PlainRefusal → Type 0
IsSameRefusal Refuses refusal =
    (other : PlainRefusal) × Refuses other × (without_at refusal ≡ without_at other)

refuses_statement_alike : (profile : Profile) (files others : List PlainFile) (ss us : List PlainStatement) (refusal : PlainRefusal)
    → map (statement_on (feeds_in files)) ss ≡ map (statement_on (feeds_in others)) us
    → RefusesStatement profile files ss refusal
    → IsSameRefusal (RefusesStatement profile others us) refusal
refuses_statement_alike profile files others ss us refusal is r =
    let h : ℕ → ℕ → ℕ = feeds_in files in
    let k : ℕ → ℕ → ℕ = feeds_in others in
    let (before, rest, whole, prefix, back) = append_split (statement_on h) (statement_on k) r.before (r.s ∷ r.after) us (sym (ap (map (statement_on h)) r.split) ∙ is) in
    let (t, after, cut, same, tail) = cons_split (statement_on h) (statement_on k) r.s r.after rest back in
    let count = same_length (statement_on h) (statement_on k) r.before before prefix in (
      refusal_of others (length before) t r.rule r.step,
      record {
        before = before;
        s = t;
        after = after;
        split = whole ∙ ap (λ (l : List PlainStatement). before ++ l) cut;
        obeyed = all_obey_alike profile h k r.before before prefix r.obeyed;
        rule = r.rule;
        step = r.step;
        fault = moved (HasFaultAs profile r.rule r.step) _ _ _ _ _ _ (same_sentences h k r.before before prefix) (same_sentence h k r.s t same) (same_proof h k r.s t same) r.fault;
        refused = refl;
      },
      ap without_at r.refused ∙ refusal_on files (length r.before) r.s r.rule r.step
          ∙ (λ i. refusal_at (count i) (same i) r.rule r.step)
          ∙ sym (refusal_on others (length before) t r.rule r.step),
    )

-- a fault corresponds to a fault
some_fault : (h k : ℕ → ℕ → ℕ) (f : PlainFault) (o : Option PlainFault) → Some (fault_on h f) ≡ option_map (fault_on k) o
    → (g : PlainFault) × (o ≡ Some g) × (fault_on h f ≡ fault_on k g)
some_fault h k f None is = cc is
some_fault h k f (Some g) is = (g, refl, cc is)

refuses_text_alike : (profile : Profile) (files others : List PlainFile) (ss us : List PlainStatement) (ending end : Option PlainFault) (refusal : PlainRefusal)
    → map (statement_on (feeds_in files)) ss ≡ map (statement_on (feeds_in others)) us
    → option_map (fault_on (feeds_in files)) ending ≡ option_map (fault_on (feeds_in others)) end
    → RefusesText profile files ss ending refusal
    → IsSameRefusal (RefusesText profile others us end) refusal
refuses_text_alike profile files others ss us ending end refusal is ended r =
    let h : ℕ → ℕ → ℕ = feeds_in files in
    let k : ℕ → ℕ → ℕ = feeds_in others in
    let (g, there, same) = some_fault h k r.fault end (sym (ap (option_map (fault_on h)) r.ended) ∙ ended) in (
      text_refusal others g,
      record {
        obeyed = all_obey_alike profile h k ss us is r.obeyed;
        fault = g;
        ended = there;
        refused = refl;
      },
      ap without_at r.refused ∙ text_refusal_on files r.fault ∙ ap text_refusal_at same
          ∙ sym (text_refusal_on others g),
    )

-- ## The files as a whole

-- alike is meant both ways
pub alike_back : (files others : List PlainFile) → AllZip AreAlike files others → AllZip AreAlike others files
alike_back [] [] alike = tt
alike_back (f ∷ fs) (g ∷ gs) alike = ((sym alike.0.0, λ file. sym (alike.0.1 file)), alike_back fs gs alike.1)
alike_back fs gs alike = absurd alike

-- none are alike to none
none_alike : (files others : List PlainFile) → AllZip AreAlike files others → files ≡ [] → others ≡ []
none_alike files [] alike is = refl
none_alike [] (g ∷ gs) alike is = absurd alike
none_alike (f ∷ fs) (g ∷ gs) alike is = cc is

-- the file with the same number has the same name
pub name_alike : (files others : List PlainFile) → AllZip AreAlike files others → (file : ℕ) → name_of files file ≡ name_of others file
name_alike [] [] alike file = refl
name_alike (f ∷ fs) (g ∷ gs) alike zero = alike.0.0
name_alike (f ∷ fs) (g ∷ gs) alike (suc file) = name_alike fs gs alike.1 file
name_alike fs gs alike file = absurd alike

there_alike : (files others : List PlainFile) → AllZip AreAlike files others → (i : ℕ) (f : PlainFile) → slice_get files i ≡ Some f
    → (g : PlainFile) × (slice_get others i ≡ Some g) × (f.name ≡ g.name)
there_alike [] [] alike i f is = cc is
there_alike (e ∷ es) (h ∷ hs) alike zero f is = (h, refl, cc (is, alike.0.0))
there_alike (e ∷ es) (h ∷ hs) alike (suc i) f is = there_alike es hs alike.1 i f is
there_alike es hs alike i f is = absurd alike

twins_alike : (files others : List PlainFile) → AllZip AreAlike files others → HasTwins files → HasTwins others
twins_alike files others alike twins =
    let (f, at_i, one) = there_alike files others alike twins.i twins.one twins.at_i in
    let (g, at_j, other) = there_alike files others alike twins.j twins.other twins.at_j in
    record {
      i = twins.i;
      j = twins.j;
      one = f;
      other = g;
      apart = twins.apart;
      at_i = at_i;
      at_j = at_j;
      same = sym one ∙ twins.same ∙ other;
    }

-- a rule that the files break as a whole is broken by others, if it isn't the one on their length
pub breaks_alike : (files others : List PlainFile) → AllZip AreAlike files others → total_bytes files ≤ most_bytes → (rule : LoadRule)
    → BreaksLoad files rule → BreaksLoad others rule
breaks_alike files others alike small load.F1 broken = none_alike files others alike broken
breaks_alike files others alike small load.F2 broken =
    (λ none. broken.0 (none_alike others files (alike_back files others alike) none), twins_alike files others alike broken.1)
breaks_alike files others alike small load.F3 broken =
    let large : most_bytes < total_bytes files = broken.2 in absurd (omega arith)

readable_alike : (files others : List PlainFile) → AllZip AreAlike files others → total_bytes others ≤ most_bytes → CanBeRead files → CanBeRead others
readable_alike files others alike small readable rule broken =
    readable rule (breaks_alike others files (alike_back files others alike) small rule broken)

-- ## The verdict

-- files that show the same are accepted alike
accepted_alike : (profile : Profile) → AlikeFilesAreReadAlike → (files others : List PlainFile) → AllZip AreAlike files others → total_bytes others ≤ most_bytes
    → (statements : List PlainStatement) → AreAccepted profile files statements
    → (same : List PlainStatement) × AreAccepted profile others same × (map (statement_on (feeds_in files)) statements ≡ map (statement_on (feeds_in others)) same)
accepted_alike profile law files others alike small statements accepted =
    let read : AreReadAlike files others statements None = law files others alike statements None accepted.reads in
    let none : read.end ≡ None = unmapped (fault_on (feeds_in others)) read.end (sym read.ended) in (
      read.same,
      record {
        readable = readable_alike files others alike small accepted.readable;
        reads = subst (λ (e : Option PlainFault). Reads others read.same e) none read.reads;
        obeyed = all_obey_alike profile (feeds_in files) (feeds_in others) statements read.same read.spelled accepted.obeyed;
      },
      read.spelled,
    )

-- a verdict without the position of its refusal
abbrev pub verdict_without_at : Verdict → Verdict
verdict_without_at (Refused refusal) = Refused (without_at refusal)
verdict_without_at verdict = verdict

-- another verdict is the same, but for that
abbrev pub IsSameVerdict : (Verdict → Type 0) → Verdict → Type 0
IsSameVerdict Holds verdict =
    (other : Verdict) × Holds other × (verdict_without_at verdict ≡ verdict_without_at other)

pub verdict_alike : (profile : Profile) → AlikeFilesAreReadAlike → (files others : List PlainFile) → AllZip AreAlike files others
    → total_bytes files ≤ most_bytes → total_bytes others ≤ most_bytes
    → (verdict : Verdict) → HasVerdict profile files verdict
    → IsSameVerdict (HasVerdict profile others) verdict
verdict_alike profile law files others alike small short (Load rule) holds =
    (Load rule, (holds.0, breaks_alike files others alike small holds.0 holds.1, holds.2), refl)
verdict_alike profile law files others alike small short (Refused refusal) holds =
    let read : AreReadAlike files others holds.1 holds.2 = law files others alike holds.1 holds.2 holds.3 in
    let refuses : IsSameRefusal (λ r. RefusesStatement profile others read.same r ⊎ RefusesText profile others read.same read.end r) refusal = elim (holds.4) [
      | inl r ↦
          let (other, told, same) = refuses_statement_alike profile files others holds.1 read.same refusal read.spelled r in
          (other, inl told, same)
      | inr r ↦
          let (other, told, same) = refuses_text_alike profile files others holds.1 read.same holds.2 read.end refusal read.spelled read.ended r in
          (other, inr told, same)
    ] in (
      Refused refuses.0,
      (readable_alike files others alike short holds.0, read.same, read.end, read.reads, refuses.1),
      ap Refused refuses.2,
    )
verdict_alike profile law files others alike small short (Incomplete labels) holds =
    let (same, accepted, is) = accepted_alike profile law files others alike short holds.0 holds.1 in (
      Incomplete labels,
      (same, accepted, holds.2 ∙ same_unproved (feeds_in files) (feeds_in others) holds.0 same is, holds.3),
      refl,
    )
verdict_alike profile law files others alike small short (Yes count proofs) holds =
    let (same, accepted, is) = accepted_alike profile law files others alike short holds.0 holds.1 in (
      Yes count proofs,
      (
        same,
        accepted,
        sym (same_unproved (feeds_in files) (feeds_in others) holds.0 same is) ∙ holds.2,
        holds.3 ∙ same_length (statement_on (feeds_in files)) (statement_on (feeds_in others)) holds.0 same is,
        holds.4 ∙ same_proofs (feeds_in files) (feeds_in others) holds.0 same is,
      ),
      refl,
    )
