-- Explanations of faults: how their text is put together, and that it is what they are to say.
use Rattle.std.proofs.Common.{◌≡◌, ℕ, ◌+◌, ◌-◌, ◌<◌, ◌≤◌, min}
use Rattle.std.proofs.Common.{List, [], ◌∷◌, ◌++◌, map, take}
use Rattle.std.specs.Global.{Vec}
use Rattle.std.proofs.Common.{filter, flat_map, length, length-append, append_assoc, append-nil}
use Rattle.std.proofs.Common.{not}
use Rattle.std.proofs.Common.{Bool, true, false, Option, Some, refl, sym, ap, subst, ◌∙◌, arith}
use Rattle.std.proofs.Common.{inl, inr, slice_get, ◌&&◌, ◌==◌, codes, decimal}
use Rattle.std.specs.List.{AllByRecursion, AllZip, sum_by}
use Rattle.std.proofs.lemmas.Bool.{cases_lt, eqb-true, false_from_ne_true}
use Rattle.std.proofs.lemmas.List.{take_all, take-append-le, take_min, take-map, map-append}
use Rattle.std.proofs.lemmas.List.{length-map, take-take}
use Rattle.std.proofs.lemmas.List.Elements.{filter-append}
use Rattle.std.proofs.lemmas.Grind.{flat_map-append}
use Rattle.mm_base.specs.declared.statement.Kind.TheVariants.{Provable}
use Rattle.mm_base.specs.declared.file.File.{File}
use Rattle.mm_base.specs.Token.{PlainToken}
use Rattle.mm_base.specs.Statement.{PlainStatement, HasForm, is_provable}
use Rattle.mm_text.specs.Files.{PlainFile, plain_file}
use Rattle.mm_text.specs.Reading.{PlainFault, Reads}
use Rattle.mm_base.specs.MostBytes.{most_bytes}
use Rattle.mm_base.proofs.Lists.{all_push, zip_push, zip_take, get_pushed, get_parted}
use Rattle.mm_frame.specs.declared.number.LabelId.{LabelId}
use Rattle.mm_frame.specs.declared.answer.Found.{Found}
use Rattle.mm_frame.specs.declared.answer.Found.TheVariants as found
use Rattle.mm_frame.specs.Sentence.{Sentence, sentence_of, IsLabelled}
use Rattle.mm_frame.specs.Form.{IsSound}
use Rattle.mm_frame.specs.Found.{Finds}
use Rattle.mm_frame.proofs.Names.LabelNumbers.{numbered_unique}
use Rattle.mm_frame.proofs.Rules.ObeyedRules.{one_label}
use Rattle.mm_step.specs.declared.fault.ProofRule.{ProofRule}
use Rattle.mm_step.specs.declared.profile.Profile.{Profile}
use Rattle.mm_proof.specs.Tokens.{is_incomplete}
use Rattle.mm_step.specs.Steps.{IsProofNumber}
use Rattle.mm_rules.specs.declared.fault.Refusal.{Refusal}
use Rattle.mm_rules.specs.Verdict.{CanBeRead, PlainRefusal, sentences, proof_of, IsProofFault}
use Rattle.mm_rules.specs.Answer.{plain_refusal}
use Rattle.mm_explain.specs.Why.{IsExplanation, IsLastExplanation, TellsFaults, TellsProofs}
use Rattle.mm_verdict.specs.Why.{is_of_proofs}
use Rattle.mm_explain.specs.Why.{most_explained, head_lines}
use Rattle.mm_groups.specs.Shared.{AreLabelsAt, AreLabelsOf, IsSharedLine, Labels}
use Rattle.mm_groups.specs.Mirror.Kept.{HasShared}
use Rattle.mm_groups.specs.declared.shared.Shared.{Shared}
use Rattle.mm_facts.specs.Why.{IsFaultPlace}
use Rattle.mm_explain.specs.Why.{listing_words, more_text, count_text}
use Rattle.mm_facts.specs.Explained.{IsTokensFault, Detail, AreDetails, detail_text, details_text}
use Rattle.mm_verdict.specs.Faults.{HaveFaults}
use Rattle.mm_explain.specs.Later.{IsUnknownIn, stated_later}
use Rattle.mm_verdict.specs.Reply.{refusal_status}
use Rattle.mm_rules.specs.declared.judge.Judged.{Judged}
use Rattle.mm_rules.specs.declared.judge.Judged.TheVariants.{Faulty}
use Rattle.mm_rules.specs.Mirror.Visits.{IsMet, refusals_in}
use Rattle.mm_rules.specs.declared.rule.Rule.TheVariants as rules
use Rattle.mm_explain.specs.Mirror.Outlined.{IsOutlineOf}
use Rattle.mm_explain.specs.Mirror.Reasons.{AreExplained, AreNoted, Explains, HasExplained}
use Rattle.mm_explain.specs.Mirror.Reasons.{IsRefusedLast, Notes, most_kept, texts_in}
use Rattle.mm_explain.specs.Mirror.Standing.{IsPlaced}
use Rattle.mm_explain.specs.HypothesisPlaces.{AreHypothesisPlaces}
use Rattle.mm_explain.specs.Unused.{AreUnused, unused_text}
use Rattle.mm_explain.specs.declared.why.Reasons.{Reasons}
use Rattle.mm_verdict.proofs.Verdicts.AcceptedStatements.{proof_fits}
use Rattle.mm_rules.proofs.Judgements.JudgedProofs.{prefix_of}
use Rattle.mm_verdict.proofs.Questions.AskedTheorems.{hypothesis_other}
use denote.Ref.{Bor}

-- ==== a text that is written part by part

pub eight_parts : (out a b c d e f g h o₁ o₂ o₃ o₄ o₅ o₆ o₇ o₈ : List ℕ)
    → o₁ ≡ out ++ a → o₂ ≡ o₁ ++ b → o₃ ≡ o₂ ++ c → o₄ ≡ o₃ ++ d → o₅ ≡ o₄ ++ e → o₆ ≡ o₅ ++ f
    → o₇ ≡ o₆ ++ g → o₈ ≡ o₇ ++ h
    → o₈ ≡ out ++ (a ++ b ++ c ++ d ++ e ++ f ++ g ++ h)
eight_parts out a b c d e f g h o₁ o₂ o₃ o₄ o₅ o₆ o₇ o₈ h₁ h₂ h₃ h₄ h₅ h₆ h₇ h₈ =
    rw (h₈, h₇, h₆, h₅, h₄, h₃, h₂, h₁) (simp append_assoc)

-- how many more there are, where there are some
pub some_more : (profile : Profile) (count : ℕ) → (count ≡ 0 → ⊥)
    → more_text profile count ≡ codes "and " ++ decimal count ++ listing_words profile
some_more profile count some =
    let other : (count == 0) ≡ false =
    false_from_ne_true (count == 0) (λ e. some (eqb-true count 0 e)) in
    rw other refl

-- head, facts, places, the line of labels that no step is by, and where a label is stated later
pub explanation_told : (out head : List ℕ) (details places : List Detail) (line : List ℕ)
    (later : List Detail) (o₁ o₂ o₃ o₄ o₅ : List ℕ) → o₁ ≡ out ++ head
    → o₂ ≡ o₁ ++ details_text details → o₃ ≡ o₂ ++ details_text places → o₄ ≡ o₃ ++ line
    → o₅ ≡ o₄ ++ details_text later
    → o₅ ≡ out ++ (head ++ details_text (details ++ places) ++ line ++ details_text later)
explanation_told out head details places line later o₁ o₂ o₃ o₄ o₅ h₁ h₂ h₃ h₄ h₅ =
    rw (h₅, h₄, h₃, h₂, h₁, flat_map-append detail_text details places) (simp append_assoc)

-- ==== the `$p` that a book took last

module _ (statements before : List Sentence) (s : PlainStatement) (label : List ℕ)
    (e : statements ≡ before ++ sentence_of s ∷ []) (formed : HasForm s)
    (provable : s.kind ≡ Provable) (sound : IsSound statements)
    (named : IsLabelled label (sentence_of s)) where
  last_there : slice_get statements (length before) ≡ Some (sentence_of s)
  last_there =
      ap (λ (ss : List Sentence). slice_get ss (length before)) e
      ∙ get_pushed before (sentence_of s)

  -- what stands under its label is the `$p`
  found_last : (index : ℕ) (t : Sentence) → slice_get statements index ≡ Some t → IsLabelled label t
      → (index ≡ length before) × (t ≡ sentence_of s)
  found_last index t there same =
      let at : index ≡ length before =
      one_label statements label index (length before) t (sentence_of s) sound.0 there last_there
      same named in
      (at, cc (at, there, last_there))

  -- nothing else does
  pub not_other : (result : Found) → Finds statements label result
      → ((id : LabelId) → ¬ (result ≡ found.Assertion id)) → ⊥
  not_other found.None finds other = finds (length before, sentence_of s, last_there, named)
  not_other (found.Hypothesis id active) (index, t, numbered, labelled, kind, on) other =
      hypothesis_other t.kind kind
      (ap (λ (u : Sentence). u.kind) (found_last index t numbered.there labelled).1 ∙ provable)
  not_other (found.Assertion id) finds other = other id refl

  -- and that is its number
  pub number_found : (id : LabelId) → Finds statements label (found.Assertion id)
      → IsProofNumber statements id.0 (length before) (sentence_of s)
  number_found id (index, t, numbered, labelled, kind) =
      let (at, same) = found_last index t numbered.there labelled in
      record { numbered = rw (at, same) at numbered; provable = provable }

-- ==== the explanation of its refusal

complete_there : (provable incomplete : Bool) → provable && not incomplete ≡ true
    → incomplete ≡ false
complete_there provable false e = refl
complete_there true true e = cc e
complete_there false true e = cc e

incomplete_there : (provable incomplete : Bool) → provable && incomplete ≡ true
    → incomplete ≡ true
incomplete_there true incomplete e = e
incomplete_there false incomplete e = cc e

-- a proof is at fault as a whole, or as far as it is known
tokens_fault : (profile : Profile) (before : List Sentence) (s : PlainStatement)
    (rule : ProofRule) (step : ℕ) → IsProofFault profile before s rule step
    → IsTokensFault profile before (sentence_of s) (proof_of s) rule step
tokens_fault profile before s rule step (inl (whole, fault)) =
    inl (complete_there (is_provable s.kind) (is_incomplete (proof_of s)) whole, fault)
tokens_fault profile before s rule step (inr (part, fault)) =
    inr (incomplete_there (is_provable s.kind) (is_incomplete (proof_of s)) part, fault)

-- facts about a fault are facts about the same one
facts_of : (files : List PlainFile) (profile : Profile) (s : Sentence) {before others : List Sentence}
    {tokens placed : List PlainToken} {rule broken : ProofRule} {step number : ℕ} → tokens ≡ placed
    → rule ≡ broken → step ≡ number → before ≡ others → (details : List Detail)
    → AreDetails files profile before s tokens rule step details
    → AreDetails files profile others s placed broken number details
facts_of files profile s {before} {others} {tokens} {placed} {rule} {broken} {step} {number} e f g h
    details facts =
    subst (λ ss. AreDetails files profile ss s placed broken number details) h
    (subst (λ n. AreDetails files profile before s placed broken n details) g
    (subst (λ r. AreDetails files profile before s placed r step details) f
    (subst (λ ts. AreDetails files profile before s ts rule step details) e facts)))

-- so is its place
place_of_same : (profile : Profile) (s : PlainStatement) {before others : List Sentence}
    {rule broken : ProofRule} {step number : ℕ} → rule ≡ broken → step ≡ number → before ≡ others
    → (at : ℕ) → IsFaultPlace profile before s rule step at
    → IsFaultPlace profile others s broken number at
place_of_same profile s {before} {others} {rule} {broken} {step} {number} f g h at place =
    subst (λ ss. IsFaultPlace profile ss s broken number at) h
    (subst (λ n. IsFaultPlace profile before s broken n at) g
    (subst (λ r. IsFaultPlace profile before s r step at) f place))

-- so are the labels that no step is by
unused_of : (s : Sentence) {before others : List Sentence} {tokens texts : List (List ℕ)}
    {step number : ℕ} → tokens ≡ texts → step ≡ number → before ≡ others
    → (unused : List (List ℕ)) → AreUnused before s tokens step unused
    → AreUnused others s texts number unused
unused_of s {before} {others} {tokens} {texts} {step} {number} e g h unused are =
    subst (λ ss. AreUnused ss s texts number unused) h
    (subst (λ n. AreUnused before s texts n unused) g
    (subst (λ ts. AreUnused before s ts step unused) e are))

-- so is the label that it breaks P2 at
unknown_of : {before others : List Sentence} {tokens texts : List (List ℕ)}
    {rule broken : ProofRule} → tokens ≡ texts → rule ≡ broken → before ≡ others
    → (label : Option (List ℕ)) → IsUnknownIn before tokens rule label
    → IsUnknownIn others texts broken label
unknown_of {before} {others} {tokens} {texts} {rule} {broken} e f h label unknown =
    subst (λ ss. IsUnknownIn ss texts broken label) h
    (subst (λ r. IsUnknownIn before texts r label) f
    (subst (λ ts. IsUnknownIn before ts rule label) e unknown))

module _ {profile : Profile} {files : List PlainFile} {told : List Sentence} {s : PlainStatement}
    {refusal : PlainRefusal} (r : IsRefusedLast profile files told s refusal) where
  -- what the statements before it say, and what it says, is all that is told
  pub told_parts : told ≡ sentences r.before ++ sentence_of s ∷ []
  told_parts = r.same ∙ map-append sentence_of r.before (s ∷ [])

  -- its proof is in room
  pub proof_in_room : (tokens : List (List ℕ)) → tokens ≡ proof_of s
      → sum_by length tokens ≤ most_bytes
  proof_in_room tokens same =
      rw same (proof_fits files (r.before ++ s ∷ r.after) r.ending (length r.before) s r.readable
      r.reads (get_parted r.before r.after s))

  -- where it stands
  abbrev pub refused_place : (id count : ℕ) → count ≡ refusal.statement - 1
      → IsProofNumber told id (length (sentences r.before)) (sentence_of s)
      → IsPlaced files told id count
  refused_place id count is mine =
      let said = ap (λ (x : PlainRefusal). x.statement) r.refused.refused in
      let counted : length r.before ≡ count = omega (arith, said, is) in
      record {
        site = record {
          before = r.before;
          s = s;
          after = r.after;
          ending = r.ending;
          reads = r.reads;
          counted = counted;
        };
        told = told_parts;
        number = subst (λ (n : ℕ). IsProofNumber told id n (sentence_of s))
            (length-map r.before sentence_of ∙ counted) mine;
      }

  -- its number is one, and so what is said of the `$p` with the number is said of it
  module _ (id : ℕ) (mine : IsProofNumber told id (length (sentences r.before)) (sentence_of s))
    where
      pub fault_there : (tokens : List (List ℕ)) → tokens ≡ proof_of s
          → (rule : ProofRule) (step : ℕ) → rules.Proof rule ≡ refusal.rule → step ≡ refusal.step
          → (index : ℕ) (t : Sentence) → IsProofNumber told id index t
          → IsTokensFault profile (take index told) t tokens rule step
      fault_there tokens same rule step one at index t number =
          let (place, said) = numbered_unique told id index (length (sentences r.before)) t
          (sentence_of s) number.numbered mine.numbered in
          let told_rule : rules.Proof rule ≡ rules.Proof r.refused.rule =
          one ∙ ap (λ (x : PlainRefusal). x.rule) r.refused.refused in
          let told_step : step ≡ r.refused.step =
          at ∙ ap (λ (x : PlainRefusal). x.step) r.refused.refused in
          let same_rule : rule ≡ r.refused.rule = cc told_rule in
          rw (
            same,
            said,
            place,
            same_rule,
            told_step,
            prefix_of told (sentences r.before) (sentence_of s) told_parts,
          )
          (tokens_fault profile (sentences r.before) s r.refused.rule r.refused.step
          r.refused.fault)

      pub explained_there : (source : Bool) (tokens : List (List ℕ)) → tokens ≡ proof_of s
          → (placed : List PlainToken) → placed ≡ s.proof → (rule : ProofRule) (step : ℕ) → rules.Proof rule ≡ refusal.rule → step ≡ refusal.step
          → (place : ℕ)
          → IsFaultPlace profile (take (length (sentences r.before)) told) s rule step place
          → (details : List Detail)
          → AreDetails files profile (take (length (sentences r.before)) told) (sentence_of s) placed
          rule step details
          → (places : List Detail) → AreHypothesisPlaces files r.before s rule step places
          → (unused : List (List ℕ))
          → AreUnused (take (length (sentences r.before)) told) (sentence_of s) tokens step unused
          → (label : Option (List ℕ))
          → IsUnknownIn (take (length (sentences r.before)) told) tokens rule label
          → IsExplanation profile source files refusal
          (head_lines source files place refusal ++ details_text (details ++ places)
          ++ unused_text unused ++ details_text (stated_later files label r.after))
      explained_there source tokens same placed own rule step one at place stands details facts places
          stand unused by_none label unknown =
          let told_rule : rules.Proof rule ≡ rules.Proof r.refused.rule =
          one ∙ ap (λ (x : PlainRefusal). x.rule) r.refused.refused in
          let told_step : step ≡ r.refused.step =
          at ∙ ap (λ (x : PlainRefusal). x.step) r.refused.refused in
          let same_rule : rule ≡ r.refused.rule = cc told_rule in
          let earlier = prefix_of told (sentences r.before) (sentence_of s) told_parts in
          record {
            before = r.before;
            s = s;
            after = r.after;
            ending = r.ending;
            reads = r.reads;
            refused = r.refused;
            details = details;
            at = place;
            place = place_of_same profile s same_rule told_step earlier place stands;
            facts = facts_of files profile (sentence_of s) own same_rule told_step earlier details
                facts;
            places = places;
            stand = subst
                (λ (n : ℕ). AreHypothesisPlaces files r.before s r.refused.rule n places)
                told_step
                (subst (λ (b : ProofRule). AreHypothesisPlaces files r.before s b step places)
                same_rule stand);
            unused = unused;
            by_none = unused_of (sentence_of s) same told_step earlier unused by_none;
            label = label;
            unknown = unknown_of same same_rule earlier label unknown;
            said = refl;
          }

-- ==== the refusals that are kept

-- the refusal of what is met next
pub refused_last : (profile : Profile) (files : List PlainFile) (taken : List PlainStatement)
    (listed : List PlainRefusal) (told : List Sentence) (s : PlainStatement) (refusal : Refusal)
    → IsMet profile files taken listed told s (Faulty refusal)
    → IsRefusedLast profile files told s (plain_refusal refusal)
refused_last profile files taken listed told s refusal met = record {
  before = taken;
  after = met.left.statements;
  ending = met.left.ending;
  readable = met.readable;
  reads = met.reads;
  same = met.same;
  refused = met.came;
}

-- what its proof shares with the others
pub noted_more : (files : List PlainFile) (refusal : PlainRefusal) (before : List PlainStatement)
    (s : PlainStatement) (after : List PlainStatement) (ending : Option PlainFault)
    (old new : Shared) → Reads files (before ++ s ∷ after) ending
    → refusal.statement ≡ length before + 1
    → (labels : Labels) × AreLabelsOf (sentences before) s labels
    × ((each : List Labels) → HasShared each old → HasShared (each ++ labels ∷ []) new)
    → (listed : List PlainRefusal) → AreNoted files listed old
    → AreNoted files (listed ++ refusal ∷ []) new
noted_more files refusal before s after ending old new reads place (labels, are, more) listed
    noted = record {
      each = noted.each ++ labels ∷ [];
      are = zip_push (AreLabelsAt files) listed noted.each refusal labels noted.are (record {
        before = before;
        s = s;
        after = after;
        ending = ending;
        reads = reads;
        place = place;
        are = are;
      });
      has = more noted.each noted.has;
    }

-- no proof is noted at first
pub nothing_noted : (profile : Profile) (files : List PlainFile) (first : Reasons) → CanBeRead files
    → first.profile ≡ profile → map plain_file first.files.now ≡ files → first.refusals.items ≡ []
    → HasShared [] first.shared → first.explanations.items ≡ []
    → map plain_file first.outline.files.now ≡ files → IsOutlineOf [] first.outline
    → HasExplained profile files first first [] []
nothing_noted profile files first readable same_profile same_files none shared unexplained same
    unread = record {
      same_profile = same_profile;
      same_source = refl;
      same_files = same_files;
      kept = ap (map plain_refusal) none;
      noted = record { each = []; are = tt; has = shared };
      explained = record { proofs = tt; each = rw unexplained tt };
      outline = record { readable = readable; same = same; read = inl unread };
    }

-- one more is explained, or kept without
explained_more : (profile : Profile) (source : Bool) (files : List PlainFile)
    (listed : List PlainRefusal) (one : PlainRefusal) (old new : List (List ℕ)) → is_of_proofs one.rule ≡ true
    → (length listed < most_kept
    → (text : List ℕ) × IsExplanation profile source files one text × (new ≡ old ++ text ∷ []))
    → (most_kept ≤ length listed → new ≡ old)
    → AreExplained profile source files listed old
    → AreExplained profile source files (listed ++ one ∷ []) new
explained_more profile source files listed one old new proof few many explained =
    let proofs = all_push (λ (r : PlainRefusal). is_of_proofs r.rule ≡ true) listed one
    explained.proofs proof in
    elim (cases_lt (length listed) most_kept) [
      | inl short ↦
          let (text, explains, put) = few short in
          let whole : take most_kept (listed ++ one ∷ []) ≡ listed ++ one ∷ [] =
          take_all most_kept (listed ++ one ∷ [])
          (omega (arith, short, length-append listed (one ∷ []))) in
          let each = rw (take_all most_kept listed (omega (arith, short))) at explained.each in
          record {
            proofs = proofs;
            each = rw (whole, put) (zip_push (IsExplanation profile source files) listed old one text each
                explains);
          }
      | inr long ↦ record {
        proofs = proofs;
        each = rw (take-append-le most_kept listed (one ∷ []) long, many long) explained.each;
      }
    ]

-- and nothing more is explained then
pub explained_before : (old middle new : Reasons) (refusal : PlainRefusal)
    → Explains old refusal middle → new.explanations ≡ middle.explanations
    → Explains old refusal new
explained_before old middle new refusal explains same = record {
  few = λ less. let (text, is, put) = explains.few less in
      (text, is, ap (λ (v : Vec (Vec ℕ)). texts_in v.items) same ∙ put);
  many = λ many. same ∙ explains.many many;
}

-- so the visitor goes on
pub noted : (profile : Profile) (files : List PlainFile) (first old new : Reasons)
    (taken : List PlainStatement) (listed : List PlainRefusal) (told : List Sentence)
    (s : PlainStatement) (refusal : Refusal)
    → IsMet profile files taken listed told s (Faulty refusal) → Notes old refusal new
    → HasExplained profile files first old taken listed
    → HasExplained profile files first new (taken ++ s ∷ []) (listed ++ plain_refusal refusal ∷ [])
noted profile files first old new taken listed told s refusal met notes seen =
    let many : length old.refusals.items ≡ length listed =
    sym (length-map old.refusals.items plain_refusal) ∙ ap length seen.kept in
    record {
      same_profile = notes.same_profile ∙ seen.same_profile;
      same_source = notes.same_source ∙ seen.same_source;
      same_files = ap (λ (fs : Bor (List File)). map plain_file fs.now) notes.same_files
          ∙ seen.same_files;
      kept = ap (map plain_refusal) notes.kept
          ∙ map-append plain_refusal old.refusals.items (refusal ∷ [])
          ∙ ap (λ (rs : List PlainRefusal). rs ++ plain_refusal refusal ∷ []) seen.kept;
      noted = (rw seen.same_files at notes.noted) listed seen.noted;
      explained = explained_more profile first.source files listed (plain_refusal refusal)
          (texts_in old.explanations.items) (texts_in new.explanations.items)
          (ap (λ (r : PlainRefusal). is_of_proofs r.rule) met.came.refused)
          (λ short. rw (seen.same_profile, seen.same_source, seen.same_files)
          at (notes.explains.few (omega (arith, many, short))))
          (λ long. ap (λ (v : Vec (Vec ℕ)). texts_in v.items)
          (notes.explains.many (omega (arith, many, long)))) seen.explained;
      outline = rw seen.same_files at notes.outline;
    }

-- what isn't at fault changes nothing
pub passed_over : (profile : Profile) (files : List PlainFile) (first now : Reasons)
    (taken : List PlainStatement) (listed : List PlainRefusal) (s : PlainStatement)
    (judged : Judged) → ((refusal : Refusal) → ¬ (judged ≡ Faulty refusal))
    → HasExplained profile files first now taken listed
    → HasExplained profile files first now (taken ++ s ∷ []) (listed ++ refusals_in judged)
passed_over profile files first now taken listed s (Faulty refusal) sound seen =
    absurd (sound refusal refl)
passed_over profile files first now taken listed s judged sound seen =
    rw (append-nil listed) (record {
      same_profile = seen.same_profile;
      same_source = seen.same_source;
      same_files = seen.same_files;
      kept = seen.kept;
      noted = seen.noted;
      explained = seen.explained;
      outline = seen.outline;
    })

-- ==== the whole text

-- refusals that are all of proofs, and such as are none
of_proofs : (rs : List PlainRefusal) → AllByRecursion (λ r. is_of_proofs r.rule ≡ true) rs
    → (filter (λ r. is_of_proofs r.rule) rs ≡ rs)
    × (filter (λ r. not (is_of_proofs r.rule)) rs ≡ [])
of_proofs [] all = (refl, refl)
of_proofs (r ∷ rs) all =
    let (some, none) = of_proofs rs all.1 in
    (rw all.0 (ap (λ (l : List PlainRefusal). r ∷ l) some), rw all.0 none)

of_others : (rs : List PlainRefusal) → AllByRecursion (λ r. is_of_proofs r.rule ≡ false) rs
    → (filter (λ r. is_of_proofs r.rule) rs ≡ [])
    × (filter (λ r. not (is_of_proofs r.rule)) rs ≡ rs)
of_others [] all = (refl, refl)
of_others (r ∷ rs) all =
    let (none, some) = of_others rs all.1 in
    (rw all.0 none, rw all.0 (ap (λ (l : List PlainRefusal). r ∷ l) some))

-- no more are told than are kept
fewer_told : (line : List ℕ) → most_explained line ≤ most_kept
fewer_told [] = omega arith
fewer_told (b ∷ line) = omega arith

-- the faults of proofs
pub told_proofs : (profile : Profile) (source : Bool) (files : List PlainFile) (listed : List PlainRefusal)
    (refusals : List Refusal) (explanations : List (Vec ℕ)) (line text₁ text₂ : List ℕ)
    (most told more : ℕ) → map plain_refusal refusals ≡ listed
    → IsSharedLine files listed line
    → AreExplained profile source files listed (texts_in explanations)
    → most ≡ most_explained line → told ≡ min most (length explanations)
    → more ≡ length refusals - most
    → text₁ ≡ line ++ flat_map (λ t. t) (texts_in (take told explanations))
    → text₂ ≡ text₁ ++ more_text profile more → TellsProofs profile source files listed text₂
told_proofs profile source files listed refusals explanations line text₁ text₂ most told more kept shared
    explained most_is told_is more_is put₁ put₂ =
    let E : List (List ℕ) = texts_in explanations in
    let first : texts_in (take told explanations) ≡ take (most_explained line) E =
    ap (λ n. texts_in (take n explanations)) told_is
    ∙ ap texts_in (take_min most explanations)
    ∙ sym (take-map (λ (t : Vec ℕ). t.items) most explanations)
    ∙ ap (λ n. take n E) most_is in
    let others : more ≡ length listed - most_explained line =
    more_is ∙ ap (λ n. length refusals - n) most_is
    ∙ ap (λ n. n - most_explained line)
    (sym (length-map refusals plain_refusal) ∙ ap length kept) in
    record {
      line = line;
      shared = shared;
      explanations = take (most_explained line) E;
      each = rw (take-take (most_explained line) most_kept listed (fewer_told line)) at
          (zip_take (IsExplanation profile source files) (take most_kept listed) E (most_explained line)
          explained.each);
      said = put₂ ∙ ap (λ t. t ++ more_text profile more) put₁
          ∙ ap (λ ts. line ++ flat_map (λ t. t) ts ++ more_text profile more) first
          ∙ ap (λ n. line ++ flat_map (λ t. t) (take (most_explained line) E)
          ++ more_text profile n) others;
    }

module _ (profile : Profile) (source : Bool) (files : List PlainFile) (listed : List PlainRefusal)
    (refusals ends : List Refusal) (proofs text₁ text : List ℕ) (status : ℕ)
    (faults : HaveFaults profile files (listed ++ map plain_refusal ends))
    (kept : map plain_refusal refusals ≡ listed)
    (of_proofs_all : AllByRecursion (λ r. is_of_proofs r.rule ≡ true) listed)
    (tells_proofs : TellsProofs profile source files listed proofs)
    (others : AllByRecursion (λ r. is_of_proofs r.rule ≡ false) (map plain_refusal ends))
    (told : List (List ℕ)) (ended : AllZip (IsLastExplanation source files) (map plain_refusal ends) told)
    (put₁ : text₁ ≡ flat_map (λ t. t) told ++ proofs) where
  tells : (count : ℕ) → count ≡ length (listed ++ map plain_refusal ends)
      → text ≡ text₁ ++ count_text count
      → TellsFaults profile source files (listed ++ map plain_refusal ends) text
  tells count counted put =
      let E : List PlainRefusal = map plain_refusal ends in
      let (all, none) = of_proofs listed of_proofs_all in
      let (nothing, rest) = of_others E others in
      let those : filter (λ r. is_of_proofs r.rule) (listed ++ E) ≡ listed =
      filter-append (λ r. is_of_proofs r.rule) listed E ∙ rw (all, nothing) (append-nil listed) in
      let last : filter (λ r. not (is_of_proofs r.rule)) (listed ++ E) ≡ E =
      filter-append (λ r. not (is_of_proofs r.rule)) listed E ∙ rw (none, rest) refl in
      record {
        last = told;
        ended = rw last ended;
        proofs = proofs;
        told = rw those tells_proofs;
        said = rw (← counted, put, put₁) (simp append_assoc);
      }

  pub tells_why : (all : List Refusal) → all ≡ refusals ++ ends → 0 < length all
      → text ≡ text₁ ++ count_text (length all)
      → ((first : Refusal) (more : List Refusal) → all ≡ first ∷ more
      → status ≡ refusal_status first.rule)
      → (first : PlainRefusal) × (more : List PlainRefusal)
      × HaveFaults profile files (first ∷ more) × TellsFaults profile source files (first ∷ more) text
      × (status ≡ refusal_status first.rule)
  tells_why [] same some put ends = absurd (omega arith)
  tells_why (first ∷ more) same some put ended =
      let same_all : listed ++ map plain_refusal ends ≡ map plain_refusal (first ∷ more) =
      ap (λ (rs : List PlainRefusal). rs ++ map plain_refusal ends) (sym kept)
      ∙ sym (map-append plain_refusal refusals ends) ∙ ap (map plain_refusal) (sym same) in
      let counted : length (first ∷ more) ≡ length (listed ++ map plain_refusal ends) =
      sym (length-map (first ∷ more) plain_refusal) ∙ ap length (sym same_all) in (
        plain_refusal first,
        map plain_refusal more,
        subst (HaveFaults profile files) same_all faults,
        subst (λ rs. TellsFaults profile source files rs text) same_all (tells _ counted put),
        ended first more refl,
      )
