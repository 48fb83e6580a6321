-- How many bytes files have, with other bytes in place of those of one.
use Rattle.std.proofs.Common.{◌≡◌, ℕ, List, take, slice_get, true, Some, sym, ap}
use Rattle.std.proofs.Common.{subst, ◌∙◌, suc, ◌∷◌, ◌++◌, drop}
use Rattle.std.proofs.Common.{None, inl, inr}
use Rattle.mm_base.specs.Statement.{PlainStatement}
use Rattle.mm_frame.specs.Sentence.{Sentence, sentence_of}
use Rattle.mm_step.specs.Tree.{none, tree}
use Rattle.mm_rules.specs.Verdict.{sentences, is_proof}
use Rattle.mm_rules.specs.Rests.{IsAskFault}
use Rattle.mm_render.proofs.ToldProofs.ToldTrees.{tree_told, normal_fault}
use Rattle.mm_render.proofs.ToldProofs.ToldTrees.{ask_fault}
use Rattle.std.proofs.lemmas.Option.{same_Some}
use Rattle.mm_text.specs.Files.{PlainFile}
use Rattle.mm_text.specs.Reading.{Reads}
use Rattle.mm_text.specs.Replaced.{with_span, IsProofSpan}
use Rattle.mm_text.proofs.Replaced.ProofSpans.{proofs_stand_in_spans_holds}
use Rattle.mm_base.proofs.Lists.{split_at}
use Rattle.mm_proof.specs.ReadSteps.{ReadSteps}
use Rattle.mm_verdict.specs.declared.form.Form.{Form}
use Rattle.mm_rules.specs.declared.ask.AskFault.{AskFault}
use Rattle.mm_render.specs.Saved.{IsSpanText, IsSaved, IsFormFault, IsSaveFault}
use Rattle.mm_render.specs.Saved.{within_span}
use Rattle.mm_verdict.specs.Mirror.Theorems.{AreProvedSteps, AreStepsOf}
use Rattle.mm_verdict.specs.Mirror.Rewriting.{IsHomeOf}
use Rattle.mm_render.specs.Mirror.Rewriting.{IsSpanTextOf, IsTextFault, HoldsSpan}
use Rattle.mm_render.specs.Mirror.Rewriting.{StandIn, IsPutIn, IsPutFault}
use Rattle.mm_verdict.specs.declared.form.Form.TheVariants as form
use Rattle.mm_rules.specs.declared.ask.AskFault.TheVariants as ask
use Rattle.mm_verdict.proofs.FileBytes.StatementsInFiles.{home_file, provable_proof, within_bytes}

pub holds_span : (files : List PlainFile) (statements : List PlainStatement) (index : ℕ) (s : PlainStatement) (number : ℕ) (span : ℕ × ℕ) → Reads files statements None → slice_get statements index ≡ Some s
    → is_proof s ≡ true → number ≡ s.first.file → span ≡ s.span → HoldsSpan files number span
holds_span files statements index s number span reads there complete home same =
    let parted : statements ≡ take index statements ++ s ∷ drop (suc index) statements = split_at statements index s there in
    let (file, handed) = home_file files statements index s reads there in
    let stands : IsProofSpan s file.bytes =
    proofs_stand_in_spans_holds files (take index statements) s (drop (suc index) statements) None
    file (rw parted at reads) (provable_proof s complete) handed in
    let (start, stop) = within_bytes s file.bytes stands in
    (file, ap (slice_get files) home ∙ handed, rw same start, rw same stop)

-- ---- its file with another proof

pub saved_of : (form : Form) (ss : List Sentence) (files : List PlainFile)
    (statements : List PlainStatement) (label : List ℕ) (id : ℕ) (steps : ReadSteps) (number : ℕ)
    (span : ℕ × ℕ) (old put bytes : List ℕ) → ss ≡ sentences statements
    → AreStepsOf statements label id steps.moves → AreProvedSteps ss id steps
    → IsSpanTextOf form ss id steps.moves old put → IsHomeOf statements label number span
    → StandIn files number span old → IsPutIn files number span put bytes
    → IsSaved form files statements label number bytes
saved_of form ss files statements label id steps number span old put bytes same r proved laid home
    stood new =
    let (root, below, has, told) =
    tree_told ss statements label id steps same r proved
    (λ before s trees. IsSpanText form before s trees old put) laid in
    let at = home r.s (r.index, r.there, r.named) in
    let file : stood.0 ≡ new.0 = same_Some stood.0 new.0 (sym stood.1 ∙ new.1) in
    let place : old ≡ within_span new.0.bytes r.s.span =
    stood.2 ∙ (λ i. within_span (file i).bytes (at.1 i)) in
    record {
      index = r.index;
      s = r.s;
      root = root;
      below = below;
      proof = has;
      home = at.0;
      file = new.0;
      handed = new.1;
      put = put;
      laid = subst (λ (o : List ℕ). IsSpanText form (sentences (take r.index statements))
          (sentence_of r.s) (tree root below none) o put) place told;
      whole = new.2 ∙ ap (λ (p : ℕ × ℕ). with_span new.0.bytes p put) at.1;
    }

-- ---- why there is none

form_save_fault : (form : Form) (files : List PlainFile) (statements : List PlainStatement) (label : List ℕ) (fault : AskFault) → IsFormFault form statements label fault → IsSaveFault form files statements label fault
form_save_fault form.Normal files statements label ask.F3 h = absurd h
form_save_fault form.Packed files statements label ask.F3 h = absurd h
form_save_fault form.Small files statements label ask.F3 h = absurd h
form_save_fault form files statements label _ h = h

asked_fault : (form : Form) (statements : List PlainStatement) (label : List ℕ) (fault : AskFault) → IsAskFault statements label fault → IsFormFault form statements label fault
asked_fault form.Normal statements label fault h = ask_fault statements label fault h
asked_fault form.Packed statements label fault h = h
asked_fault form.Small statements label fault h = h

pub ask_save_fault : (form : Form) (files : List PlainFile) (statements : List PlainStatement) (label : List ℕ) (fault : AskFault) → IsAskFault statements label fault → IsSaveFault form files statements label fault
ask_save_fault form files statements label fault h = form_save_fault form files statements label fault (asked_fault form statements label fault h)

memory_fault : (form : Form) (files : List PlainFile) (statements : List PlainStatement) (label : List ℕ) (fault : AskFault) → fault ≡ ask.Memory → IsSaveFault form files statements label fault
memory_fault form files statements label fault is = ask_save_fault form files statements label fault (subst (IsAskFault statements label) (sym is) tt)

pub text_save_fault : (form : Form) (ss : List Sentence) (files : List PlainFile) (statements : List PlainStatement) (label : List ℕ) (id : ℕ) (steps : ReadSteps) (fault : AskFault)
    → ss ≡ sentences statements → AreStepsOf statements label id steps.moves → AreProvedSteps ss id steps → IsTextFault form ss id steps.moves fault → IsSaveFault form files statements label fault
text_save_fault form.Normal ss files statements label id steps fault same r proved why =
    form_save_fault form.Normal files statements label fault (normal_fault ss statements label id steps fault same r proved why)
text_save_fault form.Packed ss files statements label id steps fault same r proved why = memory_fault form.Packed files statements label fault why
text_save_fault form.Small ss files statements label id steps fault same r proved why =
    memory_fault form.Small files statements label fault why

pub put_save_fault : (form : Form) (ss : List Sentence) (files : List PlainFile)
    (statements : List PlainStatement) (label : List ℕ) (id : ℕ) (steps : ReadSteps) (number : ℕ)
    (span : ℕ × ℕ) (old put : List ℕ) (fault : AskFault) → ss ≡ sentences statements
    → AreStepsOf statements label id steps.moves → AreProvedSteps ss id steps
    → IsSpanTextOf form ss id steps.moves old put → IsHomeOf statements label number span
    → StandIn files number span old → IsPutFault files number span put fault
    → IsSaveFault form files statements label fault
put_save_fault form ss files statements label id steps number span old put fault same r proved laid
    home stood (inl memory) = memory_fault form files statements label fault memory
put_save_fault form ss files statements label id steps number span old put fault same r proved laid
    home stood (inr (is, bytes, new, over)) =
    let saved = saved_of form ss files statements label id steps number span old put bytes same r
    proved laid home stood new in
    rw is (number, bytes, saved, over)
