-- What all theorems rest on: the numbers of a kind, what a row tells, and the lines of reports.
use Rattle.std.proofs.Common.{Bool}
use Rattle.std.proofs.Common.{◌≡◌, ◌↔◌, ℕ, ◌+◌, ◌<◌, ◌≤◌, List, [], ◌∷◌, ◌++◌, take, length, map}
use Rattle.std.proofs.Common.{get_or, slice_get, Contains, true, Some, inl, inr, refl}
use Rattle.std.proofs.Common.{sym, ap, subst, ◌∙◌, arith}
use Rattle.std.proofs.lemmas.Bool.{cases_lt}
use Rattle.std.proofs.lemmas.List.{map-append}
use Rattle.mm_base.specs.declared.statement.Kind.{Kind}
use Rattle.mm_frame.specs.declared.number.LabelId.{LabelId}
use Rattle.mm_frame.specs.declared.number.LabelKind.{LabelKind}
use Rattle.mm_frame.specs.declared.number.LabelKind.TheVariants as label_kinds
use Rattle.mm_frame.specs.Numbers.{labelled_sentences, IsNumbered, IsLabelNumber}
use Rattle.mm_frame.specs.Sentence.{Sentence}
use Rattle.mm_frame.specs.Taken.{kind_behind}
use Rattle.mm_frame.proofs.Names.LabelNumbers.{numbered_get, numbered_some, numbered_within}
use Rattle.mm_base.proofs.Lists.{at_from_contains, contains_from_at}
use Rattle.mm_base.proofs.Lists.{all_within}
use Rattle.mm_step.specs.Plain.{ids_in}
use Rattle.mm_rules.specs.Rests.{AreInOrder}
use Rattle.mm_axioms.specs.Mirror.Rows.{PlainRows}
use Rattle.mm_axioms.specs.Mirror.Tables.{IsOfKind, AreReached}
use Rattle.mm_rules.proofs.Numbers.{in_order_same}
use Rattle.std.proofs.Common.{Option, None}
use Rattle.std.specs.List.{AllByRecursion}
use Rattle.std.proofs.lemmas.List.{take_more}
use Rattle.std.proofs.lemmas.Option.{same_Some}
use Rattle.mm_base.specs.declared.statement.Kind.TheVariants.{Provable}
use Rattle.mm_base.specs.Statement.{PlainStatement}
use Rattle.mm_frame.specs.Rules.{AllMeant}
use Rattle.mm_frame.specs.Sentence.{sentence_of}
use Rattle.mm_proof.specs.Tokens.{is_incomplete}
use Rattle.mm_axioms.specs.declared.report.Report.{Report}
use Rattle.mm_axioms.specs.declared.report.Tables.{Tables}
use Rattle.mm_rules.specs.Answer.{IsKeptOf}
use Rattle.mm_rules.specs.Conclusion.{Conclusion, ProofUses, labels_in}
use Rattle.mm_rules.specs.Rests.{IsNumberWhere, IsNamed, RestsOn}
use Rattle.mm_rules.specs.Verdict.{sentences, is_proof, is_unproved, proof_of}
use Rattle.mm_rules.specs.Mirror.Marks.{UsedIn, IsAxiomNumber}
use Rattle.mm_axioms.specs.Mirror.Tables.{TellRests, AreTables, IsReportIn, IsReportAt}
use Rattle.std.proofs.Common.{codes, append_assoc, append-nil}
use Rattle.std.specs.List.{AllZip, flat_map}
use Rattle.std.proofs.lemmas.Grind.{flat_map-append}
use Rattle.mm_axioms.specs.AllAxioms.{ReportLine, IsReportLine, proved_line, unproved_line}
use Rattle.mm_rules.specs.Answer.{labels_at}
use Rattle.mm_verdict.specs.Reply.{line_with}
use Rattle.mm_axioms.specs.Reply.{lines_text}
use Rattle.mm_rules.specs.Verdict.{labels_of}
use Rattle.mm_axioms.specs.Mirror.Tables.{line_of_report, AreLinesOf, IsToldAt}
use Rattle.mm_rules.proofs.OrderedNumbers.{among_more}
use Rattle.mm_rules.proofs.Numbers.{label_at, count_labelled}
use Rattle.mm_verdict.proofs.Questions.AskedTheorems.{kinds_once, numbered_as, proof_or_not}
use Rattle.mm_verdict.proofs.Questions.AskedTheorems.{report_by}
use Rattle.mm_verdict.proofs.Questions.FewLabels.{some_label}

-- ==== the numbers of a kind

pub kind_at : (statements : List Sentence) (id : ℕ) (k kind : LabelKind) → IsLabelNumber statements id
    → ((s : Sentence) → slice_get (labelled_sentences statements) id ≡ Some s → s.kind ≡ kind_behind k) → k ≡ kind → IsOfKind statements (kind_behind kind) id
kind_at statements id k kind (index, s, numbered) told e =
    (index, s, numbered, told s (numbered_get statements id index s numbered) ∙ ap kind_behind e)

pub no_kind_at : (statements : List Sentence) (id : ℕ) (k kind : LabelKind)
    → ((s : Sentence) → slice_get (labelled_sentences statements) id ≡ Some s → s.kind ≡ kind_behind k) → ¬ (k ≡ kind) → ¬ (IsOfKind statements (kind_behind kind) id)
no_kind_at statements id k kind told other (index, s, numbered, is) =
    other (kinds_once k kind (sym (told s (numbered_get statements id index s numbered)) ∙ is))

-- no label has a number from here on
pub no_more_of_kind : (statements : List Sentence) (kind : Kind) (end n : ℕ) → ¬ (IsLabelNumber statements end) → IsOfKind statements kind n → n < end
no_more_of_kind statements kind end n none (index, s, numbered, is) = elim (cases_lt n end) [
  | inl less ↦ less
  | inr more ↦ absurd (
      let within : n < length (labelled_sentences statements) = numbered_within statements n index s numbered in
      none (numbered_some statements end (omega arith)))
]

pub below_most : (statements : List Sentence) (kind : Kind) (end n : ℕ) → length (labelled_sentences statements) ≤ end → IsOfKind statements kind n → n < end
below_most statements kind end n few (index, s, numbered, is) =
    let within : n < length (labelled_sentences statements) = numbered_within statements n index s numbered in omega arith

-- the statement with a number has the label with it
pub named_at : (statements : List PlainStatement) (label : List ℕ) (P : PlainStatement → Type 0) (id : ℕ) → IsNumberWhere statements P id
    → slice_get (labels_in (sentences statements)) id ≡ Some label → IsNamed statements label P id
named_at statements label P id (index, s, at, holds) there =
    let found = some_label (sentence_of s).label at.numbered.named in
    let said = label_at (λ (t : Sentence). t.label) (sentences statements) id (sentence_of s) found.0 (numbered_get (sentences statements) id index (sentence_of s) at.numbered) found.1 in
    let one : found.0 ≡ label = same_Some found.0 label (sym said ∙ there) in
    (index, s, at, (found.1 ∙ ap (λ (l : List ℕ). Some l) one, holds))

pub unproved_at : (statements : List PlainStatement) (c : Conclusion) (label : List ℕ) (id : ℕ) → IsKeptOf statements c → Contains c.incomplete id
    → slice_get (labels_in (sentences statements)) id ≡ Some label → IsNamed statements label (λ s. is_unproved s ≡ true) id
unproved_at statements c label id kept among there =
    named_at statements label (λ s. is_unproved s ≡ true) id ((kept.incomplete.each id).0 among) there

proved_at : (statements : List PlainStatement) (c : Conclusion) (label : List ℕ) (id : ℕ) → IsKeptOf statements c → IsOfKind c.sentences Provable id → ¬ (Contains c.incomplete id)
    → slice_get (labels_in (sentences statements)) id ≡ Some label → IsNamed statements label (λ s. is_proof s ≡ true) id
proved_at statements c label id kept (index, t, numbered, kind) none there =
    let (s, at, said) = numbered_as statements id index t (subst (λ (ss : List Sentence). IsNumbered ss id index t) kept.sentences numbered) in
    let provable : s.kind ≡ Provable = ap (λ (u : Sentence). u.kind) said ∙ kind in
    named_at statements label (λ u. is_proof u ≡ true) id
    (index, s, at, proof_or_not s.kind (is_incomplete (proof_of s)) provable (λ unproved. none ((kept.incomplete.each id).1 (index, s, at, unproved)))) there

-- what stands in the row of a theorem is what it rests on
pub rests_in : (P : ℕ → Type 0) (uses : List ProofUses) (numbers : List ℕ) (rows : PlainRows) (id : ℕ) (ids : List ℕ)
    → ((n : ℕ) → Contains numbers n ↔ P n) → TellRests uses numbers rows → AreReached numbers rows id ids
    → AreInOrder (λ n. P n × RestsOn (UsedIn uses) id n) ids
rests_in P uses numbers rows id ids holds tell order = in_order_same _ _ ids order (λ n. (
  (λ (c, there, has).
      let (x, at, rests) = (tell id c).0 has in
      ((holds n).0 (contains_from_at numbers n (c, there)), subst (λ (m : ℕ). RestsOn (UsedIn uses) id m) (same_Some x n (sym at ∙ there)) rests)),
  λ (p, rests). let (c, there) = at_from_contains numbers n ((holds n).1 p) in (c, there, (tell id c).1 (n, there, rests)),
))

pub report_told : (statements : List PlainStatement) (c : Conclusion) (label : List ℕ) (id : ℕ) (t : Tables) (told : Report)
    → IsKeptOf statements c → AllMeant c.sentences → IsOfKind c.sentences Provable id → ¬ (Contains c.incomplete id)
    → slice_get (labels_in (sentences statements)) id ≡ Some label → AreTables c.sentences c.incomplete c.uses t → IsReportIn t c.incomplete id told
    → IsReportAt statements label id (Some told)
report_told statements c label id t told kept all kind none there tables found =
    report_by statements c label id (λ n. RestsOn (UsedIn c.uses) id n) (ids_in told.axioms.items) (ids_in told.unproved.items) kept all
    (proved_at statements c label id kept kind none there)
    (λ n. ((λ h. h), λ h. h))
    (rests_in (IsAxiomNumber c.sentences) c.uses (ids_in t.axioms.items) t.axiom_rows id (ids_in told.axioms.items) tables.axioms.each tables.axiom_rows found.axioms)
    (rests_in (λ n. Contains c.incomplete n) c.uses c.incomplete t.unproved_rows id (ids_in told.unproved.items) (λ n. ((λ h. h), λ h. h)) tables.unproved_rows found.unproved)

-- each number of a report is that of a label
pub reached_within : (numbers : List ℕ) (rows : PlainRows) (id : ℕ) (ids : List ℕ) (count : ℕ) → AreReached numbers rows id ids
    → ((n : ℕ) → Contains numbers n → n < count) → AllByRecursion (λ n. n < count) ids
reached_within numbers rows id ids count order within =
    all_within (λ n. n < count) ids (λ n h. let (c, there, has) = (order.each n).0 h in within n (contains_from_at numbers n (c, there)))

-- ==== the lines

-- the `$p`, as the statements have them
pub theorems_told : (statements : List PlainStatement) (ids : List ℕ) → AreInOrder (IsOfKind (sentences statements) Provable) ids
    → AreInOrder (IsNumberWhere statements (λ s. s.kind ≡ Provable)) ids
theorems_told statements ids order = in_order_same _ _ ids order (λ n. (
  (λ (index, t, numbered, kind). let found = numbered_as statements n index t numbered in (index, found.0, found.1, ap (λ (u : Sentence). u.kind) found.2 ∙ kind)),
  λ (index, s, at, kind). (index, sentence_of s, at.numbered, kind),
))

pub of_kind_within : (st : List Sentence) (kind : Kind) (n : ℕ) → IsOfKind st kind n → n < length (labels_in st)
of_kind_within st kind n h =
    subst (λ (k : ℕ). n < k) (count_labelled (λ (s : Sentence). s.label) st) (numbered_within st n h.0 h.1 h.2)

pub line_told : (essential : Bool) (statements : List PlainStatement) (labels : List (List ℕ))
    (label : List ℕ) (id : ℕ) (told : Option Report) → labels ≡ labels_of statements
    → IsToldAt essential statements label id told
    → IsReportLine essential statements id (line_of_report labels label told)
line_told essential statements labels label id None same h = (label, inl (h, refl))
line_told essential statements labels label id (Some told) same (axioms, report, number, are) = (
  label,
  inr (
    axioms,
    ids_in told.unproved.items,
    report,
    number,
    ids_in told.axioms.items,
    are,
    ap (λ (ls : List (List ℕ)).
        proved_line ls label (ids_in told.axioms.items) (ids_in told.unproved.items)) same,
  ),
)

zip_push : {A B : Type 0} (R : A → B → Type 0) (xs : List A) (ys : List B) (x : A) (y : B) → AllZip R xs ys → R x y → AllZip R (xs ++ x ∷ []) (ys ++ y ∷ [])
zip_push R [] [] x y h r = (r, tt)
zip_push R (a ∷ xs) (b ∷ ys) x y h r = (h.0, zip_push R xs ys x y h.1 r)
zip_push R _ _ x y h r = absurd h

-- one more line
pub lines_more : (essential : Bool) (statements : List PlainStatement) (xs : List LabelId) (k : ℕ)
    (x : LabelId) (line : ReportLine) (old new : List ℕ) → slice_get xs k ≡ Some x
    → AreLinesOf essential statements (ids_in (take k xs)) old
    → IsReportLine essential statements x.0 line → new ≡ old ++ lines_text (line ∷ [])
    → AreLinesOf essential statements (ids_in (take (k + 1) xs)) new
lines_more essential statements xs k x line old new at (lines, each, said) is e = (
  lines ++ line ∷ [],
  subst (λ (ns : List ℕ). AllZip (IsReportLine essential statements) ns (lines ++ line ∷ []))
      (sym (among_more xs k x at))
      (zip_push (IsReportLine essential statements) (ids_in (take k xs)) lines x.0 line each is),
  e ∙ ap (λ (t : List ℕ). t ++ lines_text (line ∷ [])) said
      ∙ sym (flat_map-append (λ (l : ReportLine). line_with l.word l.others) lines (line ∷ [])),
)

-- ---- a line, word by word

line_words : (word : List ℕ) (ws : List (List ℕ)) → line_with word ws ≡ word ++ (flat_map (λ (w : List ℕ). codes " " ++ w) ws ++ codes "\n")
line_words word [] = refl
line_words word (w ∷ ws) = rw (line_words w ws) (simp append_assoc)

marked_words : (mark : List ℕ) (ls : List (List ℕ)) → flat_map (λ (w : List ℕ). codes " " ++ w) (map (λ (l : List ℕ). mark ++ l) ls) ≡ flat_map (λ (l : List ℕ). codes " " ++ (mark ++ l)) ls
marked_words mark [] = refl
marked_words mark (l ∷ ls) = ap (λ (t : List ℕ). (codes " " ++ (mark ++ l)) ++ t) (marked_words mark ls)

pub proved_text : (labels : List (List ℕ)) (label : List ℕ) (axioms unproved : List ℕ) (out o₁ o₂ o₃ o₄ : List ℕ)
    → o₁ ≡ out ++ label → o₂ ≡ o₁ ++ flat_map (λ (l : List ℕ). codes " " ++ ([] ++ l)) (labels_at labels axioms)
    → o₃ ≡ o₂ ++ flat_map (λ (l : List ℕ). codes " " ++ (codes "?" ++ l)) (labels_at labels unproved) → o₄ ≡ o₃ ++ 10 ∷ []
    → o₄ ≡ out ++ lines_text (proved_line labels label axioms unproved ∷ [])
proved_text labels label axioms unproved out o₁ o₂ o₃ o₄ h₁ h₂ h₃ h₄ =
    let line = line_words label (labels_at labels axioms ++ map (λ (l : List ℕ). codes "?" ++ l) (labels_at labels unproved)) in
    let both = flat_map-append (λ (w : List ℕ). codes " " ++ w) (labels_at labels axioms) (map (λ (l : List ℕ). codes "?" ++ l) (labels_at labels unproved)) in
    let marked = marked_words (codes "?") (labels_at labels unproved) in
    rw (h₄, h₃, h₂, h₁, append-nil, line, both, marked) (simp append_assoc)

pub unproved_text : (label out o₁ o₂ o₃ : List ℕ) → o₁ ≡ out ++ 63 ∷ [] → o₂ ≡ o₁ ++ codes " " ++ label → o₃ ≡ o₂ ++ 10 ∷ []
    → o₃ ≡ out ++ lines_text (unproved_line label ∷ [])
unproved_text label out o₁ o₂ o₃ h₁ h₂ h₃ = rw (h₃, h₂, h₁, append-nil) (simp append_assoc)

-- a label for each number, and one more
pub one_more_marked : (mark : List ℕ) (labels : List (List ℕ)) (ids : List LabelId) (k : ℕ) (d : LabelId) (label : List ℕ) → k < length ids
    → slice_get labels (get_or ids k d).0 ≡ Some label
    → flat_map (λ (l : List ℕ). codes " " ++ (mark ++ l)) (labels_at labels (map (λ (id : LabelId). id.0) (take (k + 1) ids)))
    ≡ flat_map (λ (l : List ℕ). codes " " ++ (mark ++ l)) (labels_at labels (map (λ (id : LabelId). id.0) (take k ids))) ++ (codes " " ++ (mark ++ label))
one_more_marked mark labels ids k d label h there =
    rw (take_more ids k d h) (simp (map-append, flat_map-append, there, append-nil))
