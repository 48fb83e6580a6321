-- The text and the status of a reply: a line is written word by word, and tells a verdict.
use Rattle.std.proofs.Common.{Bool, false, IsTrue, ◌↔◌, ◌≡◌, ℕ, zero, suc, ◌+◌, ◌<◌, decimal, arith}
use Rattle.std.proofs.Common.{length-append, List, [], ◌∷◌, ◌++◌, codes, map, take, get_or}
use Rattle.std.proofs.Common.{slice_get, length, append_assoc, append-nil, refl, ap, sym, subst}
use Rattle.std.proofs.Common.{◌∙◌, None, Result, Ok, Err}
use Rattle.std.proofs.Common.{IfOk}
use Rattle.std.specs.Option.{option_to_list}
use Rattle.std.proofs.lemmas.List.{take_more, map-append, length-map}
use Rattle.std.proofs.lemmas.Grind.{flat_map-append}
use Rattle.mm_frame.specs.declared.number.LabelId.{LabelId}
use Rattle.mm_text.specs.Files.{PlainFile}
use Rattle.mm_rules.specs.declared.fault.Refusal.{Refusal}
use Rattle.mm_rules.specs.Answer.{labels_at, plain_refusal, verdict_of_conclusion}
use Rattle.mm_rules.specs.Answer.{verdict_where_incomplete}
use Rattle.mm_rules.specs.Conclusion.{Conclusion}
use Rattle.std.specs.List.{AllByRecursion}
use Rattle.mm_base.proofs.Lists.{get_within}
use Rattle.mm_verdict.specs.Reply.{line_with, lines_of, refusals_text, text_of}
use Rattle.mm_rules.specs.Verdict.{Refused, HasVerdict, AreAccepted}
use Rattle.mm_base.specs.Statement.{PlainStatement}
use Rattle.mm_step.specs.declared.profile.Profile.{Profile}
use Rattle.mm_verdict.specs.Faults.{refusal_in}

-- ==== a line that is written word by word

-- a word and five others
pub six_words : (out w a b c d e o₁ o₂ o₃ o₄ o₅ o₆ o₇ : List ℕ)
    → o₁ ≡ out ++ w → o₂ ≡ o₁ ++ codes " " ++ a → o₃ ≡ o₂ ++ codes " " ++ b → o₄ ≡ o₃ ++ codes " " ++ c
    → o₅ ≡ o₄ ++ codes " " ++ d → o₆ ≡ o₅ ++ codes " " ++ e → o₇ ≡ o₆ ++ 10 ∷ []
    → o₇ ≡ out ++ line_with w (a ∷ b ∷ c ∷ d ∷ e ∷ [])
six_words out w a b c d e o₁ o₂ o₃ o₄ o₅ o₆ o₇ h₁ h₂ h₃ h₄ h₅ h₆ h₇ =
    rw (h₇, h₆, h₅, h₄, h₃, h₂, h₁) (simp append_assoc)

-- a word and four others
pub five_words : (out w a b c d o₁ o₂ o₃ o₄ o₅ o₆ : List ℕ)
    → o₁ ≡ out ++ w → o₂ ≡ o₁ ++ codes " " ++ a → o₃ ≡ o₂ ++ codes " " ++ b → o₄ ≡ o₃ ++ codes " " ++ c
    → o₅ ≡ o₄ ++ codes " " ++ d → o₆ ≡ o₅ ++ 10 ∷ []
    → o₆ ≡ out ++ line_with w (a ∷ b ∷ c ∷ d ∷ [])
five_words out w a b c d o₁ o₂ o₃ o₄ o₅ o₆ h₁ h₂ h₃ h₄ h₅ h₆ = rw (h₆, h₅, h₄, h₃, h₂, h₁) (simp append_assoc)

-- a line for each label, and one more
pub one_more_line : (labels : List (List ℕ)) (ids : List LabelId) (k : ℕ) (d : LabelId) → k < length ids
    → lines_of (labels_at labels (map (λ id. id.0) (take (k + 1) ids)))
    ≡ lines_of (labels_at labels (map (λ id. id.0) (take k ids))) ++ lines_of (labels_at labels ((get_or ids k d).0 ∷ []))
one_more_line labels ids k d h = rw (take_more ids k d h) (simp (map-append, flat_map-append))

-- a number that is there has one label
one_there : (labels : List (List ℕ)) (n : ℕ) → n < length labels → length (option_to_list (slice_get labels n)) ≡ 1
one_there [] n h = absurd (omega arith)
one_there (l ∷ labels) zero h = refl
one_there (l ∷ labels) (suc n) h = one_there labels n (omega arith)

-- numbers that are there have as many labels
pub length-labels_at : (labels : List (List ℕ)) (numbers : List ℕ) → AllByRecursion (λ n. n < length labels) numbers
    → length (labels_at labels numbers) ≡ length numbers
length-labels_at labels [] h = refl
length-labels_at labels (n ∷ numbers) h =
    let one : length (option_to_list (slice_get labels n)) ≡ 1 = one_there labels n h.0 in
    let others : length (labels_at labels numbers) ≡ length numbers = length-labels_at labels numbers h.1 in
    omega (arith, length-append (option_to_list (slice_get labels n)) (labels_at labels numbers))

-- the text of a database with incomplete proofs
pub text_of_incomplete : (c : Conclusion) (n : ℕ) (numbers : List ℕ) → c.incomplete ≡ n ∷ numbers
    → AllByRecursion (λ k. k < length c.labels) c.incomplete
    → text_of [] (verdict_of_conclusion c)
    ≡ line_with (codes "incomplete") (decimal (length c.incomplete) ∷ []) ++ lines_of (labels_at c.labels c.incomplete)
text_of_incomplete c n numbers e all =
    let Text : List ℕ → Type 0 = λ ns. text_of [] (verdict_of_conclusion (record c { incomplete = ns }))
    ≡ line_with (codes "incomplete") (decimal (length ns) ∷ []) ++ lines_of (labels_at c.labels ns) in
    let All : List ℕ → Type 0 = λ ns. AllByRecursion (λ k. k < length c.labels) ns in
    let here : AllByRecursion (λ k. k < length c.labels) (n ∷ numbers) = subst All e all in
    let count : length (labels_at c.labels (n ∷ numbers)) ≡ length (n ∷ numbers) = length-labels_at c.labels (n ∷ numbers) here in
    subst Text (sym e)
    (ap (λ (k : ℕ). line_with (codes "incomplete") (decimal k ∷ []) ++ lines_of (labels_at c.labels (n ∷ numbers))) count)

-- its line, word by word, and the lines of the labels
pub incomplete_lines : (out count lines o₁ o₂ o₃ o₄ : List ℕ) → o₁ ≡ out ++ codes "incomplete" → o₂ ≡ o₁ ++ codes " " ++ count
    → o₃ ≡ o₂ ++ 10 ∷ [] → o₄ ≡ o₃ ++ lines → o₄ ≡ out ++ (line_with (codes "incomplete") (count ∷ []) ++ lines)
incomplete_lines out count lines o₁ o₂ o₃ o₄ h₁ h₂ h₃ h₄ = rw (h₄, h₃, h₂, h₁) (simp append_assoc)

-- a list that isn't empty has a first element
pub some_first : (b : Bool) (ns : List ℕ) → (IsTrue b ↔ (ns ≡ [])) → b ≡ false → (n : ℕ) × (rest : List ℕ) × (ns ≡ n ∷ rest)
some_first b [] e h = cc (e.1 refl)
some_first b (n ∷ rest) e h = (n, rest, refl)

-- the text of a database with incomplete proofs, in lists that equal its own
pub text_of_some : (c : Conclusion) (b : Bool) (labels : List (List ℕ)) (ids : List LabelId)
    → (IsTrue b ↔ (c.incomplete ≡ [])) → b ≡ false → labels ≡ c.labels → map (λ id. id.0) ids ≡ c.incomplete
    → AllByRecursion (λ k. k < length c.labels) c.incomplete
    → line_with (codes "incomplete") (decimal (length ids) ∷ []) ++ lines_of (labels_at labels (map (λ id. id.0) ids))
    ≡ text_of [] (verdict_of_conclusion c)
text_of_some c b labels ids e h same_labels same_numbers all =
    let found = some_first b c.incomplete e h in
    let text = text_of_incomplete c found.0 found.1 found.2 all in
    let count : length ids ≡ length c.incomplete = sym (length-map ids (λ (id : LabelId). id.0)) ∙ ap length same_numbers in
    let lines : lines_of (labels_at labels (map (λ (id : LabelId). id.0) ids)) ≡ lines_of (labels_at c.labels c.incomplete) =
    ap (λ (ls : List (List ℕ)). lines_of (labels_at ls (map (λ (id : LabelId). id.0) ids))) same_labels
    ∙ ap (λ (ns : List ℕ). lines_of (labels_at c.labels ns)) same_numbers in
    ap (λ (k : ℕ). line_with (codes "incomplete") (decimal k ∷ []) ++ lines_of (labels_at labels (map (λ (id : LabelId). id.0) ids))) count
    ∙ ap (λ (ls : List ℕ). line_with (codes "incomplete") (decimal (length c.incomplete) ∷ []) ++ ls) lines ∙ sym text

-- lines after question marks, and one more
pub one_more_question : (labels : List (List ℕ)) (ids : List LabelId) (k : ℕ) (d : LabelId) → k < length ids → (get_or ids k d).0 < length labels
    → lines_of (map (λ (label : List ℕ). codes "? " ++ label) (labels_at labels (map (λ id. id.0) (take (k + 1) ids))))
    ≡ lines_of (map (λ (label : List ℕ). codes "? " ++ label) (labels_at labels (map (λ id. id.0) (take k ids))))
    ++ (codes "? " ++ lines_of (labels_at labels ((get_or ids k d).0 ∷ [])))
one_more_question labels ids k d h within =
    let there = get_within labels (get_or ids k d).0 within in
    rw (take_more ids k d h) (simp (map-append, flat_map-append, there.1))

-- a word and two others
pub three_words : (out w a b o₁ o₂ o₃ o₄ : List ℕ) → o₁ ≡ out ++ w → o₂ ≡ o₁ ++ codes " " ++ a → o₃ ≡ o₂ ++ codes " " ++ b → o₄ ≡ o₃ ++ 10 ∷ []
    → o₄ ≡ out ++ line_with w (a ∷ b ∷ [])
three_words out w a b o₁ o₂ o₃ o₄ h₁ h₂ h₃ h₄ = rw (h₄, h₃, h₂, h₁) (simp append_assoc)

-- a line for each refusal, and one more
pub one_more_refusal : (files : List PlainFile) (refusals : List Refusal) (k : ℕ) (d : Refusal) → k < length refusals
    → refusals_text files (map plain_refusal (take (k + 1) refusals))
    ≡ refusals_text files (map plain_refusal (take k refusals)) ++ text_of files (Refused (plain_refusal (get_or refusals k d)))
one_more_refusal files refusals k d h =
    rw (take_more refusals k d h) (simp (map-append, flat_map-append, append-nil))

-- ---- all faults

-- what is concluded tells no refusal
pub no_refusal : (c : Conclusion) (numbers : List ℕ)
    → refusal_in (verdict_where_incomplete c numbers) ≡ None
no_refusal c [] = refl
no_refusal c (n ∷ numbers) = refl

-- ---- questions

-- nothing is at fault in what is kept
pub accepted_with : (profile : Profile) (files : List PlainFile) (c : Conclusion) (numbers : List ℕ) → HasVerdict profile files (verdict_where_incomplete c numbers) → (statements : List PlainStatement) × AreAccepted profile files statements
accepted_with profile files c [] h = (h.0, h.1)
accepted_with profile files c (n ∷ numbers) h = (h.0, h.1)

-- what holds of a reply that was made
pub made_both : {X E : Type 0} (r : Result X E) (P Q R : X → Type 0) → ((x : X) → P x → Q x → R x) → IfOk r P → IfOk r Q → IfOk r R
made_both (Ok x) P Q R f h k = f x h k
made_both (Err e) P Q R f h k = tt

-- what is said of an answer, at the value that it has
pub at_ok : {X E : Type 0} (r : Result X E) (x : X) (P : X → Type 0) → r ≡ Ok x → IfOk r P → P x
at_ok {X} {E} r x P e h = subst (λ (q : Result X E). IfOk q P) e h
