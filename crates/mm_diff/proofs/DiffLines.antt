-- The lines that tell what changed, one after the other. On this file rest the contracts of `text`.
use Rattle.std.proofs.Common.{◌≡◌, ℕ, ◌+◌, ◌<◌, List, [], ◌∷◌, ◌++◌, map, take, length, get_or}
use Rattle.std.specs.List.{AllByRecursion}
use Rattle.std.proofs.Common.{zero, suc, arith, codes, decimal, Some, slice_get, ap, append_assoc, append-nil, ◌∙◌, refl}
use Rattle.std.proofs.lemmas.List.{map-append, take_more}
use Rattle.std.proofs.lemmas.Grind.{flat_map-append}
use Rattle.std.specs.Option.{option_to_list}
use Rattle.mm_frame.specs.declared.number.LabelId.{LabelId}
use Rattle.mm_rules.specs.Answer.{labels_at}
use Rattle.mm_verdict.specs.Reply.{line_with}
use Rattle.mm_diff.specs.declared.depends.Dependence.{Dependence}
use Rattle.mm_diff.specs.declared.renamed.Renaming.{Renaming}
use Rattle.mm_diff.specs.Diff.{axiom_lines, letter_lines, PlainChanges, renamed_lines, sums_line}
use Rattle.mm_diff.specs.Mirror.Changes.{plain_dependence, plain_renaming, spaced_labels, sum_words}

-- the line of one label
pub lettered_line : (labels : List (List ℕ)) (n : ℕ) (letter label o₀ o₁ o₂ o₃ : List ℕ)
    → slice_get labels n ≡ Some label → o₁ ≡ o₀ ++ letter → o₂ ≡ o₁ ++ codes " " ++ label
    → o₃ ≡ o₂ ++ 10 ∷ [] → o₃ ≡ o₀ ++ letter_lines letter (labels_at labels (n ∷ []))
lettered_line labels n letter label o₀ o₁ o₂ o₃ there h₁ h₂ h₃ =
    let one : letter_lines letter (labels_at labels (n ∷ []))
    ≡ line_with letter (label ∷ []) ++ [] =
    ap (λ o. letter_lines letter (option_to_list o ++ [])) there in
    rw (one, h₃, h₂, h₁) (simp (append_assoc, append-nil))

-- a line for each label, and one more
pub one_more_line : (letter : List ℕ) (labels : List (List ℕ)) (ids : List LabelId) (k : ℕ)
    (d : LabelId) → k < length ids
    → letter_lines letter (labels_at labels (map (λ id. id.0) (take (k + 1) ids)))
    ≡ letter_lines letter (labels_at labels (map (λ id. id.0) (take k ids)))
    ++ letter_lines letter (labels_at labels ((get_or ids k d).0 ∷ []))
one_more_line letter labels ids k d h =
    rw (take_more ids k d h) (simp (map-append, flat_map-append))

-- the line of one that is renamed
pub renamed_line : (olds news : List (List ℕ)) (r : Renaming) (old new o₀ o₁ o₂ o₃ o₄ : List ℕ)
    → slice_get olds r.other.0 ≡ Some old → slice_get news r.id.0 ≡ Some new
    → o₁ ≡ o₀ ++ 82 ∷ [] → o₂ ≡ o₁ ++ codes " " ++ old → o₃ ≡ o₂ ++ codes " " ++ new
    → o₄ ≡ o₃ ++ 10 ∷ [] → o₄ ≡ o₀ ++ renamed_lines olds news (plain_renaming r ∷ [])
renamed_line olds news r old new o₀ o₁ o₂ o₃ o₄ here there h₁ h₂ h₃ h₄ =
    let one : labels_at olds (r.other.0 ∷ []) ≡ old ∷ [] = ap (λ o. option_to_list o ++ []) here in
    let other : labels_at news (r.id.0 ∷ []) ≡ new ∷ [] = ap (λ o. option_to_list o ++ []) there in
    let line : renamed_lines olds news (plain_renaming r ∷ [])
    ≡ line_with (codes "R") (old ∷ new ∷ []) ++ [] =
    ap (λ ls. line_with (codes "R") (ls ++ labels_at news (r.id.0 ∷ [])) ++ []) one
    ∙ ap (λ ls. line_with (codes "R") ((old ∷ []) ++ ls) ++ []) other in
    rw (line, h₄, h₃, h₂, h₁) (simp (append_assoc, append-nil))

-- a line for each, and one more
pub one_more_renamed : (olds news : List (List ℕ)) (rs : List Renaming) (k : ℕ) (d : Renaming)
    → k < length rs → renamed_lines olds news (map plain_renaming (take (k + 1) rs))
    ≡ renamed_lines olds news (map plain_renaming (take k rs))
    ++ renamed_lines olds news (plain_renaming (get_or rs k d) ∷ [])
one_more_renamed olds news rs k d h =
    rw (take_more rs k d h) (simp (map-append, flat_map-append))

-- what holds of what each is told as holds of that at an index
pub told_at : {X Y : Type 0} (f : X → Y) (P : Y → Type 0) (xs : List X) (k : ℕ) (d : X)
    → AllByRecursion P (map f xs) → k < length xs → P (f (get_or xs k d))
told_at f P [] k d all less = absurd (omega arith)
told_at f P (x ∷ xs) zero d all less = all.0
told_at f P (x ∷ xs) (suc k) d all less = told_at f P xs k d all.1 (omega arith)

-- a space and one label
pub spaced_label : (labels : List (List ℕ)) (n : ℕ) (label o₀ o₁ : List ℕ)
    → slice_get labels n ≡ Some label → o₁ ≡ o₀ ++ codes " " ++ label
    → o₁ ≡ o₀ ++ spaced_labels (labels_at labels (n ∷ []))
spaced_label labels n label o₀ o₁ there h =
    let one : spaced_labels (labels_at labels (n ∷ [])) ≡ (codes " " ++ label) ++ [] =
    ap (λ o. spaced_labels (option_to_list o ++ [])) there in
    rw (one, h) (simp (append_assoc, append-nil))

-- so for each label, and one more
pub one_more_label : (labels : List (List ℕ)) (ids : List LabelId) (k : ℕ) (d : LabelId)
    → k < length ids → spaced_labels (labels_at labels (map (λ id. id.0) (take (k + 1) ids)))
    ≡ spaced_labels (labels_at labels (map (λ id. id.0) (take k ids)))
    ++ spaced_labels (labels_at labels ((get_or ids k d).0 ∷ []))
one_more_label labels ids k d h = rw (take_more ids k d h) (simp (map-append, flat_map-append))

-- a line, word by word
line_spaced : (word : List ℕ) (ws : List (List ℕ))
    → line_with word ws ≡ word ++ (spaced_labels ws ++ codes "\n")
line_spaced word [] = refl
line_spaced word (w ∷ ws) = rw (line_spaced w ws) (simp append_assoc)

-- the line of a theorem and of axioms
pub dependence_line : (labels axiom_labels : List (List ℕ)) (d : Dependence)
    (letter name o₀ o₁ o₂ o₃ o₄ : List ℕ) → slice_get labels d.theorem.0 ≡ Some name
    → o₁ ≡ o₀ ++ letter → o₂ ≡ o₁ ++ codes " " ++ name
    → o₃ ≡ o₂ ++ spaced_labels (labels_at axiom_labels (map (λ id. id.0) d.axioms.items))
    → o₄ ≡ o₃ ++ 10 ∷ []
    → o₄ ≡ o₀ ++ axiom_lines letter labels axiom_labels (plain_dependence d ∷ [])
dependence_line labels axiom_labels d letter name o₀ o₁ o₂ o₃ o₄ there h₁ h₂ h₃ h₄ =
    let ls : List (List ℕ) = labels_at axiom_labels (map (λ id. id.0) d.axioms.items) in
    let one : labels_at labels (d.theorem.0 ∷ []) ≡ name ∷ [] =
    ap (λ o. option_to_list o ++ []) there in
    let words : line_with letter (name ∷ ls)
    ≡ letter ++ (((codes " " ++ name) ++ spaced_labels ls) ++ codes "\n") =
    line_spaced letter (name ∷ ls) in
    let line : axiom_lines letter labels axiom_labels (plain_dependence d ∷ [])
    ≡ (letter ++ (((codes " " ++ name) ++ spaced_labels ls) ++ codes "\n")) ++ [] =
    ap (λ ns. line_with letter (ns ++ ls) ++ []) one ∙ ap (λ l. l ++ []) words in
    rw (line, h₄, h₃, h₂, h₁) (simp (append_assoc, append-nil))

-- a line for each theorem, and one more
pub one_more_dependence : (letter : List ℕ) (labels axiom_labels : List (List ℕ))
    (ds : List Dependence) (k : ℕ) (d : Dependence) → k < length ds
    → axiom_lines letter labels axiom_labels (map plain_dependence (take (k + 1) ds))
    ≡ axiom_lines letter labels axiom_labels (map plain_dependence (take k ds))
    ++ axiom_lines letter labels axiom_labels (plain_dependence (get_or ds k d) ∷ [])
one_more_dependence letter labels axiom_labels ds k d h =
    rw (take_more ds k d h) (simp (map-append, flat_map-append))

-- four lists, one after the other
four_more : (o a b c d : List ℕ) → o ++ (a ++ b ++ c ++ d) ≡ o ++ a ++ b ++ c ++ d
four_more o a b c d = simp append_assoc

-- a number and a word
two_words : (o : List ℕ) (n : ℕ) (word : List ℕ)
    → o ++ sum_words n word ≡ o ++ codes " " ++ decimal n ++ codes " " ++ word
two_words o n word = four_more o (codes " ") (decimal n) (codes " ") word

-- the sums
pub sums_told : (c : PlainChanges) (n₁ n₂ n₃ n₄ n₅ n₆ n₇ n₈ : ℕ)
    (o₀ o₁ o₂ o₃ o₄ o₅ o₆ o₇ o₈ o₉ o : List ℕ)
    → n₁ ≡ length c.gone → n₂ ≡ length c.added → n₃ ≡ length c.changed → n₄ ≡ length c.reproved
    → n₅ ≡ length c.renamed → n₆ ≡ length c.moved → n₇ ≡ length c.further → n₈ ≡ length c.less
    → o₁ ≡ o₀ ++ codes "differ" → o₂ ≡ o₁ ++ sum_words n₁ (codes "gone")
    → o₃ ≡ o₂ ++ sum_words n₂ (codes "added") → o₄ ≡ o₃ ++ sum_words n₃ (codes "changed")
    → o₅ ≡ o₄ ++ sum_words n₄ (codes "reproved") → o₆ ≡ o₅ ++ sum_words n₅ (codes "renamed")
    → o₇ ≡ o₆ ++ sum_words n₆ (codes "moved") → o₈ ≡ o₇ ++ sum_words n₇ (codes "further")
    → o₉ ≡ o₈ ++ sum_words n₈ (codes "less") → o ≡ o₉ ++ 10 ∷ [] → o ≡ o₀ ++ sums_line c
sums_told c n₁ n₂ n₃ n₄ n₅ n₆ n₇ n₈ o₀ o₁ o₂ o₃ o₄ o₅ o₆ o₇ o₈ o₉ o e₁ e₂ e₃ e₄ e₅ e₆ e₇ e₈ h₁ h₂ h₃
    h₄ h₅ h₆ h₇ h₈ h₉ h =
    rw (
      h,
      h₉ ∙ two_words o₈ n₈ (codes "less"),
      h₈ ∙ two_words o₇ n₇ (codes "further"),
      h₇ ∙ two_words o₆ n₆ (codes "moved"),
      h₆ ∙ two_words o₅ n₅ (codes "renamed"),
      h₅ ∙ two_words o₄ n₄ (codes "reproved"),
      h₄ ∙ two_words o₃ n₃ (codes "changed"),
      h₃ ∙ two_words o₂ n₂ (codes "added"),
      h₂ ∙ two_words o₁ n₁ (codes "gone"),
      h₁,
      e₁,
      e₂,
      e₃,
      e₄,
      e₅,
      e₆,
      e₇,
      e₈,
    )
    (simp append_assoc)
