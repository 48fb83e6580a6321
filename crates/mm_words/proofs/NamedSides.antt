-- The two sides that the words of `mm diff` name. Begin with `sides_at`.
use Rattle.std.proofs.Common.{◌≡◌, ◌≢◌, ℕ, ◌+◌, List, [], ◌∷◌, length, take, drop}
use Rattle.std.proofs.Common.{IfNone, IfSome}
use Rattle.std.proofs.Common.{Option, Some, None, Bor, codes, inl, inr, refl, sym, ap, ◌∙◌, ◌⊎◌}
use Rattle.std.proofs.lemmas.List.{drop-map, length-map, take-map}
use Rattle.std.specs.List.{position}
use Rattle.std.specs.Str.{bytes_eq}
use Rattle.mm_words.proofs.AskedWords.{number_named}
use Rattle.mm_words.proofs.AskedWords.{texts_in}
use Rattle.mm_words.specs.Words.{AreSides}
use Rattle.mm_words.specs.declared.request.AskedVersions.{AskedVersions}

-- where names are words, there are some
some_texts : (words : List (Bor (List ℕ))) → words ≢ [] → texts_in words ≢ []
some_texts [] some none = some refl
some_texts (w ∷ ws) some none = absurd (cc)

-- Two parts of words are the two sides, where a `--` stands between them.
pub sides_at : (words old new : List (Bor (List ℕ))) (number : ℕ)
    → Some number ≡ position (λ other. bytes_eq other.now (codes "--")) words
    → old ≡ take number words → new ≡ drop (number + 1) words → old ≢ [] → new ≢ []
    → AreSides (texts_in words) (texts_in old) (texts_in new)
sides_at words old new number found before after some more = (
  some_texts old some,
  some_texts new more,
  inl (
    number,
    number_named words words (codes "--") (Some number) refl found,
    ap texts_in before ∙ sym (take-map (λ (w : Bor (List ℕ)). w.now) number words),
    ap texts_in after ∙ sym (drop-map (λ (w : Bor (List ℕ)). w.now) (number + 1) words),
  ),
)

-- There are no sides where nothing stands on one side of the first `--`.
pub no_sides_at : (words : List (Bor (List ℕ))) (number : ℕ)
    → Some number ≡ position (λ other. bytes_eq other.now (codes "--")) words
    → (take number words ≡ []) ⊎ (drop (number + 1) words ≡ [])
    → (old new : List (List ℕ)) → AreSides (texts_in words) old new → ⊥
no_sides_at words number found (inl none) old new (some, more, inl (other, is, before, after)) =
    let same : other ≡ number =
    let e = sym is ∙ number_named words words (codes "--") (Some number) refl found in cc in
    some (before ∙ ap (λ n. take n (texts_in words)) same
    ∙ take-map (λ (w : Bor (List ℕ)). w.now) number words ∙ ap texts_in none)
no_sides_at words number found (inr none) old new (some, more, inl (other, is, before, after)) =
    let same : other ≡ number =
    let e = sym is ∙ number_named words words (codes "--") (Some number) refl found in cc in
    more (after ∙ ap (λ n. drop (n + 1) (texts_in words)) same
    ∙ drop-map (λ (w : Bor (List ℕ)). w.now) (number + 1) words ∙ ap texts_in none)
no_sides_at words number found none old new (some, more, inr (is, two, before, after)) =
    let e = sym is ∙ number_named words words (codes "--") (Some number) refl found in
    absurd (cc)

-- The versions that are found on both sides of the first `--` are in the files of the two sides.
pub sides_given : (words old new : List (Bor (List ℕ))) (number : ℕ) (r : Option AskedVersions)
    → Some number ≡ position (λ other. bytes_eq other.now (codes "--")) words
    → old ≡ take number words → new ≡ drop (number + 1) words
    → IfSome r (λ sides. (sides.old.now ≡ old) × (sides.new.now ≡ new) × (old ≢ []) × (new ≢ []))
    → IfSome r (λ sides. AreSides (texts_in words) (texts_in sides.old.now)
    (texts_in sides.new.now))
sides_given words old new number (Some sides) found before after (is_old, is_new, some, more) =
    rw (is_old, is_new) (sides_at words old new number found before after some more)
sides_given words old new number None found before after h = tt

-- Where none are found there, there are no two sides.
pub no_sides_given : (words old new : List (Bor (List ℕ))) (number : ℕ)
    (r : Option AskedVersions)
    → Some number ≡ position (λ other. bytes_eq other.now (codes "--")) words
    → old ≡ take number words → new ≡ drop (number + 1) words
    → IfNone r ((old ≡ []) ⊎ (new ≡ []))
    → IfNone r ((one other : List (List ℕ)) → ¬ (AreSides (texts_in words) one other))
no_sides_given words old new number (Some sides) found before after h = tt
no_sides_given words old new number None found before after (inl none) =
    no_sides_at words number found (inl (sym before ∙ none))
no_sides_given words old new number None found before after (inr none) =
    no_sides_at words number found (inr (sym after ∙ none))

-- Nor where no `--` stands among the words, and they aren't two.
pub no_sides_in : (words : List (Bor (List ℕ)))
    → None ≡ position (λ other. bytes_eq other.now (codes "--")) words → length words ≢ 2
    → (old new : List (List ℕ)) → AreSides (texts_in words) old new → ⊥
no_sides_in words none others old new (some, more, inl (other, is, before, after)) =
    let e = sym is ∙ number_named words words (codes "--") None refl none in
    absurd (cc)
no_sides_in words none others old new (some, more, inr (is, two, before, after)) =
    others (sym (length-map words (λ (w : Bor (List ℕ)). w.now)) ∙ two)
