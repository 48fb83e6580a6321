-- The words of a line, one after the other. On this file rests the contract of `push_line`.
use Rattle.std.proofs.Common.{◌≡◌, ℕ, ◌+◌, ◌<◌, List, [], ◌∷◌, ◌++◌, codes, ap, sym, ◌∙◌}
use Rattle.std.proofs.Common.{append_assoc, append-nil}
use Rattle.std.proofs.Common.{take, drop, length, get_or, refl, ◌-◌, arith}
use Rattle.std.specs.Global.{Vec}
use denote.Ref.{Bor}
use Rattle.std.proofs.lemmas.List.{map-append, take_more, drop_more, length-map, length-drop}
use Rattle.mm_code.specs.Layout.{texts}
use Rattle.std.proofs.lemmas.Grind.{flat_map-append}
use Rattle.mm_rules.specs.Shown.{symbols_text}
use Rattle.mm_find.specs.Found.{premises, sign_before}
use Rattle.mm_find.specs.Plain.{expressions_in}

-- a hypothesis and its sign
pub premise_told : (o₀ o₁ o₂ sign all : List ℕ) (first : List (List ℕ))
    (others : List (List (List ℕ)))
    → o₁ ≡ o₀ ++ symbols_text first → o₂ ≡ o₁ ++ (codes " " ++ sign) → sign ≡ sign_before others
    → o₀ ++ symbols_text (premises (first ∷ others)) ≡ all → o₂ ++ symbols_text (premises others)
    ≡ all
premise_told o₀ o₁ o₂ sign all first others h₁ h₂ is rest =
    let word : List ℕ = codes " " ++ sign in
    let after : List ℕ = symbols_text (premises others) in
    ap (λ (o : List ℕ). o ++ after) (h₂ ∙ ap (λ (o : List ℕ). o ++ word) h₁)
    ∙ ap (λ (o : List ℕ). o ++ after) (append_assoc o₀ (symbols_text first) word)
    ∙ append_assoc o₀ (symbols_text first ++ word) after
    ∙ ap (λ (o : List ℕ). o₀ ++ o) (append_assoc (symbols_text first) word after)
    ∙ ap (λ (w : List ℕ). o₀ ++ (symbols_text first ++ ((codes " " ++ w) ++ after))) is
    ∙ ap (λ (o : List ℕ). o₀ ++ o) (sym (flat_map-append
    (λ (symbol : List ℕ). codes " " ++ symbol) first (sign_before others ∷ premises others)))
    ∙ rest

-- the sign behind the last hypothesis, and behind another
pub last_sign : (others : List (List (List ℕ))) → length others ≡ 0 → codes "=>"
    ≡ sign_before others
last_sign [] none = refl
last_sign (e ∷ others) some = absurd (omega arith)

pub other_sign : (others : List (List (List ℕ))) → ¬ (length others ≡ 0) → codes "&"
    ≡ sign_before others
other_sign [] some = absurd (some refl)
other_sign (e ∷ others) some = refl

-- one hypothesis more
pub premise_next : (hypotheses : List (Vec (Bor (List ℕ)))) (i : ℕ) (d : Vec (Bor (List ℕ)))
    (own : List (Bor (List ℕ))) (o₀ o₁ o₂ sign all : List ℕ) → d ≡ get_or hypotheses i d
    → own ≡ d.items
    → i < length hypotheses → o₁ ≡ o₀ ++ symbols_text (texts own)
    → o₂ ≡ o₁ ++ codes " " ++ sign
    → ((others : List (List (List ℕ))) → length others ≡ length hypotheses - i - 1
    → sign ≡ sign_before others)
    → o₀ ++ symbols_text (premises (expressions_in (drop i hypotheses))) ≡ all
    → o₂ ++ symbols_text (premises (expressions_in (drop (i + 1) hypotheses))) ≡ all
premise_next hypotheses i d own o₀ o₁ o₂ sign all at is less h₁ h₂ signs rest =
    let others : List (List (List ℕ)) = expressions_in (drop (i + 1) hypotheses) in
    let next : expressions_in (drop i hypotheses) ≡ texts own ∷ others =
    ap expressions_in (drop_more hypotheses i d less)
    ∙ ap (λ (o : List (Bor (List ℕ))). texts o ∷ others)
    (sym (is ∙ ap (λ (v : Vec (Bor (List ℕ))). v.items) at)) in
    let count : length others ≡ length hypotheses - i - 1 =
    omega (
      arith,
      length-map (drop (i + 1) hypotheses) (λ (v : Vec (Bor (List ℕ))). texts v.items),
      length-drop (i + 1) hypotheses,
    ) in
    premise_told o₀ o₁ o₂ sign all (texts own) others h₁ (h₂ ∙ append_assoc o₁ (codes " ") sign)
    (signs others count)
    (ap (λ (es : List (List (List ℕ))). o₀ ++ symbols_text (premises es)) (sym next) ∙ rest)

-- a whole line
line_parts : (o l a k b c w s e : List ℕ)
    → o ++ l ++ a ++ k ++ b ++ c ++ w ++ s ++ e
    ≡ o ++ ((l ++ ((a ++ k) ++ ((b ++ c) ++ (w ++ s)))) ++ e)
line_parts o l a k b c w s e = simp append_assoc

pub line_told : (o₀ o₁ o₂ o₃ o₄ o₅ o₆ label keyword : List ℕ) (words symbols : List (List ℕ))
    → o₁ ≡ o₀ ++ label → o₂ ≡ o₁ ++ codes " " ++ keyword → o₃ ≡ o₂ ++ codes " " ++ codes ":"
    → o₄ ≡ o₃ ++ symbols_text words → o₅ ≡ o₄ ++ symbols_text symbols → o₆ ≡ o₅ ++ 10 ∷ []
    → o₆ ≡ o₀ ++ (label ++ symbols_text (keyword ∷ codes ":" ∷ words ++ symbols) ++ codes "\n")
line_told o₀ o₁ o₂ o₃ o₄ o₅ o₆ label keyword words symbols h₁ h₂ h₃ h₄ h₅ h₆ =
    let split : symbols_text (words ++ symbols) ≡ symbols_text words ++ symbols_text symbols =
    flat_map-append (λ (symbol : List ℕ). codes " " ++ symbol) words symbols in
    h₆ ∙ ap (λ (o : List ℕ). o ++ 10 ∷ []) h₅
    ∙ ap (λ (o : List ℕ). o ++ symbols_text symbols ++ 10 ∷ []) h₄
    ∙ ap (λ (o : List ℕ). o ++ symbols_text words ++ symbols_text symbols ++ 10 ∷ []) h₃
    ∙ ap (λ (o : List ℕ). o ++ codes " " ++ codes ":" ++ symbols_text words ++ symbols_text symbols
    ++ 10 ∷ []) h₂
    ∙ ap (λ (o : List ℕ). o ++ codes " " ++ keyword ++ codes " " ++ codes ":" ++ symbols_text words
    ++ symbols_text symbols ++ 10 ∷ []) h₁
    ∙ line_parts o₀ label (codes " ") keyword (codes " ") (codes ":") (symbols_text words)
    (symbols_text symbols) (10 ∷ [])
    ∙ ap (λ (t : List ℕ). o₀ ++ ((label ++ ((codes " " ++ keyword) ++
    ((codes " " ++ codes ":") ++ t))) ++ 10 ∷ [])) (sym split)

-- one word more
pub words_next : (words : List (Bor (List ℕ))) (i : ℕ) (d : Bor (List ℕ)) (o₀ o₁ o₂ : List ℕ)
    → i < length words → o₁ ≡ o₀ ++ symbols_text (texts (take i words))
    → o₂ ≡ o₁ ++ codes " " ++ (get_or words i d).now
    → o₂ ≡ o₀ ++ symbols_text (texts (take (i + 1) words))
words_next words i d o₀ o₁ o₂ less h₁ h₂ =
    let after = h₂ ∙ append_assoc o₁ (codes " ") (get_or words i d).now in
    rw (after, h₁, take_more words i d less) (simp (
      map-append,
      flat_map-append,
      append_assoc,
      append-nil,
    ))
