-- The pairs of variables that a proof or a step lacks, one after the other, and their text.
use Rattle.std.proofs.Common.{◌≡◌, ℕ, zero, suc, ◌+◌, ◌<◌, List, [], ◌∷◌, ◌++◌, length, take, map}
use Rattle.std.proofs.Common.{get_or, slice_get, Some, refl, ap, sym, ◌∙◌, append_assoc, append-nil, arith}
use Rattle.std.proofs.lemmas.Option.{same_Some}
use Rattle.std.proofs.lemmas.Grind.{flat_map-append}
use Rattle.mm_frame.specs.Sentence.{Sentence}
use Rattle.mm_frame.specs.Numbers.{IsNumberOf}
use Rattle.mm_frame.specs.declared.number.Sym.{Sym}
use Rattle.mm_step.specs.Substitution.{Symbol}
use Rattle.mm_facts.specs.Explained.{Detail, detail_text, details_text}
use Rattle.mm_facts.specs.Mirror.Explaining.{AreNamedPairs}

-- the pair at an index, and the numbers of its members
pub pair_there : (st : List Sentence) (ps : List (Sym × Sym)) (named : List (Symbol × Symbol)) (k : ℕ)
    (d : Sym × Sym) → AreNamedPairs st ps named → k < length ps
    → (p : Symbol × Symbol) × (slice_get named k ≡ Some p)
    × IsNumberOf st p.0 (get_or ps k d).0.0 × IsNumberOf st p.1 (get_or ps k d).1.0
pair_there st [] named k d are less = absurd (omega arith)
pair_there st (p ∷ ps) [] k d are less = absurd (let first = are.0 in cc)
pair_there st (p ∷ ps) (q ∷ named) zero d are less =
    (q, refl, (let first = are.0 in cc), let second = are.1 in cc)
pair_there st (p ∷ ps) (q ∷ named) (suc k) d are less =
    pair_there st ps named k d ((let first = are.0 in cc), let second = are.1 in cc) (omega arith)

-- as many pairs
pub as_many_pairs : (st : List Sentence) (ps : List (Sym × Sym)) (named : List (Symbol × Symbol))
    → AreNamedPairs st ps named → length named ≡ length ps
as_many_pairs st [] [] are = refl
as_many_pairs st [] (q ∷ named) are = absurd (let first = are.0 in cc)
as_many_pairs st (p ∷ ps) [] are = absurd (let first = are.0 in cc)
as_many_pairs st (p ∷ ps) (q ∷ named) are =
    ap suc (as_many_pairs st ps named ((let first = are.0 in cc), let second = are.1 in cc))

-- this is told of each of the pairs
abbrev told_of_each : (fact : Symbol → Symbol → Detail) → (pairs : List (Symbol × Symbol)) → List ℕ
told_of_each fact pairs = details_text (map (λ p. fact p.0 p.1) pairs)

-- one pair more
one_lacking : (fact : Symbol → Symbol → Detail) (named : List (Symbol × Symbol)) (k : ℕ)
    (p : Symbol × Symbol) → slice_get named k ≡ Some p
    → told_of_each fact (take (suc k) named)
    ≡ told_of_each fact (take k named) ++ detail_text (fact p.0 p.1)
one_lacking fact [] k p e = absurd cc
one_lacking fact (q ∷ named) zero p e =
    append-nil (detail_text (fact q.0 q.1))
    ∙ ap (λ (r : Symbol × Symbol). detail_text (fact r.0 r.1)) (same_Some q p e)
one_lacking fact (q ∷ named) (suc k) p e =
    ap (λ (text : List ℕ). detail_text (fact q.0 q.1) ++ text) (one_lacking fact named k p e)
    ∙ sym (append_assoc (detail_text (fact q.0 q.1)) (told_of_each fact (take k named))
    (detail_text (fact p.0 p.1)))

-- it is told by the names of its members
pub lacking_told : (fact : Symbol → Symbol → Detail) (st : List Sentence)
    (named : List (Symbol × Symbol)) (k : ℕ) (p : Symbol × Symbol)
    (n m : ℕ) (x y o₀ o₁ o₂ : List ℕ) → slice_get named k ≡ Some p → IsNumberOf st p.0 n → IsNumberOf st p.1 m
    → IsNumberOf st x n → IsNumberOf st y m
    → o₁ ≡ o₀ ++ details_text (map (λ p. fact p.0 p.1) (take k named))
    → o₂ ≡ o₁ ++ detail_text (fact x y)
    → o₂ ≡ o₀ ++ details_text (map (λ p. fact p.0 p.1) (take (k + 1) named))
lacking_told fact st named k p n m x y o₀ o₁ o₂ there first second own other h₁ h₂ =
    let same_x : x ≡ p.0 = same_Some x p.0 (sym own ∙ first) in
    let same_y : y ≡ p.1 = same_Some y p.1 (sym other ∙ second) in
    let next : k + 1 ≡ suc k = omega arith in
    h₂ ∙ ap (λ (z : Symbol). o₁ ++ detail_text (fact z y)) same_x
    ∙ ap (λ (z : Symbol). o₁ ++ detail_text (fact p.0 z)) same_y
    ∙ ap (λ (text : List ℕ). text ++ detail_text (fact p.0 p.1)) h₁
    ∙ append_assoc o₀ (told_of_each fact (take k named)) (detail_text (fact p.0 p.1))
    ∙ ap (λ (text : List ℕ). o₀ ++ text) (sym (one_lacking fact named k p there))
    ∙ ap (λ (i : ℕ). o₀ ++ told_of_each fact (take i named)) (sym next)

-- facts, and more behind them
pub both_told : (there whole : List Detail) (o₀ o₁ o₂ : List ℕ) → o₁ ≡ o₀ ++ details_text there
    → o₂ ≡ o₁ ++ details_text whole → o₂ ≡ o₀ ++ details_text (there ++ whole)
both_told there whole o₀ o₁ o₂ h₁ h₂ =
    let all : details_text (there ++ whole) ≡ details_text there ++ details_text whole = simp flat_map-append in
    h₂ ∙ ap (λ (o : List ℕ). o ++ details_text whole) h₁
    ∙ append_assoc o₀ (details_text there) (details_text whole)
    ∙ ap (λ (o : List ℕ). o₀ ++ o) (sym all)
