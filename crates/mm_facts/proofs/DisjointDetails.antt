-- The mandatory pairs that a step asks to stay apart, and their text.
use Rattle.std.proofs.Common.{◌≡◌, ℕ, zero, suc, ◌+◌, ◌<◌, List, [], ◌∷◌, ◌++◌, length, take}
use Rattle.std.proofs.Common.{get_or, slice_get, Some, refl, ap, sym, subst, ◌∙◌, append_assoc, append-nil, arith}
use Rattle.std.proofs.Common.{true, false}
use Rattle.std.specs.Prelude.{◌==◌}
use Rattle.std.proofs.lemmas.Bool.{eqb-true}
use Rattle.mm_frame.specs.Sentence.{Sentence}
use Rattle.mm_frame.specs.Numbers.{IsNumberOf, AreNumbers, symbols_of}
use Rattle.std.specs.Prelude.{◌≢◌, drop}
use Rattle.std.specs.List.{AllZip, AllByRecursion, flat_map}
use Rattle.std.proofs.lemmas.List.{map-append, take_more}
use Rattle.std.proofs.lemmas.Grind.{flat_map-append}
use Rattle.mm_base.proofs.Lists.{all_at, zip_left, zip_push, get_kept, get_pushed}
use Rattle.mm_frame.specs.declared.distinct.DistinctPair.{DistinctPair}
use Rattle.mm_frame.specs.declared.number.Sym.{Sym}
use Rattle.mm_step.specs.declared.fault.ProofRule.{ProofRule}
use Rattle.mm_step.specs.declared.fault.ProofRule.TheVariants.{P11, P12}
use Rattle.mm_step.specs.Stores.{entries_in, numbers_in}
use Rattle.mm_proof.specs.Asked.{AreDeclared}
use Rattle.mm_proof.proofs.ProofNumbers.NamedAssertions.{rest_numbers}
use Rattle.mm_proof.proofs.ProofNumbers.DeclaredSymbols.{rest_declared}
use Rattle.mm_facts.specs.Explained.{AreDisjointDetails, ArePairDetails}
use Rattle.mm_facts.specs.Mirror.Explaining.{ReplacesBy}
use Rattle.mm_rules.specs.Mirror.Explaining.{named_pairs}
use Rattle.mm_facts.proofs.LackingDetails.{both_told}
use Rattle.mm_step.specs.Substitution.{Symbol, Expression, Substitution}
use Rattle.mm_step.specs.Mirror.CodeVerify.{name_at}
use Rattle.mm_step.proofs.ByNumbers.NumberedSymbols.{name_is}
use Rattle.mm_rules.specs.Answer.{labels_at}
use Rattle.mm_facts.specs.Explained.{Detail, pair_asked, shared_by_both, detail_text, details_text, told_of}
use Rattle.mm_rules.proofs.Numbers.{names_at}
use denote.Ref.{Bor}

-- ---- one pair

pub told_none : {X : Type 0} (xs : List X) (ds : List Detail) → length xs ≡ 0 → told_of xs ds ≡ []
told_none [] ds none = refl
told_none (x ∷ xs) ds none = absurd (omega arith)

pub told_some : {X : Type 0} (xs : List X) (ds : List Detail) → (length xs ≡ 0 → ⊥) → told_of xs ds ≡ ds
told_some [] ds some = absurd (some refl)
told_some (x ∷ xs) ds some = refl

-- none are there, or some
pub none_in : (n : ℕ) → true ≡ (n == 0) → n ≡ 0
none_in n e = eqb-true n 0 (sym e)

pub some_in : (n : ℕ) → false ≡ (n == 0) → n ≡ 0 → ⊥
some_in zero e is = absurd cc
some_in (suc n) e is = omega arith

-- as many symbols as numbers
pub number_count : (st : List Sentence) (ns : List ℕ) (xs : List (List ℕ)) → AreNumbers st ns xs
    → length xs ≡ length ns
number_count st [] [] are = refl
number_count st [] (x ∷ xs) are = absurd cc
number_count st (n ∷ ns) [] are = absurd cc
number_count st (n ∷ ns) (x ∷ xs) are = ap suc (number_count st ns xs (cc))

-- the pair is told by the names of its members
pub pair_told : (st : List Sentence) (x y : List ℕ) (n m : ℕ) (es fs : List ℕ) (e f : Expression)
    (o₀ o₁ : List ℕ) → IsNumberOf st x n → IsNumberOf st y m → AreNumbers st es e → AreNumbers st fs f
    → o₁ ≡ o₀ ++ detail_text (pair_asked x y (labels_at (symbols_of st) es) (labels_at (symbols_of st) fs))
    → o₁ ≡ o₀ ++ detail_text (pair_asked (name_at st n) (name_at st m) e f)
pair_told st x y n m es fs e f o₀ o₁ own other first second told =
    let x_is : x ≡ name_at st n = sym (name_is st n x own) in
    let y_is : y ≡ name_at st m = sym (name_is st m y other) in
    let e_is : labels_at (symbols_of st) es ≡ e = names_at (symbols_of st) es e first in
    let f_is : labels_at (symbols_of st) fs ≡ f = names_at (symbols_of st) fs f second in
    told ∙ ap (λ (z : Symbol). o₀ ++ detail_text (pair_asked z y (labels_at (symbols_of st) es) (labels_at (symbols_of st) fs))) x_is
    ∙ ap (λ (z : Symbol). o₀ ++ detail_text (pair_asked (name_at st n) z (labels_at (symbols_of st) es) (labels_at (symbols_of st) fs))) y_is
    ∙ ap (λ (g : Expression). o₀ ++ detail_text (pair_asked (name_at st n) (name_at st m) g (labels_at (symbols_of st) fs))) e_is
    ∙ ap (λ (g : Expression). o₀ ++ detail_text (pair_asked (name_at st n) (name_at st m) e g)) f_is

-- and then what both share
pub shared_told : (st : List Sentence) (us : List ℕ) (u : List Symbol) (d : Detail) (o₀ o₁ o₂ : List ℕ)
    → AreNumbers st us u → o₁ ≡ o₀ ++ detail_text d
    → o₂ ≡ o₁ ++ detail_text (shared_by_both (labels_at (symbols_of st) us))
    → o₂ ≡ o₀ ++ details_text (d ∷ shared_by_both u ∷ [])
shared_told st us u d o₀ o₁ o₂ are h₁ h₂ =
    let u_is : labels_at (symbols_of st) us ≡ u = names_at (symbols_of st) us u are in
    h₂ ∙ ap (λ (g : List Symbol). o₁ ++ detail_text (shared_by_both g)) u_is
    ∙ ap (λ (o : List ℕ). o ++ detail_text (shared_by_both u)) h₁
    ∙ append_assoc o₀ (detail_text d) (detail_text (shared_by_both u))
    ∙ ap (λ (o : List ℕ). o₀ ++ (detail_text d ++ o)) (sym (append-nil (detail_text (shared_by_both u))))

-- ---- the entries that replace its members

-- the entry at an index
get_there : (es : List (Bor (List Sym))) (k : ℕ) (d : Bor (List Sym)) → k < length es
    → slice_get (entries_in es) k ≡ Some (numbers_in (get_or es k d).now)
get_there [] k d less = absurd (omega arith)
get_there (e ∷ es) zero d less = refl
get_there (e ∷ es) (suc k) d less = get_there es k d (omega arith)

-- what follows its first symbol
pub tail_of : (st before : List Sentence) (es : List (Bor (List Sym))) (given : List Expression) (k : ℕ)
    (d : Bor (List Sym)) (tail : List ℕ) → k < length es → AllZip (AreNumbers st) (entries_in es) given
    → AllByRecursion (AreDeclared before) given → tail ≡ drop 1 (numbers_in (get_or es k d).now)
    → (g : Expression) × (slice_get given k ≡ Some g) × AreNumbers st tail (drop 1 g)
    × AreDeclared before (drop 1 g)
tail_of st before es given k d tail less zip declared is =
    let g = zip_left (AreNumbers st) (entries_in es) given k (numbers_in (get_or es k d).now) zip (get_there es k d less) in (
      g.0,
      g.1,
      subst (λ (ns : List ℕ). AreNumbers st ns (drop 1 g.0)) (sym is) (rest_numbers st (numbers_in (get_or es k d).now) g.0 g.2),
      rest_declared before g.0 (all_at (AreDeclared before) given k g.0 declared g.1),
    )

pub pair_details : (st before : List Sentence) (rule : ProofRule) (σ : Substitution) (given : List Expression)
    (n m i j : ℕ) (g h : Expression) (details : List Detail) → slice_get given i ≡ Some g
    → slice_get given j ≡ Some h → ReplacesBy st σ given n i → ReplacesBy st σ given m j
    → AreDisjointDetails before rule (name_at st n) (name_at st m) (drop 1 g) (drop 1 h) details
    → ArePairDetails before rule σ (name_at st n, name_at st m) details
pair_details st before rule σ given n m i j g h details at_i at_j first second apart =
    (drop 1 g, drop 1 h, first g at_i, second h at_j, apart)

-- nothing is told by another rule
pub apart_other : (before : List Sentence) (rule : ProofRule) (x y : Symbol) (e f : Expression)
    → rule ≢ P11 → rule ≢ P12 → AreDisjointDetails before rule x y e f []
apart_other before P11 x y e f shared missing = absurd (shared refl)
apart_other before P12 x y e f shared missing = absurd (missing refl)
apart_other before _ x y e f shared missing = refl

-- ---- one pair after the other

pub pairs_told : (st before : List Sentence) (rule : ProofRule) (σ : Substitution) (given : List Expression)
    (ps : List DistinctPair) (k : ℕ) (d : DistinctPair) (o₀ o₁ o₂ : List ℕ) → k < length ps
    → ((i : ℕ) (p : DistinctPair) → slice_get (take (k + 1) ps) i ≡ Some p
    → ReplacesBy st σ given p.variables.0.0 p.indices.0 × ReplacesBy st σ given p.variables.1.0 p.indices.1)
    → (((i : ℕ) (p : DistinctPair) → slice_get (take k ps) i ≡ Some p
    → ReplacesBy st σ given p.variables.0.0 p.indices.0 × ReplacesBy st σ given p.variables.1.0 p.indices.1)
    → (told : List (List Detail)) × AllZip (ArePairDetails before rule σ) (named_pairs st (take k ps)) told
    × (o₁ ≡ o₀ ++ details_text (flat_map (λ own. own) told)))
    → (ReplacesBy st σ given (get_or ps k d).variables.0.0 (get_or ps k d).indices.0
    → ReplacesBy st σ given (get_or ps k d).variables.1.0 (get_or ps k d).indices.1
    → (own : List Detail) × ArePairDetails before rule σ
    (name_at st (get_or ps k d).variables.0.0, name_at st (get_or ps k d).variables.1.0) own
    × (o₂ ≡ o₁ ++ details_text own))
    → (told : List (List Detail)) × AllZip (ArePairDetails before rule σ) (named_pairs st (take (k + 1) ps)) told
    × (o₂ ≡ o₀ ++ details_text (flat_map (λ own. own) told))
pairs_told st before rule σ given ps k d o₀ o₁ o₂ less replaced so_far one =
    let p = get_or ps k d in
    let more : take (k + 1) ps ≡ take k ps ++ p ∷ [] = take_more ps k d less in
    let front = so_far (λ i q there. replaced i q
    (subst (λ (l : List DistinctPair). slice_get l i ≡ Some q) (sym more) (get_kept (take k ps) (p ∷ []) i q there))) in
    let last : slice_get (take (k + 1) ps) (length (take k ps)) ≡ Some p =
    subst (λ (l : List DistinctPair). slice_get l (length (take k ps)) ≡ Some p) (sym more) (get_pushed (take k ps) p) in
    let both = replaced (length (take k ps)) p last in
    let own = one both.0 both.1 in
    let names : Symbol × Symbol = (name_at st p.variables.0.0, name_at st p.variables.1.0) in
    let named : named_pairs st (take (k + 1) ps) ≡ named_pairs st (take k ps) ++ names ∷ [] =
    ap (named_pairs st) more ∙ map-append (λ (q : DistinctPair). (name_at st q.variables.0.0, name_at st q.variables.1.0)) (take k ps) (p ∷ []) in
    let whole : flat_map (λ (o : List Detail). o) (front.0 ++ own.0 ∷ [])
    ≡ flat_map (λ (o : List Detail). o) front.0 ++ flat_map (λ (o : List Detail). o) (own.0 ∷ []) = simp flat_map-append in (
      front.0 ++ own.0 ∷ [],
      subst (λ (l : List (Symbol × Symbol)). AllZip (ArePairDetails before rule σ) l (front.0 ++ own.0 ∷ [])) (sym named)
          (zip_push (ArePairDetails before rule σ) (named_pairs st (take k ps)) front.0 names own.0 front.1 own.1),
      both_told (flat_map (λ (o : List Detail). o) front.0) own.0 o₀ o₁ o₂ front.2 own.2
          ∙ ap (λ (l : List Detail). o₀ ++ details_text (flat_map (λ (o : List Detail). o) front.0 ++ l)) (sym (append-nil own.0))
          ∙ ap (λ (l : List Detail). o₀ ++ details_text l) (sym whole),
    )
