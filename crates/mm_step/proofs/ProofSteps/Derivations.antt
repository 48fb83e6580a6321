-- What rows of trees derive, that their spelling does the same, and that moves make one row of
-- trees.
use Rattle.std.proofs.Common.{◌≡◌, ℕ, List, [], ◌∷◌, ◌++◌, refl, sym, ap, subst, ◌∙◌, take, drop}
use Rattle.std.proofs.Common.{map, slice_get, Option, Some, None, IsSome, inl, inr, ⊎_elim}
use Rattle.std.proofs.Common.{append_assoc, append-nil, suc, ◌+◌, length, arith}
use Rattle.std.specs.List.{AllZip}
use Rattle.mm_base.proofs.Lists.{cons_parts}
use Rattle.mm_frame.specs.Sentence.{Sentence, Types}
use Rattle.mm_step.specs.Tree.{Trees, none, tree, beside, DeriveAll, spelling, Names, KeepsApart}
use Rattle.mm_step.specs.Tree.{roots, MayStandOver, TreesFit}
use Rattle.std.proofs.lemmas.Option.{same_Some, slice_get-map}
use Rattle.std.proofs.lemmas.List.{length-map, map-append}
use Rattle.mm_base.specs.declared.statement.Kind.TheVariants.{Floating}
use Rattle.mm_frame.specs.Frame.{IsMandatory, IsMandatoryAt}
use Rattle.mm_frame.specs.Rules.{AllMeant}
use Rattle.mm_frame.proofs.Rules.ObeyedRules.{allmeant_prefix}
use Rattle.mm_step.specs.Substitution.{IsOn, instance_of}
use Rattle.mm_step.proofs.ProofSteps.OneStep.{code_is_constant, StepTo, step_once}
use Rattle.mm_frame.proofs.Frames.FrameLaws.{those_hold}
use Rattle.mm_step.proofs.ProofSteps.OneStep.{one_label, one_labelled, hypothesis_or_assertion}
use Rattle.mm_step.proofs.ProofSteps.OneStep.{one_frame}
use Rattle.mm_step.specs.Moves.{Move, name, again, mark, MakesOne, Makes}

-- ==== what rows of trees derive, and lists that are paired index by index

-- ---- lists that are paired

-- where the second is determined by the first, so is the list
pub zip_once : {A B : Type 0} (R S : A → B → Type 0) (xs : List A) (ys zs : List B) → ((x : A) (y z : B) → R x y → S x z → y ≡ z)
    → AllZip R xs ys → AllZip S xs zs → ys ≡ zs
zip_once R S [] [] [] one r s = refl
zip_once R S [] (y ∷ ys) zs one r s = absurd r
zip_once R S (x ∷ xs) [] zs one r s = absurd r
zip_once R S (x ∷ xs) (y ∷ ys) (z ∷ zs) one r s =
    ap (λ w. w ∷ ys) (one x y z r.0 s.0) ∙ ap (λ l. z ∷ l) (zip_once R S xs ys zs one r.1 s.1)
zip_once R S xs ys zs one r s = absurd s

-- ---- rows

pub derive_beside : (Fits : List (List ℕ) → Type 0) (before : List Sentence) (a b : Trees) (es fs : List (List (List ℕ))) → DeriveAll Fits before a es → DeriveAll Fits before b fs
    → DeriveAll Fits before (beside a b) (es ++ fs)
derive_beside Fits before none b es fs d g = subst (λ l. DeriveAll Fits before b (l ++ fs)) (sym d) g
derive_beside Fits before (tree label below right) b es fs d g =
    (d.0, d.1 ++ fs, ap (λ l. l ++ fs) d.2, d.3, d.4, derive_beside Fits before right b d.1 fs d.5 g)

-- trees that derive a prefix and an end are trees that derive the prefix beside trees that derive
-- the end
pub record Halves (Fits : List (List ℕ) → Type 0) (before : List Sentence) (trees : Trees) (es fs : List (List (List ℕ))) : Type 0 where
  pub left : Trees
  pub right : Trees
  pub parts : trees ≡ beside left right
  pub derive_left : DeriveAll Fits before left es
  pub derive_right : DeriveAll Fits before right fs

module _ (Fits : List (List ℕ) → Type 0) (before : List Sentence) where
  pub derive_halves : (trees : Trees) (es fs : List (List (List ℕ)))
      → DeriveAll Fits before trees (es ++ fs) → Halves Fits before trees es fs
  derive_halves trees [] fs d =
      record { left = none; right = trees; parts = refl; derive_left = refl; derive_right = d }
  derive_halves none (e ∷ es) fs d = absurd (let p : e ∷ (es ++ fs) ≡ [] = d in cc)
  derive_halves (tree label below right) (e ∷ es) fs d =
      let same = cons_parts e d.0 (es ++ fs) d.1 d.2 in
      let h = derive_halves right es fs (subst (DeriveAll Fits before right) (sym same.1) d.5) in
      record {
        left = tree label below h.left;
        right = h.right;
        parts = ap (tree label below) h.parts;
        derive_left = (d.0, es, ap (λ x. x ∷ es) same.0, d.3, d.4, h.derive_left);
        derive_right = h.derive_right;
      }

  -- and trees side by side derive what each of them does
  pub derive_apart : (a b : Trees) (gs : List (List (List ℕ)))
      → DeriveAll Fits before (beside a b) gs
      → (es : List (List (List ℕ))) × (fs : List (List (List ℕ))) × (gs ≡ es ++ fs) × DeriveAll Fits before a es × DeriveAll Fits before b fs
  derive_apart none b gs d = ([], gs, refl, refl, d)
  derive_apart (tree label below right) b gs d =
      let h = derive_apart right b d.1 d.5 in
      (d.0 ∷ h.0, h.1, d.2 ∙ ap (λ l. d.0 ∷ l) h.2, (d.0, h.0, refl, d.3, d.4, h.3), h.4)

  -- what derives nothing is no tree
  pub nothing_derives : (trees : Trees) → DeriveAll Fits before trees [] → trees ≡ none
  nothing_derives none d = refl
  nothing_derives (tree label below right) d = absurd (let p : [] ≡ d.0 ∷ d.1 = d.2 in cc)

  -- what derives one expression is one tree
  pub single_derives : (trees : Trees) (e : List (List ℕ)) → DeriveAll Fits before trees (e ∷ [])
      → (label : List ℕ) × (below : Trees) × (trees ≡ tree label below none)
  single_derives none e d = absurd (let p : e ∷ [] ≡ [] = d in cc)
  single_derives (tree label below right) e d =
      let same = cons_parts e d.0 [] d.1 d.2 in
      (label, below, ap (tree label below) (nothing_derives right (subst (DeriveAll Fits before right) (sym same.1) d.5)))

-- ==== the steps of a proof one after the other on a stack of expressions, as a relation; what
-- trees derive, their spelling does

-- The steps by these labels break no rule and lead from one stack to the other; of each expression that one makes, Fits holds.
abbrev pub Runs : (List (List ℕ) → Type 0) → List Sentence → List (List ℕ) → List (List (List ℕ)) → List (List (List ℕ)) → Type 0
Runs Fits before [] stack stack' = stack' ≡ stack
Runs Fits before (label ∷ labels) stack stack' =
    (rest : List (List (List ℕ))) × (e : List (List ℕ)) × StepTo before stack label rest e × Fits e × Runs Fits before labels (rest ++ e ∷ []) stack'

pub runs_join : (Fits : List (List ℕ) → Type 0) (before : List Sentence) (labels more : List (List ℕ)) (a b c : List (List (List ℕ)))
    → Runs Fits before labels a b → Runs Fits before more b c → Runs Fits before (labels ++ more) a c
runs_join Fits before [] more a b c r q = subst (λ s. Runs Fits before more s c) r q
runs_join Fits before (label ∷ labels) more a b c r q = (r.0, r.1, r.2, r.3, runs_join Fits before labels more (r.0 ++ r.1 ∷ []) b c r.4 q)

-- the same steps on the same stack lead to the same stack
runs_once : (Fits Gits : List (List ℕ) → Type 0) (before : List Sentence) (labels : List (List ℕ)) (a b c : List (List (List ℕ))) → AllMeant before
    → Runs Fits before labels a b → Runs Gits before labels a c → b ≡ c
runs_once Fits Gits before [] a b c all r q = r ∙ sym q
runs_once Fits Gits before (label ∷ labels) a b c all r q =
    let one = step_once before a label r.0 q.0 r.1 q.1 all r.2 q.2 in
    runs_once Fits Gits before labels (q.0 ++ q.1 ∷ []) b c all (rw (one.0, one.1) at r.4) q.4

-- ---- a tree's own step

-- what a substitution makes of the `$f` of a mandatory variable
pub typing_entry : (σ : List ℕ → Option (List (List ℕ))) (code x : List ℕ) (e : List (List ℕ)) → σ code ≡ None → σ x ≡ Some e → instance_of σ (code ∷ x ∷ []) ≡ code ∷ e
typing_entry σ code x e p q = rw (p, q) (ap (λ l. code ∷ l) (append-nil e))

pub absent : (o : Option (List (List ℕ))) → ¬ (IsSome o) → o ≡ None
absent None h = refl
absent (Some x) h = absurd (h refl)

present : (o : Option (List (List ℕ))) → IsSome o → (x : List (List ℕ)) × (o ≡ Some x)
present None h = absurd cc
present (Some x) h = (x, refl)

-- the entry of a `$f`: its type code, and what replaces its variable
pub record IsTypingEntry (σ : List ℕ → Option (List (List ℕ))) (code x : List ℕ) (entry : List (List ℕ)) : Type 0 where
  pub replacement : List (List ℕ)
  pub replaced : σ x ≡ Some replacement
  pub is : entry ≡ code ∷ replacement

pub same_typing : (f : Sentence) (code x code' x' : List ℕ) → Types code x f → Types code' x' f → (code ≡ code') × (x ≡ x')
same_typing f code x code' x' t t' = let e : code ∷ x ∷ [] ≡ code' ∷ x' ∷ [] = sym t.1 ∙ t'.1 in (cc, cc)

module _ (before : List Sentence) (label : List ℕ) (index : ℕ) (assertion : Sentence)
    (hypotheses : List Sentence) where
  -- the `$f` among the mandatory hypotheses
  pub typing_of : (i : ℕ) (f : Sentence) → Names before label index assertion hypotheses
      → slice_get hypotheses i ≡ Some f → f.kind ≡ Floating
      → (code : List ℕ) × (x : List ℕ) × Types code x f × IsMandatory (take index before) assertion x × (j : ℕ) × (slice_get (take index before) j ≡ Some f)
  typing_of i f names there floating =
      let h = those_hold (IsMandatoryAt (take index before) assertion) 0 (take index before) hypotheses i f names.mandatory there in
      ⊎_elim (λ essential. absurd (cc (essential, floating))) (λ t. (t.0, t.1, t.2, t.3, h.0, h.1)) h.2.1

  -- nothing replaces the type code of a mandatory `$f`
  pub code_kept : (σ : List ℕ → Option (List (List ℕ))) (i : ℕ) (f : Sentence) (code x : List ℕ)
      → AllMeant before → Names before label index assertion hypotheses
      → IsOn (IsMandatory (take index before) assertion) σ → slice_get hypotheses i ≡ Some f
      → Types code x f → σ code ≡ None
  code_kept σ i f code x all names on there types =
      let t = typing_of i f names there types.0 in
      absent (σ code) (λ some.
      code_is_constant (take index before) t.4 f code x (allmeant_prefix before index all) t.5
      types ((on code).0 some).0)

  -- what the trees below leave for the mandatory `$f`
  pub entry_of : (σ : List ℕ → Option (List (List ℕ))) (i : ℕ) (f : Sentence) (entry : List (List ℕ))
      (code x : List ℕ) → AllMeant before → Names before label index assertion hypotheses
      → IsOn (IsMandatory (take index before) assertion) σ → slice_get hypotheses i ≡ Some f
      → slice_get (map (λ (h : Sentence). instance_of σ h.symbols) hypotheses) i ≡ Some entry
      → Types code x f → IsTypingEntry σ code x entry
  entry_of σ i f entry code x all names on there at types =
      let t = typing_of i f names there types.0 in
      let same = same_typing f t.0 t.1 code x t.2 types in
      let mandatory : IsMandatory (take index before) assertion x = subst (IsMandatory (take index before) assertion) same.1 t.3 in
      let constant : σ code ≡ None = code_kept σ i f code x all names on there types in
      let r = present (σ x) ((on x).1 mandatory) in
      let made : entry ≡ instance_of σ f.symbols =
      same_Some entry (instance_of σ f.symbols) (sym at ∙ slice_get-map (λ (h : Sentence). instance_of σ h.symbols) hypotheses i ∙ rw there refl) in
      record { replacement = r.0; replaced = r.1; is = made ∙ ap (instance_of σ) types.1 ∙ typing_entry σ code x r.0 constant r.1 }

  pub tree_step : (σ : List ℕ → Option (List (List ℕ))) (stack : List (List (List ℕ)))
      (e : List (List ℕ)) → AllMeant before → Names before label index assertion hypotheses
      → IsOn (IsMandatory (take index before) assertion) σ → KeepsApart before index assertion σ
      → e ≡ instance_of σ assertion.symbols
      → StepTo before (stack ++ map (λ (h : Sentence). instance_of σ h.symbols) hypotheses) label stack e
  tree_step σ stack e all names on apart made =
      let entries : List (List (List ℕ)) = map (λ (h : Sentence). instance_of σ h.symbols) hypotheses in
      let typed : (i : ℕ) (f : Sentence) (entry : List (List ℕ)) (code x : List ℕ) → slice_get hypotheses i ≡ Some f → slice_get entries i ≡ Some entry
      → Types code x f → IsTypingEntry σ code x entry =
      λ i f entry code x there at types. entry_of σ i f entry code x all names on there at types in
      inr (record {
        meets = record {
          index = index;
          assertion = assertion;
          hypotheses = hypotheses;
          names = names;
          rest = stack;
          entries = entries;
          split = refl;
          paired = length-map hypotheses (λ (h : Sentence). instance_of σ h.symbols);
          σ = σ;
          on = on;
          replaced = λ i f entry code x there at types. let t = typed i f entry code x there at types in t.replaced ∙ ap (λ l. Some (drop 1 l)) (sym t.is);
        };
        kept = refl;
        typed = λ i f entry there at floating.
            let k = typing_of i f names there floating in
            let t = typed i f entry k.0 k.1 there at k.2 in
            ap (λ l. slice_get l 0) t.is ∙ sym (ap (λ l. slice_get l 0) k.2.1);
        equal = λ i f entry there at essential.
            same_Some entry (instance_of σ f.symbols) (sym at ∙ slice_get-map (λ (h : Sentence). instance_of σ h.symbols) hypotheses i ∙ rw there refl);
        apart = apart;
        made = made;
      })

-- ---- what trees derive, their spelling pushes

-- on any stack
derive_runs : (Fits : List (List ℕ) → Type 0) (before : List Sentence) (trees : Trees) (es stack : List (List (List ℕ))) → AllMeant before
    → DeriveAll Fits before trees es → Runs Fits before (spelling trees) stack (stack ++ es)
derive_runs Fits before none es stack all d = ap (λ l. stack ++ l) d ∙ append-nil stack
derive_runs Fits before (tree label below right) es stack all d =
    let one : Runs Fits before (spelling below ++ label ∷ []) stack (stack ++ d.0 ∷ []) = ⊎_elim
    (λ (bare, h). rw bare
    (stack, d.0, inl (record { kept = refl; index = h.0; hypothesis = h.1; there = h.2; active = h.3; named = h.4.0; kind = h.4.1; made = h.4.2 }), d.3, refl))
    (λ n.
    let entries : List (List (List ℕ)) = map (λ (h : Sentence). instance_of n.3 h.symbols) n.2 in
    let children : Runs Fits before (spelling below) stack (stack ++ entries) = derive_runs Fits before below entries stack all n.6 in
    runs_join Fits before (spelling below) (label ∷ []) stack (stack ++ entries) (stack ++ d.0 ∷ []) children
    (stack, d.0, tree_step before label n.0 n.1 n.2 n.3 stack d.0 all n.4 n.5 n.7 n.8, d.3, refl)) d.4 in
    let others : Runs Fits before (spelling right) (stack ++ d.0 ∷ []) (stack ++ es) =
    rw (d.2, ← append_assoc stack (d.0 ∷ []) d.1) (derive_runs Fits before right d.1 _ all d.5) in
    subst (λ l. Runs Fits before l stack (stack ++ es)) (append_assoc (spelling below) (label ∷ []) (spelling right))
    (runs_join Fits before (spelling below ++ label ∷ []) (spelling right) stack (stack ++ d.0 ∷ []) (stack ++ es) one others)

-- equal spellings derive the same
pub derived_once : (Fits Gits : List (List ℕ) → Type 0) (before : List Sentence) (t u : Trees) (es fs : List (List (List ℕ))) → AllMeant before
    → DeriveAll Fits before t es → DeriveAll Gits before u fs → spelling t ≡ spelling u → es ≡ fs
derived_once Fits Gits before t u es fs all d g same =
    runs_once Fits Gits before (spelling u) [] es fs all (subst (λ l. Runs Fits before l [] es) same (derive_runs Fits before t es [] all d)) (derive_runs Gits before u fs [] all g)

-- ==== what moves make is one thing: so a spelling spells one row of trees that fit

-- ---- rows of trees

pub beside-none : (a : Trees) → beside a none ≡ a
beside-none none = refl
beside-none (tree label below right) = ap (tree label below) (beside-none right)

pub beside_assoc : (a b c : Trees) → beside (beside a b) c ≡ beside a (beside b c)
beside_assoc none b c = refl
beside_assoc (tree label below right) b c = ap (tree label below) (beside_assoc right b c)

pub roots-beside : (a b : Trees) → roots (beside a b) ≡ roots a + roots b
roots-beside none b = omega arith
roots-beside (tree label below right) b = let h = roots-beside right b in omega (arith, h)

pub spelling-beside : (a b : Trees) → spelling (beside a b) ≡ spelling a ++ spelling b
spelling-beside none b = refl
spelling-beside (tree label below right) b =
    ap (λ l. spelling below ++ label ∷ l) (spelling-beside right b) ∙ sym (append_assoc (spelling below) (label ∷ spelling right) (spelling b))

-- a row parts in one way only into a prefix and an end of known width
one_row_split : (a b c d : Trees) → beside a b ≡ beside c d → roots a ≡ roots c → (a ≡ c) × (b ≡ d)
one_row_split none b none d e n = (refl, e)
one_row_split (tree l a r) b (tree m c s) d e n =
    let k = one_row_split r b s d (cc e) (omega arith) in (cc (e, k.0), k.1)
one_row_split a b c d e n = absurd (omega arith)

pub one_row_end : (a b c d : Trees) → beside a b ≡ beside c d → roots b ≡ roots d → (a ≡ c) × (b ≡ d)
one_row_end a b c d e n = one_row_split a b c d e (omega (arith, roots-beside a b, roots-beside c d, ap roots e))

-- ---- what a label may stand over

-- a label stands over as many trees wherever it may stand
one_width : (before : List Sentence) (label : List ℕ) (below below' : Trees) → AllMeant before → MayStandOver before label below → MayStandOver before label below'
    → roots below ≡ roots below'
one_width before label below below' all (inl p) (inl q) = ap roots (p.0 ∙ sym q.0)
one_width before label below below' all (inl p) (inr q) =
    absurd (hypothesis_or_assertion before p.1.0 q.0 p.1.1 q.1 label all p.1.2 q.3.there p.1.4.0 q.3.named p.1.4.1 q.3.kind)
one_width before label below below' all (inr p) (inl q) =
    absurd (hypothesis_or_assertion before q.1.0 p.0 q.1.1 p.1 label all q.1.2 p.3.there q.1.4.0 p.3.named q.1.4.1 p.3.kind)
one_width before label below below' all (inr p) (inr q) =
    let index : p.0 ≡ q.0 = one_label before p.0 q.0 p.1 q.1 label all p.3.there q.3.there p.3.named q.3.named in
    let assertion : p.1 ≡ q.1 = one_labelled before p.0 q.0 p.1 q.1 label all p.3.there q.3.there p.3.named q.3.named in
    let hypotheses : p.2 ≡ q.2 = one_frame before p.0 q.0 p.1 q.1 p.2 q.2 index assertion p.3.mandatory q.3.mandatory in
    p.4 ∙ ap length hypotheses ∙ sym q.4

-- ---- moves one after the other

pub makes_join : (before : List Sentence) (moves more : List (Move (List ℕ))) (a b c : Trees) (k l m : List Trees)
    → Makes before moves a k b l → Makes before more b l c m → Makes before (moves ++ more) a k c m
makes_join before [] more a b c k l m r q = rw (← r.0, ← r.1) q
makes_join before (move ∷ moves) more a b c k l m r q = (r.0, r.1, r.2, makes_join before moves more r.0 b c r.1 l m r.3 q)

-- one move more
pub makes_more : (before : List Sentence) (moves : List (Move (List ℕ))) (move : Move (List ℕ)) (a b c : Trees) (k l m : List Trees)
    → Makes before moves a k b l → MakesOne before move b l c m → Makes before (moves ++ move ∷ []) a k c m
makes_more before moves move a b c k l m r q = makes_join before moves (move ∷ []) a b c k l m r (c, m, q, (refl, refl))

-- what a prefix makes
pub makes_split : (before : List Sentence) (moves more : List (Move (List ℕ))) (a c : Trees) (k m : List Trees)
    → Makes before (moves ++ more) a k c m → (b : Trees) × (l : List Trees) × Makes before moves a k b l × Makes before more b l c m
makes_split before [] more a c k m r = (a, k, (refl, refl), r)
makes_split before (move ∷ moves) more a c k m r =
    let s = makes_split before moves more r.0 c r.1 m r.3 in
    (s.0, s.1, (r.0, r.1, r.2, s.2), s.3)

-- a move makes one thing only
one_made : (before : List Sentence) (move : Move (List ℕ)) (a b c : Trees) (k l m : List Trees) → AllMeant before
    → MakesOne before move a k b l → MakesOne before move a k c m → (b ≡ c) × (l ≡ m)
one_made before (name label) a b c k l m all r q =
    let width : roots r.1 ≡ roots q.1 = one_width before label r.1 q.1 all r.3 q.3 in
    let parts = one_row_end r.0 r.1 q.0 q.1 (sym r.2 ∙ q.2) width in
    (r.4 ∙ ap (λ x. beside x (tree label r.1 none)) parts.0 ∙ ap (λ x. beside q.0 (tree label x none)) parts.1 ∙ sym q.4, r.5 ∙ sym q.5)
one_made before (again tag) a b c k l m all r q =
    (r.2 ∙ ap (λ x. beside a x) (same_Some r.0 q.0 (sym r.1 ∙ q.1)) ∙ sym q.2, r.3 ∙ sym q.3)
one_made before mark a b c k l m all r q =
    let one = one_row_end r.0 (tree r.1 r.2 none) q.0 (tree q.1 q.2 none) (sym r.3 ∙ q.3) refl in
    (r.4 ∙ sym q.4, r.5 ∙ ap (λ x. k ++ x ∷ []) one.1 ∙ sym q.5)

-- the same moves make the same
pub makes_once : (before : List Sentence) (moves : List (Move (List ℕ))) (a b c : Trees) (k l m : List Trees) → AllMeant before
    → Makes before moves a k b l → Makes before moves a k c m → (b ≡ c) × (l ≡ m)
makes_once before [] a b c k l m all r q = (r.0 ∙ sym q.0, r.1 ∙ sym q.1)
makes_once before (move ∷ moves) a b c k l m all r q =
    let one = one_made before move a r.0 q.0 k r.1 q.1 all r.2 q.2 in
    makes_once before moves q.0 b c q.1 l m all (rw (← one.0, ← one.1) r.3) q.3

-- ---- trees that fit are made by the labels of their spelling

-- on any row, keeping nothing
pub fit_makes : (before : List Sentence) (trees row : Trees) (kept : List Trees) → TreesFit before trees
    → Makes before (map name (spelling trees)) row kept (beside row trees) kept
fit_makes before none row kept fit = (beside-none row, refl)
fit_makes before (tree label below right) row kept fit =
    let children : Makes before (map name (spelling below)) row kept (beside row below) kept = fit_makes before below row kept fit.1 in
    let others : Makes before (map name (spelling right)) (beside row (tree label below none)) kept (beside row (tree label below right)) kept =
    subst (λ w. Makes before (map name (spelling right)) (beside row (tree label below none)) kept w kept) (beside_assoc row (tree label below none) right)
    (fit_makes before right (beside row (tree label below none)) kept fit.2) in
    subst (λ l. Makes before l row kept (beside row (tree label below right)) kept) (sym (map-append name (spelling below) (label ∷ spelling right)))
    (makes_join before (map name (spelling below)) (name label ∷ map name (spelling right)) row (beside row below) (beside row (tree label below right)) kept kept kept children
    (beside row (tree label below none), kept, (row, below, refl, fit.0, refl, refl), others))

-- trees that fit and have one spelling are equal
pub one_fit_holds : (before : List Sentence) (t u : Trees) → AllMeant before → TreesFit before t → TreesFit before u → spelling t ≡ spelling u → t ≡ u
one_fit_holds before t u all f g same =
    (makes_once before (map name (spelling u)) none t u [] [] [] all
    (subst (λ l. Makes before (map name l) none [] t []) same (fit_makes before t none [] f)) (fit_makes before u none [] g)).0

-- ---- trees that derive fit

pub roots_derive : (Fits : List (List ℕ) → Type 0) (before : List Sentence) (trees : Trees) (es : List (List (List ℕ))) → DeriveAll Fits before trees es → roots trees ≡ length es
roots_derive Fits before none es d = ap length (sym d)
roots_derive Fits before (tree label below right) es d = ap suc (roots_derive Fits before right d.1 d.5) ∙ ap length (sym d.2)

pub derive_fits : (Fits : List (List ℕ) → Type 0) (before : List Sentence) (trees : Trees) (es : List (List (List ℕ))) → DeriveAll Fits before trees es → TreesFit before trees
derive_fits Fits before none es d = tt
derive_fits Fits before (tree label below right) es d = ⊎_elim
    (λ leaf. (
      inl (leaf.0, (leaf.1.0, leaf.1.1, leaf.1.2, leaf.1.3, (leaf.1.4.0, leaf.1.4.1))),
      subst (TreesFit before) (sym leaf.0) tt,
      derive_fits Fits before right d.1 d.5,
    ))
    (λ n. (
      inr (n.0, n.1, n.2, n.4, roots_derive Fits before below (map (λ (h : Sentence). instance_of n.3 h.symbols) n.2) n.6 ∙ length-map n.2 (λ (h : Sentence). instance_of n.3 h.symbols)),
      derive_fits Fits before below (map (λ (h : Sentence). instance_of n.3 h.symbols) n.2) n.6,
      derive_fits Fits before right d.1 d.5,
    )) d.4
