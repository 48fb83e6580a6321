-- The word of moves spells what they make, as it is written tree after tree; what is proved said
-- by words.
use Rattle.std.proofs.Common.{◌≡◌, ℕ, suc, ◌+◌, ◌-◌, ◌≤◌, List, [], ◌∷◌, ◌++◌, length, drop, refl}
use Rattle.std.proofs.Common.{sym, ap, subst, ◌∙◌, append_assoc, append-nil, arith, zero, map}
use Rattle.std.proofs.Common.{slice_get, Some, option_map, inl, inr, ◌↔◌, Result, Err}
use Rattle.std.proofs.Common.{slice_range, IsErrAnd, IsOkUnless}
use Rattle.std.specs.List.{AllZip, AllByRecursion}
use Rattle.std.proofs.lemmas.Option.{same_Some, none-some, slice_get-map}
use Rattle.std.proofs.lemmas.List.{length-append, map-append}
use Rattle.std.proofs.Math.Seq.{take-append_seam, drop-append_seam}
use Rattle.mm_base.proofs.Lists.{zip_push, zip_right, zip_take, zip_drop, zip_weaker, all_push}
use Rattle.mm_base.proofs.Lists.{all_at}
use Rattle.mm_frame.specs.declared.number.LabelId.{LabelId}
use Rattle.mm_frame.specs.Sentence.{Sentence}
use Rattle.mm_forms.specs.declared.words.Part.{Part}
use Rattle.mm_forms.specs.declared.words.Length.{Length}
use Rattle.mm_step.specs.Tree.{Trees, none, tree, spelling, beside, roots, TreesFit, AnyExpression}
use Rattle.mm_forms.specs.Mirror.Builders.{IsKept}
use Rattle.mm_forms.specs.Mirror.Words.{AreParts, IsPartOf, ArePartsOf, IsLengthOf, AreLabelsOfWord}
use Rattle.mm_forms.specs.Mirror.Words.{IsLong}
use Rattle.mm_step.proofs.ProofSteps.Derivations.{roots-beside, spelling-beside, makes_join}
use Rattle.mm_step.proofs.ProofSteps.Derivations.{makes_split, makes_once, fit_makes, derive_fits}
use Rattle.mm_frame.specs.Rules.{AllMeant}
use Rattle.mm_step.specs.Moves.{Move, name, again, mark, MakesOne, Makes}
use Rattle.mm_proof.specs.Expansion.{ExpandsOne, Expands, IsWord}
use Rattle.mm_proof.specs.Tokens.{IsNormal, SayMoves}
use Rattle.mm_step.specs.Proof.{IsWithin}
use Rattle.mm_proof.specs.Proof.{IsWhole, Prove, IsProvedWithin}
use Rattle.mm_proof.specs.Laws.{MadeByWord, ProveByWord, ByWord, IsSpelledWithin}
use Rattle.mm_proof.specs.Laws.{BySpelling}
use Rattle.mm_proof.proofs.ProofTokens.SaidMoves.{normal_or_compressed}
use Rattle.std.proofs.lemmas.Result.{err_from_is_err_and}
use Rattle.mm_step.specs.declared.fault.ExpandFault.{ExpandFault}
use Rattle.mm_step.specs.declared.fault.ExpandFault.TheVariants.{L2, Memory}
use Rattle.mm_proof.proofs.ProofTokens.SpelledOver.{spelling_over}

-- ==== the words of the trees of the moves so far, one move more

-- ---- parts side by side

parts_count : (start : ℕ) (parts : List Part) (row : Trees) → AreParts start parts row → length parts ≡ roots row
parts_count start [] none a = refl
parts_count start (p ∷ parts) (tree l x r) a = ap suc (parts_count p.end parts r a.2)
parts_count start parts row a = absurd a

-- the index behind a tree and those to its right
behind : (l : List ℕ) (x r : Trees) → length (spelling (tree l x r)) ≡ length (spelling x) + 1 + length (spelling r)
behind l x r = let n = length-append (spelling x) (l ∷ spelling r) in omega arith

parts_join : (start : ℕ) (parts more : List Part) (a b : Trees) → AreParts start parts a → AreParts (start + length (spelling a)) more b → AreParts start (parts ++ more) (beside a b)
parts_join start [] more none b p q = subst (λ (n : ℕ). AreParts n more b) (omega arith) q
parts_join start (t ∷ parts) more (tree l x r) b p q =
    (p.0, p.1, parts_join t.end parts more r b p.2 (subst (λ (n : ℕ). AreParts n more b) (let n = behind l x r in let e = p.1 in omega arith) q))
parts_join start parts more a b p q = absurd p

parts_split : (start : ℕ) (parts more : List Part) (a b : Trees) → roots b ≡ length more → AreParts start (parts ++ more) (beside a b) → AreParts start parts a × AreParts (start + length (spelling a)) more b
parts_split start [] more none b many p = (tt, subst (λ (n : ℕ). AreParts n more b) (omega arith) p)
parts_split start [] more (tree l x r) b many p = absurd (let n = parts_count start more (tree l x (beside r b)) p in let m = roots-beside r b in omega arith)
parts_split start (t ∷ parts) more none b many p = absurd (let n = parts_count start (t ∷ (parts ++ more)) b p in let m = length-append parts more in omega arith)
parts_split start (t ∷ parts) more (tree l x r) b many p =
    let h = parts_split t.end parts more r b many p.2 in
    ((p.0, p.1, h.0), subst (λ (n : ℕ). AreParts n more b) (let n = behind l x r in let e = p.1 in omega arith) h.1)

-- ---- the words of kept trees

part_later : (word more : List (List ℕ)) (part : Part) (t : Trees) → IsPartOf word part t → IsPartOf (word ++ more) part t
part_later word more part t p = record {
  prefix = p.prefix;
  back = p.back ++ more;
  whole = ap (λ w. w ++ more) p.whole ∙ append_assoc p.prefix (spelling t ++ p.back) more ∙ ap (λ w. p.prefix ++ w) (append_assoc (spelling t) p.back more);
  start = p.start;
  end = p.end;
}

pub kept_part : (stack shelf : List Part) (item : Part) (row : Trees) (kept : List Trees) (label : List ℕ) (below : Trees) → IsKept shelf kept item label below → ArePartsOf stack row shelf kept
    → IsPartOf (spelling row) item (tree label below none)
kept_part stack shelf item row kept label below is h =
    let found = zip_right (IsPartOf (spelling row)) shelf kept is.tag (tree label below none) h.shelved is.tree_there in
    subst (λ (x : Part). IsPartOf (spelling row) x (tree label below none)) (same_Some found.0 item (sym found.1 ∙ is.item_there)) found.2

module _ (word : List (List ℕ)) (part : Part) (t : Trees) (p : IsPartOf word part t) where
  -- it lies within the word
  pub part_order : (part.start ≤ part.end) × (part.end ≤ length word)
  part_order =
      let long = ap length p.whole ∙ length-append p.prefix (spelling t ++ p.back) in
      let rest = length-append (spelling t) p.back in
      (omega (arith, p.start, p.end), omega (arith, p.end, long, rest))

  pub part_count : part.end - part.start ≡ length (spelling t)
  part_count = omega (arith, p.start, p.end)

  part_spells : slice_range word part.start part.end ≡ spelling t
  part_spells =
      rw (part_count, p.whole, p.start, drop-append_seam, take-append_seam)

pub zip_part : {A : Type 0} (R : A → List ℕ → Type 0) (xs : List A) (word : List (List ℕ)) (part : Part) (t : Trees) → AllZip R xs word → IsPartOf word part t
    → AllZip R (slice_range xs part.start part.end) (spelling t)
zip_part R xs word part t z p =
    subst (AllZip R (slice_range xs part.start part.end)) (part_spells word part t p)
    (zip_take R (drop part.start xs) (drop part.start word) (part.end - part.start) (zip_drop R xs word part.start z))

pub parts_make : (stack items shelf : List Part) (item : Part) (rest below : Trees) (kept : List Trees) (label : List ℕ) (end : ℕ) → roots below ≡ length items → end ≡ length (spelling (beside rest below))
    → ((start : ℕ) (row : Trees) → AreParts start items row → end ≡ start + length (spelling row) → item.start ≡ start) → item.end ≡ end + 1
    → ArePartsOf (stack ++ items) (beside rest below) shelf kept → ArePartsOf (stack ++ item ∷ []) (beside rest (tree label below none)) shelf kept
parts_make stack items shelf item rest below kept label end many whole begins ends h =
    let split = parts_split 0 stack items rest below many h.parts in
    let long : end ≡ length (spelling rest) + length (spelling below) = whole ∙ ap length (spelling-beside rest below) ∙ length-append (spelling rest) (spelling below) in
    let start = begins (0 + length (spelling rest)) below split.1 (omega arith) in
    record {
      parts = parts_join 0 stack (item ∷ []) rest (tree label below none) split.0 (start, omega arith, tt);
      shelved = rw (spelling_over rest below label)
          (zip_weaker _ _ (part_later _ (label ∷ [])) shelf kept h.shelved);
    }

pub parts_repeat : (stack shelf : List Part) (item repeated : Part) (row : Trees) (kept : List Trees) (label : List ℕ) (below : Trees) → IsKept shelf kept item label below → repeated.start ≡ length (spelling row)
    → repeated.end ≡ repeated.start + (item.end - item.start) → ArePartsOf stack row shelf kept → ArePartsOf (stack ++ repeated ∷ []) (beside row (tree label below none)) shelf kept
parts_repeat stack shelf item repeated row kept label below is start end h =
    let t : Trees = tree label below none in
    let count = part_count (spelling row) item t (kept_part stack shelf item row kept label below is h) in
    let long = length-append (spelling below) (label ∷ []) in
    record {
      parts = parts_join 0 stack (repeated ∷ []) row t h.parts (omega arith, omega arith, tt);
      shelved = rw spelling-beside (zip_weaker _ _ (part_later _ (spelling t)) shelf kept h.shelved);
    }

pub parts_keep : (stack shelf : List Part) (item : Part) (rest below : Trees) (kept : List Trees) (label : List ℕ) → ArePartsOf (stack ++ item ∷ []) (beside rest (tree label below none)) shelf kept
    → ArePartsOf (stack ++ item ∷ []) (beside rest (tree label below none)) (shelf ++ item ∷ []) (kept ++ tree label below none ∷ [])
parts_keep stack shelf item rest below kept label h =
    let t : Trees = tree label below none in
    let split = (parts_split 0 stack (item ∷ []) rest t refl h.parts).1 in
    let long = length-append (spelling below) (label ∷ []) in
    record {
      parts = h.parts;
      shelved = zip_push (IsPartOf (spelling (beside rest t))) shelf kept item t h.shelved (record {
        prefix = spelling rest;
        back = [];
        whole = spelling-beside rest t ∙ ap (λ l. spelling rest ++ l) (sym (append-nil (spelling t)));
        start = let s = split.0 in omega arith;
        end = let e = split.1 in omega arith;
      });
    }

pub length_keep : (first now : Length) (stack shelf : List Part) (item : Part) (rest : Trees) (kept : List Trees) (steps : ℕ) (label : List ℕ) (below : Trees)
    → IsLengthOf first now (stack ++ item ∷ []) (beside rest (tree label below none)) shelf kept
    → IsLengthOf first now (stack ++ item ∷ []) (beside rest (tree label below none)) (shelf ++ item ∷ []) (kept ++ tree label below none ∷ [])
length_keep first now stack shelf item rest kept steps label below h = record { same = h.same; count = h.count; within = h.within; parts = parts_keep stack shelf item rest below kept label h.parts }

pub labels_keep : (st : List Sentence) (labels : List LabelId) (stack shelf : List Part) (item : Part) (rest : Trees) (kept : List Trees) (steps : ℕ) (label : List ℕ) (below : Trees)
    → AreLabelsOfWord st labels (stack ++ item ∷ []) (beside rest (tree label below none)) shelf kept
    → AreLabelsOfWord st labels (stack ++ item ∷ []) (beside rest (tree label below none)) (shelf ++ item ∷ []) (kept ++ tree label below none ∷ [])
labels_keep st labels stack shelf item rest kept steps label below h = record { labels_are = h.labels_are; parts = parts_keep stack shelf item rest below kept label h.parts }

-- ==== the word of moves spells what they make

-- ---- what labels make spells them

pub names_spell : (before : List Sentence) (labels : List (List ℕ)) (a b : Trees) (k l : List Trees) → Makes before (map name labels) a k b l → spelling b ≡ spelling a ++ labels
names_spell before [] a b k l m = ap spelling m.0 ∙ sym (append-nil (spelling a))
names_spell before (label ∷ labels) a b k l m =
    let step = m.2 in
    let next : spelling m.0 ≡ spelling a ++ label ∷ [] =
    rw (step.4, step.2) (simp (spelling-beside, append_assoc)) in
    names_spell before labels m.0 b m.1 l m.3 ∙ ap (λ x. x ++ labels) next ∙ append_assoc (spelling a) (label ∷ []) labels

-- and keeps nothing more
names_keep : (before : List Sentence) (labels : List (List ℕ)) (a b : Trees) (k l : List Trees) → Makes before (map name labels) a k b l → l ≡ k
names_keep before [] a b k l m = m.1
names_keep before (label ∷ labels) a b k l m = names_keep before labels m.0 b m.1 l m.3 ∙ m.2.5

-- ---- fit rows

pub fit_beside : (before : List Sentence) (a b : Trees) → TreesFit before a → TreesFit before b → TreesFit before (beside a b)
fit_beside before none b f g = g
fit_beside before (tree label below right) b f g = (f.0, f.1, fit_beside before right b f.2 g)

pub fit_apart : (before : List Sentence) (a b : Trees) → TreesFit before (beside a b) → TreesFit before a × TreesFit before b
fit_apart before none b f = (tt, f)
fit_apart before (tree label below right) b f = let h = fit_apart before right b f.2 in ((f.0, f.1, h.0), h.1)

-- a tree that fits by itself
abbrev pub IsFitTree : List Sentence → Trees → Type 0
IsFitTree before t = (label : List ℕ) × (below : Trees) × (t ≡ tree label below none) × TreesFit before t

-- ---- what moves make has their word

-- a row that fits, kept trees that do, and their words
pub record HasWords (before : List Sentence) (moves : List (Move (List ℕ))) (a b : Trees) (k l : List Trees) : Type 0 where
  pub expands : Expands before moves (spelling a) (map spelling k) (spelling b) (map spelling l)
  pub fit : TreesFit before b

pub made_words : (before : List Sentence) (moves : List (Move (List ℕ))) (a b : Trees) (k l : List Trees) → TreesFit before a → AllByRecursion (IsFitTree before) k → Makes before moves a k b l
    → HasWords before moves a b k l
made_words before [] a b k l f g m =
    record { expands = (ap spelling m.0, ap (λ (x : List Trees). map spelling x) m.1); fit = subst (TreesFit before) (sym m.0) f }
made_words before (name label ∷ moves) a b k l f g m =
    let step = m.2 in
    let parts = fit_apart before step.0 step.1 (subst (TreesFit before) step.2 f) in
    let next : TreesFit before m.0 = subst (TreesFit before) (sym step.4) (fit_beside before step.0 (tree label step.1 none) parts.0 (step.3, parts.1, tt)) in
    let word : spelling m.0 ≡ spelling a ++ label ∷ [] = names_spell before (label ∷ []) a m.0 k m.1 (m.0, m.1, step, (refl, refl)) in
    let rest = made_words before moves m.0 b m.1 l next (subst (AllByRecursion (IsFitTree before)) (sym step.5) g) m.3 in
    record { expands = (spelling m.0, map spelling m.1, (word, ap (λ (x : List Trees). map spelling x) step.5), rest.expands); fit = rest.fit }
made_words before (again tag ∷ moves) a b k l f g m =
    let step = m.2 in
    let one = all_at (IsFitTree before) k tag step.0 g step.1 in
    let next : TreesFit before m.0 = subst (TreesFit before) (sym step.2) (fit_beside before a step.0 f one.3) in
    let there : slice_get (map spelling k) tag ≡ Some (spelling step.0) = slice_get-map spelling k tag ∙ ap (λ o. option_map spelling o) step.1 in
    let rest = made_words before moves m.0 b m.1 l next (subst (AllByRecursion (IsFitTree before)) (sym step.3) g) m.3 in
    record {
      expands = (spelling m.0, map spelling m.1, (spelling step.0, there, ap spelling step.2 ∙ spelling-beside a step.0, ap (λ (x : List Trees). map spelling x) step.3), rest.expands);
      fit = rest.fit;
    }
made_words before (mark ∷ moves) a b k l f g m =
    let step = m.2 in
    let t : Trees = tree step.1 step.2 none in
    let parts = fit_apart before step.0 t (subst (TreesFit before) step.3 f) in
    let words : map spelling m.1 ≡ map spelling k ++ spelling t ∷ [] = ap (λ (x : List Trees). map spelling x) step.5 ∙ map-append spelling k (t ∷ []) in
    let next : TreesFit before m.0 = subst (TreesFit before) (sym step.4) f in
    let kept : AllByRecursion (IsFitTree before) m.1 =
    subst (AllByRecursion (IsFitTree before)) (sym step.5) (all_push (IsFitTree before) k t g (step.1, step.2, refl, parts.1)) in
    let rest = made_words before moves m.0 b m.1 l next kept m.3 in
    record {
      expands = (spelling m.0, map spelling m.1, (spelling step.0, step.1, step.2, parts.1, ap spelling step.3 ∙ spelling-beside step.0 t, ap spelling step.4, words), rest.expands);
      fit = rest.fit;
    }

-- moves that make a row have its spelling as their word
pub made_word : (before : List Sentence) (moves : List (Move (List ℕ))) (row : Trees) (kept : List Trees) → Makes before moves none [] row kept → IsWord before moves (spelling row) × TreesFit before row
made_word before moves row kept m =
    let w = made_words before moves none row [] kept tt tt m in
    ((map spelling kept, w.expands), w.fit)

-- ---- what a word spells is made

module _ (before : List Sentence) (labels : List (List ℕ)) where
  -- the labels make the row
  abbrev Spelled : Trees → Type 0
  Spelled row = Makes before (map name labels) none [] row []

  spelled_once : (a b : Trees) → AllMeant before → Spelled a → Spelled b → a ≡ b
  spelled_once a b all p q = (makes_once before (map name labels) none a b [] [] [] all p q).0

spelled_more : (before : List Sentence) (labels : List (List ℕ)) (row t : Trees) → Spelled before labels row → TreesFit before t → Spelled before (labels ++ spelling t) (beside row t)
spelled_more before labels row t p f =
    subst (λ l. Makes before l none [] (beside row t) []) (sym (map-append name labels (spelling t)))
    (makes_join before (map name labels) (map name (spelling t)) none row (beside row t) [] [] [] p (fit_makes before t row [] f))

-- what is made after a prefix, and what the rest makes of it
spelled_prefix : (before : List Sentence) (a b : List (List ℕ)) (last : Trees) → Spelled before (a ++ b) last → (row : Trees) × Spelled before a row × Makes before (map name b) row [] last []
spelled_prefix before a b last p =
    let s = makes_split before (map name a) (map name b) none last [] [] (subst (λ l. Makes before l none [] last []) (map-append name a b) p) in
    let bare : s.1 ≡ [] = names_keep before a none s.0 [] s.1 s.2 in
    (s.0, subst (λ k. Makes before (map name a) none [] s.0 k) bare s.2, subst (λ k. Makes before (map name b) s.0 k last []) bare s.3)

expands_grow : (before : List Sentence) (moves : List (Move (List ℕ))) (labels labels' : List (List ℕ)) (words words' : List (List (List ℕ)))
    → Expands before moves labels words labels' words' → (rest : List (List ℕ)) × (labels' ≡ labels ++ rest)
expands_grow before [] labels labels' words words' p = ([], p.0 ∙ sym (append-nil labels))
expands_grow before (move ∷ moves) labels labels' words words' p =
    let first = grow_one move p.2 in
    let others = expands_grow before moves p.0 labels' p.1 words' p.3 in
    (first.0 ++ others.0, others.1 ∙ ap (λ l. l ++ others.0) first.1 ∙ append_assoc labels first.0 others.0)
  where
    grow_one : (move : Move (List ℕ)) → ExpandsOne before move labels words p.0 p.1 → (rest : List (List ℕ)) × (p.0 ≡ labels ++ rest)
    grow_one (name label) q = (label ∷ [], q.0)
    grow_one (again tag) q = (q.0, q.2)
    grow_one mark q = ([], q.5 ∙ sym (append-nil labels))

-- a word that is kept is a kept tree's
kept_tree : (kept : List Trees) (tag : ℕ) (word : List (List ℕ)) → slice_get (map spelling kept) tag ≡ Some word → (t : Trees) × (slice_get kept tag ≡ Some t) × (spelling t ≡ word)
kept_tree [] tag word e = absurd (none-some word e)
kept_tree (t ∷ kept) zero word e = (t, refl, same_Some (spelling t) word e)
kept_tree (t ∷ kept) (suc tag) word e = kept_tree kept tag word e

-- what one move makes on the row that the labels make
pub record NextRow (before : List Sentence) (move : Move (List ℕ)) (row next : Trees) (kept : List Trees) (more : List (List (List ℕ))) : Type 0 where
  pub kept' : List Trees
  pub made : MakesOne before move row kept next kept'
  pub words : more ≡ map spelling kept'
  pub fit : AllByRecursion (IsFitTree before) kept'

next_row : (before : List Sentence) (move : Move (List ℕ)) (labels labels' : List (List ℕ)) (words words' : List (List (List ℕ))) (row next : Trees) (kept : List Trees) → AllMeant before
    → ExpandsOne before move labels words labels' words' → words ≡ map spelling kept → AllByRecursion (IsFitTree before) kept
    → Spelled before labels row → Spelled before labels' next → NextRow before move row next kept words'
next_row before (name label) labels labels' words words' row next kept all p is fit here there =
    let s = spelled_prefix before labels (label ∷ []) next (subst (λ l. Spelled before l next) p.0 there) in
    let same : s.0 ≡ row = spelled_once before labels s.0 row all s.1 here in
    let step = s.2.2 in
    record {
      kept' = kept;
      made = (step.0, step.1, sym same ∙ step.2, step.3, s.2.3.0 ∙ step.4, refl);
      words = p.1 ∙ is;
      fit = fit;
    }
next_row before (again tag) labels labels' words words' row next kept all p is fit here there =
    let t = kept_tree kept tag p.0 (subst (λ w. slice_get w tag ≡ Some p.0) is p.1) in
    let one = all_at (IsFitTree before) kept tag t.0 fit t.1 in
    let word : labels' ≡ labels ++ spelling t.0 = p.2 ∙ ap (λ w. labels ++ w) (sym t.2) in
    let row_is : next ≡ beside row t.0 = spelled_once before labels' next (beside row t.0) all there (subst (λ l. Spelled before l (beside row t.0)) (sym word) (spelled_more before labels row t.0 here one.3)) in
    record { kept' = kept; made = (t.0, t.1, row_is, refl); words = p.3 ∙ is; fit = fit }
next_row before mark labels labels' words words' row next kept all p is fit here there =
    let t : Trees = tree p.1 p.2 none in
    let s = spelled_prefix before p.0 (spelling t) row (subst (λ l. Spelled before l row) p.4 here) in
    let row_is : row ≡ beside s.0 t = spelled_once before labels row (beside s.0 t) all here (subst (λ l. Spelled before l (beside s.0 t)) (sym p.4) (spelled_more before p.0 s.0 t s.1 p.3)) in
    let same : next ≡ row = spelled_once before labels next row all (subst (λ l. Spelled before l next) p.5 there) here in
    record {
      kept' = kept ++ t ∷ [];
      made = (s.0, p.1, p.2, row_is, same, refl);
      words = p.6 ∙ ap (λ w. w ++ spelling t ∷ []) is ∙ sym (map-append spelling kept (t ∷ []));
      fit = all_push (IsFitTree before) kept t fit (p.1, p.2, refl, p.3);
    }

word_makes : (before : List Sentence) (moves : List (Move (List ℕ))) (labels labels' : List (List ℕ)) (words words' : List (List (List ℕ))) (row last : Trees) (kept : List Trees) → AllMeant before
    → Expands before moves labels words labels' words' → words ≡ map spelling kept → AllByRecursion (IsFitTree before) kept
    → Spelled before labels row → Spelled before labels' last → (end : List Trees) × Makes before moves row kept last end
word_makes before [] labels labels' words words' row last kept all p is fit here there =
    (kept, (spelled_once before labels last row all (subst (λ l. Spelled before l last) p.0 there) here, refl))
word_makes before (move ∷ moves) labels labels' words words' row last kept all p is fit here there =
    let grown = expands_grow before moves p.0 labels' p.1 words' p.3 in
    let prefix = spelled_prefix before p.0 grown.0 last (subst (λ l. Spelled before l last) grown.1 there) in
    let next = next_row before move labels p.0 words p.1 row prefix.0 kept all p.2 is fit here prefix.1 in
    let rest = word_makes before moves p.0 labels' p.1 words' prefix.0 last next.kept' all p.3 next.words next.fit prefix.1 there in
    (rest.0, (prefix.0, next.kept', next.made, rest.1))

-- moves whose word trees that fit spell make these trees
made_of_word : (before : List Sentence) (moves : List (Move (List ℕ))) (trees : Trees) → AllMeant before → TreesFit before trees → IsWord before moves (spelling trees)
    → (kept : List Trees) × Makes before moves none [] trees kept
made_of_word before moves trees all fit w =
    word_makes before moves [] (spelling trees) [] w.0 none trees [] all w.1 refl tt (refl, refl) (fit_makes before trees none [] fit)

-- ==== what is proved, said by the word of its moves, and of a normal proof by its labels

pub by_word_for : (Fits : List (List ℕ) → Type 0) (before : List Sentence) (s : Sentence) (moves : List (Move (List ℕ))) → AllMeant before → Prove Fits before s moves ↔ ProveByWord Fits before s moves
by_word_for Fits before s moves all = (
  λ p. record { label = p.label; below = p.below; word = (made_word before moves (tree p.label p.below none) p.kept p.made).0; derived = p.derived },
  λ w. let m = made_of_word before moves (tree w.label w.below none) all (derive_fits Fits before (tree w.label w.below none) (s.symbols ∷ []) w.derived) w.word in
      record { label = w.label; below = w.below; kept = m.0; made = m.1; derived = w.derived },
)

pub made_by_word_holds : MadeByWord
made_by_word_holds before moves trees = (
  λ kept m. let w = made_words before moves none trees [] kept tt tt m in (w.fit, w.expands),
  λ all fit word.
      let m = made_of_word before moves trees all fit word in
      (m.0, m.1, λ others more other. makes_once before moves none others trees [] more m.0 all other m.1),
)

pub by_word_holds : ByWord
by_word_holds = (by_word_for AnyExpression, λ limit. by_word_for (IsWithin limit))

-- the moves of a normal proof
normal_moves : (before : List Sentence) (s : Sentence) (tokens : List (List ℕ)) (moves : List (Move (List ℕ))) → IsNormal tokens → SayMoves before s tokens moves → moves ≡ map name tokens
normal_moves before s tokens moves normal (inl p) = p.1
normal_moves before s tokens moves normal (inr p) = absurd (normal_or_compressed tokens p.listed p.letters normal p.parts)

pub by_spelling_for : (Fits : List (List ℕ) → Type 0) (before : List Sentence) (s : Sentence) (tokens : List (List ℕ)) → AllMeant before → IsNormal tokens
    → IsProvedWithin Fits before s tokens ↔ (IsWhole before tokens × IsSpelledWithin Fits before s tokens)
by_spelling_for Fits before s tokens all normal = (
  λ p.
      let q = p.proves in
      let made : Makes before (map name tokens) none [] (tree q.label q.below none) q.kept =
      subst (λ m. Makes before m none [] (tree q.label q.below none) q.kept) (normal_moves before s tokens p.moves normal p.said) q.made in
      (p.whole, record { label = q.label; below = q.below; spelled = names_spell before tokens none (tree q.label q.below none) [] q.kept made; derived = q.derived }),
  λ w.
      let t : Trees = tree w.1.label w.1.below none in
      record {
        whole = w.0;
        moves = map name tokens;
        said = inl (normal, refl);
        proves = record {
          label = w.1.label;
          below = w.1.below;
          kept = [];
          made = subst (λ l. Makes before (map name l) none [] t []) w.1.spelled (fit_makes before t none [] (derive_fits Fits before t (s.symbols ∷ []) w.1.derived));
          derived = w.1.derived;
        };
      },
)

pub by_spelling_holds : BySpelling
by_spelling_holds = (by_spelling_for AnyExpression, λ limit. by_spelling_for (IsWithin limit))

-- ==== what an expansion is answered with where it is short enough

-- the fault that is handed on is that memory is refused
pub unless_memory : {X : Type 0} (r : Result X ExpandFault) (e : ExpandFault) → IsErrAnd r (λ f. f ≡ e) → ¬ (IsLong e) → IsOkUnless r Memory
unless_memory {X} r L2 is short = absurd (short tt)
unless_memory {X} r Memory is short = let p = err_from_is_err_and r is in subst (λ x. IsOkUnless x Memory) (sym (p.1 ∙ ap Err p.2)) refl
