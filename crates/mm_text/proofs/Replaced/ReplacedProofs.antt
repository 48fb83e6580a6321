-- The items of files with another proof of a statement: the same, but for it and for positions.
use Rattle.std.proofs.Common.{◌≡◌, ℕ, ◌+◌, ◌≤◌, ◌==◌, ◌&&◌, List, [], ◌∷◌, ◌++◌, length, map, Bool}
use Rattle.std.proofs.Common.{true, false, cond, refl, sym, ap, ◌∙◌, subst, codes, inl, inr, arith}
use Rattle.std.proofs.Common.{eq-eqb, count_by}
use Rattle.std.specs.List.{AllZip, AllByRecursion, list_any}
use Rattle.std.proofs.lemmas.List.Sums.{sum_by-append, sum_by-cons}
use Rattle.std.proofs.lemmas.List.{map-append, append_cancel_left}
use Rattle.std.proofs.lemmas.Bool.{cond_both}
use Rattle.mm_base.specs.Token.{PlainToken, tokens_from, HoldsNoDollar}
use Rattle.mm_text.specs.Files.{PlainFile}
use Rattle.mm_base.specs.Statement.{PlainStatement, AreSymbols}
use Rattle.mm_text.specs.Items.{Item, Plain, Clear, Shown, Piece, Met, plain_tokens, pieces_of}
use Rattle.mm_text.specs.Items.{items}
use Rattle.mm_text.specs.Alike.{item_on}
use Rattle.mm_text.specs.Replaced.{IsProofToken, IsProofText, with_span}
use Rattle.mm_text.proofs.Reader.OneReading.{plain_tokens-append}
use Rattle.mm_text.proofs.Inclusions.EachOnce.{weigh_pieces, weigh_pieces-append, weight_of}
use Rattle.mm_text.proofs.Inclusions.EachOnce.{file_weight, token_weight, one_token, tokens_rise}
use Rattle.mm_text.proofs.Inclusions.EachOnce.{one_position}
use Rattle.mm_text.proofs.Alike.AlikeItems.{AtHome, SameItem, shown_at_home}
use Rattle.mm_text.proofs.Inclusions.FilePieces.{StandsInFile, run_stands}
use Rattle.mm_text.proofs.Replaced.ReplacedItems.{further, met, replaced_pieces, Alter, with_file}
use Rattle.mm_text.proofs.Replaced.ReplacedItems.{replaced_items, set_there}
use Rattle.mm_text.proofs.Replaced.ReplacedReading.{nowhere, ProofAt}
use Rattle.mm_base.proofs.Lists.{all_prefix, all_back, all_weaker, two_cuts}

-- ---- the file of a token

-- all tokens of a run are of its file
pub run_home : (files : List PlainFile) (t : PlainToken) (tokens before : List PlainToken)
    (u : PlainToken) (after : List PlainToken) (s : StandsInFile files t tokens)
    → t ∷ tokens ≡ before ++ u ∷ after → u.file ≡ s.number
run_home files t tokens before u after s e =
    let P : Shown → Type 0 = AtHome s.number in
    let all = rw s.position.whole at (shown_at_home s.number s.position.file.bytes) in
    let run = all_prefix P (map Clear (t ∷ tokens)) s.rest
    (all_back P s.passed (Clear t ∷ (map Clear tokens ++ s.rest)) all) in
    (all_back P (map Clear before) (Clear u ∷ map Clear after)
    (subst (AllByRecursion P) (ap (map Clear) e ∙ map-append Clear before (u ∷ after)) run)).0

pub home : (files : List PlainFile) (t : PlainToken) (tokens : List PlainToken) (s : StandsInFile files t tokens) → t.file ≡ s.number
home files t tokens s = run_home files t tokens [] t tokens s refl

-- ---- a token stands once

own_weight : (t : PlainToken) → token_weight t.file t.at t ≡ 1
own_weight t = let a : (t.file == t.file) ≡ true = eq-eqb _ _ refl in let b : (t.at == t.at) ≡ true = eq-eqb _ _ refl in simp (a, b)

-- where something stands once, a list parts at it in one way
cut_once : {A : Type 0} (all : List A) (x : A)
    → ((a b c : List A) → all ≡ (a ++ x ∷ b) ++ x ∷ c → ⊥) → (a b c d : List A)
    → all ≡ a ++ x ∷ b → all ≡ c ++ x ∷ d → (a ≡ c) × (b ≡ d)
cut_once all x twice a b c d here there = elim (two_cuts a x b c x d (sym here ∙ there)) [
  | inl h ↦ (h.0, h.2)
  | inr (inl h) ↦ absurd (twice a h.0 d (rw h.1 at there))
  | inr (inr h) ↦ absurd (twice c h.0 b (rw h.1 at here))
]

-- among the pieces of a file
one_cut : (k : ℕ) (f : PlainFile) (t : PlainToken) (a b c d : List Piece) → pieces_of k f ≡ a ++ Met (Plain t) ∷ b → pieces_of k f ≡ c ++ Met (Plain t) ∷ d → b ≡ d
one_cut k f t a b c d here there =
    let v : PlainToken → ℕ = token_weight t.file t.at in
    let w : Item → ℕ = weight_of v (λ n. 0) in
    let few : cond (k == t.file) 1 0 ≤ 1 =
    cond_both (k == t.file) _ _ (λ (n : ℕ). n ≤ 1) (λ _. omega arith) (λ _. omega arith) in
    let own = one_token t.file t.at k 0 (tokens_from k 0 f.bytes) (tokens_rise k 0 f.bytes) in
    let once : weigh_pieces w (pieces_of k f) ≤ 1 = omega (arith, file_weight v (λ n. 0) k f) in
    (cut_once (pieces_of k f) (Met (Plain t)) (λ x y z e.
    let whole = weigh_pieces-append w (x ++ Met (Plain t) ∷ y) (Met (Plain t) ∷ z) in
    let prefix = weigh_pieces-append w x (Met (Plain t) ∷ y) in
    omega (arith, ap (weigh_pieces w) e, own_weight t)) a b c d here there).1

-- among the items
item_cut : (files : List PlainFile) (t : PlainToken) (a b c d : List Item) → items files ≡ a ++ Plain t ∷ b → items files ≡ c ++ Plain t ∷ d → (a ≡ c) × (b ≡ d)
item_cut files t = cut_once (items files) (Plain t) two
  where
    two : (x y z : List Item) → items files ≡ (x ++ Plain t ∷ y) ++ Plain t ∷ z → ⊥
    two x y z e =
        let f : PlainToken → Bool = λ u. u.file == t.file && u.at == t.at in
        let v : PlainToken → ℕ = λ u. cond (f u) 1 0 in
        let once : count_by f (plain_tokens (items files)) ≤ 1 = one_position t.file t.at files in
        let told : plain_tokens (items files) ≡ (plain_tokens x ++ t ∷ plain_tokens y) ++ t ∷ plain_tokens z =
        rw (e, plain_tokens-append, plain_tokens-append) refl in
        let many = ap (count_by f) told in
        let own : v t ≡ 1 = own_weight t in
        absurd (omega (arith, many, sum_by-append v (plain_tokens x ++ t ∷ plain_tokens y) (t ∷ plain_tokens z), sum_by-append v (plain_tokens x) (t ∷ plain_tokens y), sum_by-cons v t (plain_tokens y), sum_by-cons v t (plain_tokens z)))

-- ---- what follows a `$=`

no_stop : (t : PlainToken) → HoldsNoDollar t.text → t.text ≡ codes "$." → ⊥
no_stop t h e = let dollar : true ≡ false = sym (ap (list_any (λ b. b == 36)) e) ∙ h in absurd cc

same_run : (proof other : List PlainToken) (stop last : PlainToken) (x y : List Piece)
    → AreSymbols proof → AreSymbols other → stop.text ≡ codes "$." → last.text ≡ codes "$."
    → met (other ++ last ∷ []) ++ x ≡ met (proof ++ stop ∷ []) ++ y
    → (other ≡ proof) × (last ≡ stop)
same_run [] [] stop last x y h k s l e = (refl, cc)
same_run [] (q ∷ other) stop last x y h k s l e = absurd (no_stop q k.0 (cc))
same_run (p ∷ proof) [] stop last x y h k s l e = absurd (no_stop p h.0 (cc))
same_run (p ∷ proof) (q ∷ other) stop last x y h k s l e =
    let (rest, same) = same_run proof other stop last x y h.1 k.1 s l cc in (cc, same)

same_items : (h j : ℕ → ℕ → ℕ) → h ≡ j → (its : List Item) → AllZip (SameItem h j) its its
same_items h j e [] = tt
same_items h j e (i ∷ its) = (ap (λ (l : ℕ → ℕ → ℕ). item_on l i) e, same_items h j e its)

-- items that two functions of positions tell alike are the same but for positions
pub same_nowhere : (h j : ℕ → ℕ → ℕ) (a b : Item) → SameItem h j a b → SameItem nowhere nowhere a b
same_nowhere h j a b e = sym (twice h a) ∙ ap (item_on nowhere) e ∙ twice j b
  where
    twice : (l : ℕ → ℕ → ℕ) (i : Item) → item_on nowhere (item_on l i) ≡ item_on nowhere i
    twice l (Plain t) = refl
    twice l _ = refl

-- ---- the items with the other proof

module _ (files : List PlainFile) (before : List PlainStatement) (s : PlainStatement) (after : List PlainStatement) (text : List ℕ) (is_text : IsProofText text) (a : ProofAt (items files) before s after) where
  abbrev pub stands : StandsInFile files a.ends.equals (s.proof ++ a.ends.stop ∷ [])
  stands = run_stands files a.prefix a.back a.ends.equals (s.proof ++ a.ends.stop ∷ []) a.whole

  abbrev pub start : ℕ
  start = a.ends.equals.at + length a.ends.equals.text

  abbrev pub put : List PlainToken
  put = tokens_from stands.number start text

  pub symbols : AreSymbols put
  symbols =
      all_weaker IsProofToken (λ t. HoldsNoDollar t.text) (λ t h. h.1) put
      (is_text.tokens stands.number start)

  abbrev pub last : PlainToken
  last = record a.ends.stop { at = start + length text }

  abbrev pub changed : PlainFile
  changed = record stands.position.file {
    bytes = with_span stands.position.file.bytes (start, a.ends.stop.at) text;
  }

  abbrev pub others : List PlainFile
  others = with_file files stands.number changed

  -- the positions after the proof, so much further on
  abbrev pub one : ℕ → ℕ → ℕ
  one = further stands.number (start + length text)

  abbrev pub other : ℕ → ℕ → ℕ
  other = further stands.number a.ends.stop.at

  abbrev pub Altered : Type 0
  Altered =
      (rest : List Item) × AllZip (SameItem one other) a.back rest
      × (items others ≡ a.prefix ++ (map Plain (a.ends.equals ∷ (put ++ last ∷ [])) ++ rest))

  -- where the items differ
  where_altered : Alter one other (a.ends.equals ∷ (s.proof ++ a.ends.stop ∷ []))
      (a.ends.equals ∷ (put ++ last ∷ [])) (items files) (items others) → Altered
  where_altered x =
      let own : List Item = map Plain (s.proof ++ a.ends.stop ∷ []) in
      let (prefix, tail) = item_cut files a.ends.equals a.prefix (own ++ a.back) x.prefix (own ++ x.old) a.whole x.here in
      let back : a.back ≡ x.old = append_cancel_left own a.back x.old tail in (
        x.new,
        subst (λ (l : List Item). AllZip (SameItem one other) l x.new) (sym back) x.same,
        x.there ∙ ap (λ (l : List Item). l ++ (map Plain (a.ends.equals ∷ (put ++ last ∷ [])) ++ x.new)) (sym prefix),
      )

  -- where they are the same the proof is the same
  where_same : items files ≡ items others → Altered
  where_same e =
      let told = sym e ∙ a.whole in
      let there = run_stands others a.prefix a.back a.ends.equals (s.proof ++ a.ends.stop ∷ []) told in
      let new = replaced_pieces files text a.ends.equals s.proof a.ends.stop is_text a.ends.end stands in
      let old = replaced_pieces others text a.ends.equals s.proof a.ends.stop is_text a.ends.end there in
      let number : there.number ≡ stands.number = sym (home others a.ends.equals (s.proof ++ a.ends.stop ∷ []) there) ∙ home files a.ends.equals (s.proof ++ a.ends.stop ∷ []) stands in
      let set = set_there files stands.number stands.position.file changed stands.position.there in
      let file : there.position.file ≡ changed = cc (there.position.there, number, set) in
      let known : pieces_of stands.number changed ≡ old.before ++ (met (a.ends.equals ∷ (s.proof ++ a.ends.stop ∷ [])) ++ old.after) =
      (λ i. pieces_of (sym number i) (sym file i)) ∙ old.old in
      let tail = one_cut stands.number changed a.ends.equals new.before (met (put ++ last ∷ []) ++ new.others) old.before (met (s.proof ++ a.ends.stop ∷ []) ++ old.after) new.new known in
      let run = same_run s.proof put a.ends.stop last new.others old.after a.ends.proof symbols a.ends.end a.ends.end tail in (
        a.back,
        same_items one other (ap (λ (t : PlainToken). further stands.number t.at) run.1) a.back,
        told ∙ (λ i. a.prefix
            ++ (map Plain (a.ends.equals ∷ (sym run.0 i ++ sym run.1 i ∷ [])) ++ a.back)),
      )

  pub altered : Altered
  altered =
      elim (replaced_items text a.ends.equals s.proof a.ends.stop is_text a.ends.end files stands) [
        | inl e ↦ where_same e
        | inr x ↦ where_altered x
      ]
