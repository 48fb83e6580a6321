-- The law of replaced proofs, by the file in which the statement stands. Where tokens have moved, so
-- have the proofs of the statements that they spell.
use Rattle.std.proofs.Common.{◌≡◌, ◌≢◌, ℕ, ◌+◌, List, [], ◌∷◌, ◌++◌, length, map, refl, sym, ap}
use Rattle.std.proofs.Common.{◌∙◌, subst, append_assoc, append-nil, arith, None, slice_set}
use Rattle.std.proofs.Common.{length-append}
use Rattle.std.specs.List.{AllZip}
use Rattle.mm_base.specs.declared.statement.Kind.{Kind}
use Rattle.mm_base.specs.declared.statement.Kind.TheVariants.{Provable}
use Rattle.mm_base.specs.Token.{PlainToken, tokens_from}
use Rattle.mm_text.specs.Files.{PlainFile}
use Rattle.mm_base.specs.Statement.{PlainStatement, EndsInProof, IsTail, Spells, SpellsAll, IsHead}
use Rattle.mm_text.specs.Items.{plain_tokens, items}
use Rattle.mm_text.specs.Reading.{Viable, Reads}
use Rattle.mm_text.specs.Alike.{token_on, item_on}
use Rattle.mm_text.specs.Replaced.{placeless, IsMoved, with_span, with_bytes, ReplacedProofsAreRead}
use Rattle.mm_text.proofs.Alike.AlikeReadings.{plain_tokens_alike}
use Rattle.mm_text.proofs.Replaced.ReplacedItems.{further, further_here, further_elsewhere}
use Rattle.mm_text.proofs.Reader.OneReading.{spells_append}
use Rattle.mm_text.proofs.Replaced.ReplacedReading.{Parts, without_rest, nowhere, proof_at, read_so}
use Rattle.mm_text.proofs.Replaced.ReplacedReading.{spelled_long, parts_long}
use Rattle.mm_text.proofs.Replaced.ProofSpans.{ends_home}
use Rattle.mm_base.proofs.Lists.{cons_parts, zip_mapped, zip_weaker}
use Rattle.mm_text.proofs.Alike.AlikeItems.{SameItem}
use Rattle.mm_text.proofs.Replaced.ReplacedProofs.{home, same_nowhere, stands, put, symbols, last}
use Rattle.mm_text.proofs.Replaced.ReplacedProofs.{others, one, other, altered}

-- ==== where tokens have moved, so have the proofs of the statements that they spell

-- ---- the `$=` and the `$.` of a statement

-- what corresponds in two parts, of which the first are as long as each other
both_alike : {A C : Type 0} (f g : A → C) (a b c d : List A) → length a ≡ length c
    → map f (a ++ b) ≡ map g (c ++ d) → (map f a ≡ map g c) × (map f b ≡ map g d)
both_alike f g [] b [] d long e = (refl, e)
both_alike f g (x ∷ a) b (y ∷ c) d long e =
    let (first, rest) = cons_parts (f x) (g y) (map f (a ++ b)) (map g (c ++ d)) e in
    let (parts, back) = both_alike f g a b c d (omega arith) rest in
    (λ i. first i ∷ parts i, back)
both_alike f g _ b _ d long e = absurd (omega arith)

-- before its symbols a `$p` has two tokens
head_long : (tokens : List PlainToken) (s : PlainStatement) (h : Spells tokens s)
    → s.kind ≡ Provable → length (h.head ++ s.symbols) ≡ 2 + length s.symbols
head_long tokens s h p =
    let head = subst (λ (kind : Kind). IsHead kind h.head) p h.begins in
    length-append h.head s.symbols ∙ rw head.tokens refl

-- the first tokens and the signs of two statements that differ in positions alone correspond where
-- all their tokens do
signs_alike : (h j : ℕ → ℕ → ℕ) (tokens others : List PlainToken) (s t : PlainStatement)
    → map (token_on h) tokens ≡ map (token_on j) others → placeless s ≡ placeless t
    → (a : Spells tokens s) (b : Spells others t) (k : EndsInProof s a.tail)
    (l : EndsInProof t b.tail) → s.kind ≡ Provable → t.kind ≡ Provable
    → (token_on h s.first ≡ token_on j t.first) × (token_on h k.equals ≡ token_on j l.equals)
    × (token_on h k.stop ≡ token_on j l.stop)
signs_alike h j tokens others s t e same a b k l p q =
    let f : PlainToken → PlainToken = token_on h in
    let g : PlainToken → PlainToken = token_on j in
    let (symbols, proofs) = parts_long s t same in
    let whole = ap (map f) (sym a.whole) ∙ e ∙ ap (map g) b.whole in
    let (stated, tails) = both_alike f g (a.head ++ s.symbols) a.tail (b.head ++ t.symbols) b.tail
    (cc (head_long tokens s a p, head_long others t b q, symbols)) whole in
    let heads = (λ i. map f (sym a.first.1 i ++ s.symbols)) ∙ stated
    ∙ (λ i. map g (b.first.1 i ++ t.symbols)) in
    let signs = ap (map f) (sym k.tokens) ∙ tails ∙ ap (map g) l.tokens in
    let stops = both_alike f g s.proof (k.stop ∷ []) t.proof (l.stop ∷ []) proofs (cc (signs)) in
    (cc (heads), cc (signs), cc (stops.1))

-- ---- where the proof stands

module _ (number end other_end : ℕ) where
  abbrev was : ℕ → ℕ → ℕ
  was = further number other_end

  abbrev now : ℕ → ℕ → ℕ
  now = further number end

  -- a token of the file stands as far behind the end as before
  position_here : (t u : PlainToken) → token_on was t ≡ token_on now u → t.file ≡ number
      → t.at + other_end ≡ u.at + end
  position_here t u e home =
      let other = ap (λ (x : PlainToken). x.file) e in
      let same = ap (λ (x : PlainToken). x.at) e in
      cc (home, other, same, further_here number other_end t.at, further_here number end u.at)

  -- a token of another file stands where it stood
  position_elsewhere : (t u : PlainToken) → token_on was t ≡ token_on now u → t.file ≢ number
      → t.at ≡ u.at
  position_elsewhere t u e away =
      let other : u.file ≢ number = λ same. away (ap (λ (x : PlainToken). x.file) e ∙ same) in
      sym (further_elsewhere number other_end t.file t.at away) ∙ ap (λ (x : PlainToken). x.at) e
      ∙ further_elsewhere number end u.file u.at other

  -- and so does the proof between two signs
  moved_by_signs : (s t : PlainStatement) (tail others : List PlainToken) (k : EndsInProof s tail)
      (l : EndsInProof t others) → token_on was s.first ≡ token_on now t.first
      → token_on was k.equals ≡ token_on now l.equals → token_on was k.stop ≡ token_on now l.stop
      → k.equals.file ≡ s.first.file → k.stop.file ≡ s.first.file → IsMoved number end other_end s t
  moved_by_signs s t tail others k l first equals stop one two = record {
    home = ap (λ (x : PlainToken). x.file) first;
    elsewhere = λ away.
        let begin = position_elsewhere k.equals l.equals equals (λ e. away (sym one ∙ e)) in
        let last = position_elsewhere k.stop l.stop stop (λ e. away (sym two ∙ e)) in
        k.span ∙ (λ i. (begin i + 2, last i)) ∙ sym l.span;
    start = λ here.
        let begin = position_here k.equals l.equals equals (one ∙ here) in
        omega (arith, begin, ap (λ (x : ℕ × ℕ). x.0) k.span, ap (λ (x : ℕ × ℕ). x.0) l.span);
    stop = λ here.
        let last = position_here k.stop l.stop stop (two ∙ here) in
        omega (arith, last, ap (λ (x : ℕ × ℕ). x.1) k.span, ap (λ (x : ℕ × ℕ). x.1) l.span);
  }

  -- ---- statement by statement

  -- a `$p` whose proof has moved so, or another statement
  abbrev MovesSo : PlainStatement → PlainStatement → Type 0
  MovesSo s t = s.kind ≡ Provable → IsMoved number end other_end s t

  module _ (files : List PlainFile) (statements : List PlainStatement)
      (v : Viable (items files) statements []) where
    abbrev tokens : List PlainToken
    tokens = plain_tokens (items files)

    -- the parts at the next statement
    abbrev next_parts : (before : List PlainStatement) (s u : PlainStatement)
        (after : List PlainStatement) → Parts tokens before s (u ∷ after)
        → Parts tokens (before ++ s ∷ []) u after
    next_parts before s u after p = record {
      prefix = p.prefix ++ p.own;
      own = p.later.0;
      back = p.later.1;
      whole = cc (p.whole, p.later.2, append_assoc p.prefix p.own p.back);
      earlier = spells_append p.prefix p.own before (s ∷ []) p.earlier
          (p.own, [], sym (append-nil p.own), p.here, refl);
      here = p.later.3;
      later = p.later.4;
    }

    -- the statements behind one have moved so where their tokens have
    statements_moved : (before : List PlainStatement) (s : PlainStatement)
        (after : List PlainStatement) (p : Parts tokens before s after) (others : List PlainToken)
        → map (token_on was) p.back ≡ map (token_on now) others
        → (later : List PlainStatement) → SpellsAll others later
        → map placeless after ≡ map placeless later → AllZip MovesSo after later
    statements_moved before s [] p others e [] h es = tt
    statements_moved before s (u ∷ after) p others e (t ∷ later) h es =
        let q = next_parts before s u after p in
        let (same, more) = cons_parts (placeless u) (placeless t) _ _ es in
        let long = spelled_long q.own h.0 u t same q.here h.3 in
        let (prefixes, rests) = both_alike (token_on was) (token_on now) q.own q.back h.0 h.1 long
        (ap (map (token_on was)) (sym p.later.2) ∙ e ∙ ap (map (token_on now)) h.2) in
        let own : MovesSo u t = λ is.
        let other : t.kind ≡ Provable = ap (λ (x : PlainStatement). x.kind) (sym same) ∙ is in
        let k : EndsInProof u q.here.tail =
        subst (λ (kind : Kind). IsTail u kind q.here.tail) is q.here.ends in
        let l : EndsInProof t h.3.tail =
        subst (λ (kind : Kind). IsTail t kind h.3.tail) other h.3.ends in
        let (first, equals, stop) =
        signs_alike was now _ _ u t prefixes same q.here h.3 k l is other in
        let f = without_rest (items files) statements v in
        let (one, two) = ends_home files statements (before ++ s ∷ []) after f u q k in
        moved_by_signs u t q.here.tail h.3.tail k l first equals stop one two in
        (own, statements_moved (before ++ s ∷ []) u after q h.1 rests later h.4 more)
    statements_moved before s _ p others e _ h es = absurd cc

-- ==== the law of replaced proofs, by the file in which the statement stands

pub replaced_proofs_are_read_holds : ReplacedProofsAreRead
replaced_proofs_are_read_holds files before s after file text reads p there is_text =
    let all : List PlainStatement = before ++ s ∷ after in
    let a = proof_at (items files) before s after reads p in
    let st = stands files before s after text is_text a in
    let f = without_rest (items files) all reads in
    let number : st.number ≡ s.first.file =
    sym (home files a.ends.equals (s.proof ++ a.ends.stop ∷ []) st)
    ∙ (ends_home files all before after f s a.parts a.ends).0 in
    let same_file : st.position.file ≡ file = cc (st.position.there, number, there) in
    let begin : a.ends.equals.at + 2 ≡ s.span.0 = ap (λ (x : ℕ × ℕ). x.0) (sym a.ends.span) in
    let end : a.ends.stop.at ≡ s.span.1 = ap (λ (x : ℕ × ℕ). x.1) (sym a.ends.span) in
    let from = ap (λ (l : List ℕ). a.ends.equals.at + length l) a.ends.sign ∙ begin in
    let (rest, same, e) = altered files before s after text is_text a in
    let h : ℕ → ℕ → ℕ = one files before s after text is_text a in
    let j : ℕ → ℕ → ℕ = other files before s after text is_text a in
    let (later, read, spelled, placed) =
    read_so (items files) before s after reads a (others files before s after text is_text a)
    (put files before s after text is_text a) (last files before s after text is_text a) rest
    (symbols files before s after text is_text a) a.ends.end
    (zip_weaker (SameItem h j) (SameItem nowhere nowhere) (same_nowhere h j) a.back rest same) e in
    let changed : others files before s after text is_text a
    ≡ with_bytes files s.first.file (with_span file.bytes s.span text) =
    (λ i. slice_set files (number i) (record (same_file i) {
      bytes = with_span (same_file i).bytes (from i, end i) text;
    }))
    ∙ rw (there, with_bytes) in
    let alike = ap (map (token_on h)) (sym a.left) ∙ plain_tokens_alike h j a.back rest
    (zip_mapped (item_on h) (item_on j) a.back rest same) in
    record {
      later = later;
      reads = subst (λ (x : List PlainFile × PlainStatement). Reads x.0 (before ++ x.1 ∷ later) None)
          (λ i. (
            changed i,
            record s {
              proof = tokens_from (number i) (from i) text;
              span = (begin i, from i + length text);
            },
          )) read;
      same = placed;
      moved = statements_moved s.first.file s.span.1 (s.span.0 + length text) files all reads before s
          after a.parts (plain_tokens rest)
          (subst (λ (x : ℕ × ℕ × ℕ). map (token_on (further x.0 (x.1 + length text))) a.parts.back
          ≡ map (token_on (further x.0 x.2)) (plain_tokens rest))
          (λ i. (number i, from i, end i)) alike) later spelled placed;
    }
