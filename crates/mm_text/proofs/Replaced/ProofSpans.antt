-- Where the bytes of a proof stand: all tokens of a statement stand in one file, the proof's bytes
-- lie between its `$=` and its `$.`, and in one file the proof of a later `$p` stands behind that of
-- an earlier one.
use Rattle.std.proofs.Common.{◌≡◌, List, [], ◌∷◌, ◌++◌, map, refl, sym, ap, ◌∙◌, append_assoc, ℕ}
use Rattle.std.proofs.Common.{◌+◌, length, None, ◌<◌, subst, append-nil, arith}
use Rattle.std.proofs.lemmas.List.{map-append}
use Rattle.mm_base.specs.Token.{PlainToken, tokens_from}
use Rattle.mm_text.specs.Files.{PlainFile}
use Rattle.mm_base.specs.Statement.{PlainStatement, EndsInProof, IsTail, SpellsAll}
use Rattle.mm_text.specs.Items.{Item, Plain, plain_tokens, items, Shown, Clear, without_comments}
use Rattle.mm_text.specs.Replaced.{ProofsStandInSpans, ProofSpansFollow}
use Rattle.mm_base.specs.declared.statement.Kind.{Kind}
use Rattle.mm_base.specs.declared.statement.Kind.TheVariants.{Provable}
use Rattle.mm_text.proofs.Inclusions.FilePieces.{StandsInFile, run_stands}
use Rattle.mm_text.proofs.Reader.OneReading.{spells_append, plain_tokens-append}
use Rattle.mm_text.proofs.Replaced.ReplacedReading.{Parts, WholePrefix, own_stands, reads_prefix}
use Rattle.mm_text.proofs.Replaced.ReplacedReading.{proof_at, parts_of}
use Rattle.mm_text.proofs.Replaced.ReplacedProofs.{home, run_home}
use Rattle.mm_text.proofs.Tokens.CutTokens.{IsSpaced, ReplacedBetween, replaced_between}
use Rattle.mm_text.proofs.Tokens.CutTokens.{clear_shown}
use Rattle.mm_text.proofs.Inclusions.ItemOrder.{tokens_in_order}

-- ==== all tokens of a statement stand in one file

-- a run of tokens in a prefix stands in one file
prefix_run_stands : (files : List PlainFile) (statements : List PlainStatement)
    (f : WholePrefix (items files) statements) (before after : List Item) (t : PlainToken)
    (tokens : List PlainToken) → f.prefix ≡ before ++ (map Plain (t ∷ tokens) ++ after)
    → StandsInFile files t tokens
prefix_run_stands files statements f before after t tokens e =
    run_stands files before (after ++ f.rest) t tokens
    (cc (
      f.cut,
      e,
      append_assoc before (map Plain (t ∷ tokens) ++ after) f.rest,
      append_assoc (map Plain (t ∷ tokens)) after f.rest,
    ))

-- each token of a statement after its first is of the file of the first
one_home : (files : List PlainFile) (statements before after : List PlainStatement)
    (f : WholePrefix (items files) statements) (s : PlainStatement)
    (p : Parts (plain_tokens f.prefix) before s after)
    (others earlier later : List PlainToken) (u : PlainToken) → p.own ≡ s.first ∷ others
    → others ≡ earlier ++ u ∷ later → u.file ≡ s.first.file
one_home files statements before after f s p others earlier later u own there =
    let (prefix, back, whole, first, left) = own_stands f.prefix _ before s after f.viable p in
    let stands = prefix_run_stands files statements f prefix back s.first others
    (whole ∙ ap (λ (l : List PlainToken). prefix ++ (map Plain l ++ back)) own) in
    run_home files s.first others (s.first ∷ earlier) u later stands
    (ap (λ (l : List PlainToken). s.first ∷ l) there)
    ∙ sym (home files s.first others stands)

-- the `$=` and the `$.` of a `$p` are
pub ends_home : (files : List PlainFile) (statements before after : List PlainStatement)
    (f : WholePrefix (items files) statements) (s : PlainStatement)
    (p : Parts (plain_tokens f.prefix) before s after) (k : EndsInProof s p.here.tail)
    → (k.equals.file ≡ s.first.file) × (k.stop.file ≡ s.first.file)
ends_home files statements before after f s p k =
    let h = p.here in
    let stated : List PlainToken = h.first.0 ++ s.symbols in
    let others : List PlainToken = stated ++ k.equals ∷ (s.proof ++ k.stop ∷ []) in
    let own : p.own ≡ s.first ∷ others =
    h.whole ∙ ap (λ (l : List PlainToken). (l ++ s.symbols) ++ h.tail) h.first.1
    ∙ ap (λ (l : List PlainToken). s.first ∷ (stated ++ l)) k.tokens in
    let split = sym (append_assoc stated (k.equals ∷ s.proof) (k.stop ∷ [])) in (
      one_home files statements before after f s p others stated (s.proof ++ k.stop ∷ []) k.equals
          own refl,
      one_home files statements before after f s p others (stated ++ k.equals ∷ s.proof) [] k.stop
          own split,
    )

-- ==== where the bytes of a proof stand in those of its file

-- a text that may stand between tokens
one_feed : IsSpaced (10 ∷ [])
one_feed = record { inner = []; last = 10; whole = refl; begins = refl; ends = refl }

-- tokens that follow each other, shown in a file, stand apart in its bytes, and what stands there
-- shows those between
apart : (number : ℕ) (bytes : List ℕ) (passed : List Shown) (tokens : List PlainToken)
    (equals : PlainToken) (proof : List PlainToken) (stop : PlainToken) (rest : List Shown)
    → passed ≡ map Clear tokens
    → without_comments None (tokens_from number 0 bytes)
    ≡ passed ++ Clear equals ∷ (map Clear (proof ++ stop ∷ []) ++ rest)
    → (before between after : List PlainToken)
    × ReplacedBetween number bytes (10 ∷ []) before equals between stop after
    × (without_comments None between ≡ map Clear proof)
apart number bytes passed tokens equals proof stop rest clear whole =
    let behind : List Shown = map Clear (proof ++ stop ∷ []) ++ rest in
    let shown : without_comments None (tokens_from number 0 bytes)
    ≡ map Clear tokens ++ Clear equals ∷ behind =
    whole ∙ ap (λ (l : List Shown). l ++ Clear equals ∷ behind) clear in
    let one = clear_shown None (tokens_from number 0 bytes) tokens equals behind shown in
    let split : without_comments None one.after ≡ map Clear proof ++ Clear stop ∷ rest =
    sym one.later ∙ ap (λ (l : List Shown). l ++ rest) (map-append Clear proof (stop ∷ []))
    ∙ append_assoc (map Clear proof) (Clear stop ∷ []) rest in
    let two = clear_shown None one.after proof stop rest split in
    let all : tokens_from number 0 bytes ≡ one.before ++ equals ∷ (two.before ++ stop ∷ two.after) =
    one.whole ∙ ap (λ (l : List PlainToken). one.before ++ equals ∷ l) two.whole in (
      one.before,
      two.before,
      two.after,
      replaced_between number bytes (10 ∷ []) one.before equals two.before stop two.after all
          one_feed,
      two.alone,
    )

pub proofs_stand_in_spans_holds : ProofsStandInSpans
proofs_stand_in_spans_holds files before s after ending file reads p there =
    let all : List PlainStatement = before ++ s ∷ after in
    let f = reads_prefix (items files) all ending reads in
    let a = proof_at f.prefix before s after f.viable p in
    let behind : List PlainToken = s.proof ++ a.ends.stop ∷ [] in
    let st = prefix_run_stands files all f a.prefix a.back a.ends.equals behind a.whole in
    let number : st.number ≡ s.first.file =
    sym (home files _ behind st) ∙ (ends_home files all before after f s a.parts a.ends).0 in
    let same_file : st.position.file ≡ file = cc (st.position.there, number, there) in
    let r = st.position.reached in
    let (earlier, between, later, b, clear) = apart st.number st.position.file.bytes st.passed
    r.tokens a.ends.equals s.proof a.ends.stop st.rest r.clear st.position.whole in
    let two = ap (λ (l : List ℕ). a.ends.equals.at + length l) a.ends.sign in
    let start : s.span.0 ≡ length b.prefix =
    ap (λ (x : ℕ × ℕ). x.0) a.ends.span ∙ sym two ∙ b.start in
    record {
      prefix = b.prefix;
      within = b.within;
      back = b.back;
      whole = ap (λ (f : PlainFile). f.bytes) (sym same_file) ∙ b.whole;
      start = start;
      stop = ap (λ (x : ℕ × ℕ). x.1) a.ends.span ∙ b.stop;
      tokens =
          (λ i. without_comments None (tokens_from (sym number i) (start i) b.within))
          ∙ ap (without_comments None) b.stood ∙ clear;
    }

-- ==== in one file the proof of a later `$p` stands behind that of an earlier one

-- an element in one part of a list, and one in a later part
two_within : {A : Type 0} (f p : List A) (x : A) (b q : List A) (y : A) (r c d : List A)
    → ((f ++ ((p ++ x ∷ []) ++ b)) ++ ((q ++ y ∷ r) ++ c)) ++ d
    ≡ (f ++ p) ++ x ∷ ((b ++ q) ++ y ∷ (r ++ (c ++ d)))
two_within f p x b q y r c d = simp append_assoc

-- the `$=` and the `$.` of a `$p` that tokens spell
pub ends_of : (tokens : List PlainToken) (before : List PlainStatement) (s : PlainStatement)
    (after : List PlainStatement) (p : Parts tokens before s after) → s.kind ≡ Provable
    → EndsInProof s p.here.tail
ends_of tokens before s after p is =
    subst (λ (kind : Kind). IsTail s kind p.here.tail) is p.here.ends

pub proof_spans_follow_holds : ProofSpansFollow
proof_spans_follow_holds files before between after s t ending reads p q home =
    let all : List PlainStatement = (before ++ s ∷ between) ++ t ∷ after in
    let f = reads_prefix (items files) all ending reads in
    let tokens : List PlainToken = plain_tokens f.prefix in
    let finished : tokens ≡ f.viable.finished =
    f.viable.whole ∙ append-nil f.viable.finished in
    let a = parts_of tokens (before ++ s ∷ between) t after
    (subst (λ (l : List PlainToken). SpellsAll l all) (sym finished) f.viable.spelled) in
    let b = parts_of a.prefix before s between a.earlier in
    let rest : List PlainToken = a.own ++ a.back in
    let split : tokens ≡ (b.prefix ++ (b.own ++ b.back)) ++ rest =
    a.whole ∙ ap (λ (l : List PlainToken). l ++ rest) b.whole in
    let first : Parts tokens before s (between ++ t ∷ after) = record {
      prefix = b.prefix;
      own = b.own;
      back = b.back ++ rest;
      whole = split ∙ append_assoc b.prefix (b.own ++ b.back) rest
          ∙ ap (λ (l : List PlainToken). b.prefix ++ l) (append_assoc b.own b.back rest);
      earlier = b.earlier;
      here = b.here;
      later = spells_append b.back rest between (t ∷ after) b.later
          (a.own, a.back, refl, a.here, a.later);
    } in
    let k = ends_of tokens before s (between ++ t ∷ after) first p in
    let l = ends_of tokens (before ++ s ∷ between) t after a q in
    let stated : List PlainToken = (b.here.head ++ s.symbols) ++ k.equals ∷ s.proof in
    let later : List PlainToken = a.here.head ++ t.symbols in
    let own : b.own ≡ stated ++ k.stop ∷ [] =
    b.here.whole ∙ ap (λ (x : List PlainToken). (b.here.head ++ s.symbols) ++ x) k.tokens
    ∙ sym (append_assoc (b.here.head ++ s.symbols) (k.equals ∷ s.proof) (k.stop ∷ [])) in
    let behind : List PlainToken = t.proof ++ l.stop ∷ [] in
    let other : a.own ≡ later ++ l.equals ∷ behind =
    a.here.whole ∙ ap (λ (x : List PlainToken). later ++ x) l.tokens in
    let last : List PlainToken = a.back ++ plain_tokens f.rest in
    let parted : plain_tokens (items files)
    ≡ (b.prefix ++ stated) ++ k.stop ∷ ((b.back ++ later) ++ l.equals ∷ (behind ++ last)) =
    ap plain_tokens f.cut ∙ plain_tokens-append f.prefix f.rest
    ∙ ap (λ (x : List PlainToken). x ++ plain_tokens f.rest) split
    ∙ (λ i. ((b.prefix ++ (own i ++ b.back)) ++ (other i ++ a.back)) ++ plain_tokens f.rest)
    ∙ two_within b.prefix stated k.stop b.back later l.equals behind a.back (plain_tokens f.rest) in
    let less : k.stop.at < l.equals.at =
    tokens_in_order files (b.prefix ++ stated) (b.back ++ later) (behind ++ last) k.stop l.equals
    parted ((ends_home files all before (between ++ t ∷ after) f s first k).1 ∙ home
    ∙ sym (ends_home files all (before ++ s ∷ between) after f t a l).0) in
    omega (arith, ap (λ (x : ℕ × ℕ). x.1) k.span, ap (λ (x : ℕ × ℕ). x.0) l.span)
