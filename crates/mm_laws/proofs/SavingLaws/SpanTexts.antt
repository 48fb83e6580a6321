-- What is put in place of a proof's bytes is one, is put again in place of itself, and in small form
-- is no longer than they are.
use Rattle.std.proofs.Common.{◌≡◌, ℕ, zero, suc, ◌+◌, ◌-◌, ◌≤◌, ◌==◌, List, [], ◌∷◌}
use Rattle.std.proofs.Common.{◌++◌, Bool, true, false, cond, length, min, replicate, take, drop}
use Rattle.std.proofs.Common.{inl, inr, refl, sym, ap, subst, ◌∙◌, arith}
use Rattle.std.proofs.Common.{length-append, append_assoc}
use Rattle.std.proofs.Math.Nat.{min-eq_left}
use Rattle.std.proofs.lemmas.Bool.{cases_Bool}
use Rattle.std.proofs.Math.Seq.{take-append_seam, drop-append_seam}
use Rattle.mm_base.specs.Statement.{PlainStatement}
use Rattle.mm_text.specs.Replaced.{with_span, IsProofSpan}
use Rattle.mm_code.specs.declared.code.Code.{Code}
use Rattle.mm_code.specs.Letters.{SpellsCodes}
use Rattle.mm_code.specs.SmallLayout.{SmallLaidOut}
use Rattle.mm_code.proofs.LaidOutLines.{one_text_of_tokens, one_text_of_compressed}
use Rattle.mm_code.proofs.OneSpelling.{one_text_only}
use Rattle.mm_code.proofs.SmallLines.{one_small_text}
use Rattle.mm_code.proofs.SmallEnds.{small_begins}
use Rattle.mm_frame.specs.Sentence.{Sentence}
use Rattle.mm_frame.specs.Rules.{AllMeant}
use Rattle.mm_step.specs.Tree.{Trees, none, tree, spelling}
use Rattle.mm_forms.proofs.FullSharing.OneSharedProof.{one_packed_holds}
use Rattle.mm_forms.proofs.SmallProofs.OneSmallProof.{one_small_holds}
use Rattle.mm_verdict.specs.declared.form.Form.{Form}
use Rattle.mm_render.specs.Forms.{IsPackedText, IsSmallBehind}
use Rattle.mm_render.specs.Saved.{IsSpanText, IsShorter, spaces, indent_at, indent_of, within_span}
use Rattle.mm_render.specs.Saved.{without_return, has_long_ends, with_ends_of}
use Rattle.mm_laws.proofs.SavingLaws.LineEnds.{lengthened, lengthened_spaces, same_ends}
use Rattle.mm_verdict.specs.declared.form.Form.TheVariants as form

-- ==== the bytes of a span

-- a text between two parts is replaced
pub span_put : (prefix now back put : List ℕ) (span : ℕ × ℕ) → span.0 ≡ length prefix
    → span.1 ≡ length prefix + length now
    → with_span (prefix ++ (now ++ back)) span put ≡ prefix ++ (put ++ back)
span_put prefix now back put span start stop =
    let after : drop span.1 (prefix ++ (now ++ back)) ≡ back =
    rw (stop, ← length-append prefix now, ← append_assoc prefix now back)
    (drop-append_seam (prefix ++ now) back) in
    rw (start, take-append_seam prefix (now ++ back), after)

-- and stands there
pub span_within : (prefix now back : List ℕ) (span : ℕ × ℕ) → span.0 ≡ length prefix
    → span.1 ≡ length prefix + length now
    → within_span (prefix ++ (now ++ back)) span ≡ now
span_within prefix now back span start stop =
    let after : drop span.0 (prefix ++ (now ++ back)) ≡ now ++ back =
    rw start (drop-append_seam prefix (now ++ back)) in
    let long : span.1 - span.0 ≡ length now = omega (arith, start, stop) in
    (λ i. take (long i) (after i)) ∙ take-append_seam now back

module _ (s : PlainStatement) (bytes : List ℕ) (p : IsProofSpan s bytes) where
  -- what stands in the span of a proof
  pub stands_within : within_span bytes s.span ≡ p.within
  stands_within =
      ap (λ (l : List ℕ). within_span l s.span) p.whole
      ∙ span_within p.prefix p.within p.back s.span p.start p.stop

  put_whole : (put : List ℕ) → with_span bytes s.span put ≡ p.prefix ++ (put ++ p.back)
  put_whole put =
      ap (λ (l : List ℕ). with_span l s.span put) p.whole
      ∙ span_put p.prefix p.within p.back put s.span p.start p.stop

  -- put in its own place, it changes nothing
  pub kept_span : with_span bytes s.span (within_span bytes s.span) ≡ bytes
  kept_span =
      ap (with_span bytes s.span) stands_within ∙ put_whole p.within ∙ sym p.whole

  pub kept_long : s.span ≡ (s.span.0, s.span.0 + length (within_span bytes s.span))
  kept_long =
      let stop : s.span.1 ≡ s.span.0 + length (within_span bytes s.span) =
      omega (arith, p.start, p.stop, ap length stands_within) in
      ap (λ (n : ℕ). (s.span.0, n)) stop

  -- what is no longer makes the whole no longer
  pub put_no_longer : (put : List ℕ) → length put ≤ length (within_span bytes s.span)
      → length (with_span bytes s.span put) ≤ length bytes
  put_no_longer put less =
      omega (
        arith,
        less,
        ap length stands_within,
        ap length (put_whole put),
        ap length p.whole,
        length-append p.prefix (put ++ p.back),
        length-append put p.back,
        length-append p.prefix (p.within ++ p.back),
        length-append p.within p.back,
      )

  module _ (put : List ℕ) (span : ℕ × ℕ) (is : span ≡ (s.span.0, s.span.0 + length put)) where
    new_start : span.0 ≡ length p.prefix
    new_start = ap (λ (n : ℕ × ℕ). n.0) is ∙ p.start

    new_stop : span.1 ≡ length p.prefix + length put
    new_stop = ap (λ (n : ℕ × ℕ). n.1) is ∙ ap (λ (n : ℕ). n + length put) p.start

    -- what was put stands in its new span
    pub put_stands_within : within_span (with_span bytes s.span put) span ≡ put
    put_stands_within =
        ap (λ (l : List ℕ). within_span l span) (put_whole put)
        ∙ span_within p.prefix put p.back span new_start new_stop

    -- put there again, it changes nothing
    pub put_again : with_span (with_span bytes s.span put) span put ≡ with_span bytes s.span put
    put_again =
        ap (λ (l : List ℕ). with_span l span put) (put_whole put)
        ∙ span_put p.prefix put p.back put span new_start new_stop ∙ sym (put_whole put)

-- ==== the indent of a small proof

indent_by : (b : Bool) (n : ℕ) → cond b (min n 39) 4 ≤ 39
indent_by true n = omega arith
indent_by false n = omega arith

few_at : (bytes : List ℕ) → indent_at bytes ≤ 39
few_at [] = omega arith
few_at (byte ∷ bytes) = indent_by (byte == 10) (spaces bytes)

pub indent_few : (old : List ℕ) → indent_of old ≤ 39
indent_few old = few_at (without_return old)

spaces_are : (count : ℕ) (more : List ℕ) → spaces (replicate count 32 ++ 40 ∷ more) ≡ count
spaces_are zero more = refl
spaces_are (suc count) more = ap suc (spaces_are count more)

-- in its lines, it has the indent again that it was given, and the line ends
pub indent_again : (indent : ℕ) (labels : List (List ℕ)) (letters text old : List ℕ) → indent ≤ 39
    → SmallLaidOut indent labels letters text → indent_of (with_ends_of old text) ≡ indent
indent_again indent labels letters text old few laid =
    let begins = small_begins indent labels letters text laid in
    let So : Bool → ℕ = λ c. indent_of (cond c (lengthened text) text) in
    elim (cases_Bool (has_long_ends old)) [
      | inl long ↦
          ap So long ∙ ap (λ (l : List ℕ). indent_of (lengthened l)) begins.is
          ∙ ap (λ (n : ℕ). min n 39) (lengthened_spaces indent begins.more) ∙ min-eq_left few
      | inr short ↦
          ap So short ∙ ap indent_of begins.is
          ∙ ap (λ (n : ℕ). min n 39) (spaces_are indent begins.more) ∙ min-eq_left few
    ]

pub ends_again : (indent : ℕ) (labels : List (List ℕ)) (letters text old : List ℕ)
    → SmallLaidOut indent labels letters text
    → has_long_ends (with_ends_of old text) ≡ has_long_ends old
ends_again indent labels letters text old laid =
    let begins = small_begins indent labels letters text laid in
    ap (λ (l : List ℕ). has_long_ends (with_ends_of old l)) begins.is
    ∙ same_ends old (replicate indent 32 ++ 40 ∷ begins.more)

-- with the same line ends, it is the same text
ends_are : (put old text : List ℕ) → has_long_ends put ≡ has_long_ends old
    → with_ends_of put text ≡ with_ends_of old text
ends_are put old text same = ap (λ (c : Bool). cond c (lengthened text) text) same

-- ==== one text is put

small_once : (indent : ℕ) (prefix : List Sentence) (s : Sentence) (root : List ℕ) (below : Trees)
    (a b : List ℕ) → AllMeant prefix → IsSmallBehind indent prefix s (tree root below none) a
    → IsSmallBehind indent prefix s (tree root below none) b → a ≡ b
small_once indent prefix s root below a b meant x y =
    let same = one_small_holds prefix s root below x.listed y.listed x.codes y.codes meant x.small
    y.small in
    let letters : x.letters ≡ y.letters = one_text_only x.letters y.letters x.codes x.spelled
    (subst (λ (codes : List Code). SpellsCodes y.letters codes) (sym same.1) y.spelled) in
    one_small_text indent x.listed x.letters a b x.laid (rw (same.0, letters) y.laid)

packed_once : (prefix : List Sentence) (s : Sentence) (root : List ℕ) (below : Trees)
    (a b : List ℕ) → AllMeant prefix → IsPackedText prefix s (tree root below none) a
    → IsPackedText prefix s (tree root below none) b → a ≡ b
packed_once prefix s root below a b meant x y =
    let same = one_packed_holds prefix s root below x.listed y.listed x.codes y.codes meant x.packed
    y.packed in
    let letters : x.letters ≡ y.letters = one_text_only x.letters y.letters x.codes x.spelled
    (subst (λ (codes : List Code). SpellsCodes y.letters codes) (sym same.1) y.spelled) in
    one_text_of_compressed x.listed x.letters a b x.laid (rw (same.0, letters) y.laid)

shorter_once : (old new a b : List ℕ) → IsShorter old new a → IsShorter old new b → a ≡ b
shorter_once old new a b (inl x) (inl y) = x.1 ∙ sym y.1
shorter_once old new a b (inr x) (inr y) = x.1 ∙ sym y.1
shorter_once old new a b (inl x) (inr y) = absurd (omega (arith, x.0, y.0))
shorter_once old new a b (inr x) (inl y) = absurd (omega (arith, x.0, y.0))

pub span_text_once : (f : Form) (prefix : List Sentence) (s : Sentence) (root : List ℕ)
    (below : Trees) (old a b : List ℕ) → AllMeant prefix
    → IsSpanText f prefix s (tree root below none) old a
    → IsSpanText f prefix s (tree root below none) old b → a ≡ b
span_text_once form.Normal prefix s root below old a b meant (x, p, is) (y, q, other) =
    is ∙ ap (λ (l : List ℕ). with_ends_of old (10 ∷ l))
    (one_text_of_tokens (spelling (tree root below none)) x y p.1 q.1) ∙ sym other
span_text_once form.Packed prefix s root below old a b meant (x, p, is) (y, q, other) =
    is ∙ ap (λ (l : List ℕ). with_ends_of old (10 ∷ l))
    (packed_once prefix s root below x y meant p q) ∙ sym other
span_text_once form.Small prefix s root below old a b meant (x, p, is) (y, q, other) =
    let same : x ≡ y = small_once (indent_of old) prefix s root below x y meant p q in
    shorter_once old (with_ends_of old y) a b
    (subst (λ (l : List ℕ). IsShorter old (with_ends_of old l) a) same is) other

-- ==== and it is put again in place of itself

-- behind a line feed
put_again_behind : (old put text : List ℕ) → put ≡ with_ends_of old (10 ∷ text)
    → put ≡ with_ends_of put (10 ∷ text)
put_again_behind old put text is =
    is ∙ sym (ends_are put old (10 ∷ text) (ap has_long_ends is ∙ same_ends old text))

pub span_text_again : (f : Form) (prefix : List Sentence) (s : Sentence) (trees : Trees)
    (old put : List ℕ) → IsSpanText f prefix s trees old put → IsSpanText f prefix s trees put put
span_text_again form.Normal prefix s trees old put (text, laid, is) =
    (text, laid, put_again_behind old put text is)
span_text_again form.Packed prefix s trees old put (text, laid, is) =
    (text, laid, put_again_behind old put text is)
span_text_again form.Small prefix s trees old put (text, p, inl (less, is)) =
    let same : indent_of put ≡ indent_of old = ap indent_of is
    ∙ indent_again (indent_of old) p.listed p.letters text old (indent_few old) p.laid in
    let long : has_long_ends put ≡ has_long_ends old = ap has_long_ends is
    ∙ ends_again (indent_of old) p.listed p.letters text old p.laid in
    let whole : with_ends_of put text ≡ put = ends_are put old text long ∙ sym is in (
      text,
      subst (λ (n : ℕ). IsSmallBehind n prefix s trees text) (sym same) p,
      inr (omega (arith, ap length whole), refl),
    )
span_text_again form.Small prefix s trees old put (text, p, inr (more, is)) =
    subst (λ (l : List ℕ). IsSpanText form.Small prefix s trees l l) (sym is)
    (text, p, inr (more, refl))

-- ==== in small form no more bytes are put than there were

pub small_no_longer : (prefix : List Sentence) (s : Sentence) (trees : Trees) (old put : List ℕ)
    → IsSpanText form.Small prefix s trees old put → length put ≤ length old
small_no_longer prefix s trees old put (text, p, inl (less, is)) =
    omega (arith, less, ap length is)
small_no_longer prefix s trees old put (text, p, inr (more, is)) = omega (arith, ap length is)
