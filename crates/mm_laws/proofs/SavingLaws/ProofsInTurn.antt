-- The proofs of the theorems of a file are put in, from the last one to the first, each over the
-- files with those behind it.
use Rattle.std.proofs.Common.{◌≡◌, ℕ, ◌+◌, ◌≤◌, List, [], ◌∷◌, ◌++◌, map, length, cond}
use Rattle.std.proofs.Common.{slice_get, Bool, true, false, Some, None, refl, sym, ap, subst, ◌∙◌}
use Rattle.std.proofs.Common.{append_assoc, arith}
use Rattle.std.specs.List.{AllZip}
use Rattle.std.proofs.lemmas.List.{map-append}
use Rattle.mm_base.specs.Statement.{PlainStatement}
use Rattle.mm_text.specs.Files.{PlainFile}
use Rattle.mm_text.specs.Reading.{Reads}
use Rattle.mm_base.specs.declared.statement.Kind.TheVariants.{Provable}
use Rattle.mm_text.specs.Replaced.{with_span, with_bytes, IsMoved}
use Rattle.mm_base.proofs.Lists.{zip_mapped, zip_weaker}
use Rattle.mm_frame.specs.Sentence.{Sentence, sentence_of}
use Rattle.mm_step.specs.Tree.{Trees}
use Rattle.mm_step.specs.declared.profile.Profile.{Profile}
use Rattle.mm_verdict.specs.declared.form.Form.{Form}
use Rattle.mm_rules.specs.Verdict.{AreAccepted, sentences}
use Rattle.mm_render.specs.Saved.{FitsSaved, within_span}
use Rattle.mm_save.specs.AllSaved.{is_theorem_of, theorems_of, IsRewritten, Replacement}
use Rattle.mm_save.specs.AllSaved.{with_replaced}
use Rattle.mm_laws.proofs.SavingLaws.RisingSpans.{Rise, spans_rise}
use Rattle.mm_save.proofs.Saving.FileSpans.{theorem_complete}
use Rattle.mm_save.proofs.Saving.FileSpans.{theorem_home, theorem_there}
use Rattle.mm_laws.proofs.SavingLaws.RisingSpans.{theorems_moved}
use Rattle.mm_save.proofs.Saving.FileSpans.{theorems_parted}
use Rattle.mm_laws.proofs.SavingLaws.NewProofs.{IsWrittenAs, AreWrittenAs, obeyed_along, written_same}
use Rattle.mm_laws.proofs.SavingLaws.NewProofs.{written_moved}
use Rattle.mm_laws.proofs.SavingLaws.OtherStatements.{all_along_moved}
use Rattle.mm_laws.proofs.SavingLaws.PutProofs.{IsToPut, are_put_anew, formed_there}
use Rattle.mm_laws.proofs.SavingLaws.PutProofs.{meant_there, stands}
use Rattle.mm_laws.proofs.SavingLaws.SpansReplaced.{all_moved_within, replaced_last}
use Rattle.mm_laws.proofs.SavingLaws.SpansReplaced.{replaced_no_longer, RiseBehind, within_kept}
use Rattle.mm_verdict.proofs.FileBytes.StatementsInFiles.{handed_anew, readable_anew, with_bytes_again}
use Rattle.mm_verdict.proofs.FileBytes.StatementsInFiles.{with_bytes_own, within_bytes}
use Rattle.mm_laws.proofs.SavingLaws.SpanTexts.{put_stands_within}

-- of spans that rise, those behind one
rise_behind : (at end : ℕ) (before : List PlainStatement) (s : PlainStatement)
    (after : List PlainStatement) → Rise at end (map (λ t. t.span) (before ++ s ∷ after))
    → (s.span.0 ≤ s.span.1) × Rise s.span.1 end (map (λ t. t.span) after)
rise_behind at end [] s after rise = (rise.1, rise.2)
rise_behind at end (b ∷ before) s after rise =
    rise_behind b.span.1 end before s after rise.2

-- the spans of the theorems behind one of a file stand behind its span
spans_behind : (files : List PlainFile) (number : ℕ) (file : PlainFile)
    → slice_get files number ≡ Some file → (before : List PlainStatement) (s : PlainStatement)
    (after : List PlainStatement) → Reads files (before ++ s ∷ after) None
    → is_theorem_of number s ≡ true
    → (s.span.0 ≤ s.span.1)
    × Rise s.span.1 (length file.bytes) (map (λ t. t.span) (theorems_of number after))
spans_behind files number file handed before s after reads is =
    rise_behind 0 (length file.bytes) (theorems_of number before) s (theorems_of number after)
    (rw (theorems_parted number before s after is) at
    (spans_rise files (before ++ s ∷ after) number file reads handed))

-- what stands in the spans of the theorems of a file with these bytes
abbrev pub texts_of : (number : ℕ) → (bytes : List ℕ) → List PlainStatement → List (List ℕ)
texts_of number bytes statements =
    map (λ s. within_span bytes s.span) (theorems_of number statements)

module _ (profile : Profile) (f : Form) (Keep : PlainStatement → Type 0)
    (May : List Sentence → PlainStatement → Trees → Type 0) (files : List PlainFile)
    (statements : List PlainStatement) (number : ℕ) (made : List ℕ)
    (Replaced : (own : List ℕ) → PlainStatement → Replacement → Type 0)
    (sv : IsRewritten Replaced files statements number made)
    (accepted : AreAccepted profile files statements) where
  abbrev file : PlainFile
  file = sv.file

  handed : slice_get files number ≡ Some file
  handed = sv.handed

  abbrev R : PlainStatement → Replacement → Type 0
  R = Replaced file.bytes

  -- ---- behind some statements

  -- The files with these bytes read as the statements before, and others in place of those after
  -- them. In the spans of the theorems among the others these texts stand.
  record ArePutBehind (bytes : List ℕ) (before after : List PlainStatement)
      (texts : List (List ℕ)) : Type 0 where
    pub later : List PlainStatement
    pub reads : Reads (with_bytes files number bytes) (before ++ later) None
    pub each : AreWrittenAs profile Keep May (sentences before) after later
    pub stand : texts_of number bytes later ≡ texts

  module _ (before : List PlainStatement) (s : PlainStatement) (after : List PlainStatement)
      (split : statements ≡ before ++ s ∷ after) (bytes : List ℕ) (texts : List (List ℕ))
      (next : ArePutBehind bytes (before ++ s ∷ []) after texts) where
    reads_next : Reads (with_bytes files number bytes) (before ++ s ∷ next.later) None
    reads_next = rw (append_assoc before (s ∷ []) next.later) at next.reads

    each_next : AreWrittenAs profile Keep May (sentences before ++ sentence_of s ∷ []) after
        next.later
    each_next = rw (map-append sentence_of before (s ∷ [])) at next.each

    -- a statement that is no theorem of the file is passed over
    passed_over : is_theorem_of number s ≡ false → Keep s
        → ArePutBehind bytes before (s ∷ after) texts
    passed_over other keep = record {
      later = s ∷ next.later;
      reads = reads_next;
      each = (
        written_same profile Keep May (sentences before) s s refl refl refl keep,
        each_next,
      );
      stand = ap (λ (b : Bool). map (λ t. within_span bytes t.span)
          (cond b (s ∷ theorems_of number next.later) (theorems_of number next.later))) other
          ∙ next.stand;
    }

    -- a theorem of the file has its proof put in
    put_in : (is : is_theorem_of number s ≡ true) (put : List ℕ)
        → IsToPut profile f (Keep s) (May (sentences before) s) (sentences before) (sentence_of s)
        (within_span bytes s.span) put
        → ArePutBehind (with_span bytes s.span put) before (s ∷ after) (put ∷ texts)
    put_in is put to_put =
        let others : List PlainFile = with_bytes files number bytes in
        let own : PlainFile = record file { bytes = bytes } in
        let new : List ℕ = with_span bytes s.span put in
        let complete = theorem_complete number s is in
        let home = theorem_home number s is in
        let there = handed_anew files number file bytes handed in
        let here = ap (slice_get others) home ∙ there in
        let p = are_put_anew profile f Keep May others before s next.later own put reads_next
        complete here (meant_there profile accepted before s after split)
        (formed_there profile accepted before s after split) to_put in
        let stood = stands profile f Keep May others before s next.later own put reads_next
        complete here in
        let theorem = theorem_there number p.t (sym p.written.proofs ∙ complete)
        (sym p.written.home ∙ home) in
        let changed : with_bytes others s.first.file new ≡ with_bytes files number new =
        ap (λ (n : ℕ). with_bytes others n new) home
        ∙ with_bytes_again files number file bytes new handed in
        let first : within_span new p.t.span ≡ put =
        put_stands_within s bytes stood put p.t.span p.span in
        let begins : s.span.0 ≤ length bytes =
        let (order, within) = within_bytes s bytes stood in omega (arith, order, within) in
        let rest = all_moved_within bytes s.span put begins s.span.1 (length bytes)
        (theorems_of number next.later) (theorems_of number p.later) (omega arith)
        (spans_behind others number own there before s next.later reads_next is).1
        (theorems_moved number s.span.1 (s.span.0 + length put) next.later p.later p.same
        (subst (λ (n : ℕ). AllZip (λ u v. u.kind ≡ Provable
        → IsMoved n s.span.1 (s.span.0 + length put) u v) next.later p.later) home p.moved))
        ∙ next.stand in
        record {
          later = p.t ∷ p.later;
          reads = subst (λ (fs : List PlainFile). Reads fs (before ++ p.t ∷ p.later) None) changed
              p.reads;
          each = (
            p.written,
            subst (λ (u : Sentence).
                AreWrittenAs profile Keep May (sentences before ++ u ∷ []) after p.later)
                p.written.said
                (all_along_moved (IsWrittenAs profile Keep May) (written_moved profile Keep May)
                (sentences before ++ sentence_of s ∷ []) after next.later p.later p.same each_next),
          );
          stand = ap (λ (b : Bool). map (λ t. within_span new t.span)
              (cond b (p.t ∷ theorems_of number p.later) (theorems_of number p.later))) theorem
              ∙ (λ i. first i ∷ rest i);
        }

  -- ---- all of them

  module _ (spanned : (s : PlainStatement) (new : Replacement) → R s new → new.span ≡ s.span) where
    rise_news : (at end : ℕ) (theorems : List PlainStatement) (news : List Replacement)
        → Rise at end (map (λ s. s.span) theorems) → AllZip R theorems news
        → RiseBehind at end news
    rise_news at end theorems news rise each =
        subst (Rise at end) (zip_mapped (λ s. s.span) (λ new. new.span) theorems news
        (zip_weaker R (λ s new. s.span ≡ new.span) (λ s new r. sym (spanned s new r)) theorems news
        each)) rise

    module _ (others : (s : PlainStatement) → is_theorem_of number s ≡ false → Keep s)
        (puts : (before : List PlainStatement) (s : PlainStatement) (after : List PlainStatement)
        → statements ≡ before ++ s ∷ after → is_theorem_of number s ≡ true → (new : Replacement)
        → R s new
        → IsToPut profile f (Keep s) (May (sentences before) s) (sentences before) (sentence_of s)
        (within_span file.bytes s.span) new.text) where
      abbrev PutsBehind : (before after : List PlainStatement) → Type 0
      PutsBehind before after =
          (news : List Replacement) → AllZip R (theorems_of number after) news
          → ArePutBehind (with_replaced file.bytes news) before after (map (λ new. new.text) news)

      -- a statement before those that are put in, by whether it is a theorem of the file
      behind_one : (before : List PlainStatement) (s : PlainStatement)
          (after : List PlainStatement) → statements ≡ before ++ s ∷ after
          → PutsBehind (before ++ s ∷ []) after → (b : Bool) → is_theorem_of number s ≡ b
          → (news : List Replacement)
          → AllZip R (cond b (s ∷ theorems_of number after) (theorems_of number after)) news
          → ArePutBehind (with_replaced file.bytes news) before (s ∷ after)
          (map (λ new. new.text) news)
      behind_one before s after split so false is news each =
          passed_over before s after split (with_replaced file.bytes news)
          (map (λ new. new.text) news) (so news each) is (others s is)
      behind_one before s after split so true is [] each = absurd each
      behind_one before s after split so true is (new ∷ news) (r, each) =
          let xs : List ℕ = file.bytes in
          let (order, rise) = spans_behind files number file handed before s after
          (rw split at accepted.reads) is in
          let behind = rise_news s.span.1 (length xs) (theorems_of number after) news rise each in
          let kept = within_kept xs s.span news order behind in
          let texts : List (List ℕ) = map (λ new. new.text) news in
          let put = put_in before s after split (with_replaced xs news) texts (so news each) is
          new.text (rw kept (puts before s after split is new r)) in
          subst (λ (l : List ℕ). ArePutBehind l before (s ∷ after) (new.text ∷ texts))
          (replaced_last xs s.span news order behind new.text
          ∙ ap (λ (span : ℕ × ℕ). with_replaced xs (record { span = span; text = new.text } ∷ news))
          (sym (spanned s new r))) put

      put_behind : (before after : List PlainStatement) → statements ≡ before ++ after
          → PutsBehind before after
      put_behind before [] split [] each = record {
        later = [];
        reads = rw (with_bytes_own files number file handed, ← split) accepted.reads;
        each = tt;
        stand = refl;
      }
      put_behind before [] split (new ∷ news) each = absurd each
      put_behind before (s ∷ after) split news each =
          behind_one before s after split
          (put_behind (before ++ s ∷ []) after
          (split ∙ sym (append_assoc before (s ∷ []) after)))
          (is_theorem_of number s) refl news each

      -- The files with the new bytes are accepted as other statements, and the texts stand in the
      -- spans of the theorems.
      pub are_all_put : FitsSaved files number made
          → (same : List PlainStatement) × AreAccepted profile (with_bytes files number made) same
          × AreWrittenAs profile Keep May [] statements same
          × (texts_of number made same ≡ map (λ new. new.text) sv.replaced)
      are_all_put fits =
          let put = rw (← sv.whole) at (put_behind [] statements refl sv.replaced sv.each) in (
            put.later,
            record {
              readable = readable_anew files number file made handed fits accepted.readable;
              reads = put.reads;
              obeyed = obeyed_along profile Keep May statements put.later put.each accepted.obeyed;
            },
            put.each,
            put.stand,
          )

    -- where no text is longer than what stood there, the file is no longer
    pub all_no_longer : ((s : PlainStatement) (new : Replacement) → R s new
        → length new.text ≤ length (within_span file.bytes s.span))
        → length made ≤ length file.bytes
    all_no_longer few =
        let theorems : List PlainStatement = theorems_of number statements in
        let Few : PlainStatement → Replacement → Type 0 =
        λ s new. (new.span ≡ s.span) × (length new.text ≤ length (within_span file.bytes s.span)) in
        let rise = spans_rise files statements number file accepted.reads handed in
        let less = replaced_no_longer 0 file.bytes theorems sv.replaced rise
        (zip_weaker R Few (λ s new r. (spanned s new r, few s new r)) theorems sv.replaced sv.each)
        in omega (arith, less, ap length sv.whole)
