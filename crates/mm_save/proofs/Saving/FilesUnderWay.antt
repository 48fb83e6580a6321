-- A new file on its way: statement by statement, from the first span on, each in place of what was
-- there. The proofs of both files that are written whole stand on this.
use Rattle.std.proofs.Common.{◌≡◌, ℕ, ◌≤◌, List, [], ◌∷◌, ◌++◌, drop, length, slice_get, true}
use Rattle.std.proofs.Common.{slice_range, Option, inl, inr, refl, sym, ap, ◌∙◌, arith}
use Rattle.std.proofs.Common.{append_assoc}
use Rattle.std.specs.List.{AllZip}
use Rattle.mm_base.specs.declared.statement.Kind.TheVariants.{Provable}
use Rattle.mm_base.specs.Statement.{PlainStatement}
use Rattle.mm_text.specs.Files.{PlainFile}
use Rattle.mm_text.specs.Reading.{PlainFault, Reads}
use Rattle.mm_base.proofs.Lists.{zip_push}
use Rattle.mm_text.proofs.Replaced.ProofSpans.{proof_spans_follow_holds}
use Rattle.mm_text.proofs.Replaced.ProofSpans.{proofs_stand_in_spans_holds}
use Rattle.mm_save.specs.declared.save_all.NewFile.{NewFile}
use Rattle.mm_rules.specs.declared.ask.AskFault.{AskFault}
use Rattle.mm_save.specs.AllSaved.{IsRewriteFault, IsRewritten, Replacement, is_theorem_of}
use Rattle.mm_save.specs.AllSaved.{theorems_of, with_replaced}
use Rattle.mm_save.specs.Mirror.AllSaving.{AreReplacedSoFar, AreReplacedUpTo, IsFinishFault}
use Rattle.mm_save.specs.Mirror.AllSaving.{IsLastEnd, IsTakenSoFar, IsUpTo, PutsAfter, PutsText}
use Rattle.mm_save.specs.Mirror.AllSaving.{replacement}
use Rattle.mm_save.proofs.Saving.FileSpans.{theorems_parted}
use Rattle.mm_save.proofs.Saving.ReplacedSpans.{all_replaced, replaced_on}
use Rattle.mm_verdict.proofs.FileBytes.StatementsInFiles.{within_bytes}

-- ---- up to a most

pub put_twice : (most : ℕ) (first then old between new : List ℕ)
    → PutsAfter most first old between → PutsAfter most then between new
    → PutsAfter most (first ++ then) old new
put_twice most first then old between new one other whole h =
    rw append_assoc at (other (whole ++ first) (one whole h))

-- ---- one statement more

-- nothing of it is taken
last_past : (number at : ℕ) (taken more : List PlainStatement) → IsLastEnd number taken at
    → IsLastEnd number (taken ++ more) at
last_past number at taken more (inl begin) = inl begin
last_past number at taken more (inr (before, t, between, parts, kind, same, ends)) =
    let whole : taken ++ more ≡ before ++ t ∷ (between ++ more) =
    ap (λ (ss : List PlainStatement). ss ++ more) parts ∙ append_assoc before (t ∷ between) more in
    inr (before, t, between ++ more, whole, kind, same, ends)

pub way_past : (files : List PlainFile) (taken more : List PlainStatement) (file : NewFile)
    → IsTakenSoFar files taken file → IsTakenSoFar files (taken ++ more) file
way_past files taken more file way = record {
  own = way.own;
  handed = way.handed;
  source = way.source;
  limit = way.limit;
  within = way.within;
  last = last_past file.number file.taken taken more way.last;
}

module _ (files : List PlainFile) (taken : List PlainStatement) (s : PlainStatement)
    (after : List PlainStatement) (ending : Option PlainFault) (file : NewFile)
    (reads : Reads files (taken ++ s ∷ after) ending) (provable : s.kind ≡ Provable)
    (home : s.first.file ≡ file.number) (way : IsTakenSoFar files taken file) where
  -- its proof stands in the file
  pub stands_next : (s.span.0 ≤ s.span.1) × (s.span.1 ≤ length file.source.now)
  stands_next =
      rw way.source (within_bytes s way.own.bytes
      (proofs_stand_in_spans_holds files taken s after ending way.own reads provable
      (ap (slice_get files) home ∙ way.handed)))

  -- behind what was taken
  pub follows_next : file.taken ≤ s.span.0
  follows_next =
      elim way.last [
        | inl begin ↦ omega (arith, begin)
        | inr (before, t, between, parts, kind, same, ends) ↦
            let follows = proof_spans_follow_holds files before between after t s ending
            (rw parts at reads) kind provable (same ∙ sym home) in omega (arith, follows, ends)
      ]

  -- a text is put in its place
  pub way_next : (next : NewFile) (text : List ℕ) → PutsText file s.span text next
      → IsTakenSoFar files (taken ++ s ∷ []) next
  way_next next text puts =
      let same = puts.same in
      record {
        own = way.own;
        handed = ap (slice_get files) same.number ∙ way.handed;
        source = same.source ∙ way.source;
        limit = rw (same.number, same.most) way.limit;
        within = omega (arith, stands_next.1, puts.taken, ap length same.source);
        last = inr (taken, s, [], refl, provable, home ∙ sym same.number, puts.taken);
      }

-- its proof is replaced as it may be
pub replaced_next : (May : PlainStatement → Replacement → Type 0) (taken : List PlainStatement)
    (s : PlainStatement) (file next : NewFile) (text : List ℕ)
    → is_theorem_of file.number s ≡ true → (replaced : List Replacement)
    → AllZip May (theorems_of file.number taken) replaced → (bytes : List ℕ)
    → AreReplacedUpTo file.taken file.source.now replaced bytes
    → IsUpTo file.most bytes file.bytes.items → PutsText file s.span text next
    → May s (replacement s text) → AreReplacedSoFar May (taken ++ s ∷ []) next
replaced_next May taken s file next text is replaced each bytes up_to put puts may =
    let same = puts.same in
    let new : Replacement = replacement s text in
    record {
      replaced = replaced ++ new ∷ [];
      each = rw (same.number, theorems_parted file.number taken s [] is)
          (zip_push May (theorems_of file.number taken) replaced s new each may);
      bytes = bytes ++ (slice_range file.source.now file.taken s.span.0 ++ text);
      up_to = rw (same.source, puts.taken)
          (replaced_on file.taken file.source.now replaced bytes new up_to);
      put = rw same.most (puts.put bytes put);
    }

-- ---- the end

module _ (files : List PlainFile) (statements : List PlainStatement) (file : NewFile)
    (May : (bytes : List ℕ) → PlainStatement → Replacement → Type 0)
    (way : IsTakenSoFar files statements file)
    (h : AreReplacedSoFar (May file.source.now) statements file) where
  -- the bytes are those of the file with all replaced
  pub rewritten : (bytes : List ℕ) → bytes ≡ h.bytes ++ drop file.taken file.source.now
      → IsRewritten May files statements file.number bytes
  rewritten bytes is = record {
    file = way.own;
    handed = way.handed;
    replaced = h.replaced;
    each = rw (← way.source) h.each;
    whole = is ∙ all_replaced file.taken file.source.now h.replaced h.bytes h.up_to
        ∙ ap (λ (own : List ℕ). with_replaced own h.replaced) way.source;
  }

  -- or why there are none
  pub rewrite_fault : (why : AskFault) → IsFinishFault file why
      → IsRewriteFault May files statements file.number why
  rewrite_fault why (inl memory) = rw memory tt
  rewrite_fault why (inr (is, over)) =
      let bytes : List ℕ = h.bytes ++ drop file.taken file.source.now in
      rw is (bytes, rewritten bytes refl, (way.limit bytes).0 (over h.bytes h.put))
