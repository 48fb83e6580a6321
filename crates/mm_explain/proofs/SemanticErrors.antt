-- The files read again up to a statement that breaks a rule of meaning: the statements on the way
-- are those that were met the first time.
use Rattle.std.proofs.Common.{◌≡◌, ℕ, ◌<◌, List, [], ◌∷◌, ◌++◌, length, take, true}
use Rattle.std.proofs.Common.{refl, sym, ap, subst, ◌∙◌, arith, append_assoc, take_at}
use Rattle.std.proofs.lemmas.List.{map-append}
use Rattle.mm_text.specs.Files.{PlainFile}
use Rattle.mm_text.specs.Reading.{Reads}
use Rattle.mm_text.specs.Remaining.{Remaining, IsUnread}
use Rattle.mm_base.specs.Statement.{PlainStatement}
use Rattle.mm_frame.specs.declared.answer.Taken.{Taken}
use Rattle.mm_frame.specs.Rules.{AllMeant, IsMeant}
use Rattle.mm_frame.specs.Sentence.{Sentence, sentence_of}
use Rattle.mm_rules.specs.declared.progress.Progress.{Progress}
use Rattle.mm_explain.specs.Mirror.SemanticErrors.{Site, IsMeantNext, IsPast}
use Rattle.mm_verdict.specs.Mirror.Judged.{HasTaken, IsRead, TakesNext}
use Rattle.mm_verdict.specs.Mirror.Taking.{TakesAs}
use Rattle.mm_rules.specs.Verdict.{CanBeRead, sentences}
use Rattle.mm_verdict.proofs.Verdicts.AcceptedStatements.{same_reading}
use Rattle.mm_verdict.proofs.Verdicts.StatementByStatement.{taken_more}

-- ---- two cuts of one list

-- where the one is the earlier
cut_before : {X : Type 0} (a b c d : List X) → a ++ b ≡ c ++ d → length a < length c
    → (x : X) × (rest : List X) × (more : List X) × (b ≡ x ∷ rest) × (c ≡ a ++ x ∷ more)
cut_before [] b [] d e lt = absurd (omega arith)
cut_before [] b (x ∷ c) d e lt = (x, c ++ d, c, e, refl)
cut_before (y ∷ a) b [] d e lt = absurd (omega arith)
cut_before {X} (y ∷ a) b (z ∷ c) d e lt =
    let same : y ≡ z = cc in
    let (x, rest, more, left, whole) = cut_before a b c d (cc) (omega arith) in
    (x, rest, more, left, subst (λ (w : X). z ∷ c ≡ w ∷ (a ++ x ∷ more)) (sym same) (ap (λ (l : List X). z ∷ l) whole))

-- where both are the same
cut_same : {X : Type 0} (a b c d : List X) → a ++ b ≡ c ++ d → length a ≡ length c
    → (a ≡ c) × (b ≡ d)
cut_same [] b [] d e same = (refl, e)
cut_same [] b (x ∷ c) d e same = absurd (omega arith)
cut_same (y ∷ a) b [] d e same = absurd (omega arith)
cut_same (y ∷ a) b (z ∷ c) d e same =
    let (front, back) = cut_same a b c d (cc) (omega arith) in (cc, back)

-- ---- the reading

-- so many were read, and the next is that of the site, or one before it
module _ {files : List PlainFile} {count : ℕ} (site : Site files count) where
  whole_reading : (earlier left : Remaining → List PlainStatement) (r : Remaining)
      → Reads files (earlier r ++ left r) r.ending
      → earlier r ++ left r ≡ site.before ++ site.s ∷ site.after
  whole_reading earlier left r reads =
      (same_reading files (earlier r ++ left r) (site.before ++ site.s ∷ site.after) r.ending
      site.ending reads site.reads).0

  pub past_at : (left : Remaining) (past : IsPast files count left)
      → (past.earlier ≡ site.before) × (left.statements ≡ site.s ∷ site.after)
  past_at left past =
      cut_same past.earlier left.statements site.before (site.s ∷ site.after)
      (whole_reading (λ r. past.earlier) (λ r. r.statements) left past.reads)
      (past.counted ∙ sym site.counted)

  past_next : (n : ℕ) (left : Remaining) (past : IsPast files n left) → n < count
      → (s : PlainStatement) × (rest : List PlainStatement) × (more : List PlainStatement)
      × (left.statements ≡ s ∷ rest) × (site.before ≡ past.earlier ++ s ∷ more)
  past_next n left past lt =
      cut_before past.earlier left.statements site.before (site.s ∷ site.after)
      (whole_reading (λ r. past.earlier) (λ r. r.statements) left past.reads)
      (let e = past.counted in let f = site.counted in omega arith)

  -- a statement is left
  pub site_left : (left : Remaining) → IsPast files count left → ¬ (left.statements ≡ [])
  site_left left past none = absurd (let e = sym none ∙ (past_at left past).1 in cc)

-- the first so many are those before the site
pub taken_at : {files : List PlainFile} {count : ℕ} (site : Site files count)
    → take count (site.before ++ site.s ∷ site.after) ≡ site.before
taken_at {files} {count} site = take_at site.before (site.s ∷ site.after) count site.counted

-- ---- what the progress has of them

-- what was read by the progress
abbrev pub past_read : (files : List PlainFile) (p : Progress) (left : Remaining) → IsRead files p left
    → IsPast files p.count left
past_read files p left read =
    record { earlier = read.earlier; reads = read.reads; counted = sym read.taken.count }

-- the next statement before the site breaks no rule of meaning
pub meant_next : (files : List PlainFile) (count : ℕ) (site : Site files count) (p : Progress)
    (left : Remaining) → AllMeant (sentences site.before) → IsRead files p left → p.count < count
    → IsMeantNext p.prover.book.statements left
meant_next files count site p left meant read lt =
    let (s, rest, more, is, split) = past_next site p.count left (past_read files p left read) lt in
    let said : sentences site.before ≡ sentences read.earlier ++ sentence_of s ∷ sentences more =
    ap sentences split ∙ map-append sentence_of read.earlier (s ∷ more) in (
      s,
      rest,
      is,
      subst (λ (ss : List Sentence). IsMeant ss (sentence_of s)) (sym read.taken.book)
          (meant (sentences read.earlier) (sentences more) (sentence_of s) said),
    )

-- it is taken
pub read_more : (files : List PlainFile) (p q : Progress) (old new : Remaining)
    (s : PlainStatement) (taken : Taken) → IsRead files p old → TakesNext old true s new
    → TakesAs p s taken q → IsRead files q new
read_more files p q old new s taken read next takes = record {
  earlier = read.earlier ++ s ∷ [];
  readable = read.readable;
  reads = rw (append_assoc read.earlier (s ∷ []) new.statements)
      (rw (next.0, sym (ap (λ (r : Remaining). r.ending) next.1)) at read.reads);
  taken = taken_more read.earlier s p q read.taken takes.statements takes.bytes takes.count
      (omega (arith, takes.proofs));
  lines = takes.lines ∙ read.lines;
}

-- before the first
pub read_none : (files : List PlainFile) (p : Progress) (left : Remaining) → IsUnread files left
    → CanBeRead files → HasTaken [] p → p.lines ≡ files → IsRead files p left
read_none files p left unread readable taken lines = record {
  earlier = [];
  readable = readable;
  reads = unread.reads;
  taken = taken;
  lines = lines;
}

-- what was read by the progress, which counts so many
pub past_counted : (files : List PlainFile) (n : ℕ) (p : Progress) (left : Remaining)
    (read : IsRead files p left) → p.count ≡ n → IsPast files n left
past_counted files n p left read is = subst (λ (k : ℕ). IsPast files k left) is (past_read files p left read)

-- where it has all before the site, the next statement is that of the site
pub site_read : (files : List PlainFile) (count : ℕ) (site : Site files count) (p : Progress)
    (left rest : Remaining) (s : PlainStatement) → IsRead files p left → p.count ≡ count
    → TakesNext left true s rest
    → (p.prover.book.statements ≡ sentences site.before) × (s ≡ site.s)
site_read files count site p left rest s read is next =
    let past : IsPast files count left =
    record { earlier = read.earlier; reads = read.reads; counted = sym read.taken.count ∙ is } in
    let (front, back) = past_at site left past in
    (read.taken.book ∙ ap sentences front, let e = sym next.0 ∙ back in cc)
