-- A walk through two readings, from its beginning to its end.
use Rattle.std.proofs.Common.{◌≡◌, ℕ, ◌+◌, ◌<◌, List, [], ◌∷◌, ◌++◌, length, Bool, true, false}
use Rattle.std.proofs.Common.{refl, sym, ap, subst, ◌∙◌, append_assoc, append-nil, arith, is_some}
use Rattle.std.proofs.Common.{cond, None, Some, slice_get, if◌then◌else◌}
use Rattle.mm_base.specs.Statement.{PlainStatement, HasForm}
use Rattle.mm_base.proofs.Lists.{get_parted}
use Rattle.mm_frame.specs.Sentence.{Sentence}
use Rattle.mm_text.specs.Files.{PlainFile}
use Rattle.mm_text.specs.Reading.{Reads}
use Rattle.mm_text.specs.Remaining.{IsUnread, Remaining}
use Rattle.mm_rules.specs.Conclusion.{Conclusion}
use Rattle.mm_rules.specs.Verdict.{sentences}
use Rattle.mm_verdict.specs.Mirror.Rereading.{label_count}
use Rattle.mm_verdict.proofs.Questions.TheoremsAgain.{labels_few, labels_joined, labels_more}
use Rattle.mm_verdict.proofs.Verdicts.AcceptedStatements.{KeptWell, proof_fits, same_reading}
use Rattle.mm_with_lemmas.specs.declared.lemma.Place.{Place}
use Rattle.mm_with_lemmas.specs.declared.lemma.Stage.TheVariants.{Outside}
use Rattle.mm_with_lemmas.specs.declared.walk.Walk.{Walk}
use Rattle.mm_with_lemmas.specs.Mirror.Walking.{AreParts, GoesOver, IsBegunWalk, IsNext, IsOnWalk}
use Rattle.mm_with_lemmas.specs.Mirror.Walking.{IsToldReading, IsWalked, IsWalkedAll, count_with}
use Rattle.mm_with_lemmas.proofs.WalkedParts.{walked_all, walked_none}

-- ---- the reading

count_same : (b : Bool) (n : ℕ) → (if b then 1 else 0) + n ≡ cond b 1 0 + n
count_same true n = refl
count_same false n = refl

-- so many labelled ones with one more
pub count_on : (taken : List PlainStatement) (s : PlainStatement)
    → count_with (label_count taken) s ≡ label_count (taken ++ s ∷ [])
count_on taken s =
    let more = labels_more taken s (is_some s.label) refl in
    let same = count_same (is_some s.label) 0 in
    omega (arith, more, same)

module _ (told : List Sentence) (all : List PlainStatement) (reading : IsToldReading told all) where
  -- the next statement
  pub next_told : (taken rest : List PlainStatement) (s : PlainStatement) (labelled : ℕ)
      → all ≡ taken ++ s ∷ rest → labelled ≡ label_count taken → HasForm s
      → IsNext told labelled taken s
  next_told taken rest s labelled whole count formed = record {
    after = rest;
    same = reading.same ∙ ap sentences whole;
    number = count;
    formed = formed;
    room = proof_fits reading.files all reading.ending (length taken) s reading.readable
        reading.reads
        (subst (λ (ss : List PlainStatement). slice_get ss (length taken) ≡ Some s) (sym whole)
        (get_parted taken rest s));
  }

  -- it can be counted
  pub few_with : (taken rest : List PlainStatement) (s : PlainStatement) (labelled : ℕ)
      → all ≡ taken ++ s ∷ rest → labelled ≡ label_count taken
      → count_with labelled s < 4294967295
  few_with taken rest s labelled whole count =
      let few = reading.few in
      let same : label_count all ≡ label_count (taken ++ s ∷ []) + label_count rest =
      ap label_count (whole ∙ sym (append_assoc taken (s ∷ []) rest))
      ∙ labels_joined (taken ++ s ∷ []) rest in
      let more = count_on taken s in
      let here : count_with labelled s ≡ count_with (label_count taken) s =
      ap (λ (n : ℕ). count_with n s) count in
      omega (arith, few, same, more, here)

-- ---- the walk

module _ (files anew : List PlainFile) (statements put all : List PlainStatement) where
  pub on_begun : (left : Remaining) (walk : Walk) → left.statements ≡ statements
      → IsBegunWalk left walk → IsOnWalk files anew statements put all all walk
  on_begun left walk same begun = record {
    taken = [];
    whole = refl;
    count = begun.labelled;
    walked = subst (λ (at : Place). IsWalked files anew statements put [] walk.left.statements at)
        (sym begun.place)
        (subst (λ (ls : List PlainStatement). IsWalked files anew statements put [] ls
        (record { put = 0; depth = 0; stage = Outside }))
        (sym (ap (λ (r : Remaining). r.statements) begun.left ∙ same))
        (walked_none files anew statements put));
  }

  -- over one more statement
  pub on_next : (told : List Sentence) (s : PlainStatement) (before rest : List PlainStatement)
      (old over new : Walk) → IsToldReading told all → HasForm s → before ≡ s ∷ rest
      → IsOnWalk files anew statements put all before old
      → GoesOver files anew told put old.labelled old.left.statements old.place s
      over.left.statements over.place
      → over.labelled ≡ old.labelled → new.labelled ≡ count_with over.labelled s
      → new.left ≡ over.left → new.place ≡ over.place
      → IsOnWalk files anew statements put all rest new
  on_next told s before rest old over new reading formed read h goes same count left place =
      let whole : all ≡ h.taken ++ s ∷ rest =
      h.whole ∙ ap (λ (ss : List PlainStatement). h.taken ++ ss) read in
      let next = next_told told all reading h.taken rest s old.labelled whole h.count formed in
      let walked = goes statements h.taken next h.walked in
      record {
        taken = h.taken ++ s ∷ [];
        whole = whole ∙ sym (append_assoc h.taken (s ∷ []) rest);
        count = count ∙ ap (λ (n : ℕ). count_with n s) (same ∙ h.count) ∙ count_on h.taken s;
        walked = subst (λ (at : Place). IsWalked files anew statements put (h.taken ++ s ∷ [])
            new.left.statements at) (sym place)
            (subst (λ (r : Remaining). IsWalked files anew statements put (h.taken ++ s ∷ [])
            r.statements over.place) (sym left) walked);
      }

  -- the end
  pub on_end : (walk : Walk) (rest : List PlainStatement)
      → IsOnWalk files anew statements put all rest walk → rest ≡ []
      → IsWalkedAll put walk.left.statements walk.place → AreParts files anew statements all put
  on_end walk rest h none end =
      let same : h.taken ≡ all =
      sym (h.whole ∙ ap (λ (ss : List PlainStatement). h.taken ++ ss) none ∙ append-nil h.taken) in
      subst (λ (ss : List PlainStatement). AreParts files anew statements ss put) same
      (walked_all files anew statements put h.taken walk.place
      (subst (λ (ls : List PlainStatement). IsWalked files anew statements put h.taken ls
      walk.place)
      end.none h.walked) end.outside end.all)

-- ---- of checked files

-- what is left of them at first
pub told_reading : (c : Conclusion) (left : Remaining) → KeptWell c → IsUnread c.files left
    → IsToldReading c.sentences left.statements
told_reading c left well unread =
    let same = (same_reading c.files left.statements well.origin.statements left.ending None
    unread.reads well.origin.accepted.reads).0 in
    record {
      files = c.files;
      ending = left.ending;
      readable = well.origin.accepted.readable;
      reads = unread.reads;
      same = well.origin.sentences ∙ ap sentences (sym same);
      few = labels_few c left well unread;
    }

-- their parts, as they are read
pub parts_read : (c d : Conclusion) (left more : Remaining) (put : List PlainStatement)
    → IsUnread c.files left → IsUnread d.files more
    → AreParts c.files d.files left.statements more.statements put
    → (statements others : List PlainStatement) → Reads c.files statements None
    → Reads d.files others None → AreParts c.files d.files statements others put
parts_read c d left more put unread unread_too h statements others reads reads_too =
    subst (λ (ss : List PlainStatement). AreParts c.files d.files ss others put)
    (same_reading c.files left.statements statements left.ending None unread.reads reads).0
    (subst (λ (ss : List PlainStatement). AreParts c.files d.files left.statements ss put)
    (same_reading d.files more.statements others more.ending None unread_too.reads reads_too).0 h)
