-- What comments say of statements, read one after the other, and the mathboxes in which they stand.
use Rattle.std.proofs.Common.{◌≡◌, ℕ, zero, suc, ◌+◌, ◌<◌, ◌≤◌, List, [], ◌∷◌, ◌++◌, length, map}
use Rattle.std.proofs.Common.{take, slice_get, Option, Some, None, true, false, is_some, refl, sym, ap}
use Rattle.std.proofs.Common.{subst, ◌∙◌, inl, inr, arith, length-append, append_assoc, append-nil, set}
use Rattle.std.specs.Prelude.{option_map, unwrap_or, Bool}
use Rattle.std.proofs.Common.{cond, get_or, ◌↔◌}
use Rattle.std.proofs.lemmas.Option.{same_Some, slice_get-get_or}
use Rattle.std.specs.List.{AllByRecursion}
use Rattle.std.proofs.lemmas.List.{length-drop, length-map, length-set, map-append}
use Rattle.std.proofs.Common.{drop, length-take}
use Rattle.std.proofs.lemmas.Option.{slice_get_within}
use Rattle.mm_base.specs.declared.file.File.{File}
use Rattle.mm_base.specs.Statement.{PlainStatement, HasForm}
use Rattle.mm_base.specs.declared.token.Token.{Token}
use Rattle.mm_base.specs.Token.{PlainToken, plain_token}
use Rattle.mm_text.proofs.Reader.WholeReadings.{readings_are_formed_in_place}
use Rattle.std.proofs.lemmas.Slice.{between_is}
use Rattle.mm_text.specs.Files.{PlainFile, plain_file}
use Rattle.mm_text.specs.Reading.{PlainFault, Reads, IsInPlace}
use Rattle.mm_text.specs.Remaining.{ReadsOn, Remaining}
use Rattle.mm_text.specs.Remarks.{headings, is_heading, mathbox_at, IsSaidBefore}
use Rattle.mm_base.proofs.Lists.{all_at, get_before, get_parted, get_pushed, get_set_cases}
use Rattle.mm_base.proofs.Lists.{one_there, pushed_cases}
use Rattle.mm_text.proofs.SaidBefore.{headings-zero}
use Rattle.mm_frame.proofs.Names.LabelNumbers.{labelled_pass, labelled_push, numbered_fall, numbered_last}
use Rattle.mm_frame.proofs.Names.LabelNumbers.{numbered_within}
use Rattle.mm_frame.specs.Numbers.{labelled_sentences, IsNumbered}
use Rattle.mm_frame.specs.Sentence.{Sentence, sentence_of}
use Rattle.mm_minimize.specs.declared.remarks.Passed.{Passed}
use Rattle.mm_minimize.specs.declared.remarks.Remark.{Remark}
use Rattle.mm_rules.specs.Conclusion.{Conclusion}
use Rattle.mm_rules.specs.Rests.{IsAt}
use Rattle.mm_render.specs.Shorter.{home_bytes, proof_mark, usage_mark}
use Rattle.mm_rules.specs.Verdict.{sentences}
use Rattle.mm_rules.specs.Mirror.Marks.{IsKeptFrom}
use Rattle.mm_minimize.specs.Remarks.{AreRemarks, AreRemarksOf, IsRemarkOf}
use Rattle.mm_minimize.specs.Mirror.Shortening.{ArePassed, IsPassed}

-- ---- mathboxes

one_more : (heading : Bool) (n count : ℕ) → n ≤ count → cond heading 1 0 + n ≤ suc count
one_more true n count few = omega arith
one_more false n count few = omega arith

-- there are no more headings than bytes
pub headings_few : (count : ℕ) (bytes : List ℕ) → headings count bytes ≤ count
unfolding headings
headings_few zero bytes = omega arith
headings_few (suc count) [] = omega arith
headings_few (suc count) (b ∷ bytes) =
    one_more (is_heading (b ∷ bytes)) (headings count bytes) count (headings_few count bytes)

-- the bytes of the file with a number are those of the statements that begin in it
pub bytes_home : (files : List PlainFile) (s : PlainStatement) (f : PlainFile)
    → slice_get files s.first.file ≡ Some f → f.bytes ≡ home_bytes files s
bytes_home files s f there =
    sym (ap (λ (o : Option PlainFile). unwrap_or (option_map (λ (g : PlainFile). g.bytes) o) []) there)

-- the file with a number is there, and has these bytes
file_at : (files : List File) (n : ℕ) (d : File) (file : PlainFile)
    → slice_get (map plain_file files) n ≡ Some file
    → (n < length files) × ((get_or files n d).bytes.now ≡ file.bytes)
file_at [] n d file there = absurd cc
file_at (f ∷ files) zero d file there =
    (omega arith, ap (λ (g : PlainFile). g.bytes) (same_Some (plain_file f) file there))
file_at (f ∷ files) (suc n) d file there =
    let rest = file_at files n d file there in
    let less = rest.0 in
    (omega arith, rest.1)

pub within_file : (files : List File) (n at : ℕ) (d : File) (file : PlainFile)
    → slice_get (map plain_file files) n ≡ Some file → at < length file.bytes
    → at ≤ length (get_or files n d).bytes.now
within_file files n at d file there less =
    let bytes = ap (λ (bs : List ℕ). length bs) (file_at files n d file there).1 in omega arith

pub home_is : (files : List File) (s : PlainStatement) (d : File) (file : PlainFile)
    → slice_get (map plain_file files) s.first.file ≡ Some file
    → (get_or files s.first.file d).bytes.now ≡ home_bytes (map plain_file files) s
home_is files s d file there =
    (file_at files s.first.file d file there).1 ∙ bytes_home (map plain_file files) s file there

-- what is said in the bytes of the file is said before the statement
pub said_home : (r : Bool) (sentence bytes home : List ℕ) (at : ℕ) → bytes ≡ home
    → (r ≡ true) ↔ IsSaidBefore sentence bytes at → (r ≡ true) ↔ IsSaidBefore sentence home at
said_home r sentence bytes home at same =
    subst (λ (bs : List ℕ). (r ≡ true) ↔ IsSaidBefore sentence bs at) same

-- what is said of a statement in the file where it stands
pub remark_said : (files : List File) (s : PlainStatement) (d : File) (file : PlainFile)
    (mathbox : ℕ) (discouraged settled : Bool)
    → slice_get (map plain_file files) s.first.file ≡ Some file
    → mathbox ≡ mathbox_at (get_or files s.first.file d).bytes.now s.first.at
    → (discouraged ≡ true) ↔ IsSaidBefore usage_mark (get_or files s.first.file d).bytes.now s.first.at
    → (settled ≡ true) ↔ IsSaidBefore proof_mark (get_or files s.first.file d).bytes.now s.first.at
    → IsRemarkOf (map plain_file files) s (record { file = s.first.file; mathbox = mathbox; is_discouraged = discouraged; is_settled = settled })
remark_said files s d file mathbox discouraged settled there is marked kept =
    let home = home_is files s d file there in
    record {
      file = refl;
      mathbox = is ∙ ap (λ (bs : List ℕ). mathbox_at bs s.first.at) home;
      discouraged = said_home discouraged usage_mark _ _ s.first.at home marked;
      settled = said_home settled proof_mark _ _ s.first.at home kept;
    }

-- ---- positions that were passed

-- it begins in one of the files, before that one's end
pub begins_within : (files : List PlainFile) (statements : List PlainStatement)
    (ending : Option PlainFault) (index : ℕ) (s : PlainStatement)
    → Reads files statements ending → slice_get statements index ≡ Some s
    → (file : PlainFile) × (slice_get files s.first.file ≡ Some file)
    × (s.first.at < length file.bytes)
begins_within files statements ending index s reads there =
    let all = readings_are_formed_in_place files statements ending reads in
    let form = all_at HasForm statements index s all.formed there in
    let place = all_at (IsInPlace files) statements index s all.in_place there in
    let (file, found, slice) = place.first in
    let stop = s.first.at + length s.first.text in
    let cut : drop s.first.at (take stop file.bytes) ≡ s.first.text =
    sym (between_is file.bytes s.first.at stop) ∙ slice in
    let some = form.first in
    let count : length (drop s.first.at (take stop file.bytes)) ≡ length s.first.text = ap length cut in
    (file, found, omega (arith, length-drop s.first.at (take stop file.bytes), length-take stop file.bytes))

-- the beginning of each file
pub passed_none : (files : List PlainFile) (passed : List Passed) → length passed ≡ length files
    → AllByRecursion (λ (p : Passed). (p.at ≡ 0) × (p.mathbox ≡ 0)) passed
    → ArePassed files passed
passed_none files passed count begin = record {
  count = count;
  each = λ n f p file place.
      let both = all_at (λ (q : Passed). (q.at ≡ 0) × (q.mathbox ≡ 0)) passed n p begin place in
      let at : p.at ≡ 0 = both.0 in
      record {
        within = omega arith;
        mathbox = both.1 ∙ sym (ap (λ (k : ℕ). mathbox_at f.bytes k) at ∙ headings-zero f.bytes);
      };
}

-- a later position in one of them
pub passed_set : (files : List PlainFile) (passed : List Passed) (n : ℕ) (f : PlainFile) (p : Passed)
    → ArePassed files passed → slice_get files n ≡ Some f → IsPassed f.bytes p
    → ArePassed files (set passed n p)
passed_set files passed n f p h there here = record {
  count = length-set passed n p ∙ h.count;
  each = λ m g q file place. elim (get_set_cases passed n m p q place) [
    | inl (same, is) ↦
        let one : f ≡ g = one_there files n f g there (subst (λ (k : ℕ). slice_get files k ≡ Some g) same file) in
        subst (λ (q : Passed). IsPassed g.bytes q) is
        (subst (λ (g : PlainFile). IsPassed g.bytes p) one here)
    | inr (apart, old) ↦ h.each m g q file old
  ];
}

pub passed_there : (files : List File) (passed : List Passed) (n : ℕ) (file : PlainFile)
    → slice_get (map plain_file files) n ≡ Some file → ArePassed (map plain_file files) passed
    → n < length passed
passed_there files passed n file there h =
    let within = slice_get_within (map plain_file files) n file there in
    let count = h.count in omega arith

pub passed_at : (files : List File) (passed : List Passed) (n : ℕ) (d : File) (e : Passed)
    (file : PlainFile) → slice_get (map plain_file files) n ≡ Some file
    → ArePassed (map plain_file files) passed → IsPassed (get_or files n d).bytes.now (get_or passed n e)
passed_at files passed n d e file there h =
    subst (λ (bs : List ℕ). IsPassed bs (get_or passed n e)) (sym (file_at files n d file there).1)
    (h.each n file (get_or passed n e) there
    (slice_get-get_or passed n e (passed_there files passed n file there h)))

pub passed_now : (files : List File) (passed : List Passed) (n at mathbox : ℕ) (d : File)
    (file : PlainFile) → slice_get (map plain_file files) n ≡ Some file → at < length file.bytes
    → mathbox ≡ mathbox_at (get_or files n d).bytes.now at → ArePassed (map plain_file files) passed
    → ArePassed (map plain_file files) (set passed n (record { at = at; mathbox = mathbox }))
passed_now files passed n at mathbox d file there less is h =
    passed_set (map plain_file files) passed n file (record { at = at; mathbox = mathbox }) h there
    (record {
      within = omega arith;
      mathbox = is ∙ ap (λ (bs : List ℕ). mathbox_at bs at) (file_at files n d file there).1;
    })

-- ---- one statement after the other

-- the label of a statement as it was read
pub label_kept : (o : Option Token) → is_some (option_map (λ (t : PlainToken). t.text) (option_map plain_token o)) ≡ is_some o
label_kept None = refl
label_kept (Some token) = refl

-- an earlier statement keeps its number
earlier : (seen : List PlainStatement) (s : PlainStatement) (n index : ℕ) (t : PlainStatement)
    → slice_get seen index ≡ Some t → IsAt (seen ++ s ∷ []) n index t
    → IsNumbered (sentences seen) n index (sentence_of t)
earlier seen s n index t before at =
    let less = slice_get_within seen index t before in
    numbered_fall (sentences seen) (sentence_of s ∷ []) n index (sentence_of t)
    (omega (arith, less, length-map seen sentence_of))
    (subst (λ (ss : List Sentence). IsNumbered ss n index (sentence_of t))
    (map-append sentence_of seen (s ∷ [])) at.numbered)

-- the last one has the next number
last_number : (seen : List PlainStatement) (s : PlainStatement) (n index : ℕ) (t : PlainStatement)
    → is_some (sentence_of s).label ≡ true → index ≡ length seen
    → IsAt (seen ++ s ∷ []) n index t → n ≡ length (labelled_sentences (sentences seen))
last_number seen s n index t labelled last at =
    let all : List Sentence = sentences seen ++ sentence_of s ∷ [] in
    let place : index ≡ length (sentences seen) = last ∙ sym (length-map seen sentence_of) in
    let here : IsNumbered all n index (sentence_of t) =
    subst (λ (ss : List Sentence). IsNumbered ss n index (sentence_of t))
    (map-append sentence_of seen (s ∷ [])) at.numbered in
    sym here.number ∙ ap (λ (k : ℕ). length (labelled_sentences (take k all))) place
    ∙ (numbered_last (sentences seen) (sentence_of s) labelled).number

-- one more labelled statement
pub remarks_more : (files : List PlainFile) (seen : List PlainStatement) (s : PlainStatement)
    (remarks : List Remark) (r : Remark) → AreRemarksOf files seen remarks
    → is_some (sentence_of s).label ≡ true → IsRemarkOf files s r
    → AreRemarksOf files (seen ++ s ∷ []) (remarks ++ r ∷ [])
remarks_more files seen s remarks r h labelled said =
    let more : labelled_sentences (sentences (seen ++ s ∷ []))
    ≡ labelled_sentences (sentences seen) ++ sentence_of s ∷ [] =
    ap labelled_sentences (map-append sentence_of seen (s ∷ []))
    ∙ labelled_push (sentences seen) (sentence_of s) labelled in
    record {
      count = length-append remarks (r ∷ []) ∙ ap (λ (n : ℕ). n + 1) h.count
          ∙ sym (ap (λ (ss : List Sentence). length ss) more
          ∙ length-append (labelled_sentences (sentences seen)) (sentence_of s ∷ []));
      each = λ n index t q at place. elim (pushed_cases seen s index t at.there) [
        | inl before ↦
            let numbered = earlier seen s n index t before at in
            let less = numbered_within (sentences seen) n index (sentence_of t) numbered in
            let count = h.count in
            let old = get_before remarks (r ∷ []) n q (omega arith) place in
            h.each n index t q (record { there = before; numbered = numbered }) old
        | inr (last, same) ↦
            let number : n ≡ length remarks = last_number seen s n index t labelled last at ∙ sym h.count in
            let one : r ≡ q =
            one_there (remarks ++ r ∷ []) n r q
            (subst (λ (k : ℕ). slice_get (remarks ++ r ∷ []) k ≡ Some r) (sym number) (get_pushed remarks r))
            place in
            subst (λ (u : Remark). IsRemarkOf files t u) one
            (subst (λ (u : PlainStatement). IsRemarkOf files u r) same said)
      ];
    }

-- one more that has no label
pub remarks_same : (files : List PlainFile) (seen : List PlainStatement) (s : PlainStatement)
    (remarks : List Remark) → AreRemarksOf files seen remarks
    → is_some (sentence_of s).label ≡ false → AreRemarksOf files (seen ++ s ∷ []) remarks
remarks_same files seen s remarks h unlabelled =
    let same : labelled_sentences (sentences (seen ++ s ∷ [])) ≡ labelled_sentences (sentences seen) =
    ap labelled_sentences (map-append sentence_of seen (s ∷ []))
    ∙ labelled_pass (sentences seen) (sentence_of s) unlabelled in
    record {
      count = h.count ∙ sym (ap (λ (ss : List Sentence). length ss) same);
      each = λ n index t q at place. elim (pushed_cases seen s index t at.there) [
        | inl before ↦
            h.each n index t q (record { there = before; numbered = earlier seen s n index t before at }) place
        | inr (last, is) ↦
            absurd (let named = at.numbered.named in
            let other : is_some (sentence_of t).label ≡ false = subst (λ (u : PlainStatement). is_some (sentence_of u).label ≡ false) is unlabelled in cc)
      ];
    }

-- The statements were read up to those that are left: what is said of them is known, and a position
-- in each file was passed.
pub record IsReadTo (files : List PlainFile) (all : List PlainStatement) (left : Remaining)
    (passed : List Passed) (remarks : List Remark) : Type 0 where
  pub faultless : left.ending ≡ None
  pub seen : List PlainStatement
  pub whole : all ≡ seen ++ left.statements
  pub places : ArePassed files passed
  pub told : AreRemarksOf files seen remarks

pub read_none : (files : List PlainFile) (left : Remaining) (passed : List Passed)
    (remarks : List Remark) → left.ending ≡ None → ArePassed files passed → remarks ≡ []
    → IsReadTo files left.statements left passed remarks
read_none files left passed remarks faultless places none = record {
  faultless = faultless;
  seen = [];
  whole = refl;
  places = places;
  told = rw none (record { count = refl; each = λ n index s r at place. absurd (let there = at.there in cc) });
}

-- where the next statement begins
pub next_begins : (files : List PlainFile) (all : List PlainStatement) (left new : Remaining)
    (passed : List Passed) (remarks : List Remark) (s : PlainStatement) → Reads files all None
    → IsReadTo files all left passed remarks → ReadsOn left true s new
    → (file : PlainFile) × (slice_get files s.first.file ≡ Some file)
    × (s.first.at < length file.bytes)
next_begins files all left new passed remarks s reads h taken =
    let whole : all ≡ h.seen ++ s ∷ new.statements =
    h.whole ∙ ap (λ (ss : List PlainStatement). h.seen ++ ss) taken.0 in
    begins_within files all None (length h.seen) s reads
    (subst (λ (ss : List PlainStatement). slice_get ss (length h.seen) ≡ Some s) (sym whole)
    (get_parted h.seen new.statements s))

pub read_more : (files : List PlainFile) (all : List PlainStatement) (left new : Remaining)
    (passed passed' : List Passed) (remarks remarks' : List Remark) (s : PlainStatement) (r : Remark)
    → IsReadTo files all left passed remarks → ReadsOn left true s new
    → is_some (sentence_of s).label ≡ true → IsRemarkOf files s r → ArePassed files passed'
    → remarks' ≡ remarks ++ r ∷ [] → IsReadTo files all new passed' remarks'
read_more files all left new passed passed' remarks remarks' s r h taken labelled said places is = record {
  faultless = ap (λ (r : Remaining). r.ending) taken.1 ∙ h.faultless;
  seen = h.seen ++ s ∷ [];
  whole = h.whole ∙ ap (λ (ss : List PlainStatement). h.seen ++ ss) taken.0
      ∙ sym (append_assoc h.seen (s ∷ []) new.statements);
  places = places;
  told = rw is (remarks_more files h.seen s remarks r h.told labelled said);
}

pub read_over : (files : List PlainFile) (all : List PlainStatement) (left new : Remaining)
    (passed : List Passed) (remarks : List Remark) (s : PlainStatement)
    → IsReadTo files all left passed remarks → ReadsOn left true s new
    → is_some (sentence_of s).label ≡ false → IsReadTo files all new passed remarks
read_over files all left new passed remarks s h taken unlabelled = record {
  faultless = ap (λ (r : Remaining). r.ending) taken.1 ∙ h.faultless;
  seen = h.seen ++ s ∷ [];
  whole = h.whole ∙ ap (λ (ss : List PlainStatement). h.seen ++ ss) taken.0
      ∙ sym (append_assoc h.seen (s ∷ []) new.statements);
  places = h.places;
  told = remarks_same files h.seen s remarks h.told unlabelled;
}

pub read_all : (files : List PlainFile) (all : List PlainStatement) (left new : Remaining)
    (passed : List Passed) (remarks : List Remark) (s : PlainStatement)
    → IsReadTo files all left passed remarks → ReadsOn left false s new
    → AreRemarksOf files all remarks
read_all files all left new passed remarks s h taken =
    subst (λ (ss : List PlainStatement). AreRemarksOf files ss remarks)
    (sym (h.whole ∙ ap (λ (ss : List PlainStatement). h.seen ++ ss) taken.0 ∙ append-nil h.seen)) h.told

-- ---- what a database has of them

-- there are as many as labelled statements
pub remarks_count : (c : Conclusion) (remarks : List Remark)
    → IsKeptFrom c.profile c.files c.sentences c.incomplete c.uses → AreRemarks c.files remarks
    → length remarks ≡ length (labelled_sentences c.sentences)
remarks_count c remarks origin said =
    (said origin.statements origin.accepted.reads).count
    ∙ sym (ap (λ (ss : List Sentence). length (labelled_sentences ss)) origin.sentences)
