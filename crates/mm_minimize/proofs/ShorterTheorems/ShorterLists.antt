-- The list of shorter proofs: line by line, with the sums over the lines.
use Rattle.std.proofs.Common.{◌≡◌, ℕ, ◌+◌, ◌<◌, ◌≤◌, List, [], ◌∷◌, ◌++◌, length}
use Rattle.std.specs.Prelude.{IfSome, MatchOption}
use Rattle.std.proofs.Common.{true, is_some, codes, Option, Some, None, min, map, Contains, inl, inr, refl, sym, ap}
use Rattle.std.proofs.Common.{subst, ◌∙◌, arith, append_assoc, append-nil, length-append}
use Rattle.std.specs.List.{AllByRecursion, flat_map, sum_by}
use Rattle.std.proofs.lemmas.List.{map-append}
use Rattle.std.proofs.lemmas.Grind.{flat_map-append}
use Rattle.std.proofs.lemmas.List.Sums.{sum_by-append, sum_by-cons}
use Rattle.mm_base.specs.Statement.{PlainStatement, HasForm}
use Rattle.mm_text.specs.Reading.{Reads}
use Rattle.mm_base.specs.declared.statement.Kind.TheVariants.{Provable}
use Rattle.mm_base.proofs.Lists.{all_at, all_push, at_from_contains}
use Rattle.mm_base.proofs.Lists.{all_within}
use Rattle.mm_frame.specs.Numbers.{labelled_sentences}
use Rattle.mm_frame.specs.Sentence.{Sentence, sentence_of, IsLabelled}
use Rattle.mm_minimize.specs.declared.proof_pair.Compared.{Compared}
use Rattle.mm_minimize.specs.declared.shorter_list.Listing.{Listing}
use Rattle.mm_minimize.specs.declared.sizes.Sizes.{Sizes}
use Rattle.mm_minimize.specs.declared.shorter_list.Sums.{Sums}
use Rattle.mm_minimize.specs.AllShorter.{AreShorterLines, ProofSize, ShorterLine, most_sum}
use Rattle.mm_minimize.specs.AllShorter.{shorter_line_text, shorter_lines_text, shorter_text, sum_of}
use Rattle.mm_minimize.specs.AllShorter.{mark_text, sizes_text, sums_text}
use Rattle.mm_rules.specs.Answer.{KeepsLabels, labels_at}
use Rattle.mm_rules.specs.Conclusion.{Conclusion, labels_in}
use Rattle.mm_rules.specs.Rests.{AreRising, Uses}
use Rattle.mm_rules.specs.Verdict.{is_proof}
use Rattle.mm_minimize.specs.Mirror.AllShortening.{AddsSizes, AreSums, IsAllListed, IsLineIn}
use Rattle.mm_minimize.specs.Mirror.AllShortening.{IsListedSoFar, IsShorterFor, ListsLine, ListsNext}
use Rattle.mm_minimize.specs.Mirror.AllShortening.{MayBeListed, PutsLine, line_of, plain_size}
use Rattle.mm_verdict.specs.Mirror.Rereading.{label_count}
use Rattle.mm_minimize.specs.Mirror.Shortening.{AreNewlyUsed}
use Rattle.mm_frame.proofs.Names.NameNumbers.{get_unmapped}
use Rattle.mm_rules.proofs.Numbers.{count_labelled, in_order_same, rising_push}
use Rattle.mm_verdict.proofs.Questions.AskedTheorems.{all_among}
use Rattle.mm_minimize.proofs.ShorterTheorems.ShorterProofs.{used_within}
use Rattle.mm_verdict.proofs.Questions.TheoremsAgain.{labels_joined, labels_more, said_label}
use Rattle.mm_verdict.proofs.FileBytes.StatementsInFiles.{provable_proof}
use Rattle.mm_save.proofs.Saving.WrittenFiles.{label_there}
use Rattle.mm_rules.proofs.Judgements.JudgedProofs.{labelled_said}
use Rattle.mm_verdict.proofs.Verdicts.StatementByStatement.{labels_said}

-- ---- sums

-- a sum of sizes that is told, with one more
sum_more : (size : ShorterLine → ℕ) (lines : List ShorterLine) (line : ShorterLine) (old now : ℕ)
    → old ≡ min most_sum (sum_by size lines) → now ≡ min most_sum (old + size line)
    → now ≡ min most_sum (sum_by size (lines ++ line ∷ []))
sum_more size lines line old now was is =
    let one : sum_by size (line ∷ []) ≡ size line = sum_one size line in
    omega (arith, was, is, one, sum_by-append size lines (line ∷ []))
  where
    sum_one : (f : ShorterLine → ℕ) (l : ShorterLine) → sum_by f (l ∷ []) ≡ f l
    sum_one f l = omega (arith, sum_by-cons f l [])

size_more : (size : ShorterLine → ProofSize) (lines : List ShorterLine) (line : ShorterLine)
    (old now : ProofSize) → old ≡ sum_of size lines
    → now.bytes ≡ min most_sum (old.bytes + (size line).bytes)
    → now.steps ≡ min most_sum (old.steps + (size line).steps)
    → now ≡ sum_of size (lines ++ line ∷ [])
size_more size lines line old now was bytes steps =
    let b = sum_more (λ l. (size l).bytes) lines line old.bytes now.bytes
    (ap (λ (p : ProofSize). p.bytes) was) bytes in
    let s = sum_more (λ l. (size l).steps) lines line old.steps now.steps
    (ap (λ (p : ProofSize). p.steps) was) steps in
    λ i. record { bytes = b i; steps = s i }

pub sums_more : (lines : List ShorterLine) (line : ShorterLine) (old now : Sums)
    → AreSums lines old → AddsSizes old line.own line.new now → AreSums (lines ++ line ∷ []) now
sums_more lines line old now sums adds = record {
  proofs = omega (arith, sums.proofs, adds.proofs, length-append lines (line ∷ []));
  own = size_more (λ l. l.own) lines line _ _ sums.own adds.own_bytes adds.own_steps;
  new = size_more (λ l. l.new) lines line _ _ sums.new adds.new_bytes adds.new_steps;
}

-- the sizes are those of the proofs
pub sizes_added : (old now : Sums) (a b : Sizes) (own new : ProofSize) → a.bytes ≡ own.bytes
    → a.steps ≡ own.steps → b.bytes ≡ new.bytes → b.steps ≡ new.steps
    → AddsSizes old (plain_size a) (plain_size b) now → AddsSizes old own new now
sizes_added old now a b own new own_bytes own_steps new_bytes new_steps adds = record {
  proofs = adds.proofs;
  own_bytes = adds.own_bytes ∙ ap (λ (n : ℕ). min most_sum (old.own.bytes + n)) own_bytes;
  own_steps = adds.own_steps ∙ ap (λ (n : ℕ). min most_sum (old.own.steps + n)) own_steps;
  new_bytes = adds.new_bytes ∙ ap (λ (n : ℕ). min most_sum (old.new.bytes + n)) new_bytes;
  new_steps = adds.new_steps ∙ ap (λ (n : ℕ). min most_sum (old.new.steps + n)) new_steps;
}

-- ---- a line

-- it is put word by word
pub line_text : (labels : List (List ℕ)) (label : List ℕ) (both : Compared) (newly : List ℕ)
    (out o₁ o₂ o₃ o₄ o₅ : List ℕ) → o₁ ≡ out ++ mark_text both.new.is_duplicate → o₂ ≡ o₁ ++ label
    → o₃ ≡ o₂ ++ sizes_text (line_of label both newly).own (line_of label both newly).new
    → o₄ ≡ o₃ ++ flat_map (λ (l : List ℕ). codes " " ++ ([] ++ l)) (labels_at labels newly)
    → o₅ ≡ o₄ ++ 10 ∷ [] → o₅ ≡ out ++ shorter_line_text labels (line_of label both newly)
line_text labels label both newly out o₁ o₂ o₃ o₄ o₅ h₁ h₂ h₃ h₄ h₅ =
    rw (h₅, h₄, h₃, h₂, h₁) (simp append_assoc)

-- a shorter proof has a line
pub line_holds : (c : Conclusion) (id : ℕ) (s : PlainStatement) (both : Compared) (label newly : List ℕ)
    → IsShorterFor c id s both → IsLabelled label (sentence_of s)
    → AreNewlyUsed c.files both.new.theorem.id.0 both.new.used newly
    → IsLineIn c (line_of label both newly)
line_holds c id s both label newly h named are_new statements reads =
    let f = h.found label named statements reads in
    let number : both.new.theorem.id.0 ≡ f.shorter.id = h.number ∙ sym (f.number ∙ h.same) in
    let order = are_new statements reads in
    record {
      own = both.own.text.items;
      is_own = h.own_text label named statements reads;
      t = f.t;
      text = both.new.proof.text.items;
      shorter = f.shorter;
      number = number;
      own_bytes = refl;
      own_steps = f.own_steps;
      new_bytes = refl;
      new_steps = f.new_steps;
      newly = in_order_same _ _ newly order (λ n. (
        (λ (among, new). (
          (f.used.each n).0 among,
          λ uses.
              new (subst (λ (m : ℕ). Uses statements m n) (sym number) uses),
        )),
        (λ (stands, new). (
          (f.used.each n).1 stands,
          λ uses.
              new (subst (λ (m : ℕ). Uses statements m n) number uses),
        )),
      ));
      alone = f.alone;
    }

-- what it uses has labels
pub may_be_listed : (c : Conclusion) (id : ℕ) (s : PlainStatement) (both : Compared)
    (statements : List PlainStatement) → Reads c.files statements None → HasForm s
    → is_proof s ≡ true → KeepsLabels c.files c → IsShorterFor c id s both → MayBeListed c both
may_be_listed c id s both statements reads formed complete labels h =
    let (label, named) = label_there s formed (provable_proof s complete) in
    let f = h.found label named statements reads in
    let same : c.labels ≡ labels_in c.sentences =
    labels statements None reads ∙ sym (labels_said statements)
    ∙ ap labels_in (sym (h.told statements reads)) in
    let count : length (labelled_sentences c.sentences) ≡ length c.labels =
    count_labelled (λ (t : Sentence). t.label) c.sentences ∙ ap length (sym same) in
    record {
      statements = statements;
      reads = reads;
      rising = f.used.rising;
      in_range = all_within (λ n. n < length c.labels) both.new.used (λ n among.
          let within = used_within c.profile c.sentences id both.new.theorem.steps both.new.used
          h.handed n among in omega (arith, within, count));
    }

-- so have those that it newly uses
pub newly_in_range : (c : Conclusion) (both : Compared) (newly : List ℕ) → MayBeListed c both
    → AreNewlyUsed c.files both.new.theorem.id.0 both.new.used newly
    → AllByRecursion (λ n. n < length c.labels) newly
newly_in_range c both newly may are_new =
    let order = are_new may.statements may.reads in
    all_within (λ n. n < length c.labels) newly (λ n among.
    all_among (λ n. n < length c.labels) both.new.used n may.in_range ((order.each n).0 among).0)

-- so a line is listed where one is put
pub listed_line : (c : Conclusion) (id : ℕ) (s : PlainStatement) (label : List ℕ)
    (both : Compared) (old new : Listing) → IsShorterFor c id s both
    → IsLabelled label (sentence_of s) → PutsLine c label both old new → ListsLine c id old new
listed_line c id s label both old new h named put = record {
  line = line_of label both put.newly;
  number = h.number;
  holds = line_holds c id s both label put.newly h named put.are_new;
  text = put.put;
  sums = put.sums;
}

-- what was found may be listed, and is
pub may_list_found : (c : Conclusion) (id : ℕ) (s : PlainStatement)
    (statements : List PlainStatement) (found : Option Compared) → Reads c.files statements None
    → HasForm s → is_proof s ≡ true → KeepsLabels c.files c → IfSome found (IsShorterFor c id s)
    → IfSome found (MayBeListed c)
may_list_found c id s statements None reads formed complete labels h = tt
may_list_found c id s statements (Some both) reads formed complete labels h =
    may_be_listed c id s both statements reads formed complete labels h

pub lists_found : (c : Conclusion) (id : ℕ) (s : PlainStatement) (label : List ℕ)
    (found : Option Compared) (old new : Listing) → IfSome found (IsShorterFor c id s)
    → IsLabelled label (sentence_of s)
    → MatchOption found (new ≡ old) (λ both. PutsLine c label both old new)
    → ListsNext c id old new
lists_found c id s label None old new h named same = inr same
lists_found c id s label (Some both) old new h named put =
    inl (listed_line c id s label both old new h named put)

-- ---- the lines so far

below_more : (lines : List ShorterLine) (n m : ℕ) → n ≤ m → AllByRecursion (λ l. l.id < n) lines
    → AllByRecursion (λ l. l.id < m) lines
below_more [] n m less below = tt
below_more (line ∷ lines) n m less below =
    let here = below.0 in (omega arith, below_more lines n m less below.1)

below_ids : (lines : List ShorterLine) (n k : ℕ) → AllByRecursion (λ l. l.id < n) lines
    → Contains (map (λ (l : ShorterLine). l.id) lines) k → k < n
below_ids lines n k below among =
    let at = at_from_contains (map (λ (l : ShorterLine). l.id) lines) k among in
    let (line, there, is) = get_unmapped (λ (l : ShorterLine). l.id) lines at.0 k at.1 in
    let less = all_at (λ (l : ShorterLine). l.id < n) lines at.0 line below there in
    omega (arith, less, is)

-- other statements
pub listed_past : (c : Conclusion) (taken more : List PlainStatement) (list : Listing)
    → IsListedSoFar c taken list → IsListedSoFar c (taken ++ more) list
listed_past c taken more list so_far =
    let count = labels_joined taken more in
    record {
      lines = so_far.lines;
      rising = so_far.rising;
      each = so_far.each;
      below = below_more so_far.lines (label_count taken) (label_count (taken ++ more))
          (omega (arith, count)) so_far.below;
      few = omega (arith, count, so_far.few);
      text = so_far.text;
      sums = so_far.sums;
    }

-- a theorem
pub listed_on : (c : Conclusion) (before : List PlainStatement) (s : PlainStatement) (id : ℕ)
    (old new : Listing) → HasForm s → is_proof s ≡ true → id ≡ label_count before
    → IsListedSoFar c before old → ListsNext c id old new
    → IsListedSoFar c (before ++ s ∷ []) new
listed_on c before s id old new formed complete number so_far (inr same) =
    rw same (listed_past c before (s ∷ []) old so_far)
listed_on c before s id old new formed complete number so_far (inl next) =
    let lines : List ShorterLine = so_far.lines in
    let line : ShorterLine = next.line in
    let labelled = label_some s formed (provable_proof s complete) in
    let count = labels_more before s true labelled in
    let here = next.number in
    let more : List ShorterLine = lines ++ line ∷ [] in
    record {
      lines = more;
      rising = subst AreRising (sym (map-append (λ (l : ShorterLine). l.id) lines (line ∷ [])))
          (rising_push (map (λ (l : ShorterLine). l.id) lines) line.id so_far.rising (λ n among.
          let less = below_ids lines (label_count before) n so_far.below among in
          omega (arith, less, here, number)));
      each = all_push (IsLineIn c) lines line so_far.each next.holds;
      below = all_push (λ (l : ShorterLine). l.id < label_count (before ++ s ∷ [])) lines line
          (below_more lines (label_count before) (label_count (before ++ s ∷ []))
          (omega (arith, count)) so_far.below) (omega (arith, count, here, number));
      few = omega (arith, count, so_far.few, length-append lines (line ∷ []));
      text = next.text
          ∙ ap (λ (t : List ℕ). t ++ shorter_line_text c.labels line) so_far.text
          ∙ sym (lines_text_more c.labels lines line);
      sums = sums_more lines line old.sums new.sums so_far.sums next.sums;
    }
  where
    label_some : (t : PlainStatement) → HasForm t → t.kind ≡ Provable → is_some t.label ≡ true
    label_some t form provable =
        sym (said_label t.label) ∙ labelled_said t.kind t.label form.label provable

    lines_text_more : (labels : List (List ℕ)) (ls : List ShorterLine) (l : ShorterLine)
        → shorter_lines_text labels (ls ++ l ∷ [])
        ≡ shorter_lines_text labels ls ++ shorter_line_text labels l
    lines_text_more labels ls l =
        flat_map-append (shorter_line_text labels) ls (l ∷ [])
        ∙ ap (λ (t : List ℕ). shorter_lines_text labels ls ++ t)
        (append-nil (shorter_line_text labels l))

-- ---- all of them

pub list_told : (c : Conclusion) (list : Listing) (text : List ℕ) → KeepsLabels c.files c
    → IsAllListed c list
    → ((lines : List ShorterLine) → AreSums lines list.sums
    → text ≡ list.text.items ++ sums_text lines)
    → (statements : List PlainStatement) → Reads c.files statements None
    → (lines : List ShorterLine) × AreShorterLines c.profile c.files statements lines
    × (text ≡ shorter_text statements lines)
list_told c list text labels all told statements reads =
    let so_far = all.so_far in
    let lines : List ShorterLine = so_far.lines in
    let put : text ≡ shorter_lines_text c.labels lines ++ sums_text lines =
    told lines so_far.sums ∙ ap (λ (t : List ℕ). t ++ sums_text lines) so_far.text in (
      lines,
      record {
        rising = so_far.rising;
        each = λ line at there. all_at (IsLineIn c) lines at line so_far.each there statements
            reads;
      },
      put ∙ ap (λ (ls : List (List ℕ)). shorter_lines_text ls lines ++ sums_text lines)
          (labels statements None reads),
    )
