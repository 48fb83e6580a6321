-- Statements that are accepted: what the next one may ask of the progress, that they are the same
-- where the files are read again, and what is kept of them at the end.
use Rattle.std.proofs.Common.{◌≡◌, suc, ◌+◌, ◌<◌, ◌≤◌, List, [], ◌∷◌, ◌++◌, take, length, sum_by}
use Rattle.std.proofs.Common.{count_by, Bool, true, cond, inl, inr, refl, sym, ap, subst, ◌∙◌}
use Rattle.std.proofs.Common.{arith, length-append, ℕ, zero, map, drop, slice_get, not, Option}
use Rattle.std.proofs.Common.{Some, None, Result, Ok, Err, IsErrAnd}
use Rattle.std.proofs.lemmas.Bool.{cases_lt}
use Rattle.std.proofs.lemmas.List.Sums.{sum_by-append, sum_by-cons}
use Rattle.mm_text.specs.declared.fault.LoadRule.TheVariants.{F1, F2, F3}
use Rattle.mm_base.specs.declared.statement.Kind.{Kind}
use Rattle.mm_base.specs.declared.statement.Kind.TheVariants.{Closing}
use Rattle.mm_base.specs.Statement.{PlainStatement, bytes_in}
use Rattle.mm_base.specs.MostBytes.{most_bytes}
use Rattle.mm_text.specs.Files.{PlainFile, total_bytes}
use Rattle.mm_text.specs.Remaining.{Remaining}
use Rattle.mm_text.proofs.Reader.WholeReadings.{readings_are_balanced, readings_fit, readings_few}
use Rattle.mm_text.proofs.Reader.WholeReadings.{each_has_one_reading}
use Rattle.mm_frame.specs.Sentence.{Sentence, sentence_of, IsLabelled}
use Rattle.mm_frame.proofs.Blocks.NumberedBlocks.{count_append}
use Rattle.mm_rules.specs.declared.progress.Progress.{Progress}
use Rattle.mm_rules.specs.Verdict.{CanBeRead, sentences, AllObey, AreAccepted, proof_of, is_proof}
use Rattle.mm_rules.specs.Verdict.{Verdict, HasVerdict, labels_of, unproved_of, proofs_of}
use Rattle.mm_verdict.specs.Mirror.Judged.{IsRead, TakesNext, IsAtEnd}
use Rattle.mm_rules.proofs.Numbers.{count_by-one, names_at, numbers_within}
use Rattle.mm_base.specs.Token.{PlainToken}
use Rattle.mm_text.specs.Reading.{PlainFault, Reads}
use Rattle.mm_base.proofs.Lists.{split_at}
use Rattle.mm_frame.specs.Rules.{AllMeant}
use Rattle.mm_frame.proofs.Rules.ObeyedRules.{one_label}
use Rattle.mm_frame.proofs.Names.NameNumbers.{get_mapped}
use Rattle.mm_step.specs.declared.profile.Profile.{Profile}
use Rattle.mm_rules.specs.Conclusion.{Conclusion, labels_in}
use Rattle.mm_rules.specs.Answer.{IsKeptOf, verdict_of_fault, verdict_of_conclusion}
use Rattle.mm_rules.specs.Answer.{verdict_where_incomplete, labels_at, IsVerdict, KeepsLabels}
use Rattle.mm_rules.specs.Answer.{KeepsCounts, KeepsUses}
use Rattle.mm_rules.specs.Mirror.Marks.{IsKeptFrom, IsKeptWell}
use Rattle.mm_rules.specs.Rests.{IsAt, IsNamed}
use Rattle.mm_step.specs.Moves.{Move}
use Rattle.mm_proof.specs.Tokens.{is_incomplete, SayMoves}
use Rattle.mm_step.specs.Steps.{IsProofNumber}
use Rattle.mm_rules.specs.Shown.{Stands}
use Rattle.mm_verdict.specs.Mirror.Theorems.{IsStillLeft, IsProofOf, SayStepsOf, AreStepsOf}
use Rattle.mm_verdict.proofs.Questions.AskedTheorems.{map-take, backward}
use Rattle.mm_verdict.proofs.Verdicts.StatementByStatement.{provable_kind, proof_not_unproved}
use Rattle.mm_rules.proofs.Judgements.CompleteProofs.{unproved_there}
use Rattle.mm_verdict.proofs.Verdicts.StatementByStatement.{ids, labels_said}
use Rattle.mm_verdict.proofs.Verdicts.StatementByStatement.{names_of_ids}
use Rattle.mm_rules.specs.declared.fault.CheckFault.{CheckFault}
use Rattle.mm_base.specs.Blocks as text
use Rattle.mm_frame.specs.Active as frame

-- ==== what the next statement may ask of the progress: a block to close, and room

-- ## The limit

pub within_limit : (files : List PlainFile) → CanBeRead files → total_bytes files ≤ most_bytes
within_limit files readable = elim (cases_lt most_bytes (total_bytes files)) [
  | inl more ↦ absurd (readable F3 (readable F1, (λ twins. readable F2 (readable F1, twins)), more))
  | inr less ↦ less
]

-- ## Blocks

-- what is counted by the kind is counted alike without where they lie in memory
pub counted_alike : (p : Kind → Bool) (statements : List PlainStatement)
    → count_by (λ (s : Sentence). p s.kind) (sentences statements) ≡ count_by (λ (s : PlainStatement). p s.kind) statements
counted_alike p [] = refl
counted_alike p (s ∷ statements) =
    let rest = counted_alike p statements in
    omega (
      arith,
      rest,
      sum_by-cons (λ (t : Sentence). cond (p t.kind) 1 0) (sentence_of s) (sentences statements),
      sum_by-cons (λ (t : PlainStatement). cond (p t.kind) 1 0) s statements,
    )

take_next : {X : Type 0} (xs : List X) (x : X) (ys : List X) → take (suc (length xs)) (xs ++ x ∷ ys) ≡ xs ++ x ∷ []
take_next [] x ys = refl
take_next {X} (z ∷ xs) x ys = ap (λ (zs : List X). z ∷ zs) (take_next xs x ys)

-- a `$}` that is next has a block to close
pub closes : (files : List PlainFile) (p : Progress) (old new : Remaining) (s : PlainStatement) → IsRead files p old → TakesNext old true s new
    → s.kind ≡ Closing → frame.close_marks p.prover.book.statements < frame.open_marks p.prover.book.statements
closes files p old new s way taken closing =
    let earlier : List PlainStatement = way.earlier in
    let whole : earlier ++ old.statements ≡ earlier ++ s ∷ new.statements = ap (λ (ss : List PlainStatement). earlier ++ ss) taken.0 in
    let balanced : text.AreBalanced (earlier ++ s ∷ new.statements) =
    subst text.AreBalanced whole (readings_are_balanced files (earlier ++ old.statements) old.ending way.reads) in
    let here : text.closings (earlier ++ s ∷ []) ≤ text.openings (earlier ++ s ∷ []) =
    subst (λ (ss : List PlainStatement). text.closings ss ≤ text.openings ss) (take_next earlier s new.statements) (balanced (suc (length earlier))) in
    let one : text.closings (s ∷ []) ≡ 1 =
    count_by-one (λ (t : PlainStatement). text.is_closing t.kind) s ∙ ap (λ (k : Kind). cond (text.is_closing k) 1 0) closing in
    let none : text.openings (s ∷ []) ≡ 0 =
    count_by-one (λ (t : PlainStatement). text.is_opening t.kind) s ∙ ap (λ (k : Kind). cond (text.is_opening k) 1 0) closing in
    let more : text.closings (earlier ++ s ∷ []) ≡ text.closings earlier + text.closings (s ∷ []) =
    count_append (λ (t : PlainStatement). text.is_closing t.kind) earlier (s ∷ []) in
    let same : text.openings (earlier ++ s ∷ []) ≡ text.openings earlier + text.openings (s ∷ []) =
    count_append (λ (t : PlainStatement). text.is_opening t.kind) earlier (s ∷ []) in
    let less : text.closings earlier < text.openings earlier = omega (arith, here, one, none, more, same) in
    let closed : frame.close_marks (sentences earlier) ≡ text.closings earlier = counted_alike text.is_closing earlier in
    let opened : frame.open_marks (sentences earlier) ≡ text.openings earlier = counted_alike text.is_opening earlier in
    let plain : frame.close_marks (sentences earlier) < frame.open_marks (sentences earlier) = omega (arith, less, closed, opened) in
    subst (λ (ss : List Sentence). frame.close_marks ss < frame.open_marks ss) (sym way.taken.book) plain

-- ## Room

-- the next statement's bytes have room
pub has_room : (files : List PlainFile) (p : Progress) (old new : Remaining) (s : PlainStatement) → IsRead files p old → TakesNext old true s new
    → p.prover.book.bytes + bytes_in s ≤ most_bytes
has_room files p old new s way taken =
    let earlier : List PlainStatement = way.earlier in
    let whole : earlier ++ old.statements ≡ earlier ++ s ∷ new.statements = ap (λ (ss : List PlainStatement). earlier ++ ss) taken.0 in
    let fits : sum_by bytes_in (earlier ++ s ∷ new.statements) ≤ total_bytes files =
    subst (λ (ss : List PlainStatement). sum_by bytes_in ss ≤ total_bytes files) whole (readings_fit files (earlier ++ old.statements) old.ending way.reads) in
    omega (arith, fits, way.taken.bytes, within_limit files way.readable, sum_by-append bytes_in earlier (s ∷ new.statements), sum_by-cons bytes_in s new.statements)

-- the statements so far are few
pub few : (files : List PlainFile) (p : Progress) (left : Remaining) (way : IsRead files p left) → length way.earlier ≤ most_bytes
few files p left way =
    omega (arith, readings_few files (way.earlier ++ left.statements) left.ending way.reads, length-append way.earlier left.statements, within_limit files way.readable)

-- ==== statements of the files, read again, are those that were judged

-- ---- up to a statement with a label

stands_later : (s : PlainStatement) (statements : List PlainStatement) (label : List ℕ) (t : PlainStatement) → ¬ (IsLabelled label (sentence_of s)) → Stands (s ∷ statements) label t → Stands statements label t
stands_later s statements label t other (zero, there, named) =
    let same : s ≡ t = cc in absurd (other (subst (λ (u : PlainStatement). IsLabelled label (sentence_of u)) (sym same) named))
stands_later s statements label t other (suc index, there, named) = (index, there, named)

pub sought_on : (label : List ℕ) (first old new : Remaining) (s : PlainStatement) → IsStillLeft label first old → TakesNext old true s new → ¬ (IsLabelled label (sentence_of s)) → IsStillLeft label first new
sought_on label first old new s sought taken other =
    let here = rw taken.0 at sought.some.1 in
    record {
      faultless = ap (λ (r : Remaining). r.ending) taken.1 ∙ sought.faultless;
      some = (sought.some.0, stands_later s new.statements label sought.some.0 other here);
      within = λ t h. sought.within t (subst (λ (ss : List PlainStatement). Stands ss label t) (sym taken.0) (suc h.0, h.1, h.2));
    }

pub sought_found : (label : List ℕ) (first old new : Remaining) (s : PlainStatement) → IsStillLeft label first old → TakesNext old true s new → IsLabelled label (sentence_of s) → Stands first.statements label s
sought_found label first old new s sought taken named =
    sought.within s (subst (λ (ss : List PlainStatement). Stands ss label s) (sym taken.0) (0, refl, named))

-- ---- the reading is one

pub same_reading : (files : List PlainFile) (a b : List PlainStatement) (c d : Option PlainFault) → Reads files a c → Reads files b d → (a ≡ b) × (c ≡ d)
same_reading files a b c d one other =
    let x = (each_has_one_reading files).only a c one in
    let y = (each_has_one_reading files).only b d other in
    (x.0 ∙ sym y.0, x.1 ∙ sym y.1)

-- ---- the theorem

-- what is kept is kept well
abbrev pub KeptWell : Conclusion → Type 0
KeptWell c = IsKeptWell c.profile c.files c.sentences c.incomplete c.uses

-- the statements of the files, of which this is kept
pub record AreOf (c : Conclusion) (statements : List PlainStatement) : Type 0 where
  pub accepted : AreAccepted c.profile c.files statements
  pub kept : IsKeptOf statements c

pub own_statements : (c : Conclusion) (o : IsKeptFrom c.profile c.files c.sentences c.incomplete c.uses) → AreOf c o.statements
own_statements c o =
    record { accepted = o.accepted; kept = record { sentences = o.sentences; incomplete = o.incomplete; uses = o.uses } }

pub read_statements : (c : Conclusion) (statements : List PlainStatement) → IsKeptFrom c.profile c.files c.sentences c.incomplete c.uses → Reads c.files statements None → AreOf c statements
read_statements c statements o reads =
    subst (λ (ss : List PlainStatement). AreOf c ss) (same_reading c.files o.statements statements None None o.accepted.reads reads).0 (own_statements c o)

pub said_there : (statements : List PlainStatement) (index : ℕ) (s : PlainStatement) → slice_get statements index ≡ Some s → slice_get (sentences statements) index ≡ Some (sentence_of s)
said_there statements index s e = get_mapped sentence_of statements index s e

-- one statement has the label
pub one_stands : (statements : List PlainStatement) (label : List ℕ) (index : ℕ) (s t : PlainStatement) → AllMeant (sentences statements)
    → slice_get statements index ≡ Some s → IsLabelled label (sentence_of s) → Stands statements label t → t ≡ s
one_stands statements label index s t all there named (other, at, labelled) =
    let same : other ≡ index =
    one_label (sentences statements) label other index (sentence_of t) (sentence_of s) all (said_there statements other t at) (said_there statements index s there) labelled named in
    cc (same, at, there)

-- the proof of a theorem that obeys the rules
pub proof_stands : (profile : Profile) (statements : List PlainStatement) (id index : ℕ) (s : PlainStatement) → AllObey profile statements → IsAt statements id index s → is_proof s ≡ true
    → IsProofOf profile (sentences statements) id (proof_of s)
proof_stands profile statements id index s obeyed at complete =
    let parted : statements ≡ take index statements ++ s ∷ drop (suc index) statements = split_at statements index s at.there in
    let proved =
    (obeyed (take index statements) (drop (suc index) statements) s parted).proved complete in
    let provable = provable_kind s.kind (not (is_incomplete (proof_of s))) complete in
    record {
      index = index;
      s = sentence_of s;
      number = record { numbered = at.numbered; provable = provable };
      complete = λ h. cc (proof_not_unproved s complete, unproved_there s provable h);
      proved = rw map-take at proved;
    }

-- ---- room for its tokens

texts_bytes : (tokens : List PlainToken) → sum_by length (map (λ (t : PlainToken). t.text) tokens) ≡ sum_by (λ (t : PlainToken). length t.text) tokens
texts_bytes [] = refl
texts_bytes (t ∷ tokens) = omega (arith, texts_bytes tokens, sum_by-cons (length {A = ℕ}) t.text (map (λ (u : PlainToken). u.text) tokens), sum_by-cons (λ (u : PlainToken). length u.text) t tokens)

bytes_within : (statements : List PlainStatement) (index : ℕ) (s : PlainStatement) → slice_get statements index ≡ Some s → bytes_in s ≤ sum_by bytes_in statements
bytes_within [] index s e = absurd cc
bytes_within (t ∷ statements) zero s e = let same : t ≡ s = cc in omega (arith, ap bytes_in same, sum_by-cons bytes_in t statements)
bytes_within (t ∷ statements) (suc index) s e = omega (arith, bytes_within statements index s e, sum_by-cons bytes_in t statements)

pub proof_fits : (files : List PlainFile) (statements : List PlainStatement)
    (ending : Option PlainFault) (index : ℕ) (s : PlainStatement) → CanBeRead files
    → Reads files statements ending → slice_get statements index ≡ Some s
    → sum_by length (proof_of s) ≤ most_bytes
proof_fits files statements ending index s readable reads there =
    let room = readings_fit files statements ending reads in
    let most = within_limit files readable in
    omega (arith, texts_bytes s.proof, bytes_within statements index s there, room, most)

-- ---- what is shown

-- what stands under the theorem's label is the theorem
found_again : (statements : List PlainStatement) (label : List ℕ) (id : ℕ) (t : PlainStatement) → AllMeant (sentences statements)
    → (named : IsNamed statements label (λ s. is_proof s ≡ true) id) → Stands statements label t → t ≡ named.1
found_again statements label id t all (index, s, at, both) stands = one_stands statements label index s t all at.there both.0 stands

-- its tokens are its proof
pub shown_proof : (c : Conclusion) (statements : List PlainStatement) (label : List ℕ) (id : ℕ) (t : PlainStatement) → AreOf c statements → AllMeant c.sentences
    → IsNamed statements label (λ s. is_proof s ≡ true) id → Stands statements label t → IsProofOf c.profile c.sentences id (proof_of t)
shown_proof c statements label id t of all named stands =
    let meant = rw of.kept.sentences at all in
    rw (of.kept.sentences, found_again statements label id t meant named stands)
    (proof_stands c.profile statements id named.0 named.1 of.accepted.obeyed named.2 named.3.1)

-- the steps that its tokens say are those of the theorem
pub theorem_steps : (c : Conclusion) (statements : List PlainStatement) (label : List ℕ) (id : ℕ) (t : PlainStatement) (steps : List (Move ℕ)) → AreOf c statements → AllMeant c.sentences
    → IsNamed statements label (λ s. is_proof s ≡ true) id → Stands statements label t → SayStepsOf c.sentences id (proof_of t) steps → AreStepsOf statements label id steps
theorem_steps c statements label id t steps of all named stands said =
    let meant : AllMeant (sentences statements) = subst AllMeant of.kept.sentences all in
    let s : PlainStatement = named.1 in
    let same : t ≡ s = found_again statements label id t meant named stands in
    let here = rw (of.kept.sentences, same) at said in
    let number : IsProofNumber (sentences statements) id named.0 (sentence_of s) =
    record { numbered = named.2.numbered; provable = provable_kind s.kind (not (is_incomplete (proof_of s))) named.3.1 } in
    let told = here named.0 (sentence_of s) number in
    record {
      index = named.0;
      s = s;
      there = named.2.there;
      named = named.3.0;
      complete = named.3.1;
      number = number;
      moves = told.0;
      told = subst (λ (ss : List Sentence). SayMoves ss (sentence_of s) (proof_of s) told.0) (sym (map-take named.0 statements)) told.1;
      numbered = told.2;
    }

-- ==== what is kept of the progress at its end tells the verdict

-- a fault that is passed on tells the verdict that it told
pub passed_on : (profile : Profile) (files : List PlainFile) (answer : Result Conclusion CheckFault) (fault : CheckFault) → IsErrAnd answer (λ e. e ≡ fault)
    → ((v : Verdict) → verdict_of_fault fault ≡ Some v → HasVerdict profile files v) → IsVerdict profile files answer
passed_on profile files (Ok c) fault same holds v e = absurd same
passed_on profile files (Err other) fault same holds v e = holds v (ap verdict_of_fault (sym same) ∙ e)

-- what is kept of the progress
pub record Concludes (p : Progress) (c : Conclusion) : Type 0 where
  pub statements : c.statements ≡ p.count
  pub proofs : c.proofs ≡ p.proofs
  pub incomplete : c.incomplete ≡ ids p.incomplete.items
  pub labels : c.labels ≡ labels_in p.prover.book.statements
  pub sentences : c.sentences ≡ p.prover.book.statements
  pub uses : c.uses ≡ p.kept

-- numbers that name these proofs tell yes where there are none, else these proofs
concluded_as : (profile : Profile) (files : List PlainFile) (c : Conclusion) (statements : List PlainStatement) (numbers : List ℕ) (unproved : List (List ℕ))
    → AreAccepted profile files statements → unproved ≡ unproved_of statements → map (slice_get c.labels) numbers ≡ map Some unproved
    → c.statements ≡ length statements → c.proofs ≡ proofs_of statements
    → HasVerdict profile files (verdict_where_incomplete c numbers)
concluded_as profile files c statements [] [] accepted same named count proofs = (statements, accepted, sym same, count, proofs)
concluded_as profile files c statements (n ∷ numbers) (u ∷ unproved) accepted same named count proofs =
    let told : labels_at c.labels (n ∷ numbers) ≡ u ∷ unproved = names_at c.labels (n ∷ numbers) (u ∷ unproved) named in
    (statements, accepted, told ∙ same, λ e. cc (told, e))
concluded_as profile files c statements _ _ accepted same named count proofs = absurd cc

module _ {profile : Profile} {files : List PlainFile} {p : Progress}
    (end : IsAtEnd profile files p) where
  -- the numbers of the incomplete proofs name these
  named : map (slice_get (labels_of end.statements)) (ids p.incomplete.items)
      ≡ map Some (unproved_of end.statements)
  named =
      sym (names_of_ids (labels_of end.statements) p.incomplete.items) ∙ end.known.incomplete

  own_reading : (statements : List PlainStatement) (ending : Option PlainFault)
      → Reads files statements ending → end.statements ≡ statements
  own_reading statements ending reads =
      (same_reading files end.statements statements None ending end.accepted.reads reads).0

  module _ {c : Conclusion} (kept : Concludes p c) where
    own_labels : c.labels ≡ labels_of end.statements
    own_labels = kept.labels ∙ ap labels_in end.taken.book ∙ labels_said end.statements

    -- what is kept of a database that is read to its end tells its verdict
    pub end_concludes : HasVerdict profile files (verdict_of_conclusion c)
    end_concludes =
        let names : map (slice_get c.labels) c.incomplete ≡ map Some (unproved_of end.statements) =
        rw (kept.incomplete, own_labels) named in
        concluded_as profile files c end.statements c.incomplete (unproved_of end.statements)
        end.accepted refl names (kept.statements ∙ end.taken.count)
        (kept.proofs ∙ end.known.proofs)

    pub labels_kept : KeepsLabels files c
    labels_kept statements ending reads =
        own_labels ∙ ap labels_of (own_reading statements ending reads)

    pub counts_kept : KeepsCounts files c
    counts_kept statements ending reads =
        let same = own_reading statements ending reads in (
          kept.statements ∙ end.taken.count ∙ ap length same,
          kept.proofs ∙ end.known.proofs ∙ ap proofs_of same,
        )

    pub uses_kept : KeepsUses files c
    uses_kept statements ending reads =
        rw (← own_reading statements ending reads) (record {
          sentences = kept.sentences ∙ end.taken.book;
          incomplete = rw kept.incomplete end.known.noted;
          uses = rw kept.uses end.known.kept;
        })

  -- what is kept at the end
  pub kept_well : IsKeptWell profile files p.prover.book.statements (ids p.incomplete.items) p.kept
  kept_well = record {
    in_range = rw (ap labels_in end.taken.book ∙ labels_said end.statements)
        (numbers_within (labels_of end.statements) (ids p.incomplete.items)
        (unproved_of end.statements) named);
    rising = end.known.noted.rising;
    backward = backward end.statements p.kept end.known.kept;
    origin = record {
      statements = end.statements;
      accepted = end.accepted;
      sentences = end.taken.book;
      incomplete = end.known.noted;
      uses = end.known.kept;
    };
  }
