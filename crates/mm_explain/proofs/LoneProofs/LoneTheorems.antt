-- The way to the theorem with a label: statement after statement, none of which has the label.
use Rattle.std.proofs.Common.{◌≡◌, ℕ, List, [], ◌∷◌, ◌++◌, length, true, Option, Some}
use Rattle.std.proofs.Common.{inl, inr, refl, sym, ap, subst, ◌∙◌, arith, append_assoc}
use Rattle.std.proofs.Common.{take, ◌-◌, ◌<◌, ◌≤◌, ◌^◌, sum_by}
use Rattle.std.proofs.lemmas.List.{map-append, length-append, length-map}
use Rattle.mm_base.specs.declared.statement.Kind.{Kind}
use Rattle.mm_base.specs.declared.statement.Kind.TheVariants as kinds
use Rattle.mm_text.specs.Files.{PlainFile}
use Rattle.mm_base.specs.MostBytes.{most_bytes}
use Rattle.mm_text.specs.Reading.{PlainFault, Reads}
use Rattle.mm_text.specs.Remaining.{Remaining, IsUnread}
use Rattle.mm_base.specs.Statement.{PlainStatement, plain_statement, HasForm}
use Rattle.mm_base.proofs.Lists.{get_parted, pushed_cases}
use Rattle.mm_text.proofs.Reader.WholeReadings.{readings_few}
use Rattle.mm_frame.specs.declared.answer.Taken.{Taken}
use Rattle.mm_frame.specs.declared.answer.Taken.TheVariants.{Assertion}
use Rattle.mm_frame.specs.declared.number.LabelId.{LabelId}
use Rattle.mm_frame.specs.Rules.{FirstBroken, IsMeant, AllMeant}
use Rattle.mm_frame.specs.Sentence.{Sentence, sentence_of, IsLabelled}
use Rattle.mm_frame.specs.Taken.{TakenAs, next_id}
use Rattle.mm_proof.specs.Parsed.{OfProof}
use Rattle.mm_step.specs.Steps.{IsProofNumber}
use Rattle.mm_rules.specs.declared.fault.CheckFault.{CheckFault}
use Rattle.mm_rules.specs.declared.fault.CheckFault.TheVariants as check
use Rattle.mm_rules.specs.declared.fault.Refusal.{Refusal}
use Rattle.mm_rules.specs.declared.fault.Stop.{Stop}
use Rattle.mm_rules.specs.declared.fault.Stop.TheVariants as stop
use Rattle.mm_rules.specs.declared.progress.Progress.{Progress}
use Rattle.mm_explain.specs.declared.read_to.Reached.{Reached}
use Rattle.mm_explain.specs.declared.read_to.Unreached.TheVariants.{Check}
use Rattle.mm_rules.specs.declared.rule.Rule.TheVariants as rules
use Rattle.mm_verdict.specs.Alone.{LackLabel, IsReadPast, IsRefusedBefore}
use Rattle.mm_rules.specs.Answer.{plain_refusal}
use Rattle.mm_verdict.specs.Faults.{IsMeaningRefusal}
use Rattle.mm_verdict.specs.Mirror.Judged.{HasTaken, StopsTurn, TakesNext, RefusesLoad}
use Rattle.mm_rules.specs.Mirror.Judged.{fault_of}
use Rattle.mm_explain.specs.Mirror.Reached.{HasReached, IsFound, IsSeeking, IsUnreached, StopsBefore}
use Rattle.mm_verdict.specs.Mirror.Taking.{TakesAs}
use Rattle.mm_rules.specs.Verdict.{CanBeRead, proof_of, refusal_of, sentences}
use Rattle.mm_verdict.proofs.Verdicts.AcceptedStatements.{proof_fits, within_limit}
use Rattle.mm_verdict.proofs.Verdicts.FaultLists.{meant_more, none_meant}
use Rattle.mm_rules.proofs.Judgements.JudgedProofs.{last_number, prefix_of}
use Rattle.mm_verdict.proofs.Verdicts.StatementByStatement.{taken_more}

-- ---- labels

-- one more statement lacks the label
lack_more : (label : List ℕ) (before : List PlainStatement) (s : PlainStatement)
    → LackLabel label before → ¬ (IsLabelled label (sentence_of s))
    → LackLabel label (before ++ s ∷ [])
lack_more label before s lack other some =
    let (index, t, there, named) = rw (map-append sentence_of before (s ∷ [])) at some in
    elim (pushed_cases (sentences before) (sentence_of s) index t there) [
      | inl earlier ↦ lack (index, t, earlier, named)
      | inr last ↦ other (subst (IsLabelled label) (sym last.1) named)
    ]

none_lacks : (label : List ℕ) → LackLabel label []
none_lacks label (index, t, there, named) = absurd cc

-- ---- the way

-- before the first statement
pub seeks_first : (files : List PlainFile) (label : List ℕ) (p : Progress) (left : Remaining)
    → IsUnread files left → CanBeRead files → HasTaken [] p → p.lines ≡ files
    → IsSeeking files label p left
seeks_first files label p left unread readable taken lines = record {
  read = record {
    earlier = [];
    readable = readable;
    reads = unread.reads;
    taken = taken;
    lines = lines;
  };
  lack = none_lacks label;
  meant = none_meant;
}

module _ (files : List PlainFile) (label : List ℕ) (p : Progress) (old : Remaining)
    (way : IsSeeking files label p old) where
  abbrev earlier : List PlainStatement
  earlier = way.read.earlier

  -- a statement is taken
  module _ (q : Progress) (s : PlainStatement) (new : Remaining) (next : TakesNext old true s new)
      (taken : Taken) (takes : TakesAs p s taken q) where
    next_reads : Reads files (earlier ++ s ∷ new.statements) new.ending
    next_reads = rw (next.0, sym (ap (λ (r : Remaining). r.ending) next.1)) at way.read.reads

    next_meant : AllMeant (sentences (earlier ++ s ∷ []))
    next_meant =
        meant_more earlier s way.meant
        (subst (λ (ss : List Sentence). IsMeant ss (sentence_of s)) way.read.taken.book takes.meant)

    next_has : HasTaken (earlier ++ s ∷ []) q
    next_has =
        taken_more earlier s p q way.read.taken takes.statements takes.bytes takes.count
        (omega (arith, takes.proofs))

    -- it has another label, or none
    pub seeks_on : ¬ (IsLabelled label (sentence_of s)) → IsSeeking files label q new
    seeks_on other = record {
      read = record {
        earlier = earlier ++ s ∷ [];
        readable = way.read.readable;
        reads = rw (← append_assoc earlier (s ∷ []) new.statements) at next_reads;
        taken = next_has;
        lines = takes.lines ∙ way.read.lines;
      };
      lack = lack_more label earlier s way.lack other;
      meant = next_meant;
    }

    -- it has the label
    pub found_here : HasForm s → IsLabelled label (sentence_of s) → IsFound files label taken q s
    found_here formed named = record {
      before = earlier;
      at = record {
        readable = way.read.readable;
        after = new.statements;
        ending = new.ending;
        reads = next_reads;
        named = named;
        meant = next_meant;
      };
      has = next_has;
      formed = formed;
      kind = subst (λ (ss : List Sentence). TakenAs ss s.kind taken) way.read.taken.book takes.kind;
    }

  past : (left : List PlainStatement) (ending : Option PlainFault) → old.statements ≡ left
      → old.ending ≡ ending → IsReadPast files label earlier left ending
  past left ending same ends = record {
    readable = way.read.readable;
    reads = rw (same, ends) at way.read.reads;
    lack = way.lack;
    meant = way.meant;
  }

  -- the files are refused
  refused_here : (refusal : Refusal) → StopsTurn files p old (stop.Refused refusal)
      → IsRefusedBefore files label (plain_refusal refusal)
  refused_here refusal (inl (none, at, ended, same)) =
      (earlier, inr (at, past [] (Some at) none ended, same))
  refused_here refusal (inr (t, rest, next, broken)) =
      let meaning : IsMeaningRefusal files earlier t (plain_refusal refusal) = record {
        rule = broken.0;
        broken = subst (λ (ss : List Sentence). FirstBroken broken.0 ss (sentence_of t))
            way.read.taken.book broken.1;
        refused = broken.2
            ∙ ap (λ (k : ℕ). refusal_of files k t (rules.Meaning broken.0) 0) way.read.taken.count;
      } in
      let left : List PlainStatement = t ∷ rest.statements in
      (earlier, inl (t, rest.statements, old.ending, past left old.ending next.0 refl, meaning))

  pub stops_before : (why : Stop) → StopsTurn files p old why → StopsBefore files label why
  stops_before stop.Memory stops = tt
  stops_before (stop.Refused refusal) stops = refused_here refusal stops

-- ---- the theorem

module _ (files : List PlainFile) (label : List ℕ) (p : Progress) (taken : Taken) where
  -- it is a `$p`
  pub reached_as : (r : Reached) → IsFound files label taken p (plain_statement r.statement)
      → taken ≡ Assertion r.id → (plain_statement r.statement).kind ≡ kinds.Provable
      → r.book.statements ≡ p.prover.book.statements → r.before ≡ p.count - 1
      → HasReached files label r
  reached_as r found is provable same count =
      let s : PlainStatement = plain_statement r.statement in
      let before : List PlainStatement = found.before in
      let kind : TakenAs (sentences before) kinds.Provable taken =
      subst (λ (k : Kind). TakenAs (sentences before) k taken) provable found.kind in
      let id : r.id ≡ next_id (sentences before) = cc in
      record {
        before = before;
        at = (found.at, provable);
        book = same ∙ found.has.book;
        count = omega (arith, count, found.has.count, length-append before (s ∷ []));
        formed = found.formed;
        last = record {
          before = sentences before;
          whole = same ∙ found.has.book ∙ map-append sentence_of before (s ∷ []);
          number = ap (λ (i : LabelId). i.0) id;
          provable = provable;
        };
      }

-- ---- what is told

-- the files can't be taken
pub load_unreached : (files : List PlainFile) (label : List ℕ) (why : CheckFault)
    → RefusesLoad files why → IsUnreached files label (Check why)
load_unreached files label (check.Load rule) broken = broken
load_unreached files label (check.Refused refusal) broken = absurd broken
load_unreached files label check.Memory broken = tt

-- they are refused on the way
pub stop_unreached : (files : List PlainFile) (label : List ℕ) (why : Stop)
    → StopsBefore files label why → IsUnreached files label (Check (fault_of why))
stop_unreached files label (stop.Refused refusal) stops = stops
stop_unreached files label stop.Memory stops = tt

-- ---- what is said of the `$p` with the number is said of the theorem

module _ (files : List PlainFile) (label : List ℕ) (r : Reached)
    (h : HasReached files label r) where
  abbrev pub theorem : PlainStatement
  theorem = plain_statement r.statement

  pub told : r.book.statements ≡ sentences h.before ++ sentence_of theorem ∷ []
  told = h.book ∙ map-append sentence_of h.before (theorem ∷ [])

  pub reached_number :
      IsProofNumber r.book.statements r.id.0 (length h.before) (sentence_of theorem)
  reached_number =
      rw (length-map h.before sentence_of) at (last_number r.book.statements r.id.0 theorem h.formed
      h.last (sentences h.before) told)

  pub reached_before : take (length h.before) r.book.statements ≡ sentences h.before
  reached_before =
      rw (length-map h.before sentence_of) at (prefix_of r.book.statements (sentences h.before)
      (sentence_of theorem) told)

  pub of_reached : (P : List Sentence → Sentence → Type 0)
      → OfProof r.book.statements r.id.0 (λ index s. P (take index r.book.statements) s)
      → P (sentences h.before) (sentence_of theorem)
  of_reached P said =
      subst (λ (ss : List Sentence). P ss (sentence_of theorem)) reached_before
      (said (length h.before) (sentence_of theorem) reached_number)

  -- its proof has room
  pub reached_fits : sum_by length (proof_of theorem) ≤ most_bytes
  reached_fits =
      proof_fits files (h.before ++ theorem ∷ h.at.0.after) h.at.0.ending (length h.before) theorem
      h.at.0.readable h.at.0.reads (get_parted h.before h.at.0.after theorem)

  -- few statements stand before it
  pub reached_few : r.before < 2 ^ 63
  reached_few =
      omega (
        arith,
        h.count,
        readings_few files (h.before ++ theorem ∷ h.at.0.after) h.at.0.ending h.at.0.reads,
        length-append h.before (theorem ∷ h.at.0.after),
        within_limit files h.at.0.readable,
      )
