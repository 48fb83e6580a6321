-- Accepted proofs, whatever the other proofs: what is kept of them on the way through statements, and
-- who uses an assertion by them. On this file rests the contract of `accepted_users`.
use Rattle.std.proofs.Common.{◌≡◌, ◌↔◌, ℕ, ◌<◌, ◌≤◌, List, [], ◌∷◌, ◌++◌, take, length}
use Rattle.std.proofs.Common.{Contains, Bool, true, false, Some, None, ◌⊎◌, inl}
use Rattle.std.proofs.Common.{inr, refl, sym, ap, subst, ◌∙◌, arith, not, is_some, Result, Ok, Err}
use Rattle.std.proofs.Common.{MatchResult, append-nil, append_assoc}
use Rattle.std.specs.List.{AllByRecursion}
use Rattle.std.specs.Result.{IsOkUnless}
use Rattle.std.proofs.lemmas.List.{map-append, take-append-le, length-map}
use Rattle.std.proofs.lemmas.Option.{slice_get_within, none-some}
use Rattle.std.proofs.Math.Seq.{take-append_seam}
use Rattle.mm_base.specs.declared.statement.Kind.{Kind}
use Rattle.mm_base.specs.declared.statement.Kind.TheVariants.{Provable}
use Rattle.mm_base.specs.Statement.{PlainStatement, HasForm}
use Rattle.mm_base.proofs.Lists.{all_within, at_from_contains, contains_from_at, one_parting}
use Rattle.mm_base.proofs.Lists.{pushed_cases}
use Rattle.mm_text.specs.Files.{PlainFile}
use Rattle.mm_text.specs.Reading.{Reads}
use Rattle.mm_text.specs.Remaining.{Remaining, IsUnread}
use Rattle.mm_frame.specs.declared.answer.Taken.{Taken}
use Rattle.mm_frame.specs.declared.answer.Taken.TheVariants as as_taken
use Rattle.mm_frame.specs.declared.number.LabelId.{LabelId}
use Rattle.mm_frame.specs.Numbers.{labelled_sentences, IsNumbered}
use Rattle.mm_frame.specs.Rules.{AllMeant, FirstBroken, IsMeant}
use Rattle.mm_frame.specs.Sentence.{Sentence, sentence_of, IsAssertion, IsLabelled}
use Rattle.mm_frame.specs.Taken.{TakenAs, next_id}
use Rattle.mm_frame.proofs.Names.LabelNumbers.{numbered_fall, numbered_within}
use Rattle.mm_frame.proofs.Names.NameNumbers.{get_mapped}
use Rattle.mm_step.specs.Proof.{IsWithin}
use Rattle.mm_step.specs.Profiles.{limit_of}
use Rattle.mm_step.specs.Tree.{none as no_trees, tree}
use Rattle.mm_step.specs.declared.fault.ProofFault.{ProofFault}
use Rattle.mm_step.specs.declared.fault.ProofFault.TheVariants as faults
use Rattle.mm_step.specs.declared.fault.ProofRule.{ProofRule}
use Rattle.mm_step.specs.declared.profile.Profile.TheVariants.{Lenient}
use Rattle.mm_proof.specs.declared.prover.Proved.{Proved}
use Rattle.mm_proof.specs.declared.prover.Proved.TheVariants as proved
use Rattle.mm_proof.specs.Parsed.{OfProof}
use Rattle.mm_proof.specs.Proof.{IsProved, IsProvedWithin}
use Rattle.mm_proof.specs.Tokens.{is_incomplete}
use Rattle.mm_proof.specs.UnderProfile.{IsProvedUnder}
use Rattle.mm_proof.specs.Used.{AreUsed, IsUsedNumber}
use Rattle.mm_proof.proofs.ProofVerdicts.VerdictLaws.{derive_any}
use Rattle.mm_rules.specs.Conclusion.{ProofUses, labels_in, numbers_of}
use Rattle.mm_rules.specs.declared.fault.CheckFault.{CheckFault}
use Rattle.mm_rules.specs.declared.fault.CheckFault.TheVariants as check
use Rattle.mm_rules.specs.declared.fault.Refusal.{Refusal}
use Rattle.mm_rules.specs.declared.fault.Stop.{Stop}
use Rattle.mm_rules.specs.declared.fault.Stop.TheVariants as stop
use Rattle.mm_rules.specs.declared.progress.Progress.{Progress}
use Rattle.mm_rules.specs.Mirror.Judged.{Fails, IsJudged, IsLastProof, IsProvedUsing, fault_of}
use Rattle.mm_rules.specs.Mirror.Marks.{AreBackward, UsedIn}
use Rattle.mm_rules.specs.Mirror.Ordered.{ordered}
use Rattle.mm_rules.specs.Rests.{AreInOrder, HasTree, IsNamed, RestsOn, Uses, tree_of}
use Rattle.mm_rules.specs.Verdict.{CanBeRead, is_proof, proof_of, sentences}
use Rattle.mm_rules.proofs.Judgements.CompleteProofs.{proof_there, unproved_there}
use Rattle.mm_rules.proofs.Judgements.JudgedProofs.{labelled_said, last_number, prefix_of}
use Rattle.mm_rules.proofs.Numbers.{holds_cases, in_order_push, in_order_same, ordered_used}
use Rattle.mm_verdict.specs.Mirror.Judged.{HasTaken, RefusesLoad, StopsTurn, TakesNext}
use Rattle.mm_verdict.specs.Mirror.Taking.{TakesAs}
use Rattle.mm_verdict.specs.Reply.{lines_of}
use Rattle.mm_verdict.proofs.Questions.AskedTheorems.{map-take, number_among, numbered_as, one_tree}
use Rattle.mm_verdict.proofs.Questions.AskedTheorems.{rests_as}
use Rattle.mm_verdict.proofs.Verdicts.AcceptedStatements.{same_reading}
use Rattle.mm_verdict.proofs.Verdicts.FaultLists.{meant_more, none_meant}
use Rattle.mm_verdict.proofs.Verdicts.StatementByStatement.{AreUsesOf, Spells, at_cases}
use Rattle.mm_verdict.proofs.Verdicts.StatementByStatement.{at_grow, at_last, proof_not_unproved}
use Rattle.mm_verdict.proofs.Verdicts.StatementByStatement.{provable_kind, taken_more, uses_grow}
use Rattle.mm_axioms.specs.Accepted.{AreAcceptedUsers, AreMeant, IsAccepted, UsesAccepted}
use Rattle.mm_axioms.specs.Accepted.{UsesItAccepted}
use Rattle.mm_axioms.specs.Mirror.Accepted.{AcceptsProof, AreAcceptedUses, HasAccepted, HasKept}
use Rattle.mm_axioms.specs.Mirror.Accepted.{IsKeeping, IsUnkept, KeepsAccepted, StopsKeeping}
use Rattle.mm_axioms.specs.Mirror.Accepted.{TellsAccepted}
use Rattle.mm_axioms.proofs.Resting.UsersOf.{user_within}

-- ==== one proof

module _ (statements : List Sentence) (id : ℕ) (s : PlainStatement)
    (last : IsLastProof statements id s) (result : Result Proved ProofFault) (used : List ℕ) where
  module _ (judges : (before : List Sentence) → statements ≡ before ++ sentence_of s ∷ []
      → MatchResult result (IsJudged Lenient before s used) (Fails Lenient before s)) where
    judged_as : (p : Proved) → result ≡ Ok p → (before : List Sentence)
        → statements ≡ before ++ sentence_of s ∷ [] → IsJudged Lenient before s used p
    judged_as p is before e =
        subst (λ (r : Result Proved ProofFault).
        MatchResult r (IsJudged Lenient before s used) (Fails Lenient before s)) is
        (judges before e)

    pub tells_complete : result ≡ Ok proved.Complete → TellsAccepted statements s true used
    tells_complete is before e =
        let (complete, shown) = judged_as proved.Complete is before e in
        (proof_there s last.provable complete, shown)

    pub tells_incomplete : result ≡ Ok proved.Incomplete → TellsAccepted statements s false used
    tells_incomplete is before e (complete, accepted) =
        let (open_one, allowed) = judged_as proved.Incomplete is before e in
        let t = unproved_there s last.provable open_one in
        let f = proof_not_unproved s complete in cc

  -- it isn't refused where it is right
  pub tells_refused : AcceptsProof statements s result → (rule : ProofRule) (step : ℕ)
      → result ≡ Err (faults.Rule rule step) → TellsAccepted statements s false used
  tells_refused accepts rule step is before e (complete, accepted) =
      let wrong : faults.Rule rule step ≡ faults.Memory =
      subst (λ (r : Result Proved ProofFault). IsOkUnless r faults.Memory) is
      (accepts before e accepted) in cc

-- what is said of the `$p` with the number, wherever it stands, is said of the last statement
pub accepts_last : (statements : List Sentence) (id : ℕ) (s : PlainStatement)
    (tokens : List (List ℕ)) (result : Result Proved ProofFault) → HasForm s
    → IsLastProof statements id s → tokens ≡ proof_of s
    → OfProof statements id (λ index t.
    IsProvedUnder Lenient (take index statements) t tokens → IsOkUnless result faults.Memory)
    → AcceptsProof statements s result
accepts_last statements id s tokens result formed last same accepts before e accepted =
    let number = last_number statements id s formed last before e in
    let Proves : List (List ℕ) → List Sentence → Type 0 =
    λ ts ss. IsProvedUnder Lenient ss (sentence_of s) ts in
    let there : Proves tokens (take (length before) statements) =
    subst (λ (ss : List Sentence). Proves tokens ss)
    (sym (prefix_of statements before (sentence_of s) e))
    (subst (λ (ts : List (List ℕ)). Proves ts before) (sym same) accepted) in
    accepts (length before) (sentence_of s) number there

-- what the proof uses is kept
pub kept_one : (statements : List Sentence) (id : ℕ) (s : PlainStatement) (used : List ℕ)
    (old new : List ProofUses) → IsLastProof statements id s → TellsAccepted statements s true used
    → new ≡ old ++ record { number = id; used = ordered used } ∷ []
    → (before : List Sentence) → statements ≡ before ++ sentence_of s ∷ []
    → KeepsAccepted before s old new
kept_one statements id s used old new last tells pushed before e =
    let (complete, shown) = tells before e in
    let same : before ≡ last.before =
    (one_parting before (sentence_of s ∷ []) last.before (sentence_of s ∷ []) (sym e ∙ last.whole)
    refl).0 in
    let number : id ≡ length (labelled_sentences before) =
    last.number ∙ ap (λ (ss : List Sentence). length (labelled_sentences ss)) (sym same) in
    let one : ℕ → ProofUses = λ n. record { number = n; used = ordered used } in
    inl (
      complete,
      used,
      shown,
      pushed ∙ ap (λ (n : ℕ). old ++ one n ∷ []) number,
    )

-- a statement that is no `$p` has no proof
pub kept_other : (before : List Sentence) (s : PlainStatement) (old : List ProofUses)
    → ((s.kind ≡ Provable) → ⊥) → KeepsAccepted before s old old
kept_other before s old other = inr (
  (λ has. other (provable_kind s.kind (not (is_incomplete (proof_of s))) has.0)),
  refl,
)

-- ---- the statement that was taken last

-- a `$p` is taken as an assertion with the next number
taken_provable : (before : List Sentence) (kind : Kind) (t : Taken) → kind ≡ Provable
    → TakenAs before kind t → t ≡ as_taken.Assertion (next_id before)
taken_provable before kind t provable is =
    subst (λ (k : Kind). TakenAs before k t) provable is

pub last_proof : (statements : List Sentence) (t : Taken) (id : LabelId) (s : PlainStatement)
    → (before : List Sentence) × (statements ≡ before ++ sentence_of s ∷ [])
    × TakenAs before s.kind t
    → t ≡ as_taken.Assertion id → s.kind ≡ Provable → IsLastProof statements id.0 s
last_proof statements t id s (before, whole, is) same provable =
    let own : t ≡ as_taken.Assertion (next_id before) =
    taken_provable before s.kind t provable is in
    let number : id ≡ next_id before = cc in
    record {
      before = before;
      whole = whole;
      number = ap (λ (i : LabelId). i.0) number;
      provable = provable;
    }

-- what isn't taken as an assertion is no `$p`
pub not_provable : (statements : List Sentence) (t : Taken) (s : PlainStatement)
    → (before : List Sentence) × (statements ≡ before ++ sentence_of s ∷ [])
    × TakenAs before s.kind t
    → ((id : LabelId) → t ≡ as_taken.Assertion id → s.kind ≡ Provable → ⊥) → s.kind ≡ Provable → ⊥
not_provable statements t s (before, whole, is) other provable =
    other (next_id before) (taken_provable before s.kind t provable is) provable

-- ==== statements one by one

-- ---- what is accepted

accepted_grow : (statements more : List PlainStatement) (id : ℕ) → IsAccepted statements id
    → IsAccepted (statements ++ more) id
accepted_grow statements more id h =
    let within : h.index < length statements =
    slice_get_within statements h.index h.s h.at.there in
    record {
      index = h.index;
      s = h.s;
      at = at_grow statements more id h.index h.s h.at;
      complete = h.complete;
      proof = subst (λ (prefix : List PlainStatement).
          IsProvedUnder Lenient (sentences prefix) (sentence_of h.s) (proof_of h.s))
          (sym (take-append-le h.index statements more (omega arith))) h.proof;
    }

accepted_last : (statements : List PlainStatement) (s : PlainStatement)
    → is_some (sentence_of s).label ≡ true → HasAccepted (sentences statements) s
    → IsAccepted (statements ++ s ∷ []) (length (labelled_sentences (sentences statements)))
accepted_last statements s named (complete, proof) = record {
  index = length statements;
  s = s;
  at = at_last statements s named;
  complete = complete;
  proof = subst (λ (prefix : List PlainStatement).
      IsProvedUnder Lenient (sentences prefix) (sentence_of s) (proof_of s))
      (sym (take-append_seam statements (s ∷ []))) proof;
}

-- where one more statement is put at the end, it was accepted before, or is that one
accepted_cases : (statements : List PlainStatement) (s : PlainStatement) (id : ℕ)
    → IsAccepted (statements ++ s ∷ []) id
    → IsAccepted statements id
    ⊎ (HasAccepted (sentences statements) s
    × (id ≡ length (labelled_sentences (sentences statements))))
accepted_cases statements s id h =
    let Proves : List PlainStatement → PlainStatement → Type 0 =
    λ prefix t. IsProvedUnder Lenient (sentences prefix) (sentence_of t) (proof_of t) in
    elim (pushed_cases statements s h.index h.s h.at.there) [
      | inl before ↦
          let within : h.index < length statements =
          slice_get_within statements h.index h.s before in
          let room = rw (← length-map statements sentence_of) at within in
          let numbered = rw (map-append sentence_of statements (s ∷ [])) at h.at.numbered in
          inl (record {
            index = h.index;
            s = h.s;
            at = record {
              there = before;
              numbered = numbered_fall (sentences statements) (sentence_of s ∷ []) id h.index
                  (sentence_of h.s) room numbered;
            };
            complete = h.complete;
            proof = subst (λ (prefix : List PlainStatement). Proves prefix h.s)
                (take-append-le h.index statements (s ∷ []) (omega arith)) h.proof;
          })
      | inr (place, same) ↦
          let whole : take h.index (statements ++ s ∷ []) ≡ statements =
          ap (λ (n : ℕ). take n (statements ++ s ∷ [])) place
          ∙ take-append_seam statements (s ∷ []) in
          let proof : Proves statements s =
          subst (λ (prefix : List PlainStatement). Proves prefix s) whole
          (subst (λ (t : PlainStatement). Proves (take h.index (statements ++ s ∷ [])) t) (sym same)
          h.proof) in
          elim (at_cases statements s id h.index h.s h.at) [
            | inl old ↦ absurd (
                let less : h.index < length statements =
                slice_get_within statements h.index h.s old.there in omega arith)
            | inr (found, number) ↦ inr ((ap is_proof same ∙ h.complete, proof), number)
          ]
    ]

-- ---- what is kept

-- an accepted proof is a proof, of the same tree
accepted_proof : (before : List Sentence) (s : Sentence) (tokens : List (List ℕ))
    → IsProvedWithin (IsWithin (limit_of Lenient)) before s tokens → IsProved before s tokens
accepted_proof before s tokens p = record {
  whole = p.whole;
  moves = p.moves;
  said = p.said;
  proves = record {
    label = p.proves.label;
    below = p.proves.below;
    kept = p.proves.kept;
    made = p.proves.made;
    derived = derive_any (IsWithin (limit_of Lenient)) before
        (tree p.proves.label p.proves.below no_trees) (s.symbols ∷ []) p.proves.derived;
  };
}

-- of the proof of the last statement
used_last : (statements : List PlainStatement) (s : PlainStatement) (used : List ℕ)
    → is_some (sentence_of s).label ≡ true → is_proof s ≡ true
    → IsProvedUsing Lenient (sentences statements) s used
    → AreUsesOf (statements ++ s ∷ [])
    (record { number = length (labelled_sentences (sentences statements)); used = ordered used })
unfolding accepted_proof
used_last statements s used named complete shown =
    let prefix : statements ≡ take (length statements) (statements ++ s ∷ []) =
    sym (take-append_seam statements (s ∷ [])) in
    let proof : Spells s (tree_of shown.proof) (take (length statements) (statements ++ s ∷ [])) =
    subst (Spells s (tree_of shown.proof)) prefix
    (accepted_proof (sentences statements) (sentence_of s) (proof_of s) shown.proof, refl) in (
      length statements,
      tree_of shown.proof,
      record {
        s = s;
        at = at_last statements s named;
        complete = complete;
        proof = proof.0;
        spelled = proof.1;
      },
      subst (λ (before : List PlainStatement).
          AreUsed (sentences before) (tree_of shown.proof) (ordered used)) prefix
          (ordered_used (sentences statements) (tree_of shown.proof) used shown.all),
    )

-- before any statement
none_kept : AreAcceptedUses [] []
none_kept = record {
  proofs = record {
    rising = λ i j a b less p q. absurd (none-some a p);
    each = λ n. (
      (λ h. let at = at_from_contains [] n h in absurd (none-some n at.1)),
      λ h. absurd (none-some h.s h.at.there),
    );
  };
  each = λ u h. let at = at_from_contains [] u h in absurd (none-some u at.1);
}

-- of one more statement
kept_more : (statements : List PlainStatement) (s : PlainStatement) (old new : List ProofUses)
    → HasForm s → AreAcceptedUses statements old → KeepsAccepted (sentences statements) s old new
    → AreAcceptedUses (statements ++ s ∷ []) new
kept_more statements s old new formed uses (inl (complete, used, shown, pushed)) =
    let count : ℕ = length (labelled_sentences (sentences statements)) in
    let u : ProofUses = record { number = count; used = ordered used } in
    let provable = provable_kind s.kind (not (is_incomplete (proof_of s))) complete in
    let named : is_some (sentence_of s).label ≡ true =
    labelled_said s.kind s.label formed.label provable in
    let has : HasAccepted (sentences statements) s = (complete, (shown.form, shown.proof)) in
    rw pushed (record {
      proofs = rw (map-append (λ (v : ProofUses). v.number) old (u ∷ []))
          (in_order_push (IsAccepted statements) (IsAccepted (statements ++ s ∷ []))
          (numbers_of old) count uses.proofs
          (λ n h. numbered_within (sentences statements) n h.index (sentence_of h.s) h.at.numbered)
          (λ n. (
            (λ h. elim (accepted_cases statements s n h) [
              | inl before ↦ inl before
              | inr last ↦ inr last.1
            ]),
            λ h. elim h [
              | inl before ↦ accepted_grow statements (s ∷ []) n before
              | inr last ↦ subst (IsAccepted (statements ++ s ∷ [])) (sym last)
                  (accepted_last statements s named has)
            ],
          )));
      each = λ v h. elim (holds_cases old u v h) [
        | inl before ↦ uses_grow statements (s ∷ []) v (uses.each v before)
        | inr last ↦ subst (λ (w : ProofUses). AreUsesOf (statements ++ s ∷ []) w) (sym last)
            (used_last statements s used named complete shown)
      ];
    })
kept_more statements s old new formed uses (inr (none, same)) =
    rw same (record {
      proofs = in_order_same (IsAccepted statements) (IsAccepted (statements ++ s ∷ []))
          (numbers_of old) uses.proofs (λ n. (
            accepted_grow statements (s ∷ []) n,
            λ h. elim (accepted_cases statements s n h) [
              | inl before ↦ before
              | inr last ↦ absurd (none last.0)
            ],
          ));
      each = λ v h. uses_grow statements (s ∷ []) v (uses.each v h);
    })

-- ==== the way through the statements

pub keeps_first : (files : List PlainFile) (p : Progress) (left : Remaining) → IsUnread files left
    → CanBeRead files → HasTaken [] p → p.lines ≡ files → IsKeeping files p left []
keeps_first files p left unread readable taken lines = record {
  read = record {
    earlier = [];
    readable = readable;
    reads = unread.reads;
    taken = taken;
    lines = lines;
  };
  meant = none_meant;
  kept = none_kept;
}

module _ (files : List PlainFile) (p : Progress) (old : Remaining) (uses : List ProofUses)
    (way : IsKeeping files p old uses) where
  abbrev pub earlier : List PlainStatement
  earlier = way.read.earlier

  -- a statement is taken
  module _ (q : Progress) (s : PlainStatement) (new : Remaining) (next : TakesNext old true s new)
      (taken : Taken) (takes : TakesAs p s taken q) where
    next_reads : Reads files (earlier ++ s ∷ new.statements) new.ending
    next_reads = rw (next.0, sym (ap (λ (r : Remaining). r.ending) next.1)) at way.read.reads

    next_meant : AllMeant (sentences (earlier ++ s ∷ []))
    next_meant =
        meant_more earlier s way.meant
        (subst (λ (ss : List Sentence). IsMeant ss (sentence_of s)) way.read.taken.book takes.meant)

    next_has : HasTaken (earlier ++ s ∷ []) q
    next_has =
        taken_more earlier s p q way.read.taken takes.statements takes.bytes takes.count
        (omega (arith, takes.proofs))

    pub book_next : q.prover.book.statements ≡ sentences earlier ++ sentence_of s ∷ []
    book_next =
        takes.statements
        ∙ ap (λ (ss : List Sentence). ss ++ sentence_of s ∷ []) way.read.taken.book

    pub taken_next : (before : List Sentence)
        × (q.prover.book.statements ≡ before ++ sentence_of s ∷ []) × TakenAs before s.kind taken
    taken_next = (
      sentences earlier,
      book_next,
      subst (λ (ss : List Sentence). TakenAs ss s.kind taken) way.read.taken.book takes.kind,
    )

    -- and what its proof uses is kept; nothing else changes
    pub keeps_on : HasForm s → (r : Progress) → r.prover.book ≡ q.prover.book → r.count ≡ q.count
        → r.proofs ≡ q.proofs → r.lines ≡ q.lines → (more : List ProofUses)
        → KeepsAccepted (sentences earlier) s uses more → IsKeeping files r new more
    keeps_on formed r book count proofs lines more keeps = record {
      read = record {
        earlier = earlier ++ s ∷ [];
        readable = way.read.readable;
        reads = rw (← append_assoc earlier (s ∷ []) new.statements) at next_reads;
        taken = record {
          book = ap (λ b. b.statements) book ∙ next_has.book;
          bytes = ap (λ b. b.bytes) book ∙ next_has.bytes;
          count = count ∙ next_has.count;
          proofs = subst (λ (n : ℕ). n ≤ length (earlier ++ s ∷ [])) (sym proofs) next_has.proofs;
        };
        lines = lines ∙ takes.lines ∙ way.read.lines;
      };
      meant = next_meant;
      kept = kept_more earlier s uses more formed way.kept keeps;
    }

    pub fewer_left : length new.statements < length old.statements
    fewer_left = omega (arith, ap length next.0)

  -- none is left
  pub keeps_end : (s : PlainStatement) (new : Remaining) → TakesNext old false s new
      → HasKept files p.prover.book.statements uses
  keeps_end s new next = record {
    statements = earlier;
    are_meant = record {
      readable = way.read.readable;
      reads = rw (next.0, next.1, append-nil earlier) at way.read.reads;
      meant = way.meant;
    };
    said = way.read.taken.book;
    kept = way.kept;
  }

  -- the text is at fault, or the next statement breaks a rule of meaning: it isn't that the files
  -- are meant
  not_meant : (refusal : Refusal) → StopsTurn files p old (stop.Refused refusal)
      → (statements : List PlainStatement) → ¬ (AreMeant files statements)
  not_meant refusal (inl (none, at, ended, same)) statements meant =
      let both = same_reading files _ statements _ None way.read.reads meant.reads in
      let wrong : None ≡ Some at = sym both.1 ∙ ended in none-some at wrong
  not_meant refusal (inr (t, rest, next, broken)) statements meant =
      let reads = rw next.0 at way.read.reads in
      let same : earlier ++ t ∷ rest.statements ≡ statements =
      (same_reading files _ statements _ None reads meant.reads).0 in
      let told : sentences statements
      ≡ sentences earlier ++ sentence_of t ∷ sentences rest.statements =
      ap sentences (sym same) ∙ map-append sentence_of earlier (t ∷ rest.statements) in
      let fine = meant.meant (sentences earlier) (sentences rest.statements) (sentence_of t) told in
      let first = subst (λ (ss : List Sentence). FirstBroken broken.0 ss (sentence_of t))
      way.read.taken.book broken.1 in
      fine broken.0 first.broken

  pub stops_keeping : (why : Stop) → StopsTurn files p old why → StopsKeeping files why
  stops_keeping stop.Memory stops = tt
  stops_keeping (stop.Refused refusal) stops = not_meant refusal stops

-- ---- what is told where nothing is kept

pub load_unkept : (files : List PlainFile) (why : CheckFault) → RefusesLoad files why
    → IsUnkept files why
load_unkept files (check.Load rule) broken =
    λ statements meant. meant.readable broken.0 broken.1
load_unkept files (check.Refused refusal) broken = absurd broken
load_unkept files check.Memory broken = tt

pub stop_unkept : (files : List PlainFile) (why : Stop) → StopsKeeping files why
    → IsUnkept files (fault_of why)
stop_unkept files (stop.Refused refusal) stops = stops
stop_unkept files stop.Memory stops = tt

-- ==== who uses an assertion

-- what is kept of accepted proofs is what they use
used_accepted : (statements : List PlainStatement) (uses : List ProofUses)
    → AllMeant (sentences statements) → AreAcceptedUses statements uses
    → (id used : ℕ) → UsedIn uses id used ↔ UsesAccepted statements id used
used_accepted statements uses all kept id used = (
  (λ (u, among, number, holds).
      let of : AreUsesOf statements u = kept.each u among in
      let (i, there) = at_from_contains uses u among in
      let held : Contains (numbers_of uses) u.number =
      contains_from_at (numbers_of uses) u.number
      (i, get_mapped (λ (v : ProofUses). v.number) uses i u there) in (
        subst (IsAccepted statements) number ((kept.proofs.each u.number).0 held),
        (
          of.0,
          of.1,
          subst (λ (n : ℕ). HasTree statements n of.0 of.1) number of.2,
          (of.3.each used).0 holds,
        ),
      )),
  λ (accepted, (index, t, has, stands)).
      let found = number_among uses id ((kept.proofs.each id).1 accepted) in
      let of : AreUsesOf statements found.0 = kept.each found.0 found.1 in
      let same = one_tree statements id index of.0 t of.1 all has
      (subst (λ (n : ℕ). HasTree statements n of.0 of.1) found.2 of.2) in
      (found.0, found.1, found.2, (of.3.each used).1 (rw (same.0, same.1) at stands)),
)

-- each uses earlier assertions
pub accepted_backward : (statements : List PlainStatement) (uses : List ProofUses)
    → AreAcceptedUses statements uses → AreBackward uses
accepted_backward statements uses kept = record {
  rising = kept.proofs.rising;
  below = λ u used among holds.
      let of : AreUsesOf statements u = kept.each u among in
      let stands : IsUsedNumber (sentences (take of.0 statements)) of.1 used =
      (of.3.each used).0 holds in
      rw (map-take of.0 statements, of.2.at.numbered.number) at (numbered_within
      (sentences (take of.0 statements)) used stands.0 stands.1 stands.3);
}

module _ (files : List PlainFile) (told : List Sentence) (uses : List ProofUses)
    (kept : HasKept files told uses) (label : List ℕ) (id : ℕ) (users : List ℕ)
    (named : IsNamed kept.statements label (λ s. IsAssertion s.kind) id) where
  same_uses : (n used : ℕ) → UsedIn uses n used ↔ UsesAccepted kept.statements n used
  same_uses = used_accepted kept.statements uses kept.are_meant.meant kept.kept

  pub accepted_users_of : AreInOrder (λ n. UsedIn uses n id) users
      → AreAcceptedUsers false kept.statements label users
  accepted_users_of order = record {
    id = id;
    assertion = named;
    are_users = in_order_same _ _ users order (λ n. same_uses n id);
  }

  pub all_accepted_users_of : AreInOrder (λ n. RestsOn (UsedIn uses) n id) users
      → AreAcceptedUsers true kept.statements label users
  all_accepted_users_of order = record {
    id = id;
    assertion = named;
    are_users = in_order_same _ _ users order (λ n. (
      rests_as (UsedIn uses) (UsesAccepted kept.statements) (λ x y. (same_uses x y).0) n id,
      rests_as (UsesAccepted kept.statements) (UsedIn uses) (λ x y. (same_uses x y).1) n id,
    ));
  }

-- ---- their numbers are those of labels

rests_used : (statements : List PlainStatement) (n id : ℕ)
    → RestsOn (UsesAccepted statements) n id → RestsOn (Uses statements) n id
rests_used statements n id =
    rests_as (UsesAccepted statements) (Uses statements) (λ x y h. h.1) n id

accepted_within : (all : Bool) (statements : List PlainStatement) (n id : ℕ)
    → UsesItAccepted all statements n id → n < length (labels_in (sentences statements))
accepted_within false statements n id holds = user_within false statements n id holds.1
accepted_within true statements n id rests =
    user_within true statements n id (rests_used statements n id rests)

pub accepted_users_within : (all : Bool) (statements : List PlainStatement) (label : List ℕ)
    (users : List ℕ) → AreAcceptedUsers all statements label users
    → AllByRecursion (λ n. n < length (labels_in (sentences statements))) users
accepted_users_within all statements label users of =
    all_within (λ n. n < length (labels_in (sentences statements))) users
    (λ n h. accepted_within all statements n of.id ((of.are_users.each n).0 h))

-- ==== what stands under a label

pub found_where : (told : List Sentence) (statements : List PlainStatement) (label : List ℕ)
    (P : Kind → Type 0) (id index : ℕ) (t : Sentence) → told ≡ sentences statements
    → IsNumbered told id index t → IsLabelled label t → P t.kind
    → IsNamed statements label (λ s. P s.kind) id
found_where told statements label P id index t same numbered named holds =
    let (s, at, said) = numbered_as statements id index t
    (subst (λ (ss : List Sentence). IsNumbered ss id index t) same numbered) in (
      index,
      s,
      at,
      (
        subst (IsLabelled label) (sym said) named,
        subst P (sym (ap (λ (u : Sentence). u.kind) said)) holds,
      ),
    )

-- ==== the lines

-- a label and a line feed are put behind a text
pub one_line : (out label o₁ o₂ : List ℕ) → o₁ ≡ out ++ label → o₂ ≡ o₁ ++ 10 ∷ []
    → o₂ ≡ out ++ lines_of (label ∷ [])
one_line out label o₁ o₂ h₁ h₂ = rw (h₂, h₁) (simp (append_assoc, append-nil))
