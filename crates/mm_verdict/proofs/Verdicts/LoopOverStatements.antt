-- The one loop over a database: each statement obeys the rules or is listed, and what a visitor
-- meets on the way.
use Rattle.std.proofs.Common.{◌≡◌, ℕ, ◌≤◌, List, [], ◌∷◌, ◌++◌, Bool, true, false, cond, Option}
use Rattle.std.proofs.Common.{Some, None, inl, inr, refl, sym, ap, subst, ◌∙◌, arith, append_assoc}
use Rattle.std.proofs.Common.{append-nil, rules, Vec, length, ◌<◌}
use Rattle.std.specs.List.{AllByRecursion}
use Rattle.mm_base.specs.Statement.{PlainStatement, HasForm}
use Rattle.mm_text.specs.Files.{PlainFile}
use Rattle.mm_text.specs.Reading.{PlainFault, Reads}
use Rattle.mm_text.specs.Remaining.{Remaining, IsUnread}
use Rattle.mm_text.proofs.Reader.WholeReadings.{readings_are_formed_in_place}
use Rattle.mm_frame.specs.declared.rule.MeaningRule.{MeaningRule}
use Rattle.mm_frame.specs.Sentence.{Sentence, sentence_of}
use Rattle.mm_frame.specs.Rules.{FirstBroken, IsMeant}
use Rattle.mm_step.specs.declared.profile.Profile.{Profile}
use Rattle.mm_rules.specs.declared.fault.Refusal.{Refusal}
use Rattle.mm_rules.specs.declared.judge.Judged.{Judged}
use Rattle.mm_rules.specs.declared.judge.Judged.TheVariants.{Theorem, Other, Faulty}
use Rattle.mm_rules.specs.declared.progress.Progress.{Progress}
use Rattle.mm_rules.specs.Verdict.{PlainRefusal, CanBeRead, IsProofFault, Obeys, is_proof}
use Rattle.mm_rules.specs.Verdict.{refusal_of, text_refusal, sentences, Load, Refused, HasVerdict}
use Rattle.mm_rules.specs.Answer.{plain_refusal}
use Rattle.mm_verdict.specs.Why.{is_of_proofs}
use Rattle.mm_verdict.specs.Faults.{AreRefused, HaveFaults, IsMeaningRefusal}
use Rattle.mm_rules.specs.Faults.{IsProofRefusal}
use Rattle.mm_verdict.specs.Mirror.Judged.{Begins, HasTaken, IsAtEnd, IsRead, IsUnderWay}
use Rattle.mm_rules.specs.Mirror.Judged.{IsTaken}
use Rattle.mm_verdict.specs.Mirror.Judged.{Knows, StopsTurn, TakesNext}
use Rattle.mm_rules.specs.Mirror.Judged.{Takes, TakesFaulty}
use Rattle.mm_verdict.specs.Mirror.Judged.{RefusesLoad, TellsVerdict, Turns}
use Rattle.mm_rules.specs.Mirror.Judged.{fault_of}
use Rattle.mm_rules.specs.Mirror.Visits.{ComesTo, IsMet, refusals_in, Seeing}
use Rattle.mm_verdict.specs.Mirror.Visits.{HasStopped}
use Rattle.mm_verdict.specs.Mirror.Visits.{HasVisited, IsVisiting}
use Rattle.mm_rules.specs.Mirror.Visits.{StopsAt}
use Rattle.mm_verdict.proofs.Verdicts.FaultLists.{meant_more, none_meant, some_of_statements}
use Rattle.mm_verdict.proofs.Verdicts.FaultLists.{first_told}
use Rattle.mm_verdict.proofs.Verdicts.StatementByStatement.{knows_more, taken_more, no_statement}
use Rattle.mm_verdict.proofs.Verdicts.StatementByStatement.{one_more}
use Rattle.std.specs.Bool.{◌==◌}
use Rattle.std.specs.Global.{Global}
use Rattle.std.specs.Vec.{vec_len}
use Rattle.std.proofs.lemmas.Bool.{eqb-true, cases_lt}
use Rattle.std.proofs.lemmas.List.{nil_from_length}
use Rattle.std.proofs.lemmas.Option.{same_Some}
use Rattle.mm_rules.specs.declared.fault.CheckFault.{CheckFault}
use Rattle.mm_rules.specs.declared.fault.Stop.{Stop}
use Rattle.mm_rules.specs.declared.fault.Stop.TheVariants as stop
use Rattle.mm_rules.specs.declared.rule.Rule.TheVariants as rule_of
use Rattle.mm_rules.specs.declared.fault.CheckFault.TheVariants as check

-- ==== the course of checking: statement after statement, each of which obeys the rules or is
-- listed

-- ## Lists of refusals

module _ (profile : Profile) (files : List PlainFile) (earlier : List PlainStatement)
    (ending : Option PlainFault) (listed : List PlainRefusal) (s : PlainStatement)
    (left : List PlainStatement)
    (begins : Begins profile files earlier (s ∷ left) ending listed) where
  more_obeying : Obeys profile (sentences earlier) s
      → Begins profile files (earlier ++ s ∷ []) left ending listed
  more_obeying obeys later h =
      rw (append_assoc earlier (s ∷ []) left) (begins later (inl (obeys, h)))

  more_faulty : (first : PlainRefusal) → IsProofRefusal profile files earlier s first
      → Begins profile files (earlier ++ s ∷ []) left ending (listed ++ first ∷ [])
  more_faulty first refusal later h =
      rw (append_assoc earlier (s ∷ []) left, append_assoc listed (first ∷ []) later)
      (begins (first ∷ later) (inr (inl (first, refusal, later, h, refl))))

-- a list with one more isn't empty
none_more : {X : Type 0} (xs : List X) (x : X) → xs ++ x ∷ [] ≡ [] → ⊥
none_more [] x e = absurd cc
none_more (y ∷ xs) x e = absurd cc

-- ## The beginning

pub starts : (profile : Profile) (files : List PlainFile) (p : Progress) (left : Remaining)
    → IsUnread files left → CanBeRead files → HasTaken [] p → Knows [] p → p.lines ≡ files
    → (way : IsUnderWay profile files p left []) × (way.read.earlier ≡ [])
starts profile files p left unread readable taken known lines = (
  record {
    read = record {
      earlier = [];
      readable = readable;
      reads = unread.reads;
      taken = taken;
      lines = lines;
    };
    meant = none_meant;
    begins = λ later h. h;
    obeyed = λ none. no_statement profile;
    known = λ none. known;
  },
  refl,
)

-- ## One statement more

at_most_one : (b : Bool) → cond b 1 0 ≤ 1
at_most_one true = omega arith
at_most_one false = omega arith

module _ (profile : Profile) (files : List PlainFile) (listed : List PlainRefusal)
    (p q : Progress) (old new : Remaining) (s : PlainStatement) (taken : TakesNext old true s new)
    (way : IsUnderWay profile files p old listed) where
  abbrev earlier : List PlainStatement
  earlier = way.read.earlier

  same_ending : old.ending ≡ new.ending
  same_ending = sym (ap (λ (r : Remaining). r.ending) taken.1)

  next_reads : Reads files (earlier ++ s ∷ new.statements) new.ending
  next_reads = rw (taken.0, same_ending) at way.read.reads

  next_begins : Begins profile files earlier (s ∷ new.statements) new.ending listed
  next_begins = rw (taken.0, same_ending) at way.begins

  obeys_here : Takes profile p s q → Obeys profile (sentences earlier) s
  obeys_here takes =
      subst (λ (ss : List Sentence). Obeys profile ss s) way.read.taken.book takes.obeys

  refused_here : (refusal : Refusal) → TakesFaulty profile files p s refusal q
      → IsProofRefusal profile files earlier s (plain_refusal refusal)
  refused_here refusal faulty =
      let rule = faulty.rule in
      let step = faulty.step in
      record {
        meant = subst (λ (ss : List Sentence). IsMeant ss (sentence_of s)) way.read.taken.book
            faulty.meant;
        rule = rule;
        step = step;
        fault = subst (λ (ss : List Sentence). IsProofFault profile ss s rule step)
            way.read.taken.book faulty.fault;
        refused = faulty.told
            ∙ ap (λ (k : ℕ). refusal_of files k s (rule_of.Proof rule) step) way.read.taken.count;
      }

  -- what it came to, in the words of the statements
  comes_to : (judged : Judged) → IsTaken profile files p s judged q
      → ComesTo profile files earlier q.prover.book.statements s judged
  comes_to (Theorem id) is = (is.0, is.1, obeys_here is.2)
  comes_to Other is = (is.0, obeys_here is.1)
  comes_to (Faulty refusal) is = refused_here refusal is

  takes_on : Takes profile p s q → HasTaken (earlier ++ s ∷ []) q
  takes_on takes =
      taken_more earlier s p q way.read.taken takes.statements takes.bytes takes.count
      (omega (arith, takes.proofs, at_most_one (is_proof s)))

  taken_on : (judged : Judged) → IsTaken profile files p s judged q
      → HasTaken (earlier ++ s ∷ []) q
  taken_on (Theorem id) is = takes_on is.2
  taken_on Other is = takes_on is.1
  taken_on (Faulty refusal) is =
      taken_more earlier s p q way.read.taken is.statements is.bytes is.count
      (omega (arith, is.proofs))

  -- so a visitor meets it
  pub meets : (judged : Judged) → IsTaken profile files p s judged q
      → IsMet profile files earlier listed q.prover.book.statements s judged
  meets judged is = record {
    readable = way.read.readable;
    left = new;
    reads = next_reads;
    obeyed = way.obeyed;
    same = (taken_on judged is).book;
    came = comes_to judged is;
  }

  -- it goes over from those that are left to those so far
  abbrev Goes : (more : List PlainRefusal) → Type 0
  Goes more =
      (on : IsUnderWay profile files q new (listed ++ more))
      × (on.read.earlier ≡ earlier ++ s ∷ [])

  abbrev read_on : HasTaken (earlier ++ s ∷ []) q → q.lines ≡ p.lines → IsRead files q new
  read_on has same = record {
    earlier = earlier ++ s ∷ [];
    readable = way.read.readable;
    reads = rw (← append_assoc earlier (s ∷ []) new.statements) at next_reads;
    taken = has;
    lines = same ∙ way.read.lines;
  }

  obeying_on : HasForm s → Takes profile p s q → Goes []
  obeying_on formed takes =
      let obeys = obeys_here takes in
      rw (append-nil listed) (
        record {
          read = read_on (takes_on takes) takes.lines;
          meant = meant_more earlier s way.meant obeys.meant;
          begins = more_obeying profile files earlier new.ending listed s new.statements next_begins
              obeys;
          obeyed = λ none. one_more profile earlier s (way.obeyed none) obeys;
          known = λ none.
              knows_more profile earlier s p q formed way.read.taken.book (way.known none) takes;
        },
        refl,
      )

  faulty_on : (refusal : Refusal) → TakesFaulty profile files p s refusal q
      → Goes (plain_refusal refusal ∷ [])
  faulty_on refusal faulty =
      let first : PlainRefusal = plain_refusal refusal in
      let refused = refused_here refusal faulty in (
        record {
          read = read_on (taken_on (Faulty refusal) faulty) faulty.lines;
          meant = meant_more earlier s way.meant refused.meant;
          begins = more_faulty profile files earlier new.ending listed s new.statements next_begins
              first refused;
          obeyed = λ none. absurd (none_more listed first none);
          known = λ none. absurd (none_more listed first none);
        },
        refl,
      )

  pub goes_on : (judged : Judged) → HasForm s → IsTaken profile files p s judged q
      → Goes (refusals_in judged)
  goes_on (Theorem id) formed is = obeying_on formed is.2
  goes_on Other formed is = obeying_on formed is.1
  goes_on (Faulty refusal) formed is = faulty_on refusal is

  -- where it is refused, others may follow
  pub refused_next : (refusal : Refusal) → TakesFaulty profile files p s refusal q
      → (others : List PlainRefusal)
      × HaveFaults profile files (listed ++ plain_refusal refusal ∷ others)
  refused_next refusal faulty =
      let first : PlainRefusal = plain_refusal refusal in
      let refused = refused_here refusal faulty in
      let statements : List PlainStatement = earlier ++ s ∷ new.statements in
      let formed : AllByRecursion HasForm statements =
      (readings_are_formed_in_place files statements new.ending next_reads).formed in
      let rest = some_of_statements profile files (earlier ++ s ∷ []) new.statements new.ending
      (meant_more earlier s way.meant refused.meant)
      (rw (append_assoc earlier (s ∷ []) new.statements) formed) in (
        rest.0,
        record {
          readable = way.read.readable;
          statements = statements;
          ending = new.ending;
          reads = next_reads;
          refused = next_begins (first ∷ rest.0) (inr (inl (first, refused, rest.0, rest.1, refl)));
        },
      )

-- ## The end

module _ (profile : Profile) (files : List PlainFile) (listed : List PlainRefusal)
    (p : Progress) (old : Remaining) (way : IsUnderWay profile files p old listed) where
  -- none is left, and the text has no fault
  module _ (s : PlainStatement) (new : Remaining) (none : TakesNext old false s new) where
    read_to_end : Reads files way.read.earlier None
    read_to_end = rw (none.0, append-nil, none.1) at way.read.reads

    pub all_listed : HaveFaults profile files listed
    all_listed = record {
      readable = way.read.readable;
      statements = way.read.earlier;
      ending = None;
      reads = read_to_end;
      refused = rw (append-nil way.read.earlier, append-nil listed)
          at ((rw (none.0, none.1) at way.begins) [] refl);
    }

    pub at_end : listed ≡ []
        → (end : IsAtEnd profile files p) × (end.statements ≡ way.read.earlier)
    at_end clean = (
      record {
        statements = way.read.earlier;
        accepted = record {
          readable = way.read.readable;
          reads = read_to_end;
          obeyed = way.obeyed clean;
        };
        taken = way.read.taken;
        known = way.known clean;
      },
      refl,
    )

  -- the refusal for which nothing is taken
  last_text : (last : PlainRefusal) (at : PlainFault) → old.statements ≡ []
      → old.ending ≡ Some at → last ≡ text_refusal files at
      → HaveFaults profile files (listed ++ last ∷ [])
  last_text last at none ended same =
      let refused : AreRefused profile files way.read.earlier [] (Some at) (last ∷ []) =
      ap (λ (r : PlainRefusal). r ∷ []) same in
      record {
        readable = way.read.readable;
        statements = way.read.earlier ++ [];
        ending = Some at;
        reads = rw (none, ended) at way.read.reads;
        refused = (rw (none, ended) at way.begins) (last ∷ []) refused;
      }

  last_meaning : (last : PlainRefusal) (t : PlainStatement) (rest : Remaining)
      (broken : MeaningRule) → TakesNext old true t rest
      → FirstBroken broken p.prover.book.statements (sentence_of t)
      → last ≡ refusal_of files p.count t (rule_of.Meaning broken) 0
      → HaveFaults profile files (listed ++ last ∷ [])
  last_meaning last t rest broken taken first same =
      let refused : IsMeaningRefusal files way.read.earlier t last = record {
        rule = broken;
        broken = subst (λ (ss : List Sentence). FirstBroken broken ss (sentence_of t))
            way.read.taken.book first;
        refused = same
            ∙ ap (λ (k : ℕ). refusal_of files k t (rule_of.Meaning broken) 0) way.read.taken.count;
      } in
      record {
        readable = way.read.readable;
        statements = way.read.earlier ++ t ∷ rest.statements;
        ending = old.ending;
        reads = rw taken.0 at way.read.reads;
        refused = (rw taken.0 at way.begins) (last ∷ []) (inr (inr (last, refused, refl)));
      }

  pub refused_last : (refusal : Refusal) → StopsTurn files p old (stop.Refused refusal)
      → HaveFaults profile files (listed ++ plain_refusal refusal ∷ [])
  refused_last refusal (inl (none, at, ended, same)) =
      last_text (plain_refusal refusal) at none ended same
  refused_last refusal (inr (t, rest, taken, broken)) =
      last_meaning (plain_refusal refusal) t rest broken.0 taken broken.1 broken.2

-- it isn't one of a proof
ends_run : (files : List PlainFile) (p : Progress) (left : Remaining) (refusal : Refusal)
    → StopsTurn files p left (stop.Refused refusal)
    → is_of_proofs (plain_refusal refusal).rule ≡ false
ends_run files p left refusal (inl (none, at, ended, same)) =
    ap (λ (r : PlainRefusal). is_of_proofs r.rule) same
ends_run files p left refusal (inr (t, rest, taken, broken)) =
    ap (λ (r : PlainRefusal). is_of_proofs r.rule) broken.2

-- ==== what a visitor meets on the way through a database, and what it tells in the end

module _ {V : Type 0} (has_seen : Seeing V) (may_stop : Type 0) (profile : Profile)
    (files : List PlainFile) (first now : V) (p q : Progress) (old new : Remaining)
    (s : PlainStatement) (v : IsVisiting has_seen profile files first now p old) where
  -- none is left
  pub visited_all : (judged : Option Judged) → Turns profile files p old judged s q new
      → ((other : Judged) → judged ≡ Some other → ⊥)
      → HasVisited has_seen profile files first now q
  visited_all (Some other) turned none = absurd (none other refl)
  visited_all None (left, same) none =
      subst (HasVisited has_seen profile files first now) (sym same) (record {
        statements = v.way.read.earlier;
        listed = v.listed;
        seen = v.seen;
        faults = all_listed profile files v.listed p old v.way s new left;
        clean = at_end profile files v.listed p old v.way s new left;
      })

  -- the text is at fault, or the next statement breaks a rule of meaning
  pub met_last : (why : Stop) → StopsTurn files p old why
      → HasStopped has_seen may_stop profile files first now (fault_of why)
  met_last stop.Memory stops = tt
  met_last (stop.Refused refusal) stops = record {
    taken = v.way.read.earlier;
    listed = v.listed;
    others = [];
    seen = v.seen;
    faults = refused_last profile files v.listed p old v.way refusal stops;
    rest = inr refl;
    kind = inr (ends_run files p old refusal stops);
  }

  -- the visitor stops at the next statement
  pub stopped_at : (then : V) (judged : Judged) → TakesNext old true s new
      → IsTaken profile files p s judged q → (why : Stop) → StopsAt may_stop now judged then why
      → HasStopped has_seen may_stop profile files first then (fault_of why)
  stopped_at then judged taken is stop.Memory stops = tt
  stopped_at then judged taken is (stop.Refused refusal) (may, faulty, same) =
      let (others, faults) = refused_next profile files v.listed p q old new s taken v.way refusal
      (rw faulty at is) in
      record {
        taken = v.way.read.earlier;
        listed = v.listed;
        others = others;
        seen = rw same v.seen;
        faults = faults;
        rest = inl may;
        kind = inl may;
      }

-- the files can't be taken
pub load_stops : {V : Type 0} (has_seen : Seeing V) (may_stop : Type 0) (profile : Profile)
    (files : List PlainFile) (first now : V) (why : CheckFault) → RefusesLoad files why
    → HasStopped has_seen may_stop profile files first now why
load_stops has_seen may_stop profile files first now (check.Load rule) broken = broken
load_stops has_seen may_stop profile files first now (check.Refused refusal) broken = absurd broken
load_stops has_seen may_stop profile files first now check.Memory broken = tt

-- ## One that lists nothing

module _ {V : Type 0} (has_seen : Seeing V) (may_stop : Type 0) (profile : Profile)
    (files : List PlainFile) (first now : V)
    (none : (taken : List PlainStatement) (listed : List PlainRefusal)
    → has_seen profile files first now taken listed → listed ≡ []) where
  -- it stops at the first fault, which is the verdict
  pub verdict_told : (why : CheckFault)
      → HasStopped has_seen may_stop profile files first now why
      → TellsVerdict profile files why
  verdict_told (check.Load rule) holds verdict e =
      subst (HasVerdict profile files) (same_Some (Load rule) verdict e) holds
  verdict_told (check.Refused refusal) met verdict e =
      let faults = rw (none met.taken met.listed met.seen) at met.faults in
      subst (HasVerdict profile files) (same_Some (Refused (plain_refusal refusal)) verdict e)
      (first_told profile files (plain_refusal refusal) met.others faults)
  verdict_told check.Memory met verdict e = absurd cc

  -- or it has seen all statements, which are accepted
  pub all_accepted : (p : Progress)
      → (visited : HasVisited has_seen profile files first now p)
      → (end : IsAtEnd profile files p) × (end.statements ≡ visited.statements)
  all_accepted p visited =
      visited.clean (none visited.statements visited.listed visited.seen)

-- ## One that lists all

-- it lists none where the list of code is empty
pub none_there : (refusals : Vec Refusal Global) → (vec_len refusals == 0) ≡ true
    → refusals.items ≡ []
none_there refusals e =
    let long : vec_len refusals ≡ length refusals.items = search rules in
    nil_from_length refusals.items (sym long ∙ eqb-true (vec_len refusals) 0 e)

-- and some where it isn't
pub some_there : (refusals : Vec Refusal Global) → (vec_len refusals == 0) ≡ false
    → 0 < length refusals.items
some_there refusals e =
    let long : vec_len refusals ≡ length refusals.items = search rules in
    elim (cases_lt 0 (length refusals.items)) [
      | inl some ↦ some
      | inr none ↦
          let zero : vec_len refusals ≡ 0 = omega (arith, long, none) in
          absurd (cc (e, rw zero at e))
    ]
