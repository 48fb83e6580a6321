-- The way through the statements, what is listed of them, and their types. On this file rests the
-- contract of `find`.
use Rattle.std.proofs.Common.{◌≡◌, ℕ, List, [], ◌∷◌, ◌++◌, true, false, Option, Some, None}
use Rattle.std.proofs.Common.{inl, inr, refl, sym, ap, subst, ◌∙◌, arith, append-nil, append_assoc}
use Rattle.std.proofs.lemmas.List.{map-append}
use Rattle.mm_text.specs.Files.{PlainFile}
use Rattle.mm_text.specs.Reading.{Reads}
use Rattle.mm_text.specs.Remaining.{Remaining, IsUnread}
use Rattle.mm_base.specs.Statement.{PlainStatement, HasForm}
use Rattle.mm_frame.specs.declared.answer.Taken.{Taken}
use Rattle.mm_frame.specs.Rules.{FirstBroken, IsMeant}
use Rattle.mm_frame.specs.Sentence.{Sentence, sentence_of}
use Rattle.mm_frame.specs.Taken.{TakenAs}
use Rattle.mm_rules.specs.declared.fault.CheckFault.{CheckFault}
use Rattle.mm_rules.specs.declared.fault.CheckFault.TheVariants as check
use Rattle.mm_rules.specs.declared.fault.Refusal.{Refusal}
use Rattle.mm_rules.specs.declared.fault.Stop.{Stop}
use Rattle.mm_rules.specs.declared.fault.Stop.TheVariants as stop
use Rattle.mm_rules.specs.declared.progress.Progress.{Progress}
use Rattle.mm_rules.specs.declared.rule.Rule.TheVariants as rules
use Rattle.mm_rules.specs.Answer.{plain_refusal}
use Rattle.mm_rules.specs.Mirror.Judged.{fault_of}
use Rattle.mm_rules.specs.Verdict.{CanBeRead, refusal_of, sentences}
use Rattle.mm_verdict.specs.Faults.{IsMeaningRefusal}
use Rattle.mm_verdict.specs.Mirror.Judged.{HasTaken, StopsTurn, TakesNext, RefusesLoad}
use Rattle.mm_verdict.specs.Mirror.Taking.{TakesAs, TakesTurn}
use Rattle.mm_verdict.proofs.Verdicts.AcceptedStatements.{same_reading}
use Rattle.mm_verdict.proofs.Verdicts.FaultLists.{meant_more, none_meant}
use Rattle.mm_verdict.proofs.Verdicts.StatementByStatement.{taken_more}
use Rattle.mm_find.specs.Found.{PlainQuery, AreListed, IsListedOf, IsListOf, IsRefusedUnproved}
use Rattle.mm_find.specs.Found.{IsUnlisted}
use Rattle.mm_find.specs.declared.query.Matching.{Matching}
use Rattle.mm_find.specs.declared.query.Matching.TheVariants.{Shapes, Variants}
use Rattle.mm_find.specs.declared.types.Types.{Types}
use Rattle.mm_find.specs.Variant.{AreTypeCodes}
use Rattle.mm_find.specs.Mirror.Types.{HasAskedTypes, HasTypesOf, IsTyping, type_in}
use Rattle.mm_find.specs.Mirror.Walk.{IsListing, IsListOfAll, IsTakenLast, IsUnderway}
use Rattle.mm_find.specs.Mirror.Walk.{StopsListing}

-- ---- what is listed of one statement more

module _ (query : PlainQuery) (type_of : List ℕ → Option (List ℕ)) where
  listed_more : (before left : List Sentence) (s : Sentence) (text line : List ℕ)
      → AreListed query type_of before left text
      → IsListedOf query type_of (before ++ left) s line
      → AreListed query type_of before (left ++ s ∷ []) (text ++ line)
  listed_more before [] s text line none one = (
    line,
    [],
    ap (λ (t : List ℕ). t ++ line) none ∙ sym (append-nil line),
    subst (λ (ss : List Sentence). IsListedOf query type_of ss s line) (append-nil before) one,
    refl,
  )
  listed_more before (t ∷ left) s text line (first, others, is, here, rest) one = (
    first,
    others ++ line,
    ap (λ (r : List ℕ). r ++ line) is ∙ append_assoc first others line,
    here,
    listed_more (before ++ t ∷ []) left s others line rest
        (subst (λ (ss : List Sentence). IsListedOf query type_of ss s line)
        (sym (append_assoc before (t ∷ []) left)) one),
  )

-- ---- the way

-- before the first statement
first_way : (files : List PlainFile) (p : Progress) (left : Remaining)
    → IsUnread files left → CanBeRead files → HasTaken [] p → p.lines ≡ files
    → IsUnderway files p left
first_way files p left unread readable taken lines = record {
  read = record {
    earlier = [];
    readable = readable;
    reads = unread.reads;
    taken = taken;
    lines = lines;
  };
  meant = none_meant;
}

pub lists_first : (query : PlainQuery) (type_of : List ℕ → Option (List ℕ))
    (files : List PlainFile) (p : Progress) (left : Remaining)
    → IsUnread files left → CanBeRead files → HasTaken [] p → p.lines ≡ files
    → IsListing query type_of files p left []
unfolding first_way
lists_first query type_of files p left unread readable taken lines = record {
  way = first_way files p left unread readable taken lines;
  listed = refl;
}

pub types_first : (types : Types) (files : List PlainFile) (p : Progress) (left : Remaining)
    → IsUnread files left → CanBeRead files → HasTaken [] p → p.lines ≡ files
    → AreTypeCodes [] (type_in types) → IsTyping files p left types
unfolding first_way
types_first types files p left unread readable taken lines none = record {
  way = first_way files p left unread readable taken lines;
  typed = none;
}

module _ (files : List PlainFile) (p : Progress) (old : Remaining) (way : IsUnderway files p old)
  where
    abbrev pub earlier : List PlainStatement
    earlier = way.read.earlier

    -- a statement is taken
    module _ (q : Progress) (s : PlainStatement) (new : Remaining) (next : TakesNext old true s new)
        (taken : Taken) (takes : TakesAs p s taken q) where
      next_reads : Reads files (earlier ++ s ∷ new.statements) new.ending
      next_reads = rw (next.0, sym (ap (λ (r : Remaining). r.ending) next.1)) at way.read.reads

      pub is_meant : IsMeant (sentences earlier) (sentence_of s)
      is_meant =
          subst (λ (ss : List Sentence). IsMeant ss (sentence_of s)) way.read.taken.book takes.meant

      next_has : HasTaken (earlier ++ s ∷ []) q
      next_has =
          taken_more earlier s p q way.read.taken takes.statements takes.bytes takes.count
          (omega (arith, takes.proofs))

      pub taken_last : HasForm s → IsTakenLast q.prover.book.statements taken (sentences earlier) s
      taken_last formed = record {
        whole = takes.statements ∙ ap (λ (ss : List Sentence). ss ++ sentence_of s ∷ [])
            way.read.taken.book;
        kind = subst (λ (ss : List Sentence). TakenAs ss s.kind taken) way.read.taken.book takes.kind;
        formed = formed;
      }

      way_on : IsUnderway files q new
      way_on = record {
        read = record {
          earlier = earlier ++ s ∷ [];
          readable = way.read.readable;
          reads = rw (← append_assoc earlier (s ∷ []) new.statements) at next_reads;
          taken = next_has;
          lines = takes.lines ∙ way.read.lines;
        };
        meant = meant_more earlier s way.meant is_meant;
      }

      pub lists_on : (query : PlainQuery) (type_of : List ℕ → Option (List ℕ)) (text line : List ℕ)
          → AreListed query type_of [] (sentences earlier) text
          → IsListedOf query type_of (sentences earlier) (sentence_of s) line
          → IsListing query type_of files q new (text ++ line)
      unfolding way_on
      lists_on query type_of text line listed one = record {
        way = way_on;
        listed = rw (map-append sentence_of earlier (s ∷ []))
            (listed_more query type_of [] (sentences earlier) (sentence_of s) text line listed one);
      }

      pub types_on : (types : Types)
          → AreTypeCodes (sentences earlier ++ sentence_of s ∷ []) (type_in types)
          → IsTyping files q new types
      unfolding way_on
      types_on types typed = record {
        way = way_on;
        typed = rw (map-append sentence_of earlier (s ∷ [])) typed;
      }

    -- none is left
    module _ (s : PlainStatement) (new : Remaining) (next : TakesNext old false s new) where
      all_read : Reads files earlier None
      all_read = rw (next.0, next.1, append-nil earlier) at way.read.reads

      lists_all : (query : PlainQuery) (type_of : List ℕ → Option (List ℕ)) (text : List ℕ)
          → AreListed query type_of [] (sentences earlier) text
          → IsListOfAll query type_of files text
      lists_all query type_of text listed = record {
        readable = way.read.readable;
        statements = earlier;
        reads = all_read;
        meant = way.meant;
        listed = listed;
      }

      types_all : (types : Types) → AreTypeCodes (sentences earlier) (type_in types)
          → HasTypesOf files types
      types_all types typed statements reads =
          subst (λ (ss : List PlainStatement). AreTypeCodes (sentences ss) (type_in types))
          (same_reading files earlier statements None None all_read reads).0 typed

    module _ (q : Progress) (s : PlainStatement) (new : Remaining) where
      pub lists_end : (query : PlainQuery) (type_of : List ℕ → Option (List ℕ)) (text : List ℕ)
          → AreListed query type_of [] (sentences earlier) text
          → (taken : Option Taken) → TakesTurn p old taken s q new
          → ((other : Taken) → taken ≡ Some other → ⊥)
          → IsListOfAll query type_of files text
      lists_end query type_of text listed (Some other) turned none = absurd (none other refl)
      lists_end query type_of text listed None turned none =
          lists_all s new turned query type_of text listed

      pub types_end : (types : Types) → AreTypeCodes (sentences earlier) (type_in types)
          → (taken : Option Taken) → TakesTurn p old taken s q new
          → ((other : Taken) → taken ≡ Some other → ⊥)
          → HasTypesOf files types
      types_end types typed (Some other) turned none = absurd (none other refl)
      types_end types typed None turned none = types_all s new turned types typed

    -- the files are refused
    refused_here : (refusal : Refusal) → StopsTurn files p old (stop.Refused refusal)
        → IsRefusedUnproved files (plain_refusal refusal)
    refused_here refusal (inl (none, at, ended, same)) = record {
      readable = way.read.readable;
      before = earlier;
      meant = way.meant;
      fault = inr (at, rw (none, ended, append-nil earlier) at way.read.reads, same);
    }
    refused_here refusal (inr (t, rest, next, broken)) =
        let meaning : IsMeaningRefusal files earlier t (plain_refusal refusal) = record {
          rule = broken.0;
          broken = subst (λ (ss : List Sentence). FirstBroken broken.0 ss (sentence_of t))
              way.read.taken.book broken.1;
          refused = broken.2
              ∙ ap (λ (k : ℕ). refusal_of files k t (rules.Meaning broken.0) 0) way.read.taken.count;
        } in
        record {
          readable = way.read.readable;
          before = earlier;
          meant = way.meant;
          fault = inl (t, rest.statements, old.ending, rw next.0 at way.read.reads, meaning);
        }

    pub stops_listing : (why : Stop) → StopsTurn files p old why → StopsListing files why
    stops_listing stop.Memory stops = tt
    stops_listing (stop.Refused refusal) stops = refused_here refusal stops

-- ---- what is told where there is no list

pub load_unlisted : (files : List PlainFile) (why : CheckFault) → RefusesLoad files why
    → IsUnlisted files why
load_unlisted files (check.Load rule) broken = broken
load_unlisted files (check.Refused refusal) broken = absurd broken
load_unlisted files check.Memory broken = tt

pub stop_unlisted : (files : List PlainFile) (why : Stop) → StopsListing files why
    → IsUnlisted files (fault_of why)
stop_unlisted files (stop.Refused refusal) stops = stops
stop_unlisted files stop.Memory stops = tt

-- ---- the list by the types of the files

pub listed_by : (query : PlainQuery) (types : Types) (files : List PlainFile) (text : List ℕ)
    → HasAskedTypes query.matching files types
    → IsListOfAll query (type_in types) files text → IsListOf query files text
listed_by query types files text typed all = record {
  readable = all.readable;
  statements = all.statements;
  reads = all.reads;
  meant = all.meant;
  type_of = type_in types;
  types = typed all.statements all.reads;
  listed = all.listed;
}

-- of shapes none are asked
pub asked_shapes : (matching : Matching) (files : List PlainFile) (types : Types)
    → matching ≡ Shapes → HasAskedTypes matching files types
asked_shapes Shapes files types is statements reads = tt
asked_shapes (Variants whole) files types is statements reads = absurd cc

pub asked_variants : (matching : Matching) (files : List PlainFile) (types : Types)
    → HasTypesOf files types → HasAskedTypes matching files types
asked_variants Shapes files types typed statements reads = tt
asked_variants (Variants whole) files types typed statements reads = typed statements reads
