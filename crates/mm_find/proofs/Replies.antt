-- The reply to what is sought. On this file rests the contract of `find_reply`.
use Rattle.std.proofs.Common.{◌≡◌, ℕ, suc, zero, ◌+◌, ◌<◌, ◌≤◌, List, [], ◌∷◌, ◌++◌, map, take, length}
use Rattle.std.proofs.Common.{get_or}
use Rattle.std.proofs.lemmas.Bool.{false≢true, true≢false}
use Rattle.std.proofs.Common.{Bool, true, false, Err, inl, inr, ap, sym, ◌∙◌, arith, IfSome}
use Rattle.std.specs.Global.{Vec}
use Rattle.std.specs.List.{AllByRecursion}
use denote.Ref.{Bor}
use Rattle.std.proofs.lemmas.List.{map-append, take_all, take_more}
use Rattle.mm_code.specs.Layout.{texts}
use Rattle.mm_code.specs.Words.{tokens_in}
use Rattle.mm_text.specs.Files.{PlainFile}
use Rattle.mm_rules.specs.declared.fault.CheckFault.{CheckFault}
use Rattle.mm_rules.specs.declared.fault.CheckFault.TheVariants as check
use Rattle.mm_rules.specs.Answer.{plain_refusal, verdict_of_fault}
use Rattle.mm_rules.specs.Verdict.{Load}
use Rattle.mm_verdict.specs.Reply.{Tells, status_of, text_of}
use Rattle.mm_find.specs.Found.{PlainQuery, IsUnlisted}
use Rattle.mm_find.specs.Plain.{expressions_in}
use Rattle.mm_find.specs.declared.query.Matching.TheVariants.{Shapes, Variants}
use Rattle.mm_find.specs.Reply.{IsFindReply, query_for}
use Rattle.mm_find.specs.Shape.{shape_of}

-- what holds of each pattern holds of one
pub each_at : (P : List ℕ → Type 0) (patterns : List (Bor (List ℕ))) (i : ℕ) (d : Bor (List ℕ))
    → AllByRecursion P (texts patterns) → i < length patterns → P (get_or patterns i d).now
each_at P [] i d all less = absurd (omega arith)
each_at P (p ∷ patterns) zero d all less = all.0
each_at P (p ∷ patterns) (suc i) d all less = each_at P patterns i d all.1 (omega arith)

-- one pattern more
pub patterns_next : (made : List ℕ → List (List ℕ)) (patterns : List (Bor (List ℕ))) (i : ℕ)
    (d : Bor (List ℕ)) (so_far next : List (Vec (Bor (List ℕ)))) (own : Vec (Bor (List ℕ)))
    → i < length patterns
    → texts own.items ≡ made (get_or patterns i d).now
    → next ≡ so_far ++ own ∷ []
    → expressions_in so_far ≡ map made (texts (take i patterns))
    → expressions_in next ≡ map made (texts (take (i + 1) patterns))
patterns_next made patterns i d so_far next own less is pushed told =
    let longer : map made (texts (take (i + 1) patterns))
    ≡ map made (texts (take i patterns)) ++ made (get_or patterns i d).now ∷ [] =
    ap (λ (ps : List (Bor (List ℕ))). map made (texts ps)) (take_more patterns i d less)
    ∙ ap (map made) (map-append (λ (t : Bor (List ℕ)). t.now) (take i patterns)
    (get_or patterns i d ∷ []))
    ∙ map-append made (texts (take i patterns)) ((get_or patterns i d).now ∷ []) in
    ap expressions_in pushed
    ∙ map-append (λ (v : Vec (Bor (List ℕ))). texts v.items) so_far (own ∷ [])
    ∙ ap (λ (es : List (List (List ℕ))). es ++ texts own.items ∷ []) told
    ∙ ap (λ (e : List (List ℕ)). map made (texts (take i patterns)) ++ e ∷ []) is
    ∙ sym longer

-- all of them
pub patterns_all : (made : List ℕ → List (List ℕ)) (patterns : List (Bor (List ℕ))) (i : ℕ)
    (all : List (Vec (Bor (List ℕ)))) → length patterns ≤ i
    → expressions_in all ≡ map made (texts (take i patterns))
    → expressions_in all ≡ map made (texts patterns)
patterns_all made patterns i all end told = rw (take_all i patterns end) at told

-- the query, by whether variants are asked for
pub shapes_query : (patterns : List (List ℕ)) (whole shape hypotheses : Bool)
    (made : List (List (List ℕ))) → shape ≡ false
    → made ≡ map (λ p. shape_of whole (tokens_in p)) patterns
    → (let q : PlainQuery = record {
      patterns = made;
      matching = Shapes;
      hypotheses = hypotheses;
    } in q) ≡ query_for patterns whole shape hypotheses
shapes_query patterns whole true hypotheses made is told = absurd (true≢false is)
shapes_query patterns whole false hypotheses made is told =
    ap (λ (ps : List (List (List ℕ))). let q : PlainQuery = record {
      patterns = ps;
      matching = Shapes;
      hypotheses = hypotheses;
    } in q) told

pub variants_query : (patterns : List (List ℕ)) (whole shape hypotheses : Bool)
    (made : List (List (List ℕ))) → shape ≡ true → made ≡ map tokens_in patterns
    → (let q : PlainQuery = record {
      patterns = made;
      matching = Variants whole;
      hypotheses = hypotheses;
    } in q) ≡ query_for patterns whole shape hypotheses
variants_query patterns whole false hypotheses made is told = absurd (false≢true is)
variants_query patterns whole true hypotheses made is told =
    ap (λ (ps : List (List (List ℕ))). let q : PlainQuery = record {
      patterns = ps;
      matching = Variants whole;
      hypotheses = hypotheses;
    } in q) told

-- a fault is told
pub fault_told : (query : PlainQuery) (files : List PlainFile) (fault : CheckFault) (text : List ℕ)
    (status : ℕ) → IsUnlisted files fault → Tells files (Err fault) text
    → IfSome (verdict_of_fault fault) (λ verdict. status ≡ status_of verdict)
    → IsFindReply query files text status
fault_told query files (check.Load rule) text status (broken, breaks, is) told ends =
    inr (inl (
      broken,
      breaks,
      told ∙ ap (λ r. text_of files (Load r)) is,
      ends ∙ ap (λ r. status_of (Load r)) is,
    ))
fault_told query files (check.Refused refusal) text status refused told ends =
    inr (inr (plain_refusal refusal, refused, told, ends))
fault_told query files check.Memory text status unlisted told ends = absurd told
