-- The fault that ends a run: that it is one of the text or of meaning, and that the facts that are
-- written explain it. `text_fault.rt`, `last.rt` and `why.rt` rest on it.
use Rattle.std.proofs.Common.{◌≡◌, ℕ, ◌-◌, List, [], ◌∷◌, ◌++◌, map, filter, length, Bool, true, false}
use Rattle.std.proofs.Common.{Option, Some, None, if◌then◌else◌, slice_get, inl, inr, refl, sym, ap}
use Rattle.std.proofs.Common.{Result, Ok, Err, OnOk, option_map}
use Rattle.std.proofs.Common.{◌∙◌, subst, arith, length-append, append_assoc, append-nil}
use Rattle.std.proofs.lemmas.List.{map-append}
use Rattle.std.proofs.lemmas.List.Elements.{filter-append}
use Rattle.std.proofs.lemmas.Grind.{flat_map-append}
use Rattle.mm_text.specs.declared.fault.TextRule.{TextRule}
use Rattle.mm_text.specs.declared.fault.TextRule.TheVariants.{S6, X6}
use Rattle.mm_base.specs.Token.{PlainToken, plain_token}
use Rattle.mm_base.specs.declared.token.Token.{Token}
use Rattle.mm_base.specs.Statement.{PlainStatement}
use Rattle.mm_base.specs.Blocks.{is_closing}
use Rattle.mm_text.specs.Files.{PlainFile}
use Rattle.mm_text.specs.Reading.{PlainFault, Reads}
use Rattle.mm_base.proofs.Lists.{get_pushed}
use Rattle.mm_frame.specs.Rules.{AllMeant}
use Rattle.mm_step.specs.declared.profile.Profile.{Profile}
use Rattle.mm_rules.specs.Verdict.{PlainRefusal, CanBeRead, sentences, text_refusal}
use Rattle.mm_verdict.specs.Faults.{AreRefused, HaveFaults}
use Rattle.mm_verdict.specs.Why.{is_of_proofs}
use Rattle.mm_rules.specs.declared.rule.Rule.TheVariants as rules
use Rattle.mm_facts.specs.Explained.{Detail, token_at_fault, detail_text, details_text}
use Rattle.mm_rules.specs.Places.{bytes_of}
use Rattle.mm_explain.specs.TextFacts.{AreBegun, AreOrigins, AreTextFacts, blocks_closed}
use Rattle.mm_explain.specs.TextFacts.{blocks_opened, closing_tokens, missing_facts}
use Rattle.mm_facts.proofs.LackingDetails.{both_told}
use Rattle.mm_explain.specs.TextFacts.{files_up_to, last_of, places_begun, token_from, unclosed_in}
use Rattle.mm_explain.specs.Mirror.Last.{EndsRun, IsBegin, IsOpenBlock, TellsOrigins}
use Rattle.mm_explain.proofs.InnermostBlocks.{opened_there}
use Rattle.mm_verdict.proofs.Verdicts.FaultLists.{meant_more}

-- ==== what ends the run

-- a list isn't empty where something stands in it
not_empty : {X : Type 0} (xs ys : List X) (x : X) → xs ++ x ∷ ys ≡ [] → ⊥
not_empty [] ys x e = cc e
not_empty (z ∷ xs) ys x e = cc e

module _ (profile : Profile) (files : List PlainFile) (readable : CanBeRead files)
    (last : PlainRefusal) (other : is_of_proofs last.rule ≡ false) where
  -- the last refusal is of the text or of meaning
  last_refused : (before left : List PlainStatement) (ending : Option PlainFault)
      (listed : List PlainRefusal) → Reads files (before ++ left) ending
      → AllMeant (sentences before)
      → AreRefused profile files before left ending (listed ++ last ∷ []) → EndsRun files last
  last_refused before [] None listed reads meant refused =
      absurd (not_empty listed [] last refused)
  last_refused before [] (Some fault) [] reads meant refused =
      inl (record {
        readable = readable;
        statements = before;
        fault = fault;
        reads = rw (append-nil before) at reads;
        refused = cc refused;
      })
  last_refused before [] (Some fault) (one ∷ listed) reads meant refused =
      let none : listed ++ last ∷ [] ≡ [] = cc refused in
      absurd (not_empty listed [] last none)
  last_refused before (s ∷ left) ending listed reads meant (inl (obeys, rest)) =
      last_refused (before ++ s ∷ []) left ending listed
      (rw (← append_assoc before (s ∷ []) left) at reads)
      (meant_more before s meant obeys.meant) rest
  last_refused before (s ∷ left) ending [] reads meant (inr (inl (first, proof, others, rest, same))) =
      let mine : last ≡ first = cc same in
      let rule : is_of_proofs last.rule ≡ true =
      ap (λ (r : PlainRefusal). is_of_proofs r.rule) (mine ∙ proof.refused) in
      absurd (cc (rule, other))
  last_refused before (s ∷ left) ending (one ∷ listed) reads meant
      (inr (inl (first, proof, others, rest, same))) =
      let left_over : others ≡ listed ++ last ∷ [] = cc same in
      last_refused (before ++ s ∷ []) left ending listed
      (rw (← append_assoc before (s ∷ []) left) at reads)
      (meant_more before s meant proof.meant) (rw left_over at rest)
  last_refused before (s ∷ left) ending [] reads meant (inr (inr (final, meaning, same))) =
      let mine : last ≡ final = cc same in
      inr (record {
        readable = readable;
        before = before;
        s = s;
        after = left;
        ending = ending;
        reads = reads;
        meant = meant;
        refused = rw mine meaning;
      })
  last_refused before (s ∷ left) ending (one ∷ listed) reads meant
      (inr (inr (final, meaning, same))) =
      let none : listed ++ last ∷ [] ≡ [] = cc same in
      absurd (not_empty listed [] last none)

-- nothing stands before the first statement
none_meant : AllMeant []
none_meant before after s e = absurd (not_empty before after s (sym e))

-- the refusal after those of proofs ends the run
pub ends_run : (profile : Profile) (files : List PlainFile) (listed : List PlainRefusal)
    (last : PlainRefusal) → is_of_proofs last.rule ≡ false
    → HaveFaults profile files (listed ++ last ∷ []) → EndsRun files last
ends_run profile files listed last other faults =
    last_refused profile files faults.readable last other [] faults.statements faults.ending listed
    faults.reads none_meant faults.refused

-- ==== the last `$}`

-- the last one of those that one more follows
last_pushed : {X : Type 0} (xs : List X) (x : X) → last_of (xs ++ x ∷ []) ≡ Some x
last_pushed xs x =
    let at : length (xs ++ x ∷ []) - 1 ≡ length xs = omega (arith, length-append xs (x ∷ [])) in
    ap (slice_get (xs ++ x ∷ [])) at ∙ get_pushed xs x

-- the tokens of `$}`, with one statement more
closing_more : (so_far : List PlainStatement) (s : PlainStatement)
    → closing_tokens (so_far ++ s ∷ []) ≡ closing_tokens so_far ++ closing_tokens (s ∷ [])
closing_more so_far s =
    ap (map (λ (t : PlainStatement). t.first))
    (filter-append (λ (t : PlainStatement). is_closing t.kind) so_far (s ∷ []))
    ∙ map-append (λ (t : PlainStatement). t.first)
    (filter (λ (t : PlainStatement). is_closing t.kind) so_far)
    (filter (λ (t : PlainStatement). is_closing t.kind) (s ∷ []))

-- the last `$}`, with one statement more
pub last_closing : (so_far : List PlainStatement) (s : PlainStatement) (b : Bool)
    → is_closing s.kind ≡ b
    → last_of (closing_tokens (so_far ++ s ∷ []))
    ≡ (if b then Some s.first else last_of (closing_tokens so_far))
last_closing so_far s true is =
    let own : closing_tokens (s ∷ []) ≡ s.first ∷ [] = rw is refl in
    ap last_of (closing_more so_far s ∙ ap (λ ts. closing_tokens so_far ++ ts) own)
    ∙ last_pushed (closing_tokens so_far) s.first
last_closing so_far s false is =
    let own : closing_tokens (s ∷ []) ≡ [] = rw is refl in
    ap last_of (closing_more so_far s ∙ ap (λ ts. closing_tokens so_far ++ ts) own
    ∙ append-nil (closing_tokens so_far))

-- ==== the facts

-- what tells the origins of any fault that the files are refused for with this refusal
abbrev pub TellsAll : (source : Bool) → List PlainFile → PlainRefusal → (old new : List ℕ) → Type 0
TellsAll source files refusal old new =
    (statements : List PlainStatement) (fault : PlainFault) → Reads files statements (Some fault)
    → refusal ≡ text_refusal files fault → TellsOrigins source files statements fault old new

-- a fault of another rule stands in what isn't closed before it
other_origins : (source : Bool) (files : List PlainFile) (statements : List PlainStatement)
    (fault : PlainFault) (rule : TextRule) (details : List Detail) → ¬ (rule ≡ S6) → ¬ (rule ≡ X6)
    → AreBegun files fault details → AreOrigins source files statements fault rule details
other_origins source files statements fault S6 details closed opened e = absurd (closed refl)
other_origins source files statements fault X6 details closed opened e = absurd (opened refl)
other_origins source files statements fault rule details closed opened e = e

-- what isn't closed before the fault that is refused
begun_there : (files : List PlainFile) (refusal : PlainRefusal) (fault : PlainFault)
    (begin : Option ℕ) → refusal ≡ text_refusal files fault
    → IsBegin files refusal.file refusal.at begin
    → AreBegun files fault (places_begun files refusal.file begin)
begun_there files refusal fault begin refused begins = (
  begins.earlier,
  begins.ending,
  subst (λ (p : PlainRefusal). Reads (files_up_to files p.file p.at) begins.earlier
      begins.ending) refused begins.reads,
  ap (places_begun files refusal.file) begins.same
      ∙ ap (λ (p : PlainRefusal). places_begun files p.file (unclosed_in p.file begins.ending)) refused,
)

module _ {T E : Type 0} (source : Bool) (files : List PlainFile) (refusal : PlainRefusal)
    (old new : List ℕ) where
  -- for S6 the last block that is closed
  pub block_told : (r : Result T E) (closed : Option PlainToken)
      → refusal.rule ≡ rules.Text S6
      → ((statements : List PlainStatement) (ending : Option PlainFault)
      → Reads files statements ending → closed ≡ last_of (closing_tokens statements))
      → OnOk r (new ≡ old ++ details_text (blocks_closed files closed))
      → OnOk r (TellsAll source files refusal old new)
  block_told (Err e) closed is last put = tt
  block_told (Ok v) closed is last put = λ statements fault reads refused.
      let told : rules.Text fault.rule ≡ rules.Text S6 =
      ap (λ (p : PlainRefusal). p.rule) (sym refused) ∙ is in
      let rule : fault.rule ≡ S6 = cc told in
      record {
        details = blocks_closed files closed;
        begun = subst (λ (t : TextRule). AreOrigins source files statements fault t
            (blocks_closed files closed)) (sym rule)
            (ap (blocks_closed files) (last statements (Some fault) reads));
        put = put;
      }

  -- for X6 what isn't closed before it, and the innermost open block
  pub opened_told : (r : Result T E) (begin : Option ℕ) (block : Option Token)
      (middle : List ℕ) → refusal.rule ≡ rules.Text X6
      → IsBegin files refusal.file refusal.at begin
      → ((statements : List PlainStatement) (ending : Option PlainFault)
      → Reads files statements ending → IsOpenBlock statements block)
      → middle ≡ old ++ details_text (places_begun files refusal.file begin)
      → OnOk r (new ≡ middle ++ details_text (blocks_opened source files (option_map plain_token block)))
      → OnOk r (TellsAll source files refusal old new)
  opened_told (Err e) begin block middle is begins there first put = tt
  opened_told (Ok v) begin block middle is begins there first put =
      λ statements fault reads refused.
      let told : rules.Text fault.rule ≡ rules.Text X6 =
      ap (λ (p : PlainRefusal). p.rule) (sym refused) ∙ is in
      let rule : fault.rule ≡ X6 = cc told in
      let begun = places_begun files refusal.file begin in
      let opened = blocks_opened source files (option_map plain_token block) in
      record {
        details = begun ++ opened;
        begun = subst (λ (t : TextRule). AreOrigins source files statements fault t (begun ++ opened))
            (sym rule) (
              begun,
              opened,
              begun_there files refusal fault begin refused begins,
              opened_there source files statements block (there statements (Some fault) reads),
              refl,
            );
        put = put ∙ ap (λ m. m ++ details_text opened) first
            ∙ append_assoc old (details_text begun) (details_text opened)
            ∙ ap (λ t. old ++ t) (sym (flat_map-append detail_text begun opened));
      }

  -- else what isn't closed before it
  pub begin_told : (r : Result T E) (begin : Option ℕ) → ¬ (refusal.rule ≡ rules.Text S6)
      → ¬ (refusal.rule ≡ rules.Text X6) → IsBegin files refusal.file refusal.at begin
      → OnOk r (new ≡ old ++ details_text (places_begun files refusal.file begin))
      → OnOk r (TellsAll source files refusal old new)
  begin_told (Err e) begin closed opened begins put = tt
  begin_told (Ok v) begin closed opened begins put = λ statements fault reads refused.
      let rule : refusal.rule ≡ rules.Text fault.rule = ap (λ (p : PlainRefusal). p.rule) refused in
      record {
        details = places_begun files refusal.file begin;
        begun = other_origins source files statements fault fault.rule _
            (λ is. closed (rule ∙ ap rules.Text is)) (λ is. opened (rule ∙ ap rules.Text is))
            (begun_there files refusal fault begin refused begins);
        put = put;
      }

-- the token, and then where what it stands in began
pub text_told : (source : Bool) (files : List PlainFile) (refusal : PlainRefusal)
    (statements : List PlainStatement) (fault : PlainFault) → Reads files statements (Some fault)
    → refusal ≡ text_refusal files fault → (bytes token start first_out middle out : List ℕ)
    → (rule : TextRule) → rules.Text rule ≡ refusal.rule
    → bytes ≡ bytes_of files refusal.file → token ≡ token_from bytes refusal.at → start ≡ []
    → first_out ≡ start ++ detail_text (token_at_fault token)
    → middle ≡ first_out ++ details_text (missing_facts rule token)
    → TellsOrigins source files statements fault middle out
    → (details : List Detail) × AreTextFacts source files refusal refusal.at details
    × (out ≡ details_text details)
text_told source files refusal statements fault reads refused bytes token start first_out middle out
    rule ruled from is none put more told =
    let there : List ℕ = token_from (bytes_of files fault.file) fault.at in
    let same_rule : rules.Text rule ≡ rules.Text fault.rule =
    ruled ∙ ap (λ (p : PlainRefusal). p.rule) refused in
    let its : rule ≡ fault.rule = cc in
    let fact : Detail = token_at_fault there in
    let missed : List Detail = missing_facts fault.rule there in
    let word : token ≡ token_from (bytes_of files fault.file) fault.at =
    is ∙ ap (λ b. token_from b refusal.at) from
    ∙ ap (λ (p : PlainRefusal). token_from (bytes_of files p.file) p.at) refused in
    let first : first_out ≡ [] ++ details_text (fact ∷ []) =
    put ∙ ap (λ s. s ++ detail_text (token_at_fault token)) none
    ∙ ap (λ t. detail_text (token_at_fault t)) word ∙ sym (append-nil (detail_text fact)) in
    let second : middle ≡ first_out ++ details_text missed =
    more ∙ ap (λ (r : TextRule). first_out ++ details_text (missing_facts r token)) its
    ∙ ap (λ (t : List ℕ). first_out ++ details_text (missing_facts fault.rule t)) word in
    let both = both_told (fact ∷ []) missed [] first_out middle first second in (
      fact ∷ (missed ++ told.details),
      record {
        statements = statements;
        fault = fault;
        reads = reads;
        refused = refused;
        there = ap (λ (p : PlainRefusal). p.at) refused;
        origins = told.details;
        begun = told.begun;
        told = refl;
      },
      both_told (fact ∷ missed) told.details [] middle out both told.put,
    )
