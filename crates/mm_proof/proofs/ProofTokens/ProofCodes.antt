-- The list and the codes of a proof as they are read: the entries, and the moves that codes say.
use Rattle.std.proofs.Common.{◌≡◌, ℕ, suc, ◌+◌, ◌-◌, ◌<◌, ◌≤◌, List, [], ◌∷◌, ◌++◌, length, map}
use Rattle.std.proofs.Common.{take, drop, slice_get, Contains, All, Bor, Some, Result, Ok, Err, inl}
use Rattle.std.proofs.Common.{inr, ⊎_elim, refl, sym, ap, subst, ◌∙◌, arith, ◌^◌, get_or, OnOk}
use Rattle.std.proofs.Common.{flat_map}
use Rattle.std.specs.List.{AllZip, AllByRecursion}
use Rattle.std.proofs.lemmas.Option.{same_Some, slice_get_cases, slice_get-get_or, slice_get-map}
use Rattle.std.proofs.lemmas.Option.{slice_get_past}
use Rattle.std.proofs.lemmas.List.{take-map, drop-map, map_more, length-map, length-take-le}
use Rattle.std.proofs.lemmas.List.Elements.{Contains-append_right, All-from_recursion}
use Rattle.std.proofs.lemmas.List.Elements.{recursion_from_All}
use Rattle.mm_code.specs.declared.code.Code.{Code}
use Rattle.mm_code.specs.declared.code.Code.TheVariants.{Number, Tag}
use Rattle.mm_code.specs.Letters.{Letters, LettersBreak as Breaks, HasSpelling, Fills}
use Rattle.mm_code.specs.declared.code.CodeRule.{CodeRule}
use Rattle.mm_code.specs.declared.code.CodeFault.{CodeFault}
use Rattle.mm_base.specs.declared.token.Token.{Token}
use Rattle.mm_base.proofs.Lists.{zip_append, split_at, get_from_take, get_kept, zip_push}
use Rattle.mm_frame.specs.Sentence.{Sentence, IsLabelled, IsHypothesis}
use Rattle.mm_frame.specs.Active.{IsActive}
use Rattle.mm_frame.specs.Rules.{AllMeant}
use Rattle.mm_frame.specs.Form.{AllFormed, HasItsLabel}
use Rattle.mm_frame.specs.Frame.{AreMandatory, IsMandatoryAt}
use Rattle.mm_frame.specs.Numbers.{labelled_sentences}
use Rattle.mm_frame.specs.FrameIndex.{AreHypotheses}
use Rattle.mm_step.specs.declared.fault.ProofRule.{ProofRule}
use Rattle.mm_step.specs.declared.fault.ProofRule.TheVariants.{P4, P5}
use Rattle.mm_step.specs.Moves.{Move, name, again}
use Rattle.mm_proof.specs.Tokens.{IsCompressed, AreLetters, opening_token, closing_token}
use Rattle.mm_step.specs.Proof.{proof_rank}
use Rattle.mm_proof.specs.Proof.{BreaksWhole, IsWholeFault}
use Rattle.mm_step.specs.Steps.{IsUsable}
use Rattle.mm_step.specs.Plain.{token_texts, ids_in}
use Rattle.mm_proof.specs.Mirror.CodeSteps.{AreFor, NumberSays, IsReading, code_move, code_moves}
use Rattle.mm_proof.specs.Mirror.CodeSteps.{move_by, fault_behind, entry_move}
use Rattle.mm_code.specs.Layout.{texts}
use Rattle.mm_proof.specs.Answer.{OnRule}
use Rattle.mm_frame.proofs.Frames.FrameLaws.{those_hold}
use Rattle.mm_proof.proofs.ProofTokens.CodeLetters.{from_one}
use Rattle.mm_proof.proofs.ProofTokens.SaidMoves.{compressed_once, letters_once}
use Rattle.mm_proof.proofs.ProofTokens.ProofLabels.{HasLabels, labels_pass, Stands, for_stands}
use Rattle.mm_proof.proofs.ProofTokens.ProofLabels.{codes_named, whole_of}
use Rattle.std.proofs.lemmas.Slice.Zip.{AllZip-long}
use Rattle.mm_frame.specs.declared.number.LabelId.{LabelId}
use Rattle.mm_step.specs.declared.call.Call.{Call}
use Rattle.mm_proof.specs.Mirror.Machines.{Running, Allowing, Stopping, IsNext, HasStopped}
use Rattle.mm_step.specs.Mirror.CodeApply.{MayBeCalled}
use Rattle.mm_code.specs.Letters as letter
use Rattle.mm_code.specs.declared.code.CodeRule.TheVariants as code
use Rattle.mm_code.specs.declared.code.CodeFault.TheVariants as code_fault

-- ==== compressed proofs: their list, their letters, and the moves that their codes say

-- each code that letters say is a number from 1 on, or a tag
pub letters_spelled : (text : List ℕ) (codes : List Code) → Letters text codes
    → All HasSpelling codes
letters_spelled text codes l = All-from_recursion HasSpelling codes (from_one text codes l)

-- ---- the one list of a compressed proof

pub compressed_labels : (tokens listed letters : List (List ℕ)) → IsCompressed tokens listed letters → HasLabels tokens listed
compressed_labels tokens listed letters c = record {
  are = inr (letters, c);
  one = λ others are. ⊎_elim (λ n. absurd (n.0 (ap (λ l. slice_get l 0) c.whole))) (λ d. (compressed_once tokens others listed d.0 letters d.1 c).0) are;
  ends = λ b. b.1 (subst (λ l. Contains (drop 1 l) closing_token) (sym c.whole) (Contains-append_right listed (closing_token ∷ letters) closing_token (0, omega arith, refl)));
}

-- ---- letters at fault

pub cut_fault : (statements : List Sentence) (index : ℕ) (tokens : List (List ℕ)) (ids : List ℕ) (listed letters : List (List ℕ)) → AllMeant statements
    → IsCompressed tokens listed letters → AreFor statements index ids listed → Breaks code.P5 (flat_map (λ p. p) letters)
    → IsWholeFault (take index statements) tokens P5
cut_fault statements index tokens ids listed letters all c each b =
    record { broken = (flat_map (λ p. p) letters, (listed, letters, c, refl), b); first = first }
  where
    first : (other : ProofRule) → proof_rank other < proof_rank P5 → ¬ (BreaksWhole other (take index statements) tokens)
    first P4 less = λ broken.
        let same = letters_once tokens broken.0 _ broken.1 (listed, letters, c, refl) in
        let odd = subst (Breaks code.P4) same broken.2 in
        odd.4 (subst letter.IsLetter odd.3 (b.0 odd.0 odd.1 odd.2))
    first other less = labels_pass statements index tokens ids listed all
        (compressed_labels tokens listed letters c) each other (omega arith)

-- ---- the mandatory hypotheses by their numbers

-- labels of hypotheses, each of which may be used
record HypothesisLabels (statements : List Sentence) (index : ℕ) (ids : List ℕ) (hypotheses : List Sentence) : Type 0 where
  labels : List (List ℕ)
  are : map (λ h. h.label) hypotheses ≡ map Some labels
  stand : AllZip (Stands statements index) ids labels

hypotheses_labels : (statements : List Sentence) (index : ℕ) (ids : List ℕ) (hypotheses : List Sentence)
    → map (slice_get (labelled_sentences statements)) ids ≡ map Some hypotheses
    → ((i : ℕ) (h : Sentence) → slice_get hypotheses i ≡ Some h → (label : List ℕ) × IsLabelled label h × IsUsable (take index statements) label)
    → HypothesisLabels statements index ids hypotheses
hypotheses_labels statements index [] [] numbered each = record { labels = []; are = refl; stand = tt }
hypotheses_labels statements index (id ∷ ids) (h ∷ hypotheses) numbered each =
    let first = each 0 h refl in
    let there : slice_get (labelled_sentences statements) id ≡ Some h = cc in
    let rest = hypotheses_labels statements index ids hypotheses (cc) (λ i g at. each (suc i) g at) in
    let label = first.1 in
    let tail = rest.are in
    record {
      labels = first.0 ∷ rest.labels;
      are = cc;
      stand = (record { s = h; there = there; named = first.1; usable = first.2 }, rest.stand);
    }
hypotheses_labels statements index ids hypotheses numbered each = absurd cc

-- a mandatory hypothesis has a label, which may be used
mandatory_usable : (statements : List Sentence) (index : ℕ) (assertion : Sentence) (hypotheses : List Sentence) → AllFormed statements
    → AreMandatory (take index statements) assertion hypotheses → (i : ℕ) (h : Sentence) → slice_get hypotheses i ≡ Some h
    → (label : List ℕ) × IsLabelled label h × IsUsable (take index statements) label
mandatory_usable statements index assertion hypotheses formed mandatory i h at =
    let p = those_hold (IsMandatoryAt (take index statements) assertion) 0 (take index statements) hypotheses i h mandatory at in
    let zero : 0 + p.0 ≡ p.0 = omega arith in
    let active = subst (λ k. IsActive (take index statements) k) zero p.2.0 in
    let kind : IsHypothesis h.kind = ⊎_elim (λ e. inr e) (λ f. inl f.2.0) p.2.1 in
    let label = hypothesis_label h kind (formed p.0 h (get_from_take statements index p.0 h p.1).1).label in
    (label.0, label.1, inl (p.0, h, p.1, active, (label.1, kind)))
  where
    hypothesis_label : (s : Sentence) → IsHypothesis s.kind → HasItsLabel s.kind s.label → (label : List ℕ) × IsLabelled label s
    hypothesis_label s (inl f) named = let n = subst (λ k. HasItsLabel k s.label) f named in (n.0, n.1)
    hypothesis_label s (inr e) named = let n = subst (λ k. HasItsLabel k s.label) e named in (n.0, n.1)

-- ---- what a compressed proof says

pub reading_compressed : (statements : List Sentence) (index : ℕ) (own : Sentence) (tokens : List (List ℕ)) (ids hypothesis_ids : List ℕ) (listed letters : List (List ℕ))
    (cs : List Code) (steps : List (Move ℕ)) → AllMeant statements → AllFormed statements → slice_get statements index ≡ Some own
    → IsCompressed tokens listed letters → AreFor statements index ids listed
    → AreHypotheses (record { statements = statements; index = index }) hypothesis_ids
    → Letters (flat_map (λ p. p) letters) cs → ¬ (Breaks code.P4 (flat_map (λ p. p) letters)) → ¬ (Breaks code.P5 (flat_map (λ p. p) letters))
    → AllZip (NumberSays (hypothesis_ids ++ ids)) cs steps → IsReading statements index tokens steps
reading_compressed statements index own tokens ids hypothesis_ids listed letters cs steps all formed there c each h coded p4 p5 says =
    let same : h.assertion ≡ own = same_Some h.assertion own (sym h.there ∙ there) in
    let hl = hypotheses_labels statements index hypothesis_ids h.hypotheses h.numbered (mandatory_usable statements index h.assertion h.hypotheses formed h.mandatory) in
    let stand = zip_append (Stands statements index) hypothesis_ids hl.labels ids listed hl.stand (for_stands statements index ids listed each) in
    let named = codes_named statements index (hypothesis_ids ++ ids) (hl.labels ++ listed) stand cs steps says in
    let joined : (text : List ℕ) → AreLetters tokens text → text ≡ flat_map (λ p. p) letters =
    λ text a. letters_once tokens text _ a (listed, letters, c, refl) in
    record {
      whole = whole_of (take index statements) tokens (labels_pass statements index tokens ids listed all (compressed_labels tokens listed letters c) each)
          (λ b. p4 (subst (Breaks code.P4) (joined b.0 b.1) b.2)) (λ b. p5 (subst (Breaks code.P5) (joined b.0 b.1) b.2));
      own = own;
      there = there;
      moves = named.moves;
      said = inr (record {
        listed = listed;
        letters = letters;
        parts = c;
        codes = cs;
        coded = coded;
        hypotheses = h.hypotheses;
        mandatory = subst (λ (s : Sentence). AreMandatory (take index statements) s h.hypotheses) same h.mandatory;
        labels = hl.labels;
        labelled = hl.are;
        each = named.each;
      });
      numbered = named.numbered;
      usable = named.usable;
    }

-- ---- the moves that codes say

-- a code with a spelling says its move
code_says : (ids : List ℕ) (c : Code) → HasSpelling c → NumberSays ids c (code_move ids c)
code_says ids Tag spelled = refl
code_says ids (Number n) spelled = (
  n - 1,
  (let one : 1 ≤ n = spelled in omega arith),
  ⊎_elim
      (λ h. inl (h.0, h.2, ap (λ o. move_by o (n - 1 - length ids)) h.2))
      (λ h. inr (
        n - 1 - length ids,
        omega (arith, h.0),
        ap (λ o. move_by o (n - 1 - length ids)) h.1,
      ))
      (slice_get_cases ids (n - 1)).1,
)

-- codes with spellings say their moves
each_says : (ids : List ℕ) (said : List Code) → AllByRecursion HasSpelling said → AllZip (NumberSays ids) said (code_moves ids said)
each_says ids [] spelled = tt
each_says ids (c ∷ said) spelled = (code_says ids c spelled.0, each_says ids said spelled.1)

pub codes_say : (ids : List ℕ) (said : List Code) → All HasSpelling said → AllZip (NumberSays ids) said (code_moves ids said)
codes_say ids said spelled = each_says ids said (recursion_from_All HasSpelling said spelled)

-- ---- the parts, by the index of the first `)`

pub joined_texts : (tokens : List (Bor (List ℕ))) → letter.joined_tokens tokens ≡ flat_map (λ p. p) (texts tokens)
joined_texts [] = refl
joined_texts (t ∷ tokens) = ap (λ l. t.now ++ l) (joined_texts tokens)

pub parts_given : (rest prefix back : List Token) (i : ℕ) → prefix ≡ take i rest → back ≡ drop (i + 1) rest → slice_get (token_texts rest) i ≡ Some closing_token
    → ¬ (Contains (take i (token_texts rest)) closing_token) → IsCompressed (opening_token ∷ token_texts rest) (token_texts prefix) (token_texts back)
parts_given rest prefix back i f b at none =
    let start = take-map (λ t. t.text.now) i rest in
    let last = drop-map (λ t. t.text.now) (i + 1) rest in
    let one : i + 1 ≡ suc i = omega arith in
    let whole : token_texts rest ≡ token_texts prefix ++ closing_token ∷ token_texts back =
    rw (f, b, ← start, ← last, one) (split_at (token_texts rest) i closing_token at) in
    record {
      whole = ap (λ l. opening_token ∷ l) whole;
      first = λ h. none (subst (λ l. Contains l closing_token) (ap token_texts f ∙ sym start) h);
    }

-- a fault of the letters is one of the proof
pub letter_broken : (statements : List Sentence) (index : ℕ) (tokens : List (List ℕ)) (ids : List ℕ) (listed letters : List (List ℕ)) (fault : CodeFault) → AllMeant statements
    → IsCompressed tokens listed letters → AreFor statements index ids listed
    → ((rule : CodeRule) → fault ≡ code_fault.Rule rule → Breaks rule (flat_map (λ p. p) letters))
    → OnRule (fault_behind fault) (λ rule step. (step ≡ 0) × IsWholeFault (take index statements) tokens rule)
letter_broken statements index tokens ids listed letters (code_fault.Rule code.P4) all c each broken =
    (refl, record { broken = (flat_map (λ p. p) letters, (listed, letters, c, refl), broken code.P4 refl); first = labels_pass statements index tokens ids listed all (compressed_labels tokens listed letters c) each })
letter_broken statements index tokens ids listed letters (code_fault.Rule code.P5) all c each broken = (refl, cut_fault statements index tokens ids listed letters all c each (broken code.P5 refl))
letter_broken statements index tokens ids listed letters code_fault.Memory all c each broken = tt

-- letters with whose codes a list was filled break no rule
pub filled_unbroken : {X : Type 0} (r : Result X CodeFault) (cs : List Code) (text : List ℕ) → ((rule : CodeRule) → Breaks rule text → Fills r cs (Err rule))
    → OnOk r ((rule : CodeRule) → ¬ (Breaks rule text))
filled_unbroken (Ok done) cs text h = λ rule b. let e = h rule b in absurd cc
filled_unbroken (Err fault) cs text h = tt

pub ruleset letter_steps = (joined_texts, filled_unbroken)

-- ==== the codes of a proof, one after the other, and what their entries stand for

-- a prefix with one code more, which is given
codes_prefix_with : (ids : List ℕ) (said : List Code) (i : ℕ) (d c : Code) → i < length said → get_or said i d ≡ c
    → take (i + 1) (code_moves ids said) ≡ take i (code_moves ids said) ++ code_move ids c ∷ []
codes_prefix_with ids said i d c less is =
    rw (
      take-map (code_move ids) (i + 1) said,
      take-map (code_move ids) i said,
      map_more (code_move ids) said i d less,
      is,
    )

-- the move of the code at an index
pub code_there : (ids : List ℕ) (said : List Code) (i : ℕ) (d : Code) → i < length said → slice_get (code_moves ids said) i ≡ Some (code_move ids (get_or said i d))
code_there ids said i d less =
    rw (slice_get-map (code_move ids) said i, slice_get-get_or said i d less)

pub calls_long : (st : List Sentence) (at : ℕ) (ids : List ℕ) (calls : List Call) → AllZip (MayBeCalled st at) ids calls → length ids ≡ length calls
calls_long st at ids calls all = sym (AllZip-long (MayBeCalled st at) ids calls all)

module _ (ids : List ℕ) (index : ℕ) where
  -- the move at the index of an entry
  pub entry_there : {count : ℕ} → index < count → count ≡ length ids
      → (slice_get ids index ≡ Some (get_or ids index 0)) × (entry_move ids index ≡ name (get_or ids index 0))
  entry_there less all =
      let there = slice_get-get_or ids index 0 (rw all at less) in
      (there, ap (λ o. move_by o (index - length ids)) there)

  -- the move at the index of this entry
  pub entry_moves : (id : ℕ) → slice_get ids index ≡ Some id → entry_move ids index ≡ name id
  entry_moves id there = ap (λ o. move_by o (index - length ids)) there

  -- an index past the entries is that of a tag
  pub tag_there : {count : ℕ} → count ≤ index → count ≡ length ids
      → entry_move ids index ≡ again (index - count)
  tag_there past all =
      ap (λ o. move_by o (index - length ids)) (slice_get_past ids index (rw all at past))
      ∙ ap (λ n. again (index - n)) (sym all)

-- ---- a machine

-- the move of the code at an index
abbrev pub move_there : (ids : List ℕ) (said : List Code) (i : ℕ) (d c : Code) (x : Move ℕ) → i < length said → get_or said i d ≡ c → code_move ids c ≡ x
    → slice_get (code_moves ids said) i ≡ Some x
move_there ids said i d c x less is move = code_there ids said i d less ∙ ap (λ k. Some (code_move ids k)) is ∙ ap Some move

-- it comes next
abbrev pub comes_next : {M : Type 0} (has_run : Running M) (may_take : Allowing M) (first now : M) (ids : List ℕ) (said : List Code) (i : ℕ) (d c : Code) (x : Move ℕ) → i < length said
    → get_or said i d ≡ c → code_move ids c ≡ x
    → ((index : ℕ) (move : Move ℕ) → slice_get (code_moves ids said) index ≡ Some move → may_take first (take index (code_moves ids said)) move)
    → has_run first now (take i (code_moves ids said)) → i + 1 < 2 ^ 64 → IsNext has_run may_take now x
comes_next has_run may_take first now ids said i d c x less is move allowed ran few = record {
  first = first;
  prefix = take i (code_moves ids said);
  ran = ran;
  allowed = allowed i x (move_there ids said i d c x less is move);
  few = omega (arith, few, length-take-le i (code_moves ids said) (omega (arith, length-map said (code_move ids), less)));
}

-- the machine goes on by it
pub goes_on : {M : Type 0} (has_run : Running M) (may_take : Allowing M) (first new : M) (ids : List ℕ) (said : List Code) (i : ℕ) (d c : Code) (x : Move ℕ) → i < length said
    → get_or said i d ≡ c → code_move ids c ≡ x
    → ((index : ℕ) (move : Move ℕ) → slice_get (code_moves ids said) index ≡ Some move → may_take first (take index (code_moves ids said)) move)
    → (may_take first (take i (code_moves ids said)) x → has_run first new (take i (code_moves ids said) ++ x ∷ []))
    → has_run first new (take (i + 1) (code_moves ids said))
goes_on has_run may_take first new ids said i d c x less is move allowed goes =
    rw (codes_prefix_with ids said i d c less is, move) (goes (allowed i x (move_there ids said i d c x less is move)))

-- or stops at it
pub stops_at : {M F : Type 0} (may_take : Allowing M) (stops : Stopping M F) (first : M) (ids : List ℕ) (said : List Code) (i : ℕ) (d c : Code) (x : Move ℕ) (fault : F) → i < length said
    → get_or said i d ≡ c → code_move ids c ≡ x
    → ((index : ℕ) (move : Move ℕ) → slice_get (code_moves ids said) index ≡ Some move → may_take first (take index (code_moves ids said)) move)
    → (may_take first (take i (code_moves ids said)) x → stops first (take i (code_moves ids said)) x fault) → HasStopped stops first (code_moves ids said) fault
stops_at may_take stops first ids said i d c x fault less is move allowed known =
    let there = move_there ids said i d c x less is move in record { index = i; move = x; there = there; known = known (allowed i x there) }

-- the code is the number of an entry, which is this label's
abbrev pub SaysEntry : List ℕ → Code → ℕ → Type 0
SaysEntry entries c n = (index : ℕ) × (c ≡ Number (index + 1)) × (slice_get entries index ≡ Some n)

-- with more entries behind
pub entries_later : (entries more : List ℕ) (codes : List Code) (ns : List ℕ) → AllZip (SaysEntry entries) codes ns → AllZip (SaysEntry (entries ++ more)) codes ns
entries_later entries more [] [] z = tt
entries_later entries more (c ∷ codes) (n ∷ ns) z =
    ((z.0.0, z.0.1, get_kept entries more z.0.0 n z.0.2), entries_later entries more codes ns z.1)
entries_later entries more codes ns z = absurd z

-- one label more
pub says_more : (entries : List ℕ) (codes : List Code) (ids : List LabelId) (i : ℕ) (d : LabelId) (index : ℕ) → i < length ids → AllZip (SaysEntry entries) codes (ids_in (take i ids))
    → slice_get entries index ≡ Some (get_or ids i d).0 → AllZip (SaysEntry entries) (codes ++ Number (index + 1) ∷ []) (ids_in (take (i + 1) ids))
says_more entries codes ids i d index less old there =
    rw (map_more (λ (l : LabelId). l.0) ids i d less) (zip_push (SaysEntry entries) codes (ids_in (take i ids)) _ (get_or ids i d).0 old (index, refl, there))

pub entries_say : (entries : List ℕ) (codes : List Code) (ns : List ℕ) → AllZip (SaysEntry entries) codes ns → code_moves entries codes ≡ map name ns
entries_say entries [] [] z = refl
entries_say entries (c ∷ codes) (n ∷ ns) z =
    let same : z.0.0 + 1 - 1 ≡ z.0.0 = omega arith in
    let here : code_move entries c ≡ name n = ap (code_move entries) z.0.1 ∙ ap (entry_move entries) same ∙ entry_moves entries z.0.0 n z.0.2 in
    let rest = entries_say entries codes ns z.1 in
    rw (here, rest) refl
entries_say entries codes ns z = absurd z

pub entries_spelled : (entries : List ℕ) (codes : List Code) (ns : List ℕ) → AllZip (SaysEntry entries) codes ns → AllByRecursion HasSpelling codes
entries_spelled entries [] [] z = tt
entries_spelled entries (c ∷ codes) (n ∷ ns) z =
    (subst HasSpelling (sym z.0.1) (let one : 1 ≤ z.0.0 + 1 = omega arith in one), entries_spelled entries codes ns z.1)
entries_spelled entries codes ns z = absurd z

-- one call more
pub calls_more : (st : List Sentence) (at : ℕ) (entries : List LabelId) (i : ℕ) (d : LabelId) (calls : List Call) (call : Call) → i < length entries
    → AllZip (MayBeCalled st at) (ids_in (take i entries)) calls → MayBeCalled st at (get_or entries i d).0 call
    → AllZip (MayBeCalled st at) (ids_in (take (i + 1) entries)) (calls ++ call ∷ [])
calls_more st at entries i d calls call less all here =
    rw (map_more (λ (l : LabelId). l.0) entries i d less) (zip_push (MayBeCalled st at) (ids_in (take i entries)) calls (get_or entries i d).0 call all here)
