-- The listed labels and the codes of the steps of a tree are its fully shared proof.
use Rattle.std.proofs.Common.{◌≡◌, ℕ, ◌+◌, ◌<◌, List, [], ◌∷◌, ◌++◌, length, slice_get, Contains}
use Rattle.std.proofs.Common.{Some, ◌↔◌, inl, inr, ⊎_elim, refl, sym, ap, ◌∙◌, arith, map, take}
use Rattle.std.specs.List.{AllZip}
use Rattle.std.proofs.lemmas.Option.{slice_get_within, slice_get-get_or, same_Some}
use Rattle.std.proofs.lemmas.Slice.Zip.{AllZip-long}
use Rattle.mm_base.proofs.Lists.{zip_push, zip_left, get_kept, get_pushed, zip_right, zip_append}
use Rattle.mm_base.proofs.Lists.{zip_on, mapped_zip, get_from_take}
use Rattle.mm_code.specs.declared.code.Code.{Code}
use Rattle.mm_code.specs.declared.code.Code.TheVariants.{Number}
use Rattle.mm_frame.specs.Sentence.{Sentence}
use Rattle.mm_frame.specs.Rules.{AllMeant}
use Rattle.mm_forms.specs.declared.subtrees.Subtree.{Subtree}
use Rattle.mm_forms.specs.declared.subtrees.Row.{Row}
use Rattle.mm_forms.specs.declared.sharing.SharedStep.{SharedStep}
use Rattle.mm_forms.specs.declared.sharing.SharedStep.TheVariants.{Make, Repeat}
use Rattle.mm_step.specs.Tree.{Trees, none, tree, TreesFit}
use Rattle.mm_step.specs.Moves.{Move, name, again, mark}
use Rattle.mm_proof.specs.Tokens.{Says}
use Rattle.mm_forms.specs.Visits.{Visit, makes, repeats, keeps}
use Rattle.mm_forms.specs.Spelled.{IsNumberOfLabel, AreLabelsOf}
use Rattle.mm_forms.specs.Mirror.Subtrees.{AreOnce, IsTreeOf, IsSubtreeOf}
use Rattle.mm_forms.specs.Mirror.CodeSharing.{IsStepOf, IsEncoded, AreEncoded, AreSharedSteps}
use Rattle.mm_forms.specs.Mirror.CodeSharing.{labels_made, AreFirstNumbers, AreStepsPacked}
use Rattle.mm_proof.specs.Mirror.SharedSteps.{In}
use Rattle.mm_proof.proofs.Members.{Once, once_indices, in_get, get_in, contains_in}
use Rattle.mm_proof.proofs.Members.{in_contains}
use Rattle.mm_proof.proofs.Members.{indices_once}
use Rattle.mm_forms.proofs.FullSharing.OneSharing.{Marked, kept_stays}
use Rattle.mm_forms.proofs.FullSharing.SharedMoves.{Led, shared_moves}
use Rattle.mm_forms.proofs.PackedProofs.SubtreeNumbers.{one_label_of, tree_once, one_number_of}
use Rattle.mm_forms.proofs.PackedProofs.SubtreeNumbers.{subtree_once}
use Rattle.mm_frame.specs.declared.number.LabelId.{LabelId}
use Rattle.mm_frame.specs.Form.{AllFormed, IsSound}
use Rattle.mm_frame.specs.Frame.{AreMandatory}
use Rattle.mm_frame.specs.Numbers.{labelled_sentences, IsNumbered}
use Rattle.mm_frame.specs.FrameIndex.{FrameIndex, AreHypotheses}
use Rattle.mm_frame.proofs.Rules.ObeyedRules.{allmeant_prefix}
use Rattle.mm_forms.specs.OneTree.{MakeTree}
use Rattle.mm_forms.specs.Sharing.{AreFirstUses}
use Rattle.mm_forms.specs.Packing.{AreSharedProof}
use Rattle.mm_step.specs.Plain.{ids_in}
use Rattle.mm_forms.proofs.TreeBuilding.TreeWords.{made_word}
use Rattle.mm_step.proofs.ByNumbers.OneIndex.{one_index}
use Rattle.mm_proof.proofs.ProofTokens.SaidMoves.{labels_of, mandatory_active}
use Rattle.mm_forms.proofs.FullSharing.OneSharedProof.{mandatory_once}
use Rattle.mm_forms.proofs.FullSharing.SomeSharing.{labels_in, spelled_uses}

-- ==== the codes of steps say the moves that do what the steps do

-- ---- the move that does the first visit

-- the move is the first, and the others do the later visits
record First (before : List Sentence) (moves : List (Move (List ℕ))) (move : Move (List ℕ)) (kept : List Trees) (last : Trees) (end : List Trees) (v : List Visit) : Type 0 where
  others : List (Move (List ℕ))
  parts : moves ≡ move ∷ others
  row : Trees
  led : Led before others row kept last end v

led_makes : (before : List Sentence) (moves : List (Move (List ℕ))) (row : Trees) (kept : List Trees) (last : Trees) (end : List Trees) (label : List ℕ) (below : Trees) (v : List Visit)
    → Led before moves row kept last end (makes (tree label below none) ∷ v) → First before moves (name label) kept last end v
led_makes before (name m ∷ moves) row kept last end label below v l =
    let s = l.0 in
    record { others = moves; parts = cc l.1; row = s.0; led = rw (← s.2.5) (s.3, cc l.1) }
led_makes before moves row kept last end label below v l = absurd (cc l.1)

led_keeps : (before : List Sentence) (moves : List (Move (List ℕ))) (row : Trees) (kept : List Trees) (last : Trees) (end : List Trees) (t : Trees) (v : List Visit)
    → Led before moves row kept last end (keeps t ∷ v) → First before moves mark (kept ++ t ∷ []) last end v
led_keeps before (mark ∷ moves) row kept last end t v l =
    let s = l.0 in
    let same : s.1 ≡ kept ++ t ∷ [] = cc (s.2.5, l.1) in
    record { others = moves; parts = refl; row = s.0; led = rw (← same) (s.3, cc l.1) }
led_keeps before moves row kept last end t v l = absurd (cc l.1)

led_repeats : (before : List Sentence) (moves : List (Move (List ℕ))) (row : Trees) (kept : List Trees) (last : Trees) (end : List Trees) (t : Trees) (v : List Visit)
    → Led before moves row kept last end (repeats t ∷ v) → (tag : ℕ) × (slice_get kept tag ≡ Some t) × First before moves (again tag) kept last end v
led_repeats before (again tag ∷ moves) row kept last end t v l =
    let s = l.0 in
    (tag, cc (s.2.1, l.1), record { others = moves; parts = refl; row = s.0; led = rw (← s.2.3) (s.3, cc l.1) })
led_repeats before moves row kept last end t v l = absurd (cc l.1)

led_none : (before : List Sentence) (moves : List (Move (List ℕ))) (row : Trees) (kept : List Trees) (last : Trees) (end : List Trees) → Led before moves row kept last end [] → moves ≡ []
led_none before [] row kept last end l = refl
led_none before (move ∷ moves) row kept last end l = absurd (cc l.1)

-- ---- trees that are tagged

tree_of_number : (st : List Sentence) (rows : List Row) (t : Subtree) (label : List ℕ) (below u : Trees) → IsTreeOf st rows t label below → IsSubtreeOf st rows t u → u ≡ tree label below none
tree_of_number st rows t label below none is is' = absurd is'
tree_of_number st rows t label below (tree m c none) is is' =
    let same = tree_once st rows t m label c below is'.0 is in cc
tree_of_number st rows t label below (tree m c (tree n d r)) is is' = absurd is'.1

-- the tagged trees, and those that are kept, one by one
abbrev pub AreTagged : List Sentence → List Row → List Subtree → List Trees → Type 0
AreTagged st rows numbers kept = AllZip (IsSubtreeOf st rows) numbers kept

-- a tree that is kept later was not tagged yet
not_tagged : (st : List Sentence) (rows : List Row) (numbers : List Subtree) (kept end : List Trees) (t : Subtree) (label : List ℕ) (below : Trees) → AreTagged st rows numbers kept → IsTreeOf st rows t label below → Once end
    → ((i : ℕ) (u : Trees) → slice_get (kept ++ tree label below none ∷ []) i ≡ Some u → slice_get end i ≡ Some u) → ¬ (Contains numbers t)
not_tagged st rows numbers kept end t label below z is once stays has =
    let tr : Trees = tree label below none in
    let there : slice_get numbers has.0 ≡ Some t = slice_get-get_or numbers has.0 t has.1 ∙ ap Some has.2 in
    let beside = zip_left (IsSubtreeOf st rows) numbers kept has.0 t z there in
    let old : slice_get kept has.0 ≡ Some tr = beside.1 ∙ ap Some (tree_of_number st rows t label below beside.0 is beside.2) in
    let less : has.0 < length kept = slice_get_within kept has.0 tr old in
    let same : has.0 ≡ length kept = once_indices end has.0 (length kept) tr once (stays has.0 tr (get_kept kept (tr ∷ []) has.0 tr old)) (stays (length kept) tr (get_pushed kept tr)) in
    omega (arith, less, same)

-- ---- what a code says

label_said : (st : List Sentence) (numbers : List ℕ) (labels : List (List ℕ)) (n index : ℕ) (label : List ℕ) → AllZip (IsNumberOfLabel st) numbers labels → IsNumberOfLabel st n label → slice_get numbers index ≡ Some n
    → Says labels (Number (index + 1)) (name label)
label_said st numbers labels n index label z is there =
    let at = zip_left (IsNumberOfLabel st) numbers labels index n z there in
    let same : at.0 ≡ label = one_label_of st n at.0 label at.2 is in
    (index, refl, inl (label, at.1 ∙ ap Some same, refl))

-- ---- the codes

-- what the whole of the steps is: which trees are repeated, and what is kept at the end
pub record Whole (st : List Sentence) (rows : List Row) (numbers : List ℕ) (labels : List (List ℕ)) (repeated : List Subtree) (steps : List Visit) (end : List Trees) : Type 0 where
  pub meant : AllMeant st
  pub rows_once : AreOnce rows
  pub labelled : AllZip (IsNumberOfLabel st) numbers labels
  pub repeats_are : (t : Subtree) (label : List ℕ) (below : Trees) → IsTreeOf st rows t label below → Contains repeated t ↔ In steps (repeats (tree label below none))
  pub end_once : Once end

-- the codes of the later steps are said, whatever moves do them
abbrev SaidLater : List Sentence → List Sentence → List Row → List (List ℕ) → List Subtree → List Trees → Trees → List Trees → List Visit → List Code → Type 0
SaidLater st before rows labels tagged kept last end rest codes =
    (moves : List (Move (List ℕ))) (row : Trees) → Led before moves row kept last end rest → AreTagged st rows tagged kept → AllZip (Says labels) codes moves

pub codes_said : (st before : List Sentence) (rows : List Row) (numbers : List ℕ) (labels : List (List ℕ)) (repeated : List Subtree) (whole : List Visit) (last : Trees) (end : List Trees)
    → Whole st rows numbers labels repeated whole end
    → (steps : List SharedStep) (v w : List Visit) (tagged : List Subtree) (kept : List Trees) (codes : List Code) (tagged' : List Subtree) (moves : List (Move (List ℕ))) (row : Trees)
    → AllZip (IsStepOf st rows) steps v → Marked whole v w → Led before moves row kept last end w → AreTagged st rows tagged kept
    → AreEncoded numbers repeated tagged steps codes tagged' → AllZip (Says labels) codes moves
codes_said st before rows numbers labels repeated whole last end a [] [] w tagged kept codes tagged' moves row z m l tags e =
    rw (e.0, led_none before moves row kept last end (rw m at l)) tt
codes_said st before rows numbers labels repeated whole last end a (Make t ∷ steps) (x ∷ v) w tagged kept codes tagged' moves row z m l tags e =
    let o : (label : List ℕ) × (below : Trees) × IsTreeOf st rows t label below × (x ≡ makes (tree label below none)) = z.0 in
    let tr : Trees = tree o.0 o.1 none in
    let here : Marked whole (makes tr ∷ v) w = rw o.3 at m in
    let i : IsEncoded numbers repeated tagged (Make t) e.0 e.1 = e.4 in
    let said : Says labels (Number (i.0 + 1)) (name o.0) = label_said st numbers labels t.label i.0 o.0 a.labelled o.2.named i.1 in
    let among = a.repeats_are t o.0 o.1 o.2 in
    let later : (kept' : List Trees) → SaidLater st before rows labels e.1 kept' last end here.0 e.2 = λ kept' moves' row' l' tags'.
    codes_said st before rows numbers labels repeated whole last end a steps v here.0 e.1 kept' e.2 tagged' moves' row' z.1 here.1 l' tags' e.5 in
    ⊎_elim
    (λ p. ⊎_elim
    -- its tree is repeated, so it is tagged
    (λ q.
    let f = led_makes before moves row kept last end o.0 o.1 (keeps tr ∷ here.0) (rw q.1 at l) in
    let g = led_keeps before f.others f.row kept last end tr here.0 f.led in
    let fresh = not_tagged st rows tagged kept end t o.0 o.1 tags o.2 a.end_once
    (kept_stays before g.others g.row (kept ++ tr ∷ []) last end g.led.0) in
    let added : e.1 ≡ tagged ++ t ∷ [] = ⊎_elim (λ k. absurd (fresh k.0)) (λ k. k.1) p.2 in
    let more : AreTagged st rows e.1 (kept ++ tr ∷ []) =
    rw added (zip_push (IsSubtreeOf st rows) tagged kept t tr tags (o.2, tt)) in
    rw (e.3, p.1, f.parts, g.parts)
    (said, (refl, later (kept ++ tr ∷ []) g.others g.row g.led more)))
    (λ q. absurd (q.0 (among.0 p.0))) here.2)
    (λ p. ⊎_elim
    (λ q. absurd (p.0 (among.1 q.0)))
    (λ q.
    let f = led_makes before moves row kept last end o.0 o.1 here.0 (rw q.1 at l) in
    rw (e.3, p.1, f.parts) (said, later kept f.others f.row f.led (rw p.2 tags))) here.2)
    i.2
codes_said st before rows numbers labels repeated whole last end a (Repeat t ∷ steps) (x ∷ v) w tagged kept codes tagged' moves row z m l tags e =
    let o : (label : List ℕ) × (below : Trees) × IsTreeOf st rows t label below × (x ≡ repeats (tree label below none)) = z.0 in
    let tr : Trees = tree o.0 o.1 none in
    let here : Marked whole (repeats tr ∷ v) w = rw o.3 at m in
    let i : IsEncoded numbers repeated tagged (Repeat t) e.0 e.1 = e.4 in
    let later : SaidLater st before rows labels e.1 kept last end here.0 e.2 = λ moves' row' l' tags'.
    codes_said st before rows numbers labels repeated whole last end a steps v here.0 e.1 kept e.2 tagged' moves' row' z.1 here.1 l' tags' e.5 in
    let led = rw here.2 at l in
    let f = led_repeats before moves row kept last end tr here.0 led in
    let found = zip_left (IsSubtreeOf st rows) tagged kept i.0 t tags i.1 in
    let there : slice_get kept i.0 ≡ Some tr = found.1 ∙ ap Some (tree_of_number st rows t o.0 o.1 found.0 o.2 found.2) in
    let stays = kept_stays before moves row kept last end led.0 in
    let at : i.0 ≡ f.0 = once_indices end i.0 f.0 tr a.end_once (stays i.0 tr there) (stays f.0 tr f.1) in
    let long = sym (AllZip-long (IsNumberOfLabel st) numbers labels a.labelled) in
    rw (e.3, i.2, f.2.parts, at) (
      (length numbers + f.0, refl, inr (f.0, ap (λ k. k + f.0) long, refl)),
      later f.2.others f.2.row f.2.led (rw i.3 tags),
    )
codes_said st before rows numbers labels repeated whole last end a steps v w tagged kept codes
    tagged' moves row z m l tags e = absurd z

-- ==== the listed labels and the codes of the steps of a tree are its fully shared proof

-- ---- numbers of labels

-- the numbers of the hypotheses are those of their labels
own_labels : (st : List Sentence) (numbers : List ℕ) (hypotheses : List Sentence) (labels : List (List ℕ)) → map (slice_get (labelled_sentences st)) numbers ≡ map Some hypotheses
    → map (λ (h : Sentence). h.label) hypotheses ≡ map Some labels → AllZip (IsNumberOfLabel st) numbers labels
own_labels st numbers hypotheses labels p q =
    zip_on (λ n h. slice_get (labelled_sentences st) n ≡ Some h)
    (λ (h : Sentence) l. h.label ≡ Some l) _
    (λ n h l there named. record { s = h; there = there; named = named }) numbers hypotheses labels
    (mapped_zip _ Some _ (λ n h e. e) numbers hypotheses p)
    (mapped_zip (λ (h : Sentence). h.label) Some _ (λ h l e. e) hypotheses labels q)

-- different labels have different numbers
numbers_once : (st : List Sentence) (numbers : List ℕ) (labels : List (List ℕ)) → AllZip (IsNumberOfLabel st) numbers labels → Once labels → Once numbers
numbers_once st numbers labels z once = indices_once numbers (λ i j n p q.
    let a = zip_left (IsNumberOfLabel st) numbers labels i n z p in
    let b = zip_left (IsNumberOfLabel st) numbers labels j n z q in
    once_indices labels i j b.0 once (a.1 ∙ ap Some (one_label_of st n a.0 b.0 a.2 b.2)) b.1)

-- numbers that are different are all listed
first_all : (seen numbers listed : List ℕ) → Once numbers → ((n : ℕ) → In numbers n → ¬ (In seen n)) → AreFirstNumbers seen numbers listed → listed ≡ numbers
first_all seen [] listed once fresh u = u
first_all seen (n ∷ numbers) listed once fresh (inl u) = absurd (fresh n (inl refl) (contains_in seen n u.0))
first_all seen (n ∷ numbers) listed once fresh (inr u) =
    u.2 ∙ ap (λ l. n ∷ l) (first_all (n ∷ seen) numbers u.1 once.1
    (λ m h k. let old = fresh m (inr h) in grind arith) u.3)

-- the labels of listed numbers are the listed labels
record Named (st : List Sentence) (listed : List ℕ) (seen word : List (List ℕ)) : Type 0 where
  labels : List (List ℕ)
  are : AllZip (IsNumberOfLabel st) listed labels
  first : AreFirstUses seen word labels

seen_number : (st : List Sentence) (seen : List ℕ) (names : List (List ℕ)) (n : ℕ) (label : List ℕ) → AllZip (IsNumberOfLabel st) seen names → IsNumberOfLabel st n label → Contains seen n → Contains names label
seen_number st seen names n label z is has =
    let at = in_get seen n (contains_in seen n has) in
    let beside = zip_left (IsNumberOfLabel st) seen names at.0 n z at.1 in
    in_contains names label (get_in names at.0 label (beside.1 ∙ ap Some (one_label_of st n beside.0 label beside.2 is)))

seen_label : (st : List Sentence) (seen : List ℕ) (names : List (List ℕ)) (n : ℕ) (label : List ℕ) → AllMeant st → AllZip (IsNumberOfLabel st) seen names → IsNumberOfLabel st n label → Contains names label → Contains seen n
seen_label st seen names n label all z is has =
    let at = in_get names label (contains_in names label has) in
    let beside = zip_right (IsNumberOfLabel st) seen names at.0 label z at.1 in
    in_contains seen n (get_in seen at.0 n (beside.1 ∙ ap Some (one_number_of st beside.0 n label all beside.2 is)))

named_uses : (st : List Sentence) (seen numbers listed : List ℕ) (names word : List (List ℕ)) → AllMeant st → AllZip (IsNumberOfLabel st) seen names → AllZip (IsNumberOfLabel st) numbers word
    → AreFirstNumbers seen numbers listed → Named st listed names word
named_uses st seen [] listed names [] all z y u = record { labels = []; are = rw u tt; first = refl }
named_uses st seen (n ∷ numbers) listed names (l ∷ word) all z y (inl u) =
    let r = named_uses st seen numbers listed names word all z y.1 u.1 in
    record { labels = r.labels; are = r.are; first = inl (seen_number st seen names n l z y.0 u.0, r.first) }
named_uses st seen (n ∷ numbers) listed names (l ∷ word) all z y (inr u) =
    let r = named_uses st (n ∷ seen) numbers u.1 (l ∷ names) word all (y.0, z) y.1 u.3 in
    record {
      labels = l ∷ r.labels;
      are = rw u.2 (y.0, r.are);
      first = inr (λ has. u.0 (seen_label st seen names n l all z y.0 has), r.labels, refl, r.first);
    }
named_uses st seen numbers listed names word all z y u = absurd y

-- the labels by which steps make trees
step_labels : (st : List Sentence) (rows : List Row) (steps : List SharedStep) (v : List Visit) → AllZip (IsStepOf st rows) steps v → AllZip (IsNumberOfLabel st) (labels_made steps) (labels_in v)
step_labels st rows [] [] z = tt
step_labels st rows (Make t ∷ steps) (x ∷ v) z =
    rw z.0.3 (z.0.2.named, step_labels st rows steps v z.1)
step_labels st rows (Repeat t ∷ steps) (x ∷ v) z = rw z.0.3 (step_labels st rows steps v z.1)
step_labels st rows steps v z = absurd z

labels_of_ids : (st : List Sentence) (ids : List LabelId) (labels : List (List ℕ)) → AllZip (IsNumberOfLabel st) (ids_in ids) labels → AreLabelsOf st ids labels
labels_of_ids st [] [] z = tt
labels_of_ids st (id ∷ ids) (l ∷ labels) z = (z.0, labels_of_ids st ids labels z.1)
labels_of_ids st ids labels z = absurd z

-- ---- the trees that are repeated

repeats_of : (st : List Sentence) (rows : List Row) (steps : List SharedStep) (v : List Visit) (repeated : List Subtree) → AllMeant st → AreOnce rows → AllZip (IsStepOf st rows) steps v
    → ((t : Subtree) → Contains repeated t ↔ Contains steps (Repeat t))
    → (t : Subtree) (label : List ℕ) (below : Trees) → IsTreeOf st rows t label below → Contains repeated t ↔ In v (repeats (tree label below none))
repeats_of st rows steps v repeated all once z each t label below is = (
  λ has.
      let at = in_get steps (Repeat t) (contains_in steps (Repeat t) ((each t).0 has)) in
      let beside = zip_left (IsStepOf st rows) steps v at.0 (Repeat t) z at.1 in
      let o : (label : List ℕ) × (below : Trees) × IsTreeOf st rows t label below × (beside.0 ≡ repeats (tree label below none)) = beside.2 in
      let same = tree_once st rows t o.0 label o.1 below o.2 is in
      get_in v at.0 (repeats (tree label below none)) (cc (beside.1, o.3, same.0, same.1)),
  λ has.
      let at = in_get v (repeats (tree label below none)) has in
      let beside = zip_right (IsStepOf st rows) steps v at.0 (repeats (tree label below none)) z at.1 in
      (each t).1 (in_contains steps (Repeat t) (get_in steps at.0 (Repeat t) (beside.1 ∙ ap Some (step_is beside.0 beside.2)))),
)
  where
    step_is : (s : SharedStep) → IsStepOf st rows s (repeats (tree label below none)) → s ≡ Repeat t
    step_is (Make u) o = absurd (cc o.3)
    step_is (Repeat u) o =
        let l : o.0 ≡ label = cc o.3 in
        let b : o.1 ≡ below = cc o.3 in
        ap Repeat (subtree_once st rows u t label below all once (rw (l, b) at o.2) is)

-- ---- the fully shared proof

pub packed_steps : (P : Trees → Type 0) (st : List Sentence) (index : ℕ) (s : Sentence) (rows : List Row) (label : List ℕ) (below : Trees) (steps : List SharedStep) (hypotheses : List ℕ) (ids : List LabelId) (codes : List Code)
    → AllMeant st → AllFormed (take index st) → AreOnce rows → TreesFit (take index st) (tree label below none) → slice_get st index ≡ Some s
    → AreHypotheses (record { statements = st; index = index }) hypotheses
    → AreSharedSteps P st rows (tree label below none) steps → AreStepsPacked hypotheses steps (ids_in ids) codes
    → AreSharedProof P st index s (tree label below none) ids codes
packed_steps P st index s rows label below steps hypotheses ids codes all formed once fit there own shared packed =
    let before = take index st in
    let trees : Trees = tree label below none in
    let same : own.assertion ≡ s = same_Some own.assertion s (sym own.there ∙ there) in
    let mandatory : AreMandatory before s own.hypotheses = rw same at own.mandatory in
    let named = labels_of before s own.hypotheses formed (λ i h e. let a = mandatory_active before s own.hypotheses i h mandatory e in (a.0, a.1, a.3)) in
    let numbers = own_labels st hypotheses own.hypotheses named.0 own.numbered named.1 in
    let apart : Once hypotheses = numbers_once st hypotheses named.0 numbers (mandatory_once before s own.hypotheses named.0 (allmeant_prefix st index all) mandatory named.1) in
    let given : packed.given ≡ hypotheses = first_all [] hypotheses packed.given apart (λ n h k. k) packed.own in
    let others : AreFirstNumbers hypotheses (labels_made steps) (ids_in ids) = rw given at packed.others in
    let uses = named_uses st hypotheses (labels_made steps) (ids_in ids) named.0 (labels_in shared.visits) all numbers (step_labels st rows steps shared.visits shared.said) others in
    let moves = shared_moves P before trees shared.visits fit shared.covers shared.careful in
    let whole : Whole st rows (hypotheses ++ ids_in ids) (named.0 ++ uses.labels) packed.repeated shared.visits moves.kept = record {
      meant = all;
      rows_once = once;
      labelled = zip_append (IsNumberOfLabel st) hypotheses named.0 (ids_in ids) uses.labels numbers uses.are;
      repeats_are = repeats_of st rows steps shared.visits packed.repeated all once shared.said packed.each;
      end_once = moves.once;
    } in (
      uses.labels,
      labels_of_ids st ids uses.labels uses.are,
      record {
        moves = moves.moves;
        says = record {
          hypotheses = own.hypotheses;
          mandatory = mandatory;
          labels = named.0;
          labelled = named.1;
          each =
              codes_said st before rows (hypotheses ++ ids_in ids) (named.0 ++ uses.labels) packed.repeated shared.visits trees moves.kept whole
              steps shared.visits moves.v [] [] codes packed.kept moves.moves none shared.said moves.marked moves.led tt
              (rw given at packed.said);
        };
        shared = moves.shared;
        uses = spelled_uses P trees [] shared.visits named.0 uses.labels (λ t h. absurd h) shared.covers shared.careful uses.first;
      },
    )

pub packed_made : (P : Trees → Type 0) (st : List Sentence) (id index : ℕ) (s t : Sentence) (own : FrameIndex) (rows : List Row) (label : List ℕ) (below : Trees) (names : List (Move (List ℕ))) (steps : List SharedStep) (hypotheses : List ℕ) (ids : List LabelId) (codes : List Code)
    → IsSound st → AreOnce rows → IsNumbered st id index s → own.statements ≡ st → IsNumbered st id own.index t → AreHypotheses own hypotheses → MakeTree (take index st) names label below
    → AreSharedSteps P st rows (tree label below none) steps → AreStepsPacked hypotheses steps (ids_in ids) codes → AreSharedProof P st index s (tree label below none) ids codes
packed_made P st id index s t own rows label below names steps hypotheses ids codes sound once numbered book its are made shared packed =
    let at : own.index ≡ index = one_index st id own.index index t s its numbered in
    let fit = made_word (take index st) names (tree label below none) made.kept made.made in
    packed_steps P st index s rows label below steps hypotheses ids codes sound.0 (λ i u e. sound.1 i u (get_from_take st index i u e).1) once fit.1 numbered.there
    (rw (← book, ← at) are) shared packed
