-- A shorter proof of a theorem: what is told of remarks, of what it rests on, and of the steps of a
-- text, is told of the statements of the files.
use Rattle.std.proofs.Common.{◌≡◌, ◌↔◌, ℕ, ◌+◌, ◌<◌, ◌≤◌, List, take, length, slice_get, Contains}
use Rattle.std.proofs.Common.{true, Option, Some, None, ◌⊎◌, inl, inr, refl, sym, subst, arith}
use Rattle.std.specs.Prelude.{IfSome, MatchOption}
use Rattle.mm_base.specs.Statement.{PlainStatement}
use Rattle.mm_text.specs.Files.{PlainFile}
use Rattle.mm_text.specs.Reading.{Reads}
use Rattle.mm_frame.specs.Numbers.{labelled_sentences}
use Rattle.mm_frame.specs.declared.number.LabelId.{LabelId}
use Rattle.mm_frame.specs.Rules.{AllMeant}
use Rattle.mm_frame.specs.Sentence.{Sentence, sentence_of}
use Rattle.mm_frame.proofs.Names.LabelNumbers.{numbered_within}
use Rattle.mm_step.specs.declared.profile.Profile.{Profile}
use Rattle.mm_forms.specs.OneTree.{MakeTree}
use Rattle.mm_step.specs.Plain.{ids_in}
use Rattle.mm_proof.specs.ReadSteps.{ReadSteps}
use Rattle.mm_step.specs.Tree.{Trees, none, tree}
use Rattle.mm_proof.specs.Used.{AreUsed}
use Rattle.mm_render.specs.declared.forms.OwnProof.{OwnProof}
use Rattle.mm_minimize.specs.declared.shortening.Shorter.{Shorter}
use Rattle.mm_verdict.specs.declared.theorem.Theorem.{Theorem}
use Rattle.mm_minimize.specs.AllShorter.{IsByOneAlone}
use Rattle.mm_rules.specs.Answer.{IsKeptOf}
use Rattle.mm_rules.specs.Conclusion.{Conclusion}
use Rattle.mm_render.specs.Forms.{IsSmallText, IsSmallOf}
use Rattle.mm_rules.specs.Rests.{AreInOrder, IsAt, RestsOn, Uses}
use Rattle.mm_forms.specs.Sharing.{HasSteps}
use Rattle.mm_render.specs.Shorter.{DerivesUnder, IsMinimized, MayUse}
use Rattle.mm_rules.specs.Verdict.{sentences}
use Rattle.mm_rules.specs.Mirror.Marks.{UsedIn, IsAxiomNumber}
use Rattle.mm_axioms.specs.Mirror.Shortening.{AreFounded}
use Rattle.mm_render.specs.Mirror.Shortening.{AreHanded}
use Rattle.mm_minimize.specs.Mirror.Shortening.{HaveOneCode, IsAllowedIn}
use Rattle.mm_minimize.specs.Mirror.Shortening.{IsAllowedUse, IsFound, IsJustOne}
use Rattle.mm_axioms.specs.Mirror.Shortening.{IsLoose}
use Rattle.mm_render.specs.Mirror.Shortening.{IsOwnProof}
use Rattle.mm_minimize.specs.Mirror.Shortening.{IsUnmarkedIn}
use Rattle.mm_verdict.specs.Mirror.Theorems.{AreProvedSteps, AreStepsOf}
use Rattle.mm_rules.proofs.Numbers.{holds_cases, in_order_same}
use Rattle.mm_verdict.proofs.Questions.AskedTheorems.{used_is, rests_as, map-take}
use Rattle.mm_render.proofs.ToldProofs.ToldTrees.{tree_told, told_of_tree}
use Rattle.mm_minimize.proofs.ShorterTheorems.LoneUses.{just_one}
use Rattle.mm_rules.proofs.OrderedNumbers.{among_more}
use Rattle.mm_axioms.proofs.Resting.UsersOf.{rests_by}

-- ---- what a proof may use

-- what an assertion rests on that is used already, the theorem rests on too
pub used_before : (files : List PlainFile) (statements : List PlainStatement) (c : Conclusion)
    (id used : ℕ) (s : PlainStatement) → AllMeant (sentences statements) → IsKeptOf statements c
    → UsedIn c.uses id used → IsAllowedUse files statements id s used
used_before files statements c id used s meant kept uses =
    let told = (used_is statements c.uses meant kept.uses id used).0 uses in
    record {
      allowed = λ place a new at. absurd (new told);
      founded = λ n loose through. rests_by (Uses statements) id used n told through;
    }

-- an assertion that may be newly used, where the theorem rests on the axioms on which it rests
pub newly_used : (files : List PlainFile) (statements : List PlainStatement) (c : Conclusion)
    (id used : ℕ) (s : PlainStatement) → AllMeant (sentences statements) → IsKeptOf statements c
    → AreFounded c.sentences c.incomplete c.uses id used
    → ((place : ℕ) (a : PlainStatement) → IsAt statements used place a → MayUse files s a)
    → IsAllowedUse files statements id s used
newly_used files statements c id used s meant kept founded may =
    let same = used_is statements c.uses meant kept.uses in
    record {
      allowed = λ place a new at. may place a at;
      founded = λ n loose through.
          let loosely : IsLoose c.sentences c.incomplete n = elim loose [
            | inl own ↦
                let here : IsAxiomNumber (sentences statements) n =
                (own.0, sentence_of own.1, own.2.numbered, own.3) in
                inl (rw kept.sentences here)
            | inr unproved ↦ inr ((kept.incomplete.each n).1 unproved)
          ] in
          let reached : (used ≡ n) ⊎ RestsOn (UsedIn c.uses) used n = elim through [
            | inl own ↦ inl own
            | inr rests ↦ inr (rests_as (Uses statements) (UsedIn c.uses) (λ x y. (same x y).1) used n rests)
          ] in
          rests_as (UsedIn c.uses) (Uses statements) (λ x y. (same x y).0) id n
          (founded n loosely reached);
    }

-- those that the proof doesn't use, as what is kept of it tells them
pub newly_told : (statements : List PlainStatement) (c : Conclusion) (id : ℕ) (used newly : List ℕ)
    → AllMeant (sentences statements) → IsKeptOf statements c
    → AreInOrder (λ n. Contains used n × ¬ (UsedIn c.uses id n)) newly
    → AreInOrder (λ n. Contains used n × ¬ (Uses statements id n)) newly
newly_told statements c id used newly meant kept order =
    let same = used_is statements c.uses meant kept.uses in
    in_order_same (λ n. Contains used n × ¬ (UsedIn c.uses id n))
    (λ n. Contains used n × ¬ (Uses statements id n)) newly order
    (λ n. (
      (λ h. (h.0, λ uses. h.1 ((same id n).1 uses))),
      λ h. (h.0, λ uses. h.1 ((same id n).0 uses)),
    ))

-- ---- a shorter proof

pub found_of : (profile : Profile) (files : List PlainFile) (statements : List PlainStatement)
    (label : List ℕ) (old : Theorem) (own : OwnProof) (new : Shorter) → Reads files statements None
    → AreStepsOf statements label old.id.0 old.steps.moves
    → AreProvedSteps (sentences statements) old.id.0 old.steps
    → IsOwnProof (sentences statements) old.id.0 old.steps.moves own
    → AreHanded profile (sentences statements) old.id.0 new.theorem.steps new.used
    → IsOwnProof (sentences statements) old.id.0 new.theorem.steps.moves new.proof
    → ((new.is_duplicate ≡ true)
    ↔ IsJustOne (HaveOneCode (sentences statements) old.id.0) new.used)
    → ((n : ℕ) → Contains new.used n → IsAllowedIn files old.id.0 n) → IsUnmarkedIn files old.id.0
    → length new.proof.text.items < length own.text.items → new.proof.steps ≤ own.steps
    → IsFound profile files statements label old own new
found_of profile files statements label old own new reads r proved small h other alone allowed unmarked shorter no_more =
    let told : List Sentence = sentences statements in
    let id : ℕ = old.id.0 in
    let s : Sentence = sentence_of r.s in
    let at : IsAt statements id r.index r.s = record { there = r.there; numbered = r.number.numbered } in
    let (root, below, has, steps_of_own) =
    tree_told told statements label id old.steps refl r proved (λ before u t. HasSteps before u t own.steps) small.steps in
    let usable = h.usable in
    let both = h.uses r.index s usable.moves r.number usable.numbered in
    let p = both.0 in
    let all : AreUsed (take r.index told) (tree p.label p.below none) new.used = both.1 in
    let t : Trees = tree p.label p.below none in
    let made : MakeTree (take r.index told) usable.moves p.label p.below = record { kept = p.kept; made = p.made } in
    let before : take r.index told ≡ sentences (take r.index statements) = sym (map-take r.index statements) in
    let used : AreUsed (sentences (take r.index statements)) t new.used =
    subst (λ (ss : List Sentence). AreUsed ss t new.used) before all in
    record {
      t = t;
      shorter = record {
        id = id;
        index = r.index;
        s = r.s;
        at = at;
        root = root;
        below = below;
        own = has;
        unmarked = unmarked statements r.index r.s reads at;
        derived = subst (λ (ss : List Sentence). DerivesUnder profile ss s t) before p.derived;
        small = subst (λ (ss : List Sentence). IsSmallText ss s t new.proof.text.items) before
            (other.text r.index s usable.moves r.number usable.numbered p.label p.below made);
        shorter = shorter;
        steps = own.steps;
        own_steps = steps_of_own;
        count = new.proof.steps;
        counted = subst (λ (ss : List Sentence). HasSteps ss s t new.proof.steps) before
            (other.steps r.index s usable.moves r.number usable.numbered p.label p.below made);
        no_more = no_more;
        allowed = λ n place a stands newly.
            (allowed n ((used.each n).1 stands) statements r.index r.s reads at).allowed place a newly;
        founded = λ n m stands.
            (allowed n ((used.each n).1 stands) statements r.index r.s reads at).founded m;
      };
      number = refl;
      made = record {
        number = r.number;
        moves = usable.moves;
        numbered = usable.numbered;
        label = p.label;
        below = p.below;
        made = made;
        whole = refl;
      };
      own_steps = refl;
      new_steps = refl;
      used = used;
      alone =
          let same : IsJustOne (HaveOneCode told id) new.used ↔ IsByOneAlone (take r.index told) s t =
          just_one told id r.index s t new.used r.number.numbered all in
          subst (λ (ss : List Sentence). (new.is_duplicate ≡ true) ↔ IsByOneAlone ss s t) before
          ((λ d. same.0 (alone.0 d)), λ one. alone.1 (same.1 one));
    }

-- the same, told of what the statements say
pub found : (profile : Profile) (files : List PlainFile) (statements : List PlainStatement)
    (told : List Sentence) (label : List ℕ) (old : Theorem) (own : OwnProof) (new : Shorter)
    → told ≡ sentences statements → Reads files statements None
    → AreStepsOf statements label old.id.0 old.steps.moves → AreProvedSteps told old.id.0 old.steps
    → IsOwnProof told old.id.0 old.steps.moves own
    → AreHanded profile told old.id.0 new.theorem.steps new.used
    → IsOwnProof told old.id.0 new.theorem.steps.moves new.proof
    → ((new.is_duplicate ≡ true) ↔ IsJustOne (HaveOneCode told old.id.0) new.used)
    → ((n : ℕ) → Contains new.used n → IsAllowedIn files old.id.0 n) → IsUnmarkedIn files old.id.0
    → length new.proof.text.items < length own.text.items → new.proof.steps ≤ own.steps
    → IsFound profile files statements label old own new
found profile files statements told label old own new same reads r =
    subst (λ (ss : List Sentence). AreProvedSteps ss old.id.0 old.steps
    → IsOwnProof ss old.id.0 old.steps.moves own
    → AreHanded profile ss old.id.0 new.theorem.steps new.used
    → IsOwnProof ss old.id.0 new.theorem.steps.moves new.proof
    → ((new.is_duplicate ≡ true) ↔ IsJustOne (HaveOneCode ss old.id.0) new.used)
    → ((n : ℕ) → Contains new.used n → IsAllowedIn files old.id.0 n) → IsUnmarkedIn files old.id.0
    → length new.proof.text.items < length own.text.items → new.proof.steps ≤ own.steps
    → IsFound profile files statements label old own new)
    (sym same) (found_of profile files statements label old own new reads r)

-- the theorem's own small text
pub small_of : (statements : List PlainStatement) (told : List Sentence) (label : List ℕ)
    (old : Theorem) (own : OwnProof) → told ≡ sentences statements
    → AreStepsOf statements label old.id.0 old.steps.moves → AreProvedSteps told old.id.0 old.steps
    → IsOwnProof told old.id.0 old.steps.moves own
    → IsSmallOf statements label own.text.items
small_of statements told label old own same r proved small =
    told_of_tree told statements label old.id.0 old.steps same r proved
    (λ before s t. IsSmallText before s t own.text.items) small.text

-- it stays, or a shorter one is told
pub minimized_own : (profile : Profile) (files : List PlainFile) (statements : List PlainStatement)
    (label : List ℕ) (text : List ℕ) → IsSmallOf statements label text
    → IsMinimized profile files statements label text
minimized_own profile files statements label text small = (text, small, inl refl)

pub minimized_by : (profile : Profile) (files : List PlainFile) (statements : List PlainStatement)
    (label : List ℕ) (old : Theorem) (own : OwnProof) (new : Shorter)
    → IsSmallOf statements label own.text.items
    → IsFound profile files statements label old own new
    → IsMinimized profile files statements label new.proof.text.items
minimized_by profile files statements label old own new small found =
    (own.text.items, small, inr (found.t, found.shorter))

-- just as one was found
pub minimized_found : (profile : Profile) (files : List PlainFile) (statements : List PlainStatement)
    (label : List ℕ) (old : Theorem) (own : OwnProof) (found : Option Shorter) (text : List ℕ)
    → Reads files statements None → AreStepsOf statements label old.id.0 old.steps.moves
    → IsSmallOf statements label own.text.items
    → IfSome found (λ new. (l : List ℕ) (ss : List PlainStatement) → Reads files ss None
    → AreStepsOf ss l old.id.0 old.steps.moves → IsFound profile files ss l old own new)
    → MatchOption found (text ≡ own.text.items) (λ new. text ≡ new.proof.text.items)
    → IsMinimized profile files statements label text
minimized_found profile files statements label old own None text reads r small h told =
    rw told (minimized_own profile files statements label own.text.items small)
minimized_found profile files statements label old own (Some new) text reads r small h told =
    rw told (minimized_by profile files statements label old own new small
    (h label statements reads r))

-- what the proof uses are numbers of labels
pub used_within : (profile : Profile) (told : List Sentence) (id : ℕ) (steps : ReadSteps)
    (used : List ℕ) → AreHanded profile told id steps used → (n : ℕ) → Contains used n
    → n < length (labelled_sentences told)
used_within profile told id steps used h n among =
    let usable = h.usable in
    let number = usable.proof in
    let both = h.uses usable.index usable.s usable.moves number usable.numbered in
    let stands = (both.1.each n).0 among in
    let less = numbered_within (take usable.index told) n stands.0 stands.1 stands.3 in
    let most = numbered_within told id usable.index usable.s number.numbered in
    let here = number.numbered.number in
    omega (arith, less, most, here)

-- ---- numbers one after the other

-- what holds of the numbers so far, and of the next one
pub all_more : (P : ℕ → Type 0) (xs : List LabelId) (i : ℕ) (x : LabelId) → slice_get xs i ≡ Some x
    → ((n : ℕ) → Contains (ids_in (take i xs)) n → P n) → P x.0 → (n : ℕ)
    → Contains (ids_in (take (i + 1) xs)) n → P n
all_more P xs i x at before here n holds =
    elim (holds_cases (ids_in (take i xs)) x.0 n (subst (λ (ns : List ℕ). Contains ns n) (among_more xs i x at) holds)) [
      | inl earlier ↦ before n earlier
      | inr last ↦ subst P (sym last) here
    ]
