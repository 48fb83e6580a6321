-- Saving changes nothing that is answered, saving again changes nothing, and what is saved is one.
use Rattle.std.proofs.Common.{◌≡◌, ℕ, suc, ◌+◌, List, [], ◌∷◌, ◌++◌, take, drop}
use Rattle.std.proofs.Common.{length, slice_get, Some, None, inl, inr, refl, sym, ap, subst}
use Rattle.std.proofs.Common.{◌∙◌, ◌⊎◌, arith}
use Rattle.std.specs.List.{AllZip}
use Rattle.std.proofs.Math.Seq.{take-append_seam}
use Rattle.std.proofs.lemmas.Option.{same_Some, slice_get_within}
use Rattle.std.proofs.lemmas.List.{length-take-le}
use Rattle.mm_base.specs.Statement.{PlainStatement}
use Rattle.mm_text.specs.Files.{PlainFile}
use Rattle.mm_text.specs.Reading.{Reads}
use Rattle.mm_text.specs.Replaced.{with_span, with_bytes}
use Rattle.mm_base.proofs.Lists.{split_at, get_parted}
use Rattle.mm_text.proofs.Replaced.ProofSpans.{proofs_stand_in_spans_holds}
use Rattle.mm_frame.specs.Sentence.{Sentence, sentence_of, IsLabelled}
use Rattle.mm_frame.specs.Rules.{AllMeant}
use Rattle.mm_frame.proofs.Rules.ObeyedRules.{one_label}
use Rattle.mm_step.specs.Tree.{Trees, none, tree, AnyExpression}
use Rattle.mm_step.specs.Moves.{Move, Makes}
use Rattle.mm_proof.specs.Tokens.{SayMoves}
use Rattle.mm_forms.specs.OneTree.{MakeTree}
use Rattle.mm_proof.specs.Proof.{IsProved}
use Rattle.mm_proof.specs.Strict.{IsStrict}
use Rattle.mm_step.specs.declared.profile.Profile.{Profile}
use Rattle.mm_step.proofs.ProofSteps.Derivations.{makes_once, zip_once}
use Rattle.mm_proof.proofs.ProofTokens.SaidMoves.{moves_once}
use Rattle.mm_verdict.specs.declared.form.Form.{Form}
use Rattle.mm_rules.specs.Verdict.{AreAccepted, AllObey, sentences, proof_of}
use Rattle.mm_rules.specs.Rests.{tree_of}
use Rattle.mm_rules.specs.Compared.{IsTheorem}
use Rattle.mm_render.specs.Forms.{HasProofTree}
use Rattle.mm_render.specs.Saved.{IsSpanText, within_span, IsSaved, FitsSaved}
use Rattle.mm_laws.specs.SavedLaws.{SavingChangesNoAnswer, SavedProofIsStrict, OneSaved}
use Rattle.mm_laws.specs.SavedLaws.{SavingAgainChangesNothing, IsKeptProof}
use Rattle.mm_laws.specs.SavedLaws.{SmallFilesDoNotGrow}
use Rattle.mm_verdict.proofs.AlikeVerdicts.{moved}
use Rattle.mm_verdict.proofs.Verdicts.AcceptedStatements.{same_reading, said_there}
use Rattle.mm_verdict.proofs.FileBytes.StatementsInFiles.{provable_proof, readable_anew, handed_anew, Carries}
use Rattle.mm_verdict.proofs.FileBytes.StatementsInFiles.{prefix_meant, prefix_told}
use Rattle.mm_laws.proofs.SavingLaws.SpanTexts.{put_stands_within, put_again}
use Rattle.mm_laws.proofs.SavingLaws.SpanTexts.{span_text_once, span_text_again, small_no_longer}
use Rattle.mm_laws.proofs.SavingLaws.SpanTexts.{put_no_longer}
use Rattle.mm_verdict.proofs.Verdicts.StatementByStatement.{any_proof, all_meant}
use Rattle.mm_laws.proofs.SavingLaws.ProofTexts.{tree_is}
use Rattle.mm_save.specs.AllSaved.{Replacement, IsReplacement, theorems_of, with_replaced}
use Rattle.mm_laws.specs.AllSavedLaws.{OneAllSaved}
use Rattle.mm_laws.specs.SavedLaws.{SayTheSame}
use Rattle.mm_laws.proofs.SavingLaws.NewProofs.{AreWrittenAs, IsAny, IsOwnTree, IsWrittenAs, carried}
use Rattle.mm_laws.proofs.SavingLaws.NewProofs.{obeyed_along, written_more, written_moved, said_same}
use Rattle.mm_laws.proofs.SavingLaws.NewProofs.{written_same}
use Rattle.mm_laws.proofs.SavingLaws.OtherStatements.{along_put}
use Rattle.mm_laws.proofs.SavingLaws.PutProofs.{ArePutAnew, are_put_anew, files_anew, formed_there}
use Rattle.mm_laws.proofs.SavingLaws.PutProofs.{meant_there, own_to_put, stands}
use Rattle.mm_verdict.specs.declared.form.Form.TheVariants as form

-- ==== a theorem has one text

one_tree_made : (prefix : List Sentence) (s : Sentence) (tokens : List (List ℕ)) (a b : List (Move (List ℕ))) (root other : List ℕ) (below under : Trees) → AllMeant prefix
    → SayMoves prefix s tokens a → SayMoves prefix s tokens b → MakeTree prefix a root below → MakeTree prefix b other under → tree root below none ≡ tree other under none
one_tree_made prefix s tokens a b root other below under meant told said made done =
    (makes_once prefix b none (tree root below none) (tree other under none) [] made.kept done.kept meant
    (rw (moves_once prefix s tokens a b told said) at made.made) done.made).0

-- a theorem has one index, and its proof one tree
pub one_proof_tree : (profile : Profile) (statements : List PlainStatement) (label : List ℕ) (index other : ℕ) (s t : PlainStatement) (root under : List ℕ) (below beneath : Trees) → AllObey profile statements
    → HasProofTree statements label index s root below → HasProofTree statements label other t under beneath → (other ≡ index) × ((t ≡ s) × (tree under beneath none ≡ tree root below none))
one_proof_tree profile statements label index other s t root under below beneath obeyed h k =
    let meant : AllMeant (sentences statements) = all_meant profile statements obeyed in
    let here : other ≡ index =
    one_label (sentences statements) label other index (sentence_of t) (sentence_of s) meant (said_there statements other t k.there) (said_there statements index s h.there) k.named h.named in
    let one : Some t ≡ Some s = sym k.there ∙ ap (slice_get statements) here ∙ h.there in
    let same : t ≡ s = cc in
    let moved : HasProofTree statements label index s under beneath = rw (here, same) at k in
    (here, (same, one_tree_made (sentences (take index statements)) (sentence_of s) (proof_of s) moved.moves h.moves under root beneath below (prefix_meant profile statements index obeyed) moved.told h.told moved.made h.made))

-- and what is put in place of the same bytes is one
pub one_text_of : (profile : Profile) (f : Form) (statements : List PlainStatement) (label : List ℕ)
    (index other : ℕ) (s t : PlainStatement) (root under : List ℕ) (below beneath : Trees)
    (old a b : List ℕ) → AllObey profile statements
    → HasProofTree statements label index s root below
    → HasProofTree statements label other t under beneath
    → IsSpanText f (sentences (take index statements)) (sentence_of s) (tree root below none) old a
    → IsSpanText f (sentences (take other statements)) (sentence_of t) (tree under beneath none)
    old b → a ≡ b
one_text_of profile f statements label index other s t root under below beneath old a b obeyed h k
    one two =
    let (here, (same, trees)) = one_proof_tree profile _ _ _ _ _ _ _ _ _ _ obeyed h k in
    span_text_once f (sentences (take index statements)) (sentence_of s) root below old a b
    (prefix_meant profile statements index obeyed) one (rw (here, same, trees) at two)

-- ==== the text of a theorem's proof is the same where other proofs of the same trees stand

-- the theorem with the label has this tree, and this is put in place of the old bytes
pub record HasText (f : Form) (statements : List PlainStatement) (label : List ℕ) (index : ℕ)
    (s : PlainStatement) (root : List ℕ) (below : Trees) (old put : List ℕ) : Type 0 where
  pub proof : HasProofTree statements label index s root below
  pub laid : IsSpanText f (sentences (take index statements)) (sentence_of s)
      (tree root below none) old put

-- a tree that a complete proof spells is the one that its tokens make
proof_tree : (profile : Profile) (statements : List PlainStatement) (label : List ℕ) (index : ℕ)
    (s : PlainStatement) (root : List ℕ) (below : Trees) → AllObey profile statements
    → HasProofTree statements label index s root below
    → (p : IsProved (sentences (take index statements)) (sentence_of s) (proof_of s))
    × (tree_of p ≡ tree root below none)
proof_tree profile statements label index s root below obeyed has =
    let before : List PlainStatement = take index statements in
    let prefix : List Sentence = sentences before in
    let split : statements ≡ before ++ s ∷ drop (suc index) statements =
    split_at statements index s has.there in
    let p : IsProved prefix (sentence_of s) (proof_of s) =
    any_proof profile prefix (sentence_of s) (proof_of s)
    ((obeyed before (drop (suc index) statements) s split).proved has.complete).1 in (
      p,
      tree_is AnyExpression prefix (sentence_of s) (proof_of s) has.moves root below
          (prefix_meant profile statements index obeyed) p has.told has.made,
    )

-- the theorem has its text among others too
pub text_carried : (profile : Profile) (f : Form) (statements others : List PlainStatement)
    (label : List ℕ) (index : ℕ) (s : PlainStatement) (root : List ℕ) (below : Trees)
    (old put : List ℕ) → AllObey profile statements → Carries statements others
    → HasText f statements label index s root below old put
    → (t : PlainStatement) × HasText f others label index t root below old put
text_carried profile f statements others label index s root below old put obeyed carries has =
    let prefix : List Sentence = sentences (take index statements) in
    let (t, there, alike) = carries.at index s has.proof.there in
    let (p, first) = proof_tree profile statements label index s root below obeyed has.proof in
    let (q, same) = alike.tree has.proof.complete p in
    let made : MakeTree prefix q.moves root below = record {
      kept = q.proves.kept;
      made = subst (λ (u : Trees). Makes prefix q.moves none [] u q.proves.kept)
          (sym same ∙ first) q.proves.made;
    } in
    let to : prefix ≡ sentences (take index others) =
    prefix_told statements others index carries.told in (
      t,
      record {
        proof = record {
          there = there;
          named = sym (ap (λ (x : Sentence). x.label) alike.said) ∙ has.proof.named;
          complete = sym alike.proofs ∙ has.proof.complete;
          moves = q.moves;
          told = rw to at q.said;
          made = rw to at made;
        };
        laid = rw (to, alike.said) at has.laid;
      },
    )

-- ==== saving changes nothing that is answered

module _ {profile : Profile} {f : Form} {files : List PlainFile} {statements : List PlainStatement}
    {label : List ℕ} {number : ℕ} {bytes : List ℕ} (accepted : AreAccepted profile files statements)
    (sv : IsSaved f files statements label number bytes) where
  abbrev earlier : List PlainStatement
  earlier = take sv.index statements

  abbrev behind : List PlainStatement
  behind = drop (suc sv.index) statements

  parted : statements ≡ earlier ++ sv.s ∷ behind
  parted = split_at statements sv.index sv.s sv.proof.there

  pub place : length earlier ≡ sv.index
  place =
      length-take-le sv.index statements
      (omega (arith, slice_get_within statements sv.index sv.s sv.proof.there))

  handed_home : slice_get files sv.s.first.file ≡ Some sv.file
  handed_home = ap (slice_get files) (sym sv.home) ∙ sv.handed

  reads_parted : Reads files (earlier ++ sv.s ∷ behind) None
  reads_parted = rw parted at accepted.reads

  -- the file with the theorem's proof in this form
  pub saved_put : ArePutAnew files earlier sv.s behind sv.file sv.put
      (IsWrittenAs profile (λ u. f ≡ form.Small) IsOwnTree (sentences earlier) sv.s)
  saved_put =
      are_put_anew profile f (λ u. f ≡ form.Small) IsOwnTree files earlier sv.s behind sv.file
      sv.put reads_parted sv.proof.complete handed_home
      (meant_there profile accepted earlier sv.s behind parted)
      (formed_there profile accepted earlier sv.s behind parted)
      (own_to_put profile accepted earlier sv.s behind parted f (f ≡ form.Small)
      (within_span sv.file.bytes sv.s.span) sv.put (λ small. small) sv.proof refl sv.laid)

  -- the statements then
  abbrev pub read_anew : List PlainStatement
  read_anew = earlier ++ saved_put.t ∷ saved_put.later

  saved_along : AreWrittenAs profile IsAny IsOwnTree [] statements read_anew
  saved_along =
      subst (λ (ss : List PlainStatement). AreWrittenAs profile IsAny IsOwnTree [] ss read_anew)
      (sym parted)
      (along_put (IsWrittenAs profile IsAny IsOwnTree)
      (λ prefix u. written_same profile IsAny IsOwnTree prefix u u refl refl refl tt)
      (written_moved profile IsAny IsOwnTree) [] earlier sv.s saved_put.t behind saved_put.later
      (written_more profile (λ u. f ≡ form.Small) IsAny IsOwnTree (sentences earlier) sv.s
      saved_put.t (λ small. tt) saved_put.written) saved_put.same)

  pub saved_accepted : FitsSaved files number bytes
      → AreAccepted profile (with_bytes files number bytes) read_anew
  saved_accepted fits = record {
    readable = readable_anew files number sv.file bytes sv.handed fits accepted.readable;
    reads = subst (λ (fs : List PlainFile). Reads fs read_anew None)
        (λ i. with_bytes files (sym sv.home i) (sym sv.whole i)) saved_put.reads;
    obeyed = obeyed_along profile IsAny IsOwnTree statements read_anew saved_along
        accepted.obeyed;
  }

  pub saved_said : FitsSaved files number bytes
      → SayTheSame profile files (with_bytes files number bytes) statements read_anew
  saved_said fits =
      said_same profile IsAny statements read_anew saved_along files
      (with_bytes files number bytes) accepted (saved_accepted fits)

  -- the proof is strict then, or as it was
  strict_anew : IsTheorem read_anew label (length earlier) saved_put.t
      × (IsStrict (sentences (take (length earlier) read_anew)) (sentence_of saved_put.t)
      (proof_of saved_put.t)
      ⊎ ((f ≡ form.Small) × (proof_of saved_put.t ≡ proof_of sv.s)))
  strict_anew =
      let w = saved_put.written in (
        record {
          there = get_parted earlier saved_put.later saved_put.t;
          named = subst (IsLabelled label) w.said sv.proof.named;
          complete = sym w.proofs ∙ sv.proof.complete;
        },
        rw (take-append_seam earlier (saved_put.t ∷ saved_put.later)) (elim w.proof [
          | inl kept ↦ inr kept
          | inr (complete, new) ↦ inl new.strict
        ]),
      )

  -- and the files are saved as they are
  again_saved : IsSaved f (files_anew files sv.s sv.file sv.put) read_anew label sv.s.first.file
      (with_span sv.file.bytes sv.s.span sv.put)
  again_saved =
      let old : List ℕ = within_span sv.file.bytes sv.s.span in
      let new : List ℕ = with_span sv.file.bytes sv.s.span sv.put in
      let own : PlainFile = record sv.file { bytes = new } in
      let stood = stands profile f (λ u. f ≡ form.Small) IsOwnTree files earlier sv.s behind sv.file
      sv.put reads_parted sv.proof.complete handed_home in
      let (u, has) = text_carried profile f statements read_anew label sv.index sv.s sv.root
      sv.below old sv.put accepted.obeyed
      (carried profile IsAny statements read_anew saved_along)
      (record { proof = sv.proof; laid = sv.laid }) in
      let here : slice_get read_anew sv.index ≡ Some saved_put.t =
      subst (λ (n : ℕ). slice_get read_anew n ≡ Some saved_put.t) place
      (get_parted earlier saved_put.later saved_put.t) in
      let same : u ≡ saved_put.t = same_Some u saved_put.t (sym has.proof.there ∙ here) in
      let span : u.span ≡ (sv.s.span.0, sv.s.span.0 + length sv.put) =
      ap (λ (v : PlainStatement). v.span) same ∙ saved_put.span in
      record {
        index = sv.index;
        s = u;
        root = sv.root;
        below = sv.below;
        proof = has.proof;
        home = saved_put.written.home ∙ ap (λ (v : PlainStatement). v.first.file) (sym same);
        file = own;
        handed = handed_anew files sv.s.first.file sv.file new handed_home;
        put = sv.put;
        laid = rw (put_stands_within sv.s sv.file.bytes stood sv.put u.span span)
            (span_text_again f _ _ _ old sv.put has.laid);
        whole = sym (put_again sv.s sv.file.bytes stood sv.put u.span span);
      }

pub saving_changes_no_answer : SavingChangesNoAnswer
saving_changes_no_answer profile f files statements label number bytes accepted sv fits =
    (read_anew accepted sv, saved_said accepted sv fits)

pub saved_proof_is_strict : SavedProofIsStrict
saved_proof_is_strict profile f files statements same label number bytes accepted sv fits reads =
    let read = (same_reading (with_bytes files number bytes) same (read_anew accepted sv) None None
    reads (saved_accepted accepted sv fits).reads).0 in
    let n : ℕ = length (take sv.index statements) in
    let t : PlainStatement = (saved_put accepted sv).t in
    let there : slice_get statements n ≡ Some sv.s =
    ap (slice_get statements) (place accepted sv) ∙ sv.proof.there in
    let (theorem, strict) = strict_anew accepted sv in
    let told : IsStrict (sentences (take n (read_anew accepted sv))) (sentence_of t) (proof_of t)
    ⊎ IsKeptProof f statements n (proof_of t) = elim strict [
      | inl is ↦ inl is
      | inr kept ↦ inr (kept.0, sv.s, there, kept.1)
    ] in
    rw read (n, t, theorem, told)

-- ---- in small form no file grows

pub small_saved_no_longer : SmallFilesDoNotGrow
small_saved_no_longer profile files statements label number bytes accepted sv =
    let less = small_no_longer _ _ _ (within_span sv.file.bytes sv.s.span) sv.put sv.laid in
    let parted = split_at statements sv.index sv.s sv.proof.there in
    let stood = proofs_stand_in_spans_holds files (take sv.index statements) sv.s
    (drop (suc sv.index) statements) None sv.file (rw parted at accepted.reads)
    (provable_proof sv.s sv.proof.complete) (ap (slice_get files) (sym sv.home) ∙ sv.handed) in
    (sv.file, sv.handed, rw sv.whole (put_no_longer sv.s sv.file.bytes stood sv.put less))

-- ---- what is saved is one

pub one_saved : OneSaved
one_saved profile f files statements label number other bytes others accepted sv sw =
    let same : sw.s ≡ sv.s =
    (one_proof_tree profile _ _ _ _ _ _ _ _ _ _ accepted.obeyed sv.proof sw.proof).1.0 in
    let home : number ≡ other =
    sv.home ∙ ap (λ (s : PlainStatement). s.first.file) (sym same) ∙ sym sw.home in
    let file : sv.file ≡ sw.file = same_Some sv.file sw.file
    (sym sv.handed ∙ ap (slice_get files) home ∙ sw.handed) in
    let old : within_span sw.file.bytes sw.s.span ≡ within_span sv.file.bytes sv.s.span =
    λ i. within_span (sym file i).bytes (same i).span in
    let put = one_text_of profile f _ _ _ _ _ _ _ _ _ _ _ sv.put sw.put accepted.obeyed
    sv.proof sw.proof sv.laid (rw old at sw.laid) in
    (home, sv.whole ∙ (λ i. with_span (file i).bytes (sym same i).span (put i)) ∙ sym sw.whole)

-- ---- saving again

pub saving_again : SavingAgainChangesNothing
saving_again profile f files statements same label number bytes accepted sv fits reads =
    let still = saved_accepted accepted sv fits in
    let su : List PlainStatement = read_anew accepted sv in
    let anew : List PlainFile = with_bytes files number bytes in
    let own = moved (λ (fs : List PlainFile) (n : ℕ) (b : List ℕ). IsSaved f fs su label n b)
    (files_anew files sv.s sv.file sv.put) anew sv.s.first.file number
    (with_span sv.file.bytes sv.s.span sv.put) bytes
    (λ i. with_bytes files (sym sv.home i) (sym sv.whole i)) (sym sv.home) (sym sv.whole)
    (again_saved accepted sv) in
    let read = (same_reading anew same su None None reads still.reads).0 in (
      rw read own,
      λ again others sw.
          let once = one_saved profile f anew su label number again bytes others still own
          (rw read at sw) in
          (sym once.0, sym once.1),
    )

-- ==== what is saved of a whole file is one

-- a theorem is replaced by one text
one_replacement : (profile : Profile) (f : Form) (bytes : List ℕ) (statements : List PlainStatement)
    (s : PlainStatement) (new other : Replacement) → AllObey profile statements
    → IsReplacement f bytes statements s new → IsReplacement f bytes statements s other
    → new ≡ other
one_replacement profile f bytes statements s new other obeyed r q =
    let label : q.label ≡ r.label = same_Some q.label r.label (sym q.proof.named ∙ r.proof.named) in
    let proof : HasProofTree statements r.label q.index s q.root q.below = rw label at q.proof in
    let put : new.text ≡ other.text =
    one_text_of profile f statements r.label r.index q.index s s r.root q.root r.below q.below
    (within_span bytes s.span) new.text other.text obeyed r.proof proof r.laid q.laid in
    let span : new.span ≡ other.span = r.span ∙ sym q.span in
    λ i. record { span = span i; text = put i }

pub one_all_saved : OneAllSaved
one_all_saved profile f files statements number bytes others accepted sv sw =
    let file : sw.file ≡ sv.file = same_Some sw.file sv.file (sym sw.handed ∙ sv.handed) in
    let R : PlainStatement → Replacement → Type 0 = IsReplacement f sv.file.bytes statements in
    let each : AllZip R (theorems_of number statements) sw.replaced = rw file at sw.each in
    let news : sv.replaced ≡ sw.replaced =
    zip_once R R (theorems_of number statements) sv.replaced sw.replaced
    (λ s new other.
    one_replacement profile f sv.file.bytes statements s new other accepted.obeyed) sv.each each in
    sv.whole ∙ (λ i. with_replaced (sym file i).bytes (news i)) ∙ sym sw.whole
