-- Statements one by one: the trees of complete proofs, what the progress knows of one statement more,
-- and the incomplete proofs.
use Rattle.std.proofs.Common.{◌≡◌, ℕ, ◌<◌, List, [], ◌∷◌, ◌++◌, take, length, is_some, Bool, true}
use Rattle.std.proofs.Common.{false, cond, ◌⊎◌, inl, inr, refl, sym, ap, subst, ◌∙◌, arith}
use Rattle.std.proofs.Common.{append-nil, ◌+◌, ◌≤◌, map, filter, slice_get, count_by, not, ◌&&◌}
use Rattle.std.proofs.Common.{Option, Some, length-append}
use Rattle.std.proofs.lemmas.Option.{slice_get_within}
use Rattle.std.proofs.lemmas.List.{map-append, length-map, take-append-le, take-map}
use Rattle.std.proofs.Math.Seq.{take-append_seam}
use Rattle.mm_base.specs.Statement.{PlainStatement, HasForm, HasLabel, bytes_in, is_provable}
use Rattle.mm_frame.specs.Sentence.{Sentence, sentence_of}
use Rattle.mm_frame.specs.Numbers.{labelled_sentences}
use Rattle.mm_base.proofs.Lists.{get_kept, get_pushed, pushed_cases, all_back, last_cut, get_parted}
use Rattle.mm_base.proofs.Lists.{split_at}
use Rattle.mm_frame.proofs.Names.LabelNumbers.{numbered_grow, numbered_fall, numbered_last}
use Rattle.mm_frame.proofs.Names.LabelNumbers.{numbered_within}
use Rattle.mm_step.specs.Tree.{Trees, none, tree}
use Rattle.mm_step.specs.Proof.{IsWithin}
use Rattle.mm_proof.specs.Proof.{IsProved, IsProvedWithin}
use Rattle.mm_step.specs.declared.profile.Profile.{Profile}
use Rattle.mm_step.specs.Profiles.{limit_of}
use Rattle.mm_proof.specs.Used.{AreUsed}
use Rattle.mm_proof.proofs.ProofVerdicts.VerdictLaws.{derive_any}
use Rattle.mm_rules.specs.Conclusion.{ProofUses, numbers_of, labels_in}
use Rattle.mm_rules.specs.Mirror.Ordered.{ordered}
use Rattle.mm_rules.proofs.Numbers.{ordered_used, holds_cases, in_order_push, in_order_same}
use Rattle.mm_rules.proofs.Numbers.{named_more, count_by-one, count_labelled}
use Rattle.mm_rules.specs.Verdict.{sentences, proof_of, is_proof, labels_of, label_of, unproved_of}
use Rattle.mm_rules.specs.Verdict.{is_unproved, AllObey, Obeys}
use Rattle.mm_rules.specs.Rests.{IsAt, IsNumberWhere, AreInOrder, tree_of, HasTree, AreUses}
use Rattle.mm_rules.specs.Mirror.Judged.{IsProvedUsing, KeepsProof, Takes}
use Rattle.mm_verdict.specs.Mirror.Judged.{HasTaken, Knows}
use Rattle.std.proofs.lemmas.List.Sums.{sum_by-append}
use Rattle.std.proofs.lemmas.List.Elements.{filter-append}
use Rattle.std.proofs.lemmas.Grind.{flat_map-append}
use Rattle.std.specs.List.{flat_map, AllByRecursion}
use Rattle.std.specs.Option.{option_to_list, option_map}
use Rattle.std.proofs.lemmas.Bool.{and_parts}
use Rattle.mm_base.specs.declared.statement.Kind.{Kind}
use Rattle.mm_base.specs.declared.statement.Kind.TheVariants.{Provable}
use Rattle.mm_base.specs.Token.{PlainToken}
use Rattle.mm_frame.specs.declared.number.LabelId.{LabelId}
use Rattle.mm_frame.proofs.Blocks.NumberedBlocks.{count_append}
use Rattle.mm_proof.specs.Tokens.{is_incomplete}
use Rattle.mm_rules.specs.declared.progress.Progress.{Progress}
use Rattle.mm_frame.specs.Rules.{AllMeant}
use Rattle.mm_text.proofs.Reader.Unfinished.{is_provable-true}
use Rattle.mm_frame.proofs.Names.NameNumbers.{get_unmapped}
use Rattle.mm_rules.proofs.Judgements.CompleteProofs.{proof_there, unproved_there}

-- ==== the trees of complete proofs as statements are added

-- ---- numbers

-- a statement keeps its number and its index
pub at_grow : (statements more : List PlainStatement) (id index : ℕ) (s : PlainStatement) → IsAt statements id index s → IsAt (statements ++ more) id index s
at_grow statements more id index s at = record {
  there = get_kept statements more index s at.there;
  numbered = rw map-append (numbered_grow _ _ id index (sentence_of s) at.numbered);
}

-- a statement with a label, put at the end, has the next number
pub at_last : (statements : List PlainStatement) (s : PlainStatement) → is_some (sentence_of s).label ≡ true
    → IsAt (statements ++ s ∷ []) (length (labelled_sentences (sentences statements))) (length statements) s
at_last statements s named =
    let last = numbered_last (sentences statements) (sentence_of s) named in
    let indexed = rw (length-map statements sentence_of) at last in
    record { there = get_pushed statements s; numbered = rw map-append indexed }

-- a statement with a number, where one more is put at the end, had it, or is the last
pub at_cases : (statements : List PlainStatement) (s : PlainStatement) (id index : ℕ) (t : PlainStatement) → IsAt (statements ++ s ∷ []) id index t
    → IsAt statements id index t ⊎ ((s ≡ t) × (id ≡ length (labelled_sentences (sentences statements))))
at_cases statements s id index t at =
    let numbered = rw (map-append sentence_of statements (s ∷ [])) at at.numbered in
    elim (pushed_cases statements s index t at.there) [
      | inl before ↦
          let within = slice_get_within statements index t before in
          let room = rw (← length-map statements sentence_of) at within in
          inl (record { there = before; numbered = numbered_fall (sentences statements) (sentence_of s ∷ []) id index (sentence_of t) room numbered })
      | inr last ↦
          let prefix : take index (sentences statements ++ sentence_of s ∷ []) ≡ sentences statements =
          ap (λ (n : ℕ). take n (sentences statements ++ sentence_of s ∷ [])) (last.0 ∙ sym (length-map statements sentence_of))
          ∙ take-append_seam (sentences statements) (sentence_of s ∷ []) in
          inr (last.1, sym numbered.number ∙ ap (λ (ss : List Sentence). length (labelled_sentences ss)) prefix)
    ]

-- ---- the numbers of the statements for which a test holds

-- one more statement
pub one_more_number : (test : PlainStatement → Bool) (statements : List PlainStatement) (s : PlainStatement) (ids : List ℕ)
    → (test s ≡ true → is_some (sentence_of s).label ≡ true)
    → AreInOrder (IsNumberWhere statements (λ t. test t ≡ true)) ids → (b : Bool) → test s ≡ b
    → AreInOrder (IsNumberWhere (statements ++ s ∷ []) (λ t. test t ≡ true)) (ids ++ cond b (length (labelled_sentences (sentences statements)) ∷ []) [])
one_more_number test statements s ids named order true e =
    in_order_push (IsNumberWhere statements (λ t. test t ≡ true)) (IsNumberWhere (statements ++ s ∷ []) (λ t. test t ≡ true)) ids (length (labelled_sentences (sentences statements))) order
    (λ n p. numbered_within (sentences statements) n p.0 (sentence_of p.1) p.2.numbered)
    (λ n. (
      (λ q. elim (at_cases statements s n q.0 q.1 q.2) [ inl old ↦ inl (q.0, q.1, old, q.3) | inr last ↦ inr last.1 ]),
      λ h. elim h [
        | inl p ↦ (p.0, p.1, at_grow statements (s ∷ []) n p.0 p.1 p.2, p.3)
        | inr last ↦ (length statements, s, subst (λ (m : ℕ). IsAt (statements ++ s ∷ []) m (length statements) s) (sym last) (at_last statements s (named e)), e)
      ],
    ))
one_more_number test statements s ids named order false e =
    subst (λ (ns : List ℕ). AreInOrder (IsNumberWhere (statements ++ s ∷ []) (λ t. test t ≡ true)) ns) (sym (append-nil ids))
    (in_order_same (IsNumberWhere statements (λ t. test t ≡ true)) (IsNumberWhere (statements ++ s ∷ []) (λ t. test t ≡ true)) ids order
    (λ n. (
      (λ p. (p.0, p.1, at_grow statements (s ∷ []) n p.0 p.1 p.2, p.3)),
      λ q. elim (at_cases statements s n q.0 q.1 q.2) [
        | inl old ↦ (q.0, q.1, old, q.3)
        | inr last ↦ absurd (let here : test s ≡ true = ap test last.0 ∙ q.3 in cc)
      ],
    )))

-- ---- trees

-- a proof within the limit is a proof, of the same tree
pub any_proof : (profile : Profile) (before : List Sentence) (s : Sentence) (tokens : List (List ℕ)) → IsProvedWithin (IsWithin (limit_of profile)) before s tokens → IsProved before s tokens
any_proof profile before s tokens p = record {
  whole = p.whole;
  moves = p.moves;
  said = p.said;
  proves = record {
    label = p.proves.label;
    below = p.proves.below;
    kept = p.proves.kept;
    made = p.proves.made;
    derived = derive_any (IsWithin (limit_of profile)) before (tree p.proves.label p.proves.below none) (s.symbols ∷ []) p.proves.derived;
  };
}

-- what is said of the tree of a proof after these statements
abbrev pub Spells : PlainStatement → Trees → List PlainStatement → Type 0
Spells s t prefix = (proof : IsProved (sentences prefix) (sentence_of s) (proof_of s)) × (t ≡ tree_of proof)

pub tree_grow : (statements more : List PlainStatement) (id index : ℕ) (t : Trees) → HasTree statements id index t → HasTree (statements ++ more) id index t
tree_grow statements more id index t has =
    let within : index < length statements = slice_get_within statements index has.s has.at.there in
    let proof : Spells has.s t (take index (statements ++ more)) =
    subst (Spells has.s t) (sym (take-append-le index statements more (omega arith)))
    (has.proof, has.spelled) in
    record { s = has.s; at = at_grow statements more id index has.s has.at; complete = has.complete; proof = proof.0; spelled = proof.1 }

-- the uses of one proof
abbrev pub AreUsesOf : List PlainStatement → ProofUses → Type 0
AreUsesOf statements u =
    (index : ℕ) × (t : Trees) × HasTree statements u.number index t × AreUsed (sentences (take index statements)) t u.used

-- what is kept of one proof, where more statements follow
pub uses_grow : (statements more : List PlainStatement) (u : ProofUses) → AreUsesOf statements u → AreUsesOf (statements ++ more) u
uses_grow statements more u (index, t, has, used) =
    let within : index < length statements = slice_get_within statements index has.s has.at.there in
    let still = rw (← take-append-le index statements more (omega arith)) at used in
    (index, t, tree_grow statements more u.number index t has, still)

uses_last : (profile : Profile) (statements : List PlainStatement) (s : PlainStatement) (used : List ℕ) → is_some (sentence_of s).label ≡ true → is_proof s ≡ true
    → IsProvedUsing profile (sentences statements) s used
    → AreUsesOf (statements ++ s ∷ []) (record { number = length (labelled_sentences (sentences statements)); used = ordered used })
unfolding any_proof
uses_last profile statements s used named complete proved =
    let prefix : statements ≡ take (length statements) (statements ++ s ∷ []) = sym (take-append_seam statements (s ∷ [])) in
    let proof : Spells s (tree_of proved.proof) (take (length statements) (statements ++ s ∷ [])) =
    subst (Spells s (tree_of proved.proof)) prefix (any_proof profile (sentences statements) (sentence_of s) (proof_of s) proved.proof, refl) in (
      length statements,
      tree_of proved.proof,
      record { s = s; at = at_last statements s named; complete = complete; proof = proof.0; spelled = proof.1 },
      subst (λ (prefix : List PlainStatement). AreUsed (sentences prefix) (tree_of proved.proof) (ordered used)) prefix
          (ordered_used (sentences statements) (tree_of proved.proof) used proved.all),
    )

-- what is kept of one statement more
pub uses_more : (profile : Profile) (statements : List PlainStatement) (s : PlainStatement) (old new : List ProofUses) → (is_proof s ≡ true → is_some (sentence_of s).label ≡ true)
    → AreUses statements old → (b : Bool) → is_proof s ≡ b
    → KeepsProof profile (sentences statements) s (length (labelled_sentences (sentences statements))) b old new
    → AreUses (statements ++ s ∷ []) new
uses_more profile statements s old new named uses true e keeps =
    let one = keeps.some refl in
    let u : ProofUses = record { number = length (labelled_sentences (sentences statements)); used = ordered one.0 } in
    rw one.2 (record {
      proofs = rw (map-append (λ (v : ProofUses). v.number) old (u ∷ []))
          (one_more_number is_proof statements s (numbers_of old) named uses.proofs true e);
      each = λ v h. elim (holds_cases old u v h) [
        | inl before ↦ uses_grow statements (s ∷ []) v (uses.each v before)
        | inr last ↦ subst (λ (w : ProofUses). AreUsesOf (statements ++ s ∷ []) w) (sym last) (uses_last profile statements s one.0 (named e) e one.1)
      ];
    })
uses_more profile statements s old new named uses false e keeps =
    rw (keeps.none refl) (record {
      proofs = subst (λ (ns : List ℕ). AreInOrder (IsNumberWhere (statements ++ s ∷ []) (λ t. is_proof t ≡ true)) ns) (append-nil (numbers_of old))
          (one_more_number is_proof statements s (numbers_of old) named uses.proofs false e);
      each = λ v h. uses_grow statements (s ∷ []) v (uses.each v h);
    })

-- ==== what the progress knows of one statement more, and what it tells in the end

-- the labels of what statements say are theirs
pub labels_said : (statements : List PlainStatement) → labels_in (sentences statements) ≡ labels_of statements
labels_said [] = refl
labels_said (s ∷ statements) = ap (λ (rest : List (List ℕ)). label_of s ++ rest) (labels_said statements)

pub unproved_of-append : (a b : List PlainStatement) → unproved_of (a ++ b) ≡ unproved_of a ++ unproved_of b
unproved_of-append a b =
    ap (λ (ss : List PlainStatement). flat_map label_of ss) (filter-append is_unproved a b)
    ∙ flat_map-append label_of (filter is_unproved a) (filter is_unproved b)

-- the numbers of the list
abbrev pub ids : List LabelId → List ℕ
ids list = map (λ id. id.0) list

-- names at the numbers of a list, in one go and in two
pub names_of_ids : (names : List (List ℕ)) (list : List LabelId) → map (λ (id : LabelId). slice_get names id.0) list ≡ map (slice_get names) (ids list)
names_of_ids names [] = refl
names_of_ids names (id ∷ list) = ap (λ (rest : List (Option (List ℕ))). slice_get names id.0 ∷ rest) (names_of_ids names list)

-- a `$p` has a label
pub provable_label : (kind : Kind) (label : Option PlainToken) → HasLabel kind label → is_provable kind ≡ true
    → (l : PlainToken) × (label ≡ Some l)
provable_label Provable label has e = (has.0, has.1)
provable_label kind label has e = absurd cc

-- a `$p` has a label
labelled_provable : (s : PlainStatement) (rest : Bool) → HasForm s → (is_provable s.kind && rest) ≡ true → is_some (sentence_of s).label ≡ true
labelled_provable s rest formed e =
    let found = provable_label s.kind s.label formed.label (and_parts (is_provable s.kind) rest e).0 in
    ap (λ (o : Option PlainToken). is_some (option_map (λ (t : PlainToken). t.text) o)) found.1

-- the numbers of the incomplete proofs, and that of one more where it is incomplete
more_unproved : (names : List (List ℕ)) (numbers : List ℕ) (unproved : List (List ℕ)) (s : PlainStatement) (count : ℕ) → HasForm s
    → count ≡ length names → map (slice_get names) numbers ≡ map Some unproved
    → (b : Bool) → is_unproved s ≡ b
    → map (slice_get (names ++ label_of s)) (numbers ++ cond b (count ∷ []) []) ≡ map Some (unproved ++ flat_map label_of (cond b (s ∷ []) []))
more_unproved names numbers unproved s count formed counted named false e =
    ap (λ (ns : List ℕ). map (slice_get (names ++ label_of s)) ns) (append-nil numbers)
    ∙ named_more names (label_of s) numbers unproved named
    ∙ sym (ap (λ (ls : List (List ℕ)). map Some ls) (append-nil unproved))
more_unproved names numbers unproved s count formed counted named true e =
    let found = provable_label s.kind s.label formed.label (and_parts (is_provable s.kind) (is_incomplete (proof_of s)) e).0 in
    let text : List ℕ = found.0.text in
    let label : label_of s ≡ text ∷ [] = ap (λ (o : Option PlainToken). option_to_list (option_map (λ t. t.text) o)) found.1 in
    let prefix : map (slice_get (names ++ label_of s)) numbers ≡ map Some unproved = named_more names (label_of s) numbers unproved named in
    let last : slice_get (names ++ text ∷ []) (length names) ≡ Some text = get_pushed names text in
    let here : slice_get (names ++ label_of s) count ≡ Some text = rw (label, counted) last in
    map-append (slice_get (names ++ label_of s)) numbers (count ∷ [])
    ∙ ap (λ (os : List (Option (List ℕ))). os ++ slice_get (names ++ label_of s) count ∷ []) prefix
    ∙ ap (λ (o : Option (List ℕ)). map Some unproved ++ o ∷ []) here
    ∙ sym (map-append Some unproved (text ∷ []))
    ∙ ap (λ (ls : List (List ℕ)). map Some (unproved ++ ls)) (sym (append-nil (label_of s) ∙ label))

incomplete_more : (profile : Profile) (statements : List PlainStatement) (s : PlainStatement) (p q : Progress) → HasForm s
    → p.prover.book.statements ≡ sentences statements → Knows statements p → Takes profile p s q
    → map (λ (id : LabelId). slice_get (labels_of (statements ++ s ∷ [])) id.0) q.incomplete.items ≡ map Some (unproved_of (statements ++ s ∷ []))
incomplete_more profile statements s p q formed book known takes =
    let names : List (List ℕ) = labels_of statements in
    let numbers : List ℕ = ids p.incomplete.items in
    let count : ℕ = length (labelled_sentences p.prover.book.statements) in
    let counted : count ≡ length names =
    count_labelled (λ (t : Sentence). t.label) p.prover.book.statements
    ∙ ap length (ap labels_in book ∙ labels_said statements) in
    let named = sym (names_of_ids names p.incomplete.items) ∙ known.incomplete in
    let longer : labels_of (statements ++ s ∷ []) ≡ names ++ label_of s =
    flat_map-append label_of statements (s ∷ [])
    ∙ ap (λ (ls : List (List ℕ)). names ++ ls) (append-nil (label_of s)) in
    names_of_ids (labels_of (statements ++ s ∷ [])) q.incomplete.items
    ∙ ap (λ (ns : List ℕ). map (slice_get (labels_of (statements ++ s ∷ []))) ns) takes.incomplete
    ∙ ap (λ (ls : List (List ℕ)). map (slice_get ls) (numbers ++ cond (is_unproved s) (count ∷ []) [])) longer
    ∙ more_unproved names numbers (unproved_of statements) s count formed counted named (is_unproved s) refl
    ∙ sym (ap (λ (ls : List (List ℕ)). map Some ls) (unproved_of-append statements (s ∷ [])))

noted_more : (profile : Profile) (statements : List PlainStatement) (s : PlainStatement) (p q : Progress) → HasForm s
    → p.prover.book.statements ≡ sentences statements → Knows statements p → Takes profile p s q
    → AreInOrder (IsNumberWhere (statements ++ s ∷ []) (λ t. is_unproved t ≡ true)) (ids q.incomplete.items)
noted_more profile statements s p q formed book known takes =
    rw (takes.incomplete, book)
    (one_more_number is_unproved statements s (ids p.incomplete.items) (labelled_provable s (is_incomplete (proof_of s)) formed) known.noted (is_unproved s) refl)

-- what the progress has of one statement more
pub taken_more : (statements : List PlainStatement) (s : PlainStatement) (p q : Progress) → HasTaken statements p
    → q.prover.book.statements ≡ p.prover.book.statements ++ sentence_of s ∷ []
    → q.prover.book.bytes ≡ p.prover.book.bytes + bytes_in s
    → q.count ≡ p.count + 1 → q.proofs ≤ p.proofs + 1
    → HasTaken (statements ++ s ∷ []) q
taken_more statements s p q taken book bytes count proofs = record {
  book = book ∙ ap (λ (ss : List Sentence). ss ++ sentence_of s ∷ []) taken.book ∙ sym (map-append sentence_of statements (s ∷ []));
  bytes = omega (arith, bytes, taken.bytes, sum_by-append bytes_in statements (s ∷ []));
  count = omega (arith, count, taken.count, length-append statements (s ∷ []));
  proofs = omega (arith, proofs, taken.proofs, length-append statements (s ∷ []));
}

-- what it knows of it
pub knows_more : (profile : Profile) (statements : List PlainStatement) (s : PlainStatement) (p q : Progress) → HasForm s
    → p.prover.book.statements ≡ sentences statements → Knows statements p → Takes profile p s q
    → Knows (statements ++ s ∷ []) q
knows_more profile statements s p q formed book known takes = record {
  proofs = takes.proofs ∙ ap (λ (n : ℕ). n + cond (is_proof s) 1 0) known.proofs
      ∙ sym (count_append is_proof statements (s ∷ []) ∙ ap (λ (n : ℕ). count_by is_proof statements + n) (count_by-one is_proof s));
  incomplete = incomplete_more profile statements s p q formed book known takes;
  noted = noted_more profile statements s p q formed book known takes;
  kept = uses_more profile statements s p.kept q.kept (labelled_provable s (not (is_incomplete (proof_of s))) formed) known.kept (is_proof s) refl
      (subst (λ (ss : List Sentence). KeepsProof profile ss s (length (labelled_sentences ss)) (is_proof s) p.kept q.kept) book takes.kept);
}

-- ==== statements one by one: those that are meant, and the `$p` whose proofs are incomplete

-- what obeys the rules breaks no rule of meaning
pub all_meant : (profile : Profile) (statements : List PlainStatement) → AllObey profile statements → AllMeant (sentences statements)
all_meant profile statements obeyed before after s e =
    let (t, there, said) =
    get_unmapped sentence_of statements (length before) s (rw e (get_parted before after s)) in
    let prefix : sentences (take (length before) statements) ≡ before =
    sym (take-map sentence_of (length before) statements) ∙ ap (take (length before)) e
    ∙ take-append_seam before (s ∷ after) in
    rw (prefix, said) at (obeyed _ _ t (split_at statements (length before) t there)).meant

-- a kind that is that of a `$p`, and more
pub provable_kind : (kind : Kind) (rest : Bool) → (is_provable kind && rest) ≡ true
    → kind ≡ Provable
provable_kind kind rest e = is_provable-true kind (and_parts (is_provable kind) rest e).0

-- what has a complete proof isn't unproved
unproved_test : (a b : Bool) → (a && not b) ≡ true → (a && b) ≡ false
unproved_test true false h = refl
unproved_test _ _ h = absurd cc

pub proof_not_unproved : (s : PlainStatement) → is_proof s ≡ true → is_unproved s ≡ false
proof_not_unproved s h = unproved_test (is_provable s.kind) (is_incomplete (proof_of s)) h

-- ## One more statement

-- before any statement
pub no_statement : (profile : Profile) → AllObey profile []
no_statement profile [] after s e = absurd cc
no_statement profile (b ∷ before) after s e = absurd cc

-- one more statement that obeys the rules
pub one_more : (profile : Profile) (statements : List PlainStatement) (x : PlainStatement) → AllObey profile statements → Obeys profile (sentences statements) x → AllObey profile (statements ++ x ∷ [])
one_more profile statements x obeyed new before after s split = elim (last_cut statements x before s after split) [
  | inl (others, e) ↦ obeyed before others s e
  | inr (e, f) ↦ rw (e, ← f) new
]

-- ## No proof is incomplete

-- a list with a first part has missing of it where the whole is empty
no_part : {X : Type 0} (a b : List X) → a ++ b ≡ [] → (a ≡ []) × (b ≡ [])
no_part [] [] e = (refl, refl)
no_part _ _ e = absurd cc

-- where no proof is listed, the proof of each `$p` is complete
not_listed : (s : PlainStatement) (after : List PlainStatement) → HasForm s → s.kind ≡ Provable → unproved_of (s ∷ after) ≡ []
    → (b : Bool) → is_incomplete (proof_of s) ≡ b → b ≡ false
not_listed s after formed provable missing false e = refl
not_listed s after formed provable missing true e =
    let found = provable_label s.kind s.label formed.label (rw provable refl) in
    let listed = rw (unproved_there s provable e, found.1) at missing in
    absurd cc

pub complete_where_none : (before after : List PlainStatement) (s : PlainStatement) → AllByRecursion HasForm (before ++ s ∷ after)
    → unproved_of (before ++ s ∷ after) ≡ [] → s.kind ≡ Provable → is_incomplete (proof_of s) ≡ false
complete_where_none before after s formed missing provable =
    let rest : unproved_of (s ∷ after) ≡ [] =
    (no_part (unproved_of before) (unproved_of (s ∷ after)) (sym (unproved_of-append before (s ∷ after)) ∙ missing)).1 in
    not_listed s after (all_back HasForm before (s ∷ after) formed).0 provable rest
    (is_incomplete (proof_of s)) refl

-- so missing is incomplete
pub none_incomplete : (before after : List PlainStatement) (s : PlainStatement)
    → AllByRecursion HasForm (before ++ s ∷ after) → unproved_of (before ++ s ∷ after) ≡ []
    → is_unproved s ≡ true → ⊥
none_incomplete before after s formed missing open_one =
    let provable = provable_kind s.kind (is_incomplete (proof_of s)) open_one in
    let complete = complete_where_none before after s formed missing provable in
    cc (open_one, proof_not_unproved s (proof_there s provable complete))

-- a statement that isn't an incomplete `$p` isn't listed
not_unproved : (kind : Kind) (incomplete : Bool) → (kind ≡ Provable → incomplete ≡ false) → (is_provable kind && incomplete) ≡ false
not_unproved Provable incomplete h = h refl
not_unproved kind incomplete h = refl

pub none_unproved : (statements : List PlainStatement)
    → ((before after : List PlainStatement) (s : PlainStatement) → statements ≡ before ++ s ∷ after → s.kind ≡ Provable → is_incomplete (proof_of s) ≡ false)
    → unproved_of statements ≡ []
none_unproved [] h = refl
none_unproved (s ∷ statements) h =
    let here : is_unproved s ≡ false = not_unproved s.kind (is_incomplete (proof_of s)) (λ provable. h [] statements s refl provable) in
    let rest : unproved_of statements ≡ [] =
    none_unproved statements (λ before after t e provable. h (s ∷ before) after t (ap (λ (ss : List PlainStatement). s ∷ ss) e) provable) in
    rw here rest
