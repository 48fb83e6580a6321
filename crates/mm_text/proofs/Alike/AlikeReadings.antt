-- What the reader computes of items that differ in positions alone differs in positions alone.
use Rattle.std.proofs.Common.{◌≡◌, ℕ, ◌==◌, map, List, [], ◌∷◌, ◌++◌, Bool, cond, refl, sym, ap}
use Rattle.std.proofs.Common.{◌∙◌, codes, Option, Some, None, option_map, ◌+◌, drop}
use Rattle.std.proofs.lemmas.List.{map-append, drop-map}
use Rattle.std.specs.List.{AllZip}
use Rattle.mm_text.specs.declared.scope.OpenBlock.{OpenBlock}
use Rattle.mm_text.specs.declared.fault.TextRule.{TextRule}
use Rattle.mm_text.specs.declared.fault.TextRule.TheVariants.{S6}
use Rattle.mm_base.specs.declared.statement.Kind.{Kind}
use Rattle.mm_base.specs.declared.statement.Kind.TheVariants.{Opening, Closing}
use Rattle.mm_base.specs.Token.{PlainToken, is_label}
use Rattle.mm_base.specs.Statement.{PlainStatement, is_provable}
use Rattle.mm_text.specs.Items.{Item, Plain, Wrong, Inclusion, End, plain_tokens}
use Rattle.mm_base.specs.Spelling.{spells}
use Rattle.mm_text.specs.Reading.{PlainFault}
use Rattle.mm_text.specs.Alike.{token_on, faulty_on, item_on, statement_on, fault_on}
use Rattle.mm_text.specs.Mirror.Reader.{Part, Between, Labelled, InBody, InProof, Step, More, Whole}
use Rattle.mm_text.specs.Mirror.Reader.{Opened, Closed, Faulty, step, is_keyword}
use Rattle.mm_base.specs.Begun.{bare_statement}
use Rattle.mm_text.specs.Mirror.Reader.{has_count, is_full, PlainScope, PlainReading, reading_of}
use Rattle.mm_text.specs.Mirror.Reader.{fault_in, end_fault, inclusion_fault, block_fault, unless}
use Rattle.mm_text.specs.Mirror.Reader.{unfinished_fault, has_none, only_ending, with_statement}
use Rattle.mm_text.specs.Mirror.Reader.{scope_after_statement, scope_after_opening}
use Rattle.mm_text.specs.Mirror.Reader.{scope_after_closing}
use Rattle.mm_text.proofs.Reader.OneToken.{read_more, read_whole, read_opened, read_closing}
use Rattle.mm_text.proofs.Reader.OneToken.{read_faulty}
use Rattle.mm_base.proofs.Lists.{both_choices, choice_mapped, same_length}

-- ---- tokens

-- tokens that show the same have one text
pub text_alike : (h k : ℕ → ℕ → ℕ) (t u : PlainToken) → token_on h t ≡ token_on k u
    → t.text ≡ u.text
text_alike h k t u e = ap (λ (x : PlainToken). x.text) e

-- and are the same where they are faulty
pub faulty_alike : (h k : ℕ → ℕ → ℕ) (t u : PlainToken) → token_on h t ≡ token_on k u
    → faulty_on h t ≡ faulty_on k u
faulty_alike h k t u e =
    ap (λ (x : PlainToken). record { text = []; file = x.file; at = x.at }) e

plain_tokens_on : (h : ℕ → ℕ → ℕ) (its : List Item)
    → plain_tokens (map (item_on h) its) ≡ map (token_on h) (plain_tokens its)
plain_tokens_on h [] = refl
plain_tokens_on h (Plain t ∷ its) =
    ap (λ (x : List PlainToken). token_on h t ∷ x) (plain_tokens_on h its)
plain_tokens_on h (_ ∷ its) = plain_tokens_on h its

-- the tokens in items that are alike are alike
pub plain_tokens_alike : (h k : ℕ → ℕ → ℕ) (its others : List Item)
    → map (item_on h) its ≡ map (item_on k) others
    → map (token_on h) (plain_tokens its) ≡ map (token_on k) (plain_tokens others)
plain_tokens_alike h k its others e =
    sym (plain_tokens_on h its) ∙ ap plain_tokens e ∙ plain_tokens_on k others

-- ---- other numbers in place of positions

module _ (h : ℕ → ℕ → ℕ) where
  abbrev part_on : Part → Part
  part_on Between = Between
  part_on (Labelled label) = Labelled (token_on h label)
  part_on (InBody s) = InBody (statement_on h s)
  part_on (InProof s) = InProof (statement_on h s)

  abbrev step_on : Step → Step
  step_on (More part) = More (part_on part)
  step_on (Whole s) = Whole (statement_on h s)
  step_on other = other

  abbrev block_on : OpenBlock → OpenBlock
  block_on b = record { file = b.file; at = h b.file b.at; statement = b.statement }

  abbrev pub scope_on : PlainScope → PlainScope
  scope_on scope = record { count = scope.count; blocks = map block_on scope.blocks }

  abbrev pub reading_on : PlainReading → PlainReading
  reading_on r = record {
    statements = map (statement_on h) r.statements;
    ending = option_map (fault_on h) r.ending;
  }

  -- ---- faults

  fault_in_on : (scope : PlainScope) (part : Part) (rule : TextRule) (t : PlainToken)
      → fault_on h (fault_in scope part rule t)
      ≡ fault_in (scope_on scope) (part_on part) rule (token_on h t)
  fault_in_on scope Between rule t = refl
  fault_in_on scope _ rule t = refl

  none_on : (blocks : List OpenBlock) → has_none blocks ≡ has_none (map block_on blocks)
  none_on [] = refl
  none_on (b ∷ blocks) = refl

  block_fault_on : (blocks : List OpenBlock)
      → option_map (fault_on h) (block_fault blocks) ≡ block_fault (map block_on blocks)
  block_fault_on [] = refl
  block_fault_on (b ∷ blocks) = refl

  unfinished_on : (scope : PlainScope) (part : Part)
      → option_map (fault_on h) (unfinished_fault scope part)
      ≡ unfinished_fault (scope_on scope) (part_on part)
  unfinished_on scope Between = refl
  unfinished_on scope _ = refl

  end_fault_on : (scope : PlainScope) (part : Part) (file : ℕ)
      → option_map (fault_on h) (end_fault scope part file)
      ≡ end_fault (scope_on scope) (part_on part) file
  end_fault_on scope Between file =
      choice_mapped (option_map (fault_on h)) (λ f. f) (file == 0) _ _ _ _
      (block_fault_on scope.blocks) refl
  end_fault_on scope _ file = refl

  inclusion_fault_on : (scope : PlainScope) (part : Part) (t : PlainToken)
      → option_map (fault_on h) (inclusion_fault scope part t)
      ≡ inclusion_fault (scope_on scope) (part_on part) (token_on h t)
  inclusion_fault_on scope Between t =
      both_choices (λ f g. option_map (fault_on h) f ≡ g) (has_none scope.blocks) _ _ _ _ _
      (none_on scope.blocks) refl refl
  inclusion_fault_on scope _ t = refl

  unless_on : (fault : Option PlainFault) (r : PlainReading)
      → reading_on (unless fault r) ≡ unless (option_map (fault_on h) fault) (reading_on r)
  unless_on None r = refl
  unless_on (Some fault) r = refl

-- ---- one token

module _ (h k : ℕ → ℕ → ℕ) where
  abbrev SameStep : Step → Step → Type 0
  SameStep a b = step_on h a ≡ step_on k b

  module _ (t u : PlainToken) (e : token_on h t ≡ token_on k u) where
    -- by a test of the text
    by_text : (test : List ℕ → Bool) (x y v w : Step) → SameStep x v → SameStep y w
        → SameStep (cond (test t.text) x y) (cond (test u.text) v w)
    by_text test x y v w p q =
        both_choices SameStep (test t.text) (test u.text) x y v w
        (ap (λ (x : PlainToken). test x.text) e) p q

    abbrev is : List ℕ → List ℕ → Bool
    is word text = spells text word

    bare : (kind : Kind) → SameStep (More (InBody (bare_statement kind t None)))
        (More (InBody (bare_statement kind u None)))
    bare kind = λ i. More (InBody (bare_statement kind (e i) None))

    start_same : SameStep (step Between t) (step Between u)
    unfolding step
    start_same =
        by_text (is (codes "$c")) _ _ _ _ (bare _) (by_text (is (codes "$v")) _ _ _ _ (bare _)
        (by_text (is (codes "$d")) _ _ _ _ (bare _) (by_text (is (codes "${")) _ _ _ _ refl
        (by_text (is (codes "$}")) _ _ _ _ refl (by_text is_keyword _ _ _ _ refl
        (by_text is_label _ _ _ _ (λ i. More (Labelled (e i))) refl))))))

    label_same : (l m : PlainToken) → token_on h l ≡ token_on k m
        → SameStep (step (Labelled l) t) (step (Labelled m) u)
    unfolding step
    label_same l m le =
        let begun : (kind : Kind) → SameStep (More (InBody (bare_statement kind l (Some l))))
        (More (InBody (bare_statement kind m (Some m)))) =
        λ kind i. More (InBody (bare_statement kind (le i) (Some (le i)))) in
        by_text (is (codes "$f")) _ _ _ _ (begun _) (by_text (is (codes "$e")) _ _ _ _ (begun _)
        (by_text (is (codes "$a")) _ _ _ _ (begun _) (by_text (is (codes "$p")) _ _ _ _ (begun _)
        refl)))

    -- one token more
    pushed : (ts us : List PlainToken) → map (token_on h) ts ≡ map (token_on k) us
        → map (token_on h) (ts ++ t ∷ []) ≡ map (token_on k) (us ++ u ∷ [])
    pushed ts us es =
        map-append (token_on h) ts (t ∷ []) ∙ (λ i. es i ++ e i ∷ [])
        ∙ sym (map-append (token_on k) us (u ∷ []))

    module _ (s r : PlainStatement) (es : statement_on h s ≡ statement_on k r) where
      body_same : SameStep (step (InBody s) t) (step (InBody r) u)
      unfolding step
      body_same =
          let text = ap (λ (x : PlainToken). x.text) e in
          let kind = ap (λ (x : PlainStatement). x.kind) es in
          let symbols = ap (λ (x : PlainStatement). x.symbols) es in
          let long = same_length (token_on h) (token_on k) s.symbols r.symbols symbols in
          by_text is_keyword _ _ _ _
          (both_choices SameStep _ _ _ _ _ _
          (λ i. spells (text i) (cond (is_provable (kind i)) (codes "$=") (codes "$.")))
          (both_choices SameStep _ _ _ _ _ _ (λ i. has_count (kind i) (long i))
          (both_choices SameStep _ _ _ _ _ _ (ap is_provable kind)
          (ap (λ (x : PlainStatement). More (InProof x)) es) (ap Whole es)) refl) refl)
          (both_choices SameStep _ _ _ _ _ _ (λ i. is_full (kind i) (long i)) refl
          (λ i. More (InBody (record (es i) { symbols = pushed s.symbols r.symbols symbols i }))))

      proof_same : SameStep (step (InProof s) t) (step (InProof r) u)
      unfolding step
      proof_same =
          let proofs = ap (λ (x : PlainStatement). x.proof) es in
          by_text is_keyword _ _ _ _ (by_text (is (codes "$.")) _ _ _ _ (ap Whole es) refl)
          (λ i. More (InProof (record (es i) { proof = pushed s.proof r.proof proofs i })))

    step_same : (part other : Part) → part_on h part ≡ part_on k other
        → SameStep (step part t) (step other u)
    step_same Between Between same = start_same
    step_same (Labelled l) (Labelled m) same = label_same l m cc
    step_same (InBody s) (InBody r) same = body_same s r cc
    step_same (InProof s) (InProof r) same = proof_same s r cc
    step_same _ _ same = absurd cc

  -- ---- all items

  -- the readings are the same but for positions
  abbrev SameReading : PlainReading → PlainReading → Type 0
  SameReading r q = reading_on h r ≡ reading_on k q

  abbrev GoOn : List Item → List Item → Type 0
  GoOn its others = (scope after : PlainScope) (part other : Part)
      → scope_on h scope ≡ scope_on k after → part_on h part ≡ part_on k other
      → SameReading (reading_of scope part its) (reading_of after other others)

  module _ (scope after : PlainScope) (part other : Part) (es : scope_on h scope ≡ scope_on k after)
      (ep : part_on h part ≡ part_on k other) where
    fault_same : (rule law : TextRule) (t u : PlainToken) → rule ≡ law
        → faulty_on h t ≡ faulty_on k u
        → SameReading (only_ending (Some (fault_in scope part rule t)))
        (only_ending (Some (fault_in after other law u)))
    fault_same rule law t u same e =
        ap (λ (f : PlainFault). only_ending (Some f))
        (fault_in_on h scope part rule t ∙ (λ i. fault_in (es i) (ep i) (same i) (e i))
        ∙ sym (fault_in_on k after other law u))

    -- where a fault may stand before
    unless_same : (its others : List Item) → GoOn its others → (f g : Option PlainFault)
        → option_map (fault_on h) f ≡ option_map (fault_on k) g
        → SameReading (unless f (reading_of scope part its)) (unless g (reading_of after other others))
    unless_same its others inner f g e =
        unless_on h f _ ∙ (λ i. unless (e i) (inner scope after part other es ep i))
        ∙ sym (unless_on k g _)

    token_same : (its others : List Item) → GoOn its others → (t u : PlainToken)
        → token_on h t ≡ token_on k u → (a b : Step) → step part t ≡ a → step other u ≡ b
        → SameStep a b → SameReading (reading_of scope part (Plain t ∷ its))
        (reading_of after other (Plain u ∷ others))
    token_same its others inner t u e (More p) (More q) a b same =
        rw (read_more scope part t its p a, read_more after other u others q b)
        (inner scope after p q es cc)
    token_same its others inner t u e (Whole s) (Whole r) a b same =
        let rest = inner (scope_after_statement scope) (scope_after_statement after) Between Between
        (ap scope_after_statement es) refl in
        let first : statement_on h s ≡ statement_on k r = cc in
        rw (read_whole scope part t its s a, read_whole after other u others r b)
        (λ i. with_statement (first i) (rest i))
    token_same its others inner t u e Opened Opened a b same =
        let rest = inner (scope_after_opening scope t) (scope_after_opening after u) Between Between
        (λ i. scope_after_opening (es i) (e i)) refl in
        rw (read_opened scope part t its a, read_opened after other u others b)
        (λ i. with_statement (bare_statement Opening (e i) None) (rest i))
    token_same its others inner t u e Closed Closed a b same =
        let blocks = ap (λ (s : PlainScope). s.blocks) es in
        let rest = inner (scope_after_closing scope) (scope_after_closing after) Between Between
        (λ i. record {
          count = (es i).count + 1;
          blocks = (sym (drop-map (block_on h) 1 scope.blocks) ∙ ap (drop 1) blocks
              ∙ drop-map (block_on k) 1 after.blocks) i;
        }) refl in
        rw (read_closing scope part t its a, read_closing after other u others b)
        (both_choices SameReading (has_none scope.blocks) (has_none after.blocks) _ _ _ _
        (none_on h scope.blocks ∙ ap has_none blocks ∙ sym (none_on k after.blocks))
        (fault_same S6 S6 t u refl (faulty_alike h k t u e))
        (λ i. with_statement (bare_statement Closing (e i) None) (rest i)))
    token_same its others inner t u e (Faulty rule) (Faulty law) a b same =
        rw (read_faulty scope part t its rule a, read_faulty after other u others law b)
        (fault_same rule law t u (cc) (faulty_alike h k t u e))
    token_same its others inner t u e _ _ a b same = absurd cc

  -- readings of items that differ in positions alone do so too
  pub same_read : (its others : List Item) → AllZip (λ a b. item_on h a ≡ item_on k b) its others
      → GoOn its others
  unfolding reading_of
  same_read [] [] z scope after part other es ep =
      ap only_ending (unfinished_on h scope part ∙ (λ i. unfinished_fault (es i) (ep i))
      ∙ sym (unfinished_on k after other))
  same_read (End file ∷ its) (End number ∷ others) z scope after part other es ep =
      let n : file ≡ number = cc z.0 in
      unless_same scope after part other es ep its others (same_read its others z.1) _ _
      (end_fault_on h scope part file ∙ (λ i. end_fault (es i) (ep i) (n i))
      ∙ sym (end_fault_on k after other number))
  same_read (Wrong rule t ∷ its) (Wrong law u ∷ others) z scope after part other es ep =
      fault_same scope after part other es ep rule law t u (cc z.0) (cc z.0)
  same_read (Inclusion t ∷ its) (Inclusion u ∷ others) z scope after part other es ep =
      let e : token_on h t ≡ token_on k u = cc z.0 in
      unless_same scope after part other es ep its others (same_read its others z.1) _ _
      (inclusion_fault_on h scope part t ∙ (λ i. inclusion_fault (es i) (ep i) (e i))
      ∙ sym (inclusion_fault_on k after other u))
  same_read (Plain t ∷ its) (Plain u ∷ others) z scope after part other es ep =
      let e : token_on h t ≡ token_on k u = cc z.0 in
      token_same scope after part other es ep its others (same_read its others z.1) t u e
      (step part t) (step other u) refl refl (step_same t u e part other ep)
  same_read [] (b ∷ others) z scope after part other es ep = absurd z
  same_read (a ∷ its) [] z scope after part other es ep = absurd z
  same_read (a ∷ its) (b ∷ others) z scope after part other es ep = absurd (cc z.0)
