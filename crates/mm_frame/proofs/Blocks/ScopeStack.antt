-- What the scopes' code does with the stack of open blocks.
use Rattle.std.proofs.Common.{◌≡◌, ◌↔◌, ℕ, zero, suc, ◌-◌, ◌<◌, ◌≤◌, length, List, Some, subst}
use Rattle.std.proofs.Common.{arith, slice_get, ◌+◌, IsTrue, IsSome, false, leb, take, set}
use Rattle.std.proofs.Common.{[], ◌∷◌, ◌++◌, Option, None, refl, sym, ap, ◌∙◌, rules}
use Rattle.std.proofs.Common.{option_to_list, append_assoc, append-nil}
use Rattle.std.proofs.lemmas.Option.{slice_get_within}
use Rattle.mm_frame.specs.Sentence.{Sentence}
use Rattle.mm_frame.specs.Active.{open_marks, close_marks, IsOpen, IsActive}
use Rattle.mm_frame.specs.Mirror.Scopes.{IsUnclosed, AreScopes}
use Rattle.mm_base.proofs.Lists.{get_within, get_pushed}
use Rattle.mm_base.specs.declared.statement.Kind.{Kind}
use Rattle.mm_base.specs.declared.statement.Kind.TheVariants.{Opening, Closing}
use Rattle.mm_base.specs.Blocks.{is_opening}
use Rattle.mm_frame.proofs.Blocks.ActiveStatements.{not_closing, active_while, while_active}
use Rattle.mm_frame.proofs.Blocks.NumberedBlocks.{length_pushed, scopes_ordinary, scopes_opening}
use Rattle.mm_frame.proofs.Blocks.NumberedBlocks.{scopes_closing}
use Rattle.mm_frame.specs.Mirror.Forgotten.{AreForgotten}

-- ==== what the stack of open blocks tells: the depth, whether a block is open, and how many blocks
-- there can be

module _ {never : ℕ} {st : List Sentence} {blocks ends stack : List ℕ}
    (a : AreScopes never st blocks ends stack) where
  -- the open blocks are one more than the `${` that no `$}` has closed
  pub scope_depth : (length stack ≡ suc (open_marks st - close_marks st))
      × (close_marks st ≤ open_marks st)
  scope_depth =
      let h = a.on_stack 0 0 a.bottom in
      let same : h.start ≡ 0 = let there = h.there in cc in
      let sum : open_marks st + 1 ≡ close_marks st + length stack = rw same at h.above in
      let lt = slice_get_within stack 0 0 a.bottom in
      (omega arith, omega arith)

  -- some block is open exactly if more than the whole database stands on the stack
  pub scope_some_open : ((p : ℕ) × IsOpen st p) ↔ (2 ≤ length stack)
  scope_some_open =
      let bottom = a.bottom in (
        (λ (p, still).
            let (k, b, on, begins) = a.complete p still in
            above p k b on begins),
        (λ enough.
            let (b, on) = get_within stack 1 (omega arith) in
            let h = a.on_stack 1 b on in
            let positive : 0 < b = a.stacked 0 1 0 b bottom on (omega arith) in
            opened b h.start positive h.there h.unclosed),
      )
    where
      above : (p k b : ℕ) → slice_get stack k ≡ Some b → slice_get a.starts b ≡ Some (suc p)
          → 2 ≤ length stack
      above p zero b on begins =
          let bottom = a.bottom in
          let same : b ≡ 0 = cc in
          absurd (let at = rw same at begins in let outer = a.outermost in cc)
      above p (suc k) b on begins =
          let lt = slice_get_within stack (suc k) b on in omega arith

      opened : (b x : ℕ) → 0 < b → slice_get a.starts b ≡ Some x → IsUnclosed st x
          → (p : ℕ) × IsOpen st p
      opened zero x positive there still = absurd (omega arith)
      opened (suc b) x positive there still =
          let begun = a.begun b x there in (
            begun.index,
            record {
              opening = begun.opening;
              there = begun.there;
              opened = begun.opened;
              unclosed = rw begun.next at still;
            },
          )

  -- the stack has a block
  pub stack_some : (k : ℕ) × (length stack ≡ suc k)
  stack_some = (length stack - 1, let d = scope_depth in omega (arith, d.0))

  -- what a look-up of a block and its end says
  pub active_by_end : (p q b c : ℕ) → slice_get blocks p ≡ Some b → slice_get ends b ≡ Some c
      → length st ≤ never → p < q → q ≤ length st → IsTrue (leb q c) ↔ IsActive (take q st) p
  active_by_end p q b c there end small lt le = (
    (λ t. active_while a p q b c there end lt le (search rules)),
    (λ active.
        let until : q ≤ c = while_active a small p q b c there end lt le active in
        search rules),
  )

  -- each block that holds a statement has an end
  pub no_end : (p b : ℕ) → slice_get blocks p ≡ Some b → slice_get ends b ≡ None → ⊥
  no_end p b there none =
      let h = a.holders p b there in
      let lt = slice_get_within a.starts b h.start h.there in
      let (c, end) = get_within ends b (omega arith) in cc

not_opening : (kind : Kind) → ¬ (kind ≡ Opening) → is_opening kind ≡ false
not_opening Opening apart = absurd (apart refl)
not_opening kind apart = refl

module _ {never : ℕ} {st : List Sentence} (e : Sentence) {blocks ends stack : List ℕ}
    (top : ℕ) (inner : (k : ℕ) → length stack ≡ suc k → slice_get stack k ≡ Some top)
    (a : AreScopes never st blocks ends stack) where
  -- after a statement that opens and closes no block
  pub stayed : ¬ (e.kind ≡ Opening) → ¬ (e.kind ≡ Closing)
      → AreScopes never (st ++ e ∷ []) (blocks ++ top ∷ []) ends stack
  stayed no_open no_close =
      let (k, is) = stack_some a in
      scopes_ordinary never st e blocks ends stack k top a is (inner k is) (not_opening e.kind no_open) (not_closing e.kind no_close)

  -- after a `${`
  pub begun : e.kind ≡ Opening
      → AreScopes never (st ++ e ∷ []) (blocks ++ top ∷ []) (ends ++ never ∷ [])
      (stack ++ length ends ∷ [])
  begun opened =
      let (k, is) = stack_some a in
      scopes_opening never st e blocks ends stack k top a is (inner k is) opened

-- a list with an element is the elements before its last, and the last
pub split_last : (stack below : List ℕ) (popped : Option ℕ) → IsSome popped → stack ≡ below ++ option_to_list popped
    → (top : ℕ) × (stack ≡ below ++ top ∷ []) × (slice_get stack (length below) ≡ Some top) × (length below + 1 ≡ length stack)
split_last stack below None some e = absurd (cc some)
split_last stack below (Some top) some e = (top, e, rw e (get_pushed below top), omega (arith, ap length e, length_pushed below top))

-- below the innermost of two open blocks stands another
pub some_under : (stack below : List ℕ) (popped : Option ℕ) → 2 ≤ length stack
    → stack ≡ below ++ option_to_list popped → (1 ≤ length stack → IsSome popped)
    → 1 ≤ length below
some_under stack below popped two split some =
    let (top, whole, at_end, shorter) = split_last stack below popped (some (omega arith)) split in
    omega arith

-- after a `$}`
pub closed : (never : ℕ) (st : List Sentence) (e : Sentence) (blocks ends stack below : List ℕ) (popped : Option ℕ) (top under : ℕ)
    → ((k : ℕ) → length stack ≡ suc k → slice_get stack k ≡ Some top) → ((k : ℕ) → length below ≡ suc k → slice_get below k ≡ Some under)
    → stack ≡ below ++ option_to_list popped → (1 ≤ length stack → IsSome popped)
    → AreScopes never st blocks ends stack → e.kind ≡ Closing → close_marks st < open_marks st
    → (top < length ends) × AreScopes never (st ++ e ∷ []) (blocks ++ under ∷ []) (set ends top (length blocks)) below
closed never st e blocks ends stack below popped top under inner outer split len a is_close more =
    let d = scope_depth a in
    let two : 2 ≤ length stack = omega (arith, d.0) in
    let (t, whole, at_end, shorter) = split_last stack below popped (len (omega arith)) split in
    let same : Some top ≡ Some t = sym (inner (length below) (omega arith)) ∙ at_end in
    let top_is : top ≡ t = cc in
    let below_is : length below ≡ suc (length below - 1) = omega arith in
    let h = a.on_stack (length below) top (inner (length below) (omega arith)) in
    let lt = slice_get_within a.starts top h.start h.there in
    let within : top < length ends = let sized = a.sized in omega arith in
    let b : AreScopes never st blocks ends (below ++ top ∷ []) = subst (λ (xs : List ℕ). AreScopes never st blocks ends xs) (whole ∙ ap (λ x. below ++ x ∷ []) (sym top_is)) a in
    let held : length blocks ≡ length st = a.held in
    (within, rw held (scopes_closing never st e blocks ends below _ top under b below_is (outer _ below_is) is_close))

-- ==== indices that aren't active are dropped from the end of a list, one by one

-- indices that aren't active were dropped from the end
pub record AreDropped (statements : List Sentence) (before after : List ℕ) : Type 0 where
  pub gone : List ℕ
  pub parted : before ≡ after ++ gone
  pub inactive : (i p : ℕ) → slice_get gone i ≡ Some p → ¬ (IsActive statements p)

pub dropped_more : (st : List Sentence) (before mid after : List ℕ) (popped : Option ℕ) → AreDropped st before mid → mid ≡ after ++ option_to_list popped
    → ((k p : ℕ) → length mid ≡ suc k → slice_get mid k ≡ Some p → ¬ (IsActive st p)) → AreDropped st before after
dropped_more st before mid after None dropped parted last = record { gone = dropped.gone; parted = dropped.parted ∙ ap (λ ys. ys ++ dropped.gone) (parted ∙ append-nil after); inactive = dropped.inactive }
dropped_more st before mid after (Some p) dropped parted last = record {
  gone = p ∷ dropped.gone;
  parted = dropped.parted ∙ ap (λ ys. ys ++ dropped.gone) parted ∙ append_assoc after (p ∷ []) dropped.gone;
  inactive = more dropped.gone dropped.inactive;
}
  where
    size : length mid ≡ suc (length after)
    size = ap length parted ∙ length_pushed after p

    more : (gone : List ℕ) → ((i q : ℕ) → slice_get gone i ≡ Some q → ¬ (IsActive st q)) → (i q : ℕ) → slice_get (p ∷ gone) i ≡ Some q → ¬ (IsActive st q)
    more gone none zero q there =
        let is : p ≡ q = cc in
        subst (λ n. ¬ (IsActive st n)) is (last (length after) p size (subst (λ ys. slice_get ys (length after) ≡ Some p) (sym parted) (get_pushed after p)))
    more gone none (suc i) q there = none i q there

pub forgotten_last : (st : List Sentence) (before after : List ℕ) → AreDropped st before after → ((k p : ℕ) → length after ≡ suc k → slice_get after k ≡ Some p → IsActive st p)
    → AreForgotten st before after
forgotten_last st before after dropped last = record { gone = dropped.gone; parted = dropped.parted; inactive = dropped.inactive; last_active = last }

pub popped_size : (mid after : List ℕ) (popped : Option ℕ) → mid ≡ after ++ option_to_list popped → IsSome popped → length mid ≡ suc (length after)
popped_size mid after None parted some = absurd (cc some)
popped_size mid after (Some p) parted some = ap length parted ∙ length_pushed after p
