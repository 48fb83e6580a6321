-- What is active at each index, and what stays so as statements are added.
use Rattle.std.proofs.Common.{◌≡◌, ℕ, zero, suc, ◌<◌, ◌≤◌, inl, inr, length, take, List, Some}
use Rattle.std.proofs.Common.{subst, arith, slice_get, take-take, length-take-le, false, drop, []}
use Rattle.std.proofs.Common.{◌∷◌, ◌++◌, refl, sym}
use Rattle.std.proofs.lemmas.Bool.{cases_lt}
use Rattle.mm_frame.specs.Sentence.{Sentence}
use Rattle.mm_frame.specs.Active.{IsOpen, Holds, IsActive}
use Rattle.mm_frame.specs.Mirror.Scopes.{IsUnclosed, AreScopes}
use Rattle.mm_base.proofs.Lists.{get_from_front, get_in_front, get_kept, get_before}
use Rattle.mm_frame.proofs.Blocks.NumberedBlocks.{unclosed_prefix, unclosed_outer, open_in}
use Rattle.mm_frame.proofs.Blocks.NumberedBlocks.{openings-append, closings-append, unclosed_pushed}
use Rattle.mm_frame.proofs.Blocks.NumberedBlocks.{unclosed_before, unclosed_all, closings_one}
use Rattle.mm_frame.proofs.Blocks.NumberedBlocks.{length_pushed, all_taken}
use Rattle.std.proofs.lemmas.Option.{slice_get_within}
use Rattle.std.proofs.lemmas.List.{take-append-le}
use Rattle.mm_base.specs.declared.statement.Kind.{Kind}
use Rattle.mm_base.specs.declared.statement.Kind.TheVariants.{Closing}
use Rattle.mm_base.specs.Blocks.{is_closing}

-- ==== what is active at each index, by the blocks' numbers; and what stays active as statements
-- are added

-- a block is open after a prefix, if it is after a longer one
pub unclosed_shorter : (xs : List Sentence) (n m x : ℕ) → n ≤ m → IsUnclosed (take m xs) x → IsUnclosed (take n xs) x
unclosed_shorter xs n m x le still =
    subst (λ ys. IsUnclosed ys x) (take-take n m xs le) (unclosed_prefix (take m xs) n x still)

-- what a block holds in a prefix, where the prefix holds the statement
pub holds_kept : (st : List Sentence) (q p outer : ℕ) → p < q → Holds (take q st) outer p → Holds st outer p
holds_kept st q p outer lt (before, still) = (before, rw (take-take (suc p) q st (omega arith)) at still)

pub holds_back : (st : List Sentence) (q p outer : ℕ) → p < q → Holds st outer p → Holds (take q st) outer p
holds_back st q p outer lt (before, still) = (before, rw (take-take (suc p) q st (omega arith)) still)

module _ {never : ℕ} {st : List Sentence} {blocks ends stack : List ℕ}
    (a : AreScopes never st blocks ends stack) where
  -- a block is open after the prefix that ends with its `$}` or earlier
  unclosed_until : (b x c q : ℕ) → slice_get a.starts b ≡ Some x → slice_get ends b ≡ Some c
      → q ≤ length st → q ≤ c → IsUnclosed (take q st) x
  unclosed_until b x c q begins ends_at le until =
      elim (a.ended b x c begins ends_at) [
        | inl (is_never, k, on) ↦
            let h = a.on_stack k b on in
            let same : h.start ≡ x = let there = h.there in cc in
            unclosed_prefix st q x (subst (λ y. IsUnclosed st y) same h.unclosed)
        | inr end ↦ unclosed_shorter st q c x until end.before
      ]

  -- a block that is open after a prefix has its `$}` no earlier
  until_unclosed : (b x c q : ℕ) → slice_get a.starts b ≡ Some x → slice_get ends b ≡ Some c
      → q ≤ length st → length st ≤ never → IsUnclosed (take q st) x → q ≤ c
  until_unclosed b x c q begins ends_at le room still =
      elim (a.ended b x c begins ends_at) [
        | inl (is_never, k, on) ↦ omega arith
        | inr end ↦ elim (cases_lt c q) [
          | inl lt ↦ absurd (end.after (unclosed_shorter st (suc c) q x (omega arith) still))
          | inr ge ↦ ge
        ]
      ]

  -- the statement is active, while the block that directly holds it is open
  pub active_while : (p q b c : ℕ) → slice_get blocks p ≡ Some b → slice_get ends b ≡ Some c → p < q
      → q ≤ length st → q ≤ c → IsActive (take q st) p
  active_while p q b c holder ends_at lt le until =
      let h = a.holders p b holder in
      let x = h.start in
      record {
        within = let e = length-take-le q st le in omega arith;
        kept = λ outer holds.
            let held = holds_kept st q p outer lt holds in
            let opened = held.1 in
            let there = get_from_front st (suc p) outer opened.opening opened.there in
            open_in opened (get_in_front st q outer opened.opening (omega arith) there)
            (unclosed_outer (take q st) x (suc outer) (h.nearest outer held)
            (rw (take-take x q st (omega arith)) (unclosed_shorter st x (suc p) (suc outer) (omega arith) opened.unclosed))
            (unclosed_until b x c q h.there ends_at le until));
      }

  pub while_active : length st ≤ never → (p q b c : ℕ) → slice_get blocks p ≡ Some b
      → slice_get ends b ≡ Some c → p < q → q ≤ length st → IsActive (take q st) p → q ≤ c
  while_active room p q b c holder ends_at lt le active =
      let h = a.holders p b holder in
      until_unclosed b h.start c q h.there ends_at le room
      (still p q b h.start h.there lt le h.before h.unclosed active)
    where
      still : (p q b x : ℕ) → slice_get a.starts b ≡ Some x → p < q → q ≤ length st → x ≤ p
          → IsUnclosed (take (suc p) st) x → IsActive (take q st) p → IsUnclosed (take q st) x
      still p q zero x begins lt le before unclosed active =
          let h = a.on_stack 0 0 a.bottom in
          let same : h.start ≡ x = let there = h.there in cc in
          unclosed_prefix st q x (rw same at h.unclosed)
      still p q (suc b) x begins lt le before unclosed active =
          let begun = a.begun b x begins in
          let next = begun.next in
          let outer = begun.index in
          let opened : IsOpen (take (suc p) st) outer = record {
            opening = begun.opening;
            there = get_in_front st (suc p) outer begun.opening (omega arith) begun.there;
            opened = begun.opened;
            unclosed = rw next at unclosed;
          } in
          rw next (active.kept outer (holds_back st q p outer lt (omega arith, opened))).unclosed

-- ==== what stays active, without numbers of blocks

pub not_closing : (kind : Kind) → ¬ (kind ≡ Closing) → is_closing kind ≡ false
not_closing Closing apart = absurd (apart refl)
not_closing kind apart = refl

-- the block that holds a statement holds it too where more statements are known
pub holds_more : (st more : List Sentence) (p outer : ℕ) → p < length st → Holds st outer p
    → Holds (st ++ more) outer p
holds_more st more p outer lt (before, still) = (before, subst (λ ys. IsOpen ys outer) (sym (take-append-le (suc p) st more (omega arith))) still)

pub holds_less : (st more : List Sentence) (p outer : ℕ) → p < length st → Holds (st ++ more) outer p
    → Holds st outer p
holds_less st more p outer lt (before, still) = (before, subst (λ ys. IsOpen ys outer) (take-append-le (suc p) st more (omega arith)) still)

-- a block stays open until a `$}`
pub open_stays : (st : List Sentence) (e : Sentence) (p : ℕ) → ¬ (e.kind ≡ Closing) → IsOpen st p → IsOpen (st ++ e ∷ []) p
open_stays st e p other still =
    let lt = slice_get_within st p still.opening still.there in
    let c = closings_one e false (not_closing e.kind other) in
    let os = openings-append (drop (suc p) st) (e ∷ []) in
    let cs = closings-append (drop (suc p) st) (e ∷ []) in
    let all = unclosed_all st (suc p) still.unclosed in
    open_in still (get_kept st (e ∷ []) p still.opening still.there)
    (unclosed_pushed st e (suc p) (omega arith) still.unclosed (omega arith))

-- the last statement is active
pub active_last : (st : List Sentence) (e : Sentence) → IsActive (st ++ e ∷ []) (length st)
active_last st e = record {
  within = let h = length_pushed st e in omega arith;
  kept = λ outer (before, still). subst (λ ys. IsOpen ys outer) (all_taken st e) still;
}

-- what is active stays so until a `$}`
pub active_stays : (st : List Sentence) (e : Sentence) (p : ℕ) → ¬ (e.kind ≡ Closing) → IsActive st p → IsActive (st ++ e ∷ []) p
active_stays st e p other active = record {
  within = let h = length_pushed st e in let lt = active.within in omega arith;
  kept = λ outer holds. open_stays st e outer other (active.kept outer (holds_less st (e ∷ []) p outer active.within holds));
}

-- what is active was so before
pub active_falls : (st more : List Sentence) (p : ℕ) → p < length st → IsActive (st ++ more) p → IsActive st p
active_falls st more p lt active = record {
  within = lt;
  kept = λ outer holds.
      let still = active.kept outer (holds_more st more p outer lt holds) in
      open_in still (get_before st more outer still.opening (omega arith) still.there)
      (unclosed_before st more (suc outer) still.unclosed);
}

-- what is active where another statement stands, which is active, is active
pub active_nest : (st : List Sentence) (s p q : ℕ) → s < p → p < q → IsActive (take (suc p) st) s → IsActive (take q st) p → IsActive (take q st) s
active_nest st s p q s_before p_before at_p at_q = record {
  within = let lt = at_q.within in omega arith;
  kept = λ outer holds.
      let still = at_p.kept outer (holds_back st (suc p) s outer (omega arith) (holds_kept st q s outer (omega arith) holds)) in
      at_q.kept outer (holds_back st q p outer p_before (omega arith, still));
}
