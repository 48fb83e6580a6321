-- Blocks: what a reader keeps of them, against the statements that were read.
use Rattle.std.proofs.Common.{◌≡◌, ℕ, zero, suc, ◌+◌, ◌-◌, ◌≤◌, length, take, drop, List, [], ◌∷◌}
use Rattle.std.proofs.Common.{◌++◌, true, false, refl, sym, ap, subst, ◌∙◌, arith, append_assoc}
use Rattle.std.proofs.Common.{inl, inr, append-nil, length-append, take_all, take_at}
use Rattle.std.proofs.lemmas.List.{take-append-le}
use Rattle.std.proofs.Math.Seq.{take-append-add, take-length, take-nil}
use Rattle.std.proofs.lemmas.List.Sums.{sum_by-append}
use Rattle.std.proofs.lemmas.Bool.{cases_lt, false≢true, false_from_ne_true, true_from_ne_false}
use Rattle.mm_text.specs.declared.scope.OpenBlock.{OpenBlock}
use Rattle.mm_base.specs.declared.statement.Kind.{Kind}
use Rattle.mm_base.specs.declared.statement.Kind.TheVariants.{Opening, Closing}
use Rattle.mm_base.specs.Statement.{PlainStatement, HasBody}
use Rattle.mm_base.specs.Blocks.{is_opening, is_closing, openings, closings, AreBalanced, AreClosed}
use Rattle.mm_base.specs.Blocks.{IsInnermost}
use Rattle.mm_text.specs.Mirror.Reader.{PlainScope, outermost, scope_after_statement}
use Rattle.mm_text.specs.Mirror.Reader.{scope_after_opening, scope_after_closing, has_none}
use Rattle.mm_base.proofs.Lists.{two_cuts}

-- ---- counts

-- with so many blocks open before, no `$}` lacks its `${`
abbrev pub KeepsBlocks : ℕ → List PlainStatement → Type 0
KeepsBlocks depth statements = (n : ℕ) → closings (take n statements) ≤ depth + openings (take n statements)

openings-append : (a b : List PlainStatement) → openings (a ++ b) ≡ openings a + openings b
openings-append a b = sum_by-append _ a b

closings-append : (a b : List PlainStatement) → closings (a ++ b) ≡ closings a + closings b
closings-append a b = sum_by-append _ a b

keeps_append : (d e : ℕ) (a b : List PlainStatement) → KeepsBlocks d a → KeepsBlocks e b → d + openings a ≡ closings a + e → KeepsBlocks d (a ++ b)
keeps_append d e a b h k same n =
    elim (cases_lt n (length a)) [
      | inl within ↦ rw (take-append-le n a b (omega arith)) (h n)
      | inr past ↦
          let m : ℕ = n - length a in
          let whole : n ≡ length a + m = omega arith in
          rw (whole, take-append-add a b m)
          (omega (arith, closings-append a (take m b), openings-append a (take m b), k m, same))
    ]

-- ---- one statement

pub opening_count : (s : PlainStatement) → s.kind ≡ Opening → (openings (s ∷ []) ≡ 1) × (closings (s ∷ []) ≡ 0)
opening_count s k = (rw k refl, rw k refl)

pub closing_count : (s : PlainStatement) → s.kind ≡ Closing → (openings (s ∷ []) ≡ 0) × (closings (s ∷ []) ≡ 1)
closing_count s k = (rw k refl, rw k refl)

no_sign : (kind : Kind) → HasBody kind → (is_opening kind ≡ false) × (is_closing kind ≡ false)
no_sign Opening h = absurd h
no_sign Closing h = absurd h
no_sign _ h = (refl, refl)

pub body_count : (s : PlainStatement) → HasBody s.kind → (openings (s ∷ []) ≡ 0) × (closings (s ∷ []) ≡ 0)
body_count s long = let none = no_sign s.kind long in (rw none.0 refl, rw none.1 refl)

-- one statement keeps the blocks where it does in all
keeps_one : (d : ℕ) (s : PlainStatement) → closings (s ∷ []) ≤ d + openings (s ∷ []) → KeepsBlocks d (s ∷ [])
keeps_one d s h zero = omega arith
keeps_one d s h (suc n) = rw (take-nil n) h

-- ---- balanced statements

pub balanced_nothing : AreBalanced []
balanced_nothing n = rw (take-nil n) (omega arith)

pub balanced_prefix : (a b : List PlainStatement) → AreBalanced (a ++ b) → AreBalanced a
balanced_prefix a b h n =
    elim (cases_lt n (length a)) [
      | inl within ↦ rw (take-append-le n a b (omega arith)) at (h n)
      | inr past ↦ rw (take_all n a past) (rw (take_at a b (length a) refl) at (h (length a)))
    ]

-- in all there are at most as many `$}` as `${`
balanced_whole : (a : List PlainStatement) → AreBalanced a → closings a ≤ openings a
balanced_whole a h = rw (take-length a) at (h (length a))

-- closed statements before balanced and closed ones
closed_append : (a b : List PlainStatement) → AreBalanced a → AreClosed a → AreBalanced b → AreClosed b → AreBalanced (a ++ b) × AreClosed (a ++ b)
closed_append a b h c k d = ((λ n. omega (arith, keeps_append 0 0 a b (λ m. omega (arith, h m)) (λ m. omega (arith, k m)) (omega (arith, c)) n)), omega (arith, openings-append a b, closings-append a b, c, d))

-- one statement more, which is no `$}`, or closes one of these
pub balanced_more : (a : List PlainStatement) (s : PlainStatement) → AreBalanced a
    → (closings a ≤ openings a → closings a + closings (s ∷ []) ≤ openings a + openings (s ∷ []))
    → AreBalanced (a ++ s ∷ [])
balanced_more a s h one n =
    let e : ℕ = openings a - closings a in
    let le = balanced_whole a h in
    omega (arith, keeps_append 0 e a (s ∷ []) (λ m. omega (arith, h m)) (keeps_one e s (omega (arith, le, one le))) (omega (arith, le)) n)

-- after closed blocks there is no `$}`
pub closing_unbalanced : (a : List PlainStatement) (s : PlainStatement) → AreClosed a → s.kind ≡ Closing → AreBalanced (a ++ s ∷ []) → ⊥
closing_unbalanced a s scope_after_closing k h =
    let c = closing_count s k in
    omega (arith, openings-append a (s ∷ []), closings-append a (s ∷ []), c.0, c.1, scope_after_closing, balanced_whole (a ++ s ∷ []) h)

-- ---- open blocks

-- these blocks are open after these statements, the innermost one first
abbrev pub AreOpen : List PlainStatement → List OpenBlock → Type 0
AreOpen statements [] = AreBalanced statements × AreClosed statements
AreOpen statements (block ∷ blocks) =
    (before : List PlainStatement) × (opening : PlainStatement) × IsInnermost statements before opening
    × (block ≡ record { file = opening.first.file; at = opening.first.at; statement = length before + 1 }) × AreOpen before blocks

-- statements that close the blocks that they open change nothing
open_segment : (before segment : List PlainStatement) (blocks : List OpenBlock) → AreOpen before blocks → AreBalanced segment → AreClosed segment → AreOpen (before ++ segment) blocks
open_segment before segment [] h b c = closed_append before segment h.0 h.1 b c
open_segment before segment (block ∷ blocks) h b c =
    let inner = h.2 in
    let more = closed_append inner.within segment inner.balanced inner.closed b c in (
      h.0,
      h.1,
      record {
        within = inner.within ++ segment;
        whole = ap (λ (x : List PlainStatement). x ++ segment) inner.whole ∙ append_assoc h.0 (h.1 ∷ inner.within) segment;
        opened = inner.opened;
        balanced = more.0;
        closed = more.1;
      },
      h.3,
      h.4,
    )

open_closing : (statements : List PlainStatement) (s : PlainStatement) (blocks : List OpenBlock)
    → AreOpen statements blocks → s.kind ≡ Closing → AreBalanced (statements ++ s ∷ [])
    → AreOpen (statements ++ s ∷ []) (drop 1 blocks)
open_closing statements s [] h k b = absurd (closing_unbalanced statements s h.1 k b)
open_closing statements s (block ∷ blocks) h k b =
    let inner = h.2 in
    let o = opening_count h.1 inner.opened in
    let c = closing_count s k in
    let after : List PlainStatement = inner.within ++ s ∷ [] in
    let kept : KeepsBlocks 1 after =
    keeps_append 1 1 inner.within (s ∷ []) (λ n. omega (arith, inner.balanced n)) (keeps_one 1 s (omega (arith, c.0, c.1))) (omega (arith, inner.closed)) in
    let segment : List PlainStatement = (h.1 ∷ []) ++ after in
    let balanced : AreBalanced segment = λ n. omega (arith, keeps_append 0 1 (h.1 ∷ []) after (keeps_one 0 h.1 (omega (arith, o.0, o.1))) kept (omega (arith, o.0, o.1)) n) in
    let scope_after_closing : AreClosed segment =
    omega (arith, openings-append (h.1 ∷ []) after, closings-append (h.1 ∷ []) after, openings-append inner.within (s ∷ []), closings-append inner.within (s ∷ []), o.0, o.1, c.0, c.1, inner.closed) in
    subst (λ (x : List PlainStatement). AreOpen x blocks) (sym (ap (λ (x : List PlainStatement). x ++ s ∷ []) inner.whole ∙ append_assoc h.0 (h.1 ∷ inner.within) (s ∷ []))) (open_segment h.0 segment blocks h.4 balanced scope_after_closing)

-- ---- what the first open block tells

-- a `${` within closed blocks isn't closed there
closed_within : (mid within other : List PlainStatement) (opening : PlainStatement) → opening.kind ≡ Opening → AreClosed within → AreBalanced other → AreClosed other → other ≡ mid ++ opening ∷ within → ⊥
closed_within mid within other opening k c b scope_after_closing e =
    let o = opening_count opening k in
    omega (arith, openings-append mid (opening ∷ within), closings-append mid (opening ∷ within), openings-append (opening ∷ []) within, closings-append (opening ∷ []) within, o.0, o.1, balanced_whole mid (balanced_prefix mid (opening ∷ within) (subst AreBalanced e b)), c, subst AreClosed e scope_after_closing)

-- a block that is open isn't closed
pub innermost_unclosed : (statements before : List PlainStatement) (opening : PlainStatement) → AreBalanced statements → IsInnermost statements before opening → ¬ (AreClosed statements)
innermost_unclosed statements before opening h i closed =
    closed_within before i.within statements opening i.opened i.closed h closed i.whole

open_told : (statements : List PlainStatement) (blocks : List OpenBlock) → AreBalanced statements
    → AreOpen statements blocks → (has_none blocks ≡ true → AreClosed statements)
    × (has_none blocks ≡ false → ¬ (AreClosed statements))
open_told statements [] b h = (λ e. h.1, λ e. absurd (false≢true (sym e)))
open_told statements (block ∷ blocks) b h =
    (λ e. absurd (false≢true e), λ e. innermost_unclosed statements h.0 h.1 b h.2)

-- there is one innermost block
pub one_innermost : (statements a b : List PlainStatement) (x y : PlainStatement) → IsInnermost statements a x → IsInnermost statements b y → (a ≡ b) × (x ≡ y)
one_innermost statements a b x y h k =
    elim (two_cuts a x h.within b y k.within (sym h.whole ∙ k.whole)) [
      | inl same ↦ (same.0, same.1)
      | inr (inl mid) ↦ absurd (closed_within mid.0 k.within h.within y k.opened k.closed h.balanced h.closed mid.2)
      | inr (inr mid) ↦ absurd (closed_within mid.0 h.within k.within x h.opened h.closed k.balanced k.closed mid.2)
    ]

-- ---- the scope after statements

abbrev pub after_kind : PlainScope → PlainStatement → Kind → PlainScope
after_kind scope s Opening = scope_after_opening scope s.first
after_kind scope s Closing = scope_after_closing scope
after_kind scope s kind = scope_after_statement scope

-- the scope after these statements, from one on
unfoldable pub scope_after : PlainScope → List PlainStatement → PlainScope
scope_after scope [] = scope
scope_after scope (s ∷ statements) = scope_after (after_kind scope s s.kind) statements

abbrev pub scope_of : List PlainStatement → PlainScope
scope_of statements = scope_after outermost statements

after-append : (scope : PlainScope) (a b : List PlainStatement) → scope_after scope (a ++ b) ≡ scope_after (scope_after scope a) b
unfolding scope_after
after-append scope [] b = refl
after-append scope (s ∷ a) b = after-append (after_kind scope s s.kind) a b

kind_count : (scope : PlainScope) (s : PlainStatement) (kind : Kind) → (after_kind scope s kind).count ≡ scope.count + 1
kind_count scope s Opening = refl
kind_count scope s _ = refl

after_count : (scope : PlainScope) (statements : List PlainStatement) → (scope_after scope statements).count ≡ scope.count + length statements
unfolding scope_after
after_count scope [] = omega arith
after_count scope (s ∷ statements) = after_count (after_kind scope s s.kind) statements ∙ ap (λ (n : ℕ). n + length statements) (kind_count scope s s.kind) ∙ omega arith

-- the scope counts the statements
pub scope_count : (statements : List PlainStatement) → (scope_of statements).count ≡ length statements
scope_count statements = after_count outermost statements ∙ omega arith

-- one statement more
pub scope_more : (statements : List PlainStatement) (s : PlainStatement) → scope_of (statements ++ s ∷ []) ≡ after_kind (scope_of statements) s s.kind
unfolding scope_after
scope_more statements s = after-append outermost statements (s ∷ [])

body_kind : (scope : PlainScope) (s : PlainStatement) (kind : Kind) → HasBody kind → after_kind scope s kind ≡ scope_after_statement scope
body_kind scope s Opening h = absurd h
body_kind scope s Closing h = absurd h
body_kind scope s _ h = refl

pub scope_body : (statements : List PlainStatement) (s : PlainStatement) → HasBody s.kind → scope_of (statements ++ s ∷ []) ≡ scope_after_statement (scope_of statements)
scope_body statements s long = scope_more statements s ∙ body_kind (scope_of statements) s s.kind long

open_step : (before : List PlainStatement) (s : PlainStatement) (scope : PlainScope) (kind : Kind) → s.kind ≡ kind → AreOpen before scope.blocks → scope.count ≡ length before → AreBalanced (before ++ s ∷ [])
    → AreOpen (before ++ s ∷ []) (after_kind scope s kind).blocks
open_step before s scope Opening k h same b = (
  before,
  s,
  record { within = []; whole = refl; opened = k; balanced = balanced_nothing; closed = refl },
  (λ i. record { file = s.first.file; at = s.first.at; statement = same i + 1 }),
  h,
)
open_step before s scope Closing k h same b = open_closing before s scope.blocks h k b
open_step before s scope _ k h same b =
    let c = body_count s (subst HasBody (sym k) tt) in
    open_segment before (s ∷ []) scope.blocks h (λ n. omega (arith, keeps_one 0 s (omega (arith, c.0, c.1)) n)) (c.0 ∙ sym c.1)

open_after : (before statements : List PlainStatement) (scope : PlainScope) → AreOpen before scope.blocks → scope.count ≡ length before → AreBalanced (before ++ statements)
    → AreOpen (before ++ statements) (scope_after scope statements).blocks
unfolding scope_after
open_after before [] scope h same b = subst (λ (x : List PlainStatement). AreOpen x scope.blocks) (sym (append-nil before)) h
open_after before (s ∷ statements) scope h same b =
    let next : PlainScope = after_kind scope s s.kind in
    let moved = append_assoc before (s ∷ []) statements in
    let all : AreBalanced ((before ++ s ∷ []) ++ statements) = subst AreBalanced (sym moved) b in
    subst (λ (x : List PlainStatement). AreOpen x (scope_after next statements).blocks) moved
    (open_after (before ++ s ∷ []) statements next (open_step before s scope s.kind refl h same (balanced_prefix (before ++ s ∷ []) statements all)) (kind_count scope s s.kind ∙ omega (arith, same, length-append before (s ∷ []))) all)

-- the blocks of a scope are those that are open
pub scope_open : (statements : List PlainStatement) → AreBalanced statements → AreOpen statements (scope_of statements).blocks
scope_open statements b = open_after [] statements outermost (balanced_nothing, refl) refl b

pub scope_closed : (statements : List PlainStatement) → AreBalanced statements → has_none (scope_of statements).blocks ≡ true → AreClosed statements
scope_closed statements b e = (open_told statements (scope_of statements).blocks b (scope_open statements b)).0 e

pub scope_unclosed : (statements : List PlainStatement) → AreBalanced statements → has_none (scope_of statements).blocks ≡ false → ¬ (AreClosed statements)
scope_unclosed statements b e = (open_told statements (scope_of statements).blocks b (scope_open statements b)).1 e

pub closed_scope : (statements : List PlainStatement) → AreBalanced statements → AreClosed statements → has_none (scope_of statements).blocks ≡ true
closed_scope statements b scope_after_closing = true_from_ne_false _ (λ e. scope_unclosed statements b e scope_after_closing)

pub unclosed_scope : (statements : List PlainStatement) → AreBalanced statements → ¬ (AreClosed statements) → has_none (scope_of statements).blocks ≡ false
unclosed_scope statements b open_yet = false_from_ne_true _ (λ e. open_yet (scope_closed statements b e))
