-- Where the innermost open block begins, as statements are read one by one.
use Rattle.std.proofs.Common.{◌≡◌, ℕ, ◌+◌, List, [], ◌∷◌, ◌++◌, map, take, drop}
use Rattle.std.proofs.Common.{length, Bool, refl, sym, ap, ◌∙◌, arith}
use Rattle.std.proofs.Common.{reverse, Option, Some, None, inl, inr}
use Rattle.std.specs.Prelude.{MatchOption, option_map}
use Rattle.std.specs.Option.{option_to_list}
use Rattle.mm_base.specs.Token.{plain_token}
use Rattle.mm_explain.specs.Mirror.Last.{IsOpenBlock}
use Rattle.mm_explain.specs.TextFacts.{AreBlocksOpened, blocks_opened}
use Rattle.std.proofs.lemmas.List.{reverse-append, take-map}
use Rattle.mm_text.specs.declared.scope.OpenBlock.{OpenBlock}
use Rattle.mm_base.specs.declared.statement.Kind.{Kind}
use Rattle.mm_base.specs.declared.statement.Kind.TheVariants.{Opening, Closing}
use Rattle.mm_base.specs.declared.token.Token.{Token}
use Rattle.mm_base.specs.Blocks.{AreBalanced, AreClosed, IsInnermost}
use Rattle.mm_base.specs.Blocks.{is_opening, is_closing}
use Rattle.mm_text.specs.Files.{PlainFile}
use Rattle.mm_text.specs.Mirror.Reader.{PlainScope, outermost}
use Rattle.mm_base.specs.Statement.{PlainStatement}
use Rattle.mm_text.proofs.Reader.OpenBlocks.{AreOpen, after_kind, scope_of, scope_after}
use Rattle.mm_text.proofs.Reader.OpenBlocks.{scope_open, balanced_prefix}
use Rattle.mm_text.proofs.Reader.WholeReadings.{readings_are_balanced}
use Rattle.mm_frame.specs.declared.rule.MeaningRule.TheVariants.{M1}
use Rattle.mm_frame.specs.Active.{open_marks, close_marks}
use Rattle.mm_frame.specs.Rules.{Breaks}
use Rattle.mm_frame.specs.Sentence.{Sentence, sentence_of}
use Rattle.mm_frame.proofs.Blocks.NumberedBlocks.{open_unclosed}
use Rattle.mm_explain.specs.Mirror.SemanticErrors.{AreOpenBlocks, IsBroken, Site, position_of}
use Rattle.mm_explain.specs.Mirror.SemanticErrors.{positions_after, positions_from}
use Rattle.mm_rules.specs.Verdict.{sentences}
use Rattle.mm_verdict.proofs.Verdicts.AcceptedStatements.{counted_alike}

-- where a block begins
abbrev block_position : OpenBlock → ℕ × ℕ
block_position block = (block.file, block.at)

-- where the blocks begin that are open after these statements, the innermost first
abbrev pub blocks_after : List PlainStatement → List (ℕ × ℕ)
blocks_after statements = map block_position (scope_of statements).blocks

-- ---- one statement more

mapped_drop : (blocks : List OpenBlock)
    → map block_position (drop 1 blocks) ≡ drop 1 (map block_position blocks)
mapped_drop [] = refl
mapped_drop (block ∷ blocks) = refl

after_one : (scope : PlainScope) (s : PlainStatement) (kind : Kind)
    → map block_position (after_kind scope s kind).blocks
    ≡ positions_after kind (s.first.file, s.first.at) (map block_position scope.blocks)
after_one scope s Opening = refl
after_one scope s Closing = mapped_drop scope.blocks
after_one scope s kind = refl

after_scope : (scope : PlainScope) (statements : List PlainStatement)
    → positions_from (map block_position scope.blocks) statements
    ≡ map block_position (scope_after scope statements).blocks
unfolding scope_after
after_scope scope [] = refl
after_scope scope (s ∷ statements) =
    ap (λ (ps : List (ℕ × ℕ)). positions_from ps statements) (sym (after_one scope s s.kind))
    ∙ after_scope (after_kind scope s s.kind) statements

blocks_from : (statements : List PlainStatement)
    → positions_from [] statements ≡ blocks_after statements
blocks_from statements = after_scope outermost statements

pub positions_more : (open_ones : List (ℕ × ℕ)) (statements : List PlainStatement)
    (s : PlainStatement)
    → positions_from open_ones (statements ++ s ∷ [])
    ≡ positions_after s.kind (s.first.file, s.first.at) (positions_from open_ones statements)
positions_more open_ones [] s = refl
positions_more open_ones (t ∷ statements) s =
    positions_more (positions_after t.kind (t.first.file, t.first.at) open_ones) statements s

-- ---- the positions in a list, the innermost last

block_pushed : (blocks : List Token) (t : Token)
    → map position_of (reverse (blocks ++ t ∷ [])) ≡ position_of t ∷ map position_of (reverse blocks)
block_pushed blocks t = ap (λ (ts : List Token). map position_of ts) (reverse-append blocks (t ∷ []))

-- ---- the innermost

innermost_of : (before : List PlainStatement) (blocks : List OpenBlock) (p : ℕ × ℕ)
    (ps : List (ℕ × ℕ)) → AreOpen before blocks → map block_position blocks ≡ p ∷ ps
    → (outer : List PlainStatement) × (opening : PlainStatement) × IsInnermost before outer opening
    × (p.0 ≡ opening.first.file) × (p.1 ≡ opening.first.at)
innermost_of before [] p ps h e = absurd (cc)
innermost_of before (block ∷ blocks) p ps h e =
    let same : block_position block ≡ p = cc in (
      h.0,
      h.1,
      h.2,
      ap (λ (q : ℕ × ℕ). q.0) (sym same) ∙ ap (λ (b : OpenBlock). b.file) h.3,
      ap (λ (q : ℕ × ℕ). q.1) (sym same) ∙ ap (λ (b : OpenBlock). b.at) h.3,
    )

innermost_there : (before : List PlainStatement) (p : ℕ × ℕ) (ps : List (ℕ × ℕ))
    → AreBalanced before → blocks_after before ≡ p ∷ ps
    → (outer : List PlainStatement) × (opening : PlainStatement) × IsInnermost before outer opening
    × (p.0 ≡ opening.first.file) × (p.1 ≡ opening.first.at)
innermost_there before p ps balanced e =
    innermost_of before (scope_of before).blocks p ps (scope_open before balanced) e

none_of : (before : List PlainStatement) (blocks : List OpenBlock) → AreOpen before blocks
    → map block_position blocks ≡ [] → AreClosed before
none_of before [] h e = h.1
none_of before (block ∷ blocks) h e = absurd (cc)

-- where no block is open, each is closed
none_there : (before : List PlainStatement) → AreBalanced before → blocks_after before ≡ []
    → AreClosed before
none_there before balanced e =
    none_of before (scope_of before).blocks (scope_open before balanced) e

-- ---- a `$c` in a block

-- what breaks M1 stands in a block
stands_in_block : (before : List PlainStatement) (s : Sentence) → AreBalanced before
    → Breaks M1 (sentences before) s → ¬ (AreClosed before)
stands_in_block before s balanced (kind, index, still) closed =
    let cut : sentences (take index before) ≡ take index (sentences before) =
    sym (take-map sentence_of index before) in
    let c = counted_alike is_closing (take index before) in
    let o = counted_alike is_opening (take index before) in
    let b = balanced index in
    let e = ap close_marks cut in
    let f = ap open_marks cut in
    let fewer = open_unclosed (sentences before) index (omega arith) still in
    let all_c = counted_alike is_closing before in
    let all_o = counted_alike is_opening before in
    let d = closed in
    omega arith

-- no `$}` before a statement of the files lacks its `${`
pub balanced_before : {files : List PlainFile} {count : ℕ} (site : Site files count)
    → AreBalanced site.before
balanced_before {files} {count} site =
    balanced_prefix site.before (site.s ∷ site.after)
    (readings_are_balanced files (site.before ++ site.s ∷ site.after) site.ending site.reads)

-- a block is open before a statement of the files that breaks M1
pub block_open : (files : List PlainFile) (count : ℕ) → IsBroken files count M1
    → (site : Site files count) × ¬ (AreClosed site.before)
block_open files count known =
    let site = known.site in
    (site, stands_in_block site.before (sentence_of site.s) (balanced_before site) known.broken.broken)

-- ---- the last of the blocks that are open

pub empty_list : {X : Type 0} (xs : List X) → length xs ≡ 0 → xs ≡ []
empty_list [] is = refl
empty_list (x ∷ xs) is = absurd (omega arith)

-- it is the innermost, if one is
pub open_block_there : (statements : List PlainStatement) (blocks rest : List Token)
    (block : Option Token) → AreBalanced statements → AreOpenBlocks statements blocks
    → MatchOption block (blocks ≡ []) (λ t. blocks ≡ rest ++ t ∷ [])
    → IsOpenBlock statements block
open_block_there statements blocks rest None balanced are is =
    none_there statements balanced
    (sym (blocks_from statements) ∙ sym are
    ∙ ap (λ (ts : List Token). map position_of (reverse ts)) is)
open_block_there statements blocks rest (Some t) balanced are is =
    innermost_there statements (position_of t) (map position_of (reverse rest)) balanced
    (sym (blocks_from statements) ∙ sym are
    ∙ ap (λ (ts : List Token). map position_of (reverse ts)) is ∙ block_pushed rest t)

-- what is told of it
pub opened_there : (source : Bool) (files : List PlainFile) (statements : List PlainStatement)
    (block : Option Token) → IsOpenBlock statements block
    → AreBlocksOpened source files statements
    (blocks_opened source files (option_map plain_token block))
opened_there source files statements None closed = inl (closed, refl)
opened_there source files statements (Some t) (outer, opening, inner, file, at) =
    inr (outer, opening, inner, rw (file, at) refl)

-- what is taken off the end of the blocks
pub popped : (block : Option Token) (blocks rest : List Token) (m n : ℕ) → n ≡ length blocks
    → blocks ≡ rest ++ option_to_list block
    → MatchOption block ((n ≡ 0) × (m ≡ 0)) (λ t. m + 1 ≡ n)
    → MatchOption block (blocks ≡ []) (λ t. blocks ≡ rest ++ t ∷ [])
popped None blocks rest m n long is none =
    let (e, _) = none in empty_list blocks (let l = long in omega arith)
popped (Some t) blocks rest m n long is some = is
