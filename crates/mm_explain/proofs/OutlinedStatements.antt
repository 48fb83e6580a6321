-- The statements of the files in outline: what is known of it before and after they are read, and
-- of those before one of them.
use Rattle.std.proofs.Common.{◌≡◌, ℕ, suc, ◌+◌, ◌<◌, ◌≤◌, List, [], ◌∷◌, ◌++◌, map, take, length}
use Rattle.std.proofs.Common.{get_or, slice_get, Some, inl, inr, sym, subst, ◌∙◌, arith}
use Rattle.std.proofs.Common.{take_all, vec_len, rules, true, false, ◌==◌}
use Rattle.std.specs.List.{AllZip}
use Rattle.std.proofs.lemmas.Bool.{eqb-true}
use Rattle.std.proofs.lemmas.Option.{slice_get-get_or}
use Rattle.mm_base.specs.Statement.{PlainStatement}
use Rattle.mm_base.proofs.Lists.{take_next, zip_length, zip_right, zip_take}
use Rattle.mm_text.specs.Files.{PlainFile, plain_file}
use Rattle.mm_text.proofs.Reader.WholeReadings.{each_has_one_reading}
use Rattle.mm_explain.specs.declared.outline.Brief.{Brief}
use Rattle.mm_explain.specs.declared.outline.Outline.{Outline}
use Rattle.mm_explain.specs.Mirror.Outlined.{IsBrief, IsKeptOutline, IsOutlineOf, OutlinesAll}
use Rattle.mm_explain.specs.Mirror.SemanticErrors.{Site}
use Rattle.mm_explain.proofs.InnermostBlocks.{empty_list}
use Rattle.mm_explain.proofs.SemanticErrors.{taken_at}

module _ (files : List PlainFile) (outline : Outline) (kept : IsKeptOutline files outline) where
  -- of the same files, as it has them
  pub kept_again : IsKeptOutline (map plain_file outline.files.now) outline
  kept_again = subst (λ fs. IsKeptOutline fs outline) (sym kept.same) kept

  long : vec_len outline.briefs ≡ length outline.briefs.items
  long = search rules

  -- where it has no statement, it has all of none
  pub nothing_outlined : (vec_len outline.briefs == 0) ≡ true → IsOutlineOf [] outline
  nothing_outlined none = elim kept.read [
    | inl is ↦ is
    | inr all ↦
        let one = each_has_one_reading files in
        let of = all one.statements one.ending one.reads in
        subst (λ ss. IsOutlineOf ss outline)
        (empty_list one.statements
        (zip_length IsBrief one.statements outline.briefs.items of.briefs ∙ sym long
        ∙ eqb-true (vec_len outline.briefs) 0 none)) of
  ]

  -- where it has some, it has all of the files
  pub all_outlined : (vec_len outline.briefs == 0) ≡ false → OutlinesAll files outline
  all_outlined some = elim kept.read [
    | inl is ↦
        let zero : vec_len outline.briefs ≡ 0 =
        long ∙ sym (zip_length IsBrief [] outline.briefs.items is.briefs) in
        absurd (cc (rw zero at some))
    | inr all ↦ all
  ]

-- those before a statement
pub briefs_before : {files : List PlainFile} {count : ℕ} (site : Site files count)
    (outline : Outline) (before : List Brief) → OutlinesAll files outline
    → before ≡ take count outline.briefs.items → AllZip IsBrief site.before before
briefs_before {files} {count} site outline before all is =
    let whole : List PlainStatement = site.before ++ site.s ∷ site.after in
    rw is (rw (taken_at site) at (zip_take IsBrief whole outline.briefs.items count
    (all whole site.ending site.reads).briefs))

-- the next one, and those up to it
pub next_brief : (statements : List PlainStatement) (briefs : List Brief) (i : ℕ) (d : Brief)
    → AllZip IsBrief statements briefs → i < length briefs
    → (s : PlainStatement) × (slice_get statements i ≡ Some s) × IsBrief s (get_or briefs i d)
    × (take (i + 1) statements ≡ take i statements ++ s ∷ [])
next_brief statements briefs i d are less =
    let (s, there, is) = zip_right IsBrief statements briefs i (get_or briefs i d) are
    (slice_get-get_or briefs i d less) in
    let next : suc i ≡ i + 1 = omega arith in (
      s,
      there,
      is,
      subst (λ n. take n statements ≡ take i statements ++ s ∷ []) next
          (take_next statements i s there),
    )

-- all of them
pub briefs_ended : (statements : List PlainStatement) (briefs : List Brief) (i : ℕ)
    → AllZip IsBrief statements briefs → length briefs ≤ i → take i statements ≡ statements
briefs_ended statements briefs i are past =
    take_all i statements (omega (arith, zip_length IsBrief statements briefs are, past))
