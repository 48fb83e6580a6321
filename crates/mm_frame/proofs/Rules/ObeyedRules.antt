-- What follows where no statement breaks a rule after those before it.
use Rattle.std.proofs.Common.{◌≡◌, ◌≢◌, ◌↔◌, ℕ, suc, ◌<◌, ◌≤◌, inl, inr, length, take, drop, List}
use Rattle.std.proofs.Common.{[], ◌∷◌, ◌++◌, Some, sym, ap, ◌∙◌, subst, append_assoc, arith}
use Rattle.std.proofs.Common.{slice_get, length-take-le, ◌⊎◌, Contains, refl}
use Rattle.std.proofs.lemmas.Option.{slice_get_within}
use Rattle.std.proofs.lemmas.Bool.{cases_order}
use Rattle.std.proofs.lemmas.List.{take-append-drop, take-append-le}
use Rattle.std.proofs.Math.Seq.{take-append_seam, take-length}
use Rattle.mm_base.specs.declared.statement.Kind.TheVariants.{Constants, Variables, Essential}
use Rattle.mm_base.specs.declared.statement.Kind.TheVariants.{Closing}
use Rattle.mm_frame.specs.declared.rule.MeaningRule.TheVariants.{M1, M2, M3, M5, M12, M13, M7, M11}
use Rattle.mm_frame.specs.declared.rule.MeaningRule.TheVariants.{M15}
use Rattle.mm_frame.specs.Sentence.{Sentence, SomeSentence, Declares, IsLabelled, Types, IsStated}
use Rattle.mm_frame.specs.Sentence.{IsUse}
use Rattle.mm_frame.specs.Active.{IsActive, SomeActive, IsConstant, IsVariable, IsTyped}
use Rattle.mm_frame.specs.Active.{IsActiveSymbol}
use Rattle.mm_frame.specs.Rules.{IsMeant, AllMeant}
use Rattle.mm_frame.specs.Form.{AllFormed}
use Rattle.mm_frame.specs.Mirror.Latest.{IsLatest}
use Rattle.mm_base.proofs.Lists.{pushed_cases, get_from_front, get_in_front, get_parted, split_at}
use Rattle.mm_base.proofs.Lists.{take_next}
use Rattle.mm_frame.proofs.Blocks.ActiveStatements.{unclosed_shorter, active_falls, active_nest}
use Rattle.mm_frame.proofs.Blocks.ActiveStatements.{active_stays}
use Rattle.mm_frame.proofs.Blocks.NumberedBlocks.{open_in}
use Rattle.mm_frame.specs.Frame.{IsMandatory, IsMandatoryAt}
use Rattle.mm_frame.proofs.Rules.DecidedStatements.{symbol_dec, dec_or, variable_dec, constant_dec, typed_dec}
use Rattle.mm_frame.proofs.Rules.DecidedStatements.{unless_not}

-- ==== what it gives that no statement breaks a rule after those before it

-- the statement at an index breaks no rule after those before it
pub meant_at : (st : List Sentence) (p : ℕ) (s : Sentence) → AllMeant st → slice_get st p ≡ Some s → IsMeant (take p st) s
meant_at st p s meant there = meant (take p st) (drop (suc p) st) s (split_at st p s there)

pub meant_from_indices : (st : List Sentence) → ((p : ℕ) (s : Sentence) → slice_get st p ≡ Some s → IsMeant (take p st) s) → AllMeant st
meant_from_indices st each before after s parts =
    let at : slice_get st (length before) ≡ Some s = ap (λ ys. slice_get ys (length before)) parts ∙ get_parted before after s in
    let prefix : take (length before) st ≡ before = ap (take (length before)) parts ∙ take-append_seam before (s ∷ after) in
    subst (λ ys. IsMeant ys s) prefix (each (length before) s at)

pub allmeant_push : (st : List Sentence) (e : Sentence) → AllMeant st → IsMeant st e → AllMeant (st ++ e ∷ [])
allmeant_push st e meant last = meant_from_indices (st ++ e ∷ []) (λ p s there. elim (pushed_cases st e p s there) [
  | inl before ↦
      let lt = slice_get_within st p s before in
      subst (λ ys. IsMeant ys s) (sym (take-append-le p st (e ∷ []) (omega arith))) (meant_at st p s meant before)
  | inr (at_end, same) ↦
      let prefix : st ≡ take p (st ++ e ∷ []) = sym (take-append_seam st (e ∷ [])) ∙ ap (λ n. take n (st ++ e ∷ [])) (sym at_end) in
      subst (λ ys. IsMeant ys s) prefix (subst (λ t. IsMeant st t) same last)
])

pub allmeant_prefix : (st : List Sentence) (n : ℕ) → AllMeant st → AllMeant (take n st)
allmeant_prefix st n meant before after s parts =
    meant before (after ++ drop n st) s (sym (take-append-drop n st) ∙ ap (λ ys. ys ++ drop n st) parts ∙ rw append_assoc)

pub allformed_prefix : (st : List Sentence) (n : ℕ) → AllFormed st → AllFormed (take n st)
allformed_prefix st n formed p s there = formed p s (get_from_front st n p s there)

-- a statement of the prefix is one of the statements
some_earlier : (st : List Sentence) (P : Sentence → Type 0) (i j : ℕ) (s : Sentence) → i < j → slice_get st i ≡ Some s → P s → SomeSentence (take j st) P
some_earlier st P i j s lt there holds = (i, s, get_in_front st j i s lt there, holds)

-- what is active was so in each prefix that has it
pub active_in_front : (st : List Sentence) (k n : ℕ) → k < n → n ≤ length st → IsActive st k → IsActive (take n st) k
active_in_front st k n lt le active =
    let e = length-take-le n st le in
    active_falls (take n st) (drop n st) k (omega arith) (subst (λ ys. IsActive ys k) (sym (take-append-drop n st)) active)

-- where a statement that is so can't follow an active one, the latest one is active exactly if some one is
latest_active : (P : Sentence → Type 0) (st : List Sentence) (p : ℕ) → ((s : Sentence) → slice_get st p ≡ Some s → P s → ¬ (SomeActive (take p st) P)) → IsLatest P st p → SomeActive st P ↔ IsActive st p
latest_active P st p apart latest = (
  (λ (k, t, at, active, holds). elim (cases_order k p) [
    | inl same ↦ subst (IsActive st) same active
    | inr (inl before) ↦
        let lt = slice_get_within st p latest.statement latest.there in
        absurd (apart latest.statement latest.there latest.holds (k, t, get_in_front st p k t before at, active_in_front st k p before (omega arith) active, holds))
    | inr (inr after) ↦ absurd (latest.last k t after at holds)
  ]),
  (λ active. (p, latest.statement, latest.there, active, latest.holds)),
)

-- A variable is active exactly if its latest `$v` is (by M3).
pub latest_variable : (st : List Sentence) (x : List ℕ) (p : ℕ) → AllMeant st → IsLatest (Declares Variables x) st p → SomeActive st (Declares Variables x) ↔ IsActive st p
latest_variable st x p meant latest =
    latest_active (Declares Variables x) st p (λ s there declares some. meant_at st p s meant there M3 (declares.0, (x, declares.1, inl some))) latest

-- A variable has an active `$f` exactly if its latest one is active (by M12).
pub latest_typed : (st : List Sentence) (x : List ℕ) (p : ℕ) → AllMeant st → IsLatest (λ f. (code : List ℕ) × Types code x f) st p → IsTyped st x ↔ IsActive st p
latest_typed st x p meant latest =
    latest_active (λ f. (code : List ℕ) × Types code x f) st p (λ s there (code, types) some. meant_at st p s meant there M12 (code, x, types, some)) latest

-- A variable has one type code (by M13).
one_code_ordered : (st : List Sentence) (x c d : List ℕ) (i j : ℕ) (f g : Sentence) → AllMeant st → i < j → slice_get st i ≡ Some f → slice_get st j ≡ Some g → Types c x f → Types d x g → c ≡ d
one_code_ordered st x c d i j f g meant lt at_i at_j types_f types_g =
    unless_not (symbol_dec c d) (λ apart. meant_at st j g meant at_j M13 (d, x, types_g, some_earlier st (λ h. (other : List ℕ) × Types other x h × (other ≢ d)) i j f lt at_i (c, types_f, apart)))

pub one_code : (st : List Sentence) (x c d : List ℕ) (i j : ℕ) (f g : Sentence) → AllMeant st → slice_get st i ≡ Some f → slice_get st j ≡ Some g → Types c x f → Types d x g → c ≡ d
one_code st x c d i j f g meant at_i at_j types_f types_g = elim (cases_order i j) [
  | inl same ↦
      let e : f ≡ g = let at = subst (λ k. slice_get st k ≡ Some f) same at_i in cc in
      let h : f.symbols ≡ g.symbols = ap (λ (s : Sentence). s.symbols) e in
      cc
  | inr (inl lt) ↦ one_code_ordered st x c d i j f g meant lt at_i at_j types_f types_g
  | inr (inr gt) ↦ sym (one_code_ordered st x d c j i g f meant gt at_j at_i types_g types_f)
]

-- Each constant is active (by M1: no block is open where it is declared).
pub constant_active : (st : List Sentence) (x : List ℕ) → AllMeant st → IsConstant st x → SomeActive st (Declares Constants x)
constant_active st x meant (p, s, there, declares) = (
  p,
  s,
  there,
  record {
    within = slice_get_within _ _ _ there;
    kept = λ outer (before, still). absurd (meant_at _ _ _ meant there M1 (
      declares.0,
      outer,
      open_in still (get_in_front _ p _ _ before (get_from_front st (suc p) _ _ still.there))
          (unclosed_shorter st p (suc p) (suc outer) (omega arith) still.unclosed),
    ));
  },
  declares,
)

-- No symbol is both a constant and a variable (by M2 and M3).
pub one_role : (st : List Sentence) (x : List ℕ) → AllMeant st → IsConstant st x → IsVariable st x → ⊥
one_role st x meant (i, s, at_i, constant) (j, t, at_j, variable) = elim (cases_order i j) [
  | inl same ↦
      let e : s ≡ t = let at = subst (λ k. slice_get st k ≡ Some s) same at_i in cc in
      let h : s.kind ≡ t.kind = ap (λ (s : Sentence). s.kind) e in
      absurd (cc)
  | inr (inl lt) ↦ meant_at st j t meant at_j M3 (variable.0, (x, variable.1, inr (inl (some_earlier st (Declares Constants x) i j s lt at_i constant))))
  | inr (inr gt) ↦ meant_at st i s meant at_i M2 (constant.0, (x, constant.1, inr (inl (some_earlier st (Declares Variables x) j i t gt at_j variable))))
]

-- No two statements have one label (by M5).
pub one_label : (st : List Sentence) (l : List ℕ) (i j : ℕ) (s t : Sentence) → AllMeant st → slice_get st i ≡ Some s → slice_get st j ≡ Some t → IsLabelled l s → IsLabelled l t → i ≡ j
one_label st l i j s t meant at_i at_j label_s label_t =
    let no : ¬ (i < j) = λ lt. meant_at st j t meant at_j M5 (l, label_t, some_earlier st _ i j s lt at_i label_s) in
    let none : ¬ (j < i) = λ gt. meant_at st i s meant at_i M5 (l, label_s, some_earlier st _ j i t gt at_j label_t) in
    omega arith

-- ==== which hypotheses an assertion needs that breaks no rule of meaning: the active `$e`, and the
-- latest `$f` of each mandatory variable

-- a statement of a prefix is one of the statements
pub some_later : (st : List Sentence) (n : ℕ) (P : Sentence → Type 0) → SomeSentence (take n st) P → SomeSentence st P
some_later st n P (p, s, there, holds) = (p, s, get_from_front st n p s there, holds)

pub declared_by_active : (st : List Sentence) (x : List ℕ) → IsActiveSymbol st x
    → IsConstant st x ⊎ IsVariable st x
declared_by_active st x (p, s, there, active, declares) = elim declares [ inl constant ↦ inl (p, s, there, constant) | inr variable ↦ inr (p, s, there, variable) ]

-- a symbol in use is declared (by M7)
pub used_declared : (before : List Sentence) (s : Sentence) (x : List ℕ) → IsMeant before s → IsUse s.kind → Contains s.symbols x → IsConstant before x ⊎ IsVariable before x
used_declared before s x meant in_use in_it =
    unless_not (dec_or (constant_dec before x) (variable_dec before x)) (λ none. meant M7 (in_use, (x, in_it, λ active. none (declared_by_active before x active))))

-- what a `$f` types is a variable (by M7 and M11), and its type code a constant (by M7 and M10)
pub typed_variable : (before : List Sentence) (f : Sentence) (code x : List ℕ) → IsMeant before f → Types code x f → IsVariable before x
typed_variable before f code x meant types =
    elim (used_declared before f x meant (inr (inl types.0)) (rw types.1 (1, omega arith, refl))) [
      | inl constant ↦ absurd (meant M11 (code, x, types, constant))
      | inr variable ↦ variable
    ]

-- a symbol that some `$f` types is a variable
pub latest_is_variable : (st : List Sentence) (x : List ℕ) (p : ℕ) → AllMeant st → IsLatest (λ f. (code : List ℕ) × Types code x f) st p → IsVariable st x
latest_is_variable st x p meant latest =
    let (code, types) = latest.holds in
    some_later st p (Declares Variables x) (typed_variable (take p st) latest.statement code x (meant_at st p latest.statement meant latest.there) types)

-- a variable in an expression has an active `$f` (by M15)
pub stated_typed : (before : List Sentence) (s : Sentence) (x : List ℕ) → IsMeant before s → IsStated s.kind → Contains s.symbols x → IsVariable before x → IsTyped before x
stated_typed before s x meant stated in_it variable =
    unless_not (typed_dec before x) (λ none. meant M15 (stated, (x, in_it, (variable, none))))

-- what was active where an active statement stands, no `$}`, is active
pub active_after : (st : List Sentence) (k p : ℕ) (e : Sentence) → slice_get st p ≡ Some e → ¬ (e.kind ≡ Closing) → IsActive (take p st) k → IsActive st p → IsActive st k
active_after st k p e there other at active =
    let size = length-take-le p st (omega arith) in
    let next : IsActive (take (suc p) st) k = rw (take_next _ _ _ there) (active_stays (take p st) e k other at) in
    let all : take (length st) st ≡ st = take-length st in
    rw all at (active_nest st _ p (length st) (omega arith) active.within next (rw all active))

-- a variable of a statement is a variable before it (by M7)
used_before : (st : List Sentence) (p : ℕ) (e : Sentence) (x : List ℕ) → AllMeant st → slice_get st p ≡ Some e → IsUse e.kind → Contains e.symbols x → IsVariable st x → IsVariable (take p st) x
used_before st p e x meant there in_use in_it variable = elim (used_declared (take p st) e x (meant_at st p e meant there) in_use in_it) [
  | inl constant ↦ absurd (one_role st x meant (some_later st p (Declares Constants x) constant) variable)
  | inr before ↦ before
]

-- an active `$e`'s variables have active `$f`
essential_typed : (st : List Sentence) (x : List ℕ) (p : ℕ) (e : Sentence) → AllMeant st → IsVariable st x → slice_get st p ≡ Some e → e.kind ≡ Essential → IsActive st p → Contains e.symbols x → IsTyped st x
essential_typed st x p e meant variable there kind active in_it =
    let before = used_before st p e x meant there (inr (inr (inl kind))) in_it variable in
    let (k, f, at, active_f, types) = stated_typed (take p st) e x (meant_at st p e meant there) (inl kind) in_it before in
    (k, f, get_from_front st p k f at, active_after st k p e there (λ closes. absurd (cc)) active_f active, types)

-- a mandatory variable has an active `$f`
pub mandatory_typed : (st : List Sentence) (s : Sentence) (x : List ℕ) → AllMeant st → IsMeant st s → IsStated s.kind → IsMandatory st s x → IsTyped st x
mandatory_typed st s x meant last stated (variable, needed) = elim needed [
  | inl in_it ↦ stated_typed st s x last stated in_it variable
  | inr (p, e, there, active, (kind, in_e)) ↦ essential_typed st x p e meant variable there kind active in_e
]

-- where the latest `$f` of a variable is, if there is one that is active
pub latest_from_active : (st : List Sentence) (x : List ℕ) (p : ℕ) (f : Sentence) → AllMeant st → slice_get st p ≡ Some f → IsActive st p → ((code : List ℕ) × Types code x f) → IsLatest (λ f. (code : List ℕ) × Types code x f) st p
latest_from_active st x p f meant there active types = record {
  statement = f;
  there = there;
  holds = types;
  last = λ k g after at (code, other).
      let lt = slice_get_within st k g at in
      meant_at st k g meant at M12 (code, x, other, (p, f, get_in_front st k p f after there, active_in_front st p k after (omega arith) active, types));
}

-- The mandatory hypotheses: the active `$e`, and the latest `$f` of each mandatory variable.
pub mandatory_indices : (st : List Sentence) (s : Sentence) (p : ℕ) (h : Sentence) → AllMeant st → IsMeant st s → IsStated s.kind → slice_get st p ≡ Some h
    → IsMandatoryAt st s p h ↔ (((h.kind ≡ Essential) × IsActive st p) ⊎ ((x : List ℕ) × IsMandatory st s x × IsLatest (λ f. (code : List ℕ) × Types code x f) st p))
mandatory_indices st s p h meant last stated there = (
  (λ (active, needed). elim needed [
    | inl essential ↦ inl (essential, active)
    | inr (code, x, types, mandatory) ↦ inr (x, mandatory, latest_from_active st x p h meant there active (code, types))
  ]),
  (λ needed. elim needed [
    | inl (essential, active) ↦ (active, inl essential)
    | inr (x, mandatory, latest) ↦
        let active = (latest_typed st x p meant latest).0 (mandatory_typed st s x meant last stated mandatory) in
        let same : latest.statement ≡ h = let at = latest.there in cc in
        let (code, types) = latest.holds in
        (active, inr (code, x, subst (λ f. Types code x f) same types, mandatory))
  ]),
)
