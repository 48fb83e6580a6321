-- Where a name was met last, as one token or one statement more is read.
use Rattle.std.proofs.Common.{◌≡◌, ℕ, suc, ◌+◌, ◌<◌, length, List, [], ◌∷◌, ◌++◌, map}
use Rattle.std.proofs.Common.{take, drop, reverse, get_or, Bool, true, false, cond, Option, Some, None}
use Rattle.std.proofs.Common.{option_map, refl, sym, ap, subst, ◌∙◌, arith, append-nil}
use Rattle.std.specs.Prelude.{find}
use Rattle.std.specs.List.{flat_map}
use Rattle.std.specs.Option.{option_or}
use Rattle.std.specs.Str.{bytes_eq}
use Rattle.std.proofs.lemmas.Grind.{flat_map-append}
use Rattle.std.proofs.lemmas.List.{reverse-append, map-append}
use Rattle.std.proofs.lemmas.Option.{slice_get-get_or}
use Rattle.mm_base.proofs.Lists.{take_next}
use Rattle.mm_base.specs.declared.statement.Kind.{Kind}
use Rattle.mm_base.specs.declared.statement.Kind.TheVariants.{Floating}
use Rattle.mm_base.specs.declared.token.Token.{Token}
use Rattle.mm_base.specs.Statement.{PlainStatement}
use Rattle.mm_base.specs.Token.{PlainToken, plain_token}
use Rattle.mm_frame.specs.declared.rule.MeaningRule.{MeaningRule}
use Rattle.mm_explain.specs.MeaningFacts.{Mention, mentions, last_met, typed_by}
use Rattle.mm_explain.specs.MeaningFacts.{looked_at}

-- ---- the last of two parts

pub find-append : {X : Type 0} (test : X → Bool) (a b : List X)
    → find test (a ++ b) ≡ option_or (find test a) (find test b)
find-append test [] b = refl
find-append {X} test (x ∷ a) b = by (test x) (find-append test a b)
  where
    by : (r : Bool) → find test (a ++ b) ≡ option_or (find test a) (find test b)
        → cond r (Some x) (find test (a ++ b)) ≡ option_or (cond r (Some x) (find test a)) (find test b)
    by true h = refl
    by false h = h

pub mapped_or : {X Y : Type 0} (f : X → Y) (a b : Option X)
    → option_map f (option_or a b) ≡ option_or (option_map f a) (option_map f b)
mapped_or f None b = refl
mapped_or f (Some x) b = refl

-- a name that was met in the later part was met last there
pub met-append : (name : List ℕ) (a b : List Mention)
    → last_met name (a ++ b) ≡ option_or (last_met name b) (last_met name a)
met-append name a b =
    let test : Mention → Bool = λ m. bytes_eq m.name name in
    ap (λ (ms : List Mention). option_map (λ (m : Mention). m.token) (find test ms))
    (reverse-append a b)
    ∙ ap (option_map (λ (m : Mention). m.token)) (find-append test (reverse b) (reverse a))
    ∙ mapped_or (λ (m : Mention). m.token) (find test (reverse b)) (find test (reverse a))

-- ---- one token more

pub met_more : (name : List ℕ) (tokens : List Token) (i : ℕ) (d : Token) (now last : Option Token)
    → i < length tokens
    → option_map plain_token now ≡ last_met name (mentions (plain_token (get_or tokens i d) ∷ []))
    → option_map plain_token last ≡ last_met name (mentions (map plain_token (take i tokens)))
    → option_map plain_token (option_or now last)
    ≡ last_met name (mentions (map plain_token (take (i + 1) tokens)))
met_more name tokens i d now last lt here before =
    let x : Token = get_or tokens i d in
    let next : suc i ≡ i + 1 = omega arith in
    let more : take (i + 1) tokens ≡ take i tokens ++ x ∷ [] =
    subst (λ (k : ℕ). take k tokens ≡ take i tokens ++ x ∷ []) next
    (take_next tokens i x (slice_get-get_or tokens i d lt)) in
    let parts : mentions (map plain_token (take (i + 1) tokens))
    ≡ mentions (map plain_token (take i tokens)) ++ mentions (plain_token x ∷ []) =
    ap (λ (ts : List Token). mentions (map plain_token ts)) more
    ∙ ap mentions (map-append plain_token (take i tokens) (x ∷ []))
    ∙ map-append (λ (t : PlainToken). record { name = t.text; token = t })
    (map plain_token (take i tokens)) (plain_token x ∷ []) in
    mapped_or plain_token now last
    ∙ ap (λ (o : Option PlainToken). option_or o (option_map plain_token last)) here
    ∙ ap (option_or (last_met name (mentions (plain_token x ∷ [])))) before
    ∙ sym (met-append name (mentions (map plain_token (take i tokens))) (mentions (plain_token x ∷ [])))
    ∙ ap (last_met name) (sym parts)

-- ---- one statement more

pub statement_more : (rule : MeaningRule) (name : List ℕ) (earlier : List PlainStatement)
    (s : PlainStatement) (now last : Option Token)
    → option_map plain_token now ≡ last_met name (looked_at rule s)
    → option_map plain_token last ≡ last_met name (flat_map (looked_at rule) earlier)
    → option_map plain_token (option_or now last)
    ≡ last_met name (flat_map (looked_at rule) (earlier ++ s ∷ []))
statement_more rule name earlier s now last here before =
    let parts : flat_map (looked_at rule) (earlier ++ s ∷ [])
    ≡ flat_map (looked_at rule) earlier ++ (looked_at rule s ++ []) =
    flat_map-append (looked_at rule) earlier (s ∷ []) in
    mapped_or plain_token now last
    ∙ ap (λ (o : Option PlainToken). option_or o (option_map plain_token last)) here
    ∙ ap (option_or (last_met name (looked_at rule s))) before
    ∙ sym (met-append name (flat_map (looked_at rule) earlier) (looked_at rule s))
    ∙ ap (last_met name)
    (ap (λ (ms : List Mention). flat_map (looked_at rule) earlier ++ ms)
    (sym (append-nil (looked_at rule s))) ∙ sym parts)

-- ---- what a rule looks at

-- a variable is typed where the `$f` begins
pub typed_where : (name : List ℕ) (first : PlainToken) (variables : List PlainToken)
    → last_met name (map (λ v. record { name = v.text; token = first }) variables)
    ≡ option_map (λ v. first) (last_met name (mentions variables))
typed_where name first [] = refl
typed_where name first (v ∷ variables) =
    let typed : PlainToken → Mention = λ v. record { name = v.text; token = first } in
    met-append name (typed v ∷ []) (map typed variables)
    ∙ ap (λ (o : Option PlainToken). option_or o (last_met name (typed v ∷ [])))
    (typed_where name first variables)
    ∙ ap (option_or (option_map (λ v. first) (last_met name (mentions variables))))
    (one (bytes_eq v.text name))
    ∙ sym (mapped_or (λ (v : PlainToken). first) (last_met name (mentions variables))
    (last_met name (mentions (v ∷ []))))
    ∙ ap (option_map (λ (v : PlainToken). first))
    (sym (met-append name (mentions (v ∷ [])) (mentions variables)))
  where
    one : (r : Bool)
        → option_map (λ (m : Mention). m.token)
        (cond r (Some (record { name = v.text; token = first })) None)
        ≡ option_map (λ (v : PlainToken). first)
        (option_map (λ (m : Mention). m.token) (cond r (Some (record { name = v.text; token = v })) None))
    one true = refl
    one false = refl

dropped : (items : List Token) → drop 1 (map plain_token items) ≡ map plain_token (drop 1 items)
dropped [] = refl
dropped (t ∷ items) = refl

-- what was found of the symbols after a type code
pub typed_found : (name : List ℕ) (kind : Kind) (first : PlainToken) (items tokens : List Token)
    (found : Option Token) → kind ≡ Floating → tokens ≡ drop 1 items
    → option_map plain_token found ≡ last_met name (mentions (map plain_token tokens))
    → last_met name (typed_by kind first (map plain_token items))
    ≡ option_map (λ (v : PlainToken). first) (option_map plain_token found)
typed_found name kind first items tokens found floating rest is =
    let variables : drop 1 (map plain_token items) ≡ map plain_token tokens =
    dropped items ∙ ap (map plain_token) (sym rest) in
    ap (λ (k : Kind). last_met name (typed_by k first (map plain_token items))) floating
    ∙ typed_where name first (drop 1 (map plain_token items))
    ∙ ap (λ (vs : List PlainToken). option_map (λ (v : PlainToken). first) (last_met name (mentions vs))) variables
    ∙ ap (option_map (λ (v : PlainToken). first)) (sym is)
