-- The type codes that the step by an assertion takes, and those of the entries that it gets.
use Rattle.std.proofs.Common.{◌≡◌, ◌≢◌, ℕ, ◌+◌, ◌<◌, List, [], ◌∷◌, ◌++◌, length, take}
use Rattle.std.proofs.Common.{map}
use Rattle.std.proofs.Common.{slice_get, Option, Some, None, refl, ap, sym, subst, ◌∙◌, append-nil}
use Rattle.std.proofs.Common.{arith}
use Rattle.std.proofs.Common.{unwrap_or, get_or, Bool, true, false}
use Rattle.std.specs.Prelude.{◌==◌}
use Rattle.std.proofs.lemmas.Bool.Decides.{nat_tests}
use denote.Ref.{Bor}
use Rattle.mm_step.specs.Stores.{entries_in, numbers_in}
use Rattle.std.specs.List.{AllZip, flat_map}
use Rattle.std.proofs.lemmas.List.{map-append, take_more}
use Rattle.std.proofs.lemmas.Grind.{flat_map-append}
use Rattle.std.proofs.lemmas.Option.{slice_get_within, get_or_from_slice_get, slice_get-get_or}
use Rattle.std.proofs.lemmas.Option.{same_Some}
use Rattle.mm_base.specs.declared.statement.Kind.TheVariants.{Floating, Essential}
use Rattle.mm_base.proofs.Lists.{get_within, zip_left, zip_length}
use Rattle.mm_frame.specs.Sentence.{Sentence, Types, IsLabelled, IsAssertion}
use Rattle.mm_frame.specs.Numbers.{symbols_of, AreNumbers, IsNumberOf, IsNumbered}
use Rattle.mm_frame.specs.Numbers.{labelled_sentences}
use Rattle.mm_frame.specs.FrameIndex.{FrameIndex, AreHypotheses, IsTypingOf, HaveTypings}
use Rattle.mm_frame.specs.Rules.{AllMeant}
use Rattle.mm_frame.specs.declared.hypothesis.Hypothesis.{Hypothesis}
use Rattle.mm_frame.specs.declared.number.Sym.{Sym}
use Rattle.mm_frame.proofs.Names.LabelNumbers.{one_number_holds}
use Rattle.mm_step.specs.Substitution.{Symbol, Expression}
use Rattle.mm_step.specs.Proof.{BreaksStep, IsWithin, MeetsHypotheses}
use Rattle.mm_step.specs.Moves.{Move, name}
use Rattle.mm_step.specs.Steps.{IsNumberedMove}
use Rattle.mm_listing.specs.declared.halt.Halt.{Halt}
use Rattle.mm_listing.specs.Halted.{HaltsProof, TellsEntry}
use Rattle.mm_step.specs.declared.fault.ProofRule.TheVariants.{P9}
use Rattle.mm_step.specs.Mirror.CodeVerify.{AreHypothesesOf}
use Rattle.mm_step.proofs.ByNumbers.NumberedSymbols.{code_told, named_is, below_is, hypothesis_at}
use Rattle.mm_step.proofs.ByNumbers.NumberedSymbols.{no_hypothesis, as_many}
use Rattle.mm_rules.specs.Answer.{labels_at}
use Rattle.mm_rules.proofs.Numbers.{names_at}
use Rattle.mm_facts.specs.Explained.{Detail, detail_text, details_text, type_codes, type_asked}
use Rattle.mm_facts.specs.Explained.{types_taken, AreTypesAsked}
use Rattle.mm_facts.specs.Mirror.Explaining.{HasOwnCode, HasOtherCode, HaveOwnCodes}
use Rattle.mm_facts.specs.Mirror.Explaining.{IsFirstOfOtherCode}
use Rattle.mm_facts.proofs.HaltDetails.{one_told}
use Rattle.mm_facts.proofs.AskedDetails.{sizes, entries_zip}
use Rattle.mm_facts.proofs.LackingDetails.{both_told}

-- ---- one entry

-- it begins with the type code of its `$f`
pub own_code : (st : List Sentence) (typing : Option (Sym × Sym)) (h : Sentence) (ns : List ℕ)
    (e : Expression) → IsTypingOf st typing h → AreNumbers st ns e → HasOwnCode typing ns
    → h.kind ≡ Floating → slice_get e 0 ≡ slice_get h.symbols 0
own_code st None h ns e essential are own floats =
    absurd (let both : Floating ≡ Essential = sym floats ∙ essential in cc)
own_code st (Some t) h ns e (code, x, types, first, second) are own floats =
    subst (λ (f : Expression). slice_get f 0 ≡ slice_get h.symbols 0) (named_is st ns e are)
    ((code_told one_number_holds st h code x t.0.0 ns (below_is st ns e are) types first).0 own)

-- it doesn't
pub record HasOtherType (st : List Sentence) (h : Sentence) (e : Expression) (c : Sym) : Type 0
  where
    pub code : Symbol
    pub variable : Symbol
    pub typed : Types code variable h
    pub number : IsNumberOf st code c.0
    pub other : slice_get e 0 ≢ Some code

pub other_type : (st : List Sentence) (typing : Option (Sym × Sym)) (h : Sentence) (ns : List ℕ)
    (e : Expression) (c : Sym) → IsTypingOf st typing h → AreNumbers st ns e
    → HasOtherCode typing ns c → HasOtherType st h e c
other_type st typing h ns e c is are (y, same, other) =
    go (subst (λ (t : Option (Sym × Sym)). IsTypingOf st t h) same is)
  where
    go : IsTypingOf st (Some (c, y)) h → HasOtherType st h e c
    go (code, x, types, first, second) = record {
      code = code;
      variable = x;
      typed = types;
      number = first;
      other = λ there. other ((code_told one_number_holds st h code x c.0 ns (below_is st ns e are)
          types first).1
          (ap (λ (f : Expression). slice_get f 0) (named_is st ns e are) ∙ there
          ∙ sym (ap (λ (l : List Symbol). slice_get l 0) types.1)));
    }

-- ---- the type codes of all

numbers_append : (st : List Sentence) (ns ms : List ℕ) (e f : List Symbol) → AreNumbers st ns e
    → AreNumbers st ms f → AreNumbers st (ns ++ ms) (e ++ f)
numbers_append st ns ms e f a b =
    map-append (slice_get (symbols_of st)) ns ms
    ∙ ap (λ (l : List (Option (List ℕ))). l ++ map (slice_get (symbols_of st)) ms) a
    ∙ ap (λ (l : List (Option (List ℕ))). map Some e ++ l) b ∙ sym (map-append Some e f)

first_numbers : (st : List Sentence) (ns : List ℕ) (e : Expression) → AreNumbers st ns e
    → AreNumbers st (take 1 ns) (take 1 e)
first_numbers st [] [] are = refl
first_numbers st [] (x ∷ e) are = absurd cc
first_numbers st (n ∷ ns) [] are = absurd cc
first_numbers st (n ∷ ns) (x ∷ e) are =
    let first : slice_get (symbols_of st) n ≡ Some x = cc in cc

-- those of the entries
pub codes_named : (st : List Sentence) (es : List (List ℕ)) (xs : List Expression)
    → AllZip (AreNumbers st) es xs → AreNumbers st (flat_map (take 1) es) (type_codes xs)
codes_named st [] [] zip = refl
codes_named st [] (x ∷ xs) zip = absurd zip
codes_named st (ns ∷ es) [] zip = absurd zip
codes_named st (ns ∷ es) (x ∷ xs) zip =
    numbers_append st (take 1 ns) (flat_map (take 1) es) (take 1 x) (type_codes xs)
    (first_numbers st ns x zip.0) (codes_named st es xs zip.1)

-- one hypothesis more
pub one_code : (st : List Sentence) (stated : List Sentence) (k : ℕ) (h : Sentence) (ns es new :
    List ℕ)
    → slice_get stated k ≡ Some h
    → AreNumbers st ns (type_codes (map (λ s. s.symbols) (take k stated)))
    → AreNumbers st es h.symbols → new ≡ ns ++ take 1 es
    → AreNumbers st new (type_codes (map (λ s. s.symbols) (take (k + 1) stated)))
one_code st stated k h ns es new there before are is =
    let its = get_or_from_slice_get stated k h h there in
    let more : take (k + 1) stated ≡ take k stated ++ h ∷ [] =
    take_more stated k h (slice_get_within stated k h there) ∙ ap (λ (s : Sentence). take k stated
    ++ s ∷ []) its in
    let whole : type_codes (map (λ s. s.symbols) (take (k + 1) stated))
    ≡ type_codes (map (λ s. s.symbols) (take k stated)) ++ take 1 h.symbols =
    rw more (simp (map-append, flat_map-append, append-nil)) in
    subst (λ (l : List Symbol). AreNumbers st new l) (sym whole)
    (subst (λ (l : List ℕ). AreNumbers st l (type_codes (map (λ s. s.symbols) (take k stated)) ++
    take 1 h.symbols)) (sym is)
    (numbers_append st ns (take 1 es) (type_codes (map (λ s. s.symbols) (take k stated))) (take 1
    h.symbols)
    before (first_numbers st es h.symbols are)))

-- one entry more
pub one_given : (es : List (Bor (List Sym))) (k : ℕ) (d : Bor (List Sym)) (ns new : List ℕ)
    → k < length es → ns ≡ flat_map (take 1) (entries_in (take k es))
    → new ≡ ns ++ take 1 (numbers_in (get_or es k d).now)
    → new ≡ flat_map (take 1) (entries_in (take (k + 1) es))
one_given es k d ns new less before is =
    let whole : flat_map (take 1) (entries_in (take (k + 1) es))
    ≡ flat_map (take 1) (entries_in (take k es)) ++ take 1 (numbers_in (get_or es k d).now) =
    rw (take_more es k d less) (simp (map-append, flat_map-append, append-nil)) in
    is ∙ ap (λ (l : List ℕ). l ++ take 1 (numbers_in (get_or es k d).now)) before ∙ sym whole

-- one hypothesis more whose entry begins with its type code
pub own_more : (xs : List Hypothesis) (es : List (List ℕ)) (k : ℕ) (x : Hypothesis) (ns : List ℕ)
    → HaveOwnCodes xs es k → slice_get xs k ≡ Some x → slice_get es k ≡ Some ns
    → HasOwnCode x.typing ns → HaveOwnCodes xs es (k + 1)
own_more xs es k x ns own at_x at_n has i y ms less at_y at_m = go (i == k) refl
  where
    go : (b : Bool) → (i == k) ≡ b → HasOwnCode y.typing ms
    go true is =
        let here : k ≡ i = grind (arith, nat_tests) in
        let same_x : x ≡ y = same_Some x y (sym at_x ∙ ap (slice_get xs) here ∙ at_y) in
        let same_n : ns ≡ ms = same_Some ns ms (sym at_n ∙ ap (slice_get es) here ∙ at_m) in
        subst (HasOwnCode y.typing) same_n (subst (λ (z : Hypothesis). HasOwnCode z.typing ns)
        same_x has)
    go false is = own i y ms (grind (arith, nat_tests)) at_y at_m

-- ---- the first entry of another type

module _ (st : List Sentence) (xs : List Hypothesis) (hs : List Sentence) (es : List (List ℕ))
    (ys : List Expression) (typed : HaveTypings st xs)
    (numbered : AreHypothesesOf st (map (λ h. h.id.0) xs) hs)
    (zip : AllZip (AreNumbers st) es ys) where
  -- where so many entries begin with the type codes of their `$f`, each of them does
  pub own_there : (count i : ℕ) (h : Sentence) (e : Expression) → HaveOwnCodes xs es count
      → i < count → slice_get hs i ≡ Some h → slice_get ys i ≡ Some e → h.kind ≡ Floating
      → slice_get e 0 ≡ slice_get h.symbols 0
  own_there count i h e own less at_h at_e floats =
      let many = as_many st xs hs numbered in
      let inside : i < length xs = (let within = slice_get_within hs i h at_h in omega arith) in
      let at = hypothesis_at st xs hs i no_hypothesis typed numbered inside in
      let same_h : at.0 ≡ h = same_Some at.0 h (sym at.1 ∙ at_h) in
      let long = zip_length (AreNumbers st) es ys zip in
      let n = get_within es i (let within = slice_get_within ys i e at_e in omega arith) in
      let y = zip_left (AreNumbers st) es ys i n.0 zip n.1 in
      let same_e : y.0 ≡ e = same_Some y.0 e (sym y.1 ∙ at_e) in
      own_code st (get_or xs i no_hypothesis).typing h n.0 e
      (subst (λ (s : Sentence). IsTypingOf st (get_or xs i no_hypothesis).typing s) same_h at.3)
      (subst (AreNumbers st n.0) same_e y.2)
      (own i (get_or xs i no_hypothesis) n.0 less (slice_get-get_or xs i no_hypothesis inside) n.1)
      floats

  -- the first that doesn't, and its `$f`
  pub record WrongType (index : ℕ) (code : Sym) (d : Hypothesis) : Type 0 where
    pub hypothesis : Sentence
    pub its : slice_get hs index ≡ Some hypothesis
    pub labelled : slice_get (labelled_sentences st) (get_or xs index d).id.0 ≡ Some hypothesis
    pub numbers : List ℕ
    pub there : slice_get es index ≡ Some numbers
    pub given : Expression
    pub entry : slice_get ys index ≡ Some given
    pub are : AreNumbers st numbers given
    pub type : HasOtherType st hypothesis given code

  pub wrong_type : (index : ℕ) (code : Sym) (d : Hypothesis) → IsFirstOfOtherCode xs es index code
      → WrongType index code d
  wrong_type index code d found =
      let at = hypothesis_at st xs hs index d typed numbered (slice_get_within xs index
      found.hypothesis found.its) in
      let same : get_or xs index d ≡ found.hypothesis = get_or_from_slice_get xs index
      found.hypothesis d found.its in
      let y = zip_left (AreNumbers st) es ys index found.numbers zip found.entry in
      record {
        hypothesis = at.0;
        its = at.1;
        labelled = at.2;
        numbers = found.numbers;
        there = found.entry;
        given = y.0;
        entry = y.1;
        are = y.2;
        type = other_type st found.hypothesis.typing at.0 found.numbers y.0 code
            (subst (λ (x : Hypothesis). IsTypingOf st x.typing at.0) same at.3) y.2 found.other;
      }

-- it is told, and the types of all
pub types_told : (st before : List Sentence) (stack : List Expression) (steps : List (List ℕ)) (label :
    List ℕ)
    (m : MeetsHypotheses before stack label) (xs : List Hypothesis) (es : List (List ℕ))
    (typed : HaveTypings st xs) (numbered : AreHypothesesOf st (map (λ h. h.id.0) xs) m.hypotheses)
    (zip : AllZip (AreNumbers st) es m.entries) (index : ℕ) (code : Sym) (d : Hypothesis)
    → IsFirstOfOtherCode xs es index code
    → (w : WrongType st xs m.hypotheses es m.entries typed numbered zip index code d)
    → (step asking code_name : List ℕ) (numbers taken given : List ℕ) (o₀ o₁ o₂ : List ℕ)
    → slice_get steps (length m.rest + index) ≡ Some step → IsLabelled asking w.hypothesis
    → IsNumberOf st code_name code.0 → slice_get es index ≡ Some numbers
    → AreNumbers st taken (type_codes (map (λ h. h.symbols) m.hypotheses))
    → AreNumbers st given (type_codes m.entries)
    → o₁ ≡ o₀ ++ detail_text (type_asked asking code_name step (labels_at (symbols_of st)
    numbers))
    → o₂ ≡ o₁ ++ detail_text (types_taken (labels_at (symbols_of st) taken) (labels_at (symbols_of
    st) given))
    → (details : List Detail) × AreTypesAsked before stack steps label details
    × (o₂ ≡ o₀ ++ details_text details)
types_told st before stack steps label m xs es typed numbered zip index code d found w step
    asking code_name numbers taken given o₀ o₁ o₂ origin labelled is at taken_are given_are h₁ h₂ =
    let all_taken : List Symbol = type_codes (map (λ h. h.symbols) m.hypotheses) in
    let all_given : List Symbol = type_codes m.entries in
    let first : Detail = type_asked (unwrap_or w.hypothesis.label []) w.type.code step w.given in
    let all : Detail = types_taken all_taken all_given in
    let its : asking ≡ unwrap_or w.hypothesis.label [] = ap (λ (o : Option (List ℕ)). unwrap_or o
    []) (sym labelled) in
    let code_named : code_name ≡ w.type.code = same_Some code_name w.type.code (sym is ∙
    w.type.number) in
    let same : numbers ≡ w.numbers = same_Some numbers w.numbers (sym at ∙ w.there) in
    let given_named : labels_at (symbols_of st) numbers ≡ w.given =
    ap (labels_at (symbols_of st)) same ∙ names_at (symbols_of st) w.numbers w.given w.are in
    let first_told : o₁ ≡ o₀ ++ detail_text first =
    h₁ ∙ ap (λ (l : List ℕ). o₀ ++ detail_text (type_asked l code_name step (labels_at
    (symbols_of st) numbers))) its
    ∙ ap (λ (c : List ℕ). o₀ ++ detail_text (type_asked (unwrap_or w.hypothesis.label []) c step
    (labels_at (symbols_of st) numbers))) code_named
    ∙ ap (λ (e : Expression). o₀ ++ detail_text (type_asked (unwrap_or w.hypothesis.label [])
    w.type.code step e)) given_named in
    let all_told : o₂ ≡ o₁ ++ detail_text all =
    h₂ ∙ ap (λ (e : List Symbol). o₁ ++ detail_text (types_taken e (labels_at (symbols_of st)
    given))) (names_at (symbols_of st) taken all_taken taken_are)
    ∙ ap (λ (e : List Symbol). o₁ ++ detail_text (types_taken all_taken e)) (names_at (symbols_of
    st) given all_given given_are) in (
      first ∷ all ∷ [],
      record {
        met = m;
        index = index;
        hypothesis = w.hypothesis;
        given = w.given;
        step = step;
        its = w.its;
        entry = w.entry;
        origin = origin;
        code = w.type.code;
        variable = w.type.variable;
        typed = w.type.typed;
        other = w.type.other;
        first = λ i h e less at_h at_e floats.
            own_there st xs m.hypotheses es m.entries typed numbered zip index i h e found.before
            less at_h at_e floats;
        told = refl;
      },
      both_told (first ∷ []) (all ∷ []) o₀ o₁ o₂ (one_told o₀ o₁ first first_told) (one_told o₁ o₂
          all all_told),
    )

-- where P9 is broken, some entry has another type
pub some_wrong : (st before : List Sentence) (stack : List Expression) (label : List ℕ) (limit : ℕ)
    (broken : BreaksStep (IsWithin limit) P9 before stack label) (xs : List Hypothesis) (es : List
    (List ℕ))
    → HaveTypings st xs → AreHypothesesOf st (map (λ h. h.id.0) xs) broken.0.hypotheses
    → AllZip (AreNumbers st) es broken.0.entries → HaveOwnCodes xs es (length xs) → ⊥
some_wrong st before stack label limit (m, (i, h, e, at_h, at_e, (floats, other))) xs es typed
    numbered zip own =
    let many = as_many st xs m.hypotheses numbered in
    other (own_there st xs m.hypotheses es m.entries typed numbered zip (length xs) i h e own
    (let within = slice_get_within m.hypotheses i h at_h in omega arith) at_h at_e floats)

-- ---- the step

-- what is known of its hypotheses and its entries
pub record TypeScene (st before : List Sentence) (stack : List Expression) (label : List ℕ)
    (m : MeetsHypotheses before stack label) (base : ℕ) (xs : List Hypothesis)
    (es : List (List ℕ)) : Type 0 where
  pub typed : HaveTypings st xs
  pub numbered : AreHypothesesOf st (map (λ h. h.id.0) xs) m.hypotheses
  pub zip : AllZip (AreNumbers st) es m.entries
  pub rest : base ≡ length m.rest

pub type_scene : (limit : ℕ) (st : List Sentence) (index : ℕ) (s : Sentence) (prefix : Bool)
    (moves : List (Move (List ℕ))) (halt : Halt)
    (h : HaltsProof limit st (take index st) s prefix moves halt) → AllMeant st → (id : ℕ)
    (frame : FrameIndex) → frame.statements ≡ st
    → (a : Sentence) → IsNumbered st id frame.index a → IsAssertion a.kind → (xs : List Hypothesis)
    → AreHypotheses frame (map (λ h. h.id.0) xs) → HaveTypings frame.statements xs → (label : List
    ℕ)
    → IsNumberedMove st (name id) (name label)
    → (m : MeetsHypotheses (take index st) h.there.stack label) → (base : ℕ)
    → base + length xs ≡ length halt.origins.items → (es : List (List ℕ))
    → base + length es ≡ length halt.origins.items
    → ((k : ℕ) (numbers : List ℕ) → slice_get es k ≡ Some numbers → TellsEntry halt (base + k)
    numbers)
    → TypeScene st (take index st) h.there.stack label m base xs es
type_scene limit st index s prefix moves halt h all id frame same a numbered kind xs ids typed
    label move m base sum es count tells =
    let z = sizes limit st index s prefix moves halt h all id frame same a numbered kind xs ids
    label move m in
    let origins = z.origins in
    let rest : base ≡ length m.rest = omega arith in
    record {
      typed = subst (λ (ss : List Sentence). HaveTypings ss xs) same typed;
      numbered = z.numbered;
      zip = entries_zip limit st (take index st) s prefix moves halt h label m base es rest count
          tells;
      rest = rest;
    }
