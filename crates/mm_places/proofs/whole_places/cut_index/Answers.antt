-- A number isn't ended before a `Z`, or at the end.
use Rattle.std.proofs.Common.{ℕ, List, [], ◌∷◌, ◌≡◌, take, drop, length, get_or, suc, sym, subst}
use Rattle.std.proofs.Common.{append-nil, Option, arith}
use Rattle.std.proofs.lemmas.List.{take_all, take_more, length-take-le}
use Rattle.std.proofs.lemmas.List.Elements.{All-get_or}
use Rattle.std.proofs.lemmas.Option.{slice_get-get_or}
use Rattle.mm_base.proofs.Lists.{split_at}
use Rattle.mm_code.specs.Letters.{IsLetter}
use Rattle.mm_places.specs.Mirror.CodeWhole.{IsBegun}
use Rattle.mm_places.proofs.ProofPlaces.WholePlaces.{begun_nothing, cut_there, never_cut}
use Rattle.mm_places.proofs.whole_places.cut_index.Goals as goal

pub loop-index-init : goal.loop-index-init
loop-index-init c = begun_nothing

pub pass-requires : goal.pass-requires
pass-requires c =
    All-get_or IsLetter c.args.letters.now c.loop-index.index 0 c.loop-index-test.true
    c.requires.0

pub loop-index-preserved : goal.loop-index-preserved
loop-index-preserved c =
    let letters = c.args.letters.now in
    let front = take c.loop-index.index letters in
    let long : c.loop-index.index ≡ length front =
    sym (length-take-le c.loop-index.index letters (omega (arith, c.loop-index-test.true))) in
    subst (λ (l : List ℕ). IsBegun l c.in-Begun.next)
    (sym (take_more letters c.loop-index.index 0 c.loop-index-test.true))
    (c.in-Begun.ensures front long c.loop-index.invariant)

pub returns-in-Cut : goal.returns-in-Cut
returns-in-Cut c =
    let letters = c.args.letters.now in
    let front = take c.loop-index.index letters in
    let long : c.loop-index.index ≡ length front =
    sym (length-take-le c.loop-index.index letters (omega (arith, c.loop-index-test.true))) in
    let (is, begun) = c.in-Cut.ensures front long c.loop-index.invariant in
    let letter = get_or letters c.loop-index.index 0 in
    cut_there letters front (letter ∷ drop (suc c.loop-index.index) letters) c.in-Cut.first
    (split_at letters c.loop-index.index letter
    (slice_get-get_or letters c.loop-index.index 0 c.loop-index-test.true)) begun is

pub returns : goal.returns
returns c =
    let letters = c.args.letters.now in
    let all = take_all c.loop-index.index letters c.loop-index-test.false in
    cut_there letters letters [] c.in-Some.first (sym (append-nil letters))
    (subst (λ (b : Option ℕ). IsBegun letters b) c.in-Some.is
    (subst (λ (l : List ℕ). IsBegun l c.loop-index.begun) all c.loop-index.invariant)) tt

pub unreachable-requires : goal.unreachable-requires
unreachable-requires c =
    let letters = c.args.letters.now in
    let all = take_all c.loop-index.index letters c.loop-index-test.false in
    never_cut letters
    (subst (λ (b : Option ℕ). IsBegun letters b) c.in-None.is
    (subst (λ (l : List ℕ). IsBegun l c.loop-index.begun) all c.loop-index.invariant))
    c.requires
