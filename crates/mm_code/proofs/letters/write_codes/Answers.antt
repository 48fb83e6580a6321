use Rattle.std.proofs.Common.{arith, ◌≡◌, ℕ, ◌+◌, ◌-◌, ◌<◌, ◌≤◌, List, [], ◌∷◌, ◌++◌, map, sym}
use Rattle.std.proofs.Common.{length, get_or, take, append-nil, take_all}
use Rattle.std.proofs.lemmas.List.{take_more, map_push}
use Rattle.std.proofs.lemmas.List.Concat.{flat_map-append}
use Rattle.mm_code.specs.declared.code.Code.{Code}
use Rattle.mm_code.specs.Letters.{SaysCode, SpellsCodes, Letters, code_for}
use Rattle.mm_code.specs.Mirror.Writing.{AppendsCode}
use Rattle.mm_code.proofs.OneSpelling.{exact_codes, one_text_only}
use Rattle.mm_base.proofs.Lists.{zip_push}
use Rattle.mm_code.proofs.letters.write_codes.Goals as goal

-- one more code's letters
code-written : (old new : List ℕ) (codes : List Code) (i : ℕ) (d : Code)
    → i < length codes → SpellsCodes old (take i codes) → AppendsCode old new (get_or codes i d)
    → SpellsCodes new (take (i + 1) codes)
code-written old new codes i d lt spells more =
    rw (take_more codes i d lt) (record {
      pieces = spells.pieces ++ more.piece ∷ [];
      each =
          zip_push SaysCode spells.pieces (take i codes) more.piece (get_or codes i d) spells.each
          more.says;
      joined = rw (more.text, spells.joined, flat_map-append, append-nil);
    })

code_for-more : (codes : List Code) (i : ℕ) (d : Code) → i < length codes
    → map code_for (take i codes) ≡ take i codes → code_for (get_or codes i d) ≡ get_or codes i d
    → map code_for (take (i + 1) codes) ≡ take (i + 1) codes
code_for-more codes i d lt before here =
    rw (take_more codes i d lt, map_push, before, here)

all_spelled : (text : List ℕ) (codes : List Code) (i : ℕ) → length codes ≤ i
    → SpellsCodes text (take i codes) → SpellsCodes text codes
all_spelled text codes i le spells =
    rw (take_all i codes le) at spells

all_letters : (text : List ℕ) (codes : List Code) (i : ℕ) → length codes ≤ i
    → SpellsCodes text (take i codes) → map code_for (take i codes) ≡ take i codes → Letters text codes
all_letters text codes i le spells are_codes = record {
  spelled = codes;
  spells = all_spelled text codes i le spells;
  are_codes = sym (rw (take_all i codes le) at are_codes);
}

pub loop-code-preserved : goal.loop-code-preserved
loop-code-preserved c = record {
  spelled = code-written c.loop-code.text.items c.push_code.new.text.items c.args.codes.now c.loop-code.code-index _ (omega arith) c.loop-code.invariant.spelled c.in_ok-push_code.ensures.appends;
  are_codes = code_for-more c.args.codes.now c.loop-code.code-index _ (omega arith) c.loop-code.invariant.are_codes c.push_code.ensures.same;
}

pub returns-clause-letters : goal.returns-clause-letters
returns-clause-letters c = all_letters c.loop-code.text.items c.args.codes.now c.loop-code.code-index (omega arith) c.loop-code.invariant.spelled c.loop-code.invariant.are_codes

pub returns-clause-only : goal.returns-clause-only
returns-clause-only c exact other letters =
    let text = c.loop-code.text.items in
    let codes = c.args.codes.now in
    one_text_only other text codes
    (rw (exact_codes codes letters.spelled exact letters.are_codes) letters.spells)
    (all_spelled text codes c.loop-code.code-index (omega arith) c.loop-code.invariant.spelled)
