-- How many letters spell a number and a list of codes (the Metamath book, appendix B).
use Rattle.std.specs.Prelude.{ℕ, zero, suc, ◌+◌, ◌*◌, List, nat_lt}
use Rattle.std.specs.List.{range_with_len, count_by, sum_by}
use Rattle.mm_code.specs.declared.code.Code.{Code}
use Rattle.mm_code.specs.declared.code.Code.TheVariants.{Number, Tag}

-- How many numbers have a spelling of at most so many letters: 20, 120, 620 and so on. They are the
-- 20 of one letter, and behind each of the five leading digits those of one letter less. They are
-- the numbers from 1 up to this one, since a longer spelling is one of a larger number.
abbrev pub numbers_within : ℕ → ℕ
numbers_within zero = 0
numbers_within (suc letters) = 20 + 5 * numbers_within letters

-- How many letters the spelling of a number has: as many as there are counts that are too few for
-- it, beginning with 0. For 21 they are 0 and 1, so it has two letters.
unfoldable pub letters_for : ℕ → ℕ
letters_for number =
    count_by (λ letters. nat_lt (numbers_within letters) number) (range_with_len 0 number)

-- how many letters say a code
abbrev pub letters_of : Code → ℕ
letters_of (Number number) = letters_for number
letters_of Tag = 1

-- how many letters say codes
abbrev pub letter_count : List Code → ℕ
letter_count codes = sum_by letters_of codes
