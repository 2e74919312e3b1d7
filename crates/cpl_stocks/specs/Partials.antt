-- Partial sums: the 84 numbers of one, what two make together, and the 168 words that carry one.
use Rattle.std.specs.Prelude.{◌≡◌, ℕ, ◌+◌, ◌*◌, ◌/◌, ◌%◌, ◌^◌, List, [], ◌∷◌, ◌++◌, length, map, replicate, zip, flat_map, All, ℤ, pos, ◌+ℤ◌}
use Rattle.std.specs.Int.{cast_signed, cast_unsigned, w64, w128}
use Rattle.cpl_stocks.specs.declared.partial.Partial.{Partial}

-- the numbers of rows, row by row
abbrev pub in_rows : List (List ℤ) → List ℤ
in_rows rows = flat_map (λ row. row) rows

-- the numbers of a partial sum: the eight columns of heat, of water and of salt, and the four columns of each exchange row
abbrev pub numbers_of : Partial → List ℤ
numbers_of partial = in_rows partial.stocks ++ in_rows partial.exchanges

-- so many rows of so many numbers
pub record AreRows (count width : ℕ) (xs : List (List ℤ)) : Type 0 where
  pub rows : length xs ≡ count
  pub numbers : All (λ row. length row ≡ width) xs

-- three rows of eight stocks, and fifteen of four numbers of an exchange
pub record HasShape (partial : Partial) : Type 0 where
  pub stocks : AreRows 3 8 partial.stocks
  pub exchanges : AreRows 15 4 partial.exchanges

-- SUMS

-- nothing
unfoldable pub no_sums : Partial
no_sums = record { stocks = replicate 3 (replicate 8 (pos 0)); exchanges = replicate 15 (replicate 4 (pos 0)) }

-- the sums of the numbers at each place
abbrev pub each_sum : List ℤ → List ℤ → List ℤ
each_sum xs ys = map (λ (x, y). x +ℤ y) (zip xs ys)

abbrev pub row_sums : List (List ℤ) → List (List ℤ) → List (List ℤ)
row_sums xs ys = map (λ (x, y). each_sum x y) (zip xs ys)

-- two partial sums together: each number is the sum of the two
abbrev pub both : Partial → Partial → Partial
both a b = record { stocks = row_sums a.stocks b.stocks; exchanges = row_sums a.exchanges b.exchanges }

-- WORDS

-- the high and the low 64 bits of a number of 128 bits, both read as signed
abbrev pub high_word : ℤ → ℤ
high_word x = cast_signed w64 (cast_unsigned w128 x / 2 ^ 64)

abbrev pub low_word : ℤ → ℤ
low_word x = cast_signed w64 (cast_unsigned w128 x % 2 ^ 64)

-- the number that has these high and low 64 bits
abbrev pub number_of_words : (high low : ℤ) → ℤ
number_of_words high low = cast_signed w128 (cast_unsigned w64 high * 2 ^ 64 + cast_unsigned w64 low)

-- the words of numbers, the high one of each first
unfoldable pub words_of_numbers : List ℤ → List ℤ
words_of_numbers [] = []
words_of_numbers (x ∷ xs) = high_word x ∷ low_word x ∷ words_of_numbers xs

-- the numbers of words
unfoldable pub numbers_of_words : List ℤ → List ℤ
numbers_of_words [] = []
numbers_of_words (high ∷ []) = []
numbers_of_words (high ∷ low ∷ words) = number_of_words high low ∷ numbers_of_words words

-- the words of a partial sum, in the order of its numbers
abbrev pub words_of : Partial → List ℤ
words_of partial = words_of_numbers (numbers_of partial)
