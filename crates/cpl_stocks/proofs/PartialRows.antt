-- Rows of one width, by their numbers.
use Rattle.std.proofs.Common.{◌≡◌, ◌∙◌, ap, sym, refl, ℕ, zero, suc, ◌*◌, arith, List, [], ◌∷◌, ◌++◌, length, take, drop}
use Rattle.std.specs.Prelude.{ℤ, ◌+ℤ◌}
use Rattle.std.proofs.Math.ListN.{length-append}
use Rattle.std.proofs.lemmas.List.{take_at, drop_at}
use Rattle.std.proofs.lemmas.List.Elements.{All-head, All-tail, All-cons, All-nil}
use Rattle.cpl_stocks.specs.declared.partial.Partial.{Partial}
use Rattle.cpl_stocks.specs.Partials.{AreRows, HasShape, both, each_sum, in_rows, numbers_of, row_sums}

module _ (width : ℕ) where
  first : (count : ℕ) (x : List ℤ) (xs : List (List ℤ)) → AreRows (suc count) width (x ∷ xs) → length x ≡ width
  first count x xs are = All-head (λ row. length row ≡ width) x xs are.numbers

  rest : (count : ℕ) (x : List ℤ) (xs : List (List ℤ)) → AreRows (suc count) width (x ∷ xs) → AreRows count width xs
  rest count x xs are = let long = are.rows in record { rows = omega arith; numbers = All-tail (λ row. length row ≡ width) x xs are.numbers }

  -- how many numbers they have
  rows_long : (count : ℕ) (xs : List (List ℤ)) → AreRows count width xs → length (in_rows xs) ≡ count * width
  rows_long zero [] are = omega arith
  rows_long (suc count) [] are = let long = are.rows in absurd (omega arith)
  rows_long zero (x ∷ xs) are = let long = are.rows in absurd (omega arith)
  rows_long (suc count) (x ∷ xs) are =
      let own = first count x xs are in
      let all = length-append x (in_rows xs) in
      let others = rows_long count xs (rest count x xs are) in
      omega (arith, own, all, others)

  -- those with the same numbers are the same
  rows_same : (count : ℕ) (xs ys : List (List ℤ)) → AreRows count width xs → AreRows count width ys → in_rows xs ≡ in_rows ys → xs ≡ ys
  rows_same zero [] [] are too e = refl
  rows_same zero [] (y ∷ ys) are too e = let long = too.rows in absurd (omega arith)
  rows_same zero (x ∷ xs) ys are too e = let long = are.rows in absurd (omega arith)
  rows_same (suc count) [] ys are too e = let long = are.rows in absurd (omega arith)
  rows_same (suc count) (x ∷ xs) [] are too e = let long = too.rows in absurd (omega arith)
  rows_same (suc count) (x ∷ xs) (y ∷ ys) are too e =
      let one = first count x xs are in
      let other = first count y ys too in
      let head = sym (take_at x (in_rows xs) width one) ∙ ap (take width) e ∙ take_at y (in_rows ys) width other in
      let tail = sym (drop_at x (in_rows xs) width one) ∙ ap (drop width) e ∙ drop_at y (in_rows ys) width other in
      let others = rows_same count xs ys (rest count x xs are) (rest count y ys too) tail in
      λ i. head i ∷ others i

each_sum-append : (xs ys us vs : List ℤ) → length xs ≡ length ys → each_sum (xs ++ us) (ys ++ vs) ≡ each_sum xs ys ++ each_sum us vs
each_sum-append [] [] us vs e = refl
each_sum-append [] (y ∷ ys) us vs e = absurd (omega arith)
each_sum-append (x ∷ xs) [] us vs e = absurd (omega arith)
each_sum-append (x ∷ xs) (y ∷ ys) us vs e = ap (λ (sums : List ℤ). (x +ℤ y) ∷ sums) (each_sum-append xs ys us vs (omega arith))

each_long : (xs ys : List ℤ) → length xs ≡ length ys → length (each_sum xs ys) ≡ length xs
each_long [] ys e = refl
each_long (x ∷ xs) [] e = absurd (omega arith)
each_long (x ∷ xs) (y ∷ ys) e = ap suc (each_long xs ys (omega arith))

module _ (width : ℕ) where
  -- the sums of rows are those of their numbers
  rows_summed : (count : ℕ) (xs ys : List (List ℤ)) → AreRows count width xs → AreRows count width ys → in_rows (row_sums xs ys) ≡ each_sum (in_rows xs) (in_rows ys)
  rows_summed zero [] ys are too = refl
  rows_summed zero (x ∷ xs) ys are too = let long = are.rows in absurd (omega arith)
  rows_summed (suc count) [] ys are too = let long = are.rows in absurd (omega arith)
  rows_summed (suc count) (x ∷ xs) [] are too = let long = too.rows in absurd (omega arith)
  rows_summed (suc count) (x ∷ xs) (y ∷ ys) are too =
      ap (λ (sums : List ℤ). each_sum x y ++ sums) (rows_summed count xs ys (rest width count x xs are) (rest width count y ys too))
      ∙ sym (each_sum-append x y (in_rows xs) (in_rows ys) (first width count x xs are ∙ sym (first width count y ys too)))

  rows_of_sums : (count : ℕ) (xs ys : List (List ℤ)) → AreRows count width xs → AreRows count width ys → AreRows count width (row_sums xs ys)
  rows_of_sums zero [] ys are too = record { rows = refl; numbers = All-nil (λ row. length row ≡ width) }
  rows_of_sums zero (x ∷ xs) ys are too = let long = are.rows in absurd (omega arith)
  rows_of_sums (suc count) [] ys are too = let long = are.rows in absurd (omega arith)
  rows_of_sums (suc count) (x ∷ xs) [] are too = let long = too.rows in absurd (omega arith)
  rows_of_sums (suc count) (x ∷ xs) (y ∷ ys) are too =
      let one = first width count x xs are in
      let other = first width count y ys too in
      let others = rows_of_sums count xs ys (rest width count x xs are) (rest width count y ys too) in
      record {
        rows = ap suc others.rows;
        numbers = All-cons (λ row. length row ≡ width) (each_sum x y) (row_sums xs ys) (each_long x y (one ∙ sym other) ∙ one) others.numbers;
      }

-- partial sums with the same numbers
pub partial_same : (a b : Partial) → HasShape a → HasShape b → numbers_of a ≡ numbers_of b → a ≡ b
partial_same a b are too e =
    let one = rows_long 8 3 a.stocks are.stocks in
    let other = rows_long 8 3 b.stocks too.stocks in
    let front = sym (take_at (in_rows a.stocks) (in_rows a.exchanges) 24 one) ∙ ap (take 24) e ∙ take_at (in_rows b.stocks) (in_rows b.exchanges) 24 other in
    let back = sym (drop_at (in_rows a.stocks) (in_rows a.exchanges) 24 one) ∙ ap (drop 24) e ∙ drop_at (in_rows b.stocks) (in_rows b.exchanges) 24 other in
    let stocks = rows_same 8 3 a.stocks b.stocks are.stocks too.stocks front in
    let exchanges = rows_same 4 15 a.exchanges b.exchanges are.exchanges too.exchanges back in
    λ i. record { stocks = stocks i; exchanges = exchanges i }

pub numbers_of_both : (a b : Partial) → HasShape a → HasShape b → numbers_of (both a b) ≡ each_sum (numbers_of a) (numbers_of b)
numbers_of_both a b are too =
    let stocks = rows_summed 8 3 a.stocks b.stocks are.stocks too.stocks in
    let exchanges = rows_summed 4 15 a.exchanges b.exchanges are.exchanges too.exchanges in
    (λ i. stocks i ++ exchanges i)
    ∙ sym (each_sum-append (in_rows a.stocks) (in_rows b.stocks) (in_rows a.exchanges) (in_rows b.exchanges)
    (rows_long 8 3 a.stocks are.stocks ∙ sym (rows_long 8 3 b.stocks too.stocks)))

pub shape_of_both : (a b : Partial) → HasShape a → HasShape b → HasShape (both a b)
shape_of_both a b are too = record {
  stocks = rows_of_sums 8 3 a.stocks b.stocks are.stocks too.stocks;
  exchanges = rows_of_sums 4 15 a.exchanges b.exchanges are.exchanges too.exchanges;
}
