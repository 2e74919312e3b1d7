-- Small sums in words of 128 bits.
use Rattle.std.proofs.Common.{◌≡◌, ◌∙◌, sym, ap, subst, ◌^◌, arith, List, to_z, of_z}
use Rattle.std.specs.Prelude.{ℤ, pos, ◌+ℤ◌, ◌≤ℤ◌, ◌<ℤ◌, FitsSigned}
use Rattle.std.specs.Int.{w128}
use Rattle.std.proofs.lemmas.Int.{ints}
use Rattle.cpl_fixed.specs.Totals.{total_of}
use Rattle.cpl_plan.specs.Sums.{IsSmall}

-- a number as this machine's word
abbrev pub as_word : ℤ → ℤ
as_word x = to_z w128 (of_z w128 x)

pub word : (x : ℤ) → pos 0 ≤ℤ x → x <ℤ pos (2 ^ 126) → as_word x ≡ x
word x least most = omega (arith, ints, least, most)

small_is : (x : ℤ) → IsSmall x → as_word x ≡ x
small_is x small = word x small.0 (omega (arith, ints, small.1))

pub small_word : (x : ℤ) → IsSmall x → IsSmall (as_word x)
small_word x small = let e = small_is x small in (omega (arith, ints, e, small.0), omega (arith, ints, e, small.1))

-- a number added to a word that is known
pub record IsAdded (x y known : ℤ) : Type 0 where
  pub fits : FitsSigned w128 (x +ℤ as_word y)
  pub is : as_word (x +ℤ as_word y) ≡ known +ℤ y

pub added : (x y known : ℤ) → x ≡ known → pos 0 ≤ℤ known → known <ℤ pos (2 ^ 125) → pos 0 ≤ℤ y → y <ℤ pos (2 ^ 125) → IsAdded x y known
added x y known e least most low high =
    let own = word y low (omega (arith, ints, high)) in
    let sum : x +ℤ as_word y ≡ known +ℤ y = λ i. e i +ℤ own i in
    record {
      fits = subst (FitsSigned w128) (sym sum) (omega (arith, ints, least, most, low, high));
      is = ap as_word sum ∙ word (known +ℤ y) (omega (arith, ints, least, low)) (omega (arith, ints, most, high));
    }

-- the sum of a list that is another's
pub summed : (x : ℤ) (xs ys : List ℤ) → IsSmall x → x ≡ total_of xs → xs ≡ ys → as_word x ≡ total_of ys
summed x xs ys small e f = small_is x small ∙ e ∙ ap total_of f
