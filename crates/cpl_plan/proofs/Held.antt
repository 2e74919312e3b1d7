-- What a state holds, and the sun to come, in words of 128 bits.
use Rattle.std.proofs.Common.{◌≡◌, ◌∙◌, sym, ap, subst, ℕ, ◌*◌, ◌^◌, ◌≤◌, arith, mul-le-mul}
use Rattle.std.specs.Prelude.{ℤ, pos, negsuc, ◌+ℤ◌, ◌*ℤ◌, ◌≤ℤ◌, ◌<ℤ◌, FitsSigned}
use Rattle.std.specs.Int.{w128}
use Rattle.std.proofs.lemmas.Int.{ints}
use Rattle.std.proofs.Math.IntN.{pos-*ℤ-pos}
use Rattle.cpl_state.specs.Stocks.{Stocks as StocksOf, sum_of_stocks}
use Rattle.cpl_plan.specs.declared.stocks.Stocks.{Stocks}
use Rattle.cpl_plan.specs.Sums.{AreSmall, AreStocks, held_of}
use Rattle.cpl_plan.proofs.Few.{IsAdded, added, as_word, word}

-- one part after another
module _ (stocks : Stocks) (small : AreSmall stocks) where
  pub with_land : IsAdded (as_word stocks.air) stocks.land (stocks.air)
  with_land = added (as_word stocks.air) stocks.land (stocks.air) (word stocks.air small.air.0 (omega (arith, ints, small.air.1))) (omega (arith, ints, small.air.0)) (omega (arith, ints, small.air.1)) small.land.0 (omega (arith, ints, small.land.1))

  pub with_ice : IsAdded (as_word (as_word stocks.air +ℤ as_word stocks.land)) stocks.ice (stocks.air +ℤ stocks.land)
  with_ice = added (as_word (as_word stocks.air +ℤ as_word stocks.land)) stocks.ice (stocks.air +ℤ stocks.land) with_land.is (omega (arith, ints, small.air.0, small.land.0)) (omega (arith, ints, small.air.1, small.land.1)) small.ice.0 (omega (arith, ints, small.ice.1))

  pub with_ocean : IsAdded (as_word (as_word (as_word stocks.air +ℤ as_word stocks.land) +ℤ as_word stocks.ice)) stocks.ocean (stocks.air +ℤ stocks.land +ℤ stocks.ice)
  with_ocean = added (as_word (as_word (as_word stocks.air +ℤ as_word stocks.land) +ℤ as_word stocks.ice)) stocks.ocean (stocks.air +ℤ stocks.land +ℤ stocks.ice) with_ice.is (omega (arith, ints, small.air.0, small.land.0, small.ice.0)) (omega (arith, ints, small.air.1, small.land.1, small.ice.1)) small.ocean.0 (omega (arith, ints, small.ocean.1))

  pub with_to_ice : IsAdded (as_word (as_word (as_word (as_word stocks.air +ℤ as_word stocks.land) +ℤ as_word stocks.ice) +ℤ as_word stocks.ocean)) stocks.to_ice (stocks.air +ℤ stocks.land +ℤ stocks.ice +ℤ stocks.ocean)
  with_to_ice = added (as_word (as_word (as_word (as_word stocks.air +ℤ as_word stocks.land) +ℤ as_word stocks.ice) +ℤ as_word stocks.ocean)) stocks.to_ice (stocks.air +ℤ stocks.land +ℤ stocks.ice +ℤ stocks.ocean) with_ocean.is (omega (arith, ints, small.air.0, small.land.0, small.ice.0, small.ocean.0)) (omega (arith, ints, small.air.1, small.land.1, small.ice.1, small.ocean.1)) small.to_ice.0 (omega (arith, ints, small.to_ice.1))

  pub with_to_ocean : IsAdded (as_word (as_word (as_word (as_word (as_word stocks.air +ℤ as_word stocks.land) +ℤ as_word stocks.ice) +ℤ as_word stocks.ocean) +ℤ as_word stocks.to_ice)) stocks.to_ocean (stocks.air +ℤ stocks.land +ℤ stocks.ice +ℤ stocks.ocean +ℤ stocks.to_ice)
  with_to_ocean = added (as_word (as_word (as_word (as_word (as_word stocks.air +ℤ as_word stocks.land) +ℤ as_word stocks.ice) +ℤ as_word stocks.ocean) +ℤ as_word stocks.to_ice)) stocks.to_ocean (stocks.air +ℤ stocks.land +ℤ stocks.ice +ℤ stocks.ocean +ℤ stocks.to_ice) with_to_ice.is (omega (arith, ints, small.air.0, small.land.0, small.ice.0, small.ocean.0, small.to_ice.0)) (omega (arith, ints, small.air.1, small.land.1, small.ice.1, small.ocean.1, small.to_ice.1)) small.to_ocean.0 (omega (arith, ints, small.to_ocean.1))

  -- all together
  abbrev all_words : ℤ
  all_words = as_word (as_word (as_word (as_word (as_word (as_word stocks.air +ℤ as_word stocks.land) +ℤ as_word stocks.ice) +ℤ as_word stocks.ocean) +ℤ as_word stocks.to_ice) +ℤ as_word stocks.to_ocean)

  pub held_is : all_words ≡ sum_of_stocks (held_of stocks)
  held_is = with_to_ocean.is

  pub held_small : (pos 0 ≤ℤ all_words) × (all_words <ℤ pos (2 ^ 100))
  held_small =
      let P = λ (z : ℤ). (pos 0 ≤ℤ z) × (z <ℤ pos (2 ^ 100)) in
      subst P (sym with_to_ocean.is) (omega (arith, ints, small.air.0, small.land.0, small.ice.0, small.ocean.0, small.to_ice.0, small.to_ocean.0), omega (arith, ints, small.air.1, small.land.1, small.ice.1, small.ocean.1, small.to_ice.1, small.to_ocean.1))

-- stocks of a state hold together what it holds
pub all_held : (of : StocksOf) (stocks : Stocks) → AreStocks of stocks → sum_of_stocks (held_of stocks) ≡ sum_of_stocks of
all_held of stocks are = λ i. are.air i +ℤ are.land i +ℤ are.ice i +ℤ are.ocean i +ℤ are.to_ice i +ℤ are.to_ocean i

-- THE SUN

product_range : (m : ℕ) (sun : ℤ) → m ≤ 10000000 → pos 0 ≤ℤ sun → sun <ℤ pos (2 ^ 98) → (pos 0 ≤ℤ (pos m *ℤ sun)) × ((pos m *ℤ sun) <ℤ pos (2 ^ 122))
product_range m (pos n) few least most =
    let e = pos-*ℤ-pos m n in
    let below : n ≤ 2 ^ 98 = omega (arith, ints, most) in
    let scaled : m * n ≤ 10000000 * 2 ^ 98 = mul-le-mul few below in
    (omega (arith, ints, e), omega (arith, ints, e, scaled))
product_range m (negsuc n) few least most = absurd (omega (arith, ints, least))

-- the sun of all steps
pub record IsSun (from most : ℤ) (m : ℕ) : Type 0 where
  pub fits : FitsSigned w128 (as_word from *ℤ as_word most)
  pub is : as_word (as_word from *ℤ as_word most) ≡ pos m *ℤ most
  pub least : pos 0 ≤ℤ as_word (as_word from *ℤ as_word most)
  pub high : as_word (as_word from *ℤ as_word most) <ℤ pos (2 ^ 122)

pub sun_is : (from most : ℤ) (m : ℕ) → from ≡ pos m → m ≤ 10000000 → pos 0 ≤ℤ most → most <ℤ pos (2 ^ 98) → IsSun from most m
sun_is from most m e few least below =
    let range = product_range m most few least below in
    let steps : as_word from ≡ pos m = omega (arith, ints, e, few) in
    let own = word most least (omega (arith, ints, below)) in
    let product : as_word from *ℤ as_word most ≡ pos m *ℤ most = λ i. steps i *ℤ own i in
    let is = ap as_word product ∙ word (pos m *ℤ most) range.0 (omega (arith, ints, range.1)) in
    record {
      fits = subst (FitsSigned w128) (sym product) (omega (arith, ints, range.0, range.1));
      is = is;
      least = subst (λ (z : ℤ). pos 0 ≤ℤ z) (sym is) range.0;
      high = subst (λ (z : ℤ). z <ℤ pos (2 ^ 122)) (sym is) range.1;
    }
