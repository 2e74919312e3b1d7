-- What flows through elements is bounded, and so is what flows through all elements of a part.
use Rattle.std.proofs.Common.{◌≡◌, ◌∙◌, refl, ap, ℕ, zero, suc, ◌-◌, ◌*◌, ◌/◌, ◌≤◌, arith, List, [], ◌∷◌, map, get_or}
use Rattle.std.specs.Prelude.{ℤ, pos, negsuc, neg_ℤ, ◌*ℤ◌, ◌≤ℤ◌, ◌<ℤ◌, All}
use Rattle.std.proofs.lemmas.Int.{ints, clamps}
use Rattle.std.proofs.lemmas.Nat.{le-div}
use Rattle.std.proofs.Math.Nat.{div-zero, mul-div-le, mul-le-mul_left, le_of_mul-le-mul_left}
use Rattle.std.proofs.Math.IntN.{pos-*ℤ-pos, pos-*ℤ-negsuc}
use Rattle.std.proofs.lemmas.List.Elements.{All-tail}
use Rattle.cpl_fixed.specs.Totals.{total_of}
use Rattle.cpl_fixed.specs.Division.{clamp}
use Rattle.cpl_fixed.specs.declared.limits.TheConstants.{VAPOUR_HEAT}
use Rattle.cpl_laws.proofs.Sums.{spread}
use Rattle.cpl_fixed.specs.declared.rates.Rates.{Rates}
use Rattle.cpl_flux.specs.declared.parts.AirSide.{AirSide}
use Rattle.cpl_flux.specs.declared.parts.Part.{Part}
use Rattle.cpl_flux.specs.declared.parts.Kind.{Kind}
use Rattle.cpl_flux.specs.declared.parts.Kind.TheVariants.{Land, Water, Ice}
use Rattle.cpl_flux.specs.Temperatures.{amount, weather, part_temperature}
use Rattle.cpl_flux.specs.Elements.{eighth, raw_heat, element, evaporation, wet_evaporation, saturation}

-- ONE ELEMENT

-- either side gives at most an eighth of what it has, in the proportion of the areas
pub record IsEighth (rates : Rates) (air_side : AirSide) (part : Part) (b : ℤ) : Type 0 where
  pub from_air : (element rates air_side part b).heat ≤ℤ pos (eighth (amount air_side.heat) (amount b) (amount air_side.area))
  pub from_part : neg_ℤ (element rates air_side part b).heat ≤ℤ pos (eighth (amount part.heat) (amount b) (amount part.area))
  pub vapour_heat : (VAPOUR_HEAT *ℤ (element rates air_side part b).water) ≤ℤ pos (eighth (amount part.heat) (amount b) (amount part.area))
  pub water : (element rates air_side part b).water ≤ℤ pos (eighth (amount part.mass) (amount b) (amount part.area))
  pub upward : pos 0 ≤ℤ (element rates air_side part b).water

clamp_most : (x : ℤ) (least most : ℕ) → clamp x (neg_ℤ (pos least)) (pos most) ≤ℤ pos most
clamp_most x least most = omega (arith, ints, clamps)

clamp_least : (x : ℤ) (least most : ℕ) → neg_ℤ (clamp x (neg_ℤ (pos least)) (pos most)) ≤ℤ pos least
clamp_least x least most = omega (arith, ints, clamps)

-- the heat that vapour carries off, where the water is what an eighth of the heat carries
carried : (n a : ℕ) → 3926 * (n / (8 * (3926 * a))) ≤ n / (8 * a)
carried n zero =
    let none : n / (8 * (3926 * 0)) ≡ 0 = ap (λ (d : ℕ). n / d) (let e : 8 * (3926 * 0) ≡ 0 = omega arith in e) ∙ div-zero n in
    omega (arith, none)
carried n (suc a) =
    let most : 8 * (3926 * suc a) * (n / (8 * (3926 * suc a))) ≤ n = mul-div-le n (8 * (3926 * suc a)) in
    le-div (3926 * (n / (8 * (3926 * suc a)))) n (8 * suc a) (omega arith) (omega (arith, most))

wet_heat : (rates : Rates) (part : Part) (b : ℤ) (d : ℕ) → (VAPOUR_HEAT *ℤ pos (wet_evaporation rates part b d)) ≤ℤ pos (eighth (amount part.heat) (amount b) (amount part.area))
wet_heat rates part b d =
    let less : wet_evaporation rates part b d ≤ eighth (amount part.heat) (amount b) (3926 * amount part.area) = omega arith in
    let most = carried (amount part.heat * amount b) (amount part.area) in
    omega (arith, ints, less, most)

wet_water : (rates : Rates) (part : Part) (b : ℤ) (d : ℕ) → pos (wet_evaporation rates part b d) ≤ℤ pos (eighth (amount part.mass) (amount b) (amount part.area))
wet_water rates part b d =
    let less : wet_evaporation rates part b d ≤ eighth (amount part.mass) (amount b) (amount part.area) = omega arith in
    omega (arith, ints, less)

up_heat : (kind : Kind) (rates : Rates) (part : Part) (b : ℤ) (h t : ℕ) → (VAPOUR_HEAT *ℤ pos (evaporation kind rates part b h t)) ≤ℤ pos (eighth (amount part.heat) (amount b) (amount part.area))
up_heat Ice rates part b h t = omega (arith, ints)
up_heat Land rates part b h t = wet_heat rates part b (saturation t - h)
up_heat Water rates part b h t = wet_heat rates part b (saturation t - h)

up_water : (kind : Kind) (rates : Rates) (part : Part) (b : ℤ) (h t : ℕ) → pos (evaporation kind rates part b h t) ≤ℤ pos (eighth (amount part.mass) (amount b) (amount part.area))
up_water Ice rates part b h t = omega (arith, ints)
up_water Land rates part b h t = wet_water rates part b (saturation t - h)
up_water Water rates part b h t = wet_water rates part b (saturation t - h)

pub is_eighth : (rates : Rates) (air : AirSide) (part : Part) (b : ℤ) → IsEighth rates air part b
is_eighth rates air part b =
    let over = weather rates air in
    let below = part_temperature rates part in
    let raw = raw_heat (amount rates.kh) (amount b) over.temperature below in
    record {
      from_air = clamp_most raw (eighth (amount part.heat) (amount b) (amount part.area)) (eighth (amount air.heat) (amount b) (amount air.area));
      from_part = clamp_least raw (eighth (amount part.heat) (amount b) (amount part.area)) (eighth (amount air.heat) (amount b) (amount air.area));
      vapour_heat = up_heat part.kind rates part b over.humidity below;
      water = up_water part.kind rates part b over.humidity below;
      upward = omega (arith, ints);
    }

-- ALL ELEMENTS OF A PART

-- what one gives, by the areas
by_area : (there whole b : ℕ) (g : ℤ) → g ≤ℤ pos (eighth there b whole) → (pos (8 * whole) *ℤ g) ≤ℤ (pos there *ℤ pos b)
by_area there whole b (pos n) h =
    let most : 8 * whole * (there * b / (8 * whole)) ≤ there * b = mul-div-le (there * b) (8 * whole) in
    let less : n ≤ there * b / (8 * whole) = omega (arith, ints, h) in
    let more = mul-le-mul_left (8 * whole) less in
    let l = pos-*ℤ-pos (8 * whole) n in
    let r = pos-*ℤ-pos there b in
    omega (arith, ints, l, r, most, more)
by_area there whole b (negsuc n) h =
    let l = pos-*ℤ-negsuc (8 * whole) n in
    let r = pos-*ℤ-pos there b in
    omega (arith, ints, l, r)

-- what each has is of an amount b, and gives no more than an eighth of what is there in its proportion
record GivesEighth {T : Type 0} (there whole : ℕ) (b g : T → ℤ) (x : T) : Type 0 where
  least : pos 0 ≤ℤ b x
  most : g x ≤ℤ pos (eighth there (amount (b x)) whole)

natural : (x : ℤ) → pos 0 ≤ℤ x → pos (amount x) ≡ x
natural (pos n) h = refl
natural (negsuc n) h = absurd (omega (arith, ints, h))

-- what is given for an area is no more than an eighth of what is there in its proportion
abbrev pub IsWithin : (there whole : ℕ) (b g : ℤ) → Type 0
IsWithin there whole b g = (pos (8 * whole) *ℤ g) ≤ℤ (pos there *ℤ b)

pub sum_within : {T : Type 0} (there whole : ℕ) (b g : T → ℤ) (xs : List T) → All (λ x. IsWithin there whole (b x) (g x)) xs
    → IsWithin there whole (total_of (map b xs)) (total_of (map g xs))
sum_within there whole b g [] all =
    let l = pos-*ℤ-pos (8 * whole) 0 in
    let r = pos-*ℤ-pos there 0 in
    omega (arith, ints, l, r)
sum_within there whole b g (x ∷ xs) all =
    let own = all 0 x (omega arith) in
    let rest = sum_within there whole b g xs (All-tail (λ x. IsWithin there whole (b x) (g x)) x xs all) in
    let l = spread (8 * whole) (g x) (total_of (map g xs)) in
    let r = spread there (b x) (total_of (map b xs)) in
    omega (arith, ints, own, rest, l, r)

pub one_within : (there whole : ℕ) (b g : ℤ) → pos 0 ≤ℤ b → g ≤ℤ pos (eighth there (amount b) whole) → IsWithin there whole b g
one_within there whole b g least most =
    let own = by_area there whole (amount b) g most in
    let same = ap (λ (z : ℤ). pos there *ℤ z) (natural b least) in
    omega (arith, ints, own, same)

-- on no area none gives anything
on_none : {T : Type 0} (there : ℕ) (b g : T → ℤ) (xs : List T) → All (GivesEighth there 0 b g) xs → total_of (map g xs) ≤ℤ pos 0
on_none there b g [] all = omega (arith, ints)
on_none there b g (x ∷ xs) all =
    let first = (all 0 x (omega arith)).most in
    let none : eighth there (amount (b x)) 0 ≡ 0 = div-zero (there * amount (b x)) in
    let rest = on_none there b g xs (All-tail (GivesEighth there 0 b g) x xs all) in
    omega (arith, ints, first, none, rest)

whole_most : (there whole : ℕ) (g : ℤ) → (pos (8 * suc whole) *ℤ g) ≤ℤ (pos there *ℤ pos (suc whole)) → (pos 8 *ℤ g) ≤ℤ pos there
whole_most there whole (pos n) h =
    let l = pos-*ℤ-pos (8 * suc whole) n in
    let r = pos-*ℤ-pos there (suc whole) in
    let scaled : suc whole * (8 * n) ≤ suc whole * there = omega (arith, ints, h, l, r) in
    let most : 8 * n ≤ there = le_of_mul-le-mul_left scaled (omega arith) in
    omega (arith, ints, most)
whole_most there whole (negsuc n) h = omega (arith, ints)

-- what all of an area give
pub within_whole : (there whole : ℤ) (g : ℤ) → pos 0 ≤ℤ there → pos 0 <ℤ whole → IsWithin (amount there) (amount whole) whole g → (pos 8 *ℤ g) ≤ℤ there
within_whole (pos there) (pos zero) g least some h = absurd (omega (arith, ints, some))
within_whole (pos there) (pos (suc whole)) g least some h = whole_most there whole g h
within_whole (negsuc there) whole g least some h = absurd (omega (arith, ints, least))
within_whole there (negsuc whole) g least some h = absurd (omega (arith, ints, some))

-- together they give no more than an eighth of what is there
pub together : {T : Type 0} (there whole : ℤ) (b g : T → ℤ) (xs : List T) → pos 0 ≤ℤ there → pos 0 ≤ℤ whole
    → All (λ x. pos 0 ≤ℤ b x) xs → All (λ x. g x ≤ℤ pos (eighth (amount there) (amount (b x)) (amount whole))) xs → total_of (map b xs) ≡ whole
    → (pos 8 *ℤ total_of (map g xs)) ≤ℤ there
together (pos there) (pos zero) b g xs some area least most sum =
    let h = on_none there b g xs (λ k d l. record { least = least k d l; most = most k d l }) in
    omega (arith, ints, h)
together (pos there) (pos (suc whole)) b g xs some area least most sum =
    let h = sum_within there (suc whole) b g xs (λ k d l. one_within there (suc whole) (b (get_or xs k d)) (g (get_or xs k d)) (least k d l) (most k d l)) in
    let e = ap (λ (z : ℤ). pos there *ℤ z) sum in
    whole_most there whole (total_of (map g xs)) (omega (arith, ints, h, e))
together (negsuc there) whole b g xs some area least most sum = absurd (omega (arith, ints, some))
together there (negsuc whole) b g xs some area least most sum = absurd (omega (arith, ints, area))
