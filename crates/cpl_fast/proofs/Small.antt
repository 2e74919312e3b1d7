-- Sums of numbers of 64 bits in 128.
use Rattle.std.proofs.Common.{◌≡◌, ◌∙◌, sym, ap, subst, ℕ, suc, ◌+◌, ◌*◌, ◌^◌, ◌≤◌, arith, add-one, to_z, of_z, FitsSigned}
use Rattle.std.specs.Int.{w128}
use Rattle.std.proofs.Math.Nat.{mul-le-mul_left}
use Rattle.std.proofs.Math.IntN.{pos-*ℤ-negsuc}
use Rattle.std.specs.Prelude.{ℤ, pos, negsuc, ◌+ℤ◌, ◌-ℤ◌, ◌*ℤ◌}
use Rattle.std.proofs.lemmas.Int.{ints}
use Rattle.std.proofs.Common.{List, length, map}
use Rattle.std.proofs.lemmas.List.{get_or-map, length-map}
use Rattle.cpl_fixed.specs.Amounts.{at}
use Rattle.cpl_fixed.specs.Totals.{total_of}
use Rattle.cpl_xgrid.specs.declared.parts.XRef.{XRef}
use Rattle.cpl_xgrid.specs.declared.parts.Surface.TheVariants.{Land}
use Rattle.cpl_diffusion.proofs.Sums.{sum_to, sum_to-same, total_of-sum_to}
use Rattle.cpl_fast.specs.declared.flows.Flow.{Flow}
use Rattle.cpl_fast.specs.declared.sums.Sums.{Sums}
use Rattle.cpl_fast.specs.Sums.{AreSmall, IsSmall, IsSmallTaken, SumsAre, joined, net_heat, of_flow, ref_at, taken, with_rain}
use Rattle.cpl_fast.specs.declared.sums.Taken.{Taken}

-- a number, as it was passed
abbrev pub passed : ℤ → ℤ
passed x = to_z w128 (of_z w128 x)

pub plus_passed : (x y : ℤ) → IsSmall (2 ^ 30) x → IsSmall (2 ^ 30) y → passed (passed x +ℤ passed y) ≡ x +ℤ y
plus_passed x y a b = let p = a.0 in let q = a.1 in let r = b.0 in let s = b.1 in omega (arith, ints)

pub plus_small : (m n : ℕ) (x y : ℤ) → IsSmall m x → IsSmall n y → IsSmall (m + n) (x +ℤ y)
plus_small m n x y a b = let p = a.0 in let q = a.1 in let r = b.0 in let s = b.1 in (omega (arith, ints), omega (arith, ints))

pub joined_small : (m n : ℕ) (a b : Sums) → AreSmall m a → AreSmall n b → AreSmall (m + n) (joined a b)
joined_small m n a b s t = record {
  heat = plus_small m n a.heat b.heat s.heat t.heat;
  water = plus_small m n a.water b.water s.water t.water;
  sun = plus_small m n a.sun b.sun s.sun t.sun;
  rain = plus_small m n a.rain b.rain s.rain t.rain;
}

more_small : (m n : ℕ) (x : ℤ) → m ≤ n → IsSmall m x → IsSmall n x
more_small m n x le a = let p = a.0 in let q = a.1 in (omega (arith, ints), omega (arith, ints))

pub smaller : (m n : ℕ) (a : Sums) → m ≤ n → AreSmall m a → AreSmall n a
smaller m n a le s = record {
  heat = more_small m n a.heat le s.heat;
  water = more_small m n a.water le s.water;
  sun = more_small m n a.sun le s.sun;
  rain = more_small m n a.rain le s.rain;
}

-- the same totals of each number
pub totals_same : (sums : Sums) (t u : (Flow → ℤ) → ℤ) → ((number : Flow → ℤ) → t number ≡ u number) → SumsAre sums t → SumsAre sums u
totals_same sums t u e a = record {
  heat = a.heat ∙ e (λ (flow : Flow). flow.heat);
  water = a.water ∙ e (λ (flow : Flow). flow.water);
  sun = a.sun ∙ e (λ (flow : Flow). flow.sun);
  rain = a.rain ∙ e (λ (flow : Flow). flow.rain);
}

-- further totals
pub totals_joined : (a b : Sums) (t u : (Flow → ℤ) → ℤ) → SumsAre a t → SumsAre b u → SumsAre (joined a b) (λ number. t number +ℤ u number)
totals_joined a b t u s v = record {
  heat = λ i. s.heat i +ℤ v.heat i;
  water = λ i. s.water i +ℤ v.water i;
  sun = λ i. s.sun i +ℤ v.sun i;
  rain = λ i. s.rain i +ℤ v.rain i;
}

pub totals_of_flow : (flow : Flow) → SumsAre (of_flow flow) (λ number. number flow)
totals_of_flow flow = record { heat = λ i. flow.heat; water = λ i. flow.water; sun = λ i. flow.sun; rain = λ i. flow.rain }

-- one further item of sums below a bound
pub sum_to_more : (f : ℕ → ℤ) (n : ℕ) → sum_to f (n + 1) ≡ sum_to f n +ℤ f n
sum_to_more f n = ap (sum_to f) (add-one n)

pub totals_more : (sums other new : Sums) (f : (Flow → ℤ) → ℕ → ℤ) (u : (Flow → ℤ) → ℤ) (n : ℕ) → new ≡ joined sums other → SumsAre sums (λ number. sum_to (f number) n) → SumsAre other u
    → ((number : Flow → ℤ) → u number ≡ f number n) → SumsAre new (λ number. sum_to (f number) (n + 1))
totals_more sums other new f u n is s o e =
    let both = totals_joined sums other (λ number. sum_to (f number) n) (λ number. f number n) s (totals_same other u (λ number. f number n) e o) in
    let more = totals_same (joined sums other) (λ number. sum_to (f number) n +ℤ f number n) (λ number. sum_to (f number) (n + 1)) (λ number. sym (sum_to_more (f number) n)) both in
    subst (λ (a : Sums). SumsAre a (λ number. sum_to (f number) (n + 1))) (sym is) more

-- a total over exchange cells, as a sum below their count
pub total_refs : (g : XRef → ℤ) (refs : List XRef) → sum_to (λ j. g (ref_at refs j)) (length refs) ≡ total_of (map g refs)
total_refs g refs =
    sum_to-same (λ j. g (ref_at refs j)) (at (map g refs)) (length refs) (λ j l. sym (get_or-map g refs j (record { list = Land; row = 0 }) (pos 0) l))
    ∙ sym (ap (sum_to (at (map g refs))) (length-map refs g))
    ∙ sym (total_of-sum_to (map g refs))

-- NUMBERS IN 128 BITS

pub passed_small : (x : ℤ) → IsSmall (2 ^ 60) x → passed x ≡ x
passed_small x a = let p = a.0 in let q = a.1 in omega (arith, ints)

pub fits_small : (x : ℤ) → IsSmall (2 ^ 60) x → FitsSigned w128 x
fits_small (pos n) a = let q = a.1 in record { sfits = omega (arith, ints, q) }
fits_small (negsuc n) a = let q = a.0 in record { sfits = omega (arith, ints, q) }

pub wider : (m n : ℕ) (x : ℤ) → m ≤ n → IsSmall m x → IsSmall n x
wider m n x le a = more_small m n x le a

pub times_small : (k n : ℕ) (x : ℤ) → IsSmall n x → IsSmall (k * n) (pos k *ℤ x)
times_small k n (pos x) a =
    let q = a.1 in
    let le : x ≤ n * 2 ^ 63 = omega (arith, ints, q) in
    let more = mul-le-mul_left k le in
    (omega (arith, ints), omega (arith, ints, more))
times_small k n (negsuc x) a =
    let q = a.0 in
    let le : suc x ≤ n * 2 ^ 63 = omega (arith, ints, q) in
    let more = mul-le-mul_left k le in
    let e = pos-*ℤ-negsuc k x in
    (omega (arith, ints, more, e), omega (arith, ints, e))

pub minus_small : (m n : ℕ) (x y : ℤ) → IsSmall m x → IsSmall n y → IsSmall (m + n) (x -ℤ y)
minus_small m n x y a b = let p = a.0 in let q = a.1 in let r = b.0 in let s = b.1 in (omega (arith, ints), omega (arith, ints))

-- a factor times a number
pub product_is : (k : ℕ) (v x : ℤ) → v ≡ pos k → k ≤ 2 ^ 20 → IsSmall (2 ^ 30) x → passed v *ℤ passed x ≡ pos k *ℤ x
product_is k v x e le a =
    let p = a.0 in let q = a.1 in
    let v_is : passed v ≡ pos k = omega (arith, ints) in
    let x_is : passed x ≡ x = omega (arith, ints) in
    λ i. v_is i *ℤ x_is i

-- it stays small
pub scaled : (k : ℕ) (v x : ℤ) → v ≡ pos k → k ≤ 2 ^ 12 → IsSmall (2 ^ 30) x → passed (passed v *ℤ passed x) ≡ pos k *ℤ x
scaled k v x e le a =
    let times : k * 2 ^ 30 ≤ 2 ^ 42 = omega arith in
    ap passed (product_is k v x e (omega arith) a) ∙ passed_small (pos k *ℤ x) (wider (k * 2 ^ 30) (2 ^ 60) (pos k *ℤ x) (omega arith) (times_small k (2 ^ 30) x a))

pub scaled_small : (k : ℕ) (x : ℤ) → k ≤ 2 ^ 12 → IsSmall (2 ^ 30) x → IsSmall (2 ^ 42) (pos k *ℤ x)
scaled_small k x le a = wider (k * 2 ^ 30) (2 ^ 42) (pos k *ℤ x) (omega arith) (times_small k (2 ^ 30) x a)

-- sums and differences of numbers that are small enough
plus_wide : (x y : ℤ) → IsSmall (2 ^ 46) x → IsSmall (2 ^ 46) y → passed (passed x +ℤ y) ≡ x +ℤ y
plus_wide x y a b = let p = a.0 in let q = a.1 in let r = b.0 in let s = b.1 in omega (arith, ints)

minus_wide : (x y : ℤ) → IsSmall (2 ^ 46) x → IsSmall (2 ^ 46) y → passed (passed x -ℤ y) ≡ x -ℤ y
minus_wide x y a b = let p = a.0 in let q = a.1 in let r = b.0 in let s = b.1 in omega (arith, ints)

-- the heat that flows to the surface, less that of the vapour, in 128 bits
pub net_passed : (q e v : ℤ) → IsSmall (2 ^ 30) q → IsSmall (2 ^ 30) e → v ≡ pos 3_926 → passed (passed q -ℤ passed (passed v *ℤ passed e)) ≡ q -ℤ (pos 3_926 *ℤ e)
net_passed q e v a b is =
    (λ i. passed (passed q -ℤ scaled 3_926 v e is (omega arith) b i))
    ∙ minus_wide q (pos 3_926 *ℤ e) (wider (2 ^ 30) (2 ^ 46) q (omega arith) a) (wider (2 ^ 42) (2 ^ 46) (pos 3_926 *ℤ e) (omega arith) (scaled_small 3_926 e (omega arith) b))

pub net_small : (q e : ℤ) → IsSmall (2 ^ 30) q → IsSmall (2 ^ 30) e → IsSmall (2 ^ 43) (q -ℤ (pos 3_926 *ℤ e))
net_small q e a b = wider (2 ^ 30 + 2 ^ 42) (2 ^ 43) (q -ℤ (pos 3_926 *ℤ e)) (omega arith) (minus_small (2 ^ 30) (2 ^ 42) q (pos 3_926 *ℤ e) a (scaled_small 3_926 e (omega arith) b))

-- heat with that of rain, in 128 bits
pub rain_passed : (h r w : ℤ) → IsSmall (2 ^ 44) h → IsSmall (2 ^ 30) r → w ≡ pos 1_426 → passed (passed h +ℤ passed (passed w *ℤ passed r)) ≡ h +ℤ (pos 1_426 *ℤ r)
rain_passed h r w a b is =
    (λ i. passed (passed h +ℤ scaled 1_426 w r is (omega arith) b i))
    ∙ plus_wide h (pos 1_426 *ℤ r) (wider (2 ^ 44) (2 ^ 46) h (omega arith) a) (wider (2 ^ 42) (2 ^ 46) (pos 1_426 *ℤ r) (omega arith) (scaled_small 1_426 r (omega arith) b))

pub rain_small : (n : ℕ) (h r : ℤ) → IsSmall n h → IsSmall (2 ^ 30) r → IsSmall (n + 2 ^ 42) (h +ℤ (pos 1_426 *ℤ r))
rain_small n h r a b = plus_small n (2 ^ 42) h (pos 1_426 *ℤ r) a (scaled_small 1_426 r (omega arith) b)

pub water_passed : (r e : ℤ) → IsSmall (2 ^ 30) r → IsSmall (2 ^ 30) e → passed (passed r -ℤ passed e) ≡ r -ℤ e
water_passed r e a b = let p = a.0 in let q = a.1 in let s = b.0 in let t = b.1 in omega (arith, ints)

pub water_more : (x r : ℤ) → IsSmall (2 ^ 44) x → IsSmall (2 ^ 30) r → passed (passed x +ℤ passed r) ≡ x +ℤ r
water_more x r a b = let p = a.0 in let q = a.1 in let s = b.0 in let t = b.1 in omega (arith, ints)

pub wide_sum : (x y : ℤ) → IsSmall (2 ^ 63) x → IsSmall (2 ^ 46) y → passed (passed x +ℤ passed y) ≡ x +ℤ y
wide_sum x y a b = let p = a.0 in let q = a.1 in let r = b.0 in let s = b.1 in omega (arith, ints)

-- what is taken stays small
pub taken_small : (sums : Sums) → AreSmall (2 ^ 30) sums → IsSmallTaken (3 * 2 ^ 42) (taken sums)
taken_small s small = record {
  heat = wider (2 ^ 43 + 2 ^ 42) (3 * 2 ^ 42) (net_heat s +ℤ (pos 1_426 *ℤ s.rain)) (omega arith) (rain_small (2 ^ 43) (net_heat s) s.rain (net_small s.heat s.water small.heat small.water) small.rain);
  water = wider (2 ^ 30 + 2 ^ 30) (3 * 2 ^ 42) (s.rain -ℤ s.water) (omega arith) (minus_small (2 ^ 30) (2 ^ 30) s.rain s.water small.rain small.water);
}

pub rained_small : (t : Taken) (rain : ℤ) → IsSmallTaken (3 * 2 ^ 42) t → IsSmall (2 ^ 30) rain → IsSmallTaken (2 ^ 44) (with_rain t rain)
rained_small t rain small r = record {
  heat = wider (3 * 2 ^ 42 + 2 ^ 42) (2 ^ 44) (t.heat +ℤ (pos 1_426 *ℤ rain)) (omega arith) (rain_small (3 * 2 ^ 42) t.heat rain small.heat r);
  water = wider (3 * 2 ^ 42 + 2 ^ 30) (2 ^ 44) (t.water +ℤ rain) (omega arith) (plus_small (3 * 2 ^ 42) (2 ^ 30) t.water rain small.water r);
}

pub taken_smaller : (m n : ℕ) (t : Taken) → m ≤ n → IsSmallTaken m t → IsSmallTaken n t
taken_smaller m n t le s = record { heat = wider m n t.heat le s.heat; water = wider m n t.water le s.water }

-- the sum of two numbers in 128 bits
pub sum_passed : (x y : ℤ) → IsSmall (2 ^ 30) x → IsSmall (2 ^ 30) y → passed x +ℤ passed y ≡ x +ℤ y
sum_passed x y a b =
    λ i. passed_small x (wider (2 ^ 30) (2 ^ 60) x (omega arith) a) i +ℤ passed_small y (wider (2 ^ 30) (2 ^ 60) y (omega arith) b) i

pub sum_fits : (x y : ℤ) → IsSmall (2 ^ 30) x → IsSmall (2 ^ 30) y → FitsSigned w128 (passed x +ℤ passed y)
sum_fits x y a b =
    subst (FitsSigned w128) (sym (sum_passed x y a b)) (fits_small (x +ℤ y) (wider (2 ^ 30 + 2 ^ 30) (2 ^ 60) (x +ℤ y) (omega arith) (plus_small (2 ^ 30) (2 ^ 30) x y a b)))
