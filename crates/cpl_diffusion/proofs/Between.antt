-- Flows between two cells, by their numbers.
use Rattle.std.proofs.Common.{◌≡◌, ◌∙◌, sym, subst, ℕ, ◌<◌, arith, List, length, to_z, of_z, w64}
use Rattle.std.specs.Prelude.{ℤ, pos, ◌-ℤ◌, All}
use Rattle.std.proofs.lemmas.Int.{ints}
use Rattle.std.proofs.lemmas.List.Elements.{All-get_or}
use Rattle.cpl_fixed.specs.Flows.{IsAirAmount, IsAirArea, flow}
use Rattle.cpl_fixed.proofs.Flows.{flow_most, flow_least, flow_turned}
use Rattle.cpl_state.specs.Diffusion.{AreAmounts, at}
use Rattle.cpl_diffusion.specs.Steps.{IsSmall, between}
use Rattle.cpl_diffusion.proofs.Conserved.{amount_at}

-- a number as the machine reads it
abbrev pub read : ℤ → ℤ
read x = to_z w64 (of_z w64 x)

read_area : (a : ℤ) → IsAirArea a → a ≡ read a
read_area a h = omega (arith, ints)

read_amount : (x : ℤ) → IsAirAmount x → x ≡ read x
read_amount x h = omega (arith, ints)

read_small : (f : ℤ) → IsSmall f → IsSmall (read f)
read_small f h = (omega (arith, ints), omega (arith, ints))

pub area_own : (area : List ℤ) → All IsAirArea area → (n : ℕ) → n < length area → read (at area n) ≡ at area n
area_own area each n l = let a : IsAirArea (at area n) = All-get_or IsAirArea area n (pos 0) l each in sym (read_area (at area n) a)

pub area_read : (area : List ℤ) → All IsAirArea area → (n : ℕ) → n < length area → IsAirArea (read (at area n))
area_read area each n l =
    let a : IsAirArea (at area n) = All-get_or IsAirArea area n (pos 0) l each in
    subst IsAirArea (read_area (at area n) a) a

pub amount_read : (cells : ℕ) (xs : List ℤ) → AreAmounts cells xs → (n : ℕ) → n < cells → IsAirAmount (read (at xs n))
amount_read cells xs are n l =
    let x = amount_at cells xs are n l in
    subst IsAirAmount (read_amount (at xs n) x) x

module _ (area : List ℤ) (each : All IsAirArea area) (xs : List ℤ) (amounts : AreAmounts (length area) xs) where
  -- what flows between two cells is at most an eighth of what one of them has
  pub between_small : (n m : ℕ) → n < length area → m < length area → IsSmall (between area xs n m)
  between_small n m l k =
      let x = amount_at (length area) xs amounts n l in
      let y = amount_at (length area) xs amounts m k in
      let a : IsAirArea (at area n) = All-get_or IsAirArea area n (pos 0) l each in
      let b : IsAirArea (at area m) = All-get_or IsAirArea area m (pos 0) k each in
      let most = flow_most (at xs n) (at area n) (at xs m) (at area m) x.0 a.0 y.0 b.0 in
      let least = flow_least (at xs n) (at area n) (at xs m) (at area m) x.0 a.0 y.0 b.0 in
      (omega (arith, ints), omega (arith, ints))

  -- what flows out of one cell flows into the other
  pub between_turned : (n m : ℕ) → n < length area → m < length area → between area xs n m ≡ pos 0 -ℤ between area xs m n
  between_turned n m l k =
      let x = amount_at (length area) xs amounts n l in
      let y = amount_at (length area) xs amounts m k in
      let a : IsAirArea (at area n) = All-get_or IsAirArea area n (pos 0) l each in
      let b : IsAirArea (at area m) = All-get_or IsAirArea area m (pos 0) k each in
      flow_turned (at xs n) (at area n) (at xs m) (at area m) x.0 (omega (arith, ints)) y.0 (omega (arith, ints))

  pub small_read : (n m : ℕ) → n < length area → m < length area → (f : ℤ) → f ≡ flow (read (at xs n)) (read (at area n)) (read (at xs m)) (read (at area m)) → IsSmall (read f)
  small_read n m l k f e =
      let x = read_amount (at xs n) (amount_at (length area) xs amounts n l) in
      let y = read_amount (at xs m) (amount_at (length area) xs amounts m k) in
      let a = read_area (at area n) (All-get_or IsAirArea area n (pos 0) l each) in
      let b = read_area (at area m) (All-get_or IsAirArea area m (pos 0) k each) in
      let own : between area xs n m ≡ f = (λ i. flow (x i) (a i) (y i) (b i)) ∙ sym e in
      read_small f (subst IsSmall own (between_small n m l k))
