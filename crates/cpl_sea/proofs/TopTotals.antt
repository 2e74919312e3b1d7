-- What the ocean adds when a coupling step begins, and what it cuts off when it ends: totals, and that it stays lawful.
use Rattle.std.proofs.Common.{◌≡◌, ◌∙◌, refl, sym, ap, subst, ℕ, zero, suc, ◌+◌, ◌-◌, ◌*◌, ◌<◌, ◌≤◌, arith, List, ◌++◌, map, drop, length, get_or}
use Rattle.std.specs.Prelude.{ℤ, pos, ◌+ℤ◌, ◌≤ℤ◌}
use Rattle.std.specs.List.{flat_map, range_with_len}
use Rattle.std.proofs.lemmas.Int.{ints}
use Rattle.std.proofs.Math.Nat.{mul-le-mul_left}
use Rattle.std.proofs.lemmas.List.{length-append, length-drop, get_or_append_left, get_or-append-add, get_or-append_right, get_or-drop}
use Rattle.std.proofs.lemmas.List.Elements.{All-append, All-drop, All-map}
use Rattle.std.proofs.lemmas.List.FromFn.{length-map-range_with_len, get_or-map-range_with_len, get_or-range_with_len, length-range_with_len}
use Rattle.cpl_fixed.specs.Amounts.{at}
use Rattle.cpl_fixed.specs.Totals.{total_of}
use Rattle.cpl_fixed.specs.declared.limits.TheConstants.{MOST_TOTAL}
use Rattle.cpl_mosaic.specs.declared.mosaic.Mesh.{Mesh}
use Rattle.cpl_transport.specs.Cuts.{uncut}
use Rattle.cpl_transport.specs.Salts.{IsSalty}
use Rattle.cpl_transport.proofs.Frazil.{cut_flight, uncut_salty, cut_water, cut_heat, cut_salt}
use Rattle.cpl_state.specs.Diffusion.{AreAmounts, cell_count}
use Rattle.cpl_state.specs.Transport.{Sea, cell_in}
use Rattle.cpl_state.specs.Cut.{with_flight, cut_at, cut_off, after_cut, to_ice_numbers}
use Rattle.cpl_diffusion.proofs.Sums.{sum_to, sum_to-same, sum_to-add, sum_to-least, sum_to-split, total_of-sum_to}
use Rattle.cpl_diffusion.proofs.Conserved.{amount_at}
use Rattle.cpl_sea.specs.Seas.{IsSea}

-- ANOTHER TOP LAYER

-- a list whose first numbers are given anew
abbrev pub new_top : (count : ℕ) → (ℕ → ℤ) → List ℤ → List ℤ
new_top count f xs = map f (range_with_len 0 count) ++ drop count xs

module _ (count : ℕ) (f : ℕ → ℤ) (xs : List ℤ) (within : count ≤ length xs) where
  top_long : length (map f (range_with_len 0 count)) ≡ count
  top_long = length-map-range_with_len f 0 count

  pub new_top_length : length (new_top count f xs) ≡ length xs
  new_top_length =
      let both = length-append (map f (range_with_len 0 count)) (drop count xs) in
      let rest = length-drop count xs in
      let own = top_long in
      omega arith

  pub in_top : (n : ℕ) → n < count → at (new_top count f xs) n ≡ f n
  in_top n l =
      let own = top_long in
      get_or_append_left (map f (range_with_len 0 count)) (drop count xs) (pos 0) n (omega arith) ∙ get_or-map-range_with_len f 0 count n n (pos 0) l (omega arith)

  pub below_top : (i : ℕ) → count ≤ i → at (new_top count f xs) i ≡ at xs i
  below_top i l =
      let e : count + (i - count) ≡ i = omega arith in
      get_or-append_right (map f (range_with_len 0 count)) (drop count xs) count i (pos 0) top_long l
      ∙ get_or-drop count xs (i - count) (pos 0) ∙ ap (at xs) e

  -- the total changes by the top
  pub new_top_total : total_of (new_top count f xs) +ℤ sum_to (at xs) count ≡ sum_to f count +ℤ total_of xs
  new_top_total =
      let e : length xs ≡ count + (length xs - count) = omega arith in
      let new = total_of-sum_to (new_top count f xs) ∙ ap (sum_to (at (new_top count f xs))) (new_top_length ∙ e) in
      let old = total_of-sum_to xs ∙ ap (sum_to (at xs)) e in
      let new_split = sum_to-split (at (new_top count f xs)) count (length xs - count) in
      let old_split = sum_to-split (at xs) count (length xs - count) in
      let top = sum_to-same (at (new_top count f xs)) f count in_top in
      let below = sum_to-same (λ k. at (new_top count f xs) (count + k)) (λ k. at xs (count + k)) (length xs - count) (λ k l. below_top (count + k) (omega arith)) in
      let top_sum = top in
      omega (arith, ints, new, old, new_split, old_split, top_sum, below)

  pub new_top_are : (N : ℕ) → AreAmounts N xs → ((n : ℕ) → n < count → pos 0 ≤ℤ f n) → total_of (new_top count f xs) ≤ℤ pos MOST_TOTAL → AreAmounts N (new_top count f xs)
  new_top_are N are least most = record {
    count = new_top_length ∙ are.count;
    each = All-append (λ x. pos 0 ≤ℤ x) (map f (range_with_len 0 count)) (drop count xs)
        (All-map (λ x. pos 0 ≤ℤ x) f (range_with_len 0 count) (λ k d l.
        let long = length-range_with_len 0 count in
        let here : get_or (range_with_len 0 count) k d ≡ 0 + k = get_or-range_with_len 0 count k d (omega arith) in
        let same : 0 + k ≡ k = omega arith in
        subst (λ (j : ℕ). pos 0 ≤ℤ f j) (sym (here ∙ same)) (least k (omega arith))))
        (All-drop (λ x. pos 0 ≤ℤ x) count xs are.each);
    total = most;
  }

-- A FLIGHT AS NUMBERS

-- blocks of one length, one after another
block_at : (f : ℕ → List ℤ) (w : ℕ) → ((n : ℕ) → length (f n) ≡ w) → (a count n k : ℕ) → n < count → k < w → at (flat_map f (range_with_len a count)) (n * w + k) ≡ at (f (a + n)) k
block_at f w long a zero n k l h = absurd (omega arith)
block_at f w long a (suc count) zero k l h =
    let own = long a in
    let e : 0 * w + k ≡ k = omega arith in
    let here : a ≡ a + 0 = omega arith in
    ap (at (f a ++ flat_map f (range_with_len (a + 1) count))) e
    ∙ get_or_append_left (f a) (flat_map f (range_with_len (a + 1) count)) (pos 0) k (omega arith)
    ∙ ap (λ (j : ℕ). at (f j) k) here
block_at f w long a (suc count) (suc n) k l h =
    let own = long a in
    let e : suc n * w + k ≡ length (f a) + (n * w + k) = omega arith in
    let there : a + 1 + n ≡ a + suc n = omega arith in
    ap (at (f a ++ flat_map f (range_with_len (a + 1) count))) e
    ∙ get_or-append-add (f a) (flat_map f (range_with_len (a + 1) count)) (n * w + k) (pos 0)
    ∙ block_at f w long (a + 1) count n k (omega arith) h
    ∙ ap (λ (j : ℕ). at (f j) k) there

blocks_long : (f : ℕ → List ℤ) (w : ℕ) → ((n : ℕ) → length (f n) ≡ w) → (a count : ℕ) → length (flat_map f (range_with_len a count)) ≡ w * count
blocks_long f w long a zero = omega arith
blocks_long f w long a (suc count) =
    let both = length-append (f a) (flat_map f (range_with_len (a + 1) count)) in
    let rest = blocks_long f w long (a + 1) count in
    let own = long a in
    omega arith

pub cut_number : (mesh : Mesh) (sea : Sea) (n k : ℕ) → n < cell_count mesh → k < 5 → at (cut_off mesh sea) (n * 5 + k) ≡ at (to_ice_numbers (cut_at mesh sea n)) k
unfolding cut_off
cut_number mesh sea n k l h = block_at (λ n. to_ice_numbers (cut_at mesh sea n)) 5 (λ n. refl) 0 (cell_count mesh) n k l h ∙ ap (λ (j : ℕ). at (to_ice_numbers (cut_at mesh sea j)) k) (let e : 0 + n ≡ n = omega arith in e)

pub cut_length : (mesh : Mesh) (sea : Sea) → length (cut_off mesh sea) ≡ 5 * cell_count mesh
unfolding cut_off
cut_length mesh sea = blocks_long (λ n. to_ice_numbers (cut_at mesh sea n)) 5 (λ n. refl) 0 (cell_count mesh)

-- THE OCEAN

module _ (mesh : Mesh) (layers : ℕ) (sea : Sea) (some : 1 ≤ layers) (is : IsSea mesh layers sea) where
  abbrev C : ℕ
  C = cell_count mesh

  all_layers : C ≤ layers * C
  all_layers =
      let more : C * 1 ≤ C * layers = mul-le-mul_left C some in
      omega (arith, more)

  pub long : (xs : List ℤ) → AreAmounts (layers * C) xs → C ≤ length xs
  long xs are = let all = all_layers in let count = are.count in omega arith

  -- a cell of the top
  pub top_salty : (n : ℕ) → n < C → IsSalty (cell_in mesh sea 0 n)
  top_salty n l =
      let all = all_layers in
      let e : 0 * C + n < layers * C = omega arith in
      record {
        water = amount_at (layers * C) sea.water is.water (0 * C + n) e;
        heat = amount_at (layers * C) sea.heat is.heat (0 * C + n) e;
        salt = amount_at (layers * C) sea.salt is.salt (0 * C + n) e;
      }

  top_sum : (xs : List ℤ) → sum_to (λ n. at xs (0 * C + n)) C ≡ sum_to (at xs) C
  top_sum xs = sum_to-same (λ n. at xs (0 * C + n)) (at xs) C (λ n l. ap (at xs) (let e : 0 * C + n ≡ n = omega arith in e))

  -- WHAT IS ADDED

  module _ (to_ocean : List ℤ) where
    flown_total : (xs : List ℤ) → AreAmounts (layers * C) xs → (k : ℕ → ℕ) → total_of (new_top C (λ n. at xs (0 * C + n) +ℤ at to_ocean (k n)) xs) ≡ total_of xs +ℤ sum_to (λ n. at to_ocean (k n)) C
    flown_total xs are k =
        let f = λ (n : ℕ). at xs (0 * C + n) +ℤ at to_ocean (k n) in
        let new = new_top_total C f xs (long xs are) in
        let add = sum_to-add (λ n. at xs (0 * C + n)) (λ n. at to_ocean (k n)) C in
        let top = top_sum xs in
        omega (arith, ints, new, add, top)

    pub flown_water : total_of (with_flight mesh sea to_ocean).water ≡ total_of sea.water +ℤ sum_to (λ n. at to_ocean (3 * n)) C
    unfolding with_flight
    flown_water = flown_total sea.water is.water (λ n. 3 * n)

    pub flown_heat : total_of (with_flight mesh sea to_ocean).heat ≡ total_of sea.heat +ℤ sum_to (λ n. at to_ocean (3 * n + 1)) C
    unfolding with_flight
    flown_heat = flown_total sea.heat is.heat (λ n. 3 * n + 1)

    pub flown_salt : total_of (with_flight mesh sea to_ocean).salt ≡ total_of sea.salt +ℤ sum_to (λ n. at to_ocean (3 * n + 2)) C
    unfolding with_flight
    flown_salt = flown_total sea.salt is.salt (λ n. 3 * n + 2)

    pub is_flown : ((i : ℕ) → pos 0 ≤ℤ at to_ocean i)
        → total_of (with_flight mesh sea to_ocean).water ≤ℤ pos MOST_TOTAL → total_of (with_flight mesh sea to_ocean).heat ≤ℤ pos MOST_TOTAL → total_of (with_flight mesh sea to_ocean).salt ≤ℤ pos MOST_TOTAL
        → IsSea mesh layers (with_flight mesh sea to_ocean)
    unfolding with_flight
    is_flown least water heat salt = record {
      water = new_top_are C (λ n. at sea.water (0 * C + n) +ℤ at to_ocean (3 * n)) sea.water (long sea.water is.water) (layers * C) is.water
          (λ n l. let own = (top_salty n l).water in let more = least (3 * n) in omega (arith, ints, own.0, more)) water;
      heat = new_top_are C (λ n. at sea.heat (0 * C + n) +ℤ at to_ocean (3 * n + 1)) sea.heat (long sea.heat is.heat) (layers * C) is.heat
          (λ n l. let own = (top_salty n l).heat in let more = least (3 * n + 1) in omega (arith, ints, own.0, more)) heat;
      salt = new_top_are C (λ n. at sea.salt (0 * C + n) +ℤ at to_ocean (3 * n + 2)) sea.salt (long sea.salt is.salt) (layers * C) is.salt
          (λ n l. let own = (top_salty n l).salt in let more = least (3 * n + 2) in omega (arith, ints, own.0, more)) salt;
      faces = is.faces;
    }

  -- WHAT IS CUT OFF

  left_total : (xs : List ℤ) → AreAmounts (layers * C) xs → (f g : ℕ → ℤ) → ((n : ℕ) → at xs (0 * C + n) ≡ f n +ℤ g n) → total_of (new_top C f xs) +ℤ sum_to g C ≡ total_of xs
  left_total xs are f g parts =
      let new = new_top_total C f xs (long xs are) in
      let add = sum_to-add f g C in
      let same = sum_to-same (λ n. at xs (0 * C + n)) (λ n. f n +ℤ g n) C (λ n l. parts n) in
      let top = top_sum xs in
      omega (arith, ints, new, add, same, top)

  pub left_water : total_of (after_cut mesh sea).water +ℤ sum_to (λ n. (cut_at mesh sea n).frazil_water +ℤ (cut_at mesh sea n).skin.water) C ≡ total_of sea.water
  unfolding after_cut
  left_water = left_total sea.water is.water (λ n. (uncut (cell_in mesh sea 0 n)).water) (λ n. (cut_at mesh sea n).frazil_water +ℤ (cut_at mesh sea n).skin.water)
      (λ n. let e = cut_water (cell_in mesh sea 0 n) in omega (arith, ints, e))

  pub left_heat : total_of (after_cut mesh sea).heat +ℤ sum_to (λ n. (cut_at mesh sea n).frazil_heat +ℤ (cut_at mesh sea n).skin.heat) C ≡ total_of sea.heat
  unfolding after_cut
  left_heat = left_total sea.heat is.heat (λ n. (uncut (cell_in mesh sea 0 n)).heat) (λ n. (cut_at mesh sea n).frazil_heat +ℤ (cut_at mesh sea n).skin.heat)
      (λ n. let e = cut_heat (cell_in mesh sea 0 n) in omega (arith, ints, e))

  pub left_salt : total_of (after_cut mesh sea).salt +ℤ sum_to (λ n. (cut_at mesh sea n).skin.salt) C ≡ total_of sea.salt
  unfolding after_cut
  left_salt = left_total sea.salt is.salt (λ n. (uncut (cell_in mesh sea 0 n)).salt) (λ n. (cut_at mesh sea n).skin.salt) (λ n. cut_salt (cell_in mesh sea 0 n))

  pub is_cut : IsSea mesh layers (after_cut mesh sea)
  unfolding after_cut
  is_cut =
      let water = left_water in
      let heat = left_heat in
      let salt = left_salt in
      let flight = λ (n : ℕ) (l : n < C). cut_flight (cell_in mesh sea 0 n) (top_salty n l) in
      let some_water = sum_to-least (λ n. (cut_at mesh sea n).frazil_water +ℤ (cut_at mesh sea n).skin.water) C (λ n l. let a = (flight n l).frazil_water in let b = (flight n l).skin.water in omega (arith, ints, a.0, b.0)) in
      let some_heat = sum_to-least (λ n. (cut_at mesh sea n).frazil_heat +ℤ (cut_at mesh sea n).skin.heat) C (λ n l. let a = (flight n l).frazil_heat in let b = (flight n l).skin.heat in omega (arith, ints, a.0, b.0)) in
      let some_salt = sum_to-least (λ n. (cut_at mesh sea n).skin.salt) C (λ n l. (flight n l).skin.salt.0) in
      record {
        water = new_top_are C (λ n. (uncut (cell_in mesh sea 0 n)).water) sea.water (long sea.water is.water) (layers * C) is.water (λ n l. (uncut_salty (cell_in mesh sea 0 n) (top_salty n l)).water.0) (omega (arith, ints, water, some_water, is.water.total));
        heat = new_top_are C (λ n. (uncut (cell_in mesh sea 0 n)).heat) sea.heat (long sea.heat is.heat) (layers * C) is.heat (λ n l. (uncut_salty (cell_in mesh sea 0 n) (top_salty n l)).heat.0) (omega (arith, ints, heat, some_heat, is.heat.total));
        salt = new_top_are C (λ n. (uncut (cell_in mesh sea 0 n)).salt) sea.salt (long sea.salt is.salt) (layers * C) is.salt (λ n l. (uncut_salty (cell_in mesh sea 0 n) (top_salty n l)).salt.0) (omega (arith, ints, salt, some_salt, is.salt.total));
        faces = is.faces;
      }
