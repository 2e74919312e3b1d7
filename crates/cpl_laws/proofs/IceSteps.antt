-- The slow step of a cell of the ice keeps what it has: as much water and heat, parts that are the whole, and nothing below 0.
use Rattle.std.proofs.Common.{◌≡◌, ◌∙◌, refl, ap, Bool, true, false, ℕ, zero, suc, ◌+◌, ◌-◌, ◌*◌, ◌<◌, ◌≤◌, min, arith, inl, inr, List, length}
use Rattle.std.specs.Prelude.{ℤ, pos, negsuc, neg_ℤ, ◌+ℤ◌, ◌≤ℤ◌, ◌==◌, if◌then◌else◌}
use Rattle.std.proofs.lemmas.Int.{ints}
use Rattle.std.proofs.lemmas.Bool.{cases_eq}
use Rattle.std.proofs.Math.ListN.{length-set}
use Rattle.std.proofs.lemmas.List.{get_or-set_same, get_or-set_other}
use Rattle.cpl_fixed.specs.Amounts.{amount, at}
use Rattle.cpl_fixed.specs.Totals.{total_of}
use Rattle.cpl_fixed.specs.declared.limits.TheConstants.{PARTS, WATER_HEAT}
use Rattle.cpl_fixed.specs.declared.gain.Gain.{Gain}
use Rattle.cpl_fixed.specs.declared.rates.Rates.{Rates}
use Rattle.cpl_ice.specs.declared.cell.IceCell.{IceCell}
use Rattle.cpl_ice.specs.Slow.{added, moved, closed_part, frozen, is_thick, joined, ridged, melting, melting_at, emptied, thinned, melted, before_melt, slowed, returned, water_of, heat_of}
use Rattle.cpl_ice.proofs.Totals.{total_added}
use Rattle.cpl_ice.proofs.Keeps.{ridged_keeps, melted_keeps}

-- LISTS OF WHICH NO NUMBER IS NEGATIVE, AND BEHIND A PLACE ALL ARE 0

pub record IsBlock (count bound : ℕ) (xs : List ℤ) : Type 0 where
  pub long : length xs ≡ count
  pub least : (k : ℕ) → pos 0 ≤ℤ at xs k
  pub none : (k : ℕ) → bound ≤ k → at xs k ≡ pos 0

added_block : (count bound : ℕ) (xs : List ℤ) (n : ℕ) (x : ℤ) → IsBlock count bound xs → n < bound → bound ≤ count → pos 0 ≤ℤ (at xs n +ℤ x) → IsBlock count bound (added xs n x)
added_block count bound xs n x is here within least =
    let long = is.long in
    record {
      long = length-set xs n (at xs n +ℤ x) ∙ is.long;
      least = λ k. elim (cases_eq k n) [
        | inl same ↦
            let now = ap (at (added xs n x)) same ∙ get_or-set_same xs n (at xs n +ℤ x) (pos 0) (omega arith) in
            omega (arith, ints, now, least)
        | inr other ↦ let now = get_or-set_other xs n k (at xs n +ℤ x) (pos 0) other in let was = is.least k in omega (arith, ints, now, was)
      ];
      none = λ k l. get_or-set_other xs n k (at xs n +ℤ x) (pos 0) (λ e. omega arith) ∙ is.none k l;
    }

block_added : (count bound : ℕ) (xs : List ℤ) (n : ℕ) (x : ℤ) → IsBlock count bound xs → n < bound → bound ≤ count → total_of (added xs n x) ≡ total_of xs +ℤ x
block_added count bound xs n x is here within = let long = is.long in total_added xs n x (omega arith)

-- a list in which something moves from a place that has it
record IsMoved (count bound : ℕ) (xs ys : List ℤ) : Type 0 where
  block : IsBlock count bound ys
  total : total_of ys ≡ total_of xs

moved_block : (count bound : ℕ) (xs : List ℤ) (from to : ℕ) (x : ℤ) → IsBlock count bound xs → from < bound → to < bound → bound ≤ count → pos 0 ≤ℤ x → x ≤ℤ at xs from → IsMoved count bound xs (moved xs from to x)
moved_block count bound xs from to x is here there within least most =
    let first = added_block count bound xs from (neg_ℤ x) is here within (omega (arith, ints, most)) in
    let own = first.least to in
    let one = block_added count bound xs from (neg_ℤ x) is here within in
    let other = block_added count bound (added xs from (neg_ℤ x)) to x first there within in
    record {
      block = added_block count bound (added xs from (neg_ℤ x)) to x first there within (omega (arith, ints, own, least));
      total = omega (arith, ints, one, other);
    }

-- CELLS

-- a cell of so many categories: parts that are the whole, ice and heat, none below 0, and nothing behind the last category
pub record IsSound (K : ℕ) (cell : IceCell) : Type 0 where
  pub count : cell.categories ≡ K
  pub parts : IsBlock 6 (K + 1) cell.parts
  pub whole : total_of cell.parts ≡ PARTS
  pub ice : IsBlock 5 K cell.ice
  pub heat : IsBlock 5 K cell.heat

-- the same cell with as much ice and heat, or no more
record Stays (K : ℕ) (old new : IceCell) : Type 0 where
  sound : IsSound K new
  ice : total_of new.ice ≡ total_of old.ice
  heat : total_of new.heat ≡ total_of old.heat

record Lessens (K : ℕ) (old new : IceCell) : Type 0 where
  sound : IsSound K new
  ice : total_of new.ice ≤ℤ total_of old.ice
  heat : total_of new.heat ≤ℤ total_of old.heat

either : (P : IceCell → Type 0) (b : Bool) (x y : IceCell) → P x → P y → P (if b then x else y)
either P true x y h k = h
either P false x y h k = k

no_more : (a : ℤ) (y : ℕ) → pos 0 ≤ℤ a → pos (min (amount a) y) ≤ℤ a
no_more (pos n) y h = omega (arith, ints)
no_more (negsuc n) y h = absurd (omega (arith, ints, h))

-- what melts is no more than the ice, and carries no more than the heat
melts_ice : (i h : ℤ) → pos 0 ≤ℤ i → pos (melting (amount i) (amount h)) ≤ℤ i
melts_ice (pos n) h l = omega (arith, ints)
melts_ice (negsuc n) h l = absurd (omega (arith, ints, l))

melts_heat : (i h : ℤ) → pos 0 ≤ℤ i → pos 0 ≤ℤ h → pos (amount WATER_HEAT * melting (amount i) (amount h)) ≤ℤ h
melts_heat (pos i) (pos h) l m = omega (arith, ints)
melts_heat (negsuc i) h l m = absurd (omega (arith, ints, l))
melts_heat i (negsuc h) l m = absurd (omega (arith, ints, m))

module _ (rates : Rates) (K : ℕ) (some : 1 ≤ K) (few : K ≤ 5) where
  -- first, frazil
  frozen_sound : (cell : IceCell) → IsSound K cell → pos 0 ≤ℤ cell.frazil_water → pos 0 ≤ℤ cell.frazil_heat → IsSound K (frozen rates cell)
  frozen_sound cell is water heat =
      let own = is.parts.least 0 in
      let ice = is.ice.least 0 in
      let warm = is.heat.least 0 in
      let moves = moved_block 6 (K + 1) cell.parts 0 1 (closed_part rates cell) is.parts (omega arith) (omega arith) (omega arith) (omega (arith, ints)) (no_more (at cell.parts 0) _ own) in
      record {
        count = is.count;
        parts = moves.block;
        whole = moves.total ∙ is.whole;
        ice = added_block 5 K cell.ice 0 cell.frazil_water is.ice (omega arith) few (omega (arith, ints, ice, water));
        heat = added_block 5 K cell.heat 0 cell.frazil_heat is.heat (omega arith) few (omega (arith, ints, warm, heat));
      }

  -- second, ridging
  joined_stays : (cell : IceCell) (n : ℕ) → IsSound K cell → n + 1 < K → Stays K cell (joined cell n)
  joined_stays cell n is l =
      let parts = moved_block 6 (K + 1) cell.parts (n + 1) (n + 2) (at cell.parts (n + 1)) is.parts (omega arith) (omega arith) (omega arith) (is.parts.least (n + 1)) (omega (arith, ints)) in
      let ice = moved_block 5 K cell.ice n (n + 1) (at cell.ice n) is.ice (omega arith) l few (is.ice.least n) (omega (arith, ints)) in
      let heat = moved_block 5 K cell.heat n (n + 1) (at cell.heat n) is.heat (omega arith) l few (is.heat.least n) (omega (arith, ints)) in
      record {
        sound = record { count = is.count; parts = parts.block; whole = parts.total ∙ is.whole; ice = ice.block; heat = heat.block };
        ice = ice.total;
        heat = heat.total;
      }

  ridged_stays : (cell : IceCell) (n : ℕ) → IsSound K cell → n < K → Stays K cell (ridged rates cell n)
  ridged_stays cell zero is l = record { sound = is; ice = refl; heat = refl }
  ridged_stays cell (suc n) is l =
      let past = ridged_stays cell n is (omega arith) in
      let next = joined_stays (ridged rates cell n) n past.sound (omega arith) in
      either (Stays K cell) (is_thick rates (ridged rates cell n) n) (joined (ridged rates cell n) n) (ridged rates cell n)
      (record { sound = next.sound; ice = next.ice ∙ past.ice; heat = next.heat ∙ past.heat }) past

  -- third, melt
  emptied_lessens : (cell : IceCell) (n : ℕ) → IsSound K cell → n < K → Lessens K cell (emptied cell n)
  emptied_lessens cell n is l =
      let parts = moved_block 6 (K + 1) cell.parts (n + 1) 0 (at cell.parts (n + 1)) is.parts (omega arith) (omega arith) (omega arith) (is.parts.least (n + 1)) (omega (arith, ints)) in
      let ice = is.ice.least n in
      let heat = is.heat.least n in
      let less_ice = block_added 5 K cell.ice n (neg_ℤ (at cell.ice n)) is.ice l few in
      let less_heat = block_added 5 K cell.heat n (neg_ℤ (at cell.heat n)) is.heat l few in
      record {
        sound = record {
          count = is.count;
          parts = parts.block;
          whole = parts.total ∙ is.whole;
          ice = added_block 5 K cell.ice n (neg_ℤ (at cell.ice n)) is.ice l few (omega (arith, ints));
          heat = added_block 5 K cell.heat n (neg_ℤ (at cell.heat n)) is.heat l few (omega (arith, ints));
        };
        ice = omega (arith, ints, less_ice, ice);
        heat = omega (arith, ints, less_heat, heat);
      }

  thinned_lessens : (cell : IceCell) (n : ℕ) → IsSound K cell → n < K → Lessens K cell (thinned cell n)
  thinned_lessens cell n is l =
      let ice = is.ice.least n in
      let heat = is.heat.least n in
      let most = melts_ice (at cell.ice n) (at cell.heat n) ice in
      let carried = melts_heat (at cell.ice n) (at cell.heat n) ice heat in
      let less_ice = block_added 5 K cell.ice n (neg_ℤ (pos (melting_at cell n))) is.ice l few in
      let less_heat = block_added 5 K cell.heat n (neg_ℤ (pos (amount WATER_HEAT * melting_at cell n))) is.heat l few in
      record {
        sound = record {
          count = is.count;
          parts = is.parts;
          whole = is.whole;
          ice = added_block 5 K cell.ice n (neg_ℤ (pos (melting_at cell n))) is.ice l few (omega (arith, ints, most));
          heat = added_block 5 K cell.heat n (neg_ℤ (pos (amount WATER_HEAT * melting_at cell n))) is.heat l few (omega (arith, ints, carried));
        };
        ice = omega (arith, ints, less_ice);
        heat = omega (arith, ints, less_heat);
      }

  melted_lessens : (cell : IceCell) (n : ℕ) → IsSound K cell → n ≤ K → Lessens K cell (melted cell n)
  melted_lessens cell zero is l = record { sound = is; ice = omega (arith, ints); heat = omega (arith, ints) }
  melted_lessens cell (suc n) is l =
      let past = melted_lessens cell n is (omega arith) in
      let all = emptied_lessens (melted cell n) n past.sound l in
      let some = thinned_lessens (melted cell n) n past.sound l in
      either (Lessens K cell) (melting_at (melted cell n) n == amount (at (melted cell n).ice n)) (emptied (melted cell n) n) (thinned (melted cell n) n)
      (record { sound = all.sound; ice = omega (arith, ints, past.ice, all.ice); heat = omega (arith, ints, past.heat, all.heat) })
      (record { sound = some.sound; ice = omega (arith, ints, past.ice, some.ice); heat = omega (arith, ints, past.heat, some.heat) })

  -- ALL OF IT

  -- The slow step of a cell keeps it sound, and uses up its frazil. With the runoff that arrives, as much water, heat and salt is in
  -- the cell and in what it gives back as was in the cell; and it gives back nothing below 0.
  pub record IsSlowed (cell : IceCell) (runoff : Gain) : Type 0 where
    pub sound : IsSound K (slowed rates cell)
    pub no_frazil_water : (slowed rates cell).frazil_water ≡ pos 0
    pub no_frazil_heat : (slowed rates cell).frazil_heat ≡ pos 0
    pub water : water_of cell +ℤ runoff.water ≡ total_of (slowed rates cell).ice +ℤ (returned rates cell runoff).water
    pub heat : heat_of cell +ℤ runoff.heat ≡ total_of (slowed rates cell).heat +ℤ (returned rates cell runoff).heat
    pub water_least : pos 0 ≤ℤ (returned rates cell runoff).water
    pub heat_least : pos 0 ≤ℤ (returned rates cell runoff).heat

  pub is_slowed : (cell : IceCell) (runoff : Gain) → IsSound K cell
      → pos 0 ≤ℤ cell.frazil_water → pos 0 ≤ℤ cell.frazil_heat → pos 0 ≤ℤ cell.skin.water → pos 0 ≤ℤ cell.skin.heat → pos 0 ≤ℤ runoff.water → pos 0 ≤ℤ runoff.heat
      → IsSlowed cell runoff
  is_slowed cell runoff is frazil frazil_heat skin skin_heat run run_heat =
      let one = frozen_sound cell is frazil frazil_heat in
      let count = is.count in
      let two = ridged_stays (frozen rates cell) (cell.categories - 1) one (omega arith) in
      let three = melted_lessens (before_melt rates cell) cell.categories two.sound (omega arith) in
      let ice = block_added 5 K cell.ice 0 cell.frazil_water is.ice (omega arith) few in
      let heat = block_added 5 K cell.heat 0 cell.frazil_heat is.heat (omega arith) few in
      let ridging = ridged_keeps rates (frozen rates cell) (cell.categories - 1) in
      let melting_keeps = melted_keeps (before_melt rates cell) cell.categories in
      record {
        sound = record { count = three.sound.count; parts = three.sound.parts; whole = three.sound.whole; ice = three.sound.ice; heat = three.sound.heat };
        no_frazil_water = melting_keeps.frazil_water ∙ ridging.frazil_water;
        no_frazil_heat = melting_keeps.frazil_heat ∙ ridging.frazil_heat;
        water = omega (arith, ints, ice, two.ice);
        heat = omega (arith, ints, heat, two.heat);
        water_least = omega (arith, ints, skin, three.ice, run);
        heat_least = omega (arith, ints, skin_heat, three.heat, run_heat);
      }
