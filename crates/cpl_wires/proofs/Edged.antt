-- Whether there is an edge, as the strips of its pieces and what it carries say.
use Rattle.std.proofs.Common.{◌≡◌, ◌∙◌, sym, ap, ℕ, ◌||◌, Bool, true, false, length, Option, is_some}
use Rattle.std.specs.Prelude.{nat_lt}
use Rattle.cpl_strip.specs.declared.parts.Strip.{Strip}
use Rattle.cpl_strip.specs.declared.parts.FaceStrip.{FaceStrip}
use Rattle.cpl_wires.specs.declared.parts.Purpose.{Purpose}
use Rattle.cpl_wires.specs.declared.parts.Purpose.TheVariants.{AirHalo, OceanHalo, Sums}
use Rattle.cpl_wires.specs.Settings.{Setting}
use Rattle.cpl_wires.specs.Pairs.{some, carried, has_edge, air_halo, ocean_halo, ocean_faces}
use Rattle.cpl_wires.specs.Tables.{strip_if, face_strip_if}
use Rattle.cpl_wires.proofs.Carried.{edge_carries}
use Rattle.cpl_wires.proofs.Haloed.{some_strip, some_faces}

module _ (setting : Setting) (purpose : Purpose) (from to : ℕ) where
  -- of the air's halo
  pub air_edge : (there : Bool) (strip : Option Strip) → purpose ≡ AirHalo → strip ≡ strip_if (air_halo setting from to) → there ≡ is_some strip → there ≡ has_edge setting purpose from to
  unfolding has_edge
  air_edge there strip is same found =
      found ∙ ap is_some same ∙ some_strip (air_halo setting from to) ∙ ap (λ (p : Purpose). has_edge setting p from to) (sym is)

  -- of the ocean's halo: by its cells
  pub sea_edge : (strip : Option Strip) → purpose ≡ OceanHalo → strip ≡ strip_if (ocean_halo setting from to) → is_some strip ≡ true → true ≡ has_edge setting purpose from to
  unfolding has_edge
  sea_edge strip is same found =
      let yes : some (ocean_halo setting from to).places ≡ true = sym (some_strip (ocean_halo setting from to)) ∙ sym (ap is_some same) ∙ found in
      sym (ap (λ (p : Purpose). has_edge setting p from to) is ∙ ap (λ (b : Bool). b || some (ocean_faces setting from to).sources) yes)

  -- or by its faces
  pub face_edge : (there : Bool) (strip : Option Strip) (faces : Option FaceStrip) → purpose ≡ OceanHalo → strip ≡ strip_if (ocean_halo setting from to) → is_some strip ≡ false
      → faces ≡ face_strip_if (ocean_faces setting from to) → there ≡ is_some faces → there ≡ has_edge setting purpose from to
  unfolding has_edge
  face_edge there strip faces is same none alike found =
      let no : some (ocean_halo setting from to).places ≡ false = sym (some_strip (ocean_halo setting from to)) ∙ sym (ap is_some same) ∙ none in
      found ∙ ap is_some alike ∙ some_faces (ocean_faces setting from to)
      ∙ sym (ap (λ (p : Purpose). has_edge setting p from to) is ∙ ap (λ (b : Bool). b || some (ocean_faces setting from to).sources) no)

  -- of the sums
  pub sums_edge : purpose ≡ Sums → true ≡ has_edge setting purpose from to
  unfolding has_edge
  sums_edge is = ap (λ (p : Purpose). has_edge setting p from to) (sym is)

  -- of the others
  pub other_edge : (count : ℕ) → (purpose ≡ AirHalo → ⊥) → (purpose ≡ OceanHalo → ⊥) → (purpose ≡ Sums → ⊥) → count ≡ length (carried setting purpose from to)
      → nat_lt 0 count ≡ has_edge setting purpose from to
  other_edge count a b c is = ap (nat_lt 0) is ∙ sym (edge_carries setting purpose from to a b c)
