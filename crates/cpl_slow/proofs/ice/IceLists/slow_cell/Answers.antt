use Rattle.std.proofs.Common.{◌≡◌, ◌∙◌, sym, subst, ap, ℕ, ◌*◌, List, [], ◌∷◌, length, arith, w64, to_z, of_z}
use Rattle.std.specs.Prelude.{ℤ}
use Rattle.std.proofs.lemmas.List.{with_items_is}
use Rattle.cpl_ice.specs.declared.parts.Salty.{Salty}
use Rattle.cpl_ice.specs.Cells.{IsSalty}
use Rattle.cpl_slow.specs.Blocks.{IsPut}
use Rattle.cpl_slow.proofs.Writes.{word}
use Rattle.cpl_slow.proofs.ice.IceLists.slow_cell.Goals as goal

-- what flies is written as it is
flown : (back it : Salty) → IsSalty back → back ≡ it → ◌≡◌ {A = List ℤ} (to_z w64 (of_z w64 back.water) ∷ to_z w64 (of_z w64 back.heat) ∷ to_z w64 (of_z w64 back.salt) ∷ []) (it.water ∷ it.heat ∷ it.salt ∷ [])
flown back it is e =
    let water = word back.water is.water.0 is.water.1 in
    let heat = word back.heat is.heat.0 is.heat.1 in
    let salt = word back.salt is.salt.0 is.salt.1 in
    (λ i. water i ∷ heat i ∷ salt i ∷ []) ∙ ap (λ (s : Salty). s.water ∷ s.heat ∷ s.salt ∷ []) e

put_along : (start : ℕ) (block block' old old' new new' : List ℤ) → block ≡ block' → old ≡ old' → new ≡ new' → IsPut start 3 block old new → IsPut start 3 block' old' new'
put_along start block block' old old' new new' e f g put =
    subst (λ (xs : List ℤ). IsPut start 3 xs old' new') e
    (subst (λ (xs : List ℤ). IsPut start 3 block xs new') f (subst (λ (xs : List ℤ). IsPut start 3 block old xs) g put))

pub returns : goal.returns
returns c =
    let any = c.slow_any-back.ensures in
    let was = c.deref_mut.ensures.value in
    record {
      parts = any.put.parts;
      ice = any.put.ice;
      heat = any.put.heat;
      to_ocean = put_along (c.args.n * 3) _ _ _ _ _ _ (flown c.slow_any-back.result _ any.amounts any.returned) (was ∙ any.put.to_ocean)
          (sym (with_items_is c.slow_any-back.new.self.to_ocean c.put.new.xs (omega (arith, c.put.ensures.count, ap length was)))) c.put.ensures;
    }
