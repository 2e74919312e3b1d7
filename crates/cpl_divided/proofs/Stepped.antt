-- Pieces that take a step one after another.
use Rattle.std.proofs.Common.{◌≡◌, ◌∙◌, refl, sym, ap, subst, ℕ, ◌+◌, ◌<◌, ◌≤◌, arith, inl, inr, List, [], length, slice_set, get_or-set_same, get_or-set_other}
use Rattle.std.specs.Prelude.{ℤ}
use Rattle.std.proofs.lemmas.Bool.{cases_eq}
use Rattle.std.proofs.lemmas.List.{length-set}
use Rattle.cpl_field.specs.Spots.{FieldNumbers, CellAt, IsSpot, IsSameShape}
use Rattle.cpl_field.proofs.Swept.{is_inside}
use Rattle.cpl_atmos.specs.Sweeps.{AirNumbers, Computes, IsInner, IsRim, Stores, value_at}
use Rattle.cpl_divided.specs.Fields.{field_at}
use Rattle.cpl_divided.specs.Steps.{Steps, StepsAll, area_of, KeepsAreas}

-- what interior, rim and finish do together
pub stepped : (area x new : FieldNumbers) (before inner whole : List ℤ) (last : FieldNumbers) → last ≡ area → IsSameShape area x → Computes area x (IsInner area) before inner → Computes area x (IsRim area) inner whole → Stores (record { area = last; values = whole }) x new → Steps area x new
stepped area x new before inner whole last same shape interior rim stores = record {
  shape = stores.shape;
  cells = λ i j on.
      let nx = shape.nx in
      let ny = shape.ny in
      let on_area : IsSpot area (CellAt i j) = (omega arith, omega arith) in
      let value : value_at (record { area = last; values = whole }) i j ≡ value_at (record { area = area; values = whole }) i j = ap (λ (a : FieldNumbers). value_at (record { area = a; values = whole }) i j) same in
      stores.cells i j on ∙ value ∙ elim (is_inside 1 area i j) [
        | inl is ↦ rim.others i j on_area (λ edge. edge is) ∙ interior.meant i j on_area is
        | inr edge ↦ rim.meant i j on_area edge
      ];
  holes = stores.holes;
}

-- the first p fields took their step
pub record SteppedTo (airs : List AirNumbers) (p : ℕ) (old new : List FieldNumbers) : Type 0 where
  pub count : length new ≡ length old
  pub done : (q : ℕ) → q < p → q < length old → Steps (area_of airs q) (field_at old q) (field_at new q)
  pub rest : (q : ℕ) → p ≤ q → field_at new q ≡ field_at old q

pub stepped_none : (airs : List AirNumbers) (fields : List FieldNumbers) → SteppedTo airs 0 fields fields
stepped_none airs fields = record { count = refl; done = λ q l within. absurd (omega arith); rest = λ q l. refl }

pub stepped_more : (airs : List AirNumbers) (p : ℕ) (old fields : List FieldNumbers) (new : FieldNumbers) → p < length old → SteppedTo airs p old fields → Steps (area_of airs p) (field_at old p) new → SteppedTo airs (p + 1) old (slice_set fields p new)
stepped_more airs p old fields new within before step = record {
  count = length-set fields p new ∙ before.count;
  done = λ q l inside. elim (cases_eq q p) [
    | inl e ↦
        let count = before.count in
        let here : field_at (slice_set fields p new) p ≡ new = get_or-set_same fields p new (record { nx = 0; ny = 0; width = 0; numbers = [] }) (omega arith) in
        let P : ℕ → Type 0 = λ n. Steps (area_of airs n) (field_at old n) (field_at (slice_set fields p new) n) in
        subst P (sym e) (subst (λ (f : FieldNumbers). Steps (area_of airs p) (field_at old p) f) (sym here) step)
    | inr ne ↦
        let same : field_at (slice_set fields p new) q ≡ field_at fields q = get_or-set_other fields p q new (record { nx = 0; ny = 0; width = 0; numbers = [] }) ne in
        subst (λ (f : FieldNumbers). Steps (area_of airs q) (field_at old q) f) (sym same) (before.done q (omega arith) inside)
  ];
  rest = λ q l. get_or-set_other fields p q new (record { nx = 0; ny = 0; width = 0; numbers = [] }) (λ e. absurd (omega arith)) ∙ before.rest q (omega arith);
}

pub stepped_all : (airs : List AirNumbers) (p : ℕ) (old new : List FieldNumbers) → length old ≤ p → SteppedTo airs p old new → StepsAll airs old new
stepped_all airs p old new all to = record { count = to.count; each = λ q l. to.done q (omega arith) l }

pub areas_more : (old airs : List AirNumbers) (p : ℕ) (air : AirNumbers) → p < length airs → KeepsAreas old airs → air.area ≡ area_of airs p → KeepsAreas old (slice_set airs p air)
areas_more old airs p air within keeps same = record {
  count = length-set airs p air ∙ keeps.count;
  each = λ q. elim (cases_eq q p) [
    | inl e ↦
        let P : ℕ → Type 0 = λ n. area_of (slice_set airs p air) n ≡ area_of old n in
        subst P (sym e) (ap (λ (a : AirNumbers). a.area) (get_or-set_same airs p air (record { area = record { nx = 0; ny = 0; width = 0; numbers = [] }; values = [] }) within) ∙ same ∙ keeps.each p)
    | inr ne ↦ ap (λ (a : AirNumbers). a.area) (get_or-set_other airs p q air (record { area = record { nx = 0; ny = 0; width = 0; numbers = [] }; values = [] }) ne) ∙ keeps.each q
  ];
}
