-- Columns that agree in their layers are mixed alike.
use Rattle.std.proofs.Common.{◌≡◌, ◌∙◌, sym, ap, subst, ℕ, zero, suc, ◌+◌, ◌*◌, ◌/◌, ◌%◌, ◌<◌, arith, inl, inr, List, length}
use Rattle.std.specs.Prelude.{ℤ, pos, ◌+ℤ◌, ◌-ℤ◌, All}
use Rattle.std.proofs.lemmas.Bool.{cases_lt}
use Rattle.std.proofs.lemmas.Bool.Decides.{nat_tests}
use Rattle.std.proofs.lemmas.Nat.{div-add-mod'}
use Rattle.std.proofs.lemmas.List.Elements.{All-from_get_or}
use Rattle.cpl_ice.specs.declared.parts.Salty.{Salty}
use Rattle.cpl_transport.specs.Cells.{mixed_cell}
use Rattle.cpl_transport.specs.Mixing.{exchanged, mixed, passed}
use Rattle.cpl_transport.specs.Salts.{nothing}
use Rattle.cpl_sea.specs.Passes.{salty_at}
use Rattle.cpl_sea.proofs.Kept.{of_layer}

passed_same : (mix layers : ℕ) (f g : ℕ → ℤ) → ((l : ℕ) → l < layers → f l ≡ g l) → (n : ℕ) → n < layers → passed mix layers f n ≡ passed mix layers g n
passed_same mix layers f g same n l = elim (cases_lt (n + 1) layers) [
  | inl more ↦
      let a : passed mix layers f n ≡ exchanged mix (f n) (f (n + 1)) = grind (arith, nat_tests) in
      let b : passed mix layers g n ≡ exchanged mix (g n) (g (n + 1)) = grind (arith, nat_tests) in
      a ∙ (λ i. exchanged mix (same n l i) (same (n + 1) more i)) ∙ sym b
  | inr last ↦
      let a : passed mix layers f n ≡ pos 0 = grind (arith, nat_tests) in
      let b : passed mix layers g n ≡ pos 0 = grind (arith, nat_tests) in
      a ∙ sym b
]

mixed_same : (mix layers : ℕ) (f g : ℕ → ℤ) → ((l : ℕ) → l < layers → f l ≡ g l) → (n : ℕ) → n < layers → mixed mix layers f n ≡ mixed mix layers g n
mixed_same mix layers f g same zero l =
    let here = same zero l in
    let down = passed_same mix layers f g same zero l in
    λ i. here i -ℤ down i
mixed_same mix layers f g same (suc n) l =
    let here = same (suc n) l in
    let above = passed_same mix layers f g same n (omega arith) in
    let down = passed_same mix layers f g same (suc n) l in
    λ i. here i +ℤ above i -ℤ down i

pub cells_same : (mix layers : ℕ) (f g : ℕ → Salty) → ((l : ℕ) → l < layers → f l ≡ g l) → (layer : ℕ) → layer < layers
    → ◌≡◌ {A = Salty} (mixed_cell mix layers f layer) (mixed_cell mix layers g layer)
cells_same mix layers f g same layer l =
    let water = mixed_same mix layers (λ j. (f j).water) (λ j. (g j).water) (λ j h. ap (λ (s : Salty). s.water) (same j h)) layer l in
    let heat = mixed_same mix layers (λ j. (f j).heat) (λ j. (g j).heat) (λ j h. ap (λ (s : Salty). s.heat) (same j h)) layer l in
    let salt = mixed_same mix layers (λ j. (f j).salt) (λ j. (g j).salt) (λ j h. ap (λ (s : Salty). s.salt) (same j h)) layer l in
    λ i. record { water = water i; heat = heat i; salt = salt i }

-- what holds of each cell of each layer holds of all
pub all_layers : (P : Salty → Type 0) (cells : List Salty) (layers count : ℕ) → length cells ≡ layers * count
    → ((layer n : ℕ) → layer < layers → n < count → P (salty_at cells (layer * count + n))) → All P cells
all_layers P cells layers count long each =
    All-from_get_or P cells nothing
    (λ place l.
    let within : place < layers * count = omega arith in
    let of = of_layer layers count place within in
    let e : place / count * count + place % count ≡ place = let whole = div-add-mod' place count in omega (arith, whole) in
    subst (λ k. P (salty_at cells k)) e (each (place / count) (place % count) of.0 of.1))
