-- Which cell a number is of, from one number to the next.
use Rattle.std.proofs.Common.{◌≡◌, ℕ, ◌+◌, ◌*◌, ◌/◌, ◌%◌, ◌<◌, ◌≤◌, ap, sym, ◌∙◌, arith}
use Rattle.std.proofs.lemmas.Nat.{mod-mul-add, div-mul-add}
use Rattle.std.proofs.Math.Nat.{mul_comm, div-add-mod}
use Rattle.cpl_restart.specs.Lawful.{spot_at}
use Rattle.cpl_restart.specs.declared.lawful.Spot.{Spot}

pub div_is : (n w q r : ℕ) → r < w → n ≡ q * w + r → n / w ≡ q
div_is n w q r lt e = ap (λ (m : ℕ). m / w) e ∙ div-mul-add q w r lt

pub mod_is : (n w q r : ℕ) → r < w → n ≡ q * w + r → n % w ≡ r
mod_is n w q r lt e = ap (λ (m : ℕ). m % w) e ∙ mod-mul-add q w r lt

pub split : (n w : ℕ) → n ≡ (n / w) * w + n % w
split n w = omega (arith, div-add-mod n w, mul_comm (n / w) w)

one_more : (q w : ℕ) → (q + 1) * w ≡ q * w + w
one_more q w = omega arith

-- the next number is of the same cell, or the first of the next
mod_within : (n w : ℕ) → n % w + 1 < w → (n + 1) % w ≡ n % w + 1
mod_within n w lt = mod_is (n + 1) w (n / w) (n % w + 1) lt (omega (arith, split n w))

div_within : (n w : ℕ) → n % w + 1 < w → (n + 1) / w ≡ n / w
div_within n w lt = div_is (n + 1) w (n / w) (n % w + 1) lt (omega (arith, split n w))

mod_past : (n w : ℕ) → n % w + 1 ≡ w → (n + 1) % w ≡ 0
mod_past n w is = mod_is (n + 1) w (n / w + 1) 0 (omega arith) (omega (arith, split n w, one_more (n / w) w))

div_past : (n w : ℕ) → n % w + 1 ≡ w → (n + 1) / w ≡ n / w + 1
div_past n w is = div_is (n + 1) w (n / w + 1) 0 (omega arith) (omega (arith, split n w, one_more (n / w) w))

abbrev spot : ℕ → ℕ → Spot
spot cell within = record { cell = cell; within = within }

pub same_cell : (width cells place : ℕ) (it : Spot) → it ≡ spot_at width cells place → it.within + 1 < width → spot it.cell (it.within + 1) ≡ spot_at width cells (place + 1)
same_cell width cells place it is lt =
    let cell : it.cell ≡ place / width % cells = ap (λ (s : Spot). s.cell) is in
    let within : it.within ≡ place % width = ap (λ (s : Spot). s.within) is in
    let more : place % width + 1 < width = omega arith in
    let d = div_within place width more in
    let m = mod_within place width more in
    let q : (place + 1) / width % cells ≡ it.cell = ap (λ (n : ℕ). n % cells) d ∙ sym cell in
    let r : (place + 1) % width ≡ it.within + 1 = m ∙ ap (λ (n : ℕ). n + 1) (sym within) in
    sym (ap (λ (n : ℕ). spot n ((place + 1) % width)) q ∙ ap (spot it.cell) r)

pub next_cell : (width cells place : ℕ) (it : Spot) → it ≡ spot_at width cells place → it.within < width → width ≤ it.within + 1 → it.cell + 1 < cells → spot (it.cell + 1) 0 ≡ spot_at width cells (place + 1)
next_cell width cells place it is lt le more =
    let cell : it.cell ≡ place / width % cells = ap (λ (s : Spot). s.cell) is in
    let within : it.within ≡ place % width = ap (λ (s : Spot). s.within) is in
    let last : place % width + 1 ≡ width = omega arith in
    let room : place / width % cells + 1 < cells = omega arith in
    let q : (place + 1) / width % cells ≡ it.cell + 1 = ap (λ (n : ℕ). n % cells) (div_past place width last) ∙ mod_within (place / width) cells room ∙ ap (λ (n : ℕ). n + 1) (sym cell) in
    let r : (place + 1) % width ≡ 0 = mod_past place width last in
    sym (ap (λ (n : ℕ). spot n ((place + 1) % width)) q ∙ ap (spot (it.cell + 1)) r)

pub first_cell : (width cells place : ℕ) (it : Spot) → it ≡ spot_at width cells place → it.within < width → width ≤ it.within + 1 → it.cell < cells → cells ≤ it.cell + 1 → spot 0 0 ≡ spot_at width cells (place + 1)
first_cell width cells place it is lt le below more =
    let cell : it.cell ≡ place / width % cells = ap (λ (s : Spot). s.cell) is in
    let within : it.within ≡ place % width = ap (λ (s : Spot). s.within) is in
    let last : place % width + 1 ≡ width = omega arith in
    let room : place / width % cells + 1 ≡ cells = omega arith in
    let q : (place + 1) / width % cells ≡ 0 = ap (λ (n : ℕ). n % cells) (div_past place width last) ∙ mod_past (place / width) cells room in
    let r : (place + 1) % width ≡ 0 = mod_past place width last in
    sym (ap (λ (n : ℕ). spot n ((place + 1) % width)) q ∙ ap (spot 0) r)
