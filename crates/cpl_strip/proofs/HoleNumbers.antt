-- The holes of a piece by number.
use Rattle.std.proofs.Common.{◌≡◌, refl, sym, ◌∙◌, ap, subst, ltb, ℕ, ◌+◌, ◌-◌, ◌*◌, ◌<◌, ◌≤◌, arith, inl, inr}
use Rattle.std.specs.Prelude.{◌/◌, ◌%◌}
use Rattle.std.proofs.lemmas.Bool.{cond-true, cond-false, lt-ltb, le-ltb, cases_lt}
use Rattle.std.proofs.lemmas.Nat.{div-mul-add, mod-mul-add, div-add-mod', div_below, mod_below, mul-add-lt}
use Rattle.cpl_mosaic.specs.declared.parts.Side.{Side}
use Rattle.cpl_mosaic.specs.declared.parts.Side.TheVariants.{W, E, S, N}
use Rattle.cpl_layout.specs.declared.piece.Piece.{Piece}
use Rattle.cpl_layout.specs.Owners.{IsPiece}
use Rattle.cpl_strip.specs.declared.parts.Hole.{Hole}
use Rattle.cpl_strip.specs.Holes.{edge_of, IsHoleOf}
use Rattle.cpl_strip.specs.Rounds.{sides_of, nth_side, nth_hole, hole_count}

-- the number of a side along the edges of a piece
abbrev pub number_on : Piece → Side × ℕ → ℕ
number_on piece (W, at) = at
number_on piece (E, at) = piece.ny + at
number_on piece (S, at) = 2 * piece.ny + at
number_on piece (N, at) = 2 * piece.ny + piece.nx + at

-- the sides of each edge follow each other
west : (piece : Piece) (k : ℕ) → k < piece.ny → nth_side piece k ≡ (W, k)
west piece k below = cond-true (ltb k piece.ny) (W, k) _ (lt-ltb k piece.ny below)

east : (piece : Piece) (k : ℕ) → piece.ny ≤ k → k < 2 * piece.ny → nth_side piece k ≡ (E, k - piece.ny)
east piece k above below =
    cond-false (ltb k piece.ny) (W, k) _ (le-ltb k piece.ny above) ∙ cond-true (ltb k (2 * piece.ny)) (E, k - piece.ny) _ (lt-ltb k (2 * piece.ny) below)

south : (piece : Piece) (k : ℕ) → 2 * piece.ny ≤ k → k < 2 * piece.ny + piece.nx → nth_side piece k ≡ (S, k - 2 * piece.ny)
south piece k above below =
    cond-false (ltb k piece.ny) (W, k) _ (le-ltb k piece.ny (omega arith))
    ∙ cond-false (ltb k (2 * piece.ny)) (E, k - piece.ny) _ (le-ltb k (2 * piece.ny) above)
    ∙ cond-true (ltb k (2 * piece.ny + piece.nx)) (S, k - 2 * piece.ny) _ (lt-ltb k (2 * piece.ny + piece.nx) below)

north : (piece : Piece) (k : ℕ) → 2 * piece.ny + piece.nx ≤ k → nth_side piece k ≡ (N, k - 2 * piece.ny - piece.nx)
north piece k above =
    cond-false (ltb k piece.ny) (W, k) _ (le-ltb k piece.ny (omega arith))
    ∙ cond-false (ltb k (2 * piece.ny)) (E, k - piece.ny) _ (le-ltb k (2 * piece.ny) (omega arith))
    ∙ cond-false (ltb k (2 * piece.ny + piece.nx)) (S, k - 2 * piece.ny) _ (le-ltb k (2 * piece.ny + piece.nx) above)

-- what is known of the k-th side
record IsNth (piece : Piece) (k : ℕ) (side : Side × ℕ) : Type 0 where
  number : number_on piece side ≡ k
  within : side.1 < edge_of piece side.0

nth_is : (piece : Piece) (k : ℕ) → k < sides_of piece → IsNth piece k (nth_side piece k)
nth_is piece k below = elim (cases_lt k piece.ny) [
  | inl w ↦ subst (IsNth piece k) (sym (west piece k w)) (record { number = refl; within = w })
  | inr not_w ↦ elim (cases_lt k (2 * piece.ny)) [
    | inl e ↦ subst (IsNth piece k) (sym (east piece k not_w e)) (record { number = omega arith; within = omega arith })
    | inr not_e ↦ elim (cases_lt k (2 * piece.ny + piece.nx)) [
      | inl s ↦ subst (IsNth piece k) (sym (south piece k not_e s)) (record { number = omega arith; within = omega arith })
      | inr not_s ↦ subst (IsNth piece k) (sym (north piece k not_s)) (record { number = omega arith; within = omega arith })
    ]
  ]
]

-- the side of a number is the side with this number
nth_number : (piece : Piece) (side : Side) (at : ℕ) → at < edge_of piece side → nth_side piece (number_on piece (side, at)) ≡ (side, at)
nth_number piece W at below = west piece at below
nth_number piece E at below =
    let back : piece.ny + at - piece.ny ≡ at = omega arith in east piece (piece.ny + at) (omega arith) (omega arith) ∙ ap (λ k. (E, k)) back
nth_number piece S at below =
    let back : 2 * piece.ny + at - 2 * piece.ny ≡ at = omega arith in south piece (2 * piece.ny + at) (omega arith) (omega arith) ∙ ap (λ k. (S, k)) back
nth_number piece N at below =
    let back : 2 * piece.ny + piece.nx + at - 2 * piece.ny - piece.nx ≡ at = omega arith in north piece (2 * piece.ny + piece.nx + at) (omega arith) ∙ ap (λ k. (N, k)) back

number_below : (piece : Piece) (side : Side) (at : ℕ) → at < edge_of piece side → number_on piece (side, at) < sides_of piece
number_below piece W at below = omega arith
number_below piece E at below = omega arith
number_below piece S at below = omega arith
number_below piece N at below = omega arith

some_sides : (piece : Piece) → IsPiece piece → 0 < sides_of piece
some_sides piece is = let least = is.nx_least in omega arith

-- the hole of each number is a hole
pub hole_is : (piece : Piece) (width m : ℕ) → IsPiece piece → m < hole_count width piece → IsHoleOf piece width (nth_hole piece m)
hole_is piece width m is below =
    let some = some_sides piece is in
    let depth = div_below m (sides_of piece) width some below in
    record {
      at = (nth_is piece (m % sides_of piece) (mod_below m (sides_of piece) some)).within;
      least = omega arith;
      most = omega arith;
    }

-- each hole has a number
pub hole_has : (piece : Piece) (width : ℕ) (hole : Hole) → IsPiece piece → IsHoleOf piece width hole → (m : ℕ) × (m < hole_count width piece) × (nth_hole piece m ≡ hole)
hole_has piece width hole is of =
    let k = number_on piece (hole.side, hole.at) in
    let below = number_below piece hole.side hole.at of.at in
    let least = of.least in
    let most = of.most in
    let row = div-mul-add (hole.depth - 1) (sides_of piece) (number_on piece (hole.side, hole.at)) below in
    let column = mod-mul-add (hole.depth - 1) (sides_of piece) (number_on piece (hole.side, hole.at)) below in
    let depth : ((hole.depth - 1) * sides_of piece + number_on piece (hole.side, hole.at)) / sides_of piece + 1 ≡ hole.depth = omega arith in
    let side = ap (nth_side piece) column ∙ nth_number piece hole.side hole.at of.at in
    let within = mul-add-lt (hole.depth - 1) (sides_of piece) (number_on piece (hole.side, hole.at)) width (omega arith) below in
    ((hole.depth - 1) * sides_of piece + number_on piece (hole.side, hole.at), omega arith, λ s. record { side = (side s).0; at = (side s).1; depth = depth s })

-- two numbers have two holes
pub hole_apart : (piece : Piece) (m l : ℕ) → IsPiece piece → nth_hole piece m ≡ nth_hole piece l → m ≡ l
hole_apart piece m l is same =
    let some = some_sides piece is in
    let depth = ap (λ (hole : Hole). hole.depth) same in
    let first = (nth_is piece (m % sides_of piece) (mod_below m (sides_of piece) some)).number in
    let second = (nth_is piece (l % sides_of piece) (mod_below l (sides_of piece) some)).number in
    let number = ap (λ (hole : Hole). number_on piece (hole.side, hole.at)) same in
    let rest : m % sides_of piece ≡ l % sides_of piece = sym first ∙ number ∙ second in
    let whole : m / sides_of piece ≡ l / sides_of piece = omega arith in
    sym (div-add-mod' m (sides_of piece)) ∙ (λ s. whole s * sides_of piece + rest s) ∙ div-add-mod' l (sides_of piece)
