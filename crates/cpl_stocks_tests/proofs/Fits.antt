-- Numbers that a test computes, within 128 bits.
use Rattle.std.proofs.Common.{◌≡◌, ◌^◌, Bool, true, false, ltb, List, [], ◌∷◌, refl}
use Rattle.std.specs.Prelude.{ℤ, pos, negsuc, All, FitsSigned, ◌&&◌}
use Rattle.std.specs.List.{list_all}
use Rattle.std.specs.Int.{w128}
use Rattle.std.proofs.lemmas.List.Elements.{All-nil, All-cons}
use Rattle.std.proofs.lemmas.Bool.{false≢true}
use Rattle.std.proofs.lemmas.Bool.Decides.{Decides-ltb}

-- whether a number fits
abbrev pub fits : ℤ → Bool
fits (pos n) = ltb n (2 ^ 127)
fits (negsuc n) = ltb n (2 ^ 127)

one_fits : (x : ℤ) → fits x ≡ true → FitsSigned w128 x
one_fits (pos n) e = record { sfits = (Decides-ltb n (2 ^ 127)).0 e }
one_fits (negsuc n) e = record { sfits = (Decides-ltb n (2 ^ 127)).0 e }

both_true : (a b : Bool) → (a && b) ≡ true → (a ≡ true) × (b ≡ true)
both_true true b e = (refl, e)
both_true false b e = absurd (false≢true e)

pub all_fit : (xs : List ℤ) → list_all fits xs ≡ true → All (FitsSigned w128) xs
all_fit [] e = All-nil (FitsSigned w128)
all_fit (x ∷ xs) e =
    let each = both_true (fits x) (list_all fits xs) e in
    All-cons (FitsSigned w128) x xs (one_fits x each.0) (all_fit xs each.1)
