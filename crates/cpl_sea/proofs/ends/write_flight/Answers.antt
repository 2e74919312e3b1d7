use Rattle.std.proofs.Common.{◌≡◌, ◌∙◌, refl, sym, ap, arith, append_assoc, length-set, slice_set, ℕ, ◌+◌, ◌≤◌, ◌<◌, ◌++◌, ◌∷◌, [], ℤ, List, length, take}
use Rattle.std.proofs.lemmas.List.{take_more_set}
use Rattle.cpl_transport.proofs.Bounds.{own_amount, read}
use Rattle.cpl_sea.proofs.ends.write_flight.Goals as goal

-- one number more
one_more : (xs : List ℤ) (p q : ℕ) (a : ℤ) → p < length xs → p + 1 ≡ q → take q (slice_set xs p a) ≡ take p xs ++ a ∷ []
one_more xs p q a l e = ap (λ n. take n (slice_set xs p a)) (sym e) ∙ take_more_set xs p a l

regroup : (t : List ℤ) (a b c d e : ℤ) → ((((t ++ (a ∷ [])) ++ (b ∷ [])) ++ (c ∷ [])) ++ (d ∷ [])) ++ (e ∷ []) ≡ t ++ (a ∷ b ∷ c ∷ d ∷ e ∷ [])
regroup t a b c d e = simp append_assoc

five : (xs : List ℤ) (p : ℕ) (a b c d e : ℤ) → p + 5 ≤ length xs
    → take (p + 5) (slice_set (slice_set (slice_set (slice_set (slice_set xs p a) (p + 1) b) (p + 2) c) (p + 3) d) (p + 4) e) ≡ take p xs ++ (a ∷ b ∷ c ∷ d ∷ e ∷ [])
five xs p a b c d e le =
    let x1 = slice_set xs p a in
    let x2 = slice_set x1 (p + 1) b in
    let x3 = slice_set x2 (p + 2) c in
    let x4 = slice_set x3 (p + 3) d in
    let l1 : length x1 ≡ length xs = length-set xs p a in
    let l2 : length x2 ≡ length x1 = length-set x1 (p + 1) b in
    let l3 : length x3 ≡ length x2 = length-set x2 (p + 2) c in
    let l4 : length x4 ≡ length x3 = length-set x3 (p + 3) d in
    let s1 = one_more xs p (p + 1) a (omega arith) refl in
    let s2 = one_more x1 (p + 1) (p + 2) b (omega arith) (omega arith) in
    let s3 = one_more x2 (p + 2) (p + 3) c (omega arith) (omega arith) in
    let s4 = one_more x3 (p + 3) (p + 4) d (omega arith) (omega arith) in
    let s5 = one_more x4 (p + 4) (p + 5) e (omega arith) (omega arith) in
    s5
    ∙ ap (λ (t : List ℤ). t ++ (e ∷ [])) (s4 ∙ ap (λ (t : List ℤ). t ++ (d ∷ [])) (s3 ∙ ap (λ (t : List ℤ). t ++ (c ∷ [])) (s2 ∙ ap (λ (t : List ℤ). t ++ (b ∷ [])) s1)))
    ∙ regroup (take p xs) a b c d e

pub returns : goal.returns
returns c =
    let is = c.requires.flight in
    let it = c.args.flight in
    let a = own_amount it.frazil_water is.frazil_water in
    let b = own_amount it.frazil_heat is.frazil_heat in
    let d = own_amount it.skin.water is.skin.water in
    let e = own_amount it.skin.heat is.skin.heat in
    let f = own_amount it.skin.salt is.skin.salt in
    five c.args.flights.now c.args.place (read it.frazil_water) (read it.frazil_heat) (read it.skin.water) (read it.skin.heat) (read it.skin.salt) c.requires.within
    ∙ (λ i. take c.args.place c.args.flights.now ++ (a i ∷ b i ∷ d i ∷ e i ∷ f i ∷ []))
