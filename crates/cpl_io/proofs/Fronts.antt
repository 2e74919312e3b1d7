-- Fronts of bytes: those read so far, and those that weren't appended.
use Rattle.std.proofs.Common.{◌≡◌, ◌∙◌, sym, ap, refl, ℕ, zero, suc, ◌+◌, List, [], ◌∷◌, ◌++◌, length, take, drop, cond, Result, Ok, Err, OnErr, is_ok}
use Rattle.std.proofs.lemmas.List.{append-nil, length-append, take-append-drop}
use Rattle.std.proofs.Math.Seq.{take-append-add}
use Rattle.cpl_io.specs.Sink.{AppendsFront}

-- as many as there were to take
take-length-take : (n : ℕ) (xs : List ℕ) → take (length (take n xs)) xs ≡ take n xs
take-length-take zero xs = refl
take-length-take (suc n) [] = refl
take-length-take (suc n) (x ∷ xs) = ap (λ ys. x ∷ ys) (take-length-take n xs)

-- the bytes read so far and those of the next reading are a front of all
pub longer_front : (all old next : List ℕ) (n : ℕ) → old ≡ take (length old) all → next ≡ take n (drop (length old) all) → old ++ next ≡ take (length (old ++ next)) all
longer_front all old next n front here =
    let rest : List ℕ = drop (length old) all in
    let parts : old ++ rest ≡ all = ap (λ xs. xs ++ rest) front ∙ take-append-drop (length old) all in
    let as_many : take (length next) rest ≡ next = ap (λ xs. take (length xs) rest) here ∙ take-length-take n rest ∙ sym here in
    sym (ap (λ k. take k all) (length-append old next)
    ∙ ap (λ xs. take (length old + length next) xs) (sym parts)
    ∙ take-append-add old rest (length next)
    ∙ ap (λ xs. old ++ xs) as_many)

-- s fails where r did, and then nothing was appended
pub none_appended : {T U E D : Type 0} (r : Result T E) (s : Result U D) (old new bytes : List ℕ) → is_ok s ≡ is_ok r → new ≡ cond (is_ok r) (old ++ bytes) old → OnErr s (AppendsFront old new bytes)
none_appended r (Ok x) old new bytes same e = tt
none_appended (Ok x) (Err y) old new bytes same e = cc
none_appended (Err x) (Err y) old new bytes same e = (0, e ∙ sym (append-nil old))
