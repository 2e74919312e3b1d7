-- Lists whose first numbers are given anew.
use Rattle.std.proofs.Common.{◌≡◌, ◌∙◌, refl, sym, ap, ℕ, ◌+◌, ◌-◌, ◌*◌, ◌<◌, ◌≤◌, ◌++◌, arith, inl, inr, List, length, drop, length-append, length-drop}
use Rattle.std.specs.Prelude.{ℤ, pos, map}
use Rattle.std.specs.List.{range_with_len}
use Rattle.std.proofs.lemmas.Bool.{cases_lt}
use Rattle.std.proofs.lemmas.List.{get_or_append_left, get_or-append_right, get_or-drop}
use Rattle.std.proofs.lemmas.List.FromFn.{fill_by_all, get_or-map-range_with_len, length-map-range_with_len}
use Rattle.cpl_fixed.specs.Amounts.{at}

-- lists that agree at each place are the same
same_lists : (xs ys : List ℤ) → length xs ≡ length ys → ((i : ℕ) → i < length xs → at xs i ≡ at ys i) → xs ≡ ys
same_lists xs ys long each =
    fill_by_all (at ys) xs (length xs) (pos 0) refl each
    ∙ sym (fill_by_all (at ys) ys (length xs) (pos 0) (sym long) (λ i l. refl))

pub new_top : (count : ℕ) (f : ℕ → ℤ) (old new : List ℤ) → count ≤ length old → length new ≡ length old
    → ((n : ℕ) → n < count → at new n ≡ f n) → ((n : ℕ) → count ≤ n → at new n ≡ at old n)
    → new ≡ map f (range_with_len 0 count) ++ drop count old
new_top count f old new le long top below =
    let first = map f (range_with_len 0 count) in
    let rest = drop count old in
    let own : length first ≡ count = length-map-range_with_len f 0 count in
    let both : length (first ++ rest) ≡ length first + length rest = length-append first rest in
    let left : length rest ≡ length old - count = length-drop count old in
    same_lists new (first ++ rest) (omega arith)
    (λ i l. elim (cases_lt i count) [
      | inl less ↦ top i less ∙ sym (get_or_append_left first rest (pos 0) i (omega arith) ∙ get_or-map-range_with_len f 0 count i i (pos 0) less (omega arith))
      | inr past ↦
          let e : count + (i - count) ≡ i = omega arith in
          below i past ∙ sym (get_or-append_right first rest count i (pos 0) own past ∙ get_or-drop count old (i - count) (pos 0) ∙ ap (at old) e)
    ])

-- as many cells as the top layer has are among all
pub top_within : (layers count : ℕ) → 1 ≤ layers → count ≤ layers * count
top_within layers count some = grind arith

-- a list that was lent, with a top that was given anew
pub lent_top : (cells count : ℕ) (f : ℕ → ℤ) (old lent new : List ℤ) → count ≡ cells → lent ≡ old → cells ≤ length old → length new ≡ length lent
    → ((n : ℕ) → n < cells → at new n ≡ f n) → ((n : ℕ) → count ≤ n → at new n ≡ at lent n)
    → new ≡ map f (range_with_len 0 cells) ++ drop cells old
lent_top cells count f old lent new same is le long top below =
    new_top cells f old new le (long ∙ ap length is) top (λ n l. below n (omega (arith, same)) ∙ ap (λ (t : List ℤ). at t n) is)
