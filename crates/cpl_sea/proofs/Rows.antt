-- Sums over layers and cells.
use Rattle.std.proofs.Common.{◌≡◌, ◌∙◌, refl, sym, ap, subst, ℕ, zero, suc, ◌+◌, ◌*◌, ◌/◌, ◌%◌, ◌<◌, ◌≤◌, arith, inl, inr, List, length}
use Rattle.std.specs.Prelude.{ℤ, pos, ◌+ℤ◌, ◌≤ℤ◌}
use Rattle.std.proofs.Math.Nat.{mul-le-mul_right}
use Rattle.std.proofs.lemmas.Int.{ints}
use Rattle.std.proofs.lemmas.Nat.{div-mul-add, mod-mul-add, mul-add-lt}
use Rattle.std.proofs.lemmas.List.FromFn.{length-map-range_with_len, get_or-map-range_with_len}
use Rattle.std.proofs.lemmas.Bool.{cases_eq, cases_lt}
use Rattle.cpl_fixed.specs.Amounts.{IsAmount, at}
use Rattle.cpl_fixed.specs.Totals.{total_of}
use Rattle.cpl_transport.specs.Mixing.{sum_of}
use Rattle.cpl_state.specs.Diffusion.{AreAmounts}
use Rattle.cpl_state.specs.Transport.{layered}
use Rattle.cpl_diffusion.proofs.Conserved.{amount_at}
use Rattle.cpl_diffusion.proofs.Sums.{sum_to, sum_to-same, sum_to-add, total_of-sum_to, sum_to-above}

-- a place of a layer lies within all
pub place_below : (layers count layer n : ℕ) → layer < layers → n < count → layer * count + n < layers * count
place_below layers count layer n l k = omega (arith, mul-add-lt layer count n layers l k)

-- a layer begins behind those before it
pub later_row : (count layer k w n : ℕ) → layer < k → w ≤ count → layer * count + w ≤ k * count + n
later_row count layer k w n l le =
    let more : (layer + 1) * count ≤ k * count = mul-le-mul_right count (omega arith) in
    omega (arith, more)

-- a sum over more
sum_to-append : (f : ℕ → ℤ) (m n : ℕ) → sum_to f (m + n) ≡ sum_to f m +ℤ sum_to (λ k. f (m + k)) n
sum_to-append f m zero =
    let e : m + 0 ≡ m = omega arith in
    ap (sum_to f) e ∙ omega (arith, ints)
sum_to-append f m (suc n) =
    let e : m + suc n ≡ suc (m + n) = omega arith in
    let h = sum_to-append f m n in
    ap (sum_to f) e ∙ omega (arith, ints, h)

-- a sum row by row
pub sum_rows : (f : ℕ → ℤ) (rows width : ℕ) → sum_to f (rows * width) ≡ sum_to (λ row. sum_to (λ n. f (row * width + n)) width) rows
sum_rows f zero width =
    let e : 0 * width ≡ 0 = omega arith in
    ap (sum_to f) e
sum_rows f (suc rows) width =
    let e : suc rows * width ≡ rows * width + width = omega arith in
    let h = sum_rows f rows width in
    let more = sum_to-append f (rows * width) width in
    ap (sum_to f) e ∙ more ∙ ap (λ (z : ℤ). z +ℤ sum_to (λ n. f (rows * width + n)) width) h

-- a sum of sums in either order
pub sum_swap : (f : ℕ → ℕ → ℤ) (m n : ℕ) → sum_to (λ k. sum_to (f k) n) m ≡ sum_to (λ i. sum_to (λ k. f k i) m) n
sum_swap f zero n = sym (sum_none n)
  where
    sum_none : (n : ℕ) → sum_to (λ i. pos 0) n ≡ pos 0
    sum_none zero = refl
    sum_none (suc n) = let e = sum_none n in omega (arith, ints, e)
sum_swap f (suc m) n =
    let h = sum_swap f m n in
    let more = sum_to-add (λ i. sum_to (λ k. f k i) m) (f m) n in
    ap (λ (z : ℤ). z +ℤ sum_to (f m) n) h ∙ sym more

-- the sum of a column's layers
pub sum_column : (layers : ℕ) (column : ℕ → ℤ) → sum_of layers column ≡ sum_to column layers
sum_column zero column = refl
sum_column (suc n) column = let e = sum_column n column in ap (λ (z : ℤ). z +ℤ column n) e

-- a list of layers
pub layered_at : (layers count : ℕ) (number : ℕ → ℕ → ℤ) (layer n : ℕ) → layer < layers → n < count → at (layered layers count number) (layer * count + n) ≡ number layer n
layered_at layers count number layer n l k =
    get_or-map-range_with_len (λ place. number (place / count) (place % count)) 0 (layers * count) (layer * count + n) (layer * count + n) (pos 0) (place_below layers count layer n l k) (omega arith)
    ∙ (λ i. number (div-mul-add layer count n k i) (mod-mul-add layer count n k i))

pub length_layered : (layers count : ℕ) (number : ℕ → ℕ → ℤ) → length (layered layers count number) ≡ layers * count
length_layered layers count number = length-map-range_with_len (λ place. number (place / count) (place % count)) 0 (layers * count)

-- the total of a list of layers, layer by layer
pub total_layers : (layers count : ℕ) (xs : List ℤ) → length xs ≡ layers * count → total_of xs ≡ sum_to (λ layer. sum_to (λ n. at xs (layer * count + n)) count) layers
total_layers layers count xs e = total_of-sum_to xs ∙ ap (sum_to (at xs)) e ∙ sum_rows (at xs) layers count

pub total_layered : (layers count : ℕ) (number : ℕ → ℕ → ℤ) → total_of (layered layers count number) ≡ sum_to (λ layer. sum_to (number layer) count) layers
total_layered layers count number =
    let xs = layered layers count number in
    total_layers layers count xs (length_layered layers count number)
    ∙ sum_to-same (λ layer. sum_to (λ n. at xs (layer * count + n)) count) (λ layer. sum_to (number layer) count) layers
    (λ layer l. sum_to-same (λ n. at xs (layer * count + n)) (number layer) count (λ n k. layered_at layers count number layer n l k))

sum_to-mono : (f g : ℕ → ℤ) (n : ℕ) → ((i : ℕ) → i < n → f i ≤ℤ g i) → sum_to f n ≤ℤ sum_to g n
sum_to-mono f g zero h = omega (arith, ints)
sum_to-mono f g (suc n) h =
    let e = sum_to-mono f g n (λ i l. h i (omega arith)) in
    let d = h n (omega arith) in
    omega (arith, ints, e, d)

pub sum_to-least : (f : ℕ → ℤ) (n : ℕ) → ((i : ℕ) → i < n → pos 0 ≤ℤ f i) → pos 0 ≤ℤ sum_to f n
sum_to-least f zero h = omega (arith, ints)
sum_to-least f (suc n) h =
    let e = sum_to-least f n (λ i l. h i (omega arith)) in
    let d = h n (omega arith) in
    omega (arith, ints, e, d)

sum_to-more : (f : ℕ → ℤ) (k n : ℕ) → k ≤ n → ((i : ℕ) → i < n → pos 0 ≤ℤ f i) → sum_to f k ≤ℤ sum_to f n
sum_to-more f k zero le h = let e : k ≡ 0 = omega arith in subst (λ (m : ℕ). sum_to f m ≤ℤ pos 0) (sym e) (omega (arith, ints))
sum_to-more f k (suc n) le h = elim (cases_eq k (suc n)) [
  | inl e ↦ subst (λ (m : ℕ). sum_to f m ≤ℤ sum_to f (suc n)) (sym e) (omega (arith, ints))
  | inr ne ↦
      let less : k ≤ n = let other : k ≡ suc n → ⊥ = ne in omega arith in
      let e = sum_to-more f k n less (λ i l. h i (omega arith)) in
      let d = h n (omega arith) in
      omega (arith, ints, e, d)
]

-- the first layers of a column hold no more than all
pub column_amount : (layers count : ℕ) (xs : List ℤ) → AreAmounts (layers * count) xs → (n k : ℕ) → n < count → k ≤ layers → IsAmount (sum_of k (λ layer. at xs (layer * count + n)))
column_amount layers count xs are n k l le =
    let column : ℕ → ℤ = λ layer. at xs (layer * count + n) in
    let row : ℕ → ℤ = λ layer. sum_to (λ m. at xs (layer * count + m)) count in
    let each : (layer m : ℕ) → layer < layers → m < count → pos 0 ≤ℤ at xs (layer * count + m) =
    λ layer m h j. (amount_at (layers * count) xs are (layer * count + m) (place_below layers count layer m h j)).0 in
    let least = sum_to-least column k (λ i h. each i n (omega arith) l) in
    let under = sum_to-mono column row k (λ i h. sum_to-above (λ m. at xs (i * count + m)) count (λ m j. each i m (omega arith) j) n l) in
    let more = sum_to-more row k layers le (λ i h. sum_to-least (λ m. at xs (i * count + m)) count (λ m j. each i m h j)) in
    let total = total_layers layers count xs are.count in
    let most = are.total in
    let same = sum_column k column in
    (omega (arith, ints, least, same), omega (arith, ints, under, more, total, most, same))

-- what holds of the layers before and of this one holds of one more
pub one_more : (P : ℕ → Type 0) (layer : ℕ) → ((k : ℕ) → k < layer → P k) → P layer → (k : ℕ) → k < layer + 1 → P k
one_more P layer before here k l = elim (cases_lt k layer) [
  | inl less ↦ before k less
  | inr past ↦ let e : layer ≡ k = omega arith in subst P e here
]
