-- Lists made of blocks of one width: their lengths, and where each number stands.
use Rattle.std.proofs.Common.{◌≡◌, ◌∙◌, sym, ap, ℕ, zero, suc, ◌+◌, ◌-◌, ◌*◌, ◌<◌, arith, List, [], ◌∷◌, ◌++◌, length, length-append}
use Rattle.std.specs.Prelude.{ℤ, pos, slice_index_or}
use Rattle.std.specs.List.{flat_map, range_with_len}
use Rattle.std.proofs.Math.Nat.{mul_assoc}
use Rattle.std.proofs.lemmas.List.{get_or_append_left, get_or-append_right}
use Rattle.std.proofs.lemmas.List.FromFn.{length-range_with_len, get_or-range_with_len}
use Rattle.cpl_fixed.specs.Amounts.{at}
use Rattle.cpl_rounds.specs.Blocks.{item, HasBlocks, HasElements}

pub blocks_long : {X : Type 0} (width : ℕ) (block : X → List ℤ) → ((x : X) → length (block x) ≡ width) → (xs : List X) → length (flat_map block xs) ≡ length xs * width
blocks_long width block each [] = omega arith
blocks_long width block each (x ∷ xs) =
    let first = each x in
    let rest = blocks_long width block each xs in
    let both = length-append (block x) (flat_map block xs) in
    let more : suc (length xs) * width ≡ width + length xs * width = omega arith in
    both ∙ (λ i. first i + rest i) ∙ sym more

-- number j of block q stands at q * width + j
pub block_at : {X : Type 0} (width : ℕ) (block : X → List ℤ) → ((x : X) → length (block x) ≡ width) → (xs : List X) (past : X) (q j : ℕ) → q < length xs → j < width
    → at (flat_map block xs) (q * width + j) ≡ at (block (slice_index_or xs q past)) j
block_at width block each [] past q j l k = absurd (omega arith)
block_at width block each (x ∷ xs) past zero j l k =
    let e = each x in
    let place : 0 * width + j ≡ j = omega arith in
    ap (at (block x ++ flat_map block xs)) place ∙ get_or_append_left (block x) (flat_map block xs) (pos 0) j (omega (arith, e))
block_at width block each (x ∷ xs) past (suc q) j l k =
    let place : (suc q * width + j) - width ≡ q * width + j = omega arith in
    get_or-append_right (block x) (flat_map block xs) width (suc q * width + j) (pos 0) (each x) (omega arith)
    ∙ ap (at (flat_map block xs)) place
    ∙ block_at width block each xs past q j (omega arith) k

-- the numbers of all blocks
pub has_blocks : (width : ℕ) (block : ℕ → List ℤ) → ((x : ℕ) → length (block x) ≡ width) → (items : List ℕ) → HasBlocks width block items (flat_map block items)
has_blocks width block each items = record {
  long = blocks_long width block each items;
  each = λ q j l k. block_at width block each items 0 q j l k;
}

-- the same of blocks for each of the numbers below a count
pub range_block_at : (width : ℕ) (block : ℕ → List ℤ) → ((x : ℕ) → length (block x) ≡ width) → (count q j : ℕ) → q < count → j < width
    → at (flat_map block (range_with_len 0 count)) (q * width + j) ≡ at (block q) j
range_block_at width block each count q j l k =
    let long = length-range_with_len 0 count in
    let own : slice_index_or (range_with_len 0 count) q 0 ≡ q = get_or-range_with_len 0 count q 0 l ∙ omega arith in
    block_at width block each (range_with_len 0 count) 0 q j (omega (arith, long)) k ∙ ap (λ (x : ℕ). at (block x) j) own

pub range_blocks_long : (width : ℕ) (block : ℕ → List ℤ) → ((x : ℕ) → length (block x) ≡ width) → (count : ℕ) → length (flat_map block (range_with_len 0 count)) ≡ count * width
range_blocks_long width block each count = blocks_long width block each (range_with_len 0 count) ∙ ap (λ (n : ℕ). n * width) (length-range_with_len 0 count)

-- four numbers for each element of each row
pub has_elements : (parts : ℕ) (block : (row k : ℕ) → List ℤ) → ((row k : ℕ) → length (block row k) ≡ 4) → (rows : List ℕ)
    → HasElements parts block rows (flat_map (λ row. flat_map (block row) (range_with_len 0 parts)) rows)
has_elements parts block each rows =
    let row_block : ℕ → List ℤ = λ row. flat_map (block row) (range_with_len 0 parts) in
    let row_long : (row : ℕ) → length (row_block row) ≡ parts * 4 = λ row. range_blocks_long 4 (block row) (each row) parts in
    record {
      long = blocks_long (parts * 4) row_block row_long rows ∙ sym (mul_assoc (length rows) parts 4);
      each = λ q k j l inside h.
          let apart = mul_assoc q parts 4 in
          let place : (q * parts + k) * 4 + j ≡ q * (parts * 4) + (k * 4 + j) = omega (arith, apart) in
          ap (at (flat_map row_block rows)) place
          ∙ block_at (parts * 4) row_block row_long rows 0 q (k * 4 + j) l (omega arith)
          ∙ range_block_at 4 (block (item rows q)) (each (item rows q)) parts k j inside h;
    }

-- THE SAME NUMBERS BY ANOTHER NAME

pub blocks_same : (width : ℕ) (f g : ℕ → List ℤ) (items : List ℕ) (numbers : List ℤ) → ((q : ℕ) → q < length items → f (item items q) ≡ g (item items q))
    → HasBlocks width f items numbers → HasBlocks width g items numbers
blocks_same width f g items numbers same has = record {
  long = has.long;
  each = λ q j l k. has.each q j l k ∙ ap (λ (block : List ℤ). at block j) (same q l);
}

pub elements_same : (parts : ℕ) (f g : (row k : ℕ) → List ℤ) (rows : List ℕ) (numbers : List ℤ) → ((row k : ℕ) → k < parts → f row k ≡ g row k)
    → HasElements parts f rows numbers → HasElements parts g rows numbers
elements_same parts f g rows numbers same has = record {
  long = has.long;
  each = λ q k j l h i. has.each q k j l h i ∙ ap (λ (block : List ℤ). at block j) (same (item rows q) k h);
}
