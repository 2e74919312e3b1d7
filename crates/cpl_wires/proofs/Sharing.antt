-- What two pieces share stands in the groups of pairs of pieces.
use Rattle.std.proofs.Common.{◌≡◌, ◌∙◌, refl, sym, ap, subst, ℕ, ◌+◌, ◌<◌, ◌&&◌, arith, Bool, List, [], get_or, eqb}
use Rattle.std.specs.Prelude.{All, map}
use Rattle.std.proofs.Math.ListN.{get_or-map}
use Rattle.std.proofs.lemmas.List.{length-map}
use Rattle.cpl_fixed.specs.declared.words.Component.{Component}
use Rattle.cpl_mosaic.specs.declared.parts.CellId.{CellId}
use Rattle.cpl_mosaic.specs.Sides.{IsCellOf}
use Rattle.cpl_layout.specs.Layouts.{Cuts, IsLayout}
use Rattle.cpl_layout.specs.Pieces.{owner_of}
use Rattle.cpl_layout.proofs.Numbered.{owner_below}
use Rattle.cpl_xgrid.specs.Groups.{numbers_from}
use Rattle.cpl_wires.specs.Settings.{Setting, layout_of, base_of, piece_with}
use Rattle.cpl_wires.specs.Pairs.{is_between}
use Rattle.cpl_wires.specs.Tables.{Pair, ArePairs, pair_key, pair_number, by_pieces, pairs_most}
use Rattle.cpl_wires.proofs.Most.{pairs_most_is}
use Rattle.cpl_wires.proofs.Grouped.{numbers_same, group_of, pair_eq, shifted_eq}

-- what holds of each item as another
pub all_back : {S T : Type 0} (P : S → Type 0) (f : T → S) (items : List T) → All P (map f items) → All (λ item. P (f item)) items
all_back P f items are k d l = let len = length-map items f in subst P (get_or-map f items k d) (are k (f d) (omega arith))

-- a cell lies in a piece of at most 64
pub owner_few : (layout : Cuts) (cell : CellId) → IsLayout layout → IsCellOf layout.tiles cell → owner_of layout cell < 64
owner_few layout cell is inside = let below = owner_below layout cell is inside in let few = is.few in omega arith

module _ {T : Type 0} (setting : Setting) (one other : Component) (pair : T → Pair) (items : List T) (is : IsLayout (layout_of setting one)) (others : IsLayout (layout_of setting other)) where
  test : (a b : ℕ) → T → Bool
  test a b item = is_between setting (base_of setting one + a, one, (pair item).0) (base_of setting other + b, other, (pair item).1)

  key : T → ℕ
  key item = pair_key (layout_of setting one) (layout_of setting other) (pair item)

  -- an item lies between two pieces exactly if their pair is its own
  key_is : (a b : ℕ) (item : T) → b < 64 → IsCellOf (layout_of setting other).tiles (pair item).1 → test a b item ≡ eqb (key item) (pair_number a b)
  unfolding test key
  key_is a b item few inside =
      let below = owner_few (layout_of setting other) (pair item).1 others inside in
      let first = shifted_eq (base_of setting one) (owner_of (layout_of setting one) (pair item).0) a in
      let second = shifted_eq (base_of setting other) (owner_of (layout_of setting other) (pair item).1) b in
      ap (λ (t : Bool). t && eqb (piece_with setting other (pair item).1) (base_of setting other + b)) first
      ∙ ap (λ (t : Bool). eqb (owner_of (layout_of setting one) (pair item).0) a && t) second
      ∙ pair_eq (owner_of (layout_of setting one) (pair item).0) (owner_of (layout_of setting other) (pair item).1) a b below few

  -- the group of two pieces has the items between them
  between_is : (a b : ℕ) → a < 64 → b < 64 → All (λ item. IsCellOf (layout_of setting other).tiles (pair item).1) items
      → get_or (by_pieces (layout_of setting one) (layout_of setting other) (map pair items)) (pair_number a b) [] ≡ numbers_from (test a b) 0 items
  unfolding key
  between_is a b l h inside =
      group_of pairs_most (pair_key (layout_of setting one) (layout_of setting other)) (λ cells. eqb (pair_key (layout_of setting one) (layout_of setting other) cells) (pair_number a b)) (map pair items)
      (pair_number a b) (let most = pairs_most_is in omega arith) (λ k d h. refl)
      ∙ sym (numbers_same (test a b) (λ cells. eqb (pair_key (layout_of setting one) (layout_of setting other) cells) (pair_number a b)) pair 0 items
      (λ k d l. key_is a b (get_or items k d) h (inside k d l)))

-- the group of two pieces, as what is between them
pub between : {T : Type 0} (setting : Setting) (one other : Component) (pair : T → Pair) (items : List T) (a b : ℕ) → IsLayout (layout_of setting one) → IsLayout (layout_of setting other) → a < 64 → b < 64
    → ArePairs (layout_of setting one).tiles (layout_of setting other).tiles (map pair items)
    → get_or (by_pieces (layout_of setting one) (layout_of setting other) (map pair items)) (pair_number a b) []
    ≡ numbers_from (λ item. is_between setting (base_of setting one + a, one, (pair item).0) (base_of setting other + b, other, (pair item).1)) 0 items
unfolding test
between setting one other pair items a b is others l h are =
    between_is setting one other pair items is others a b l h (λ k d h. (all_back (λ (cells : Pair). IsCellOf (layout_of setting one).tiles cells.0 × IsCellOf (layout_of setting other).tiles cells.1) pair items are k d h).1)
