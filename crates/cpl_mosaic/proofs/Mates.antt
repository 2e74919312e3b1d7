-- What the mate of a side and a walk say of a mosaic.
use Rattle.std.proofs.Common.{◌≡◌, sym, ◌∙◌, ap, subst, ℕ, zero, suc, ◌+◌, ◌-◌, ◌<◌, ◌≤◌, arith, List, length, get_or, Option, Some, None, inl, inr}
use Rattle.std.specs.Prelude.{MatchOption, IfSome}
use Rattle.std.proofs.lemmas.List.{get_or_default}
use Rattle.cpl_mosaic.specs.Lists.{MosaicLists}
use Rattle.cpl_mosaic.specs.Sides.{CellSide, IsCellOf, IsEdgeSide}
use Rattle.cpl_mosaic.specs.Contacts.{IsMosaic, all_joins}
use Rattle.cpl_mosaic.specs.declared.parts.Contact.{Contact}
use Rattle.cpl_mosaic.specs.declared.parts.Tile.{Tile}
use Rattle.cpl_mosaic.specs.declared.parts.CellId.{CellId}
use Rattle.cpl_mosaic.specs.Table.{IsTable, place_of}
use Rattle.cpl_mosaic.specs.Mates.{Meets, IsWall, or_joined, mate_of, onward, one_further, walk_of}
use Rattle.cpl_mosaic.proofs.Agree.{mates_agree, no_mate}
use Rattle.cpl_mosaic.proofs.Tables.{cases_option}
use Rattle.cpl_mosaic.proofs.Places.{place_below}

-- a mate is met, and of a cell of the mosaic; where there is none, the side is a wall
pub mate_meets : (mosaic : MosaicLists) (a : CellSide) → IsMosaic mosaic.tiles mosaic.contacts → IsCellOf mosaic.tiles a.0 → MatchOption (mate_of mosaic a) (IsWall mosaic a) (Meets mosaic a)
mate_meets mosaic a is cell = elim (cases_option (mate_of mosaic a)) [
  | inl none ↦ subst (λ (o : Option CellSide). MatchOption o (IsWall mosaic a) (Meets mosaic a)) (sym none) (no_mate mosaic a is cell none)
  | inr (b, some) ↦ subst (λ (o : Option CellSide). MatchOption o (IsWall mosaic a) (Meets mosaic a)) (sym some) ((mates_agree mosaic is).meets a b cell some)
]

pub mate_inside : (mosaic : MosaicLists) (a : CellSide) → IsMosaic mosaic.tiles mosaic.contacts → IsCellOf mosaic.tiles a.0 → IfSome (mate_of mosaic a) (λ met. IsCellOf mosaic.tiles met.0)
mate_inside mosaic a is cell = elim (cases_option (mate_of mosaic a)) [
  | inl none ↦ subst (λ (o : Option CellSide). IfSome o (λ met. IsCellOf mosaic.tiles met.0)) (sym none) tt
  | inr (b, some) ↦ subst (λ (o : Option CellSide). IfSome o (λ met. IsCellOf mosaic.tiles met.0)) (sym some) ((mates_agree mosaic is).within a b cell some)
]

-- where a wall is on the way, every longer walk ends there too
pub walk_ended : (mosaic : MosaicLists) (a : CellSide) (n more : ℕ) → walk_of mosaic n a ≡ None → walk_of mosaic (n + more) a ≡ None
walk_ended mosaic a n zero none =
    let same : n + 0 ≡ n = omega arith in
    ap (λ (k : ℕ). walk_of mosaic k a) same ∙ none
walk_ended mosaic a n (suc more) none =
    let next : n + suc more ≡ suc (n + more) = omega arith in
    ap (λ (k : ℕ). walk_of mosaic k a) next ∙ ap (one_further mosaic) (walk_ended mosaic a n more none)

pub walk_wall : (mosaic : MosaicLists) (a : CellSide) (n most : ℕ) → n ≤ most → walk_of mosaic n a ≡ None → walk_of mosaic most a ≡ None
walk_wall mosaic a n most upto none =
    let whole : n + (most - n) ≡ most = omega arith in
    ap (λ (k : ℕ). walk_of mosaic k a) (sym whole) ∙ walk_ended mosaic a n (most - n) none

-- a walk one step longer
pub walk_more : (mosaic : MosaicLists) (a : CellSide) (n : ℕ) (entered : CellSide) → 1 ≤ n → walk_of mosaic (n - 1) a ≡ Some entered → walk_of mosaic n a ≡ mate_of mosaic (onward entered)
walk_more mosaic a zero entered least walked = absurd (omega arith)
walk_more mosaic a (suc n) entered least walked =
    let same : suc n - 1 ≡ n = omega arith in
    ap (one_further mosaic) (ap (λ (k : ℕ). walk_of mosaic k a) (sym same) ∙ walked)

-- what stands in the table at an edge side is its mate
pub mate_read : (tiles : List Tile) (contacts : List Contact) (table : List (Option CellSide)) (a : CellSide) (place : ℕ) (met : Option CellSide) → IsTable tiles (all_joins tiles contacts) table → IsEdgeSide tiles a → place ≡ place_of tiles a → met ≡ get_or table place met → met ≡ mate_of (record { tiles = tiles; contacts = contacts }) a
mate_read tiles contacts table a place met is edge at read =
    let size = is.size in
    let below = place_below tiles a edge.cell in
    let within : place < length table = omega arith in
    read
    ∙ get_or_default table place met None within
    ∙ ap (λ (k : ℕ). get_or table k None) at
    ∙ is.each a edge
    ∙ ap (λ (behind : Option CellId). or_joined behind a.1 (all_joins tiles contacts) a) (sym edge.edge)
