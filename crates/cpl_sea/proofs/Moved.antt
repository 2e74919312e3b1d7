-- Faces that move in two goes have moved as in one.
use Rattle.std.proofs.Common.{◌≡◌, ◌∙◌, sym, ap, subst, ℕ, ◌*◌, ◌≤◌, arith, inl, inr, List, length}
use Rattle.std.specs.Prelude.{ℤ}
use Rattle.std.proofs.lemmas.Bool.{cases_lt}
use Rattle.cpl_fixed.specs.Amounts.{at}
use Rattle.cpl_ice.specs.declared.parts.Salty.{Salty}
use Rattle.cpl_transport.specs.Salts.{AreSmall}
use Rattle.cpl_sea.specs.declared.before.Before.{Before}
use Rattle.cpl_sea.specs.declared.links.SideFace.{SideFace}
use Rattle.cpl_sea.specs.declared.links.SideFace.TheVariants.{Alone, First, Second}
use Rattle.cpl_sea.specs.declared.links.CellFaces.{CellFaces}
use Rattle.cpl_sea.specs.Before.{HasMoved, HaveMoved, Stands, cell_at, face_place, layer_flows, layer_numbers}
use Rattle.cpl_sea.specs.Passes.{AreSidesWithin, IsSideWithin, flow_in, link_at, number_after}

-- sides whose faces are among some are among more
side_more : (few most : ℕ) → few ≤ most → (side : SideFace) → IsSideWithin few side → IsSideWithin most side
side_more few most le Alone h = tt
side_more few most le (First f) h = omega arith
side_more few most le (Second f) h = omega arith

pub sides_more : (few most : ℕ) → few ≤ most → (faces : CellFaces) → AreSidesWithin few faces → AreSidesWithin most faces
sides_more few most le faces h = record {
  west = side_more few most le faces.west h.west;
  east = side_more few most le faces.east h.east;
  south = side_more few most le faces.south h.south;
  north = side_more few most le faces.north h.north;
}

module _ (before : Before) where
  -- faces of the same number move alike
  number_same : (faces other : List ℤ) (layer f : ℕ) → at faces (face_place before layer f) ≡ at other (face_place before layer f) → layer_numbers before faces layer f ≡ layer_numbers before other layer f
  number_same faces other layer f = ap (number_after before.slope before.heights.now (link_at before.links.now f))

  flow_same : (faces other : List ℤ) (layer f : ℕ) → at faces (face_place before layer f) ≡ at other (face_place before layer f) → layer_flows before faces layer f ≡ layer_flows before other layer f
  flow_same faces other layer f e = ap (flow_in (cell_at before) (layer * length before.heights.now) (link_at before.links.now f)) (number_same faces other layer f e)

  module _ {layer : ℕ} {faces between after : List ℤ} {flows flowing flown : List Salty} where
    -- the faces of a layer stand for a while, and go on to stand, or move, or have moved
    pub stands_on : Stands before layer faces between flows flowing → Stands before layer between after flowing flown → Stands before layer faces after flows flown
    stands_on old new = record { numbers = λ f l. new.numbers f l ∙ old.numbers f l; flown = λ f l. new.flown f l ∙ old.flown f l }

    pub stands_first : (from to : ℕ) → from ≤ to → to ≤ length before.links.now → Stands before layer faces between flows flowing → HasMoved before layer from to between after flowing flown → HasMoved before layer from to faces after flows flown
    stands_first from to order most old new = record {
      numbers = λ f l m. new.numbers f l m ∙ number_same between faces layer f (old.numbers f (omega arith));
      flown = λ f l m. new.flown f l m ∙ flow_same between faces layer f (old.numbers f (omega arith));
      small = new.small;
      earlier = λ f l. new.earlier f l ∙ old.numbers f (omega arith);
      flows_earlier = λ f l. new.flows_earlier f l ∙ old.flown f (omega arith);
      later = λ f l m. new.later f l m ∙ old.numbers f m;
    }

    pub stands_then : (from to : ℕ) → from ≤ to → to ≤ length before.links.now → HasMoved before layer from to faces between flows flowing → Stands before layer between after flowing flown → HasMoved before layer from to faces after flows flown
    stands_then from to order most old new = record {
      numbers = λ f l m. new.numbers f (omega arith) ∙ old.numbers f l m;
      flown = λ f l m. new.flown f (omega arith) ∙ old.flown f l m;
      small = λ f l m. subst AreSmall (sym (new.flown f (omega arith))) (old.small f l m);
      earlier = λ f l. new.numbers f (omega arith) ∙ old.earlier f l;
      flows_earlier = λ f l. new.flown f (omega arith) ∙ old.flows_earlier f l;
      later = λ f l m. new.numbers f m ∙ old.later f l m;
    }

    -- first those up to `done`, and then those up to `to`
    moves_on : (done to : ℕ) → done ≤ to → to ≤ length before.links.now → HasMoved before layer 0 done faces between flows flowing → HasMoved before layer done to between after flowing flown → HasMoved before layer 0 to faces after flows flown
    moves_on done to order most old new = record {
      numbers = λ f l m. elim (cases_lt f done) [
        | inl less ↦ new.earlier f less ∙ old.numbers f l less
        | inr past ↦ new.numbers f past m ∙ number_same between faces layer f (old.later f past (omega arith))
      ];
      flown = λ f l m. elim (cases_lt f done) [
        | inl less ↦ new.flows_earlier f less ∙ old.flown f l less
        | inr past ↦ new.flown f past m ∙ flow_same between faces layer f (old.later f past (omega arith))
      ];
      small = λ f l m. elim (cases_lt f done) [
        | inl less ↦ subst AreSmall (sym (new.flows_earlier f less)) (old.small f l less)
        | inr past ↦ new.small f past m
      ];
      earlier = λ f l. absurd (omega arith);
      flows_earlier = λ f l. absurd (omega arith);
      later = λ f l m. new.later f l m ∙ old.later f (omega arith) m;
    }

  pub moved_more : (done to : ℕ) → done ≤ to → to ≤ length before.links.now → {faces between after : List ℤ} {flows flowing flown : List Salty}
      → HaveMoved before before.layers 0 done faces between flows flowing → HaveMoved before before.layers done to between after flowing flown
      → HaveMoved before before.layers 0 to faces after flows flown
  moved_more done to order most old new = λ layer l. moves_on done to order most (old layer l) (new layer l)
