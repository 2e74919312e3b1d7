-- Holes filled one after another.
use Rattle.std.proofs.Common.{◌≡◌, ◌≢◌, ◌∙◌, sym, subst, ℕ, ◌+◌, ◌<◌, arith, inl, inr, List, length, get_or}
use Rattle.std.specs.Prelude.{ℤ, pos}
use Rattle.std.proofs.lemmas.Bool.{cases_eq}
use Rattle.cpl_mosaic.specs.declared.parts.Side.TheVariants.{W, E, S, N}
use Rattle.cpl_field.specs.Spots.{FieldNumbers, Spot, CellAt, HoleAt, IsSpot, IsSameShape, Sets, number_at}
use Rattle.cpl_strip.specs.declared.parts.Hole.{Hole}
use Rattle.cpl_group.specs.Parts.{hole_of}

-- fields of one shape have the same spots
pub spot_kept : (old new : FieldNumbers) → IsSameShape old new → (spot : Spot) → IsSpot old spot → IsSpot new spot
spot_kept old new same (CellAt i j) on = (omega arith, omega arith)
spot_kept old new same (HoleAt W k d) on = (omega arith, omega arith, omega arith)
spot_kept old new same (HoleAt E k d) on = (omega arith, omega arith, omega arith)
spot_kept old new same (HoleAt S k d) on = (omega arith, omega arith, omega arith)
spot_kept old new same (HoleAt N k d) on = (omega arith, omega arith, omega arith)

pub same_shapes : (a b c : FieldNumbers) → IsSameShape a b → IsSameShape b c → IsSameShape a c
same_shapes a b c p q = record { nx = q.nx ∙ p.nx; ny = q.ny ∙ p.ny; width = q.width ∙ p.width }

-- the first k holes have their numbers, and every other spot keeps its own
pub record Filled (holes : List Hole) (from : ℕ) (list : List ℤ) (k : ℕ) (old new : FieldNumbers) : Type 0 where
  pub shape : IsSameShape old new
  pub there : (m : ℕ) → m < k → number_at new (hole_of holes m) ≡ get_or list (from + m) (pos 0)
  pub others : (spot : Spot) → IsSpot old spot → ((m : ℕ) → m < k → spot ≢ hole_of holes m) → number_at new spot ≡ number_at old spot

pub filled_more : (holes : List Hole) (from : ℕ) (list : List ℤ) (k : ℕ) (old f new : FieldNumbers) (x : ℤ) → k < length holes
    → ((m : ℕ) → m < length holes → IsSpot old (hole_of holes m))
    → ((m l : ℕ) → m < length holes → l < length holes → hole_of holes m ≡ hole_of holes l → m ≡ l)
    → Filled holes from list k old f → Sets f new (hole_of holes k) x → x ≡ get_or list (from + k) (pos 0) → Filled holes from list (k + 1) old new
filled_more holes from list k old f new x within on once filled sets is = record {
  shape = same_shapes old f new filled.shape sets.shape;
  there = λ m l. elim (cases_eq m k) [
    | inl e ↦
        let P : ℕ → Type 0 = λ n. number_at new (hole_of holes n) ≡ get_or list (from + n) (pos 0) in
        subst P (sym e) (sets.there ∙ is)
    | inr ne ↦
        sets.others (hole_of holes m) (spot_kept old f filled.shape (hole_of holes m) (on m (omega arith))) (λ e. ne (once m k (omega arith) within e))
        ∙ filled.there m (omega arith)
  ];
  others = λ spot on_old apart.
      sets.others spot (spot_kept old f filled.shape spot on_old) (apart k (omega arith))
      ∙ filled.others spot on_old (λ m l. apart m (omega arith));
}
