-- Fields at the end of a line, one after the other.
use Rattle.std.proofs.Common.{◌≡◌, ℕ, List, [], ◌∷◌, ◌++◌, ap, subst, ◌∙◌, append_assoc}
use Rattle.csv.specs.Records.{Row}
use Rattle.cpl_stocks.specs.Lines.{Adds}

-- these fields and then others
pub and_fields : {a b c : Row} {xs ys : List (List ℕ)} → Adds a b xs → Adds b c ys → Adds a c (xs ++ ys)
and_fields {xs = xs} {ys = ys} first second = record {
  added = second.added ∙ ap (λ (fields : List (List ℕ)). fields ++ ys) first.added ∙ append_assoc _ xs ys;
  whole = second.whole;
}

-- these fields and then one that has these bytes
pub and_text : {a b c : Row} {xs : List (List ℕ)} {y z : List ℕ} → Adds a b xs → Adds b c (y ∷ []) → y ≡ z → Adds a c (xs ++ (z ∷ []))
and_text {b = b} {c = c} first second same = and_fields first (subst (λ (text : List ℕ). Adds b c (text ∷ [])) same second)
