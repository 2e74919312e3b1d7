-- The lines of rows, one after the other.
use Rattle.std.proofs.Common.{◌≡◌, ℕ, ◌<◌, ◌+◌, List, [], ◌∷◌, ◌++◌, length, map, take, get_or, ap, sym, subst, ◌∙◌}
use Rattle.std.proofs.lemmas.List.{flat_map_more, map_more}
use Rattle.std.specs.List.{flat_map}
use Rattle.std.specs.Prelude.{Vec}
use Rattle.std.specs.declared.alloc.Global.{Global}
use Rattle.csv.specs.declared.writer.Writer.{Writer}
use Rattle.cpl_stocks.specs.Lines.{line}
use Rattle.cpl_stocks.specs.Writers.{Wrote}

-- one more row
rows_more : {R : Type 0} (fields : R → List (List ℕ)) (rows : List R) (i : ℕ) (row : R) (before : List ℕ) → i < length rows → row ≡ get_or rows i row
    → (before ++ flat_map line (map fields (take i rows))) ++ line (fields row) ≡ before ++ flat_map line (map fields (take (i + 1) rows))
rows_more {R} fields rows i row before below is =
    flat_map_more line before (map fields (take i rows)) (fields row)
    ∙ ap (λ (all : List (List (List ℕ))). before ++ flat_map line all)
    (ap (λ (last : R). map fields (take i rows) ++ fields last ∷ []) is ∙ sym (map_more fields rows i row below))

-- one more row was written, as these fields
pub wrote_row : {R : Type 0} (writer : Writer (Vec ℕ Global)) (fields : R → List (List ℕ)) (rows : List R) (i : ℕ) (row : R) (before : List ℕ) (made : List (List ℕ))
    → i < length rows → row ≡ get_or rows i row → made ≡ fields row
    → Wrote writer ((before ++ flat_map line (map fields (take i rows))) ++ line made) → Wrote writer (before ++ flat_map line (map fields (take (i + 1) rows)))
wrote_row writer fields rows i row before made below is same wrote =
    let all = before ++ flat_map line (map fields (take i rows)) in
    subst (Wrote writer) (ap (λ (made : List (List ℕ)). all ++ line made) same ∙ rows_more fields rows i row before below is) wrote
