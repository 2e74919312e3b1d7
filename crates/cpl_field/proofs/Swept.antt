-- What a sweep has computed so far.
use Rattle.std.proofs.Common.{◌≡◌, ◌∙◌, refl, sym, subst, ℕ, ◌+◌, ◌-◌, ◌*◌, ◌<◌, ◌≤◌, ◌⊎◌, arith, inl, inr, List, length, get_or, slice_set, get_or-set_same, get_or-set_other}
use Rattle.std.proofs.lemmas.Bool.{cases_eq, cases_lt}
use Rattle.std.proofs.lemmas.List.{length-set}
use Rattle.std.proofs.lemmas.Nat.{mul-add-lt, same_from_place}
use Rattle.cpl_field.specs.Spots.{FieldNumbers, CellAt, IsSpot}
use Rattle.cpl_field.specs.Sweeps.{ComputesFor, IsInside, IsInSpan, IsOnRim, IsRimOfRow}

-- a choice between a fact and its opposite
abbrev pub Either : Type 0 → Type 0
Either P = P ⊎ (P → ⊥)

both : (P Q : Type 0) → Either P → Either Q → Either (P × Q)
both P Q (inl p) (inl q) = inl (p, q)
both P Q (inr p) b = inr (λ w. p w.0)
both P Q (inl p) (inr q) = inr (λ w. q w.1)

below : (m n : ℕ) → Either (m < n)
below m n = elim (cases_lt m n) [ inl l ↦ inl l | inr le ↦ inr (λ l. absurd (omega arith)) ]

equal : (m n : ℕ) → Either (m ≡ n)
equal m n = elim (cases_eq m n) [ inl e ↦ inl e | inr ne ↦ inr ne ]

three : (P Q R : Type 0) → Either P → Either Q → Either R → Either (P × Q × R)
three P Q R (inl p) (inl q) (inl r) = inl (p, q, r)
three P Q R (inr p) b c = inr (λ w. p w.0)
three P Q R (inl p) (inr q) c = inr (λ w. q w.1)
three P Q R (inl p) (inl q) (inr r) = inr (λ w. r w.2)

span_of : (from to j i k : ℕ) → Either ((k ≡ j) × (from < i + 1) × (i < to)) → Either (IsInSpan from to j i k)
span_of from to j i k (inl w) = inl (record { row = w.0; west = omega arith; east = w.2 })
span_of from to j i k (inr never) = inr (λ s. never (s.row, omega (arith, s.west), s.east))

in_span : (from to j i k : ℕ) → Either (IsInSpan from to j i k)
in_span from to j i k = span_of from to j i k (three _ _ _ (equal k j) (below from (i + 1)) (below i to))

inside_of : (width : ℕ) (area : FieldNumbers) (i j : ℕ) → Either ((width < i + 1) × (i + width < area.nx)) → Either ((width < j + 1) × (j + width < area.ny)) → Either (IsInside width area i j)
inside_of width area i j (inl p) (inl q) = inl (record { west = omega (arith, p.0); east = p.1; south = omega (arith, q.0); north = q.1 })
inside_of width area i j (inr p) b = inr (λ is. p (omega (arith, is.west), is.east))
inside_of width area i j (inl p) (inr q) = inr (λ is. q (omega (arith, is.south), is.north))

pub is_inside : (width : ℕ) (area : FieldNumbers) (i j : ℕ) → Either (IsInside width area i j)
is_inside width area i j = inside_of width area i j (both _ _ (below width (i + 1)) (below (i + width) area.nx)) (both _ _ (below width (j + 1)) (below (j + width) area.ny))

rim_of : (width : ℕ) (area : FieldNumbers) (j i k : ℕ) → Either (k ≡ j) → Either (IsInside width area i k) → Either (IsRimOfRow width area j i k)
rim_of width area j i k (inl e) (inl is) = inr (λ w. w.rim is)
rim_of width area j i k (inl e) (inr never) = inl (record { row = e; rim = never })
rim_of width area j i k (inr ne) b = inr (λ w. ne w.row)

in_rim_row : (width : ℕ) (area : FieldNumbers) (j i k : ℕ) → Either (IsRimOfRow width area j i k)
in_rim_row width area j i k = rim_of width area j i k (equal k j) (is_inside width area i k)

-- a cell of the rows before one: on the rim, and inside
pub record IsRimBefore (width : ℕ) (area : FieldNumbers) (j : ℕ) (i k : ℕ) : Type 0 where
  pub before : k < j
  pub rim : IsOnRim width area i k

pub record IsInsideBefore (width : ℕ) (area : FieldNumbers) (j : ℕ) (i k : ℕ) : Type 0 where
  pub before : k < j
  pub inner : IsInside width area i k

module _ {A : Type 0} (none : A) (area : FieldNumbers) (next : ℕ → ℕ → A) where
  -- nothing is computed yet
  computes_none : (P : ℕ → ℕ → Type 0) (values : List A) → ((i j : ℕ) → IsSpot area (CellAt i j) → P i j → ⊥) → ComputesFor none area next P values values
  computes_none P values never = record { count = refl; meant = λ i j on p. absurd (never i j on p); others = λ i j on not. refl }

  -- one more set of cells is computed, beside those before
  computes_more : (P Q R : ℕ → ℕ → Type 0) (old values new : List A) → ComputesFor none area next P old values → ComputesFor none area next Q values new
      → ((i j : ℕ) → Either (Q i j))
      → ((i j : ℕ) → IsSpot area (CellAt i j) → R i j → P i j ⊎ Q i j)
      → ((i j : ℕ) → IsSpot area (CellAt i j) → P i j → R i j)
      → ((i j : ℕ) → IsSpot area (CellAt i j) → Q i j → R i j) → ComputesFor none area next R old new
  computes_more P Q R old values new before after decide either first second = record {
    count = after.count ∙ before.count;
    meant = λ i j on r. elim (decide i j) [
      | inl q ↦ after.meant i j on q
      | inr never ↦ after.others i j on never ∙ before.meant i j on (elim (either i j on r) [ inl p ↦ p | inr q ↦ absurd (never q) ])
    ];
    others = λ i j on never. after.others i j on (λ q. never (second i j on q)) ∙ before.others i j on (λ p. never (first i j on p));
  }

  -- one more cell of a row is computed
  pub computes_next : (from i j : ℕ) (old values : List A) → ComputesFor none area next (IsInSpan from i j) old values → length old ≡ area.nx * area.ny → from ≤ i → i < area.nx → j < area.ny → (v : A) (n : ℕ) → n ≡ j * area.nx + i → v ≡ next i j → ComputesFor none area next (IsInSpan from (i + 1) j) old (slice_set values n v)
  computes_next from i j old values before count west east north v n place is = record {
    count = length-set values n v ∙ before.count;
    meant = λ k l on s. elim (cases_eq k i) [
      | inl e ↦
          let row : l ≡ j = s.row in
          let at : n ≡ l * area.nx + k = place ∙ (λ t. sym row t * area.nx + sym e t) in
          let fits = mul-add-lt j area.nx i area.ny north east in
          let same_count = before.count in
          let P : ℕ → Type 0 = λ m. get_or (slice_set values n v) m none ≡ v in
          subst P at (get_or-set_same values n v none (omega arith)) ∙ is ∙ (λ t. next (sym e t) (sym row t))
      | inr ne ↦
          get_or-set_other values n (l * area.nx + k) v none (λ same. ne ((same_from_place l k j i area.nx on.0 east (same ∙ place)).1))
          ∙ before.meant k l on (record { row = s.row; west = s.west; east = let less = s.east in omega arith })
    ];
    others = λ k l on never.
        get_or-set_other values n (l * area.nx + k) v none
        (λ same. let at = same_from_place l k j i area.nx on.0 east (same ∙ place) in let column = at.1 in never (record { row = at.0; west = omega arith; east = omega arith }))
        ∙ before.others k l on (λ s. never (record { row = s.row; west = s.west; east = let less = s.east in omega arith }));
  }

  -- what was computed, by another name
  computes_by : (P Q : ℕ → ℕ → Type 0) (old new : List A) → ComputesFor none area next P old new → ((i j : ℕ) → IsSpot area (CellAt i j) → P i j → Q i j) → ((i j : ℕ) → IsSpot area (CellAt i j) → Q i j → P i j) → ComputesFor none area next Q old new
  computes_by P Q old new is to back = record {
    count = is.count;
    meant = λ i j on q. is.meant i j on (back i j on q);
    others = λ i j on never. is.others i j on (λ p. never (to i j on p));
  }

  module _ (width : ℕ) where
    -- the rim, row by row
    pub rim_rows : (j : ℕ) (old values new : List A) → ComputesFor none area next (IsRimBefore width area j) old values → ComputesFor none area next (IsRimOfRow width area j) values new → ComputesFor none area next (IsRimBefore width area (j + 1)) old new
    rim_rows j old values new before after =
        computes_more (IsRimBefore width area j) (IsRimOfRow width area j) (IsRimBefore width area (j + 1)) old values new before after (in_rim_row width area j)
        (λ i k on r. elim (cases_eq k j) [ inl e ↦ inr (record { row = e; rim = r.rim }) | inr ne ↦ let less = r.before in inl (record { before = omega arith; rim = r.rim }) ])
        (λ i k on p. let less = p.before in record { before = omega arith; rim = p.rim })
        (λ i k on q. let row = q.row in record { before = omega arith; rim = q.rim })

    pub rim_all : (j : ℕ) (old new : List A) → area.ny ≤ j → ComputesFor none area next (IsRimBefore width area j) old new → ComputesFor none area next (IsOnRim width area) old new
    rim_all j old new all is =
        computes_by (IsRimBefore width area j) (IsOnRim width area) old new is (λ i k on p. p.rim) (λ i k on rim. let row = on.1 in record { before = omega arith; rim = rim })

    -- the cells inside, row by row
    pub inner_rows : (j : ℕ) (old values new : List A) → width ≤ j → j + width < area.ny → ComputesFor none area next (IsInsideBefore width area j) old values → ComputesFor none area next (IsInSpan width (area.nx - width) j) values new → ComputesFor none area next (IsInsideBefore width area (j + 1)) old new
    inner_rows j old values new some more before after =
        computes_more (IsInsideBefore width area j) (IsInSpan width (area.nx - width) j) (IsInsideBefore width area (j + 1)) old values new before after (in_span width (area.nx - width) j)
        (λ i k on r. elim (cases_eq k j) [ inl e ↦ let is = r.inner in inr (record { row = e; west = omega (arith, is.west); east = omega (arith, is.east) }) | inr ne ↦ let less = r.before in inl (record { before = omega arith; inner = r.inner }) ])
        (λ i k on p. let less = p.before in record { before = omega arith; inner = p.inner })
        (λ i k on q. let row = q.row in let west = q.west in let east = q.east in record { before = omega arith; inner = record { west = omega arith; east = omega arith; south = omega arith; north = omega arith } })

    pub inner_all : (j : ℕ) (old new : List A) → area.ny ≤ j + width → ComputesFor none area next (IsInsideBefore width area j) old new → ComputesFor none area next (IsInside width area) old new
    inner_all j old new all is =
        computes_by (IsInsideBefore width area j) (IsInside width area) old new is (λ i k on p. p.inner) (λ i k on inner. let row = inner.north in record { before = omega arith; inner = inner })

    -- the rim of a row: all of it, or its ends
    pub rim_whole : (j : ℕ) (old new : List A) → ((i : ℕ) → IsInside width area i j → ⊥) → ComputesFor none area next (IsInSpan 0 area.nx j) old new → ComputesFor none area next (IsRimOfRow width area j) old new
    rim_whole j old new never is =
        computes_by (IsInSpan 0 area.nx j) (IsRimOfRow width area j) old new is
        (λ i k on s. let P : ℕ → Type 0 = λ m. IsOnRim width area i m in let row = s.row in record { row = row; rim = subst P (sym row) (never i) })
        (λ i k on r. record { row = r.row; west = omega arith; east = on.0 })

    pub rim_ends : (j : ℕ) (old values new : List A) → width ≤ j → j + width < area.ny → ComputesFor none area next (IsInSpan 0 width j) old values → ComputesFor none area next (IsInSpan (area.nx - width) area.nx j) values new → ComputesFor none area next (IsRimOfRow width area j) old new
    rim_ends j old values new first last before after =
        computes_more (IsInSpan 0 width j) (IsInSpan (area.nx - width) area.nx j) (IsRimOfRow width area j) old values new before after (in_span (area.nx - width) area.nx j)
        (λ i k on r. elim (cases_lt i width) [
          | inl few ↦ inl (record { row = r.row; west = omega arith; east = few })
          | inr some ↦ elim (cases_lt (i + width) area.nx) [
            | inl l ↦ let row = r.row in absurd (r.rim (record { west = some; east = l; south = omega arith; north = omega arith }))
            | inr le ↦ inr (record { row = r.row; west = omega arith; east = on.0 })
          ]
        ])
        (λ i k on s. let east = s.east in record { row = s.row; rim = λ inner. let west = inner.west in absurd (omega arith) })
        (λ i k on s. let west = s.west in record { row = s.row; rim = λ inner. let east = inner.east in absurd (omega arith) })
