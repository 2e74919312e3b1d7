-- What moves through the south sides of a row's inner cells, on the way to the next row.
use Rattle.std.proofs.Common.{◌≡◌, ◌∙◌, sym, subst, ℕ, ◌+◌, ◌<◌, ◌≤◌, arith, inl, inr, List, length, get_or, slice_set, get_or-set_same, get_or-set_other}
use Rattle.std.proofs.lemmas.Bool.{cases_eq}
use Rattle.std.proofs.lemmas.List.{length-set}
use Rattle.cpl_mosaic.specs.declared.parts.Side.TheVariants.{S}
use Rattle.cpl_ice.specs.declared.parts.Salty.{Salty}
use Rattle.cpl_transport.specs.Salts.{nothing}
use Rattle.cpl_ocean.specs.declared.basin.Basin.{Basin}
use Rattle.cpl_ocean.specs.declared.fields.Fields.{Fields}
use Rattle.cpl_ocean.specs.Rows.{AreSouths, IsFlow, out_in}

module _ (basin : Basin) (slope : ℕ) (fields : Fields) where
  -- those of row j, and before column i already those of the next row
  pub record AreCarried (j i : ℕ) (souths : List Salty) : Type 0 where
    pub count : length souths ≡ basin.nx
    pub done : (k : ℕ) → 2 ≤ k → k < i → IsFlow (get_or souths k nothing) (out_in basin slope fields S k (j + 1))
    pub rest : (k : ℕ) → i ≤ k → 2 ≤ k → k + 2 < basin.nx → IsFlow (get_or souths k nothing) (out_in basin slope fields S k j)

  pub carried_start : (j : ℕ) (souths : List Salty) → AreSouths basin slope fields j souths → AreCarried j 2 souths
  carried_start j souths are = record { count = are.count; done = λ k some l. absurd (omega arith); rest = λ k from some l. are.each k some l }

  pub carried_more : (j i : ℕ) (souths : List Salty) → AreCarried j i souths → i < basin.nx → (v : Salty) → IsFlow v (out_in basin slope fields S i (j + 1)) → AreCarried j (i + 1) (slice_set souths i v)
  carried_more j i souths are within v is = record {
    count = length-set souths i v ∙ are.count;
    done = λ k some l. elim (cases_eq k i) [
      | inl e ↦
          let count = are.count in
          let P : ℕ → Type 0 = λ m. IsFlow (get_or (slice_set souths i v) m nothing) (out_in basin slope fields S m (j + 1)) in
          let Q : Salty → Type 0 = λ y. IsFlow y (out_in basin slope fields S i (j + 1)) in
          subst P (sym e) (subst Q (sym (get_or-set_same souths i v nothing (omega arith))) is)
      | inr ne ↦
          let Q : Salty → Type 0 = λ y. IsFlow y (out_in basin slope fields S k (j + 1)) in
          subst Q (sym (get_or-set_other souths i k v nothing ne)) (are.done k some (omega arith))
    ];
    rest = λ k from some l.
        let Q : Salty → Type 0 = λ y. IsFlow y (out_in basin slope fields S k j) in
        subst Q (sym (get_or-set_other souths i k v nothing (λ e. absurd (omega arith)))) (are.rest k (omega arith) some l);
  }

  pub carried_all : (j i : ℕ) (souths : List Salty) → basin.nx ≤ i + 2 → AreCarried j i souths → AreSouths basin slope fields (j + 1) souths
  carried_all j i souths all are = record { count = are.count; each = λ k some l. are.done k some (omega arith) }

  -- those of the first columns
  pub record AreSouthsTo (j i : ℕ) (souths : List Salty) : Type 0 where
    pub count : length souths ≡ basin.nx
    pub each : (k : ℕ) → 2 ≤ k → k < i → IsFlow (get_or souths k nothing) (out_in basin slope fields S k j)

  pub souths_more : (j i : ℕ) (souths : List Salty) → AreSouthsTo j i souths → i < basin.nx → (v : Salty) → IsFlow v (out_in basin slope fields S i j) → AreSouthsTo j (i + 1) (slice_set souths i v)
  souths_more j i souths are within v is = record {
    count = length-set souths i v ∙ are.count;
    each = λ k some l. elim (cases_eq k i) [
      | inl e ↦
          let count = are.count in
          let P : ℕ → Type 0 = λ m. IsFlow (get_or (slice_set souths i v) m nothing) (out_in basin slope fields S m j) in
          let Q : Salty → Type 0 = λ y. IsFlow y (out_in basin slope fields S i j) in
          subst P (sym e) (subst Q (sym (get_or-set_same souths i v nothing (omega arith))) is)
      | inr ne ↦
          let Q : Salty → Type 0 = λ y. IsFlow y (out_in basin slope fields S k j) in
          subst Q (sym (get_or-set_other souths i k v nothing ne)) (are.each k some (omega arith))
    ];
  }

  pub souths_all : (j i : ℕ) (souths : List Salty) → basin.nx ≤ i + 2 → AreSouthsTo j i souths → AreSouths basin slope fields j souths
  souths_all j i souths all are = record { count = are.count; each = λ k some l. are.each k some (omega arith) }
