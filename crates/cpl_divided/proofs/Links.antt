-- Strips that are carried one after another.
use Rattle.std.proofs.Common.{◌≡◌, ◌≢◌, ◌∙◌, refl, sym, ap, subst, ℕ, ◌+◌, ◌*◌, ◌<◌, ◌≤◌, arith, inl, inr, List, [], length, slice_set, get_or-set_same, get_or-set_other}
use Rattle.std.specs.Prelude.{ℤ}
use Rattle.std.proofs.lemmas.Bool.{cases_eq}
use Rattle.std.proofs.lemmas.List.{length-set}
use Rattle.cpl_field.specs.Spots.{FieldNumbers, Spot, IsSpot, IsSameShape, number_at}
use Rattle.cpl_strip.specs.declared.parts.Strip.{Strip}
use Rattle.cpl_strip.specs.Strips.{strip_at}
use Rattle.cpl_group.specs.Parts.{Packs, Unpacks, size_of, source, target, part_at}
use Rattle.cpl_group.proofs.Filled.{spot_kept, same_shapes}
use Rattle.cpl_divided.specs.Fields.{field_at, IsLinked, AreJoined, Carries}
use Rattle.cpl_divided.specs.Buffers.{buffer_at, AreBuffers, AreStarted}

-- the first s buffers have their numbers
pub record StartedTo (strips : List Strip) (fields : List FieldNumbers) (s : ℕ) (buffers : List (List ℤ)) : Type 0 where
  pub sized : AreBuffers strips buffers
  pub each : (m k : ℕ) → m < s → IsLinked strips m k → part_at (strip_at strips m) 0 (buffer_at buffers m) k ≡ number_at (field_at fields (strip_at strips m).from) (source (strip_at strips m) k)

pub started_none : (strips : List Strip) (fields : List FieldNumbers) (buffers : List (List ℤ)) → AreBuffers strips buffers → StartedTo strips fields 0 buffers
started_none strips fields buffers are = record { sized = are; each = λ m k l linked. absurd (omega arith) }

pub started_more : (strips : List Strip) (fields : List FieldNumbers) (s : ℕ) (buffers : List (List ℤ)) (new : List ℤ) → s < length strips → StartedTo strips fields s buffers → length new ≡ length (buffer_at buffers s) → Packs (strip_at strips s) 0 (field_at fields (strip_at strips s).from) (buffer_at buffers s) new → StartedTo strips fields (s + 1) (slice_set buffers s new)
started_more strips fields s buffers new within before same packs = record {
  sized = record {
    count = length-set buffers s new ∙ before.sized.count;
    each = λ m l. elim (cases_eq m s) [
      | inl e ↦
          let count = before.sized.count in
          let P : ℕ → Type 0 = λ n. length (buffer_at (slice_set buffers s new) n) ≡ size_of (strip_at strips n) * 1 in
          let here : buffer_at (slice_set buffers s new) s ≡ new = get_or-set_same buffers s new [] (omega arith) in
          subst P (sym e) (ap (λ (b : List ℤ). length b) here ∙ same ∙ before.sized.each s within)
      | inr ne ↦ ap (λ (b : List ℤ). length b) (get_or-set_other buffers s m new [] ne) ∙ before.sized.each m l
    ];
  };
  each = λ m k l linked. elim (cases_eq m s) [
    | inl e ↦
        let count = before.sized.count in
        let P : ℕ → Type 0 = λ n. IsLinked strips n k → part_at (strip_at strips n) 0 (buffer_at (slice_set buffers s new) n) k ≡ number_at (field_at fields (strip_at strips n).from) (source (strip_at strips n) k) in
        let here : buffer_at (slice_set buffers s new) s ≡ new = get_or-set_same buffers s new [] (omega arith) in
        subst P (sym e) (λ linked_here. ap (λ (b : List ℤ). part_at (strip_at strips s) 0 b k) here ∙ packs.part k linked_here.within) linked
    | inr ne ↦ ap (λ (b : List ℤ). part_at (strip_at strips m) 0 b k) (get_or-set_other buffers s m new [] ne) ∙ before.each m k (omega arith) linked
  ];
}

pub started_all : (strips : List Strip) (fields : List FieldNumbers) (s : ℕ) (buffers : List (List ℤ)) → length strips ≤ s → StartedTo strips fields s buffers → AreStarted strips fields buffers
started_all strips fields s buffers all to = record { sized = to.sized; each = λ m k linked. let l = linked.strip in to.each m k (omega arith) linked }

-- the holes of the first s strips have their buffers' numbers, and every other spot keeps its own
pub record CompletedTo (strips : List Strip) (buffers : List (List ℤ)) (s : ℕ) (old new : List FieldNumbers) : Type 0 where
  pub count : length new ≡ length old
  pub shapes : (p : ℕ) → IsSameShape (field_at old p) (field_at new p)
  pub holes : (m k : ℕ) → m < s → IsLinked strips m k → number_at (field_at new (strip_at strips m).to) (target (strip_at strips m) k) ≡ part_at (strip_at strips m) 0 (buffer_at buffers m) k
  pub others : (p : ℕ) (spot : Spot) → IsSpot (field_at old p) spot → ((m k : ℕ) → m < s → IsLinked strips m k → (strip_at strips m).to ≡ p → spot ≢ target (strip_at strips m) k) → number_at (field_at new p) spot ≡ number_at (field_at old p) spot

pub completed_none : (strips : List Strip) (buffers : List (List ℤ)) (fields : List FieldNumbers) → CompletedTo strips buffers 0 fields fields
completed_none strips buffers fields = record { count = refl; shapes = λ p. record { nx = refl; ny = refl; width = refl }; holes = λ m k l linked. absurd (omega arith); others = λ p spot on apart. refl }

module _ (strips : List Strip) (buffers : List (List ℤ)) (s : ℕ) (old fields : List FieldNumbers) (joined : AreJoined strips old) (within : s < length strips) (before : CompletedTo strips buffers s old fields) (new : FieldNumbers) (unpacks : Unpacks (strip_at strips s) 0 (buffer_at buffers s) (field_at fields (strip_at strips s).to) new) where
  abbrev after : List FieldNumbers
  after = slice_set fields (strip_at strips s).to new

  here : field_at after (strip_at strips s).to ≡ new
  here = let count = before.count in let below = joined.to s within in get_or-set_same fields (strip_at strips s).to new (record { nx = 0; ny = 0; width = 0; numbers = [] }) (omega arith)

  aside : (p : ℕ) → p ≢ (strip_at strips s).to → field_at after p ≡ field_at fields p
  aside p ne = get_or-set_other fields (strip_at strips s).to p new (record { nx = 0; ny = 0; width = 0; numbers = [] }) ne

  -- a spot that is no hole of strip s keeps its number
  kept : (p : ℕ) (spot : Spot) → IsSpot (field_at fields p) spot → ((k : ℕ) → IsLinked strips s k → (strip_at strips s).to ≡ p → spot ≢ target (strip_at strips s) k) → number_at (field_at after p) spot ≡ number_at (field_at fields p) spot
  kept p spot on apart = elim (cases_eq p (strip_at strips s).to) [
    | inl e ↦
        let P : ℕ → Type 0 = λ q. IsSpot (field_at fields q) spot → ((k : ℕ) → IsLinked strips s k → (strip_at strips s).to ≡ q → spot ≢ target (strip_at strips s) k) → number_at (field_at after q) spot ≡ number_at (field_at fields q) spot in
        subst P (sym e) (λ on_here apart_here. ap (λ (f : FieldNumbers). number_at f spot) here ∙ unpacks.others spot on_here (λ k l. apart_here k (record { strip = within; within = l }) refl)) on apart
    | inr ne ↦ ap (λ (f : FieldNumbers). number_at f spot) (aside p ne)
  ]

  shape_kept : (p : ℕ) → IsSameShape (field_at fields p) (field_at after p)
  shape_kept p = elim (cases_eq p (strip_at strips s).to) [
    | inl e ↦
        let P : ℕ → Type 0 = λ q. IsSameShape (field_at fields q) (field_at after q) in
        subst P (sym e) (subst (λ (f : FieldNumbers). IsSameShape (field_at fields (strip_at strips s).to) f) (sym here) unpacks.shape)
    | inr ne ↦ subst (λ (f : FieldNumbers). IsSameShape (field_at fields p) f) (sym (aside p ne)) (record { nx = refl; ny = refl; width = refl })
  ]

  pub completed_more : CompletedTo strips buffers (s + 1) old (slice_set fields (strip_at strips s).to new)
  completed_more = record {
    count = length-set fields (strip_at strips s).to new ∙ before.count;
    shapes = λ p. same_shapes (field_at old p) (field_at fields p) (field_at after p) (before.shapes p) (shape_kept p);
    holes = λ m k l linked. elim (cases_eq m s) [
      | inl e ↦
          let P : ℕ → Type 0 = λ n. IsLinked strips n k → number_at (field_at after (strip_at strips n).to) (target (strip_at strips n) k) ≡ part_at (strip_at strips n) 0 (buffer_at buffers n) k in
          subst P (sym e) (λ linked_here. ap (λ (f : FieldNumbers). number_at f (target (strip_at strips s) k)) here ∙ unpacks.holes k linked_here.within) linked
      | inr ne ↦
          kept (strip_at strips m).to (target (strip_at strips m) k)
          (spot_kept (field_at old (strip_at strips m).to) (field_at fields (strip_at strips m).to) (before.shapes (strip_at strips m).to) (target (strip_at strips m) k) (joined.holes m k linked))
          (λ j other same_piece same_hole. ne ((joined.once m k s j linked other (sym same_piece) same_hole).0))
          ∙ before.holes m k (omega arith) linked
    ];
    others = λ p spot on apart.
        kept p spot (spot_kept (field_at old p) (field_at fields p) (before.shapes p) spot on) (λ k linked same. apart s k (omega arith) linked same)
        ∙ before.others p spot on (λ m k l linked same. apart m k (omega arith) linked same);
  }

pub completed_all : (strips : List Strip) (buffers : List (List ℤ)) (s : ℕ) (old new : List FieldNumbers) → length strips ≤ s → AreStarted strips old buffers → CompletedTo strips buffers s old new → Carries strips old new
completed_all strips buffers s old new all started to = record {
  count = to.count;
  shapes = to.shapes;
  holes = λ m k linked. let l = linked.strip in to.holes m k (omega arith) linked ∙ started.each m k linked;
  others = λ p spot on apart. to.others p spot on (λ m k l linked same. apart m k linked same);
}
