-- How a file that is written goes on from what was written.
use Rattle.std.proofs.Common.{◌≡◌, ◌≢◌, ◌∙◌, sym, subst, refl, ℕ, ◌+◌, ◌<◌, List, length, take, get_or, arith, length-take}
use Rattle.std.proofs.lemmas.List.{get_or-take, get_or_default}
use Rattle.std.specs.Prelude.{All}
use Rattle.std.specs.FinMap.{get}
use Rattle.std.proofs.lemmas.List.Elements.{All-more, All-nil}
use Rattle.cpl_io.specs.Files.{Files, Has, OthersStand}
use Rattle.cpl_top.specs.Leaves.{AreWritten}
use Rattle.cpl_top.specs.Replies.{AreApart}
use Rattle.cpl_top.specs.declared.output.Output.{Output}

within : {X : Type 0} (xs : List X) (n i : ℕ) → i < n → i < length xs → i < length (take n xs)
within xs n i h l = omega (arith, length-take n xs)

-- what holds of each element of a front
front_at : {X : Type 0} (P : X → Type 0) (xs : List X) (n i : ℕ) (d : X) → All P (take n xs) → i < n → i < length xs → P (get_or xs i d)
front_at P xs n i d all h l = subst P (get_or-take n xs i d h) (all i d (within xs n i h l))

pub written_start : (outputs : List Output) (files : Files) → AreWritten outputs 0 0 files files
written_start outputs files = record { stand = All-nil (λ output. Has files output.name output.bytes); others = λ name h. refl }

fewer : {X : Type 0} (P : X → Type 0) (xs : List X) (n : ℕ) → All P (take (n + 1) xs) → All P (take n xs)
fewer P xs n all i d h =
    let lt : i < n = omega (arith, length-take n xs) in
    subst P (sym (get_or-take n xs i d lt)) (front_at P xs (n + 1) i d all (omega arith) (omega (arith, length-take n xs)))

-- one more may have been begun
pub written_wider : (outputs : List Output) (whole begun : ℕ) (old new : Files) → AreWritten outputs whole begun old new → AreWritten outputs whole (begun + 1) old new
written_wider outputs whole begun old new written = record { stand = written.stand; others = λ name apart. written.others name (fewer (λ output. name ≢ output.name) outputs begun apart) }

module _ (outputs : List Output) (k : ℕ) (o : Output) (old mid new : Files) (lt : k < length outputs) (is : o ≡ get_or outputs k o) (before : AreWritten outputs k k old mid) (others : OthersStand mid new o.name) where
  kept_others : (name : List ℕ) → All (λ output. name ≢ output.name) (take (k + 1) outputs) → get new name ≡ get old name
  kept_others name apart =
      let P : Output → Type 0 = λ output. name ≢ output.name in
      let ne : name ≢ o.name = subst P (sym is) (front_at P outputs (k + 1) k o apart (omega arith) lt) in
      others name ne ∙ before.others name (fewer P outputs k apart)

  kept_stand : AreApart outputs → All (λ output. Has new output.name output.bytes) (take k outputs)
  kept_stand apart i d h =
      let lt' : i < k = omega (arith, length-take k outputs) in
      let x = get_or (take k outputs) i d in
      let here : x ≡ get_or outputs i d = get_or-take k outputs i d lt' in
      let ne : x.name ≢ o.name = subst (λ (y : Output). y.name ≢ o.name) (sym here) (subst (λ (y : Output). (get_or outputs i d).name ≢ y.name) (sym (is ∙ same_default)) (apart i k d lt' lt)) in
      others x.name ne ∙ before.stand i d h
    where
      same_default : get_or outputs k o ≡ get_or outputs k d
      same_default = get_or_default outputs k o d lt

  pub written_failed : AreApart outputs → AreWritten outputs k (k + 1) old new
  written_failed apart = record { stand = kept_stand apart; others = kept_others }

  pub written_more : AreApart outputs → Has new o.name o.bytes → AreWritten outputs (k + 1) (k + 1) old new
  written_more apart has = record {
    stand = All-more (λ output. Has new output.name output.bytes) outputs k o lt (kept_stand apart) (subst (λ (y : Output). Has new y.name y.bytes) is has);
    others = kept_others;
  }
