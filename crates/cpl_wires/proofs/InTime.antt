-- A use of an edge is posted before it is taken, and taken before the next use is posted.
use Rattle.std.proofs.Common.{◌≡◌, ◌∙◌, refl, sym, ap, subst, ℕ, zero, suc, ◌+◌, ◌*◌, ◌<◌, ◌≤◌, arith, List, [], ◌∷◌, length, ⊎_elim}
use Rattle.std.specs.Prelude.{All, map}
use Rattle.std.specs.List.{flat_map}
use Rattle.std.proofs.Math.Nat.{mul-le-mul_right}
use Rattle.std.proofs.lemmas.Bool.{cases_lt}
use Rattle.std.proofs.lemmas.List.Elements.{All-append}
use Rattle.cpl_core.specs.declared.wiring.Act.TheVariants.{Post, Take, Compute}
use Rattle.cpl_namelist.specs.declared.names.Names.{Names}
use Rattle.cpl_namelist.specs.Ranges.{AreNames}
use Rattle.cpl_wires.specs.declared.parts.Purpose.{Purpose}
use Rattle.cpl_wires.specs.declared.parts.Purpose.TheVariants.{AirHalo, LandToAir, IceToAir, AirToLand, AirToIce, LandToIce, IceToOcean, OceanToIce, OceanHalo, Sums}
use Rattle.cpl_wires.specs.declared.parts.Job.TheVariants.{Gather}
use Rattle.cpl_wires.specs.declared.parts.Move.{Move}
use Rattle.cpl_wires.specs.declared.parts.Move.TheVariants.{Posts, Takes, Does}
use Rattle.cpl_wires.specs.declared.parts.Turn.{Turn}
use Rattle.cpl_wires.specs.declared.parts.Stop.{Stop}
use Rattle.cpl_wires.specs.Settings.{Setting, component_of}
use Rattle.cpl_wires.specs.Edges.{edge_at, posted_by, taken_by}
use Rattle.cpl_wires.specs.Turns.{turns}
use Rattle.cpl_wires.specs.Stops.{post_stop, take_stop, stops_by, stops_of, stops, stop_at, post_use, take_use, use_by, use_of}
use Rattle.cpl_wires.specs.Times.{time_of_turn}
use Rattle.cpl_wires.specs.Laws.{IsOwnAct}
use Rattle.cpl_wires.specs.TimeLaws.{PurposeIsPosted, PurposeIsTaken, MoveIsMade, IsTurn, IsInTime}
use Rattle.cpl_wires.proofs.Stopped.{is_own}
use Rattle.cpl_wires.proofs.Timely.{all_turns}
use Rattle.cpl_wires.proofs.Rising.{weight, time_is}

-- STEPS IN STEPS

-- a step in an earlier coupling step comes earlier
comes_first : (m n i later j : ℕ) → i < m → n < later → n * m + i < later * m + j
comes_first m n i later j l h =
    let more : (n + 1) * m ≤ later * m = mul-le-mul_right m (omega arith) in omega arith

same_step : (m n i other j : ℕ) → i < m → j < m → n * m + i ≡ other * m + j → (n ≡ other) × (i ≡ j)
same_step m n i other j l h e =
    ⊎_elim (λ less. let first = comes_first m n i other j l less in absurd (omega arith))
    (λ most. ⊎_elim (λ less. let first = comes_first m other j n i h less in absurd (omega arith))
    (λ least.
    let same : n ≡ other = omega arith in
    let product = ap (λ (k : ℕ). k * m) same in (same, omega arith))
    (cases_lt other n))
    (cases_lt n other)

next_step : (m n i other j : ℕ) → m ≤ 1_000 → i < m → j < m → n * m + i + 1 ≡ other * m + j → n * 28_000 + i * 4 + 4 ≤ other * 28_000 + j * 4
next_step m n i other j few l h e =
    ⊎_elim (λ less. omega arith)
    (λ most. ⊎_elim (λ less. let first = comes_first m other j n i h less in absurd (omega arith))
    (λ least.
    let same : n ≡ other = omega arith in
    let product = ap (λ (k : ℕ). k * m) same in omega arith)
    (cases_lt other n))
    (cases_lt n other)

-- PURPOSES

-- when a move is
abbrev pub when : (n i : ℕ) → Move → ℕ
when n i move = n * 28_000 + i * 4 + weight move

posted_first : (names : Names) (purpose : Purpose) (n i later j : ℕ) → PurposeIsPosted names purpose n i → PurposeIsTaken names purpose later j
    → post_use names purpose n i ≡ take_use names purpose later j → when n i (Posts purpose) < when later j (Takes purpose)
posted_first names AirHalo n i later j p t e = let same = same_step names.fast n i later j p.1 t.1 e in let a = same.0 in let b = same.1 in omega arith
posted_first names LandToAir n i later j p t e = let same = same_step names.fast n i later j p.1 t.1 e in let a = same.0 in let b = same.1 in omega arith
posted_first names IceToAir n i later j p t e = let same = same_step names.fast n i later j p.1 t.1 e in let a = same.0 in let b = same.1 in omega arith
posted_first names AirToLand n i later j p t e = let same = same_step names.fast n i later j p.1 t.1 e in let a = same.0 in let b = same.1 in omega arith
posted_first names AirToIce n i later j p t e = let same = same_step names.fast n i later j p.1 t.1 e in let a = same.0 in let b = same.1 in omega arith
posted_first names LandToIce n i later j p t e = let a = p.1 in let b = t.1 in omega arith
posted_first names IceToOcean n i later j p t e = let a = p.1 in let b = t.1.1 in let some = t.0 in omega arith
posted_first names OceanToIce n i later j p t e = let a = p.1 in let b = t.1.1 in let some = t.0 in omega arith
posted_first names OceanHalo n i later j p t e = let same = same_step names.ocean_steps n i later j p.1 t.1 e in let a = same.0 in let b = same.1 in omega arith
posted_first names Sums n i later j p t e = let a = p.1 in let b = t.1 in omega arith

taken_first : (names : Names) → AreNames names → (purpose : Purpose) (n i later j : ℕ) → PurposeIsTaken names purpose n i → PurposeIsPosted names purpose later j
    → take_use names purpose n i + 1 ≡ post_use names purpose later j → when n i (Takes purpose) < when later j (Posts purpose)
taken_first names are AirHalo n i later j t p e = let next = next_step names.fast n i later j are.fast.1 t.1 p.1 e in omega arith
taken_first names are LandToAir n i later j t p e = let next = next_step names.fast n i later j are.fast.1 t.1 p.1 e in omega arith
taken_first names are IceToAir n i later j t p e = let next = next_step names.fast n i later j are.fast.1 t.1 p.1 e in omega arith
taken_first names are AirToLand n i later j t p e = let next = next_step names.fast n i later j are.fast.1 t.1 p.1 e in omega arith
taken_first names are AirToIce n i later j t p e = let next = next_step names.fast n i later j are.fast.1 t.1 p.1 e in omega arith
taken_first names are LandToIce n i later j t p e = let a = t.1 in let b = p.1 in omega arith
taken_first names are IceToOcean n i later j t p e = let a = t.1.1 in let b = p.1 in let some = t.0 in omega arith
taken_first names are OceanToIce n i later j t p e = let a = t.1.1 in let b = p.1 in let some = t.0 in omega arith
taken_first names are OceanHalo n i later j t p e =
    let few = are.ocean_steps.1 in
    let next = next_step names.ocean_steps n i later j (omega arith) t.1 p.1 e in omega arith
taken_first names are Sums n i later j t p e = let a = t.1 in let b = p.1 in omega arith

-- STOPS

lists_each : {S T : Type 0} (Q : S → Type 0) (P : T → Type 0) (f : S → List T) (xs : List S) → ((x : S) → Q x → All P (f x)) → All Q xs → All P (flat_map f xs)
lists_each Q P f [] each all = λ k d h. absurd (omega arith)
lists_each Q P f (x ∷ xs) each all =
    All-append P (f x) (flat_map f xs) (each x (all 0 x (omega arith))) (lists_each Q P f xs each (λ k d h. all (suc k) d (omega arith)))

abbrev pub HasTurn : Setting → Stop → Type 0
HasTurn setting stop = IsTurn setting.names stop.turn

both : (setting : Setting) (stop : Stop) (others : List Stop) → HasTurn setting stop → All (HasTurn setting) others → All (HasTurn setting) (stop ∷ others)
both setting stop others own rest zero d h = own
both setting stop others own rest (suc k) d h = rest k d (omega arith)

mapped : {T : Type 0} (setting : Setting) (turn : Turn) (g : T → Stop) (ys : List T) → ((y : T) → (g y).turn ≡ turn) → IsTurn setting.names turn → All (HasTurn setting) (map g ys)
mapped setting turn g [] same is = λ k d h. absurd (omega arith)
mapped setting turn g (y ∷ ys) same is = both setting (g y) (map g ys) (subst (IsTurn setting.names) (sym (same y)) is) (mapped setting turn g ys same is)

turned_by : (setting : Setting) (piece : ℕ) (turn : Turn) (kind : Move) → IsTurn setting.names turn → All (HasTurn setting) (stops_by setting piece turn kind)
turned_by setting piece turn (Posts purpose) is = mapped setting turn (post_stop setting turn) (posted_by setting piece purpose) (λ edge. refl) is
turned_by setting piece turn (Takes purpose) is = mapped setting turn (take_stop setting turn) (taken_by setting piece purpose) (λ edge. refl) is
turned_by setting piece turn (Does job) is = both setting (record { act = Compute; slot = 0; turn = turn }) [] is (λ k d h. absurd (omega arith))

all_turned : (setting : Setting) (piece : ℕ) → All (HasTurn setting) (stops setting piece)
unfolding stops
all_turned setting piece =
    lists_each (IsTurn setting.names) (HasTurn setting) (stops_of setting piece) (turns setting piece)
    (λ turn is. turned_by setting piece turn turn.kind is) (all_turns setting.names (component_of setting piece) _)

-- each action's turn is in a step of the run
pub has_turn : (setting : Setting) (piece m : ℕ) → m < length (stops setting piece) → IsTurn setting.names (stop_at setting piece m).turn
has_turn setting piece m l = all_turned setting piece m (record { act = Compute; slot = 0; turn = record { kind = Does Gather; step = 0; sub = 0 } }) l

-- a turn that posts a purpose, or takes it
posts_at : (setting : Setting) (turn : Turn) (purpose : Purpose) → turn.kind ≡ Posts purpose → IsTurn setting.names turn
    → PurposeIsPosted setting.names purpose turn.step turn.sub × (use_of setting turn ≡ post_use setting.names purpose turn.step turn.sub) × (time_of_turn turn ≡ when turn.step turn.sub (Posts purpose))
unfolding use_of
posts_at setting turn purpose kind is = (
  subst (λ (move : Move). MoveIsMade setting.names move turn.step turn.sub) kind is,
  ap (λ (move : Move). use_by setting.names move turn.step turn.sub) kind,
  time_is turn ∙ ap (λ (move : Move). when turn.step turn.sub move) kind,
)

takes_at : (setting : Setting) (turn : Turn) (purpose : Purpose) → turn.kind ≡ Takes purpose → IsTurn setting.names turn
    → PurposeIsTaken setting.names purpose turn.step turn.sub × (use_of setting turn ≡ take_use setting.names purpose turn.step turn.sub) × (time_of_turn turn ≡ when turn.step turn.sub (Takes purpose))
unfolding use_of
takes_at setting turn purpose kind is = (
  subst (λ (move : Move). MoveIsMade setting.names move turn.step turn.sub) kind is,
  ap (λ (move : Move). use_by setting.names move turn.step turn.sub) kind,
  time_is turn ∙ ap (λ (move : Move). when turn.step turn.sub move) kind,
)

pub in_time : (setting : Setting) (edge : ℕ) → AreNames setting.names → IsInTime setting edge
in_time setting edge are = record {
  posted = λ from m to n l h post take same.
      let a = stop_at setting from m in
      let b = stop_at setting to n in
      let purpose = (edge_at setting edge).purpose in
      let own : IsOwnAct setting from a (Post edge) = subst (IsOwnAct setting from a) post (is_own setting from m l) in
      let other : IsOwnAct setting to b (Take edge) = subst (IsOwnAct setting to b) take (is_own setting to n h) in
      let p = posts_at setting a.turn purpose own.kind (has_turn setting from m l) in
      let t = takes_at setting b.turn purpose other.kind (has_turn setting to n h) in
      let first = posted_first setting.names purpose a.turn.step a.turn.sub b.turn.step b.turn.sub p.0 t.0 (sym p.1 ∙ same ∙ t.1) in
      let x = p.2 in
      let y = t.2 in omega arith;
  taken = λ from m to n l h post take next.
      let a = stop_at setting from m in
      let b = stop_at setting to n in
      let purpose = (edge_at setting edge).purpose in
      let own : IsOwnAct setting from a (Post edge) = subst (IsOwnAct setting from a) post (is_own setting from m l) in
      let other : IsOwnAct setting to b (Take edge) = subst (IsOwnAct setting to b) take (is_own setting to n h) in
      let p = posts_at setting a.turn purpose own.kind (has_turn setting from m l) in
      let t = takes_at setting b.turn purpose other.kind (has_turn setting to n h) in
      let up : take_use setting.names purpose b.turn.step b.turn.sub + 1 ≡ post_use setting.names purpose a.turn.step a.turn.sub =
      let u = p.1 in let v = t.1 in omega arith in
      let first = taken_first setting.names are purpose b.turn.step b.turn.sub a.turn.step a.turn.sub t.0 p.0 up in
      let x = p.2 in
      let y = t.2 in omega arith;
}
