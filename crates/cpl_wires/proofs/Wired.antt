-- The wiring of a run by pieces keeps the rules of wirings.
use Rattle.std.proofs.Common.{cond, ◌≡◌, ◌≢◌, ◌∙◌, sym, ap, subst, ℕ, ◌^◌, ◌<◌, ◌≤◌, arith, Bool, List, [], length, get_or, eqb, ⊎_elim}
use Rattle.std.specs.Prelude.{ℤ, All, Option, Some, None}
use Rattle.std.specs.List.{range_with_len, count_by}
use Rattle.std.proofs.lemmas.Bool.{cases_lt, cond-false, ne_eqb}
use Rattle.std.proofs.lemmas.List.{get_or-map, get_or_past, length-map}
use Rattle.std.proofs.lemmas.List.Elements.{All-map}
use Rattle.std.proofs.lemmas.List.FromFn.{length-map-range_with_len, get_or-map-range_with_len}
use Rattle.cpl_core.specs.declared.wiring.Act.{Act}
use Rattle.cpl_core.specs.declared.wiring.Act.TheVariants.{Post, Take, Compute}
use Rattle.cpl_core.specs.declared.wiring.Channel.{Channel}
use Rattle.cpl_core.specs.Wires.{IsWired, IsChannel, IsKnown, channel_of, poster_of, taker_of, len_of, uses_of, value_of, script_of, is_post, is_take}
use Rattle.cpl_fixed.specs.declared.words.Component.{Component}
use Rattle.cpl_wires.specs.declared.parts.Purpose.TheVariants.{Sums}
use Rattle.cpl_wires.specs.declared.parts.Stop.{Stop}
use Rattle.cpl_wires.specs.Settings.{Setting, IsSetting, piece_count}
use Rattle.cpl_wires.specs.Purposes.{giver, receiver, uses_for}
use Rattle.cpl_wires.specs.Edges.{edges_of, edge_at, length_of}
use Rattle.cpl_wires.specs.Stops.{stops, script}
use Rattle.cpl_wires.specs.Wirings.{Value, HasLengths, channel_for, wires_of}
use Rattle.cpl_wires.specs.Laws.{IsOf, IsOwnAct, IsSpelledOut}
use Rattle.cpl_wires.proofs.Members.{is_edge, piece_within}
use Rattle.cpl_wires.proofs.Few.{pieces_few, uses_few, stops_few}
use Rattle.cpl_wires.proofs.Stopped.{all_own, is_used}

-- WHAT STANDS IN IT

pub channel_count : (setting : Setting) (value : Value) → length (wires_of setting value).channels ≡ length (edges_of setting)
unfolding wires_of
channel_count setting value = length-map (edges_of setting) (channel_for setting value)

pub script_count : (setting : Setting) (value : Value) → length (wires_of setting value).scripts ≡ piece_count setting
unfolding wires_of
script_count setting value = length-map-range_with_len (script setting) 0 (piece_count setting)

pub channel_is : (setting : Setting) (value : Value) (edge : ℕ) → edge < length (edges_of setting) → channel_of (wires_of setting value) edge ≡ channel_for setting value (edge_at setting edge)
unfolding wires_of
channel_is setting value edge l =
    get_or-map (channel_for setting value) (edges_of setting) edge (record { purpose = Sums; from = 0; to = 0 }) (record { from = 0; to = 0; len = 0; values = [] }) l

pub script_is : (setting : Setting) (value : Value) (piece : ℕ) → piece < piece_count setting → script_of (wires_of setting value) piece ≡ script setting piece
unfolding wires_of
script_is setting value piece l = get_or-map-range_with_len (script setting) 0 (piece_count setting) piece piece [] l (omega arith)

pub script_past : (setting : Setting) (value : Value) (piece : ℕ) → piece_count setting ≤ piece → script_of (wires_of setting value) piece ≡ []
script_past setting value piece past =
    let count = script_count setting value in get_or_past (wires_of setting value).scripts piece [] (omega arith)

pub uses_are : (setting : Setting) (value : Value) (edge : ℕ) → edge < length (edges_of setting) → uses_of (wires_of setting value) edge ≡ uses_for setting.names (edge_at setting edge).purpose
uses_are setting value edge l =
    ap (λ (channel : Channel). length channel.values) (channel_is setting value edge l)
    ∙ length-map-range_with_len (value (edge_at setting edge)) 0 (uses_for setting.names (edge_at setting edge).purpose)

pub value_is : (setting : Setting) (value : Value) (edge k : ℕ) → edge < length (edges_of setting) → k < uses_for setting.names (edge_at setting edge).purpose
    → value_of (wires_of setting value) edge k ≡ value (edge_at setting edge) k
value_is setting value edge k l h =
    ap (λ (channel : Channel). get_or channel.values k []) (channel_is setting value edge l)
    ∙ get_or-map-range_with_len (value (edge_at setting edge)) 0 (uses_for setting.names (edge_at setting edge).purpose) k k [] h (omega arith)

-- THE RULES

of_all : (setting : Setting) → IsSetting setting → (others : ℕ) (option : Option Component) (piece : ℕ) → others ≤ piece_count setting → IsOf setting others option piece → piece < piece_count setting
of_all setting is others (Some component) piece few own = piece_within setting component piece own.1
of_all setting is others None piece few own = omega arith

lengths : (setting : Setting) (value : Value) (edge : ℕ) → edge < length (edges_of setting) → HasLengths setting value
    → All (λ (list : List ℤ). length list ≡ len_of (wires_of setting value) edge) (channel_of (wires_of setting value) edge).values
lengths setting value edge l fits =
    let own = edge_at setting edge in
    subst (λ (channel : Channel). All (λ (list : List ℤ). length list ≡ channel.len) channel.values) (sym (channel_is setting value edge l))
    (All-map (λ (list : List ℤ). length list ≡ length_of setting own) (value own) (range_with_len 0 (uses_for setting.names own.purpose))
    (λ k d h. fits edge (get_or (range_with_len 0 (uses_for setting.names own.purpose)) k d) l))

counted_by : (setting : Setting) (value : Value) (test : Act → Bool) (own uses : ℕ) → own < piece_count setting
    → ((piece : ℕ) → count_by test (script setting piece) ≡ cond (eqb piece own) uses 0)
    → (piece : ℕ) → count_by test (script_of (wires_of setting value) piece) ≡ cond (eqb piece own) uses 0
counted_by setting value test own uses below each piece =
    ⊎_elim
    (λ within. ap (count_by test) (script_is setting value piece within) ∙ each piece)
    (λ past.
    let other : piece ≢ own = omega arith in
    ap (count_by test) (script_past setting value piece past) ∙ sym (cond-false (eqb piece own) uses 0 (ne_eqb piece own other)))
    (cases_lt piece (piece_count setting))

is_channel : (setting : Setting) (value : Value) → IsSetting setting → HasLengths setting value → (edge : ℕ) → edge < length (edges_of setting) → IsChannel (wires_of setting value) edge
is_channel setting value is fits edge l =
    let wires = wires_of setting value in
    let own = edge_at setting edge in
    let channel = channel_is setting value edge l in
    let from : poster_of wires edge ≡ own.from = ap (λ (c : Channel). c.from) channel in
    let to : taker_of wires edge ≡ own.to = ap (λ (c : Channel). c.to) channel in
    let uses = uses_are setting value edge l in
    let count = script_count setting value in
    let few = pieces_few setting is in
    let pieces = is_edge setting edge l in
    let from_below = of_all setting is (piece_count setting) (giver own.purpose) own.from (omega arith) pieces.from in
    let to_below = of_all setting is 1 (receiver own.purpose) own.to (omega arith) pieces.to in
    let used = is_used setting edge l in
    record {
      lengths = lengths setting value edge l fits;
      most = let most = uses_few setting.names is.names_are own.purpose in omega arith;
      poster = omega arith;
      taker = omega arith;
      posts = λ piece. counted_by setting value (is_post edge) own.from (uses_for setting.names own.purpose) from_below used.posts piece
          ∙ (λ i. cond (eqb piece (sym from i)) (sym uses i) 0);
      takes = λ piece. counted_by setting value (is_take edge) own.to (uses_for setting.names own.purpose) to_below used.takes piece
          ∙ (λ i. cond (eqb piece (sym to i)) (sym uses i) 0);
    }

known_act : (setting : Setting) (value : Value) (piece : ℕ) (stop : Stop) (act : Act) → IsOwnAct setting piece stop act → IsKnown (wires_of setting value) act
known_act setting value piece stop (Post edge) own = let count = channel_count setting value in let known = own.known in omega arith
known_act setting value piece stop (Take edge) own = let count = channel_count setting value in let known = own.known in omega arith
known_act setting value piece stop Compute own = tt

known_script : (setting : Setting) (value : Value) (piece : ℕ) → All (IsKnown (wires_of setting value)) (script setting piece)
known_script setting value piece =
    All-map (IsKnown (wires_of setting value)) (λ (stop : Stop). stop.act) (stops setting piece)
    (λ k d h. known_act setting value piece (get_or (stops setting piece) k d) (get_or (stops setting piece) k d).act (all_own setting piece k d h))

by_piece : (setting : Setting) (value : Value) (P : List Act → Type 0) → P [] → ((piece : ℕ) → P (script setting piece)) → (piece : ℕ) → P (script_of (wires_of setting value) piece)
by_piece setting value P none each piece =
    ⊎_elim
    (λ within. subst P (sym (script_is setting value piece within)) (each piece))
    (λ past. subst P (sym (script_past setting value piece past)) none)
    (cases_lt piece (piece_count setting))

pub is_wired : (setting : Setting) (value : Value) → IsSetting setting → HasLengths setting value → IsWired (wires_of setting value)
is_wired setting value is fits = record {
  channels = λ edge l. let count = channel_count setting value in is_channel setting value is fits edge (omega arith);
  known = by_piece setting value (All (IsKnown (wires_of setting value))) (λ k d h. absurd (omega arith)) (known_script setting value);
  short = by_piece setting value (λ acts. length acts ≤ 2 ^ 62) (omega arith)
      (λ piece. let len = length-map (stops setting piece) (λ (stop : Stop). stop.act) in let few = stops_few setting is piece in omega arith);
}

pub is_spelled_out : (setting : Setting) (value : Value) → IsSpelledOut setting value
is_spelled_out setting value = record {
  edges = channel_count setting value;
  pieces = script_count setting value;
  from = λ edge l. ap (λ (c : Channel). c.from) (channel_is setting value edge l);
  to = λ edge l. ap (λ (c : Channel). c.to) (channel_is setting value edge l);
  lengths = λ edge l. ap (λ (c : Channel). c.len) (channel_is setting value edge l);
  uses = uses_are setting value;
  values = value_is setting value;
  scripts = script_is setting value;
}
