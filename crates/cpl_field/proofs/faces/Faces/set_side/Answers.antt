use Rattle.std.proofs.Common.{◌∙◌, arith, pos, to_z, of_z, w64}
use Rattle.std.specs.Prelude.{◌-ℤ◌}
use Rattle.std.proofs.lemmas.Int.{ints}
use Rattle.std.proofs.lemmas.List.{length-set}
use Rattle.std.proofs.lemmas.List.Elements.{All-set}
use Rattle.cpl_field.specs.Crossings.{IsFaceNumber}
use Rattle.cpl_field.proofs.Across.{west_by, east_by, south_by, north_by}
use Rattle.cpl_field.proofs.faces.Faces.set_side.Goals as goal

pub invariant_of-self : goal.invariant_of-self
invariant_of-self c = let are = c.self.invariant in record {
  some_columns = are.some_columns;
  columns = are.columns;
  some_rows = are.some_rows;
  rows = are.rows;
  eastward = length-set _ _ _ ∙ are.eastward;
  northward = are.northward;
  east = All-set IsFaceNumber c.self.inside.eastward.items c.place.result _ (record { least = omega (arith, ints); most = omega (arith, ints) }) are.east;
  north = are.north;
}

pub invariant_of-self-in-S : goal.invariant_of-self-in-S
invariant_of-self-in-S c = let are = c.self.invariant in record {
  some_columns = are.some_columns;
  columns = are.columns;
  some_rows = are.some_rows;
  rows = are.rows;
  eastward = are.eastward;
  northward = length-set _ _ _ ∙ are.northward;
  east = are.east;
  north = All-set IsFaceNumber c.self.inside.northward.items c.place-in-S.result _ (record { least = omega (arith, ints); most = omega (arith, ints) }) are.north;
}

pub returns-in-W : goal.returns-in-W
returns-in-W c = west_by _ c.args.self.now c.self.invariant c.self.view_is c.args.i c.args.j c.args.x c.args.side c.requires.side c.in-W.is (to_z w64 (of_z w64 (pos 0 -ℤ to_z w64 (of_z w64 c.args.x)))) c.place.result c.place.ensures (omega (arith, ints))

pub returns-in-E : goal.returns-in-E
returns-in-E c = east_by _ c.args.self.now c.self.invariant c.self.view_is c.args.i c.args.j c.args.x c.args.side c.requires.side c.in-E.is (to_z w64 (of_z w64 c.args.x)) c.place-in-E.result c.place-in-E.ensures (omega (arith, ints))

pub returns-in-S : goal.returns-in-S
returns-in-S c = south_by _ c.args.self.now c.self.invariant c.self.view_is c.args.i c.args.j c.args.x c.args.side c.requires.side c.in-S.is (to_z w64 (of_z w64 (pos 0 -ℤ to_z w64 (of_z w64 c.args.x)))) c.place-in-S.result c.place-in-S.ensures (omega (arith, ints))

pub returns-in-N : goal.returns-in-N
returns-in-N c = north_by _ c.args.self.now c.self.invariant c.self.view_is c.args.i c.args.j c.args.x c.args.side c.requires.side c.in-N.is (to_z w64 (of_z w64 c.args.x)) c.place-in-N.result c.place-in-N.ensures (omega (arith, ints))
