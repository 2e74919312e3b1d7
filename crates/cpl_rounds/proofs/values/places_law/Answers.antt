use Rattle.std.proofs.lemmas.List.{get_or-map, length-map}
use Rattle.cpl_mosaic.specs.declared.parts.Side.TheVariants.{W}
use Rattle.cpl_rounds.specs.Values.{cell_number_at, side_of}
use Rattle.cpl_rounds.proofs.values.places_law.Goals as goal

pub returns : goal.returns
returns c = record {
  cells = λ layout piece places. record {
    count = length-map places (cell_number_at layout piece);
    each = λ q l. get_or-map (cell_number_at layout piece) places q (0, 0) 0 l;
  };
  sides = λ layout piece spots. record {
    count = length-map spots (side_of layout piece);
    each = λ q l. get_or-map (side_of layout piece) spots q (0, 0, W) (0, W) l;
  };
}
