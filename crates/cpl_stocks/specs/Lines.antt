-- Lines of fields.
use Rattle.std.specs.Prelude.{◌≡◌, ℕ, List, [], ◌∷◌, ◌++◌}
use Rattle.std.specs.List.{flat_map, join_with_byte}
use Rattle.csv.specs.Records.{Row, fields_of, partial_of}

abbrev pub comma : ℕ
comma = 44

abbrev pub line_feed : ℕ
line_feed = 10

-- a line: its fields with commas between them, and a line feed
abbrev pub line : List (List ℕ) → List ℕ
line fields = join_with_byte comma fields ++ line_feed ∷ []

-- a table: the line of its columns' names, and then a line for each row
abbrev pub table : List (List ℕ) → List (List (List ℕ)) → List ℕ
table columns rows = line columns ++ flat_map line rows

-- these fields were added at the end of a line, and no other is begun
pub record Adds (old new : Row) (fields : List (List ℕ)) : Type 0 where
  pub added : fields_of new ≡ fields_of old ++ fields
  pub whole : partial_of new ≡ []
