-- Seeds that nobody knows who picks names.
use Rattle.std.specs.Prelude.{⊤}
use Rattle.row_tables.specs.declared.seed.Seed.{Seed}
use Rattle.row_tables.specs.declared.seed.Seed.TheVariants.{Fixed, Secret}

abbrev pub IsSecret : Seed → Type 0
IsSecret Fixed = ⊥
IsSecret (Secret state key) = ⊤
