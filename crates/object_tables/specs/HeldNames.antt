-- The names that a set holds. Ours.
use Rattle.std.specs.Prelude.{List, [], ◌∷◌}
use Rattle.object_tables.specs.declared.names.Held.{Held}
use Rattle.object_tables.specs.declared.names.Held.TheVariants as H

-- as they arrived
abbrev pub names_held : {N : Type 0} → Held N → List N
names_held H.Nothing = []
names_held (H.One name) = name ∷ []
names_held (H.Several names) = names
