-- Rows but the one of a key. Ours.
use Rattle.std.specs.Prelude.{Bool, not}
use Rattle.meta_types.specs.Keys.{Key, is_key}

-- its key is another
abbrev pub is_other : {Row : Type 0} → (Row → Key) → Key → Row → Bool
is_other key_of key row = not (is_key key (key_of row))
