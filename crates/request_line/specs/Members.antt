-- What a member of an object says. Ours, unless a source stands beside.
use Rattle.std.specs.Prelude.{ℕ, List, [], ◌∷◌, Option, unwrap_or, option_and_then, option_map, codes}
use Rattle.std.specs.Option.{option_map_or}
use Rattle.serde_json.specs.Data as json
use Rattle.serde_json.specs.Find.{get_member, as_str, as_object, as_number, as_u64}
use Rattle.meta_types.specs.Text.{Text}

-- the text of a member; of a repeated member JSON keeps the last
abbrev pub text_at : Text → json.Members → Text
text_at key ms = unwrap_or (option_and_then as_str (get_member key ms)) []

-- the text of a member that may be left out
abbrev pub text_if_any : Text → json.Members → Option Text
text_if_any key ms = option_and_then as_str (get_member key ms)

-- the whole number of a member
abbrev pub whole_at : Text → json.Members → ℕ
whole_at key ms = unwrap_or (option_and_then as_u64 (option_and_then as_number (get_member key ms))) 0

-- the keys and values of an object of texts, by the bytes of the keys
abbrev pub pairs_from : json.Members → List (Text × Text)
pairs_from json.no_members = []
pairs_from (json.member k d ms) = (k, unwrap_or (as_str d) []) ∷ pairs_from ms

-- the labels, which may be left out
abbrev pub labels_at : json.Members → List (Text × Text)
labels_at ms = option_map_or pairs_from (option_and_then as_object (get_member (codes "labels") ms)) []

-- the same of any member, with nothing where it is left out
abbrev pub labels_if_any : Text → json.Members → Option (List (Text × Text))
labels_if_any key ms = option_map pairs_from (option_and_then as_object (get_member key ms))
