-- What a writer has written: tokens of JSON, one behind the other. Ours, unless a source stands
-- beside.
use Rattle.std.specs.Prelude.{◌≡◌, List, ◌∷◌, ◌++◌}
use Rattle.json.specs.Token.{Token}
use Rattle.json.specs.Tree.{json_tokens}
use Rattle.json.specs.Written.{Written}
use Rattle.serde_json.specs.Data.{Data}
use Rattle.serde_json.specs.Written.{outline}
use Rattle.meta_types.specs.Text.{Text}

-- the tokens of a value, whose print is its compact text
abbrev pub tokens_of : Data → List Token
tokens_of d = json_tokens (outline d)

-- the tokens of a member
abbrev pub member_tokens : Text → Data → List Token
member_tokens key d = Token.key key ∷ tokens_of d

-- these tokens were written behind what stood there
pub record Adds (old new : Written) (more : List Token) : Type 0 where
  pub before : new.before ≡ old.before
  pub tokens : new.tokens ≡ old.tokens ++ more
