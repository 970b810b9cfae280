-- How members that may be left out are written. Ours, unless a source stands beside.
use Rattle.std.specs.Prelude.{List, [], Option, Some, None}
use Rattle.serde_json.specs.Data.{Data}
use Rattle.meta_types.specs.Text.{Text}
use Rattle.json.specs.Token.{Token}
use Rattle.gc_report.specs.Writing.{member_tokens}

-- the tokens of a member that may be left out
abbrev pub tokens_if : Text → Option Data → List Token
tokens_if key None = []
tokens_if key (Some d) = member_tokens key d
