-- Which replies have a text that stands in the program. Ours, unless a source stands beside.
use Rattle.std.specs.Prelude.{Bool, true, false}
use Rattle.meta_types.specs.declared.reply.Reply.{Reply}
use Rattle.meta_types.specs.declared.reply.Reply.TheVariants as R

-- a reply that names nothing
abbrev pub is_done : Reply → Bool
is_done R.Done = true
is_done (R.Names names) = false
is_done (R.Row row) = false
is_done (R.Resources resources) = false
