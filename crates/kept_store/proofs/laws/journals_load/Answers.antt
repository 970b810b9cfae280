use Rattle.kept_store.proofs.LoadedLines.{scripts_load, groups_load, ends_ask_nothing}
use Rattle.kept_store.proofs.laws.journals_load.Goals as goal

-- lines that end no checkpoint are all done, in their order
pub returns : goal.returns
returns c = record { scripts = scripts_load; groups = groups_load; ends = ends_ask_nothing }
