use Rattle.std.proofs.Common.{rules}
use Rattle.std.proofs.lemmas.List.Sorted.{IsPermutation-put_mid}
use Rattle.table_sweep.proofs.depths.sort_run.Goals as goal

-- a sort of a part moves its keys alone
pub returns : goal.returns
returns c = search (rules, IsPermutation-put_mid)
