use Rattle.std.proofs.Common.{rules}
use Rattle.std.proofs.Math.Dec.{leb}
use Rattle.std.proofs.lemmas.Bool.{leb-true, leb-false}
use Rattle.std.proofs.lemmas.List.Sorted.{IsPartitionPoint-from_clause, IsPartitionedBy-leb}
use Rattle.row_tables.proofs.slices.begun.Goals as goal

pub returns-clause-point : goal.returns-clause-point
returns-clause-point c =
    let place = c.args.place in
    let parted = IsPartitionedBy-leb (λ n. n) _ place c.requires in
    let point = IsPartitionPoint-from_clause (λ n. leb n place) _ _
    c.partition_point.ensures.partitioned parted (λ a r q k. search rules) in (
      λ k d low high. leb-true _ _ (point.0 k d low high),
      λ k d low high. leb-false _ _ (point.1 k d low high),
    )
