use Rattle.row_tables.proofs.HousedListings.{copied_more}
use Rattle.std.proofs.Common.{◌∙◌, arith}
use Rattle.row_tables.proofs.snapshotters.list.copy_groups.Goals as goal

-- one namespace more is copied
pub loop-at-preserved : goal.loop-at-preserved
loop-at-preserved g c =
    copied_more c.args.groups.now.entries c.loop-at.at c.loop-at.copies.entries
    c.insert.new.self.entries c.in_ok-ns.ns c.index.result.now c.in_ok-rows.rows
    (omega (arith, c.loop-at-test.true, c.len-at-end.ensures.len)) c.requires.names c.loop-at.invariant
    (λ group at. c.in_ok-ns.ensures.ok ∙ c.name_at.ensures group at) c.index.ensures c.in_ok-rows.ensures.ok c.in_ok-insert.ensures.entries
