use Rattle.std.proofs.Common.{◌≡◌, map, take}
use Rattle.meta_types.specs.Shown.{plain_row}
use Rattle.meta_types.specs.declared.reply.ReplyRow.TheVariants as W
use Rattle.scripts.proofs.rows_shown.images.Given as goal

-- the rows so far are copied
abbrev pub invariant-loop-row : goal.invariant-loop-row
invariant-loop-row l =
    l.rows.items ≡ map (λ row. plain_row (W.Image row.now)) (take l.row-index l.lent)
