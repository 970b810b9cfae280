use Rattle.std.proofs.Common.{◌≡◌, true, false, ap, sym, ◌∙◌}
use Rattle.std.specs.Prelude.{bytes_eq, slice_get}
use Rattle.std.specs.Option.{option_map_or}
use Rattle.table_sweep.proofs.OwnedBlobs.{near_there, near_within}
use Rattle.table_sweep.proofs.blobs.near_place.Goals as goal

-- no digest stands twice
pub returns-then-is_at-clause-place : goal.returns-then-is_at-clause-place
returns-then-is_at-clause-place c =
    let digest = c.args.digest.now in
    let near = c.args.near in
    let there : option_map_or (bytes_eq digest) (slice_get c.args.blobs.now near) false ≡ true =
    sym (ap (λ l. option_map_or (bytes_eq digest) (slice_get l near) false) c.rows.ensures.rows)
    ∙ sym c.is_at.ensures ∙ c.if-is_at.true in
    near_there digest c.args.blobs.now near c.rows.ensures.distinct there

pub returns-then-is_at-clause-within : goal.returns-then-is_at-clause-within
returns-then-is_at-clause-within c =
    let digest = c.args.digest.now in
    let near = c.args.near in
    let there : option_map_or (bytes_eq digest) (slice_get c.args.blobs.now near) false ≡ true =
    sym (ap (λ l. option_map_or (bytes_eq digest) (slice_get l near) false) c.rows.ensures.rows)
    ∙ sym c.is_at.ensures ∙ c.if-is_at.true in
    near_within digest c.args.blobs.now near there
