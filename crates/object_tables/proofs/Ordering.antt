-- Rows stay in order where one is changed, and where some go.
use Rattle.std.proofs.Common.{◌≡◌, Bool, true, false, List, [], ◌∷◌, refl}
use Rattle.std.specs.Prelude.{IsTrue}
use Rattle.std.proofs.lemmas.Bool.{and_parts, and_from}
use Rattle.meta_types.specs.Keys.{Key, is_first, are_in_order}
use Rattle.meta_types.proofs.Ordered.{before_trans}
use Rattle.object_tables.specs.Calls.{kept}

module _ {Row : Type 0} (key_of : Row → Key) where
  -- what stands before the first stands before each that stays
  first_kept : (before : Row) (marks : List Bool) (rows : List Row) → is_first key_of before rows ≡ true → are_in_order key_of rows ≡ true → is_first key_of before (kept marks rows) ≡ true
  first_kept before [] rows p o = refl
  first_kept before (m ∷ marks) [] p o = refl
  first_kept before (true ∷ marks) (row ∷ rows) p o = p
  first_kept before (false ∷ marks) (row ∷ rows) p o =
      let parts = and_parts (is_first key_of row rows) (are_in_order key_of rows) o in
      first_kept before marks rows (skip rows parts.0) parts.1
    where
      skip : (rs : List Row) → is_first key_of row rs ≡ true → is_first key_of before rs ≡ true
      skip [] q = refl
      skip (r ∷ rs) q = before_trans (key_of before) (key_of row) (key_of r) p q

  -- the rows that stay are in order
  pub order_kept : (marks : List Bool) (rows : List Row) → IsTrue (are_in_order key_of rows) → IsTrue (are_in_order key_of (kept marks rows))
  order_kept [] rows o = refl
  order_kept (m ∷ marks) [] o = refl
  order_kept (true ∷ marks) (row ∷ rows) o =
      let parts = and_parts (is_first key_of row rows) (are_in_order key_of rows) o in
      and_from (is_first key_of row (kept marks rows)) (are_in_order key_of (kept marks rows)) (first_kept row marks rows parts.0 parts.1) (order_kept marks rows parts.1)
  order_kept (false ∷ marks) (row ∷ rows) o = order_kept marks rows (and_parts (is_first key_of row rows) (are_in_order key_of rows) o).1
