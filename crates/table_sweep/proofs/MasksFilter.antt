-- What a mask keeps and what it leaves out are filters of the rows.
use Rattle.std.proofs.Common.{◌≡◌, suc, ◌+◌, Bool, true, false, not, List, [], ◌∷◌, ◌++◌, map, length, filter, refl, ap, arith, if◌then◌else◌}
use Rattle.object_tables.specs.Calls.{kept}
use Rattle.lease_book.specs.Calls.{kept as kept_leases}
use Rattle.table_sweep.specs.Masks.{gone}

module _ {Row : Type 0} (stays : Row → Bool) where
  pub kept_is : (rows : List Row) → kept (map stays rows) rows ≡ filter stays rows
  kept_is [] = refl
  kept_is (row ∷ rows) = go (stays row) (kept_is rows)
    where
      go : (b : Bool) → kept (map stays rows) rows ≡ filter stays rows → (if b then row ∷ kept (map stays rows) rows else kept (map stays rows) rows) ≡ (if b then row ∷ filter stays rows else filter stays rows)
      go true e = ap (λ rest. row ∷ rest) e
      go false e = e

  pub kept_leases_is : (rows : List Row) → kept_leases (map stays rows) rows ≡ filter stays rows
  kept_leases_is [] = refl
  kept_leases_is (row ∷ rows) = go (stays row) (kept_leases_is rows)
    where
      go : (b : Bool) → kept_leases (map stays rows) rows ≡ filter stays rows → (if b then row ∷ kept_leases (map stays rows) rows else kept_leases (map stays rows) rows) ≡ (if b then row ∷ filter stays rows else filter stays rows)
      go true e = ap (λ rest. row ∷ rest) e
      go false e = e

  pub gone_is : (rows : List Row) → gone (map stays rows) rows ≡ filter (λ row. not (stays row)) rows
  gone_is [] = refl
  gone_is (row ∷ rows) = go (stays row) (gone_is rows)
    where
      go : (b : Bool) → gone (map stays rows) rows ≡ filter (λ row. not (stays row)) rows
          → (if b then gone (map stays rows) rows else row ∷ gone (map stays rows) rows) ≡ (if not b then row ∷ filter (λ row. not (stays row)) rows else filter (λ row. not (stays row)) rows)
      go true e = e
      go false e = ap (λ rest. row ∷ rest) e

  -- the kept and the removed rows together are all
  pub kept_and_gone : (rows : List Row) → length (filter stays rows) + length (filter (λ row. not (stays row)) rows) ≡ length rows
  kept_and_gone [] = refl
  kept_and_gone (row ∷ rows) = go (stays row) (kept_and_gone rows)
    where
      go : (b : Bool) → length (filter stays rows) + length (filter (λ row. not (stays row)) rows) ≡ length rows
          → length (if b then row ∷ filter stays rows else filter stays rows) + length (if not b then row ∷ filter (λ row. not (stays row)) rows else filter (λ row. not (stays row)) rows) ≡ suc (length rows)
      go true e = omega (arith, e)
      go false e = omega (arith, e)

pub gone_next : {Row : Type 0} (mask : List Bool) (rows : List Row) (b : Bool) (row : Row) → length mask ≡ length rows → gone (mask ++ b ∷ []) (rows ++ row ∷ []) ≡ gone mask rows ++ (if b then [] else row ∷ [])
gone_next [] [] true row e = refl
gone_next [] [] false row e = refl
gone_next [] (r ∷ rows) b row e = absurd (omega (arith, e))
gone_next (m ∷ mask) [] b row e = absurd (omega (arith, e))
gone_next (true ∷ mask) (r ∷ rows) b row e = gone_next mask rows b row (omega (arith, e))
gone_next (false ∷ mask) (r ∷ rows) b row e = ap (λ rest. r ∷ rest) (gone_next mask rows b row (omega (arith, e)))
