-- Rows that are lent, by a test of what they are.
use Rattle.std.proofs.Common.{◌≡◌, Bool, true, false, List, [], ◌∷◌, map, filter, refl, ap, if◌then◌else◌}

-- what is lent of those that pass is what passes of what is lent
pub lent_filter : {Lent Row : Type 0} (now : Lent → Row) (passes : Row → Bool) (rows : List Lent)
    → map now (filter (λ row. passes (now row)) rows) ≡ filter passes (map now rows)
lent_filter now passes [] = refl
lent_filter now passes (row ∷ rows) = go (passes (now row)) (lent_filter now passes rows)
  where
    go : (b : Bool) → map now (filter (λ x. passes (now x)) rows) ≡ filter passes (map now rows)
        → map now (if b then row ∷ filter (λ x. passes (now x)) rows
        else filter (λ x. passes (now x)) rows)
        ≡ (if b then now row ∷ filter passes (map now rows) else filter passes (map now rows))
    go true e = ap (λ rest. now row ∷ rest) e
    go false e = e

-- a test of what is lent is one of the rows
pub lent_map : {Lent Row : Type 0} (now : Lent → Row) (passes : Row → Bool) (rows : List Lent)
    → map (λ row. passes (now row)) rows ≡ map passes (map now rows)
lent_map now passes [] = refl
lent_map now passes (row ∷ rows) = ap (λ rest. passes (now row) ∷ rest) (lent_map now passes rows)
