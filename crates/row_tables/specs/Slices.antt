-- Rows that are lent in slices. Ours.
use Rattle.std.specs.Prelude.{◌≡◌, ◌<◌, ℕ, List, length, take, slice_index}
use Rattle.std.specs.List.{flat_map}

module _ {Slice Row : Type 0} (rows_of : Slice → List Row) where
  -- each slice begins behind those before it, and together they have that many rows
  pub record AreCut (slices : List Slice) (starts : List ℕ) (count : ℕ) : Type 0 where
    pub many : length starts ≡ length slices
    pub each : (i : ℕ) → i < length slices → slice_index starts i ≡ length (flat_map rows_of (take i slices))
    pub counted : count ≡ length (flat_map rows_of slices)
