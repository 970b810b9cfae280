-- Rows of all namespaces, as they arrived.
use Rattle.std.specs.Prelude.{◌≡◌, ◌<◌, ◌^◌, ◌==◌, ℕ, Bool, List, All, map, not, IsTrue, length}
use Rattle.std.specs.List.{IsDistinct}
use Rattle.meta_types.specs.Text.{Text}
use Rattle.meta_types.specs.Keys.{Key, are_in_order}
use Rattle.row_tables.specs.Arrived.{sorted, same_key}
use Rattle.row_tables.specs.Namespaces.{group_key, all_rows, AreGroups}

module _ {Row : Type 0} where
  -- a namespace with its rows in the order of their names
  abbrev pub in_names : (Row → Key) → Text × List Row → Text × List Row
  in_names own_key group = (group.0, sorted own_key group.1)

  -- the namespaces with their rows in the order of their names
  abbrev pub listed : (Row → Key) → List (Text × List Row) → List (Text × List Row)
  listed own_key groups = map (in_names own_key) groups

  -- namespaces stand by their bytes, each with its own rows as they arrived
  pub record AreArrived (key_of own_key : Row → Key) (ns_of : Row → Text) (groups : List (Text × List Row)) : Type 0 where
    pub order : IsTrue (are_in_order group_key groups)
    pub listed : AreGroups key_of ns_of (listed own_key groups)

  -- each namespace stands once, with its own rows, and no key stands twice; they stand in any order
  pub record AreApart (key_of : Row → Key) (ns_of : Row → Text) (groups : List (Text × List Row)) : Type 0 where
    pub own : All (λ group. All (λ row. ns_of row ≡ group.0) group.1) groups
    pub names : IsDistinct (same_key group_key) groups
    pub each : All (λ group. IsDistinct (same_key key_of) group.1) groups

  -- a namespace has a row
  abbrev pub has_rows : Text × List Row → Bool
  has_rows group = not (length group.1 == 0)

  -- no namespace is empty
  abbrev pub AreFull : List (Text × List Row) → Type 0
  AreFull groups = All (λ group. IsTrue (has_rows group)) groups

  -- namespaces in any order, none of them empty, and how many rows they have
  pub record AreHoused (key_of : Row → Key) (ns_of : Row → Text) (groups : List (Text × List Row)) (count : ℕ) : Type 0 where
    pub are : AreApart key_of ns_of groups
    pub full : AreFull groups
    pub counted : count ≡ length (all_rows groups)
    pub fits : count < 2 ^ 64
