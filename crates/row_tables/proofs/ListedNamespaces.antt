-- Namespaces with their rows in the order of their names.
use Rattle.std.proofs.Common.{◌≡◌, ℕ, zero, suc, List, [], ◌∷◌, get_or, Some, refl, ap, inl, inr}
use Rattle.std.specs.Prelude.{All, slice_get, slice_set, Contains}
use Rattle.std.proofs.lemmas.Bool.{cases_Bool}
use Rattle.std.proofs.lemmas.List.Elements.{All-head, All-tail, All-nil, All-contains}
use Rattle.meta_types.specs.Text.{Text}
use Rattle.meta_types.specs.Keys.{Key, is_key, has_row}
use Rattle.meta_types.proofs.ListSearches.{no_none, some_is}
use Rattle.meta_types.proofs.KeepsSound.{all_added}
use Rattle.meta_types.proofs.Members.{here, later}
use Rattle.row_tables.specs.Arrived.{sorted}
use Rattle.row_tables.specs.ArrivedNamespaces.{listed, in_names}
use Rattle.row_tables.specs.Namespaces.{group_key}
use Rattle.row_tables.proofs.Arrivals.{in_sorted}
use Rattle.row_tables.proofs.JoinedLists.{all_cons}

-- ---- what holds of all rows

module _ {Row : Type 0} (key_of : Row → Key) (P : Row → Type 0) where
  pub all_in : (rows : List Row) → All P rows → All P (sorted key_of rows)
  all_in [] all = All-nil P
  all_in (row ∷ rows) all = all_added key_of P row (All-head P row rows all) (sorted key_of rows) (all_in rows (All-tail P row rows all))

  pub each : (rows : List Row) → ((x : Row) → Contains rows x → P x) → All P rows
  each [] h = All-nil P
  each (row ∷ rows) h = all_cons P row rows (h row (here row rows)) (each rows (λ x c. h x (later row rows x c)))

  pub all_out : (rows : List Row) → All P (sorted key_of rows) → All P rows
  all_out rows all = each rows (λ x c. All-contains P (sorted key_of rows) x all (in_sorted key_of rows x c))

module _ {Row : Type 0} (own_key : Row → Key) where
  pub listed_at : (gs : List (Text × List Row)) (i : ℕ) (g : Text × List Row) → slice_get gs i ≡ Some g → slice_get (listed own_key gs) i ≡ Some (in_names own_key g)
  listed_at [] i g at = no_none g at
  listed_at (h ∷ gs) zero g at = ap (λ x. Some (in_names own_key x)) (some_is h g at)
  listed_at (h ∷ gs) (suc i) g at = listed_at gs i g at

  pub listed_get : (gs : List (Text × List Row)) (i : ℕ) (g : Text × List Row) → g ≡ get_or gs i g → in_names own_key g ≡ get_or (listed own_key gs) i (in_names own_key g)
  listed_get [] i g is = refl
  listed_get (h ∷ gs) zero g is = ap (in_names own_key) is
  listed_get (h ∷ gs) (suc i) g is = listed_get gs i g is

  pub listed_set : (gs : List (Text × List Row)) (i : ℕ) (g : Text × List Row) → listed own_key (slice_set gs i g) ≡ slice_set (listed own_key gs) i (in_names own_key g)
  listed_set [] i g = refl
  listed_set (h ∷ gs) zero g = refl
  listed_set (h ∷ gs) (suc i) g = ap (λ rest. in_names own_key h ∷ rest) (listed_set gs i g)

  pub listed_has : (k : Key) (gs : List (Text × List Row)) → has_row group_key k (listed own_key gs) ≡ has_row group_key k gs
  listed_has k [] = refl
  listed_has k (g ∷ gs) = elim (cases_Bool (is_key k (group_key g))) [
    | inl t ↦ rw t refl
    | inr f ↦ rw f (listed_has k gs)
  ]
