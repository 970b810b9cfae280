-- No key stands twice, as the rows arrived and in order.
use Rattle.std.proofs.Common.{◌≡◌, Bool, true, false, List, [], ◌∷◌, map, refl, sym, ap, ◌∙◌, inl, inr}
use Rattle.std.specs.Prelude.{All}
use Rattle.std.specs.List.{IsDistinct, AllByRecursion}
use Rattle.std.proofs.lemmas.Bool.{cases_Bool, and_parts}
use Rattle.std.proofs.lemmas.List.Elements.{All-head, All-tail, All-nil}
use Rattle.meta_types.specs.Text.{Text}
use Rattle.meta_types.specs.Keys.{Key, is_before, is_first, add_row, are_in_order}
use Rattle.meta_types.proofs.OneRowPerKey.{before_all}
use Rattle.row_tables.specs.Arrived.{sorted, same_key, keys_equiv, kept}
use Rattle.row_tables.specs.ArrivedNamespaces.{listed, in_names, AreArrived}
use Rattle.row_tables.specs.Namespaces.{group_key, all_rows}
use Rattle.row_tables.proofs.ListedNamespaces.{all_in}
use Rattle.row_tables.proofs.NamespacesArrived.{key, name, own_out, in_turn, arrived}
use Rattle.row_tables.proofs.Arrivals.{is_in_order}
use Rattle.std.specs.Cmp.{on_equiv}
use Rattle.std.specs.List.Sorted.{IsPermutation}
use Rattle.std.proofs.lemmas.List.Sorted.{IsPermutation-refl, IsPermutation-cons, IsPermutation-trans, IsPermutation-middle, IsPermutation-sym}
use Rattle.indexmap.proofs.MapLemmas.{distinct_permutation}
use Rattle.row_tables.proofs.JoinedLists.{not_it, all_cons}
use Rattle.row_tables.proofs.NamespaceLists.{order_of_names}
use Rattle.row_tables.proofs.NamespaceRows.{IsOwn}

module _ {Row : Type 0} (key_of : Row → Key) where
  pub moved_up : (row : Row) (rows : List Row)
      → IsPermutation (row ∷ rows) (add_row key_of row rows)
  moved_up row [] = IsPermutation-refl (row ∷ [])
  moved_up row (next ∷ rows) = elim (cases_Bool (is_before (key_of row) (key_of next))) [
    | inl t ↦ rw t (IsPermutation-refl (row ∷ next ∷ rows))
    | inr f ↦ rw f (IsPermutation-trans (row ∷ next ∷ rows) (next ∷ row ∷ rows) (next ∷ add_row key_of row rows) (IsPermutation-middle (row ∷ []) next rows) (IsPermutation-cons next (row ∷ rows) (add_row key_of row rows) (moved_up row rows)))
  ]

  -- the rows in order are those that arrived
  pub same_members : (rows : List Row) → IsPermutation rows (sorted key_of rows)
  same_members [] = IsPermutation-refl []
  same_members (row ∷ rows) = IsPermutation-trans (row ∷ rows) (row ∷ sorted key_of rows) (add_row key_of row (sorted key_of rows)) (IsPermutation-cons row rows (sorted key_of rows) (same_members rows)) (moved_up row (sorted key_of rows))

  other_keys : (row : Row) (rows : List Row) → All (λ other. is_before (key_of row) (key_of other) ≡ true) rows → AllByRecursion (λ other. same_key key_of row other ≡ false) rows
  other_keys row [] all = tt
  other_keys row (x ∷ rows) all = (not_it (key_of row) (key_of x) (All-head (λ other. is_before (key_of row) (key_of other) ≡ true) x rows all), other_keys row rows (All-tail (λ other. is_before (key_of row) (key_of other) ≡ true) x rows all))

  pub in_order_apart : (rows : List Row) → are_in_order key_of rows ≡ true
      → IsDistinct (same_key key_of) rows
  unfolding IsDistinct
  in_order_apart [] o = tt
  in_order_apart (row ∷ rows) o =
      let parts = and_parts (is_first key_of row rows) (are_in_order key_of rows) o in
      (other_keys row rows (before_all key_of row rows parts.0 parts.1), in_order_apart rows parts.1)

  -- rows that are in order once they are sorted have a key each
  pub sorted_apart : (rows : List Row) → are_in_order key_of (sorted key_of rows) ≡ true → IsDistinct (same_key key_of) rows
  sorted_apart rows o = distinct_permutation (on_equiv key_of keys_equiv) (sorted key_of rows) rows (IsPermutation-sym rows (sorted key_of rows) (same_members rows)) (in_order_apart (sorted key_of rows) o)

  others_kept : (row : Row) (marks : List Bool) (rows : List Row) → AllByRecursion (λ other. same_key key_of row other ≡ false) rows → AllByRecursion (λ other. same_key key_of row other ≡ false) (kept marks rows)
  others_kept row [] rows all = tt
  others_kept row (m ∷ marks) [] all = tt
  others_kept row (true ∷ marks) (x ∷ rows) all = (all.0, others_kept row marks rows all.1)
  others_kept row (false ∷ marks) (x ∷ rows) all = others_kept row marks rows all.1

  -- if no two rows have one key, no two of the kept ones have
  pub kept_apart : (marks : List Bool) (rows : List Row) → IsDistinct (same_key key_of) rows → IsDistinct (same_key key_of) (kept marks rows)
  unfolding IsDistinct
  kept_apart [] rows d = tt
  kept_apart (m ∷ marks) [] d = tt
  kept_apart (true ∷ marks) (x ∷ rows) d = (others_kept x marks rows d.0, kept_apart marks rows d.1)
  kept_apart (false ∷ marks) (x ∷ rows) d = kept_apart marks rows d.1

module _ {K Row : Type 0} (texts_of : K → Key) (name_of : Row → K) (ns_of : Row → Text) where
  own_listed : (gs : List (Text × List Row)) → All (IsOwn texts_of name_of ns_of) gs → All (IsOwn texts_of name_of ns_of) (listed (name texts_of name_of ns_of) gs)
  own_listed [] all = All-nil (IsOwn texts_of name_of ns_of)
  own_listed (g ∷ gs) all = all_cons (IsOwn texts_of name_of ns_of) (in_names (name texts_of name_of ns_of) g) (listed (name texts_of name_of ns_of) gs) (all_in (name texts_of name_of ns_of) (λ row. ns_of row ≡ g.0) g.1 (All-head (IsOwn texts_of name_of ns_of) g gs all)) (own_listed gs (All-tail (IsOwn texts_of name_of ns_of) g gs all))

  -- namespaces in order, each with its own rows, in which no key stands twice
  pub are_arrived : (gs : List (Text × List Row)) → are_in_order group_key gs ≡ true
      → All (IsOwn texts_of name_of ns_of) gs
      → IsDistinct (same_key (key texts_of name_of ns_of)) (all_rows gs)
      → AreArrived (key texts_of name_of ns_of) (name texts_of name_of ns_of) ns_of gs
  are_arrived gs o mine apart = record {
    order = o;
    listed = record {
      order = listed_order gs ∙ o;
      own = own_listed gs mine;
      rows = ap (are_in_order (key texts_of name_of ns_of)) (sym (in_turn texts_of name_of ns_of gs o mine)) ∙ is_in_order (key texts_of name_of ns_of) (all_rows gs) apart;
    };
  }
    where
      names : (hs : List (Text × List Row)) → map (λ (group : Text × List Row). group.0) (listed (name texts_of name_of ns_of) hs) ≡ map (λ group. group.0) hs
      names [] = refl
      names (h ∷ hs) = ap (λ rest. h.0 ∷ rest) (names hs)

      listed_order : (hs : List (Text × List Row)) → are_in_order group_key (listed (name texts_of name_of ns_of) hs) ≡ are_in_order group_key hs
      listed_order hs = order_of_names (listed (name texts_of name_of ns_of) hs) hs (names hs)

  pub arrived_own : (gs : List (Text × List Row))
      → AreArrived (key texts_of name_of ns_of) (name texts_of name_of ns_of) ns_of gs
      → All (IsOwn texts_of name_of ns_of) gs
  arrived_own gs are = own_out texts_of name_of ns_of gs are.listed.own

  pub arrived_apart : (gs : List (Text × List Row))
      → AreArrived (key texts_of name_of ns_of) (name texts_of name_of ns_of) ns_of gs
      → IsDistinct (same_key (key texts_of name_of ns_of)) (all_rows gs)
  arrived_apart gs are = sorted_apart (key texts_of name_of ns_of) (all_rows gs) (ap (are_in_order (key texts_of name_of ns_of)) (arrived texts_of name_of ns_of gs are) ∙ are.listed.rows)
