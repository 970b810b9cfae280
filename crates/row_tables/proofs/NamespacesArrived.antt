-- Rows as they arrived, by namespace: sorted, they are the namespaces' rows in order, one behind the
-- other.
use Rattle.std.proofs.Common.{◌≡◌, ℕ, ◌+◌, true, false, List, [], ◌∷◌, ◌++◌, get_or, Some, None, refl, sym, ap, ◌∙◌, subst, inl, inr}
use Rattle.std.specs.Prelude.{All, IfSome, IfNone, Option, Result, Ok, Err, OnOk, OnErr, slice_get, slice_set, ◌&&◌, bytes_eq}
use Rattle.std.proofs.lemmas.List.{set-get_or}
use Rattle.std.proofs.lemmas.Bool.{cases_Bool, and_parts}
use Rattle.std.proofs.lemmas.List.Elements.{All-head, All-tail, All-append, All-nil}
use Rattle.meta_types.specs.Text.{Text}
use Rattle.meta_types.specs.Keys.{Key, is_key, is_before, is_first, row_at, has_row, add_row, remove_row, are_in_order}
use Rattle.meta_types.proofs.OneRowPerKey.{before_all}
use Rattle.meta_types.proofs.Members.{later}
use Rattle.row_tables.specs.Arrived.{Becomes, sorted, kept}
use Rattle.row_tables.specs.ArrivedNamespaces.{listed, in_names, AreArrived}
use Rattle.row_tables.specs.Namespaces.{group_key, all_rows, AreGroups}
use Rattle.row_tables.proofs.ListedNamespaces.{all_in, all_out, listed_at, listed_get, listed_set, listed_has}
use Rattle.row_tables.proofs.JoinedLists.{added_back, all_cons}
use Rattle.row_tables.proofs.NamespaceLists.{names_kept, order_of_names}
use Rattle.row_tables.proofs.NamespaceRows.{full, own, added_own, all_behind, read_in, take_rows, take_groups, add_rows, add_new_groups, none_there, changed_some, changed_groups}

module _ {K Row : Type 0} (texts_of : K → Key) (name_of : Row → K) (ns_of : Row → Text) where
  abbrev pub key : Row → Key
  key row = full texts_of name_of ns_of row

  abbrev pub name : Row → Key
  name row = own texts_of name_of ns_of row

  abbrev Own : Text × List Row → Type 0
  Own group = All (λ row. ns_of row ≡ group.0) group.1

  pub own_out : (gs : List (Text × List Row)) → All Own (listed name gs) → All Own gs
  own_out [] all = All-nil Own
  own_out (g ∷ gs) all = all_cons Own g gs (all_out name (λ row. ns_of row ≡ g.0) g.1 (All-head Own (in_names name g) (listed name gs) all)) (own_out gs (All-tail Own (in_names name g) (listed name gs) all))

  sorted_front : (ns : Text) (a rest : List Row) → All (λ row. ns_of row ≡ ns) a → ((t : Key) → All (λ row. is_before (ns ∷ t) (key row) ≡ true) rest) → sorted key (a ++ rest) ≡ sorted name a ++ sorted key rest
  sorted_front ns [] rest mine later = refl
  sorted_front ns (x ∷ a) rest mine later =
      let e : ns_of x ≡ ns = All-head (λ row. ns_of row ≡ ns) x a mine in
      let others = All-tail (λ row. ns_of row ≡ ns) x a mine in
      ap (add_row key x) (sorted_front ns a rest others later)
      ∙ added_back key x (sorted name a) (sorted key rest) (all_in key (λ row. is_before (key x) (key row) ≡ true) rest (subst (λ m. All (λ row. is_before (m ∷ name x) (key row) ≡ true) rest) (sym e) (later (name x))))
      ∙ ap (λ l. l ++ sorted key rest) (added_own texts_of name_of ns_of ns x e (sorted name a) (all_in name (λ row. ns_of row ≡ ns) a others))

  pub in_turn : (gs : List (Text × List Row)) → are_in_order group_key gs ≡ true → All Own gs → sorted key (all_rows gs) ≡ all_rows (listed name gs)
  in_turn [] o all = refl
  in_turn (g ∷ gs) o all =
      let parts = and_parts (is_first group_key g gs) (are_in_order group_key gs) o in
      sorted_front g.0 g.1 (all_rows gs) (All-head Own g gs all) (λ t. all_behind texts_of name_of ns_of g.0 t gs (before_all group_key g gs parts.0 parts.1) (All-tail Own g gs all))
      ∙ ap (λ l. sorted name g.1 ++ l) (in_turn gs parts.1 (All-tail Own g gs all))

  -- sorted, all rows are those of the namespaces in order
  pub arrived : (gs : List (Text × List Row)) → AreArrived key name ns_of gs
      → sorted key (all_rows gs) ≡ all_rows (listed name gs)
  arrived gs are = in_turn gs are.order (own_out gs are.listed.own)

  -- ---- at the place of a namespace

  module _ (ns : Text) (i : ℕ) (rows : List Row) (gs : List (Text × List Row)) (at : slice_get gs i ≡ Some (ns, rows)) (are : AreArrived key name ns_of gs) where
    at_listed : slice_get (listed name gs) i ≡ Some (ns, sorted name rows)
    at_listed = listed_at name gs i (ns, rows) at

    module _ (item : Text × List Row) (is : item ≡ get_or gs i item) where
      is_listed : in_names name item ≡ get_or (listed name gs) i (in_names name item)
      is_listed = listed_get name gs i item is

      pub arrived_found : (t : Key)
          → row_at name t (sorted name item.1) ≡ row_at key (ns ∷ t) (sorted key (all_rows gs))
      arrived_found t = read_in texts_of name_of ns_of ns i (sorted name rows) (listed name gs) at_listed are.listed (in_names name item) is_listed t ∙ ap (row_at key (ns ∷ t)) (sym (arrived gs are))

      pub arrived_same : (new : Text × List Row) → new ≡ item → slice_set gs i new ≡ gs
      arrived_same new e = ap (slice_set gs i) (e ∙ is) ∙ set-get_or gs i item

      module _ (new : Text × List Row) (same : new.0 ≡ item.0) where
        set_arrived : AreGroups key ns_of (slice_set (listed name gs) i (in_names name new))
            → AreArrived key name ns_of (slice_set gs i new)
        set_arrived groups = record {
          order = order_of_names (slice_set gs i new) gs (names_kept gs i item new is same) ∙ are.order;
          listed = subst (AreGroups key ns_of) (sym (listed_set name gs i new)) groups;
        }

        -- a row is taken from the namespace
        module _ (t : Key) (left : sorted name new.1 ≡ remove_row name t (sorted name item.1)) where
          less : in_names name new ≡ (item.0, remove_row name t (sorted name item.1))
          less = λ j. (same j, left j)

          pub arrived_taken : AreArrived key name ns_of (slice_set gs i new)
          arrived_taken = set_arrived (take_groups texts_of name_of ns_of ns i (sorted name rows) (listed name gs) at_listed are.listed (in_names name item) is_listed t (in_names name new) less)

          pub arrived_taken_rows : sorted key (all_rows (slice_set gs i new)) ≡ remove_row key (ns ∷ t) (sorted key (all_rows gs))
          arrived_taken_rows = arrived (slice_set gs i new) arrived_taken ∙ ap all_rows (listed_set name gs i new)
              ∙ take_rows texts_of name_of ns_of ns i (sorted name rows) (listed name gs) at_listed are.listed (in_names name item) is_listed t (in_names name new) less
              ∙ ap (remove_row key (ns ∷ t)) (sym (arrived gs are))

        -- a row of it becomes another
        module _ (t : Key) {A : Type 0} (changes : Row → A → Row → Type 0) (keeps_name : (row : Row) (answer : A) (after : Row) → changes row answer after → name_of after ≡ name_of row)
            (keeps_ns : (row : Row) (answer : A) (after : Row) → changes row answer after → ns_of after ≡ ns_of row) where
          unchanged : (r : Option A) → IfNone r (new.1 ≡ item.1) → IfNone r (in_names name new ≡ in_names name item)
          unchanged None kept = λ j. (same j, sorted name (kept j))
          unchanged (Some answer) kept = tt

          pub arrived_changed : (r : Option A)
              → IfSome r (λ answer. (row : Row) × (after : Row) × changes row answer after × Becomes name t row after (sorted name item.1) (sorted name new.1))
              → IfNone r (new.1 ≡ item.1) → AreArrived key name ns_of (slice_set gs i new)
          arrived_changed r done kept = set_arrived (changed_groups texts_of name_of ns_of ns i (sorted name rows) (listed name gs) at_listed are.listed (in_names name item) is_listed t (in_names name new) same changes keeps_name keeps_ns r done (unchanged r kept))

          pub arrived_changed_rows : (r : Option A)
              → IfSome r (λ answer. (row : Row) × (after : Row) × changes row answer after × Becomes name t row after (sorted name item.1) (sorted name new.1))
              → IfNone r (new.1 ≡ item.1)
              → IfSome r (λ answer. (row : Row) × (after : Row) × changes row answer after × Becomes key (ns ∷ t) row after (sorted key (all_rows gs)) (sorted key (all_rows (slice_set gs i new))))
          arrived_changed_rows r done kept =
              subst (λ (l : List Row). IfSome r (λ answer. (row : Row) × (after : Row) × changes row answer after × Becomes key (ns ∷ t) row after l (sorted key (all_rows (slice_set gs i new))))) (sym (arrived gs are))
              (subst (λ (l : List Row). IfSome r (λ answer. (row : Row) × (after : Row) × changes row answer after × Becomes key (ns ∷ t) row after (all_rows (listed name gs)) l)) (sym (arrived (slice_set gs i new) (arrived_changed r done kept) ∙ ap all_rows (listed_set name gs i new)))
              (changed_some texts_of name_of ns_of ns i (sorted name rows) (listed name gs) at_listed are.listed (in_names name item) is_listed t (in_names name new) same changes keeps_name keeps_ns r done))

        -- a row is added to it, where none has its key
        module _ (row : Row) (e : ns_of row ≡ ns) where
          more : {A B : Type 0} (r : Result A B) → OnOk r (sorted name new.1 ≡ add_row name row (sorted name item.1)) → OnOk r (in_names name new ≡ (item.0, add_row name row (sorted name item.1)))
          more (Ok x) made = λ j. (same j, made j)
          more (Err x) made = tt

          pub arrived_added : {A B : Type 0} (r : Result A B)
              → OnOk r (has_row key (key row) (sorted key (all_rows gs)) ≡ false)
              → OnOk r (sorted name new.1 ≡ add_row name row (sorted name item.1))
              → OnErr r (new.1 ≡ item.1) → AreArrived key name ns_of (slice_set gs i new)
          arrived_added (Err x) free made kept = subst (AreArrived key name ns_of) (sym (arrived_same new (λ j. (same j, kept j)))) are
          arrived_added {A} {B} (Ok x) free made kept = set_arrived (add_new_groups texts_of name_of ns_of ns i (sorted name rows) (listed name gs) at_listed are.listed (in_names name item) is_listed row e (in_names name new)
              {A = A} {B = B} (Ok x) (ap (has_row key (key row)) (sym (arrived gs are)) ∙ free) (more {A = A} {B = B} (Ok x) made) tt)

          pub arrived_added_rows : {A B : Type 0} (r : Result A B)
              → OnOk r (has_row key (key row) (sorted key (all_rows gs)) ≡ false)
              → OnOk r (sorted name new.1 ≡ add_row name row (sorted name item.1))
              → OnErr r (new.1 ≡ item.1)
              → OnOk r (sorted key (all_rows (slice_set gs i new)) ≡ add_row key row (sorted key (all_rows gs)))
          arrived_added_rows (Err x) free made kept = tt
          arrived_added_rows {A} {B} (Ok x) free made kept = arrived (slice_set gs i new) (arrived_added {A = A} {B = B} (Ok x) free made kept) ∙ ap all_rows (listed_set name gs i new)
              ∙ add_rows texts_of name_of ns_of ns i (sorted name rows) (listed name gs) at_listed are.listed (in_names name item) is_listed row e (in_names name new) {A = A} {B = B} (Ok x) (more {A = A} {B = B} (Ok x) made)
              ∙ ap (add_row key row) (sym (arrived gs are))

  -- ---- where no namespace is that

  pub arrived_none : (ns : Text) (t : Key) (gs : List (Text × List Row))
      → has_row group_key (ns ∷ []) gs ≡ false → AreArrived key name ns_of gs
      → row_at key (ns ∷ t) (sorted key (all_rows gs)) ≡ None
  arrived_none ns t gs none are =
      ap (row_at key (ns ∷ t)) (arrived gs are)
      ∙ none_there texts_of name_of ns_of ns t (listed name gs) (listed_has name (ns ∷ []) gs ∙ none) are.listed.own

  pub passed_by : (ns : Text) (t : Key) (gs : List (Text × List Row))
      → has_row group_key (ns ∷ []) gs ≡ false → All Own gs
      → All (λ row. is_key (ns ∷ t) (key row) ≡ false) (all_rows gs)
  passed_by ns t [] none mine = All-nil (λ row. is_key (ns ∷ t) (key row) ≡ false)
  passed_by ns t (g ∷ gs) none mine = elim (cases_Bool (bytes_eq ns g.0)) [
    | inl same ↦ absurd (cc (rw same at none))
    | inr apart ↦ All-append (λ row. is_key (ns ∷ t) (key row) ≡ false) g.1 (all_rows gs)
        (λ k d less. ap (λ m. bytes_eq ns m && is_key t (name (get_or g.1 k d))) (All-head Own g gs mine k d less) ∙ ap (λ b. b && is_key t (name (get_or g.1 k d))) apart)
        (passed_by ns t gs (rw apart at none) (All-tail Own g gs mine))
  ]
