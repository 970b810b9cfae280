-- Entries of a map from names to rows: each row under its own name.
use Rattle.std.proofs.Common.{◌≡◌, ℕ, ◌<◌, Bool, true, false, cond, List, [], ◌∷◌, ◌++◌, length, zero, suc, refl, sym, ap, ◌∙◌, subst, get_or, take, inl, inr, arith}
use Rattle.std.specs.Prelude.{All, Option, Some, None, Result, Ok, Err, OnOk, OnErr, is_some, slice_get, slice_set}
use Rattle.std.specs.Cmp.{on_equiv}
use Rattle.std.specs.List.{IsDistinct, AllByRecursion, swap_remove, remove}
use Rattle.std.specs.Option.{option_map}
use Rattle.std.specs.List.Sorted.{IsPermutation}
use Rattle.std.specs.Map.{keys_of, values_of, lookup}
use Rattle.std.proofs.lemmas.Bool.{cases_Bool}
use Rattle.std.proofs.lemmas.List.Elements.{All-head, All-tail, All-append, All-nil}
use Rattle.std.proofs.lemmas.List.Sorted.{IsPermutation-map, IsPermutation-remove, All-permutation}
use Rattle.std.proofs.lemmas.List.{get_or-set_same, length-set}
use Rattle.std.proofs.lemmas.Option.{slice_get_within, get_or_from_slice_get}
use Rattle.indexmap.specs.IndexMap.{insert_entry, set_value_at}
use Rattle.indexmap.proofs.MapLemmas.{distinct_permutation}
use Rattle.meta_types.specs.Faults.{Refuses, least_of}
use Rattle.meta_types.specs.declared.fault.Fault.{Fault}
use Rattle.meta_types.specs.Keys.{Key, is_key, row_at, has_row, add_row, remove_row, change_row}
use Rattle.meta_types.proofs.ListSearches.{found_is, row_is_found, no_none, some_is}
use Rattle.row_tables.specs.Arrived.{sorted, by_name, same_key, keys_equiv, kept, AreNamed, Becomes}
use Rattle.row_tables.proofs.Arrivals.{moved_out, went, row_sorted, has_sorted, row_arrived, one_order, change_added, same_absent, head_absent}

-- a name under which a row was added was free
pub was_free : (r : Result (Unit {0}) Fault) (there : Bool) → Refuses r (least_of false false there false) → OnOk r (there ≡ false)
was_free (Ok u) true h = absurd (cc h)
was_free (Ok u) false h = refl
was_free (Err e) there h = tt

pub all_one : {X : Type 0} (P : X → Type 0) (x : X) → P x → All P (x ∷ [])
all_one P x h zero d lt = h
all_one P x h (suc i) d lt = absurd (omega arith)

all_cons : {X : Type 0} (P : X → Type 0) (x : X) (xs : List X) → P x → All P xs → All P (x ∷ xs)
all_cons P x xs p h zero d lt = p
all_cons P x xs p h (suc k) d lt = h k d (omega arith)

removed_set : {X : Type 0} (xs : List X) (i : ℕ) (x : X) → remove (slice_set xs i x) i ≡ remove xs i
removed_set [] i x = refl
removed_set (y ∷ xs) zero x = refl
removed_set (y ∷ xs) (suc i) x = ap (λ ys. y ∷ ys) (removed_set xs i x)

pub other_there : {X : Type 0} (xs : List X) (i : ℕ) (w : X) (ys : List X) → i < length xs
    → ys ≡ slice_set xs i w → IsPermutation ys (w ∷ remove xs i)
other_there xs i w ys lt is =
    let p : IsPermutation (slice_set xs i w) (w ∷ remove (slice_set xs i w) i) = IsPermutation-remove (slice_set xs i w) i w (omega (arith, length-set xs i w)) (sym (get_or-set_same xs i w w lt)) in
    subst (λ (l : List _). IsPermutation l (w ∷ remove xs i)) (sym is) (subst (λ (l : List _). IsPermutation (slice_set xs i w) (w ∷ l)) (removed_set xs i w) p)

module _ {K Row : Type 0} (eq : K → K → Bool) (texts_of : K → Key) (name_of : Row → K) (same : (a b : K) → eq a b ≡ is_key (texts_of a) (texts_of b)) where
  abbrev pub IsOwn : K × Row → Type 0
  IsOwn e = name_of e.1 ≡ e.0

  -- a look-up by a name is the row of its texts
  pub row_found : (name : K) (es : List (K × Row)) → All IsOwn es → lookup (eq name) es ≡ row_at (by_name texts_of name_of) (texts_of name) (values_of es)
  row_found name [] own = refl
  row_found name (e ∷ es) own =
      let here : eq name e.0 ≡ is_key (texts_of name) (texts_of (name_of e.1)) = same name e.0 ∙ ap (λ n. is_key (texts_of name) (texts_of n)) (sym (All-head IsOwn e es own)) in
      ap (λ b. cond b (Some e.1) (lookup (eq name) es)) here
      ∙ ap (λ r. cond (is_key (texts_of name) (texts_of (name_of e.1))) (Some e.1) r) (row_found name es (All-tail IsOwn e es own))

  apart_rows : (e : K × Row) (es : List (K × Row)) → IsOwn e → All IsOwn es → AllByRecursion (λ k. eq e.0 k ≡ false) (keys_of es) → AllByRecursion (λ row. same_key (by_name texts_of name_of) e.1 row ≡ false) (values_of es)
  apart_rows e [] here own apart = tt
  apart_rows e (f ∷ es) here own apart =
      (sym (same (name_of e.1) (name_of f.1)) ∙ (λ i. eq (here i) (All-head IsOwn f es own i)) ∙ apart.0, apart_rows e es here (All-tail IsOwn f es own) apart.1)

  -- no row has another's key
  pub distinct_rows : (es : List (K × Row)) → All IsOwn es → IsDistinct eq (keys_of es) → IsDistinct (same_key (by_name texts_of name_of)) (values_of es)
  unfolding IsDistinct
  distinct_rows [] own d = tt
  distinct_rows (e ∷ es) own d = (apart_rows e es (All-head IsOwn e es own) (All-tail IsOwn e es own) d.0, distinct_rows es (All-tail IsOwn e es own) d.1)

  pub rows_apart : (es : List (K × Row)) → AreNamed eq name_of es → IsDistinct (same_key (by_name texts_of name_of)) (values_of es)
  rows_apart es are = distinct_rows es are.own are.once

  -- and that is so of the rows in order
  pub get_sorted : (name : K) (es : List (K × Row)) → AreNamed eq name_of es → lookup (eq name) es ≡ row_at (by_name texts_of name_of) (texts_of name) (sorted (by_name texts_of name_of) (values_of es))
  get_sorted name es are = row_found name es are.own ∙ sym (row_sorted (by_name texts_of name_of) (texts_of name) (values_of es) (rows_apart es are))

  -- ---- a row less

  module _ (name : K) (place : ℕ) (e : K × Row) (old left : List (K × Row)) (at : slice_get old place ≡ Some e) (is : left ≡ swap_remove old place e) (are : AreNamed eq name_of old) where
    moved : IsPermutation old (e ∷ left)
    moved = moved_out e place old left at is

    pub own_left : All IsOwn left
    own_left = All-tail IsOwn e left (All-permutation IsOwn old (e ∷ left) moved are.own)

    pub taken_entry : lookup (eq name) old ≡ Some e.1 → sorted (by_name texts_of name_of) (values_of left) ≡ remove_row (by_name texts_of name_of) (texts_of name) (sorted (by_name texts_of name_of) (values_of old))
    taken_entry found =
        let key_of = by_name texts_of name_of in
        let d = rows_apart old are in
        let p : IsPermutation (values_of old) (e.1 ∷ values_of left) = IsPermutation-map (λ (f : K × Row). f.1) old (e ∷ left) moved in
        let t : is_key (texts_of name) (key_of e.1) ≡ true =
        (found_is (λ (row : Row). is_key (texts_of name) (key_of row)) (values_of old) e.1 (sym (row_is_found key_of (texts_of name) (values_of old)) ∙ sym (row_found name old are.own) ∙ found)).1 in
        went key_of (texts_of name) e.1 (values_of old) (values_of left) t p d (distinct_permutation (on_equiv key_of keys_equiv) (values_of old) (e.1 ∷ values_of left) p d)

  -- ---- a row more

  none_from : {X : Type 0} (r : Option X) → is_some r ≡ false → r ≡ None
  none_from None h = refl
  none_from (Some x) h = absurd (cc)

  last_entry : (k : K) (v : Row) (es : List (K × Row)) → lookup (eq k) es ≡ None → insert_entry eq es k v ≡ es ++ (k, v) ∷ []
  last_entry k v [] h = refl
  last_entry k v (e ∷ es) h = elim (cases_Bool (eq k e.0)) [
    | inl t ↦ absurd (no_none e.1 (sym (rw t at h)))
    | inr f ↦ rw f (ap (λ rest. e ∷ rest) (last_entry k v es (rw f at h)))
  ]

  rows_more : (e : K × Row) (es : List (K × Row)) → values_of (es ++ e ∷ []) ≡ values_of es ++ e.1 ∷ []
  rows_more e [] = refl
  rows_more e (f ∷ es) = ap (λ rest. f.1 ∷ rest) (rows_more e es)

  module _ (k : K) (row : Row) (old : List (K × Row)) (own : k ≡ name_of row) (are : AreNamed eq name_of old)
      (free : has_row (by_name texts_of name_of) (texts_of (name_of row)) (sorted (by_name texts_of name_of) (values_of old)) ≡ false) where
    absent : lookup (eq k) old ≡ None
    absent = get_sorted k old are ∙ none_from (row_at (by_name texts_of name_of) (texts_of k) (sorted (by_name texts_of name_of) (values_of old)))
        (ap (λ n. has_row (by_name texts_of name_of) (texts_of n) (sorted (by_name texts_of name_of) (values_of old))) own ∙ free)

    pub named_more : {A B : Type 0} (r : Result A B) (new : List (K × Row)) → IsDistinct eq (keys_of new) → OnOk r (new ≡ insert_entry eq old k row) → OnErr r (new ≡ old) → AreNamed eq name_of new
    named_more (Ok x) new once ok err = record {
      own = subst (All IsOwn) (sym (ok ∙ last_entry k row old absent)) (All-append IsOwn old ((k, row) ∷ []) are.own (all_one IsOwn (k, row) (sym own)));
      once = once;
    }
    named_more (Err y) new once ok err = subst (AreNamed eq name_of) (sym err) are

    pub last_row : (new : List (K × Row)) → new ≡ insert_entry eq old k row → values_of new ≡ values_of old ++ row ∷ []
    last_row new is = ap values_of (is ∙ last_entry k row old absent) ∙ rows_more (k, row) old

    pub added_entry : (new : List (K × Row)) → new ≡ insert_entry eq old k row → IsDistinct eq (keys_of new) → sorted (by_name texts_of name_of) (values_of new) ≡ add_row (by_name texts_of name_of) row (sorted (by_name texts_of name_of) (values_of old))
    added_entry new is once =
        let key_of = by_name texts_of name_of in
        let are_new : AreNamed eq name_of new = named_more {A = Unit {0}} {B = Unit {0}} (Ok tt) new once is tt in
        let e = last_row new is in
        ap (sorted key_of) e ∙ row_arrived key_of row (values_of old) (sym (has_sorted key_of (key_of row) (values_of old)) ∙ free) (rows_apart old are)
        (subst (IsDistinct (same_key key_of)) e (rows_apart new are_new))

  -- the row that is there, under its own name
  pub same_entry : (k : K) (v : Row) (es : List (K × Row)) → lookup (eq k) es ≡ Some v → insert_entry eq es k v ≡ es
  same_entry k v [] h = no_none v h
  same_entry k v (e ∷ es) h = elim (cases_Bool (eq k e.0)) [
    | inl t ↦ rw t (ap (λ w. (e.0, w) ∷ es) (sym (some_is e.1 v (rw t at h))))
    | inr f ↦ rw f (ap (λ rest. e ∷ rest) (same_entry k v es (rw f at h)))
  ]

  -- ---- a row more, where none has its name

  module _ (k : K) (row : Row) (old : List (K × Row)) (own : k ≡ name_of row) (are : AreNamed eq name_of old) where
    pub is_taken : is_some (lookup (eq k) old) ≡ has_row (by_name texts_of name_of) (texts_of (name_of row)) (sorted (by_name texts_of name_of) (values_of old))
    is_taken = ap is_some (get_sorted k old are) ∙ ap (λ n. has_row (by_name texts_of name_of) (texts_of n) (sorted (by_name texts_of name_of) (values_of old))) own

    module _ (r : Result (Unit {0}) Fault) (new : List (K × Row)) (once : IsDistinct eq (keys_of new))
        (fault : Refuses r (least_of false false (is_some (lookup (eq k) old)) false)) (ok : OnOk r (new ≡ insert_entry eq old k row)) where
      pub named_new : OnErr r (new ≡ old) → AreNamed eq name_of new
      named_new err = go r (was_free r (is_some (lookup (eq k) old)) fault) ok err
        where
          go : (r : Result (Unit {0}) Fault) → OnOk r (is_some (lookup (eq k) old) ≡ false) → OnOk r (new ≡ insert_entry eq old k row) → OnErr r (new ≡ old) → AreNamed eq name_of new
          go (Ok u) free ok err = named_more k row old own are (sym is_taken ∙ free) {A = Unit {0}} {B = Fault} (Ok u) new once ok err
          go (Err e) free ok err = subst (AreNamed eq name_of) (sym err) are

      pub last_new : OnOk r (values_of new ≡ values_of old ++ row ∷ [])
      last_new = go r (was_free r (is_some (lookup (eq k) old)) fault) ok
        where
          go : (r : Result (Unit {0}) Fault) → OnOk r (is_some (lookup (eq k) old) ≡ false) → OnOk r (new ≡ insert_entry eq old k row) → OnOk r (values_of new ≡ values_of old ++ row ∷ [])
          go (Ok u) free ok = last_row k row old own are (sym is_taken ∙ free) new ok
          go (Err e) free ok = tt

      pub added_new : OnOk r (sorted (by_name texts_of name_of) (values_of new) ≡ add_row (by_name texts_of name_of) row (sorted (by_name texts_of name_of) (values_of old)))
      added_new = go r (was_free r (is_some (lookup (eq k) old)) fault) ok
        where
          go : (r : Result (Unit {0}) Fault) → OnOk r (is_some (lookup (eq k) old) ≡ false) → OnOk r (new ≡ insert_entry eq old k row) → OnOk r (sorted (by_name texts_of name_of) (values_of new) ≡ add_row (by_name texts_of name_of) row (sorted (by_name texts_of name_of) (values_of old)))
          go (Ok u) free ok = added_entry k row old own are (sym is_taken ∙ free) new ok once
          go (Err e) free ok = tt

  -- ---- a row that becomes another

  own_set : (es : List (K × Row)) (i : ℕ) (v w : Row) → All IsOwn es → slice_get (values_of es) i ≡ Some v → name_of w ≡ name_of v → All IsOwn (set_value_at es i w)
  own_set [] i v w own at is = no_none v at
  own_set (e ∷ es) zero v w own at is = all_cons IsOwn (e.0, w) es (is ∙ ap name_of (sym (some_is e.1 v at)) ∙ All-head IsOwn e es own) (All-tail IsOwn e es own)
  own_set (e ∷ es) (suc i) v w own at is = all_cons IsOwn e (set_value_at es i w) (All-head IsOwn e es own) (own_set es i v w (All-tail IsOwn e es own) at is)

  keys_set : (es : List (K × Row)) (i : ℕ) (w : Row) → keys_of (set_value_at es i w) ≡ keys_of es
  keys_set [] i w = refl
  keys_set (e ∷ es) zero w = refl
  keys_set (e ∷ es) (suc i) w = ap (λ rest. e.0 ∷ rest) (keys_set es i w)

  values_set : (es : List (K × Row)) (i : ℕ) (w : Row) → values_of (set_value_at es i w) ≡ slice_set (values_of es) i w
  values_set [] i w = refl
  values_set (e ∷ es) zero w = refl
  values_set (e ∷ es) (suc i) w = ap (λ rest. e.1 ∷ rest) (values_set es i w)

  pub value_at : (es : List (K × Row)) (i : ℕ) (e : K × Row) → slice_get es i ≡ Some e → slice_get (values_of es) i ≡ Some e.1
  value_at [] i e at = no_none e at
  value_at (f ∷ es) zero e at = ap (option_map (λ (x : K × Row). x.1)) at
  value_at (f ∷ es) (suc i) e at = value_at es i e at

  module _ (es : List (K × Row)) (i : ℕ) (v w : Row) (at : slice_get (values_of es) i ≡ Some v) (is : name_of w ≡ name_of v) (are : AreNamed eq name_of es) where
    pub named_set : AreNamed eq name_of (set_value_at es i w)
    named_set = record {
      own = own_set es i v w are.own at is;
      once = subst (IsDistinct eq) (sym (keys_set es i w)) are.once;
    }

    pub length_set : length (values_of (set_value_at es i w)) ≡ length (values_of es)
    length_set = ap length (values_set es i w) ∙ length-set (values_of es) i w

    pub changed_entry : (name : K) → lookup (eq name) es ≡ Some v → Becomes (by_name texts_of name_of) (texts_of name) v w (sorted (by_name texts_of name_of) (values_of es)) (sorted (by_name texts_of name_of) (values_of (set_value_at es i w)))
    changed_entry name found =
        let key_of = by_name texts_of name_of in
        let key = texts_of name in
        let rows = values_of es in
        let after = values_of (set_value_at es i w) in
        let within = slice_get_within rows i v at in
        let p : IsPermutation rows (v ∷ remove rows i) = IsPermutation-remove rows i v within (sym (get_or_from_slice_get rows i v v at)) in
        let q : IsPermutation after (w ∷ remove rows i) = other_there rows i w after within (values_set es i w) in
        let d = rows_apart es are in
        let d_less : IsDistinct (same_key key_of) (v ∷ remove rows i) = distinct_permutation (on_equiv key_of keys_equiv) rows (v ∷ remove rows i) p d in
        let e = rows_apart (set_value_at es i w) named_set in
        let e_less : IsDistinct (same_key key_of) (w ∷ remove rows i) = distinct_permutation (on_equiv key_of keys_equiv) after (w ∷ remove rows i) q e in
        let t : is_key key (key_of v) ≡ true = (found_is (λ (row : Row). is_key key (key_of row)) rows v (sym (row_is_found key_of key rows) ∙ sym (row_found name es are.own) ∙ found)).1 in
        let gone : has_row key_of key (sorted key_of (remove rows i)) ≡ false = has_sorted key_of key (remove rows i) ∙ same_absent key_of key (key_of v) (remove rows i) t (head_absent key_of v (remove rows i) d_less) in
        record {
          there = sym (get_sorted name es are) ∙ found;
          rows = one_order key_of after (w ∷ remove rows i) e e_less q
              ∙ change_added key_of key (λ _. w) v (sorted key_of (remove rows i)) (ap texts_of is) t gone
              ∙ ap (change_row key_of key (λ _. w)) (sym (one_order key_of rows (v ∷ remove rows i) d d_less p));
        }

  -- ---- rows that stay

  pub own_kept : (marks : List Bool) (es : List (K × Row)) → All IsOwn es → All IsOwn (kept marks es)
  own_kept [] es own = All-nil IsOwn
  own_kept (m ∷ marks) [] own = All-nil IsOwn
  own_kept (true ∷ marks) (e ∷ es) own = all_cons IsOwn e (kept marks es) (All-head IsOwn e es own) (own_kept marks es (All-tail IsOwn e es own))
  own_kept (false ∷ marks) (e ∷ es) own = own_kept marks es (All-tail IsOwn e es own)

  pub values_kept : (marks : List Bool) (es : List (K × Row)) → values_of (kept marks es) ≡ kept marks (values_of es)
  values_kept [] es = refl
  values_kept (m ∷ marks) [] = refl
  values_kept (true ∷ marks) (e ∷ es) = ap (λ rest. e.1 ∷ rest) (values_kept marks es)
  values_kept (false ∷ marks) (e ∷ es) = values_kept marks es

-- ---- copies

pub at_place : {X : Type 0} (P : X → Type 0) (xs : List X) (i : ℕ) (d : X) → AllByRecursion P xs
    → i < length xs → P (get_or xs i d)
at_place P [] i d h lt = absurd (omega arith)
at_place P (x ∷ xs) zero d h lt = h.0
at_place P (x ∷ xs) (suc i) d h lt = at_place P xs i d h.1 (omega arith)

-- no row before a place has the key of the row there
pub not_yet : {Row : Type 0} (key_of : Row → Key) (rows : List Row) (i : ℕ) (x : Row) → IsDistinct (same_key key_of) rows → i < length rows → x ≡ get_or rows i x → has_row key_of (key_of x) (take i rows) ≡ false
unfolding IsDistinct
not_yet key_of [] i x d lt is = absurd (omega arith)
not_yet key_of (row ∷ rows) zero x d lt is = refl
not_yet key_of (row ∷ rows) (suc i) x d lt is =
    let other : is_key (key_of row) (key_of x) ≡ false = ap (λ y. is_key (key_of row) (key_of y)) is ∙ at_place (λ y. same_key key_of row y ≡ false) rows i x d.0 (omega arith) in
    rw (keys_equiv.symm (key_of x) (key_of row) ∙ other) (not_yet key_of rows i x d.1 (omega arith) is)
