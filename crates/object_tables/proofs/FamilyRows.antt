-- What a change of one family does to the names under each parent.
use Rattle.std.proofs.Common.{◌≡◌, Bool, true, false, List, [], ◌∷◌, refl, sym, ap, ◌∙◌, inl, inr}
use Rattle.std.specs.Prelude.{Option, Some, None, Result, Ok, Err, OnOk, is_some, if◌then◌else◌}
use Rattle.std.proofs.lemmas.Bool.{cases_Bool}
use Rattle.meta_types.specs.Text.{Text}
use Rattle.meta_types.specs.Keys.{Key, is_key, is_before, row_at, has_row, add_row, remove_row, change_row, are_in_order}
use Rattle.meta_types.specs.declared.fault.Fault.{Fault}
use Rattle.meta_types.specs.declared.fault.Fault.TheVariants.{OutOfMemory}
use Rattle.meta_types.specs.declared.rows.SnapKey.{SnapKey}
use Rattle.meta_types.proofs.ListSearches.{no_none}
use Rattle.row_tables.specs.Arrived.{one_text, Becomes}
use Rattle.object_tables.specs.Children.{Enters, entered, left, parent_key, family_key, names_of, family_names, first_family, with_child, without_child}
use Rattle.object_tables.specs.declared.families.Family.{Family}
use Rattle.row_tables.proofs.ChangedThere.{stayed}
use Rattle.meta_types.proofs.Puts.{no_row_removed}
use Rattle.row_tables.proofs.NamespaceLists.{keys_same}
use Rattle.object_tables.proofs.RowsKept.{key_itself, row_is, row_added, row_removed}

pub none_at : {X : Type 0} (o : Option X) → is_some o ≡ false → o ≡ None
none_at None h = refl
none_at (Some x) h = absurd cc

module _ {Row : Type 0} (key_of : Row → Key) where
  -- the row that was added is found by its key
  itself_added : (key : Key) (row : Row) → is_key key (key_of row) ≡ true → (rows : List Row) → has_row key_of key rows ≡ false → row_at key_of key (add_row key_of row rows) ≡ Some row
  itself_added key row e [] free = rw e refl
  itself_added key row e (x ∷ rows) free = elim (cases_Bool (is_key key (key_of x))) [
    | inl t ↦ absurd (cc (rw t at free))
    | inr f ↦ elim (cases_Bool (is_before (key_of row) (key_of x))) [
      | inl b ↦ rw (b, e) refl
      | inr b ↦ rw (b, f) (itself_added key row e rows (rw f at free))
    ]
  ]

  -- a row that becomes another is found as that, and the others as they were
  pub at_changed : (key : Key) (row after : Row) → key_of after ≡ key → (rows : List Row) → row_at key_of key rows ≡ Some row → (other : Key)
      → row_at key_of other (change_row key_of key (λ _. after) rows) ≡ (if is_key other key then Some after else row_at key_of other rows)
  at_changed key row after same [] found other = no_none row found
  at_changed key row after same (x ∷ rows) found other = elim (cases_Bool (is_key key (key_of x))) [
    | inl t ↦ elim (cases_Bool (is_key other key)) [
      | inl u ↦ rw (t, u, ap (is_key other) same ∙ u) refl
      | inr v ↦ rw (t, v, ap (is_key other) same ∙ v, ap (is_key other) (sym (keys_same key (key_of x) t)) ∙ v) refl
    ]
    | inr f ↦ elim (cases_Bool (is_key other (key_of x))) [
      | inl u ↦ rw (f, u, apart x f u) refl
      | inr v ↦ rw (f, v) (at_changed key row after same rows (rw f at found) other)
    ]
  ]
    where
      apart : (x : Row) → is_key key (key_of x) ≡ false → is_key other (key_of x) ≡ true → is_key other key ≡ false
      apart x f u = elim (cases_Bool (is_key other key)) [
        | inl w ↦ absurd (cc (sym f ∙ ap (is_key key) (sym (sym (keys_same other key w) ∙ keys_same other (key_of x) u)) ∙ key_itself key))
        | inr v ↦ v
      ]

choose : (b : Bool) (family : Family) (o : Option Family) → names_of (if b then Some family else o) ≡ (if b then family.children else names_of o)
choose true family o = refl
choose false family o = refl

module _ (key : SnapKey) (parent : Text) (families : List Family) where
  abbrev home : Key
  home = parent_key key parent

  -- a parent that has no family has no name under it
  none_named : has_row family_key home families ≡ false → (a b c : Text) → is_key (a ∷ b ∷ c ∷ []) home ≡ true → family_names families a b c ≡ []
  none_named free a b c t = ap (λ k. names_of (row_at family_key k families)) (keys_same (a ∷ b ∷ c ∷ []) home t) ∙ ap names_of (none_at (row_at family_key home families) free)

  -- a first child
  pub first_entered : (family : Family) → family ≡ first_family key parent → has_row family_key home families ≡ false
      → family_names (add_row family_key family families) ≡ entered key parent (family_names families)
  first_entered family is free = λ i a b c. at a b c i
    where
      at : (a b c : Text) → family_names (add_row family_key family families) a b c ≡ entered key parent (family_names families) a b c
      at a b c =
          let own : family_key family ≡ home = ap family_key is in
          elim (cases_Bool (is_key (a ∷ b ∷ c ∷ []) home)) [
            | inl t ↦ rw t (
                ap names_of (itself_added family_key (a ∷ b ∷ c ∷ []) family (ap (is_key (a ∷ b ∷ c ∷ [])) own ∙ t) families
                (ap (λ k. has_row family_key k families) (keys_same (a ∷ b ∷ c ∷ []) home t) ∙ free))
                ∙ ap (λ (f : Family). f.children) is
                ∙ sym (ap (add_row one_text key.name) (none_named free a b c t)))
            | inr f ↦ rw f (ap names_of (row_added family_key (a ∷ b ∷ c ∷ []) family (ap (is_key (a ∷ b ∷ c ∷ [])) own ∙ f) families))
          ]

  module _ (row after : Family) (new : List Family) (becomes : Becomes family_key home row after families new) where
    named_there : (a b c : Text) → is_key (a ∷ b ∷ c ∷ []) home ≡ true → family_names families a b c ≡ row.children
    named_there a b c t = ap (λ k. names_of (row_at family_key k families)) (keys_same (a ∷ b ∷ c ∷ []) home t) ∙ ap names_of becomes.there

    -- a name that is free, is free in the family
    pub free_there : has_row one_text (key.name ∷ []) (family_names families key.ns key.snapshotter parent) ≡ false → has_row one_text (key.name ∷ []) row.children ≡ false
    free_there free = ap (has_row one_text (key.name ∷ [])) (sym (named_there key.ns key.snapshotter parent (key_itself home))) ∙ free

    module _ (own : family_key after ≡ home) where
      changed_at : (a b c : Text) → family_names new a b c ≡ (if is_key (a ∷ b ∷ c ∷ []) home then after.children else family_names families a b c)
      changed_at a b c = ap (λ (l : List Family). family_names l a b c) becomes.rows
          ∙ ap names_of (at_changed family_key home row after own families becomes.there (a ∷ b ∷ c ∷ []))
          ∙ choose (is_key (a ∷ b ∷ c ∷ []) home) after (row_at family_key (a ∷ b ∷ c ∷ []) families)

      pub one_entered : after ≡ with_child key.name row → family_names new ≡ entered key parent (family_names families)
      one_entered made = λ i a b c. at a b c i
        where
          at : (a b c : Text) → family_names new a b c ≡ entered key parent (family_names families) a b c
          at a b c = elim (cases_Bool (is_key (a ∷ b ∷ c ∷ []) home)) [
            | inl t ↦ changed_at a b c ∙ rw t (ap (λ (f : Family). f.children) made ∙ ap (add_row one_text key.name) (sym (named_there a b c t)))
            | inr f ↦ changed_at a b c ∙ rw f refl
          ]

      pub one_left : after ≡ without_child key.name row → family_names new ≡ left key parent (family_names families)
      one_left made = λ i a b c. at a b c i
        where
          at : (a b c : Text) → family_names new a b c ≡ left key parent (family_names families) a b c
          at a b c = elim (cases_Bool (is_key (a ∷ b ∷ c ∷ []) home)) [
            | inl t ↦ changed_at a b c ∙ rw t (ap (λ (f : Family). f.children) made ∙ ap (remove_row one_text (key.name ∷ [])) (sym (named_there a b c t)))
            | inr f ↦ changed_at a b c ∙ rw f refl
          ]

      -- the family's names are those that it has then
      pub named_after : family_names new key.ns key.snapshotter parent ≡ after.children
      named_after = changed_at key.ns key.snapshotter parent ∙ rw (key_itself home) refl

    home_is : family_key row ≡ home
    home_is = sym (row_is family_key home families row becomes.there).1

    -- the child arrived, under its own name
    pub arrived : (name : Text) (answer : Result (Unit {0}) Fault) → name ≡ key.name
        → Enters name row answer after → (u : Unit {0}) → answer ≡ Ok u
        → family_names new ≡ entered key parent (family_names families)
    arrived name answer same enters u is =
        let made : after ≡ with_child key.name row = (rw is at enters.ok) ∙ ap (λ n. with_child n row) same in
        one_entered (ap family_key made ∙ home_is) made

    -- or memory was refused, and nothing changed
    pub arrived_not : (name : Text) (answer : Result (Unit {0}) Fault)
        → Enters name row answer after → (fault : Fault) → answer ≡ Err fault → new ≡ families
    arrived_not name answer enters fault is = stayed family_key home row after families new becomes (rw is at enters.err)

    pub refused : (name : Text) (answer : Result (Unit {0}) Fault) → name ≡ key.name → Enters name row answer after → (fault : Fault) → answer ≡ Err fault
        → has_row one_text (key.name ∷ []) (family_names families key.ns key.snapshotter parent) ≡ false → fault ≡ OutOfMemory
    refused name answer same enters fault is free =
        let absent : has_row one_text (name ∷ []) row.children ≡ false = ap (λ n. has_row one_text (n ∷ []) row.children) same ∙ free_there free in
        rw absent at (rw is at enters.fault)

  -- a family more
  pub first_arrived : (family : Family) (rows new : List Family) (answer : Result (Unit {0}) Fault)
      → family ≡ first_family key parent → has_row family_key home families ≡ false
      → rows ≡ families
      → OnOk answer (new ≡ add_row family_key family rows) → OnOk answer (family_names new ≡ entered key parent (family_names families))
  first_arrived family rows new (Ok u) is free same ok = ap family_names (ok ∙ ap (add_row family_key family) same) ∙ first_entered family is free
  first_arrived family rows new (Err fault) is free same ok = tt

  -- where no family is, nobody leaves
  pub none_left : has_row family_key home families ≡ false → family_names families ≡ left key parent (family_names families)
  none_left free = λ i a b c. at a b c i
    where
      at : (a b c : Text) → family_names families a b c ≡ left key parent (family_names families) a b c
      at a b c = elim (cases_Bool (is_key (a ∷ b ∷ c ∷ []) home)) [
        | inl t ↦ rw t (none_named free a b c t ∙ sym (ap (remove_row one_text (key.name ∷ [])) (none_named free a b c t)))
        | inr f ↦ rw f refl
      ]

  -- a family without a child goes, and no name with it
  pub closed : are_in_order family_key families ≡ true → family_names families key.ns key.snapshotter parent ≡ [] → family_names (remove_row family_key home families) ≡ family_names families
  closed o empty = λ i a b c. at a b c i
    where
      at : (a b c : Text) → family_names (remove_row family_key home families) a b c ≡ family_names families a b c
      at a b c = elim (cases_Bool (is_key (a ∷ b ∷ c ∷ []) home)) [
        | inl t ↦ (
            let same = keys_same (a ∷ b ∷ c ∷ []) home t in
            ap (λ k. names_of (row_at family_key k (remove_row family_key home families))) same
            ∙ ap names_of (none_at (row_at family_key home (remove_row family_key home families)) (no_row_removed family_key home families o))
            ∙ sym empty ∙ ap (λ k. names_of (row_at family_key k families)) (sym same))
        | inr f ↦ ap names_of (row_removed family_key (a ∷ b ∷ c ∷ []) home f families)
      ]
