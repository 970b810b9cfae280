-- An explanation doesn't see the order of rows, the namespaces or the next number.
use Rattle.std.proofs.Common.{◌≡◌, ℕ, Bool, List, [], ◌∷◌, length, map, sym, ap, ◌∙◌, subst, inl, inr, ℤ}
use Rattle.std.specs.Prelude.{Contains, ◌↔◌, IsTrue, ◌+◌, ◌*◌, nat_lt}
use Rattle.std.specs.List.Sorted.{IsPermutation}
use Rattle.std.proofs.lemmas.List.Sorted.{IsPermutation-append, IsPermutation-map, IsPermutation-sym, Contains-permutation}
use Rattle.meta_types.specs.Keys.{Key}
use Rattle.meta_types.specs.Limits.{is_too_large}
use Rattle.meta_types.specs.declared.limits.TheConstants.{MAX_NODES}
use Rattle.meta_types.specs.Rows.{Records, image_key, container_key, content_key, ingest_key, snap_key, lease_key}
use Rattle.meta_types.specs.Paths.{Thing, image, container, lease, ingest, content, snapshot, things, in_both_modes, is_root, IsPath}
use Rattle.meta_types.specs.Explanations.{EndsPath, IsFirstBack, Explains, AreTold, ExplainsLast, IsExplanation}
use Rattle.meta_types.specs.declared.resource.Mode.{Mode}
use Rattle.meta_types.specs.declared.resource.Mode.TheVariants.{Full, Flat}
use Rattle.meta_types.specs.declared.explanation.By.TheVariants.{Root, Ended}
use Rattle.meta_types.specs.declared.explanation.PathStep.{PathStep}
use Rattle.row_tables.specs.Arrived.{sorted}
use Rattle.row_tables.proofs.KeysOnce.{same_members}
use Rattle.row_tables.proofs.Arrivals.{length_sorted}
use Rattle.explaining.specs.RowLists.{AreInOrder}

path_as : (a b : Records) (at : ℤ) → a.profile ≡ b.profile → ((t : Thing) → Contains (things a) t → Contains (things b) t) → (last : Thing) (path : List Thing) → IsPath a at last path → IsPath b at last path
path_as a b at p same last [] h = (same last h.0, subst (λ (n : ℕ). IsTrue (is_root n at last)) p h.1)
path_as a b at p same last (before ∷ path) h = (same last h.0, h.1, path_as a b at p same before path h.2)

module _ (a b : Records) (p : a.profile ≡ b.profile) (same : (t : Thing) → Contains (things a) t ↔ Contains (things b) t) where
  there : (at : ℤ) (last : Thing) (path : List Thing) → IsPath a at last path → IsPath b at last path
  there at last path h = path_as a b at p (λ t. (same t).0) last path h

  back : (at : ℤ) (last : Thing) (path : List Thing) → IsPath b at last path → IsPath a at last path
  back at last path h = path_as b a at (sym p) (λ t. (same t).1) last path h

  ends_back : (at : ℤ) (long : ℕ) (thing : Thing) → EndsPath b at long thing → EndsPath a at long thing
  ends_back at long thing e = (e.0, back at thing e.0 e.1, e.2)

  first_as : (at : ℤ) (last : Thing) (path : List Thing) → IsFirstBack a at last path → IsFirstBack b at last path
  first_as at last [] h = tt
  first_as at last (before ∷ path) h = ((λ other k t. h.0 other (k.0, ends_back at (length path) other k.1) t), first_as at before path h.1)

  pub explains_as : (at : ℤ) (asked : Thing → Bool) (xs : List Thing) → Explains a at asked xs → Explains b at asked xs
  explains_as at asked [] e = λ thing path q h. e thing path q (back at thing path h)
  explains_as at asked (last ∷ path) e = record {
    this = e.this;
    leads = there at last path e.leads;
    shortest = λ other rest q h. e.shortest other rest q (back at other rest h);
    first = λ other k t. e.first other (k.0, ends_back at (length path) other k.1) t;
    first_back = first_as at last path e.first_back;
  }

  last_as : (asked : Thing → Bool) (xs : List Thing) → ExplainsLast a asked xs
      → ExplainsLast b asked xs
  last_as asked [] e = λ at. explains_as at asked [] (e at)
  last_as asked (last ∷ path) e = (
    e.0,
    explains_as e.0 asked (last ∷ path) e.1,
    λ later after. explains_as later asked []
        (e.2 later after),
  )

  pub explanation_as : (at : ℤ) (asked : Thing → Bool) (kept : Bool) (steps : List PathStep) → IsExplanation a at asked kept steps → IsExplanation b at asked kept steps
  explanation_as at asked kept steps e = elim e [
    | inl (k, h) ↦ inl (
      k,
      record {
        last = h.last;
        path = h.path;
        explains = explains_as at asked (h.last ∷ h.path) h.explains;
        told = subst (λ (n : ℕ). AreTold n Root (h.last ∷ h.path) steps) p h.told;
      },
    )
    | inr (k, h) ↦ inr (
      k,
      record {
        none = explains_as at asked [] h.none;
        path = h.path;
        explains = last_as asked h.path h.explains;
        told = subst (λ (n : ℕ). AreTold n Ended h.path steps) p h.told;
      },
    )
  ]

-- ---- records in the order of keys

module _ (arrived records : Records) (s : AreInOrder arrived records) where
  moved : {Row : Type 0} (key_of : Row → Key) (thing : Row → Thing) (rows after : List Row) → sorted key_of rows ≡ after → IsPermutation (map thing rows) (map thing after)
  moved key_of thing rows after e = subst (λ l. IsPermutation (map thing rows) (map thing l)) e (IsPermutation-map thing rows (sorted key_of rows) (same_members key_of rows))

  both_moved : {Row : Type 0} (key_of : Row → Key) (thing : Mode → Row → Thing) (rows after : List Row) → sorted key_of rows ≡ after → IsPermutation (in_both_modes thing rows) (in_both_modes thing after)
  both_moved key_of thing rows after e = IsPermutation-append (map (thing Full) rows) (map (thing Full) after) (map (thing Flat) rows) (map (thing Flat) after)
      (moved key_of (thing Full) rows after e) (moved key_of (thing Flat) rows after e)

  same_things : IsPermutation (things arrived) (things records)
  same_things =
      IsPermutation-append _ _ _ _
      (IsPermutation-append _ _ _ _
      (IsPermutation-append _ _ _ _
      (IsPermutation-append _ _ _ _
      (IsPermutation-append _ _ _ _ (moved image_key image arrived.tables.images records.tables.images s.images) (moved container_key container arrived.tables.containers records.tables.containers s.containers))
      (moved lease_key lease arrived.leases records.leases s.leases))
      (moved ingest_key ingest arrived.tables.ingests records.tables.ingests s.ingests))
      (both_moved content_key content arrived.tables.content records.tables.content s.content))
      (both_moved snap_key snapshot arrived.tables.snapshots records.tables.snapshots s.snapshots)

  pub same_thing : (t : Thing) → Contains (things arrived) t ↔ Contains (things records) t
  same_thing t = (
    Contains-permutation (things arrived) (things records) t same_things,
    Contains-permutation (things records) (things arrived) t (IsPermutation-sym (things arrived) (things records) same_things),
  )

  -- they are as many
  pub as_large : is_too_large arrived ≡ is_too_large records
  as_large =
      let c = sym (length_sorted content_key arrived.tables.content) ∙ ap length s.content in
      let n = sym (length_sorted snap_key arrived.tables.snapshots) ∙ ap length s.snapshots in
      let g = sym (length_sorted ingest_key arrived.tables.ingests) ∙ ap length s.ingests in
      λ i. nat_lt MAX_NODES (2 * (c i + n i) + g i)
