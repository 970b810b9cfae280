-- What keeps the content of the worked lease: the lease at its end, and nothing after it.
use Rattle.std.proofs.Common.{◌≡◌, ◌∙◌, refl, sym, ap, ◌≤◌, Bool, true, false, ℤ, List, [], ◌∷◌, length, inl, inr, arith, codes}
use Rattle.std.specs.Prelude.{Contains, IsTrue, int_lt, not, ◌&&◌}
use Rattle.std.specs.List.{list_all}
use Rattle.std.proofs.lemmas.Bool.{false≢true}
use Rattle.std.proofs.lemmas.List.Elements.{All-contains}
use Rattle.std.proofs.lemmas.List.Sums.{AllPass-from_list_all}
use Rattle.meta_types.specs.Text.{Text}
use Rattle.meta_types.specs.Rows.{Records}
use Rattle.meta_types.specs.Paths.{Thing, lease, content, things, has_edge, is_root, IsPath}
use Rattle.meta_types.specs.Explanations.{is_asked, goes_before, Explains, ExplainsLast, AreTold, step_of}
use Rattle.meta_types.specs.Questions.{ExplanationValue, IsExplanationFor}
use Rattle.meta_types.specs.declared.rows.ContentRow.{ContentRow}
use Rattle.meta_types.specs.declared.resource.Mode.TheVariants.{Full, Flat}
use Rattle.meta_types.specs.declared.resource.Resource.TheVariants as R
use Rattle.meta_types.specs.declared.object.Object.{Object}
use Rattle.meta_types.specs.declared.object.Object.TheVariants.{Held}
use Rattle.meta_types.specs.declared.explanation.By.{By}
use Rattle.meta_types.specs.declared.explanation.By.TheVariants.{Root, Ended, Resource}
use Rattle.meta_types.specs.declared.explanation.PathStep.{PathStep}
use Rattle.meta_types.specs.Worked.{a, x, l, first_of_march, first_of_march_text, just_after}
use Rattle.meta_types.specs.Worked.Images.{leased}
use Rattle.meta_types.proofs.Members.{here, later}

-- ---- the store: a lease that ends on the first of March, and the content that it holds

abbrev records : Records
records = leased.records

abbrev pub end_labels : List (Text × Text)
end_labels = (codes "containerd.io/gc.expire", first_of_march_text) ∷ []

abbrev the_lease : Thing
the_lease = lease (record { ns = x; id = l; labels = end_labels; extra = []; resources = R.Content a ∷ [] })

abbrev row : ContentRow
row = record { ns = x; digest = a; labels = []; extra = [] }

abbrev full : Thing
full = content Full row

abbrev flat : Thing
flat = content Flat row

-- the question is of the content
abbrev object : Object
object = Held (R.Content a)

abbrev asked : Thing → Bool
asked = is_asked x object

-- a test that each thing fails passes for none
none_passes : (test : Thing → Bool)
    → list_all (λ thing. not (test thing)) (things records) ≡ true
    → (thing : Thing) → Contains (things records) thing → IsTrue (test thing) → ⊥
none_passes test fails thing there passes =
    let all = things records in
    let each = AllPass-from_list_all (λ other. not (test other)) all fails in
    let failed = All-contains (λ other. IsTrue (not (test other))) all thing each there in
    false≢true (sym (ap not passes) ∙ failed)

both : (p q : Bool) → IsTrue p → IsTrue q → IsTrue (p && q)
both p q is_p is_q = rw (is_p, is_q) refl

-- a path ends in a thing of the store
in_store : (at : ℤ) (last : Thing) (path : List Thing) → IsPath records at last path
    → Contains (things records) last
in_store at last [] leads = leads.0
in_store at last (before ∷ path) leads = leads.0

-- ---- at its end, the lease keeps the content

lease_there : Contains (things records) the_lease
lease_there = here the_lease (full ∷ flat ∷ [])

content_there : Contains (things records) full
content_there = later the_lease (full ∷ flat ∷ []) full (here full (flat ∷ []))

-- the content is no root, so each path to it has something before it
is_shortest : (other : Thing) (rest : List Thing) → IsTrue (asked other)
    → IsPath records first_of_march other rest → 1 ≤ length rest
is_shortest other [] is_asked leads =
    let root = is_root records.profile first_of_march in
    absurd (none_passes (λ thing. asked thing && root thing) refl other leads.0
    (both (asked other) (root other) is_asked leads.1))
is_shortest other (before ∷ rest) is_asked leads = omega arith

-- none goes before the content or the lease, so both are the first
lease_explains : Explains records first_of_march asked (full ∷ the_lease ∷ [])
lease_explains = record {
  this = refl;
  leads = (content_there, refl, (lease_there, refl));
  shortest = is_shortest;
  first = λ other ends before.
      none_passes (λ thing. asked thing && goes_before thing full) refl other
      (in_store first_of_march other ends.1.0 ends.1.1)
      (both (asked other) (goes_before other full) ends.0 before);
  first_back = (
    λ other ends before.
        none_passes (λ thing. has_edge thing full && goes_before thing the_lease) refl other
        (in_store first_of_march other ends.1.0 ends.1.1)
        (both (has_edge other full) (goes_before other the_lease) ends.0 before),
    tt,
  );
}

-- ---- after it, nothing does

module _ (at : ℤ) (after : IsTrue (int_lt first_of_march at)) where
  no_roots : list_all (λ thing. not (is_root records.profile at thing)) (things records) ≡ true
  no_roots = ap (λ ended. not (not ended) && true) after

  no_path : (last : Thing) (path : List Thing) → IsPath records at last path → ⊥
  no_path last [] leads =
      none_passes (is_root records.profile at) no_roots last leads.0 leads.1
  no_path last (before ∷ path) leads = no_path before path leads.2

  nothing_explains : Explains records at asked []
  nothing_explains thing path is_asked leads = no_path thing path leads

explains_last : ExplainsLast records asked (full ∷ the_lease ∷ [])
explains_last = (first_of_march, lease_explains, nothing_explains)

-- ---- the answers

abbrev steps_by : By → List PathStep
steps_by word = step_of records.profile word the_lease ∷ step_of records.profile Resource full ∷ []

told_by : (word : By) → AreTold records.profile word (full ∷ the_lease ∷ []) (steps_by word)
told_by word = (Resource, step_of records.profile word the_lease ∷ [], refl, refl, refl)

-- at the end
abbrev pub kept : ExplanationValue
kept = record { kept = true; path = steps_by Root }

-- after it
abbrev pub ended : ExplanationValue
ended = record { kept = false; path = steps_by Ended }

abbrev pub just_after_text : Text
just_after_text = codes "2024-03-01T00:00:00.000000001Z"

-- the answer is right at this moment
abbrev pub IsRight : Text → ExplanationValue → Type 0
IsRight at told = IsExplanationFor leased.records x (codes "content") a at told

pub kept_is_right : IsRight first_of_march_text kept
kept_is_right = record {
  free = refl;
  object = object;
  is_object = refl;
  moment = first_of_march;
  is_moment = refl;
  is_explanation = inl (
    refl,
    record {
      last = full;
      path = the_lease ∷ [];
      explains = lease_explains;
      told = told_by Root;
    },
  );
}

pub ended_is_right : IsRight just_after_text ended
ended_is_right = record {
  free = refl;
  object = object;
  is_object = refl;
  moment = just_after;
  is_moment = refl;
  is_explanation = inr (
    refl,
    record {
      none = nothing_explains just_after refl;
      path = full ∷ the_lease ∷ [];
      explains = explains_last;
      told = told_by Ended;
    },
  );
}
