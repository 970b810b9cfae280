-- There is one right answer to what keeps a row, and one to what would go without it.
use Rattle.std.proofs.Common.{◌≡◌, ◌∙◌, Bool, true, false, not, List, [], ◌∷◌, ◌++◌, Option, Some, refl, sym, ap, subst, inl, inr, ℤ, ℕ}
use Rattle.std.specs.Prelude.{IsTrue}
use Rattle.meta_types.specs.Text.{Text}
use Rattle.meta_types.specs.Rows.{State, Records}
use Rattle.meta_types.specs.Sound.{IsSound}
use Rattle.meta_types.specs.Paths.{Thing}
use Rattle.meta_types.specs.Reasons.{reason_of}
use Rattle.meta_types.specs.Explanations.{is_asked, step_of, AreTold, IsKeptBy, WasKeptBy, IsExplanation}
use Rattle.meta_types.specs.Impacts.{Impact, removed, IsImpact}
use Rattle.meta_types.specs.Questions.{ExplanationValue, IsExplanationFor, IsImpactFor}
use Rattle.meta_types.specs.declared.object.Object.{Object}
use Rattle.meta_types.specs.declared.explanation.By.{By}
use Rattle.meta_types.specs.declared.explanation.By.TheVariants.{Root, Ended}
use Rattle.meta_types.specs.declared.explanation.PathStep.{PathStep}
use Rattle.explaining.specs.Explained.{OneThingPerKey}
use Rattle.scripts.specs.OneOutput.{EachExplanationIsOne, EachImpactIsOne}
use Rattle.explaining.proofs.Uniqueness.{one_explanation, one_last}
use Rattle.scripts.proofs.OneThing.{one_thing_per_key}

some_is_one : {X : Type 0} (o : Option X) (x y : X) → o ≡ Some x → o ≡ Some y → x ≡ y
some_is_one o x y e f = cc

-- a path has one list of steps
told_once : (profile : ℕ) (word : By) (path : List Thing) (steps other : List PathStep)
    → AreTold profile word path steps → AreTold profile word path other → steps ≡ other
told_once profile word [] steps other a b = a ∙ sym b
told_once profile word (root ∷ []) steps other a b = a ∙ sym b
told_once profile word (last ∷ before ∷ path) steps other a b =
    let reason : a.0 ≡ b.0 = some_is_one (reason_of before last) a.0 b.0 a.2 b.2 in
    let rest : a.1 ≡ b.1 = told_once profile word (before ∷ path) a.1 b.1 a.3 b.3 in
    a.4 ∙ (λ i. rest i ++ step_of profile (reason i) last ∷ []) ∙ sym b.4

same_told : (told other : ExplanationValue) → told.kept ≡ other.kept → told.path ≡ other.path
    → told ≡ other
same_told told other kept path = λ i. record { kept = kept i; path = path i }

module _ (records : Records) (one : OneThingPerKey records) (at : ℤ) (asked : Thing → Bool) where
  kept_once : (steps other : List PathStep) → IsKeptBy records at asked steps
      → IsKeptBy records at asked other → steps ≡ other
  kept_once steps other a b =
      let same =
      one_explanation records one at asked (a.last ∷ a.path) (b.last ∷ b.path) a.explains
      b.explains in
      told_once records.profile Root (b.last ∷ b.path) steps other
      (subst (λ (p : List Thing). AreTold records.profile Root p steps) same a.told) b.told

  ended_once : (steps other : List PathStep) → WasKeptBy records at asked steps
      → WasKeptBy records at asked other → steps ≡ other
  ended_once steps other a b =
      let same = one_last records one asked a.path b.path a.explains b.explains in
      told_once records.profile Ended b.path steps other
      (subst (λ (p : List Thing). AreTold records.profile Ended p steps) same a.told) b.told

  not_both : (steps other : List PathStep) → IsKeptBy records at asked steps
      → WasKeptBy records at asked other → ⊥
  not_both steps other a b = b.none a.last a.path a.explains.this a.explains.leads

  one_way : (told other : ExplanationValue) → IsExplanation records at asked told.kept told.path
      → IsExplanation records at asked other.kept other.path → told ≡ other
  one_way told other (inl a) (inl b) =
      same_told told other (a.0 ∙ sym b.0)
      (kept_once told.path other.path a.1 b.1)
  one_way told other (inr a) (inr b) =
      same_told told other (no_other told.kept other.kept a.0 b.0)
      (ended_once told.path other.path a.1 b.1)
    where
      no_other : (k l : Bool) → IsTrue (not k) → IsTrue (not l) → k ≡ l
      no_other false false p q = refl
      no_other true l p q = absurd cc
      no_other false true p q = absurd cc
  one_way told other (inl a) (inr b) = absurd (not_both told.path other.path a.1 b.1)
  one_way told other (inr a) (inl b) = absurd (not_both other.path told.path b.1 a.1)

-- two right answers to what keeps a row of a sound store at a moment are equal
pub each_explanation_is_one : EachExplanationIsOne
each_explanation_is_one state s ns kind name at told other a b =
    let object : a.object ≡ b.object = some_is_one _ a.object b.object a.is_object b.is_object in
    let moment : a.moment ≡ b.moment = some_is_one _ a.moment b.moment a.is_moment b.is_moment in
    one_way state.records (one_thing_per_key state s) b.moment (is_asked ns b.object) told other
    (subst (λ (m : ℤ). IsExplanation state.records m (is_asked ns b.object) told.kept told.path)
    moment
    (subst (λ (o : Object). IsExplanation state.records a.moment (is_asked ns o) told.kept
    told.path) object a.is_explanation)) b.is_explanation

-- the other's dry runs give both
impact_once : (now then : State) (at : ℤ) (impact other : Impact) → IsImpact now then at impact
    → IsImpact now then at other → impact ≡ other
impact_once now then at impact other a b =
    a.each b.here b.there b.plans_now b.plans_then ∙ sym b.is

-- two right answers to what would be removed without a row at a moment are equal
pub each_impact_is_one : EachImpactIsOne
each_impact_is_one state ns kind name at impact other a b =
    let object : a.object ≡ b.object = some_is_one _ a.object b.object a.is_object b.is_object in
    let moment : a.moment ≡ b.moment = some_is_one _ a.moment b.moment a.is_moment b.is_moment in
    impact_once state (removed state ns b.object).after b.moment impact other
    (subst (λ (m : ℤ). IsImpact state (removed state ns b.object).after m impact) moment
    (subst (λ (o : Object). IsImpact state (removed state ns o).after a.moment impact) object
    a.goes)) b.goes
