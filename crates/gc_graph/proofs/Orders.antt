-- Paths don't see the order of rows.
use Rattle.std.proofs.Common.{◌≡◌, [], ◌∷◌, List, sym, subst, ℤ, ℕ}
use Rattle.std.specs.Prelude.{Bool, Contains, ◌↔◌, IsTrue}
use Rattle.meta_types.specs.Rows.{Records}
use Rattle.meta_types.specs.Paths.{Thing, things, is_root, IsPath, IsReached, TellsReached}

module _ (these those : Records) (at : ℤ) (profiles : these.profile ≡ those.profile) (same : (thing : Thing) → Contains (things these) thing → Contains (things those) thing) where
  path_same : (last : Thing) (path : List Thing) → IsPath these at last path → IsPath those at last path
  path_same last [] p = (same last p.0, subst (λ (n : ℕ). IsTrue (is_root n at last)) profiles p.1)
  path_same last (before ∷ path) p = (same last p.0, p.1, path_same before path p.2)

  pub reached_same : (thing : Thing) → IsReached these at thing → IsReached those at thing
  reached_same thing r = (r.0, path_same thing r.0 r.1)

-- a test that tells where paths end in a store tells it in one of the same things in another order
pub told_in_any_order : (these those : Records) (at : ℤ) (reached : Thing → Bool) → these.profile ≡ those.profile → ((thing : Thing) → Contains (things these) thing ↔ Contains (things those) thing)
    → TellsReached these at reached → TellsReached those at reached
told_in_any_order these those at reached profiles same tells = record {
  each = λ thing c.
      let told = tells.each thing ((same thing).1 c) in (
        (λ h. reached_same these those at profiles (λ t. (same t).0) thing (told.0 h)),
        (λ r. told.1 (reached_same those these at (sym profiles) (λ t. (same t).1) thing r)),
      );
}
