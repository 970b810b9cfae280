use Rattle.std.proofs.Common.{◌≡◌, ◌∙◌, ℕ, List, [], ◌∷◌, map, refl}
use Rattle.std.specs.List.{AllZip}
use Rattle.meta_types.specs.Listings.{listed_text}
use Rattle.meta_types.proofs.reply.ListingClone.clone.Goals as goal

shared : {Shared : Type 0} (text_of : Shared → List ℕ) (names copies : List Shared) → AllZip (λ x y.
    text_of y ≡ text_of x) names copies → map text_of copies ≡ map text_of names
shared text_of [] [] same = refl
shared text_of [] (y ∷ ys) same = absurd same
shared text_of (x ∷ xs) [] same = absurd same
shared text_of (x ∷ xs) (y ∷ ys) same = λ i. same.0 i ∷ shared text_of xs ys same.1 i

-- the names share their texts
pub returns : goal.returns
returns c = record {
  cases = shared listed_text c.self.inside.names.items c.in_ok-names.names.items
      c.in_ok-names.ensures.cases.0 ∙ c.self.view_is;
}
