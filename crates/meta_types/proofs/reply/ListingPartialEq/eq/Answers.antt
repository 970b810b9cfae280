use Rattle.std.proofs.Common.{◌∙◌, sym, Bool, List, ℕ, bytes_eq}
use Rattle.meta_types.specs.Listings.{listed_text}
use Rattle.std.specs.Cmp.Lexicographic.{pointwise}
use Rattle.std.specs.Cmp.Derive.Mapped.{pointwise-map}
use Rattle.meta_types.proofs.reply.ListingPartialEq.eq.Goals as goal

abbrev same : List ℕ → List ℕ → Bool
same x y = bytes_eq x y

-- the names are compared by their texts
pub returns : goal.returns
returns c = c.eq.ensures ∙ sym (pointwise-map (λ t. listed_text t) same c.self.inside.names.items
    c.other.inside.names.items) ∙ (λ i. pointwise same (c.self.view_is i) (c.other.view_is i))
