-- The names of listings.
use Rattle.std.specs.Prelude.{Bool, bytes_eq}
use Rattle.std.specs.Arc.{arc_str_bytes}
use Rattle.std.specs.Cmp.{IsEquivalence}
use Rattle.std.proofs.lemmas.Cmp.{nat_list_eq_equiv}
use Rattle.meta_types.specs.Text.{Text}
use Rattle.meta_types.specs.declared.listed.Listed.{Listed}
use Rattle.meta_types.specs.declared.listed.Listed.TheVariants as L

-- the text of a name
abbrev pub listed_text : Listed → Text
listed_text (L.Text text) = arc_str_bytes text
listed_text (L.Digest digest) = digest

-- names are one where their texts are
abbrev pub same_name : Listed → Listed → Bool
same_name a b = bytes_eq (listed_text a) (listed_text b)

-- which is an equivalence
pub listed_equiv : IsEquivalence same_name
listed_equiv = record {
  refl = λ x. nat_list_eq_equiv.refl (listed_text x);
  symm = λ x y. nat_list_eq_equiv.symm (listed_text x) (listed_text y);
  congr = λ x y z. nat_list_eq_equiv.congr (listed_text x) (listed_text y) (listed_text z);
}
