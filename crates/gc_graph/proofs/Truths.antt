-- Tests that agree, over labels and options.
use Rattle.std.proofs.Common.{◌≡◌, Bool, true, false, [], ◌∷◌, refl}
use Rattle.std.specs.Prelude.{◌||◌, ◌&&◌, Option, Some, None, bytes_eq, if◌then◌else◌}
use Rattle.std.specs.List.{list_any}
use Rattle.std.specs.Option.{option_map_or}
use Rattle.std.proofs.lemmas.Cmp.{nat_list_eq_equiv}
use Rattle.meta_types.specs.Text.{Text}
use Rattle.gc_graph.specs.declared.node.Node.{Node}

-- ---- tests of two values

-- whether two texts are equal doesn't depend on which comes first
pub bytes_flip : (a b : Text) → bytes_eq a b ≡ bytes_eq b a
bytes_flip a b = nat_list_eq_equiv.symm a b

-- what is joined with false by "and" is false
pub and_none : (a : Bool) → (a && false) ≡ false
and_none true = refl
and_none false = refl

-- what is joined with false by "or" is as it was
pub or_none : (a : Bool) → (a || false) ≡ a
or_none true = refl
or_none false = refl

pub and_flip : (a b : Bool) → (a && b) ≡ (b && a)
and_flip true true = refl
and_flip true false = refl
and_flip false true = refl
and_flip false false = refl

pub and_group : (a b c : Bool) → (a && (b && c)) ≡ (a && b && c)
and_group true b c = refl
and_group false b c = refl

pub spread : (e d l : Bool) → (e && (d || l)) ≡ ((d && e) || (e && l))
spread true true l = refl
spread true false l = refl
spread false true l = refl
spread false false l = refl

-- a label of content, and then the rest
pub more_content : (k v e l : Bool) → (((k && (v && e)) || false) || (e && l)) ≡ (e && ((k && v) || l))
more_content true true true l = refl
more_content true true false l = refl
more_content true false true l = refl
more_content true false false l = refl
more_content false v true l = refl
more_content false v false l = refl

pub more_snapshot : (k s e l : Bool) → (((k && false) || (s && e)) || (e && l)) ≡ (e && (s || l))
more_snapshot true true true l = refl
more_snapshot true true false l = refl
more_snapshot true false true l = refl
more_snapshot true false false l = refl
more_snapshot false true true l = refl
more_snapshot false true false l = refl
more_snapshot false false true l = refl
more_snapshot false false false l = refl

-- ---- tests of lists

pub one_any : (p : Node → Bool) (k : Bool) (x : Node) → list_any p (if k then x ∷ [] else []) ≡ (k && p x)
one_any p true x = or_none (p x)
one_any p false x = refl

pub option_any : {X : Type 0} (p : Node → Bool) (f : X → Node) (o : Option X) → list_any p (option_map_or (λ s. f s ∷ []) o []) ≡ option_map_or (λ s. p (f s)) o false
option_any p f None = refl
option_any p f (Some s) = or_none (p (f s))

pub none_of_option : {X : Type 0} (o : Option X) → option_map_or (λ s. false) o false ≡ false
none_of_option None = refl
none_of_option (Some s) = refl

pub named_option : (o : Option Text) (t : Text) (v e : Bool) → option_map_or (λ s. bytes_eq s t && v && e) o false ≡ (option_map_or (λ s. bytes_eq s t) o false && v && e)
named_option None t v e = refl
named_option (Some s) t v e = refl
