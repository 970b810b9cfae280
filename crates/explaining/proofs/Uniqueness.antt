-- There is one explanation.
use Rattle.std.proofs.Common.{◌≡◌, ◌≤◌, Bool, false, List, [], ◌∷◌, length, refl, sym, ap, subst, arith, ℤ, pos, negsuc, inl, inr}
use Rattle.std.specs.Prelude.{Contains, IsTrue, int_lt}
use Rattle.std.proofs.lemmas.Bool.{cases_Bool, false_from_ne_true, false≢true}
use Rattle.std.proofs.lemmas.Bool.Decides.{nat_tests}
use Rattle.meta_types.specs.Rows.{Records}
use Rattle.meta_types.specs.Paths.{Thing, things, IsPath}
use Rattle.meta_types.specs.Keys.{is_key}
use Rattle.meta_types.specs.Explanations.{thing_key, goes_before, IsFirstBack, Explains, ExplainsLast}
use Rattle.meta_types.proofs.Ordered.{after}
use Rattle.explaining.specs.Explained.{OneThingPerKey}

in_store : (records : Records) (at : ℤ) (last : Thing) (path : List Thing) → IsPath records at last path → Contains (things records) last
in_store records at last [] p = p.0
in_store records at last (before ∷ path) p = p.0

module _ (records : Records) (one : OneThingPerKey records) (at : ℤ) where
  -- two of which none goes before the other are one
  one_thing : (a b : Thing) → Contains (things records) a → Contains (things records) b → (IsTrue (goes_before a b) → ⊥) → (IsTrue (goes_before b a) → ⊥) → a ≡ b
  one_thing a b ca cb not_a not_b = elim (cases_Bool (is_key (thing_key a) (thing_key b))) [
    | inl same ↦ one a b ca cb same
    | inr other ↦ absurd (not_b (after (thing_key a) (thing_key b) (false_from_ne_true (goes_before a b) not_a) other))
  ]

  one_back : (last : Thing) (p q : List Thing) → IsPath records at last p → IsPath records at last q → length p ≡ length q → IsFirstBack records at last p → IsFirstBack records at last q → p ≡ q
  one_back last [] [] _ _ _ _ _ = refl
  one_back last [] (c ∷ q) hp hq l fp fq = absurd (omega (arith, l))
  one_back last (b ∷ p) [] hp hq l fp fq = absurd (omega (arith, l))
  one_back last (b ∷ p) (c ∷ q) hp hq l fp fq =
      let long : length p ≡ length q = omega (arith, l) in
      let same : b ≡ c = one_thing b c (in_store records at b p hp.2) (in_store records at c q hq.2) (fq.0 b (hp.1, (p, hp.2, long))) (fp.0 c (hq.1, (q, hq.2, sym long))) in
      let rest : p ≡ q = one_back c p q (subst (λ (t : Thing). IsPath records at t p) same hp.2) hq.2 long (subst (λ (t : Thing). IsFirstBack records at t p) same fp.1) fq.1 in
      (λ i. same i ∷ rest i)

  -- two explanations of the same at one moment are equal
  pub one_explanation : (asked : Thing → Bool) (p q : List Thing) → Explains records at asked p → Explains records at asked q → p ≡ q
  one_explanation asked [] [] e f = refl
  one_explanation asked [] (last ∷ q) e f = absurd (e last q f.this f.leads)
  one_explanation asked (last ∷ p) [] e f = absurd (f last p e.this e.leads)
  one_explanation asked (a ∷ p) (b ∷ q) e f =
      let le : length p ≤ length q = e.shortest b q f.this f.leads in
      let ge : length q ≤ length p = f.shortest a p e.this e.leads in
      let long : length p ≡ length q = omega arith in
      let same : a ≡ b = one_thing a b (in_store records at a p e.leads) (in_store records at b q f.leads) (f.first a (e.this, (p, e.leads, long))) (e.first b (f.this, (q, f.leads, sym long))) in
      let rest : p ≡ q = one_back b p q (subst (λ (t : Thing). IsPath records at t p) same e.leads) f.leads long (subst (λ (t : Thing). IsFirstBack records at t p) same e.first_back) f.first_back in
      (λ i. same i ∷ rest i)

-- and one of the last moment
module _ (records : Records) (one : OneThingPerKey records) (asked : Thing → Bool) where
  -- of two moments none is later
  same_moment : (at other : ℤ) (a b : Thing) (p q : List Thing) → Explains records at asked (a ∷ p)
      → Explains records other asked (b ∷ q)
      → ((later : ℤ) → IsTrue (int_lt at later) → Explains records later asked [])
      → ((later : ℤ) → IsTrue (int_lt other later) → Explains records later asked []) → at ≡ other
  same_moment at other a b p q e f after_at after_other =
      neither at other
      (false_from_ne_true (int_lt at other) (λ t. after_at other t b q f.this f.leads))
      (false_from_ne_true (int_lt other at) (λ t. after_other at t a p e.this e.leads))
    where
      neither : (x y : ℤ) → int_lt x y ≡ false → int_lt y x ≡ false → x ≡ y
      neither (pos x) (pos y) h k = let same : x ≡ y = grind (arith, nat_tests) in ap pos same
      neither (pos x) (negsuc y) h k = absurd (false≢true (sym k))
      neither (negsuc x) (pos y) h k = absurd (false≢true (sym h))
      neither (negsuc x) (negsuc y) h k =
          let same : x ≡ y = grind (arith, nat_tests) in ap negsuc same

  -- two explanations of the same at the last moment that has one are equal
  pub one_last : (p q : List Thing) → ExplainsLast records asked p → ExplainsLast records asked q
      → p ≡ q
  one_last [] [] e f = refl
  one_last [] (b ∷ q) e f = absurd (e f.0 b q f.1.this f.1.leads)
  one_last (a ∷ p) [] e f = absurd (f e.0 a p e.1.this e.1.leads)
  one_last (a ∷ p) (b ∷ q) e f =
      let same = same_moment e.0 f.0 a b p q e.1 f.1 e.2 f.2 in
      one_explanation records one f.0 asked (a ∷ p) (b ∷ q)
      (subst (λ (at : ℤ). Explains records at asked (a ∷ p)) same e.1) f.1
