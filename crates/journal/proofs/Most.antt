-- What two of three answers say, as each of them changes.
use Rattle.std.proofs.Common.{◌≡◌, ◌⊎◌, ◌∙◌, ap, refl, Bool, true, false, ◌&&◌, inl, inr}
use Rattle.std.proofs.lemmas.Bool.{false≢true}
use Rattle.journal.specs.Selector.{most}

pub and_false : (b : Bool) → (b && false) ≡ false
and_false true = refl
and_false false = refl

pub both_are : (a b : Bool) → (a && b) ≡ true → (a ≡ true) × (b ≡ true)
both_are true b is = (refl, is)
both_are false b is = absurd (false≢true is)

pub both_is : (a b : Bool) → a ≡ true → b ≡ true → (a && b) ≡ true
both_is a b one other = ap (λ (c : Bool). c && b) one ∙ other

-- one of three is another: then most are as before, or as that one
first : (a b c w : Bool) → (most w b c ≡ most a b c) ⊎ (most w b c ≡ w)
first true true true true = inl refl
first true true true false = inl refl
first false true true true = inl refl
first false true true false = inl refl
first true false false true = inl refl
first true false false false = inl refl
first false false false true = inl refl
first false false false false = inl refl
first a true false true = inr refl
first a true false false = inr refl
first a false true true = inr refl
first a false true false = inr refl

second : (a b c w : Bool) → (most a w c ≡ most a b c) ⊎ (most a w c ≡ w)
second true b true true = inr refl
second true true true false = inl refl
second true false true false = inl refl
second true b false true = inr refl
second true b false false = inr refl
second false b true true = inr refl
second false b true false = inr refl
second false true false true = inl refl
second false false false true = inl refl
second false b false false = inr refl

third : (a b c w : Bool) → (most a b w ≡ most a b c) ⊎ (most a b w ≡ w)
third true true c w = inl refl
third true false c w = inr refl
third false true c w = inr refl
third false false c w = inl refl

-- what is as before, or as the new one, in two steps
then_too : (x y z w : Bool) → (x ≡ y) ⊎ (x ≡ w) → (y ≡ z) ⊎ (y ≡ w) → (x ≡ z) ⊎ (x ≡ w)
then_too x y z w one other = elim one [
  | inl same ↦ elim other [ inl before ↦ inl (same ∙ before) | inr new ↦ inr (same ∙ new) ]
  | inr new ↦ inr new
]

changed : (x y : Bool) (f : Bool → Bool) (w : Bool) → (x ≡ y) ⊎ (x ≡ w)
    → ((f w ≡ f y) ⊎ (f w ≡ w)) → (f x ≡ f y) ⊎ (f x ≡ w)
changed x y f w which step = elim which [
  | inl same ↦ inl (ap f same)
  | inr new ↦ elim step [ inl before ↦ inl (ap f new ∙ before) | inr now ↦ inr (ap f new ∙ now) ]
]

-- each of three is as before, or as the new one; so are most
pub most_kept : (a b c p q r w : Bool) → (p ≡ a) ⊎ (p ≡ w) → (q ≡ b) ⊎ (q ≡ w)
    → (r ≡ c) ⊎ (r ≡ w) → (most p q r ≡ most a b c) ⊎ (most p q r ≡ w)
most_kept a b c p q r w one two three =
    then_too (most p q r) (most p q c) (most a b c) w
    (changed r c (λ (x : Bool). most p q x) w three (third p q c w))
    (then_too (most p q c) (most p b c) (most a b c) w
    (changed q b (λ (x : Bool). most p x c) w two (second p b c w))
    (changed p a (λ (x : Bool). most x b c) w one (first a b c w)))
