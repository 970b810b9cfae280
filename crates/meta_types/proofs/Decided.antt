-- An `==` that a derive writes for an enum answers whether two values are equal, where that of each
-- variant's fields does.
--     Test A                 a comparison that answers whether two values are equal
--     text, number, maybe    of a text, a number, an option
--     none, one, ◌⊗◌         of a variant's fields: of no field, of the last one, and of one before
--                            others
--     ◌⊕◌                    the tests of one variant more, before those of the others; `tt` ends
--                            them
--     three                  of a tuple of three; `⊗` is of a tuple of two
--     fields, tags, variants of a struct, of an enum with no field, of an enum by a list of the
--                            tests of its variants' fields
--     told_by                what a test of two values says
use Rattle.std.proofs.Common.{◌≡◌, ◌∙◌, sym, ap, refl, ℕ, ℤ, ◌==◌, Bool, true, false, ◌&&◌, List, [], ◌∷◌, Option, Some, None, bytes_eq}
use Rattle.std.specs.Bool.{Decides}
use Rattle.std.specs.Option.{option_eq}
use Rattle.std.specs.Ordering.{int_eq}
use Rattle.std.specs.Cmp.{first_so, second_so, unsigned_Decides, signed_Decides}
use Rattle.std.specs.Cmp.Lexicographic.{pointwise, pointwise_decides, bytes_decides}
use denote.Struct.Field.{Field}
use denote.Struct.Values.{Values}
use denote.Struct.Record as struct
use denote.Enum.Bare.{sameb}
use denote.Enum.Declared.{Declared, Record, Choice, values_one, left_or, right_or, tag_of}
use denote.Enum.Compared.{Each, by}
use mathlib.Core.Bool.{true≢false}
use mathlib.Core.Path.{subst}
use mathlib.Core.Logic.{◌⊎◌, inl, inr}

pub record Test (A : Type 0) : Type 0 where
  pub same : A → A → Bool
  pub decides : (x y : A) → Decides (same x y) (x ≡ y)

-- numbers are compared by `==`
abbrev pub number : Test ℕ
number = record { same = λ x y. x == y; decides = unsigned_Decides }

abbrev pub signed : Test ℤ
signed = record { same = λ x y. int_eq x y; decides = signed_Decides }

-- texts are compared byte by byte
abbrev pub text : Test (List ℕ)
text = record { same = λ x y. bytes_eq x y; decides = bytes_decides }

-- lists are compared item by item
abbrev pub listed : {A : Type 0} → Test A → Test (List A)
listed t = record { same = λ xs ys. pointwise t.same xs ys; decides = pointwise_decides t.decides }

abbrev IsThere : {A : Type 0} → Option A → Type 0
IsThere None = ⊥
IsThere (Some x) = Unit {0}

abbrev there_or : {A : Type 0} → A → Option A → A
there_or x None = x
there_or x (Some y) = y

pub maybe_decides : {A : Type 0} (t : Test A) → (p q : Option A) → Decides (option_eq t.same p q) (p ≡ q)
maybe_decides t None None = (λ e. refl, λ e. refl)
maybe_decides t None (Some y) = (λ e. absurd (true≢false (sym e)), λ e. absurd (subst IsThere (sym e) tt))
maybe_decides t (Some x) None = (λ e. absurd (true≢false (sym e)), λ e. absurd (subst IsThere e tt))
maybe_decides t (Some x) (Some y) = (λ e. ap Some ((t.decides x y).0 e), λ e. (t.decides x y).1 (ap (there_or x) e))

abbrev pub maybe : {A : Type 0} → Test A → Test (Option A)
maybe t = record { same = λ p q. option_eq t.same p q; decides = maybe_decides t }

abbrev pub none : Test (Unit {0})
none = record { same = λ x y. true; decides = λ x y. (λ e. refl, λ e. refl) }

abbrev pub one : {A : Type 0} → Test A → Test (A × Unit {0})
one t = record {
  same = λ x y. t.same x.0 y.0;
  decides = λ x y. (λ e. λ i. ((t.decides x.0 y.0).0 e i, tt), λ e. (t.decides x.0 y.0).1 (ap (λ z. z.0) e));
}

pub more_decides : {A B : Type 0} (t : Test A) (u : Test B) → (x y : A × B) → Decides (t.same x.0 y.0 && u.same x.1 y.1) (x ≡ y)
more_decides t u x y = (
  λ e i. ((t.decides x.0 y.0).0 (first_so (t.same x.0 y.0) (u.same x.1 y.1) e) i, (u.decides x.1 y.1).0 (second_so (t.same x.0 y.0) (u.same x.1 y.1) e) i),
  λ e i. (t.decides x.0 y.0).1 (ap (λ z. z.0) e) i && (u.decides x.1 y.1).1 (ap (λ z. z.1) e) i,
)

infixr 35 ◌⊗◌
-- pairs are compared part by part
abbrev pub ◌⊗◌ : {A B : Type 0} → Test A → Test B → Test (A × B)
t ⊗ u = record { same = λ x y. t.same x.0 y.0 && u.same x.1 y.1; decides = more_decides t u }

pub three_decide : {A B C : Type 0} (t : Test A) (u : Test B) (v : Test C) → (x y : A × B × C) → Decides ((t.same x.0 y.0 && u.same x.1 y.1) && v.same x.2 y.2) (x ≡ y)
three_decide t u v x y =
    let told = more_decides (t ⊗ u) v ((x.0, x.1), x.2) ((y.0, y.1), y.2) in
    (λ e i. ((told.0 e i).0.0, (told.0 e i).0.1, (told.0 e i).1), λ e. told.1 (λ i. (((e i).0, (e i).1), (e i).2)))

-- of a tuple of three
abbrev pub three : {A B C : Type 0} → Test A → Test B → Test C → Test (A × B × C)
three t u v = record { same = λ x y. (t.same x.0 y.0 && u.same x.1 y.1) && v.same x.2 y.2; decides = three_decide t u v }

-- of a struct with these fields
pub fields_decide : (N : struct.Record) → struct.Propositions N → (t : Test (Values N.parts)) → (x y : N.D) → Decides (t.same (N.as_values x) (N.as_values y)) (x ≡ y)
fields_decide N gp t x y =
    let told = t.decides (N.as_values x) (N.as_values y) in
    (λ e. struct.values_one N gp x y (told.0 e), λ e. told.1 (ap N.as_values e))

abbrev pub fields : (N : struct.Record) → struct.Propositions N → Test (Values N.parts) → Test N.D
fields N gp t = record { same = λ x y. t.same (N.as_values x) (N.as_values y); decides = fields_decide N gp t }

-- of an enum with no field, whose variants `back` finds by their places
pub tags_decide : (T : Declared) (back : ℕ → T.D) → ((x : T.D) → back (tag_of T x) ≡ x) → (x y : T.D) → Decides (sameb T x y) (x ≡ y)
tags_decide T back found x y =
    let told = unsigned_Decides (tag_of T x) (tag_of T y) in
    (λ e. sym (found x) ∙ ap back (told.0 e) ∙ found y, λ e. told.1 (ap (tag_of T) e))

abbrev pub tags : (T : Declared) (back : ℕ → T.D) → ((x : T.D) → back (tag_of T x) ≡ x) → Test T.D
tags T back found = record { same = λ x y. sameb T x y; decides = tags_decide T back found }

-- ---- every variant

abbrev pub Tests : List (List Field) → Type 0
Tests [] = Unit {0}
Tests (Fs ∷ Fss) = Test (Values Fs) × Tests Fss

infixr 25 ◌⊕◌
abbrev pub ◌⊕◌ : {A B : Type 0} → A → B → A × B
t ⊕ ts = (t, ts)

abbrev pub sames : (Fss : List (List Field)) → Tests Fss → Each Bool Fss
sames [] ts = tt
sames (Fs ∷ Fss) ts = (ts.0.same, sames Fss ts.1)

abbrev OnLeft : {A B : Type 0} → A ⊎ B → Type 0
OnLeft (inl x) = Unit {0}
OnLeft (inr y) = ⊥

choices : (Fss : List (List Field)) (ts : Tests Fss) → (c d : Choice Fss) → Decides (by false false Fss (sames Fss ts) c d) (c ≡ d)
choices [] ts c d = absurd c
choices (Fs ∷ Fss) ts (inl x) (inl y) = (λ e. ap inl ((ts.0.decides x y).0 e), λ e. (ts.0.decides x y).1 (ap (left_or x) e))
choices (Fs ∷ Fss) ts (inl x) (inr d) = (λ e. absurd (true≢false (sym e)), λ e. absurd (subst OnLeft e tt))
choices (Fs ∷ Fss) ts (inr c) (inl y) = (λ e. absurd (true≢false (sym e)), λ e. absurd (subst OnLeft (sym e) tt))
choices (Fs ∷ Fss) ts (inr c) (inr d) =
    let rest = choices Fss ts.1 c d in
    (λ e. ap inr (rest.0 e), λ e. rest.1 (ap (right_or c) e))

pub by_decides : (N : Record) (ts : Tests N.parts) → (x y : N.D) → Decides (by false false N.parts (sames N.parts ts) (N.as_values x) (N.as_values y)) (x ≡ y)
by_decides N ts x y =
    let told = choices N.parts ts (N.as_values x) (N.as_values y) in
    (λ e. values_one N x y (told.0 e), λ e. told.1 (ap N.as_values e))

abbrev pub variants : (N : Record) → Tests N.parts → Test N.D
variants N ts = record { same = λ x y. by false false N.parts (sames N.parts ts) (N.as_values x) (N.as_values y); decides = by_decides N ts }

-- a test that is equal to one that decides P decides P
pub told_by : {P : Type 0} {r s : Bool} → r ≡ s → Decides s P → Decides r P
told_by e d = (λ h. d.0 (sym e ∙ h), λ p. e ∙ d.1 p)

-- ---- of labels and of names

pub same_labels : (xs ys : List (List ℕ × List ℕ)) → Decides (pointwise (λ x y. bytes_eq x.0 y.0 && bytes_eq x.1 y.1) xs ys) (xs ≡ ys)
same_labels = (listed (text ⊗ text)).decides

pub same_names : (xs ys : List (List ℕ)) → Decides (pointwise (λ x y. bytes_eq x y) xs ys) (xs ≡ ys)
same_names = (listed text).decides
