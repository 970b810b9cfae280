-- Numbers in lists: tests, members, and orders.
use Rattle.std.proofs.Common.{◌≡◌, ◌≢◌, ℕ, List, [], ◌∷◌, ◌++◌, Bool, true, false, refl, sym, ◌∙◌, ap, inl, inr, ◌||◌}
use Rattle.std.specs.Prelude.{◌==◌, ◌⊎◌, cond, Option, None}
use Rattle.std.specs.Ordering.{nat_cmp, eq_by_cmp}
use Rattle.std.specs.Cmp.{unsigned_tied}
use Rattle.std.proofs.lemmas.Bool.{eqb-true, eq-eqb, ne_eqb}
use Rattle.std.proofs.lemmas.List.Elements.{filter-append}
use Rattle.std.specs.Prelude.{filter}
use Rattle.std.proofs.Common.{append-nil}
use Rattle.backend_sweep.specs.Shards.{IsChild, has}
use Rattle.back_model.specs.Snaps.{Snaps}
use Rattle.backend_sweep.specs.Sweep.{Climbs, IsInOrderOf}

-- tests
pub or_cases : (a b : Bool) → (a || b) ≡ true → (a ≡ true) ⊎ (b ≡ true)
or_cases true b h = inl refl
or_cases false b h = inr h

pub or_left : (a b : Bool) → a ≡ true → (a || b) ≡ true
or_left a b h = ap (λ x. x || b) h

pub or_right : (a b : Bool) → b ≡ true → (a || b) ≡ true
or_right true b h = refl
or_right false b h = h

pub or_none : (a b : Bool) → (a || b) ≡ false → (a ≡ false) × (b ≡ false)
or_none true b h = cc
or_none false b h = (refl, h)

pub both_none : (a b : Bool) → a ≡ false → b ≡ false → (a || b) ≡ false
both_none a b h k = ap (λ x. x || b) h ∙ k

pub not_both : (b : Bool) → b ≡ true → b ≡ false → ⊥
not_both b h k = let e : true ≡ false = sym h ∙ k in cc

pub truth : (b : Bool) → (b ≡ true) ⊎ (b ≡ false)
truth true = inl refl
truth false = inr refl

-- membership
pub has_push : (xs : List ℕ) (n q : ℕ) → has (xs ++ n ∷ []) q ≡ (has xs q || (n == q))
has_push [] n q = elim (n == q) as (λ (b : Bool). (b || false) ≡ (false || b)) [ true ↦ refl | false ↦ refl ]
has_push (x ∷ xs) n q =
    ap (λ b. (x == q) || b) (has_push xs n q) ∙ elim (x == q) as (λ (b : Bool). (b || (has xs q || (n == q))) ≡ ((b || has xs q) || (n == q))) [ true ↦ refl | false ↦ refl ]

pub push_cases : (xs : List ℕ) (n q : ℕ) → has (xs ++ n ∷ []) q ≡ true → (has xs q ≡ true) ⊎ (n ≡ q)
push_cases xs n q h =
    elim (or_cases (has xs q) (n == q) (sym (has_push xs n q) ∙ h)) [ inl a ↦ inl a | inr b ↦ inr (eqb-true n q b) ]

pub push_old : (xs : List ℕ) (n q : ℕ) → has xs q ≡ true → has (xs ++ n ∷ []) q ≡ true
push_old xs n q h = has_push xs n q ∙ or_left (has xs q) (n == q) h

pub push_new : (xs : List ℕ) (n q : ℕ) → n ≡ q → has (xs ++ n ∷ []) q ≡ true
push_new xs n q h = has_push xs n q ∙ or_right (has xs q) (n == q) (eq-eqb n q h)

pub push_none : (xs : List ℕ) (n q : ℕ) → has xs q ≡ false → n ≢ q → has (xs ++ n ∷ []) q ≡ false
push_none xs n q h other = has_push xs n q ∙ both_none (has xs q) (n == q) h (ne_eqb n q other)

-- where a member stands
pub splits : (xs : List ℕ) (q : ℕ) → has xs q ≡ true → (front : List ℕ) × (back : List ℕ) × (xs ≡ front ++ q ∷ back)
splits [] q h = let e : false ≡ true = h in cc
splits (x ∷ xs) q h =
    elim (or_cases (x == q) (has xs q) h) [
      | inl a ↦ ([], xs, ap (λ (y : ℕ). y ∷ xs) (eqb-true x q a))
      | inr b ↦ (let s = splits xs q b in (x ∷ s.0, s.1, ap (λ (l : List ℕ). x ∷ l) s.2))
    ]

pub front_member : (xs ys : List ℕ) (q : ℕ) → has xs q ≡ true → has (xs ++ ys) q ≡ true
front_member [] ys q h = let e : false ≡ true = h in cc
front_member (x ∷ xs) ys q h =
    elim (or_cases (x == q) (has xs q) h) [ inl a ↦ or_left (x == q) (has (xs ++ ys) q) a | inr b ↦ or_right (x == q) (has (xs ++ ys) q) (front_member xs ys q b) ]

pub has_at : (xs ys : List ℕ) (q : ℕ) → has (xs ++ q ∷ ys) q ≡ true
has_at [] ys q = or_left (q == q) (has ys q) (eq-eqb q q refl)
has_at (x ∷ xs) ys q = or_right (x == q) (has (xs ++ q ∷ ys) q) (has_at xs ys q)

pub swap3 : (a b c : Bool) → ((a || b) || c) ≡ ((a || c) || b)
swap3 true b c = refl
swap3 false true true = refl
swap3 false true false = refl
swap3 false false true = refl
swap3 false false false = refl

pub swap_first : (a b c d : Bool) → ((a || (b || c)) || d) ≡ (a || ((b || d) || c))
swap_first true b c d = refl
swap_first false b c d = swap3 b c d

pub swap_last : (a b c d : Bool) → ((a || (b || c)) || d) ≡ (a || (b || (c || d)))
swap_last true b c d = refl
swap_last false true c d = refl
swap_last false false c d = refl

pub climb_on : (m : Snaps) (f : ℕ) (ps : List ℕ) (a b : ℕ) → Climbs m f (ps ++ a ∷ []) → IsChild m b a → Climbs m f ((ps ++ a ∷ []) ++ b ∷ [])
climb_on m f [] a b h child = (h.0, (child, tt))
climb_on m f (p ∷ ps) a b h child = (h.0, climb_on m p ps a b h.1 child)

pub cmp_is : (q n : ℕ) → eq_by_cmp nat_cmp q n ≡ (n == q)
cmp_is q n =
    unsigned_tied q n
    ∙ elim (truth (q == n)) [ inl h ↦ h ∙ sym (eq-eqb n q (sym (eqb-true q n h))) | inr h ↦ h ∙ sym (ne_eqb n q (λ e. not_both (q == n) (eq-eqb q n (sym e)) h)) ]

pub two_tests : (a e b : Bool) (o : Option (Option ℕ)) → e ≡ b → cond e None (cond a None o) ≡ cond (a || b) None o
two_tests true true b o h = refl
two_tests true false b o h = refl
two_tests false e b o h = ap (λ (x : Bool). cond x None o) h

pub or_nothing : (b : Bool) → (b || false) ≡ b
or_nothing true = refl
or_nothing false = refl

pub filter_alike : (p q : ℕ → Bool) (xs : List ℕ) → ((x : ℕ) → has xs x ≡ true → p x ≡ q x) → filter p xs ≡ filter q xs
filter_alike p q [] alike = refl
filter_alike p q (x ∷ xs) alike =
    let e = alike x (or_left (x == x) (has xs x) (eq-eqb x x refl)) in
    let rest = filter_alike p q xs (λ y h. alike y (or_right (x == y) (has xs y) h)) in
    λ i. cond (e i) (x ∷ rest i) (rest i)

pub order_grows : (done xs : List ℕ) (n : ℕ) → IsInOrderOf done xs → has done n ≡ false → IsInOrderOf (done ++ n ∷ []) (xs ++ n ∷ [])
order_grows done xs n order fresh =
    let p : ℕ → Bool = λ q. has (xs ++ n ∷ []) q in
    let alike = filter_alike p (λ q. has xs q) done (λ q h. has_push xs n q ∙ ap (λ (b : Bool). has xs q || b) (ne_eqb n q (λ e. not_both (has done q) h (ap (has done) (sym e) ∙ fresh))) ∙ or_nothing (has xs q)) in
    let last : filter p (n ∷ []) ≡ n ∷ [] = ap (λ (b : Bool). cond b (n ∷ []) []) (push_new xs n n refl) in
    sym (filter-append p done (n ∷ []) ∙ (λ i. alike i ++ last i) ∙ ap (λ (l : List ℕ). l ++ n ∷ []) (sym order))

pub order_stays : (done xs : List ℕ) (n : ℕ) → IsInOrderOf done xs → has xs n ≡ false → IsInOrderOf (done ++ n ∷ []) xs
order_stays done xs n order none =
    let last : filter (λ q. has xs q) (n ∷ []) ≡ [] = ap (λ (b : Bool). cond b (n ∷ []) []) none in
    sym (filter-append (λ q. has xs q) done (n ∷ []) ∙ (λ i. sym order i ++ last i) ∙ append-nil xs)
