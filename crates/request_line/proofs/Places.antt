-- On a text that is put in its place among others, which need not be the last one.
use Rattle.std.proofs.Common.{◌≡◌, refl, sym, ap, subst, ◌∙◌, ℕ, zero, suc, ◌+◌, ◌<◌, List, [], ◌∷◌, ◌++◌, length, take, drop, get_or, set, insert, arith, Bor, Bool, true, false, true≢false, Option, Some, None, Ordering, Less, Equal, Greater, nat_cmp, is_eq, is_le, bytes_eq}
use Rattle.std.specs.Cmp.Lexicographic.{slice_cmp}
use Rattle.std.specs.Ordering.{ordering_reverse, is_gt}
use Rattle.std.proofs.lemmas.Cmp.{nat_list_cmp_total}
use Rattle.std.proofs.lemmas.Map.Text.{is_eq-slice_cmp}
use Rattle.std.proofs.lemmas.Slice.Eq.{bytes_eq-Decides}
use Rattle.serde_json.specs.Data.{member, string, put}
use Rattle.meta_types.specs.Text.{Text}
use Rattle.request_line.specs.LineMembers.{texts_object, is_behind, AllBelow, IsRising}
use Rattle.request_line.proofs.LineMembers.{behind_both, greater}

abbrev pub Pair : Type 0
Pair = Bor Text × Bor Text

-- ---- what stands before a name

module _ (name : Text) where
  below_append : (ts us : List Pair) → AllBelow name ts → AllBelow name us
      → AllBelow name (ts ++ us)
  below_append [] us first second = second
  below_append (t ∷ ts) us first second = (first.0, below_append ts us first.1 second)

  below_take : (n : ℕ) (ts : List Pair) → AllBelow name ts → AllBelow name (take n ts)
  below_take zero ts all = tt
  below_take (suc n) [] all = tt
  below_take (suc n) (t ∷ ts) all = (all.0, below_take n ts all.1)

  below_drop : (n : ℕ) (ts : List Pair) → AllBelow name ts → AllBelow name (drop n ts)
  below_drop zero ts all = all
  below_drop (suc n) [] all = tt
  below_drop (suc n) (t ∷ ts) all = below_drop n ts all.1

  below_insert : (ts : List Pair) (n : ℕ) (t : Pair) → AllBelow name ts
      → slice_cmp nat_cmp name t.0.now ≡ Greater → AllBelow name (insert ts n t)
  below_insert ts n t all one =
      below_append (take n ts) (t ∷ drop n ts) (below_take n ts all) (one, below_drop n ts all)

  below_set : (ts : List Pair) (n : ℕ) (t : Pair) → AllBelow name ts
      → slice_cmp nat_cmp name t.0.now ≡ Greater → AllBelow name (set ts n t)
  below_set [] n t all one = tt
  below_set (u ∷ ts) zero t all one = (one, all.1)
  below_set (u ∷ ts) (suc n) t all one = (all.0, below_set ts n t all.1 one)

below_suc : (name : Text) (ts : List Pair) (n : ℕ) (u : Pair) → AllBelow name (take n ts)
    → n < length ts → slice_cmp nat_cmp name (get_or ts n u).0.now ≡ Greater
    → AllBelow name (take (suc n) ts)
below_suc name [] n u all within one = absurd (omega (arith, within))
below_suc name (t ∷ ts) zero u all within one = (one, tt)
below_suc name (t ∷ ts) (suc n) u all within one =
    (all.0, below_suc name ts n u all.1 (omega (arith, within)) one)

suc_is : (n : ℕ) → suc n ≡ n + 1
suc_is n = omega (arith)

-- one more name that stands before
pub below_next : (name : Text) (ts : List Pair) (n : ℕ) (u : Pair) → AllBelow name (take n ts)
    → n < length ts → slice_cmp nat_cmp name (get_or ts n u).0.now ≡ Greater
    → AllBelow name (take (n + 1) ts)
below_next name ts n u all within one =
    subst (λ m. AllBelow name (take m ts)) (suc_is n) (below_suc name ts n u all within one)

-- ---- what is put there

-- a name that isn't there goes before the first one above it
pub put_new : (ts : List Pair) (n : ℕ) (t u : Pair) → AllBelow t.0.now (take n ts)
    → (n < length ts → slice_cmp nat_cmp t.0.now (get_or ts n u).0.now ≡ Less)
    → texts_object (insert ts n t) ≡ put t.0.now (string t.1.now) (texts_object ts)
put_new [] zero t u below less = refl
put_new [] (suc n) t u below less = refl
put_new (v ∷ ts) zero t u below less = rw (less (omega (arith))) refl
put_new (v ∷ ts) (suc n) t u below less =
    let rest = put_new ts n t u below.1 (λ within. less (omega (arith, within))) in
    rw below.0 (ap (member v.0.now (string v.1.now)) rest)

-- a name that is there gets the text
pub put_over : (ts : List Pair) (n : ℕ) (t u : Pair) → AllBelow t.0.now (take n ts)
    → n < length ts → t.0.now ≡ (get_or ts n u).0.now
    → slice_cmp nat_cmp t.0.now (get_or ts n u).0.now ≡ Equal
    → texts_object (set ts n t) ≡ put t.0.now (string t.1.now) (texts_object ts)
put_over [] n t u below within same equal = absurd (omega (arith, within))
put_over (v ∷ ts) zero t u below within same equal =
    rw equal (ap (λ name. member name (string t.1.now) (texts_object ts)) same)
put_over (v ∷ ts) (suc n) t u below within same equal =
    let rest = put_over ts n t u below.1 (omega (arith, within)) same equal in
    rw below.0 (ap (member v.0.now (string v.1.now)) rest)

-- the name at a place doesn't stand before this one, if there is one
abbrev pub Stops : Text → ℕ → List Pair → Type 0
Stops name n ts =
    (u : Pair) → n < length ts → is_behind (Some (get_or ts n u).0) name ≡ false

-- ---- how two names stand

less_of : (o : Ordering) → is_gt o ≡ false → is_eq o ≡ false → o ≡ Less
less_of Less gt eq = refl
less_of Equal gt eq = absurd (true≢false eq)
less_of Greater gt eq = absurd (true≢false gt)

equal_of : (o : Ordering) → is_eq o ≡ true → o ≡ Equal
equal_of Less eq = absurd (true≢false (sym eq))
equal_of Equal eq = refl
equal_of Greater eq = absurd (true≢false (sym eq))

greater_of : (o : Ordering) → is_le o ≡ false → o ≡ Greater
greater_of Less le = absurd (true≢false le)
greater_of Equal le = absurd (true≢false le)
greater_of Greater le = refl

pub stands_behind : (k l : Text) → is_le (slice_cmp nat_cmp k l) ≡ false
    → slice_cmp nat_cmp k l ≡ Greater
stands_behind k l le = greater_of _ le

differs_back : (b : Bool) (k l : Text) → bytes_eq k l ≡ b → bytes_eq l k ≡ false → b ≡ false
differs_back false k l is other = refl
differs_back true k l is other =
    absurd (true≢false (sym ((bytes_eq-Decides l k).1 (sym ((bytes_eq-Decides k l).0 is))) ∙ other))

-- a name that is neither above another nor the same stands before it
pub stands_before : (k l : Text) → is_gt (slice_cmp nat_cmp k l) ≡ false → bytes_eq l k ≡ false
    → slice_cmp nat_cmp k l ≡ Less
stands_before k l gt other =
    less_of _ gt (is_eq-slice_cmp k l ∙ differs_back _ k l refl other)

pub is_same : (k l : Text) → bytes_eq l k ≡ true → k ≡ l
is_same k l eq = sym ((bytes_eq-Decides l k).0 eq)

pub compares_same : (k l : Text) → bytes_eq l k ≡ true → slice_cmp nat_cmp k l ≡ Equal
compares_same k l eq =
    equal_of _ (is_eq-slice_cmp k l ∙ (bytes_eq-Decides k l).1 (is_same k l eq))

over_by : (o : Ordering) (last k name : Text) → slice_cmp nat_cmp k last ≡ o → is_gt o ≡ false
    → slice_cmp nat_cmp name last ≡ Greater → slice_cmp nat_cmp name k ≡ Greater
over_by Less last k name is gt above =
    behind_both name last k above (nat_list_cmp_total.antisymm last k ∙ ap ordering_reverse is)
over_by Equal last k name is gt above =
    let same = (bytes_eq-Decides k last).0 (sym (is_eq-slice_cmp k last) ∙ ap is_eq is) in
    subst (λ n. slice_cmp nat_cmp name n ≡ Greater) (sym same) above
over_by Greater last k name is gt above = absurd (true≢false gt)

-- ---- the names still rise

module _ (last : Bor Text) (ts : List Pair) (n : ℕ) (t : Pair) where
  over : is_behind (Some last) t.0.now ≡ false → (name : Text)
      → is_behind (Some last) name ≡ true → slice_cmp nat_cmp name t.0.now ≡ Greater
  over inside name behind = over_by _ last.now t.0.now name refl inside (greater _ behind)

  pub rises_insert : is_behind (Some last) t.0.now ≡ false → IsRising (Some last) ts
      → IsRising (Some last) (insert ts n t)
  rises_insert inside rising name behind =
      below_insert name ts n t (rising name behind) (over inside name behind)

  pub rises_set : is_behind (Some last) t.0.now ≡ false → IsRising (Some last) ts
      → IsRising (Some last) (set ts n t)
  rises_set inside rising name behind =
      below_set name ts n t (rising name behind) (over inside name behind)

-- names that rose still do, where one is put that doesn't stand behind the last
pub still_rises : (last : Option (Bor Text)) (old new : List Pair) (k : Text)
    → is_behind last k ≡ false
    → ((l : Bor Text) → is_behind (Some l) k ≡ false → IsRising (Some l) old
    → IsRising (Some l) new)
    → IsRising last old → IsRising last new
still_rises None old new k inside puts rising = absurd (true≢false inside)
still_rises (Some l) old new k inside puts rising = puts l inside rising
