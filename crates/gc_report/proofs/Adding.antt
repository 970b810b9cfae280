-- On tokens that were written one behind the other.
use Rattle.std.proofs.Common.{◌≡◌, ◌∙◌, ◌<◌, ◌+◌, ap, sym, refl, ℕ, List, [], ◌∷◌, ◌++◌, map, take, length, get_or, append_assoc, append-nil}
use Rattle.std.specs.Prelude.{flat_map}
use Rattle.std.proofs.lemmas.List.{take_more}
use Rattle.std.proofs.lemmas.Grind.{flat_map-append}
use Rattle.json.specs.Token.{Token, begin_array, end_array}
use Rattle.json.specs.Tree.{items_tokens}
use Rattle.json.specs.Written.{Written}
use Rattle.serde_json.specs.Data.{Data}
use Rattle.serde_json.specs.View.{items_of}
use Rattle.serde_json.specs.Written.{items_outline}
use Rattle.gc_report.specs.Reports.{list_data}
use Rattle.gc_report.specs.Writing.{tokens_of, Adds}

-- nothing was written
pub none : (w : Written) → Adds w w []
none w = record { before = refl; tokens = sym (append-nil w.tokens) }

-- one token was written
pub one : (old new : Written) {t : Token} → new.before ≡ old.before → new.tokens ≡ old.tokens ++ t ∷ [] → Adds old new (t ∷ [])
one old new same more = record { before = same; tokens = more }

-- first these, behind them those
pub both : {a b c : Written} {xs ys : List Token} → Adds a b xs → Adds b c ys → Adds a c (xs ++ ys)
both {a = a} {xs = xs} {ys = ys} p q = record {
  before = q.before ∙ p.before;
  tokens = q.tokens ∙ ap (λ ts. ts ++ ys) p.tokens ∙ append_assoc a.tokens xs ys;
}

-- the tokens of these items
abbrev pub each : {A : Type 0} → (A → Data) → List A → List Token
each as_data = flat_map (λ x. tokens_of (as_data x))

-- one item more
pub each-more : {A : Type 0} (as_data : A → Data) (xs : List A) (i : ℕ) (x : A) → i < length xs → x ≡ get_or xs i x → each as_data (take (i + 1) xs) ≡ each as_data (take i xs) ++ tokens_of (as_data x)
each-more as_data xs i x lt is =
    ap (each as_data) (take_more xs i x lt ∙ ap (λ y. take i xs ++ y ∷ []) (sym is)) ∙ flat_map-append (λ y. tokens_of (as_data y)) (take i xs) (x ∷ [])
    ∙ ap (λ ts. each as_data (take i xs) ++ ts) (append-nil (tokens_of (as_data x)))

-- all items, and the closing bracket
pub items_tokens-each : {A : Type 0} (as_data : A → Data) (xs : List A) → each as_data xs ++ end_array ∷ [] ≡ items_tokens (items_outline (items_of (map as_data xs)))
items_tokens-each as_data [] = refl
items_tokens-each as_data (x ∷ xs) = append_assoc (tokens_of (as_data x)) (each as_data xs) (end_array ∷ []) ∙ ap (λ ts. tokens_of (as_data x) ++ ts) (items_tokens-each as_data xs)
