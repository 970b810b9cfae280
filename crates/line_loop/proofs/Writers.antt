-- On what a writer holds.
use Rattle.std.proofs.Common.{◌∙◌, ap, sym, refl, subst, ℕ, ◌-◌, List, [], ◌++◌, length, take, drop, append_assoc, Option, Some, None, Result, Ok, Err}
use Rattle.std.specs.Prelude.{OnErr}
use Rattle.std.specs.Io.KnownBytes.{Appends, Keeps}
use Rattle.std.proofs.lemmas.List.{append-nil, take-append-drop, take_rest, take_at}
use Rattle.line_loop.specs.Runs.{WritesFront}

-- nothing is written
pub Appends-none : (held : Option (List ℕ)) → Appends held held []
Appends-none None = tt
Appends-none (Some xs) = sym (append-nil xs)

-- one text behind the other
pub Appends-append : (h0 h1 h2 : Option (List ℕ)) (xs ys : List ℕ) → Appends h0 h1 xs
    → Appends h1 h2 ys → Appends h0 h2 (xs ++ ys)
Appends-append None h1 h2 xs ys a b = tt
Appends-append (Some s) None h2 xs ys a b = absurd a
Appends-append (Some s) (Some t) None xs ys a b = absurd b
Appends-append (Some s) (Some t) (Some u) xs ys a b = b ∙ ap (λ w. w ++ ys) a ∙ append_assoc s xs ys

pub Appends-Keeps : (h0 h1 h2 : Option (List ℕ)) (xs : List ℕ) → Appends h0 h1 xs → Keeps h1 h2
    → Appends h0 h2 xs
Appends-Keeps None h1 h2 xs a b = tt
Appends-Keeps (Some s) None h2 xs a b = absurd a
Appends-Keeps (Some s) (Some t) None xs a b = absurd b
Appends-Keeps (Some s) (Some t) (Some u) xs a b = b ∙ a

pub WritesFront-none : (held : Option (List ℕ)) (bytes : List ℕ) → WritesFront held held bytes bytes
WritesFront-none held bytes = ([], refl, Appends-none held)

-- the rest as `&rest[n..]` gives it
pub WritesFront-range : (h0 h1 h2 : Option (List ℕ)) (rest bytes : List ℕ) (n : ℕ)
    → WritesFront h0 h1 rest bytes → Appends h1 h2 (take n rest)
    → WritesFront h0 h2 (take (length rest - n) (drop n rest)) bytes
WritesFront-range h0 h1 h2 rest bytes n w a = rw (take_rest rest n) ((
  w.0 ++ take n rest,
  append_assoc w.0 (take n rest) (drop n rest) ∙ ap (λ r. w.0 ++ r) (take-append-drop n rest) ∙ w.1,
  Appends-append h0 h1 h2 w.0 (take n rest) w.2 a,
))

-- what was taken is a front of the bytes
pub front_taken : (h0 h1 : Option (List ℕ)) (bytes : List ℕ)
    → ((rest : List ℕ) × WritesFront h0 h1 rest bytes)
    → (count : ℕ) × Appends h0 h1 (take count bytes)
front_taken h0 h1 bytes w = (
  length w.1.0,
  subst (λ (t : List ℕ). Appends h0 h1 t)
      (sym (take_at w.1.0 w.0 (length w.1.0) refl) ∙ ap (take (length w.1.0)) w.1.1) w.1.2,
)

-- a front of the first bytes is one of both
pub front_of_both : (h0 h1 : Option (List ℕ)) (first more : List ℕ)
    → ((rest : List ℕ) × WritesFront h0 h1 rest first)
    → (rest : List ℕ) × WritesFront h0 h1 rest (first ++ more)
front_of_both h0 h1 first more w = (
  w.0 ++ more,
  (w.1.0, sym (append_assoc w.1.0 w.0 more) ∙ ap (λ (t : List ℕ). t ++ more) w.1.1, w.1.2),
)

-- all of the first, and a front of the others
pub front_behind : (h0 h1 h2 : Option (List ℕ)) (first more : List ℕ) → Appends h0 h1 first
    → ((rest : List ℕ) × WritesFront h1 h2 rest more)
    → (rest : List ℕ) × WritesFront h0 h2 rest (first ++ more)
front_behind h0 h1 h2 first more all w = (
  w.0,
  (
    first ++ w.1.0,
    append_assoc first w.1.0 w.0 ∙ ap (λ (t : List ℕ). first ++ t) w.1.1,
    Appends-append h0 h1 h2 first w.1.0 all w.1.2,
  ),
)

-- what holds at each error
pub on_err : {T E P : Type 0} (result : Result T E) → P → OnErr result P
on_err (Ok x) p = tt
on_err (Err e) p = p
