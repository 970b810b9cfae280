-- On text that is written block by block.
use Rattle.std.proofs.Common.{
  ◌≡◌,
  ◌∙◌,
  ap,
  sym,
  subst,
  refl,
  ℕ,
  ◌-◌,
  List,
  [],
  ◌++◌,
  length,
  take,
  drop,
  append_assoc,
  Option,
  Some,
  None,
  Result,
  Ok,
  Err,
  OnErr,
}
use Rattle.std.specs.Io.KnownBytes.{Appends, Keeps}
use Rattle.std.proofs.lemmas.List.{append-nil, take-append-drop, take_rest}
use Rattle.reply_line.specs.Blocks.{WritesFront, Puts}

-- a writer that took nothing holds what it held
pub Appends-none : (held : Option (List ℕ)) → Appends held held []
Appends-none None = tt
Appends-none (Some xs) = sym (append-nil xs)

-- a writer that took one text and then another took both, one after the other
pub Appends-append : (h0 h1 h2 : Option (List ℕ)) (xs ys : List ℕ) → Appends h0 h1 xs → Appends h1
    h2 ys → Appends h0 h2 (xs ++ ys)
Appends-append None h1 h2 xs ys a b = tt
Appends-append (Some s) None h2 xs ys a b = absurd a
Appends-append (Some s) (Some t) None xs ys a b = absurd b
Appends-append (Some s) (Some t) (Some u) xs ys a b = b ∙ ap (λ w. w ++ ys) a ∙ append_assoc s xs ys

-- a writer that took a text and then kept what it held took that text
pub Appends-Keeps : (h0 h1 h2 : Option (List ℕ)) (xs : List ℕ) → Appends h0 h1 xs → Keeps h1 h2 →
    Appends h0 h2 xs
Appends-Keeps None h1 h2 xs a b = tt
Appends-Keeps (Some s) None h2 xs a b = absurd a
Appends-Keeps (Some s) (Some t) None xs a b = absurd b
Appends-Keeps (Some s) (Some t) (Some u) xs a b = b ∙ a

-- a writer that took nothing of some bytes has them all left to take
pub WritesFront-none : (held : Option (List ℕ)) (bytes : List ℕ) → WritesFront held held bytes bytes
WritesFront-none held bytes = ([], refl, Appends-none held)

pub WritesFront-more : (h0 h1 h2 : Option (List ℕ)) (rest bytes : List ℕ) (n : ℕ) → WritesFront h0
    h1 rest bytes → Appends h1 h2 (take n rest) → WritesFront h0 h2 (drop n rest) bytes
WritesFront-more h0 h1 h2 rest bytes n w a = (
  w.0 ++ take n rest,
  append_assoc w.0 (take n rest) (drop n rest) ∙ ap (λ r. w.0 ++ r)
      (take-append-drop n rest) ∙ w.1,
  Appends-append h0 h1 h2 w.0 (take n rest) w.2 a,
)

pub WritesFront-Keeps : (h0 h1 h2 : Option (List ℕ)) (rest bytes : List ℕ) → WritesFront h0 h1 rest
    bytes → Keeps h1 h2 → WritesFront h0 h2 rest bytes
WritesFront-Keeps h0 h1 h2 rest bytes w k = (w.0, w.1, Appends-Keeps h0 h1 h2 w.0 w.2 k)

-- the rest as `&rest[n..]` gives it
pub WritesFront-range : (h0 h1 h2 : Option (List ℕ)) (rest bytes : List ℕ) (n : ℕ) → WritesFront h0
    h1 rest bytes → Appends h1 h2 (take n rest) → WritesFront h0 h2 (take (length rest - n) (drop n
    rest)) bytes
WritesFront-range h0 h1 h2 rest bytes n w a = rw (take_rest rest n) (WritesFront-more h0 h1 h2 rest
    bytes n w a)

-- a writer that took a part of some bytes took it of these with more behind them too
pub WritesFront-append : (h0 h1 : Option (List ℕ)) (rest xs ys : List ℕ) → WritesFront h0 h1 rest xs
    → WritesFront h0 h1 (rest ++ ys) (xs ++ ys)
WritesFront-append h0 h1 rest xs ys w = (
  w.0,
  sym (append_assoc w.0 rest ys) ∙ ap (λ b. b ++ ys)
      w.1,
  w.2,
)

-- a writer that took a text, then a part of some bytes, took a part of the text with those behind
-- it
pub WritesFront-after : (h0 h1 h2 : Option (List ℕ)) (rest xs ys : List ℕ) → Appends h0 h1 xs →
    WritesFront h1 h2 rest ys → WritesFront h0 h2 rest (xs ++ ys)
WritesFront-after h0 h1 h2 rest xs ys a w = (
  xs ++ w.0,
  append_assoc xs w.0 rest ∙ ap (λ b. xs ++ b) w.1,
  Appends-append h0 h1 h2 xs w.0 a
      w.2,
)

-- what holds anyway holds on an error
pub holds_on_err : {T E Q : Type 0} (r : Result T E) → Q → OnErr r Q
holds_on_err (Ok x) q = tt
holds_on_err (Err e) q = q

-- ---- blocks

-- nothing is put
pub puts_nothing : (held : Option (List ℕ)) (block : List ℕ) → Puts held block held block []
puts_nothing held block = ([], sym (append-nil block), Appends-none held)

-- what is put into a block is written with it
pub puts_here : (h0 h1 : Option (List ℕ)) (stood rest text : List ℕ) → Puts h0 (stood ++ text) h1
    rest [] → Puts h0 stood h1 rest text
puts_here h0 h1 stood rest text p = (p.0, p.1 ∙ append-nil (stood ++ text), p.2)

-- a text is put into the block, and nothing is written
pub puts_into : (held : Option (List ℕ)) (stood block text : List ℕ) → block ≡ stood ++ text → Puts
    held stood held block text
puts_into held stood block text is = ([], is, Appends-none held)

-- one text is put behind another
pub puts_then : (h0 h1 h2 : Option (List ℕ)) (b0 b1 b2 xs ys : List ℕ) → Puts h0 b0 h1 b1 xs → Puts
    h1 b1 h2 b2 ys → Puts h0 b0 h2 b2 (xs ++ ys)
puts_then h0 h1 h2 b0 b1 b2 xs ys p q = (
  p.0 ++ q.0,
  append_assoc p.0 q.0 b2 ∙ ap (λ r. p.0 ++ r) q.1 ∙ sym (append_assoc p.0 b1 ys) ∙ ap (λ r. r ++
      ys) p.1 ∙ append_assoc b0 xs ys,
  Appends-append h0 h1 h2 p.0 q.0 p.2 q.2,
)

-- a text that isn't whole is none with another behind it
pub puts_less : (h0 h1 : Option (List ℕ)) (b0 rest xs ys : List ℕ) → Puts h0 b0 h1 rest xs → Puts h0
    b0 h1 (rest ++ ys) (xs ++ ys)
puts_less h0 h1 b0 rest xs ys p =
    (p.0, sym (append_assoc p.0 rest ys) ∙ ap (λ r. r ++ ys) p.1 ∙ append_assoc b0 xs ys, p.2)

-- the first of two texts isn't whole
pub fails_first : (h0 h1 : Option (List ℕ)) (b0 xs ys : List ℕ) → ((rest : List ℕ) × Puts h0 b0 h1
    rest xs) → (rest : List ℕ) × Puts h0 b0 h1 rest (xs ++ ys)
fails_first h0 h1 b0 xs ys p = (p.0 ++ ys, puts_less h0 h1 b0 p.0 xs ys p.1)

-- the second of two texts isn't whole
pub fails_then : (h0 h1 h2 : Option (List ℕ)) (b0 b1 xs ys : List ℕ) → Puts h0 b0 h1 b1 xs → ((rest
    : List ℕ) × Puts h1 b1 h2 rest ys) → (rest : List ℕ) × Puts h0 b0 h2 rest (xs ++ ys)
fails_then h0 h1 h2 b0 b1 xs ys p q = (q.0, puts_then h0 h1 h2 b0 b1 q.0 xs ys p q.1)

-- the same of an equal text
pub fails_as : (h0 h1 : Option (List ℕ)) (b0 xs ys : List ℕ) → xs ≡ ys → ((rest : List ℕ) × Puts h0
    b0 h1 rest xs) → (rest : List ℕ) × Puts h0 b0 h1 rest ys
fails_as h0 h1 b0 xs ys is p = (p.0, subst (Puts h0 b0 h1 p.0) is p.1)

-- what was left in the block is written behind the front
pub writes_then : (h0 h1 h2 : Option (List ℕ)) (b1 rest text : List ℕ) → WritesFront h0 h1 b1 text →
    WritesFront h1 h2 rest b1 → WritesFront h0 h2 rest text
writes_then h0 h1 h2 b1 rest text p q = (
  p.0 ++ q.0,
  append_assoc p.0 q.0 rest ∙ ap (λ r. p.0 ++ r) q.1 ∙ p.1,
  Appends-append h0 h1 h2
      p.0 q.0 p.2 q.2,
)
