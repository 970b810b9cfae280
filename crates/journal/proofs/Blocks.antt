-- A block is read line by line.
use Rattle.std.proofs.Common.{◌≡◌, ◌∙◌, ap, sym, refl, subst, List, ℕ, [], ◌∷◌, ◌++◌, append_assoc}
use Rattle.std.proofs.lemmas.List.{append-nil}
use Rattle.journal.specs.Reads.{HasRead}
use Rattle.journal.specs.declared.reader.Reader.{Reader}

-- a reader took the front of a block
pub record Takes (old new : Reader) (block rest : List ℕ) : Type 0 where
  pub taken : List ℕ
  pub is : block ≡ taken ++ rest
  pub reads : (first text : List ℕ) → HasRead first text old → HasRead first (text ++ taken) new

pub takes_nothing : (reader : Reader) (block : List ℕ) → Takes reader reader block block
takes_nothing reader block = record {
  taken = [];
  is = refl;
  reads = λ first text r. subst (λ (t : List ℕ). HasRead first t reader) (sym (append-nil text)) r;
}

-- a line more
pub takes_line : (old middle new : Reader) (block rest line later : List ℕ)
    → Takes old middle block rest → rest ≡ line ++ 10 ∷ later
    → ((first text : List ℕ) → HasRead first text middle
    → HasRead first (text ++ (line ++ 10 ∷ [])) new) → Takes old new block later
takes_line old middle new block rest line later t cut more = record {
  taken = t.taken ++ (line ++ 10 ∷ []);
  is = t.is ∙ ap (λ (r : List ℕ). t.taken ++ r) (cut ∙ sym (append_assoc line (10 ∷ []) later))
      ∙ sym (append_assoc t.taken (line ++ 10 ∷ []) later);
  reads = λ first text r. subst (λ (x : List ℕ). HasRead first x new)
      (append_assoc text t.taken (line ++ 10 ∷ []))
      (more first (text ++ t.taken) (t.reads first text r));
}

-- the text where a line is met
pub text_at : (text taken line later block rest : List ℕ) → block ≡ taken ++ (line ++ 10 ∷ later)
    → text ++ (block ++ rest) ≡ (text ++ taken) ++ (line ++ 10 ∷ (later ++ rest))
text_at text taken line later block rest is =
    ap (λ (b : List ℕ). text ++ (b ++ rest)) is
    ∙ ap (λ (t : List ℕ). text ++ t)
    (append_assoc taken (line ++ 10 ∷ later) rest
    ∙ ap (λ (t : List ℕ). taken ++ t) (append_assoc line (10 ∷ later) rest))
    ∙ sym (append_assoc text taken (line ++ 10 ∷ (later ++ rest)))

-- the rest of the block is a part of a line
pub takes_all : (old middle new : Reader) (block rest : List ℕ) (t : Takes old middle block rest)
    → ((first text : List ℕ) → HasRead first text middle → HasRead first (text ++ rest) new)
    → (first text : List ℕ) → HasRead first text old → HasRead first (text ++ block) new
takes_all old middle new block rest t more first text r =
    subst (λ (x : List ℕ). HasRead first x new)
    (append_assoc text t.taken rest ∙ ap (λ (b : List ℕ). text ++ b) (sym t.is))
    (more first (text ++ t.taken) (t.reads first text r))
