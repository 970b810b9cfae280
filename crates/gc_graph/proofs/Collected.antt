-- What a chain that collects into a result gives.
use Rattle.std.proofs.Common.{◌≡◌, ℕ, ◌<◌, zero, suc, List, [], ◌∷◌, map, length, refl, subst, arith, Bor, Vec}
use Rattle.std.specs.Prelude.{Result, Ok, Err, None, IfOk, MatchResult, Contains, slice_index_or}
use Rattle.std.specs.List.{AllZip}
use Rattle.rayon.proofs.ToStd.{slice-AllZip}
use Rattle.meta_types.specs.Faults.{Refuses}
use Rattle.meta_types.specs.declared.fault.Fault.{Fault}

all_ok : {Z V : Type 0} (E : Type 0) (Q : Z → V → Type 0) (zs : List Z) (vs : List V) → AllZip (λ z (r : Result V E). IfOk r (Q z)) zs (map (λ v. Ok v) vs) → AllZip Q zs vs
all_ok E Q [] [] h = tt
all_ok E Q [] (v ∷ vs) h = h
all_ok E Q (z ∷ zs) [] h = h
all_ok E Q (z ∷ zs) (v ∷ vs) h = (h.0, all_ok E Q zs vs h.1)

-- rows that are made one by one are the list of what is made
made_of : {X V I : Type 0} (items : V → I) (f : X → I) (xs : List X) (vs : List V) → AllZip (λ x v. items v ≡ f x) xs vs → map items vs ≡ map f xs
made_of items f [] [] h = refl
made_of items f [] (v ∷ vs) h = absurd h
made_of items f (x ∷ xs) [] h = absurd h
made_of items f (x ∷ xs) (v ∷ vs) h = λ i. h.0 i ∷ made_of items f xs vs h.1 i

-- what holds of all holds of each
holds_at : {Z X : Type 0} (R : X → Type 0) (zs : List Z) (xs : List X) → AllZip (λ z x. R x) zs xs → (k : ℕ) (d : X) → k < length xs → R (slice_index_or xs k d)
holds_at R zs [] h k d lt = absurd (omega arith)
holds_at R [] (x ∷ xs) h k d lt = absurd h
holds_at R (z ∷ zs) (x ∷ xs) h zero d lt = h.0
holds_at R (z ∷ zs) (x ∷ xs) h (suc k) d lt = holds_at R zs xs h.1 k d (omega arith)

-- a chain answers OutOfMemory where each of its items does
pub refused_alike : {Z V A : Type 0} (r : Result (Vec V A) Fault) (P : Vec V A → Type 0) (zs : List Z) (xs : List (Result V Fault)) → AllZip (λ z x. Refuses x None) zs xs
    → MatchResult r P (λ e. Contains xs (Err e)) → Refuses r None
refused_alike (Ok c) P zs xs each made = refl
refused_alike (Err e) P zs xs each made = subst (λ x. Refuses x None) made.2 (holds_at (λ x. Refuses x None) zs xs each made.0 (Err e) made.1)

-- the rows that a chain makes
pub ok_rows : {X V A I : Type 0} (E : Type 0) (items : V → I) (f : X → I) (r : Result (Vec V A) E) (P : E → Type 0) (rows : List X) (zs : List (Bor X)) (xs : List (Result V E))
    → map (λ (z : Bor X). z.now) zs ≡ rows → AllZip (λ (z : Bor X) x. IfOk x (λ v. items v ≡ f z.now)) zs xs
    → MatchResult r (λ c. (vs : List V) × (xs ≡ map (λ v. Ok v) vs) × (c.items ≡ vs)) P
    → IfOk r (λ c. map items c.items ≡ map f rows)
ok_rows E items f (Ok c) P rows zs xs shown each made =
    let vs = made.0 in
    rw made.2 (made_of items f rows vs (slice-AllZip zs rows shown (λ x v. items v ≡ f x) vs
    (all_ok E (λ z v. items v ≡ f z.now) zs vs (subst (λ l. AllZip (λ z x. IfOk x (λ v. items v ≡ f z.now)) zs l) made.1 each))))
ok_rows E items f (Err e) P rows zs xs shown each made = tt
