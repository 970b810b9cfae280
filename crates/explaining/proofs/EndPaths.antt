-- The path to the asked row.
use Rattle.std.proofs.Common.{◌≡◌, ℕ, zero, suc, ◌<◌, ◌≤◌, Bool, true, false, List, [], ◌∷◌, length, get_or, refl, sym, ap, ◌∙◌, subst, inl, inr, ◌⊎◌, arith, ℤ, Option, Some, None, is_some, nat_lt}
use Rattle.std.specs.Prelude.{Contains, ◌&&◌, ◌||◌, ◌==◌}
use Rattle.std.proofs.lemmas.Bool.{both_ways, false≢true, and_parts, and_from, or_cases, or_left, or_right}
use Rattle.std.proofs.lemmas.Bool.Decides.{nat_tests}
use Rattle.meta_types.specs.Rows.{Records}
use Rattle.meta_types.specs.Paths.{Thing, is_root, IsPath}
use Rattle.meta_types.specs.Explanations.{goes_before, Explains}
use Rattle.mark_core.specs.declared.graph.Graph.{Graph}
use Rattle.gc_graph.specs.Targets.{root_things}
use Rattle.gc_graph.proofs.Things.{HasNone, with_nodes, without_nodes, is_root_thing, split_thing}
use Rattle.explaining.specs.ThingRows.{numbered, no_thing, thing_at}
use Rattle.explaining.specs.Searched.{IsSearched}
use Rattle.explaining.specs.Firsts.{number_before}
use Rattle.explaining.specs.Ends.{depth_before, nearer, is_end, nearest_below, is_asked_root, first_root}
use Rattle.explaining.specs.ShortestPaths.{IsFirstTo}
use Rattle.explaining.proofs.Choices.{IsBest, one_more, same_best, best_of, below_or_this}
use Rattle.explaining.proofs.FirstPaths.{not_itself, onward, behind_roots, default_free, nearest_of, depth_of}
use Rattle.explaining.proofs.WalkPaths.{in_store, ends_alone}

-- ---- depths

no_less : (a : ℕ) → nat_lt a a ≡ false
no_less a = grind (arith, nat_tests)

less_on : (a b c : ℕ) → nat_lt a b ≡ true → nat_lt b c ≡ true → nat_lt a c ≡ true
less_on a b c p q = grind (arith, nat_tests)

less_by : (a b c : ℕ) → nat_lt a b ≡ true → (b == c) ≡ true → nat_lt a c ≡ true
less_by a b c p q = grind (arith, nat_tests)

by_less : (a b c : ℕ) → (a == b) ≡ true → nat_lt b c ≡ true → nat_lt a c ≡ true
by_less a b c p q = grind (arith, nat_tests)

equal_on : (a b c : ℕ) → (a == b) ≡ true → (b == c) ≡ true → (a == c) ≡ true
equal_on a b c p q = grind (arith, nat_tests)

neither : (a b rest : Bool) → a ≡ false → rest ≡ false → (a || (b && rest)) ≡ false
neither true b rest e f = absurd (false≢true (sym e))
neither false true rest e f = f
neither false false rest e f = refl

depth_itself : (a : Option ℕ) (rest : Bool) → rest ≡ false → depth_before a a rest ≡ false
depth_itself None rest h = h
depth_itself (Some a) rest h = neither (nat_lt a a) (a == a) rest (no_less a) h

depth_onward : (x y z : Option ℕ) (p q r : Bool) → depth_before x y p ≡ true → depth_before y z q ≡ true → (p ≡ true → q ≡ true → r ≡ true) → depth_before x z r ≡ true
depth_onward (Some a) (Some b) (Some c) p q r h k f = elim (or_cases (nat_lt a b) (a == b && p) h) [
  | inl less ↦ elim (or_cases (nat_lt b c) (b == c && q) k) [
    | inl more ↦ or_left (nat_lt a c) (a == c && r) (less_on a b c less more)
    | inr same ↦ or_left (nat_lt a c) (a == c && r) (less_by a b c less (and_parts (b == c) q same).0)
  ]
  | inr same ↦ elim (or_cases (nat_lt b c) (b == c && q) k) [
    | inl more ↦ or_left (nat_lt a c) (a == c && r) (by_less a b c (and_parts (a == b) p same).0 more)
    | inr also ↦ or_right (nat_lt a c) (a == c && r) (and_from (a == c) r (equal_on a b c (and_parts (a == b) p same).0 (and_parts (b == c) q also).0) (f (and_parts (a == b) p same).1 (and_parts (b == c) q also).1))
  ]
]
depth_onward (Some a) (Some b) None p q r h k f = refl
depth_onward (Some a) None (Some c) p q r h k f = absurd (false≢true k)
depth_onward (Some a) None None p q r h k f = refl
depth_onward None (Some b) z p q r h k f = absurd (false≢true h)
depth_onward None None (Some c) p q r h k f = absurd (false≢true k)
depth_onward None None None p q r h k f = f h k

-- what doesn't go before is as far at least, and where it is as far the rest doesn't hold
not_nearer : (a b : ℕ) (rest : Bool) → depth_before (Some a) (Some b) rest ≡ false → (b ≤ a) × (a ≡ b → rest ≡ false)
not_nearer a b rest h = go (nat_lt a b) (a == b) rest refl refl h
  where
    at_least : (x y : ℕ) → nat_lt x y ≡ false → y ≤ x
    at_least x y e = grind (arith, nat_tests)

    equal : (x y : ℕ) → x ≡ y → (x == y) ≡ true
    equal x y e = grind (arith, nat_tests)

    go : (l e r : Bool) → nat_lt a b ≡ l → (a == b) ≡ e → (l || (e && r)) ≡ false → (b ≤ a) × (a ≡ b → r ≡ false)
    go true e r less same k = absurd (false≢true (sym k))
    go false true r less same k = (at_least a b less, λ x. k)
    go false false r less same k = (at_least a b less, λ x. absurd (both_ways (a == b) same (equal a b x)))

module _ (records : Records) (at : ℤ) (asked : Thing → Bool) where
  root_best : IsBest goes_before not_itself onward (is_asked_root records.profile at asked) (λ x. Contains (root_things records) x) (first_root records at asked)
  root_best =
      same_best goes_before not_itself onward (is_asked_root records.profile at asked) (λ x. ⊥ ⊎ Contains (root_things records) x) (λ x. Contains (root_things records) x)
      (λ x m. elim m [
        | inl nothing ↦ absurd nothing
        | inr c ↦ c
      ]) (λ x c. inr c) (first_root records at asked)
      (best_of goes_before not_itself onward (is_asked_root records.profile at asked) (root_things records) (λ x. ⊥) None (λ x nothing. absurd nothing))

  -- the first root that is asked for explains itself
  pub root_explains : (root : Thing) → Some root ≡ first_root records at asked → Explains records at asked (root ∷ [])
  root_explains root e =
      let best = subst (λ (o : Option Thing). IsBest goes_before not_itself onward (is_asked_root records.profile at asked) (λ x. Contains (root_things records) x) o) (sym e) root_best in
      let both = and_parts (asked root) (is_root records.profile at root) best.1 in
      record {
        this = both.0;
        leads = (is_root_thing records root best.0, both.1);
        shortest = λ other rest a p. omega arith;
        first = λ other k t. elim (split_thing records other (in_store records at other k.1.0 k.1.1)) [
          | inl by_thing ↦ both_ways (goes_before other root) (best.2 other by_thing (and_from (asked other) (is_root records.profile at other) k.0 (ends_alone records at other k.1.0 k.1.1 by_thing))) t
          | inr (j, below, same) ↦ both_ways (goes_before other root) (ap (λ x. goes_before x root) (sym same) ∙ is_behind root best.0 j other below) t
        ];
        first_back = tt;
      }
    where
      is_behind : (r : Thing) → Contains (root_things records) r → (j : ℕ) (d : Thing) → j < length (numbered records) → goes_before (get_or (numbered records) j d) r ≡ false
      is_behind r (k, below, is) j d lt = behind_roots (get_or (numbered records) j d) r (with_nodes records j d lt) (subst HasNone is (without_nodes records k r below))

  -- where no root is asked for, no path leads to a root that is
  no_root : None ≡ first_root records at asked → (other : Thing) → asked other ≡ true → (path : List Thing) → IsPath records at other path → Contains (root_things records) other → ⊥
  no_root e other a path p c =
      let best = subst (λ (o : Option Thing). IsBest goes_before not_itself onward (is_asked_root records.profile at asked) (λ x. Contains (root_things records) x) o) (sym e) root_best in
      both_ways (is_asked_root records.profile at asked other) (best other c) (and_from (asked other) (is_root records.profile at other) a (ends_alone records at other path p c))

  module _ (graph : Graph) (depths : List (Option ℕ)) (searched : IsSearched records at graph depths) where
    abbrev here : ℕ → Thing
    here n = thing_at records n

    abbrev count : ℕ
    count = length (numbered records)

    abbrev depth : ℕ → Option ℕ
    depth n = get_or depths n None

    abbrev near : ℕ → ℕ → Bool
    near a b = nearer records depths a b

    near_itself : (a : ℕ) → near a a ≡ false
    near_itself a = depth_itself (depth a) (number_before records a a) (not_itself (here a))

    near_onward : (a b c : ℕ) → near a b ≡ true → near b c ≡ true → near a c ≡ true
    near_onward a b c h k = depth_onward (depth a) (depth b) (depth c) (number_before records a b) (number_before records b c) (number_before records a c) h k (onward (here a) (here b) (here c))

    nearest_best : (bound : ℕ) → IsBest (nearer records depths) near_itself near_onward (is_end records asked depths) (λ a. a < bound) (nearest_below records asked depths bound)
    nearest_best zero = λ x lt. absurd (omega arith)
    nearest_best (suc n) =
        one_more (nearer records depths) near_itself near_onward (is_end records asked depths) (λ a. a < n) (λ a. a < suc n) n
        (λ x lt. omega arith) (omega arith) (λ x lt. below_or_this x n lt) (nearest_below records asked depths n) (nearest_best n) (is_end records asked depths n) refl

    -- the nearest number has a depth
    pub nearest_known : (n : ℕ) → Some n ≡ nearest_below records asked depths (length depths) → depth n ≡ None → ⊥
    nearest_known n e none =
        let b = subst (λ (o : Option ℕ). IsBest (nearer records depths) near_itself near_onward (is_end records asked depths) (λ x. x < length depths) o) (sym e) (nearest_best (length depths)) in
        both_ways (is_some (depth n)) (ap is_some none) (and_parts (asked (here n)) (is_some (depth n)) b.1).1

    -- what is below a bound that is the count
    at_count : (o : Option ℕ) → o ≡ nearest_below records asked depths (length depths) → o ≡ nearest_below records asked depths count
    at_count o e = e ∙ ap (nearest_below records asked depths) searched.numbers

    module _ (none_root : None ≡ first_root records at asked) where
      -- an asked thing at the end of a path has a number, and a depth
      abbrev IsNumbered : Thing → ℕ → Type 0
      IsNumbered other long = (j : ℕ) × (j < count) × (here j ≡ other) × (is_end records asked depths j ≡ true) × (d : ℕ) × (depth j ≡ Some d) × (d ≤ long)

      has_number : (other : Thing) → asked other ≡ true → (path : List Thing) → IsPath records at other path → IsNumbered other (length path)
      has_number other a path p = elim (split_thing records other (in_store records at other path p)) [
        | inl by_thing ↦ absurd (no_root none_root other a path p by_thing)
        | inr (j, below, same) ↦ (
            let is : here j ≡ other = default_free (numbered records) j below no_thing other ∙ same in
            let known = depth_at j below path (subst (λ (t : Thing). IsPath records at t path) (sym is) p) in
            (j, below, is, and_from (asked (here j)) (is_some (depth j)) (ap asked is ∙ a) (ap is_some known.1), known.0, known.1, known.2))
      ]
        where
          depth_at : (j : ℕ) → j < count → (path : List Thing) → IsPath records at (here j) path → (d : ℕ) × (depth j ≡ Some d) × (d ≤ length path)
          depth_at j below path p = depth_of records at graph depths searched j below path p

      -- no path leads to the asked row, where no number does
      pub none_explains : None ≡ nearest_below records asked depths (length depths) → Explains records at asked []
      none_explains e = λ thing path a p.
          let k = has_number thing a path p in
          let none = subst (λ (o : Option ℕ). IsBest (nearer records depths) near_itself near_onward (is_end records asked depths) (λ x. x < count) o) (sym (at_count None e)) (nearest_best count) in
          both_ways (is_end records asked depths k.0) (none k.0 k.1) k.3

      module _ (n d : ℕ) (is_nearest : Some n ≡ nearest_below records asked depths (length depths)) (is_depth : depth n ≡ Some d) where
        best : (n < count) × (is_end records asked depths n ≡ true) × ((x : ℕ) → x < count → is_end records asked depths x ≡ true → near x n ≡ false)
        best = subst (λ (o : Option ℕ). IsBest (nearer records depths) near_itself near_onward (is_end records asked depths) (λ x. x < count) o) (sym (at_count (Some n) is_nearest)) (nearest_best count)

        -- what else is asked for is as far at least
        as_far : (other : Thing) (long : ℕ) → IsNumbered other long → (d ≤ long) × (long ≤ d → goes_before other (here n) ≡ false)
        as_far other long (j, below, is, end, dj, known, le) =
            let not : depth_before (depth j) (depth n) (number_before records j n) ≡ false = best.2 j below end in
            let far = not_nearer dj d (number_before records j n) (sym (ap (λ (o : Option ℕ). depth_before o (depth n) (number_before records j n)) known ∙ ap (λ (o : Option ℕ). depth_before (Some dj) o (number_before records j n)) is_depth) ∙ not) in
            let least : d ≤ dj = far.0 in (
              omega (arith, least, le),
              λ most. ap (λ x. goes_before x (here n)) (sym is) ∙ far.1 (omega (arith, least, le, most)),
            )

        -- the first path to the nearest number explains the asked row
        pub number_explains : (xs : List Thing) → IsFirstTo records at (here n) xs → Explains records at asked xs
        number_explains [] h = absurd h
        number_explains (last ∷ path) (is, leads, least, back) =
            let short = (nearest_of records at graph depths searched n d best.0 is_depth).0 in
            let below : length path ≤ d = (let l = least short.0 short.1 in let k = short.2 in omega (arith, l, k)) in
            record {
              this = ap asked is ∙ (and_parts (asked (here n)) (is_some (depth n)) best.1).0;
              leads = leads;
              shortest = λ other rest a p. (let far = as_far other (length rest) (has_number other a rest p) in let f = far.0 in omega (arith, f, below));
              first = λ other k t.
                  let far = as_far other (length k.1.0) (has_number other k.0 k.1.0 k.1.1) in
                  let l = k.1.2 in
                  both_ways (goes_before other last) (ap (λ x. goes_before other x) is ∙ far.1 (omega (arith, l, below))) t;
              first_back = back;
            }
