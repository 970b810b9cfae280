-- What the book has no number for, and what stays true of it.
use Rattle.std.proofs.Common.{◌≡◌, ℕ, ◌+◌, ◌<◌, Bool, true, false, List, [], ◌∷◌, ◌++◌, length, get_or, refl, sym, ap, ◌∙◌, Option, Some, None, append-nil, take}
use Rattle.std.proofs.Math.Numerals.{add-one}
use Rattle.std.proofs.Math.Seq.{take-suc}
use Rattle.std.proofs.lemmas.List.Elements.{filter_map-append}
use Rattle.std.specs.Prelude.{Err}
use Rattle.std.specs.List.{cons_option}
use Rattle.std.proofs.lemmas.Bool.{both_ways}
use Rattle.std.proofs.lemmas.List.Quantifiers.{position-Some}
use Rattle.meta_types.specs.Faults.{Refuses, unless}
use Rattle.meta_types.specs.declared.fault.Fault.{Fault}
use Rattle.meta_types.specs.declared.fault.Fault.TheVariants.{InvalidArgument}
use Rattle.gc_graph.specs.declared.node.Node.{Node}
use Rattle.gc_graph.specs.Nodes.{is_node, is_allowed, AreAllowed}
use Rattle.gc_graph.specs.Built.{number_of, numbers_in}
use Rattle.gc_graph.proofs.Same.{node_known}

pub no_number : (book : List Node) (n : Node) → AreAllowed book → is_allowed n.resource ≡ false → number_of book n ≡ None
no_number book n allowed h = go (number_of book n) refl
  where
    go : (o : Option ℕ) → number_of book n ≡ o → number_of book n ≡ None
    go None e = e
    go (Some i) e =
        let found = position-Some (is_node n) book i n e in
        absurd (both_ways (is_allowed n.resource) h (ap (λ (m : Node). is_allowed m.resource) (node_known n (get_or book i n) found.1) ∙ allowed i n found.0))

pub nothing_more : (book : List Node) (n : Node) (numbers : List ℕ) → AreAllowed book → is_allowed n.resource ≡ false → numbers ≡ numbers ++ numbers_in book (n ∷ [])
nothing_more book n numbers allowed h = sym (ap (λ o. numbers ++ cons_option o []) (no_number book n allowed h) ∙ append-nil numbers)

pub refused_unless : (X : Type 0) (b : Bool) (fault : Fault) → fault ≡ InvalidArgument → Refuses {X = X} (Err fault) (unless b InvalidArgument) → b ≡ false
refused_unless X true fault is h = absurd cc
refused_unless X false fault is h = refl

-- ---- loops

-- the items of a list up to a place, that of the place too, are those before it and the place's
pub take_next : {X : Type 0} (xs : List X) (i : ℕ) (x : X) → i < length xs → x ≡ get_or xs i x → take (i + 1) xs ≡ take i xs ++ x ∷ []
take_next xs i x lt is = rw add-one (take-suc xs i x lt) ∙ ap (λ y. take i xs ++ y ∷ []) (sym is)

pub numbers_in-append : (book xs ys : List Node) → numbers_in book (xs ++ ys) ≡ numbers_in book xs ++ numbers_in book ys
numbers_in-append book xs ys = filter_map-append (number_of book) xs ys
