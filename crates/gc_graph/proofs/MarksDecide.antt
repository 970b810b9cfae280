-- Marks that are just the reached numbers tell where paths end.
use Rattle.std.proofs.Common.{◌≡◌, [], ℕ, true, false, List, refl, sym, ap, ◌∙◌, ℤ, Option, Some, None}
use Rattle.std.specs.Prelude.{Contains, ◌↔◌}
use Rattle.std.specs.Option.{option_map_or}
use Rattle.std.proofs.lemmas.Bool.Decides.{Decides-eqb}
use Rattle.meta_types.specs.Rows.{Records}
use Rattle.meta_types.specs.Paths.{Thing, things, is_root, IsReached, TellsReached}
use Rattle.mark_core.specs.declared.graph.Graph.{Graph}
use Rattle.mark_core.specs.Reach.{Reached}
use Rattle.mark_core.specs.Bits.{bit_of}
use Rattle.gc_graph.specs.declared.node.Node.{Node}
use Rattle.gc_graph.specs.Targets.{node_of}
use Rattle.gc_graph.specs.Built.{IsBuilt}
use Rattle.gc_graph.specs.Marked.{is_marked, is_marked_node, reached_by}
use Rattle.gc_graph.proofs.Walks.{root_alone, number_is}

module _ (records : Records) (at : ℤ) (book : List Node) (graph : Graph) (built : IsBuilt records at book graph) (marks : List ℕ)
    (marked : (n : ℕ) → (bit_of marks n ≡ 1) ↔ Reached graph n) where
  with_node : (thing : Thing) (node : Node) → Contains (things records) thing → node_of thing ≡ Some node → (is_marked_node book marks node ≡ true) ↔ IsReached records at thing
  with_node thing node c e =
      let n = number_is records book built.numbered built.once thing node c e in
      let each = built.each thing node n.0 c e n.1 in
      let test : is_marked_node book marks node ≡ is_marked marks n.0 = ap (λ o. option_map_or (is_marked marks) o false) n.1 in (
        (λ h. each.0 ((marked n.0).0 ((Decides-eqb (bit_of marks n.0) 1).0 (sym test ∙ h)))),
        (λ r. test ∙ (Decides-eqb (bit_of marks n.0) 1).1 ((marked n.0).1 (each.1 r))),
      )

  tells_of : (thing : Thing) → Contains (things records) thing → (o : Option Node) → node_of thing ≡ o → (reached_by records.profile book marks at thing ≡ true) ↔ IsReached records at thing
  tells_of thing c (Some node) e =
      let test : reached_by records.profile book marks at thing ≡ is_marked_node book marks node = ap (λ o. option_map_or (is_marked_node book marks) o (is_root records.profile at thing)) e in
      ((λ h. (with_node thing node c e).0 (sym test ∙ h)), (λ r. test ∙ (with_node thing node c e).1 r))
  tells_of thing c None e =
      let test : reached_by records.profile book marks at thing ≡ is_root records.profile at thing = ap (λ o. option_map_or (is_marked_node book marks) o (is_root records.profile at thing)) e in
      ((λ h. ([], (c, sym test ∙ h))), (λ r. test ∙ root_alone records at thing r.0 r.1 e))

  -- the marks tell of each thing of the store whether a path ends in it
  pub tells : TellsReached records at (reached_by records.profile book marks at)
  tells = record { each = λ thing c. tells_of thing c (node_of thing) refl }
