-- The edges of leaves: their targets are those of the leaves, and each names a block.
use Rattle.std.proofs.Common.{◌≡◌, ◌∙◌, ℕ, ◌+◌, ◌/◌, List, [], ◌∷◌, Option, Some, None, refl, sym, ap, subst, inl, inr}
use Rattle.std.specs.Prelude.{Contains, All}
use Rattle.std.specs.List.{cons_option}
use Rattle.std.proofs.lemmas.List.Elements.{All-nil, All-cons}
use Rattle.gt_types.specs.declared.program.Program.{Program}
use Rattle.gt_tree.specs.Blocks.{Block, Blocks}
use Rattle.gt_tree.specs.Scopes.{◌then◌}
use Rattle.gt_tree.specs.Leaves.{Leaf, target_of, targets}
use Rattle.gt_objects.proofs.Items.{none_there, first_there, later_there, there_cases}
use Rattle.gt_walk.specs.Rows.{Edge}
use Rattle.gt_edges.specs.Edges.{edge_to, edge_of, edges_at}
use Rattle.gt_tracing.proofs.EdgeLists.{targets_of}
use Rattle.gt_tracing.proofs.Named.{IsBlock}

module _ (program : Program) (blocks : Blocks) (address : ℕ) where
  -- what a leaf gives, by its target and the block of that name
  at_none : (l : Leaf) → target_of l ≡ None → edge_of program blocks address l ≡ None
  at_none l e = ap (λ t. t then λ id. blocks id then λ b. Some (edge_to program (address + l.at / 8) id b)) e

  at_unknown : (l : Leaf) (id : ℕ) → target_of l ≡ Some id → blocks id ≡ None → edge_of program blocks address l ≡ None
  at_unknown l id e none = ap (λ t. t then λ id. blocks id then λ b. Some (edge_to program (address + l.at / 8) id b)) e ∙ ap (λ x. x then λ b. Some (edge_to program (address + l.at / 8) id b)) none

  pub at_block : (l : Leaf) (id : ℕ) (b : Block) → target_of l ≡ Some id → blocks id ≡ Some b → edge_of program blocks address l ≡ Some (edge_to program (address + l.at / 8) id b)
  at_block l id b e is = ap (λ t. t then λ id. blocks id then λ b. Some (edge_to program (address + l.at / 8) id b)) e ∙ ap (λ x. x then λ b. Some (edge_to program (address + l.at / 8) id b)) is

  one_leaf : (l : Leaf) (ls : List Leaf) (x : Option Edge) → edge_of program blocks address l ≡ x → edges_at program blocks address (l ∷ ls) ≡ cons_option x (edges_at program blocks address ls)
  one_leaf l ls x e = ap (λ o. cons_option o (edges_at program blocks address ls)) e

  one_target : (l : Leaf) (ls : List Leaf) (x : Option ℕ) → target_of l ≡ x → targets (l ∷ ls) ≡ cons_option x (targets ls)
  one_target l ls x e = ap (λ o. cons_option o (targets ls)) e

  abbrev AreNamed : List Leaf → Type 0
  AreNamed leaves = (id : ℕ) → Contains (targets leaves) id → IsBlock blocks id

  target_step : (l : Leaf) (ls : List Leaf) → AreNamed (l ∷ ls) → (AreNamed ls → targets_of (edges_at program blocks address ls) ≡ targets ls)
      → (x : Option ℕ) → target_of l ≡ x → targets_of (edges_at program blocks address (l ∷ ls)) ≡ targets (l ∷ ls)
  target_step l ls named rest None e =
      let is = one_target l ls None e in
      ap targets_of (one_leaf l ls None (at_none l e)) ∙ rest (λ id has. named id (subst (λ xs. Contains xs id) (sym is) has)) ∙ sym is
  target_step l ls named rest (Some id) e =
      let is = one_target l ls (Some id) e in
      let block = named id (subst (λ xs. Contains xs id) (sym is) (first_there id (targets ls))) in
      ap targets_of (one_leaf l ls (Some (edge_to program (address + l.at / 8) id block.0)) (at_block l id block.0 e block.1))
      ∙ ap (λ xs. id ∷ xs) (rest (λ k has. named k (subst (λ xs. Contains xs k) (sym is) (later_there id (targets ls) k has))))
      ∙ sym is

  -- where each pointer names a block, there is an edge for each
  pub leaf_targets : (leaves : List Leaf) → AreNamed leaves → targets_of (edges_at program blocks address leaves) ≡ targets leaves
  leaf_targets [] named = refl
  leaf_targets (l ∷ ls) named = target_step l ls named (leaf_targets ls) (target_of l) refl

  module _ (P : Edge → Type 0) (holds : (place id : ℕ) (b : Block) → blocks id ≡ Some b → P (edge_to program place id b)) where
    block_step : (l : Leaf) (ls : List Leaf) → All P (edges_at program blocks address ls) → (id : ℕ) → target_of l ≡ Some id → (x : Option Block) → blocks id ≡ x → All P (edges_at program blocks address (l ∷ ls))
    block_step l ls rest id e None none = subst (All P) (sym (one_leaf l ls None (at_unknown l id e none))) rest
    block_step l ls rest id e (Some b) is =
        let edge = edge_to program (address + l.at / 8) id b in
        subst (All P) (sym (one_leaf l ls (Some edge) (at_block l id b e is))) (All-cons P edge (edges_at program blocks address ls) (holds (address + l.at / 8) id b is) rest)

    edge_step : (l : Leaf) (ls : List Leaf) → All P (edges_at program blocks address ls) → (x : Option ℕ) → target_of l ≡ x → All P (edges_at program blocks address (l ∷ ls))
    edge_step l ls rest None e = subst (All P) (sym (one_leaf l ls None (at_none l e))) rest
    edge_step l ls rest (Some id) e = block_step l ls rest id e (blocks id) refl

    -- what holds of each edge to a block holds of all
    pub leaf_edges : (leaves : List Leaf) → All P (edges_at program blocks address leaves)
    leaf_edges [] = All-nil P
    leaf_edges (l ∷ ls) = edge_step l ls (leaf_edges ls) (target_of l) refl

  -- ---- from which leaf an edge is

  abbrev pub From : List Leaf → Edge → Type 0
  From leaves e = (l : Leaf) × Contains leaves l × (target_of l ≡ Some e.target) × (e.place ≡ address + l.at / 8)

  module _ (e : Edge) (l : Leaf) (ls : List Leaf) (rest : Contains (edges_at program blocks address ls) e → From ls e) where
    from_later : Contains (edges_at program blocks address ls) e → From (l ∷ ls) e
    from_later has = let found = rest has in (found.0, later_there l ls found.0 found.1, found.2, found.3)

    from_block : Contains (edges_at program blocks address (l ∷ ls)) e → (id : ℕ) → target_of l ≡ Some id → (x : Option Block) → blocks id ≡ x → From (l ∷ ls) e
    from_block has id to None none = from_later (subst (λ xs. Contains xs e) (one_leaf l ls None (at_unknown l id to none)) has)
    from_block has id to (Some b) is =
        let edge = edge_to program (address + l.at / 8) id b in
        elim (there_cases edge (edges_at program blocks address ls) e (subst (λ xs. Contains xs e) (one_leaf l ls (Some edge) (at_block l id b to is)) has)) [
          | inl same ↦ (l, first_there l ls, to ∙ ap (λ (x : Edge). Some x.target) same, sym (ap (λ (x : Edge). x.place) same))
          | inr later ↦ from_later later
        ]

    from_step : Contains (edges_at program blocks address (l ∷ ls)) e → (x : Option ℕ) → target_of l ≡ x → From (l ∷ ls) e
    from_step has None none = from_later (subst (λ xs. Contains xs e) (one_leaf l ls None (at_none l none)) has)
    from_step has (Some id) to = from_block has id to (blocks id) refl

  pub from_leaf : (leaves : List Leaf) (e : Edge) → Contains (edges_at program blocks address leaves) e → From leaves e
  from_leaf [] e has = none_there e has
  from_leaf (l ∷ ls) e has = from_step e l ls (from_leaf ls e) has (target_of l) refl
