-- The blocks of a space and the objects there: edges of the one are edges of the other.
use Rattle.std.proofs.Common.{◌≡◌, ◌∙◌, ℕ, List, [], map, Option, Some, None, refl, sym, ap, subst}
use Rattle.std.specs.Prelude.{Contains}
use Rattle.std.specs.Option.{option_map_or}
use Rattle.std.proofs.lemmas.List.Elements.{All-contains}
use Rattle.gt_types.specs.declared.program.Program.{Program}
use Rattle.gt_space.specs.Range.{Range}
use Rattle.gt_pages.specs.Slots.{Slot, StartsSome}
use Rattle.gt_tree.specs.Trees.{edges}
use Rattle.gt_tree.specs.Blocks.{Chars}
use Rattle.gt_graph.specs.Objects.{Object, Graph, object_of}
use Rattle.gt_graph.specs.Kept.{ReachedFrom}
use Rattle.gt_objects.proofs.Naming.{object_is}
use Rattle.gt_walk.specs.declared.tables.Tables.{Tables}
use Rattle.gt_walk.specs.Rows.{Edge, edges_of}
use Rattle.gt_mark.specs.Reached.{Walks, LeadsTo, NamesBlock, Reaches, block_edges}
use Rattle.gt_mark.proofs.Remarked.{contains_map, contains_map_from, contains_none}
use Rattle.gt_edges.specs.Numbers.{walk_of}
use Rattle.gt_tracing.specs.Walked.{by_walk, walked_of, walks_in}
use Rattle.gt_tracing.specs.Traces.{Traces}

module _ (program : Program) (tables : Tables) (space : Range) (slots : List Slot) (g : Graph) (t : Traces program tables space slots g) where
  abbrev pub walks : Walks
  walks = walks_in program g.objects

  abbrev pub edges_at : ℕ → List Edge
  edges_at a = block_edges tables space walks a

  -- ---- blocks and objects

  pub start_of : (o : Object) → Contains g.objects o → StartsSome slots o.id
  start_of o has = contains_map_from (λ s. s.address) slots o.id (subst (λ l. Contains l o.id) (sym t.blocks) (contains_map (λ x. x.id) g.objects o has))

  pub object_at : (a : ℕ) → StartsSome slots a → (o : Object) × Contains g.objects o × (o.id ≡ a)
  object_at a start =
      let there = subst (Contains (map (λ s. s.address) slots)) start.2 (contains_map (λ s. s.address) slots start.0 start.1) in
      contains_map_from (λ o. o.id) g.objects a (subst (λ l. Contains l a) t.blocks there)

  -- ---- edges

  pub edge_there : (o : Object) (to : ℕ) → Contains g.objects o → LeadsTo tables space walks o.id to → Contains (edges o.value) to
  edge_there o to has leads =
      subst (λ l. Contains l to) (t.edges o has) (subst (Contains (map (λ e. e.target) (edges_at o.id))) leads.2 (contains_map (λ e. e.target) (edges_at o.id) leads.0 leads.1))

  pub edge_leads : (o : Object) (to : ℕ) → Contains g.objects o → Contains (edges o.value) to → LeadsTo tables space walks o.id to
  edge_leads o to has edge = contains_map_from (λ e. e.target) (edges_at o.id) to (subst (λ l. Contains l to) (sym (t.edges o has)) edge)

  -- where no object is, no edge begins
  no_edges : (a : ℕ) → object_of g.objects a ≡ None → edges_at a ≡ []
  no_edges a none = ap (λ x. edges_of tables (option_map_or (walked_of program) x (by_walk (walk_of program Chars) 0)).walk (option_map_or (walked_of program) x (by_walk (walk_of program Chars) 0)).count space a) none

  leads_by : (a to : ℕ) → LeadsTo tables space walks a to → (x : Option Object) → object_of g.objects a ≡ x → (o : Object) × (object_of g.objects a ≡ Some o) × Contains g.objects o × (o.id ≡ a)
  leads_by a to leads None is = contains_none leads.0 (subst (λ l. Contains l leads.0) (no_edges a is) leads.1)
  leads_by a to leads (Some o) is = let found = object_is g.objects a o is in (o, is, found.0, found.1)

  -- an edge begins in an object
  pub leads_object : (a to : ℕ) → LeadsTo tables space walks a to → (o : Object) × (object_of g.objects a ≡ Some o) × Contains g.objects o × (o.id ≡ a)
  leads_object a to leads = leads_by a to leads (object_of g.objects a) refl

  -- an edge of an object leads to an object
  pub leads_on : (o : Object) (to : ℕ) → Contains g.objects o → LeadsTo tables space walks o.id to → (p : Object) × Contains g.objects p × (p.id ≡ to)
  leads_on o to has leads =
      let named = All-contains (NamesBlock slots walks) (edges_at o.id) leads.0 (t.names o has) leads.1 in
      let found = object_at leads.0.target named.starts in
      (found.0, found.1, found.2 ∙ leads.2)

  -- ---- what is reached

  pub reach_on : (from to : ℕ) → Reaches tables space walks from to → ReachedFrom g from to
  reach_on from to Reaches.itself = ReachedFrom.itself
  reach_on from to (Reaches.onward {through} leads rest) =
      let found = leads_object from through leads in
      ReachedFrom.onward (found.0, found.1, edge_there found.0 through found.2 (subst (λ a. LeadsTo tables space walks a through) (sym found.3) leads)) (reach_on through to rest)

  pub reach_back : (from to : ℕ) → ReachedFrom g from to → Reaches tables space walks from to
  reach_back from to ReachedFrom.itself = Reaches.itself
  reach_back from to (ReachedFrom.onward {through} points rest) =
      let found = object_is g.objects from points.0 points.1 in
      Reaches.onward (subst (λ a. LeadsTo tables space walks a through) found.1 (edge_leads points.0 through found.0 points.2)) (reach_back through to rest)

  -- what is reached from an object is an object
  pub reached_object : (from to : ℕ) → Reaches tables space walks from to → (o : Object) × Contains g.objects o × (o.id ≡ from) → (o : Object) × Contains g.objects o × (o.id ≡ to)
  reached_object from to Reaches.itself is = is
  reached_object from to (Reaches.onward {through} leads rest) is =
      reached_object through to rest (leads_on is.0 through is.1 (subst (λ a. LeadsTo tables space walks a through) (sym is.2) leads))
