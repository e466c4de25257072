-- One step on the way from a structure to a part of it.
use Rattle.std.proofs.Common.{◌≡◌, ◌≤◌, length, get_or, drop, arith, ℕ, false, List, [], ◌∷◌, Option, Some, None, refl, sym, ap, ◌∙◌, if◌then◌else◌}
use Rattle.gt_types.specs.declared.types.TypeId.{TypeId}
use Rattle.gt_types.specs.declared.program.Program.{Program}
use Rattle.gt_tree.specs.Scopes.{◌then◌}
use Rattle.gt_starts.specs.Ways.{Way, known, hidden, after_name, name_at, inner_at, is_union, way_to}
use Rattle.gt_starts.specs.Tries.{Trie, child, node_from}
use Rattle.gt_starts.specs.Ends.{led_to, led}
use Rattle.gt_starts.specs.declared.ways.Led.TheVariants.{Known, Hidden, Nowhere}

-- the first place of a path, and those that follow it
first-place : (path : List ℕ) → 1 ≤ length path → path ≡ get_or path 0 0 ∷ drop 1 path
first-place [] some = absurd (omega (arith, some))
first-place (i ∷ path) some = refl

-- a name in front leads on from its child, or nowhere
after-child : (trie : Trie) (node : ℕ) (name : List ℕ) (way : Way) (next : ℕ) → child trie node name ≡ Some next → led trie node (after_name (Some name) way) ≡ led trie next way
after-child trie node name (known names) next goes = ap (λ o. led_to Known (o then λ n. node_from trie n names)) goes
after-child trie node name (hidden names) next goes = ap (λ o. led_to Hidden (o then λ n. node_from trie n names)) goes

after-none : (trie : Trie) (node : ℕ) (name : List ℕ) (way : Way) → child trie node name ≡ None → led trie node (after_name (Some name) way) ≡ Nowhere
after-none trie node name (known names) goes = ap (λ o. led_to Known (o then λ n. node_from trie n names)) goes
after-none trie node name (hidden names) goes = ap (λ o. led_to Hidden (o then λ n. node_from trie n names)) goes

module _ (trie : Trie) (program : Program) (begin : Option TypeId) (id : TypeId) (path : List ℕ) (name : List ℕ) (node : ℕ) (here : begin ≡ Some id) (some : 1 ≤ length path) (struct : is_union program id ≡ false)
    (named : name_at program id (get_or path 0 0) ≡ Some name) where
  way-is : way_to program begin path ≡ after_name (Some name) (way_to program (inner_at program id (get_or path 0 0)) (drop 1 path))
  way-is =
      ap (λ (b : Option TypeId). way_to program b path) here ∙ ap (way_to program (Some id)) (first-place path some)
      ∙ ap (λ b. if b then hidden [] else after_name (name_at program id (get_or path 0 0)) (way_to program (inner_at program id (get_or path 0 0)) (drop 1 path))) struct
      ∙ ap (λ o. after_name o (way_to program (inner_at program id (get_or path 0 0)) (drop 1 path))) named

  -- the rest of the way leads from a child where the way leads from the node
  pub way-step : (next : ℕ) → child trie node name ≡ Some next → led trie next (way_to program (inner_at program id (get_or path 0 0)) (drop 1 path)) ≡ led trie node (way_to program begin path)
  way-step next goes = sym (ap (led trie node) way-is ∙ after-child trie node name (way_to program (inner_at program id (get_or path 0 0)) (drop 1 path)) next goes)

  -- where there is no child it leads nowhere
  pub way-lost : child trie node name ≡ None → Nowhere ≡ led trie node (way_to program begin path)
  way-lost none = sym (ap (led trie node) way-is ∙ after-none trie node name (way_to program (inner_at program id (get_or path 0 0)) (drop 1 path)) none)
