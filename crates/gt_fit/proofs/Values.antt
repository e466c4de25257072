-- The trees of values in a list.
use Rattle.std.proofs.Common.{◌≡◌, ℕ, ℤ, Option, zero, suc, List, [], ◌∷◌, length, map, Vec, Global, refl, ap, sym, ◌∙◌}
use Rattle.std.specs.Prelude.{slice_get}
use Rattle.gt_tree.specs.Trees.{Tree, Num, Null, To, Raw, Rec, Alt, Row, And, count, tree_at, without_pointers, all_without_pointers}
use Rattle.gt_value.specs.declared.values.Value.{Value, Num as NumOf, Null as NullOf, To as ToOf, Raw as RawOf, Rec as RecOf, Alt as AltOf, Row as RowOf}
use Rattle.gt_value.specs.declared.values.Value.TheVariants as value
use Rattle.gt_value.specs.declared.values.Value.TheOpen as open_part
use Rattle.gt_value.specs.declared.values.Value.TheFolds.{fold-roll-Value}
use Rattle.gt_value.specs.Values.{trees, tree_step, tree_of}
use Rattle.gt_fit.specs.Values.{maybe_tree}

-- the tree at a place of a list is that of the value there
pub tree_at-trees : (values : List Value) (i : ℕ) → tree_at (trees (map tree_of values)) i ≡ maybe_tree (slice_get values i)
tree_at-trees [] i = refl
tree_at-trees (value ∷ values) zero = refl
tree_at-trees (value ∷ values) (suc i) = tree_at-trees values i

pub all_without_trees : (values : List Value) → all_without_pointers (trees (map tree_of values)) ≡ trees (map (λ x. without_pointers (tree_of x)) values)
all_without_trees [] = refl
all_without_trees (value ∷ values) = ap (And (without_pointers (tree_of value))) (all_without_trees values)

pub count-trees : (values : List Value) → count (trees (map tree_of values)) ≡ length values
count-trees [] = refl
count-trees (value ∷ values) = ap suc (count-trees values)

pub rec-tree : (parts : Vec Value Global) → tree_of (RecOf parts) ≡ Rec (trees (map tree_of parts.items))
rec-tree parts = ap tree_of (sym (value.rolls-Rec parts)) ∙ fold-roll-Value Tree tree_step (open_part.Rec parts)

pub row-tree : (parts : Vec Value Global) → tree_of (RowOf parts) ≡ Row (trees (map tree_of parts.items))
row-tree parts = ap tree_of (sym (value.rolls-Row parts)) ∙ fold-roll-Value Tree tree_step (open_part.Row parts)

pub num-tree : (n : ℤ) → tree_of (NumOf n) ≡ Num n
num-tree n = ap tree_of (sym (value.rolls-Num n)) ∙ fold-roll-Value Tree tree_step (open_part.Num n)

pub null-tree : tree_of NullOf ≡ Null
null-tree = ap tree_of (sym value.rolls-Null) ∙ fold-roll-Value Tree tree_step open_part.Null

pub to-tree : (address : ℕ) → tree_of (ToOf address) ≡ To address
to-tree address = ap tree_of (sym (value.rolls-To address)) ∙ fold-roll-Value Tree tree_step (open_part.To address)

pub raw-tree : (bytes : List ℕ) → tree_of (RawOf bytes) ≡ Raw bytes
raw-tree bytes = ap tree_of (sym (value.rolls-Raw bytes)) ∙ fold-roll-Value Tree tree_step (open_part.Raw bytes)

pub alt-tree : (member : Option ℕ) (v : Value) → tree_of (AltOf member v) ≡ Alt member (tree_of v)
alt-tree member v = ap tree_of (sym (value.rolls-Alt member v)) ∙ fold-roll-Value Tree tree_step (open_part.Alt member v)
