-- No promise: what is known of the value that each part was, while a value is made anew.
use Rattle.std.specs.Prelude.{ℕ, cond, ◌==◌, ℤ, pos, List, [], ◌∷◌, Option, Some, None, slice_get, map}
use Rattle.std.specs.Str.{bytes_eq}
use Rattle.std.specs.List.{position_from}
use Rattle.gt_types.specs.declared.expressions.Base.{Base}
use Rattle.gt_types.specs.declared.expressions.Base.TheVariants.{Here, Outer, Outermost}
use Rattle.gt_types.specs.declared.expressions.Expr.{Expr}
use Rattle.gt_types.specs.declared.types.TypeId.{TypeId}
use Rattle.gt_types.specs.declared.types.Ty.{Ty}
use Rattle.gt_types.specs.declared.types.Ty.TheVariants as ty
use Rattle.gt_types.specs.declared.program.Field.{Field}
use Rattle.gt_types.specs.declared.program.Structure.{Structure}
use Rattle.gt_types.specs.declared.program.Program.{Program}
use Rattle.gt_types.specs.Values.{value_of}
use Rattle.gt_tree.specs.Trees.{Tree, Trees, tree_at}
use Rattle.gt_tree.specs.Scopes.{◌then◌, is_node, number_at, read_path}
use Rattle.gt_value.specs.Values.{trees, tree_of}
use Rattle.gt_assign.specs.declared.seeing.Seen.{Seen}
use Rattle.gt_assign.specs.declared.seeing.Seen.TheVariants as seen
use Rattle.gt_assign.specs.declared.seeing.SeenAt.{SeenAt}
use Rattle.gt_assign.specs.declared.seeing.Around.{Around}

-- what a part was: this value; none, so that each of its numbers is 0; or one that begins with this value of a structure, and is zero elsewhere
pub data Was : Type 0 where
  Whole : Tree → Was
  Nothing : Was
  Begun : TypeId → Tree → Was

-- a structure and what its value was
pub record WasAt : Type 0 where
  pub node : TypeId
  pub was : Was

-- what the structures around a part were, and the roots
pub record Past : Type 0 where
  pub here : Option WasAt
  pub outer : Option WasAt
  pub outermost : Option WasAt
  pub roots : Trees

-- where nothing was around
abbrev pub past_outside : Trees → Past
past_outside roots = record { here = None; outer = None; outermost = None; roots = roots }

abbrev pub first_was : Option WasAt → Option WasAt → Option WasAt
first_was (Some at) other = Some at
first_was None other = other

-- the past inside a structure that was this
abbrev pub past_inside : Past → TypeId → Was → Past
past_inside past node was = record {
  here = Some (record { node = node; was = was });
  outer = past.here;
  outermost = first_was past.outermost (Some (record { node = node; was = was }));
  roots = past.roots;
}

abbrev pub base_was : Past → Base → Option WasAt
base_was past Here = past.here
base_was past Outer = past.outer
base_was past Outermost = past.outermost

-- ---- what expressions read of it

abbrev pub begun_at : ℕ → Option Field → Option (Option Ty)
begun_at place (Some f) = Some (cond (place == 0) (Some f.ty) None)
begun_at place None = None

abbrev pub begun_in : Structure → Option ℕ → Option (Option Ty)
begun_in s (Some place) = begun_at place (slice_get s.fields place)
begun_in s None = None

abbrev pub begun_node : List ℕ → Option Structure → Option (Option Ty)
begun_node name (Some s) = begun_in s (position_from (λ f. bytes_eq f.name name) 0 s.fields)
begun_node name None = None

-- where a name leads in a struct that begins with another structure: to the type of its first field, or to what is zero
abbrev pub begun_next : Program → List ℕ → Ty → Option (Option Ty)
begun_next program name (ty.Node node desc) = begun_node name (slice_get program.structures node.0)
begun_next program name type = None

abbrev pub begun_on : (Ty → Option ℤ) → Option (Option Ty) → Option ℤ
begun_on read (Some (Some type)) = read type
begun_on read (Some None) = Some (pos 0)
begun_on read None = None

-- the number to which names lead, from a part that begins with a value of a structure and is zero elsewhere
abbrev pub begun_path : Program → TypeId → Tree → List (List ℕ) → Ty → Option ℤ
begun_path program common value [] type = None
begun_path program common value (name ∷ names) type =
    cond (is_node common type) (read_path program (name ∷ names) type value) (begun_on (begun_path program common value names) (begun_next program name type))

abbrev pub was_path : Program → List (List ℕ) → Ty → Was → Option ℤ
was_path program names type (Whole tree) = read_path program names type tree
was_path program names type Nothing = Some (pos 0)
was_path program names type (Begun common tree) = begun_path program common tree names type

abbrev pub leaf_was : Program → Past → Base → List (List ℕ) → Option ℤ
leaf_was program past base steps = base_was past base then λ at. was_path program steps (ty.Node at.node None) at.was

abbrev pub root_was : Past → ℕ → Option ℤ
root_was past i = tree_at past.roots i then number_at

-- the value of an expression by what the parts were
abbrev pub value_was : Program → Past → Expr → Option ℤ
value_was program past = value_of (leaf_was program past) (root_was past)

abbrev pub desc_was : Program → Past → Option Expr → Option ℤ
desc_was program past (Some e) = value_was program past e
desc_was program past None = None

-- ---- as the code holds it

abbrev pub was_of : Seen → Was
was_of (seen.Whole value) = Whole (tree_of value.now)
was_of seen.Zero = Nothing
was_of (seen.Begins id value) = Begun id (tree_of value.now)

abbrev pub was_at : Option SeenAt → Option WasAt
was_at (Some at) = Some (record { node = at.id; was = was_of at.seen })
was_at None = None

abbrev pub past_of : Around → Past
past_of around = record {
  here = was_at around.here;
  outer = was_at around.outer;
  outermost = was_at around.outermost;
  roots = trees (map tree_of around.roots.now);
}
