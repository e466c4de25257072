-- The scope in which a value is checked.
use Rattle.std.specs.Prelude.{Option, Some, None, map}
use Rattle.gt_tree.specs.Scopes.{Held, Scope}
use Rattle.gt_value.specs.Values.{trees, tree_of}
use Rattle.gt_fit.specs.declared.scoping.HeldAt.{HeldAt}
use Rattle.gt_fit.specs.declared.scoping.Within.{Within}

abbrev pub held_of : Option HeldAt → Option Held
held_of (Some at) = Some (record { node = at.id; value = tree_of at.value.now })
held_of None = None

abbrev pub scope_of : Within → Scope
scope_of within = record {
  here = held_of within.here;
  outer = held_of within.outer;
  outermost = held_of within.outermost;
  statics = trees (map tree_of within.roots.now);
}
