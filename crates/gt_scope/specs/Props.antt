-- What is said of kinds and targets is a fact, which has one proof at most.
use Rattle.std.specs.Prelude.{ℕ, List}
use Rattle.std.specs.Coded.{×_prop, Coded-set, coded_ℕ, coded_option}
use Rattle.gt_drafts.specs.contracts.types.BaseType as base
use Rattle.gt_drafts.specs.declared.types.BaseType.{BaseType}
use Rattle.gt_items.specs.declared.items.Stars.{Stars}
use Rattle.gt_names.specs.declared.tables.Entry.{Entry}
use Rattle.gt_scope.specs.declared.types.Spelled.{Spelled}
use Rattle.gt_scope.specs.declared.declaration.What.{What}
use Rattle.gt_scope.specs.declared.kinds.Kind.{Kind}
use Rattle.gt_scope.specs.declared.kinds.Kind.TheVariants.{Number, Float, Double, Sizeless, Structure, Undefined, Unknown}
use Rattle.gt_scope.specs.declared.link.Target.{Target}
use Rattle.gt_scope.specs.declared.link.Target.TheVariants.{End, Next}
use Rattle.gt_scope.specs.Chains.{IsTarget}
use Rattle.gt_scope.specs.Kinds.{IsOfKind}

pub IsOfKind-prop : (tags : List (List ℕ)) (k : Kind) (b : BaseType) → IsProp (IsOfKind tags k b)
IsOfKind-prop tags (Undefined keyword n) b = Coded-set (coded_option coded_ℕ) _ _
IsOfKind-prop tags (Number scalar is_char) b = Coded-set base.the_row.coded _ _
IsOfKind-prop tags Float b = Coded-set base.the_row.coded _ _
IsOfKind-prop tags Double b = Coded-set base.the_row.coded _ _
IsOfKind-prop tags Sizeless b = Coded-set base.the_row.coded _ _
IsOfKind-prop tags (Structure id) b = Coded-set base.the_row.coded _ _
IsOfKind-prop tags Unknown b = Coded-set base.the_row.coded _ _

pub IsTarget-prop : (defined : List (Entry What)) (typedefs : List (Entry (Spelled × Stars))) (tags : List (List ℕ)) (ty : Spelled) (to : Target)
    → IsProp (IsTarget defined typedefs tags ty to)
IsTarget-prop defined typedefs tags ty (Next place) = Coded-set (coded_option coded_ℕ) _ _
IsTarget-prop defined typedefs tags ty (End kind) = ×_prop (Coded-set (coded_option coded_ℕ) _ _) (IsOfKind-prop tags kind _)
