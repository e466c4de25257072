-- No promise: with what structures begin both.
use Rattle.std.specs.Prelude.{IsTrue, List, All}
use Rattle.gt_types.specs.declared.types.TypeId.{TypeId}
use Rattle.gt_types.specs.declared.program.Field.{Field}
use Rattle.gt_types.specs.declared.program.Program.{Program}
use Rattle.gt_types.specs.Unions.{BeginsWith, may_be_active}
use Rattle.gt_unions.specs.Beginnings.{Begins}
use Rattle.gt_paths.specs.declared.commons.Start.{Start}
use Rattle.gt_paths.specs.declared.commons.Start.TheVariants.{Free, From, Apart}

-- both begin with this structure
abbrev pub BothBegin : Program → TypeId → TypeId → TypeId → Type 0
BothBegin program a b node = Begins program a node × Begins program b node

-- they begin with no structure both
abbrev pub NeverMeet : Program → TypeId → TypeId → Type 0
NeverMeet program a b = (node : TypeId) → ¬ BothBegin program a b node

-- what both begin with, this begins with, and it with nothing else
abbrev pub AreJoined : Program → TypeId → TypeId → TypeId → Type 0
AreJoined program a b meet = (node : TypeId) → (BothBegin program a b node → Begins program meet node) × (Begins program meet node → BothBegin program a b node)

-- a member begins with this structure, if it may be active
abbrev pub BegunBy : Program → TypeId → Field → Type 0
BegunBy program node f = IsTrue (may_be_active f.active) → BeginsWith program f.ty node

-- all members that were looked at begin with this structure
abbrev pub StartsWith : Program → Start → TypeId → Type 0
StartsWith program Free node = Unit {0}
StartsWith program (From start) node = Begins program start node
StartsWith program Apart node = ⊥

-- members begin with the same structures as a start
abbrev pub IsStartOf : Program → List Field → Start → Type 0
IsStartOf program fields start = (node : TypeId) → (All (BegunBy program node) fields → StartsWith program start node) × (StartsWith program start node → All (BegunBy program node) fields)

-- one more member is looked at
abbrev pub StartsNext : Program → Start → Field → Start → Type 0
StartsNext program old f new =
    (node : TypeId) → (StartsWith program old node × BegunBy program node f → StartsWith program new node) × (StartsWith program new node → StartsWith program old node × BegunBy program node f)

-- one more structure is looked at
abbrev pub StartsToo : Program → Start → TypeId → Start → Type 0
StartsToo program old own new =
    (node : TypeId) → (StartsWith program old node × Begins program own node → StartsWith program new node) × (StartsWith program new node → StartsWith program old node × Begins program own node)
