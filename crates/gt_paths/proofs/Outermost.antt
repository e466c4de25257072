-- The outermost structures, as those of a set that are not inner.
use Rattle.std.proofs.Common.{◌≡◌, ◌⊎◌, inl, inr, ℕ, ◌+◌, ◌<◌, ◌≤◌, ◌↔◌, Bool, true, false, List, Option, Some, slice_get, refl, sym, subst, ◌∙◌, arith, IfSome}
use Rattle.std.specs.Prelude.{Contains, IsTrue}
use Rattle.std.specs.declared.alloc.Global.{Global}
use Rattle.std.specs.declared.rc.Rc.{Rc}
use Rattle.std.proofs.lemmas.Bool.{cases_lt}
use Rattle.gt_types.specs.declared.types.TypeId.{TypeId}
use Rattle.gt_types.specs.declared.program.Program.{Program}
use Rattle.gt_sets.specs.Sets.{IsIn}
use Rattle.gt_paths.specs.declared.indexes.PathIndex.{PathIndex}
use Rattle.gt_paths.specs.declared.outers.Outers.{Outers}
use Rattle.gt_paths.specs.Indexes.{inner_in}
use Rattle.gt_paths.specs.Numbers.{mark_at}
use Rattle.gt_paths.specs.OuterPaths.{AreStarts}
use Rattle.gt_paths.specs.Outers.{AreOutersOf, IsOuter}
use Rattle.gt_paths.proofs.Ascents.{last_or_before}

-- ---- those of a set that are not marked

-- all of them below a number
abbrev pub AreFree : List Bool → List ℕ → ℕ → List ℕ → Type 0
AreFree inner set from starts = (i : ℕ) → Contains starts i ↔ ((i < from) × IsIn set i × (mark_at inner i ≡ false))

pub lacks : {b : Bool} → b ≡ false → b ≡ true → ⊥
lacks unset is_set = let e : true ≡ false = sym is_set ∙ unset in absurd (cc)

pub none_free : (inner : List Bool) (set starts : List ℕ) → ((i : ℕ) → ¬ Contains starts i) → AreFree inner set 0 starts
none_free inner set starts none i = (λ listed. absurd (none i listed), λ (below, held, free). absurd (omega (arith, below)))

-- the next is looked at
pub free_more : (inner : List Bool) (set : List ℕ) (from id after : ℕ) (old new : List ℕ) → IsIn set id → ((j : ℕ) → from ≤ j → j < id → ¬ IsIn set j) → from ≤ id → after ≡ id + 1
    → ((i : ℕ) → Contains new i ↔ (Contains old i ⊎ ((i ≡ id) × (mark_at inner i ≡ false)))) → AreFree inner set from old → AreFree inner set after new
free_more inner set from id after old new there none reached next added before i = (
  λ listed. elim ((added i).0 listed) [
    | inl was ↦ let (below, held, free) = (before i).0 was in (omega (arith, below, reached, next), held, free)
    | inr (same, free) ↦ (omega (arith, same, next), subst (λ (x : ℕ). IsIn set x) (sym same) there, free)
  ],
  λ (below, held, free). elim (last_or_before id i (omega (arith, below, next))) [
    | inl less ↦ elim (cases_lt i from) [
      | inl old_one ↦ (added i).1 (inl ((before i).1 (old_one, held, free)))
      | inr past ↦ absurd (none i past less held)
    ]
    | inr same ↦ (added i).1 (inr (same, free))
  ],
)

-- none is left
pub all_free : (inner : List Bool) (set : List ℕ) (from : ℕ) (starts : List ℕ) → ((j : ℕ) → from ≤ j → ¬ IsIn set j) → AreFree inner set from starts
    → (i : ℕ) → Contains starts i ↔ (IsIn set i × (mark_at inner i ≡ false))
all_free inner set from starts none before i = (
  λ listed. let (below, held, free) = (before i).0 listed in (held, free),
  λ (held, free). elim (cases_lt i from) [
    | inl old_one ↦ (before i).1 (old_one, held, free)
    | inr past ↦ absurd (none i past held)
  ],
)

-- ---- those around a structure

is_false : (b : Bool) → ¬ IsTrue b → b ≡ false
is_false true never = absurd (never refl)
is_false false never = refl

outers_here : (program : Program) (outers : Outers) (node : ℕ) (set : Rc (List ℕ) Global) → AreOutersOf program outers → slice_get outers.sets node ≡ Some set
    → (i : ℕ) → IsIn set.value i ↔ IsOuter program node i
outers_here program outers node set are at = subst (λ (o : Option (Rc (List ℕ) Global)). IfSome o (λ s. (i : ℕ) → IsIn s.value i ↔ IsOuter program node i)) at (are.are node)

pub are_starts : (program : Program) (index : PathIndex) (node : TypeId) (set : Rc (List ℕ) Global) (seen starts : List ℕ) → AreOutersOf program index.outers
    → Some set ≡ slice_get index.outers.sets node.0 → seen ≡ set.value → ((i : ℕ) → Contains starts i ↔ (IsIn seen i × (mark_at index.inner i ≡ false))) → AreStarts (inner_in index) program node starts
are_starts program index node set seen starts outers at same chosen = record {
  all = λ outer (free, one). (chosen outer.0).1 ((around outer.0).1 one, is_false (mark_at index.inner outer.0) free);
  only = λ start there. let (held, free) = (chosen start).0 there in (λ marked. lacks free marked, (around start).0 held);
}
  where
    around : (i : ℕ) → IsIn seen i ↔ IsOuter program node.0 i
    around = subst (λ (words : List ℕ). (i : ℕ) → IsIn words i ↔ IsOuter program node.0 i) (sym same) (outers_here program index.outers node.0 set outers (sym at))
