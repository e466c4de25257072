-- Flags that tell of each structure whether something holds of it.
use Rattle.std.proofs.Common.{◌≡◌, ◌∙◌, ℕ, ◌+◌, ◌<◌, ◌≤◌, Bool, false, Some, List, [], ◌∷◌, ◌++◌, length, get_or, refl, ap, sym, subst, inl, inr, arith}
use Rattle.std.specs.Prelude.{Any, slice_get}
use Rattle.std.specs.Bool.{Decides}
use Rattle.std.proofs.lemmas.Bool.{cases_lt}
use Rattle.std.proofs.lemmas.List.{length-append, get_or_append_left}
use Rattle.std.proofs.Math.Seq.{get_or-append_seam}
use Rattle.std.proofs.lemmas.Option.{slice_get_within, slice_get_read}
use Rattle.gt_types.specs.declared.expressions.Base.TheVariants.{Outer}
use Rattle.gt_types.specs.declared.types.TypeId.{TypeId}
use Rattle.gt_types.specs.declared.program.Structure.{Structure}
use Rattle.gt_types.specs.declared.program.Program.{Program}
use Rattle.gt_types.specs.Contains.{HasStructure}
use Rattle.gt_types.specs.Paths.{IsInner, own_expressions}
use Rattle.gt_tables.specs.Building.{Tell, flag_at}
use Rattle.gt_tables.specs.Naming.{Names, TellsBefore}

-- ---- one more flag

module _ (program : Program) (holds : TypeId → Type 0) where
  pub tells-more : (flags more : List Bool) (n : ℕ) (flag : Bool) → TellsBefore program flags n holds → more ≡ flags ++ flag ∷ []
      → ((node : TypeId) (s : Structure) → node.0 ≡ n → HasStructure program node s → Decides flag (holds node)) → TellsBefore program more (n + 1) holds
  tells-more flags more n flag before is here = record {
    all = let long = length-append flags (flag ∷ []) in ap length is ∙ omega (arith, before.all);
    tell = λ node s within has.
        subst (λ fs. Decides (flag_at fs node.0) (holds node)) (sym is)
        (elim (cases_lt node.0 n) [
          | inl less ↦ subst (λ b. Decides b (holds node)) (sym (get_or_append_left flags (flag ∷ []) false node.0 (omega (arith, before.all)))) (before.tell node s less has)
          | inr past ↦
              let at : node.0 ≡ n = omega arith in
              let there : length flags ≡ node.0 = before.all ∙ sym at in
              subst (λ b. Decides b (holds node)) (sym (ap (λ i. get_or (flags ++ flag ∷ []) i false) (sym there) ∙ get_or-append_seam flags flag [] false)) (here node s at has)
        ]);
  }

  pub tells-all : (flags : List Bool) (n : ℕ) → length program.structures ≤ n → TellsBefore program flags n holds → Tell program flags holds
  tells-all flags n all before node s has = let within = slice_get_within program.structures node.0 s has in before.tell node s (omega arith) has

-- a structure that an item of a list is
pub item-is : (program : Program) (items : List Structure) (n : ℕ) (s t : Structure) (node : TypeId) → items ≡ program.structures → n < length items → s ≡ get_or items n s → node.0 ≡ n → HasStructure program node t → s ≡ t
item-is program items n s t node is within at there has =
    let got : slice_get items n ≡ Some s = slice_get_read items (length items) n s refl within at in
    let same : slice_get items n ≡ slice_get program.structures node.0 = ap (λ xs. slice_get xs n) is ∙ ap (slice_get program.structures) (sym there) in
    let both : Some s ≡ Some t = sym got ∙ same ∙ has in
    cc

-- a structure is inner as its own expressions tell
pub told-inner : (program : Program) (s t : Structure) (node : TypeId) (flag : Bool) → Decides flag (Any (Names Outer) (own_expressions s)) → s ≡ t → HasStructure program node t → Decides flag (IsInner program node)
told-inner program s t node flag told same has = (
  λ e. (t, has, subst (λ u. Any (Names Outer) (own_expressions u)) same (told.0 e)),
  λ inner.
      let again : t ≡ inner.0 = (let both : Some t ≡ Some inner.0 = sym has ∙ inner.1 in cc) in
      told.1 (subst (λ u. Any (Names Outer) (own_expressions u)) (sym (same ∙ again)) inner.2),
)
