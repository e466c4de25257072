-- What is made of a value with a new leaf is what the write makes, where it fits; and where a write makes a value, it is the one that is made.
use Rattle.std.proofs.Common.{◌≡◌, ℕ, ◌≤◌, true, IsTrue, List, refl, sym, subst, ◌∙◌, Option, Some, None, Result, Ok, Err}
use Rattle.std.specs.Prelude.{IfOk}
use Rattle.gt_types.specs.declared.types.Ty.{Ty}
use Rattle.gt_types.specs.declared.program.Program.{Program}
use Rattle.gt_types.specs.Settled.{Settled}
use Rattle.gt_tree.specs.Trees.{Tree, Trees, End, is_word, part_at, with_part}
use Rattle.gt_tree.specs.Blocks.{Kind, Blocks, element_type}
use Rattle.gt_tree.specs.Scopes.{outside}
use Rattle.gt_tree.specs.Fits.{Fits}
use Rattle.gt_tree.specs.FixedLaws.{MayHold}
use Rattle.gt_tree.specs.Reshapes.{Assigns, LeadsToLeaf}
use Rattle.gt_value.specs.Bytes.{IsElement}
use Rattle.gt_value.specs.Values.{tree_of}
use Rattle.gt_value.specs.declared.values.Value.{Value}
use Rattle.gt_value.specs.declared.values.ValueFail.{ValueFail}
use Rattle.gt_value.specs.declared.values.ValueFail.TheVariants.{Shape}
use Rattle.gt_assign.specs.Pasts.{Whole, past_outside}
use Rattle.gt_assign.specs.Turning.{Gives, made}
use Rattle.gt_assign.specs.Checks.{is_word_there}
use Rattle.gt_assign.specs.Results.{IsMadeWhereFit, NoneElseIsMade, NoneIsMade, IsAssigned, IsMisfit}
use Rattle.gt_assign.proofs.ComesUnions.{made-sound}
use Rattle.gt_unions.proofs.CommonFound.{common-is}
use Rattle.gt_assign.proofs.Standing.{Stands}
use Rattle.gt_assign.proofs.Whole.{makes}
use Rattle.gt_assign.proofs.Nesting.{deep-block}
use Rattle.gt_value.proofs.Refit.{refit-block}

-- ---- where the leaf is

some-leaf : (o : Option Tree) → is_word_there o ≡ true → (part : Tree) × (o ≡ Some part) × IsTrue (is_word part)
some-leaf None h = absurd (cc)
some-leaf (Some part) h = (part, refl, h)

pub a-leaf : (old : Tree) (path : List ℕ) → is_word_there (part_at old path) ≡ true → LeadsToLeaf old path
a-leaf old path h = some-leaf (part_at old path) h

module _ (program : Program) (settled : Settled program) (capacity : ℕ) (old : Tree) (path : List ℕ) (leaf : Tree) where
  -- ---- a write

  pub made-where-fit : (depth : ℕ) (type : Ty) (new : Tree) → LeadsToLeaf old path → is_word leaf ≡ true
      → made program capacity depth (past_outside End) type (Whole (with_part old path leaf)) ≡ Some new → IsMadeWhereFit program capacity type old path leaf new
  made-where-fit depth type new there is_word_so e = λ blocks statics fits. record {
    there = there;
    is_leaf = is_word_so;
    fits = fits;
    reshapes = made-sound program settled (common-is program settled) capacity depth (past_outside End) type (Whole (with_part old path leaf)) new e;
  }

  -- ---- no write

  made-by : (depth : ℕ) (kind : Kind) (blocks : Blocks) (statics : Trees) (new : Tree) → 199 ≤ depth → MayHold program kind → Assigns program blocks statics capacity (element_type program kind) old path leaf new
      → made program capacity depth (past_outside End) (element_type program kind) (Whole (with_part old path leaf)) ≡ Some new
  made-by depth kind blocks statics new enough may a =
      makes program settled blocks capacity End (refit-block program settled blocks capacity kind statics End new a.fits) (past_outside End) (Whole (with_part old path leaf)) depth (Stands.at_block kind may)
      (deep-block program settled kind depth enough) a.reshapes

  -- what a write makes is what is made of the value with the new leaf
  is-made : (depth : ℕ) (type : Ty) (blocks : Blocks) (statics : Trees) (new : Tree) → 199 ≤ depth → IsElement program type → Assigns program blocks statics capacity type old path leaf new
      → made program capacity depth (past_outside End) type (Whole (with_part old path leaf)) ≡ Some new
  is-made depth type blocks statics new enough (kind, may, is) a =
      subst (λ t. made program capacity depth (past_outside End) t (Whole (with_part old path leaf)) ≡ Some new) (sym is)
      (made-by depth kind blocks statics new enough may (subst (λ t. Assigns program blocks statics capacity t old path leaf new) is a))

  pub none-made : (depth : ℕ) (type : Ty) → 199 ≤ depth → IsElement program type → made program capacity depth (past_outside End) type (Whole (with_part old path leaf)) ≡ None → NoneIsMade program capacity type old path leaf
  none-made depth type enough element off = λ blocks statics new a.
      let h = is-made depth type blocks statics new enough element a in
      let clash : None ≡ Some new = sym off ∙ h in
      cc

  pub none-else-made : (depth : ℕ) (type : Ty) (found : Tree) → 199 ≤ depth → IsElement program type → made program capacity depth (past_outside End) type (Whole (with_part old path leaf)) ≡ Some found
      → NoneElseIsMade program capacity type old path leaf found
  none-else-made depth type found enough element e = λ blocks statics off new a.
      let h = is-made depth type blocks statics new enough element a in
      let both : Some new ≡ Some found = sym h ∙ e in
      let same : new ≡ found = cc in
      off (subst (λ t. Fits program blocks capacity (outside statics) type t) same a.fits)

  -- ---- by what a call gives

  pub given-fits : (depth : ℕ) (type : Ty) (result : Result Value ValueFail) → LeadsToLeaf old path → is_word leaf ≡ true
      → Gives result (made program capacity depth (past_outside End) type (Whole (with_part old path leaf))) → IfOk result (λ v. IsMadeWhereFit program capacity type old path leaf (tree_of v))
  given-fits depth type (Ok v) there is_word_so e = made-where-fit depth type (tree_of v) there is_word_so e
  given-fits depth type (Err fail) there is_word_so e = tt

  pub given-else : (depth : ℕ) (type : Ty) (result : Result Value ValueFail) → 199 ≤ depth → IsElement program type
      → Gives result (made program capacity depth (past_outside End) type (Whole (with_part old path leaf))) → IfOk result (λ v. NoneElseIsMade program capacity type old path leaf (tree_of v))
  given-else depth type (Ok v) enough element e = none-else-made depth type (tree_of v) enough element e
  given-else depth type (Err fail) enough element e = tt

  pub given-none : (depth : ℕ) (type : Ty) (result : Result Value ValueFail) → 199 ≤ depth → IsElement program type
      → Gives result (made program capacity depth (past_outside End) type (Whole (with_part old path leaf))) → result ≡ Err Shape → NoneIsMade program capacity type old path leaf
  given-none depth type result enough element given is = none-made depth type enough element (subst (λ r. Gives r (made program capacity depth (past_outside End) type (Whole (with_part old path leaf)))) is given)

-- ---- a value that is checked

pub fits-everywhere : (program : Program) (settled : Settled program) (blocks : Blocks) (capacity : ℕ) (type : Ty) (a b : Trees) (tree : Tree) → IsElement program type
    → Fits program blocks capacity (outside a) type tree → Fits program blocks capacity (outside b) type tree
fits-everywhere program settled blocks capacity type a b tree (kind, may, is) fits =
    subst (λ t. Fits program blocks capacity (outside b) t tree) (sym is)
    (refit-block program settled blocks capacity kind a b tree (subst (λ t. Fits program blocks capacity (outside a) t tree) is fits))

module _ (program : Program) (settled : Settled program) (blocks : Blocks) (capacity : ℕ) (type : Ty) (element : IsElement program type) (old : Tree) (path : List ℕ) (leaf made : Tree) where
  pub checked-assigned : IsMadeWhereFit program capacity type old path leaf made → Fits program blocks capacity (outside End) type made → IsAssigned program blocks capacity type old path leaf made
  checked-assigned so fits = λ statics old_fits. so blocks statics (fits-everywhere program settled blocks capacity type End statics made element fits)

  pub checked-misfit : NoneElseIsMade program capacity type old path leaf made → ¬ Fits program blocks capacity (outside End) type made → IsMisfit program blocks capacity type old path leaf
  checked-misfit so off = λ statics new a. so blocks statics (λ fits. off (fits-everywhere program settled blocks capacity type statics End made element fits)) new a
