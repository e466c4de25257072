-- Texts and their trees.
use Rattle.std.proofs.Common.{◌≡◌, ℕ, ◌≤◌, List, length, Option, Some, None, Ok, Err, refl, sym, ap, ◌∙◌, inl, inr, arith}
use Rattle.std.proofs.lemmas.Bool.{cases_lt, lt-ltb, le-ltb}
use Rattle.gt_types.specs.declared.faults.Fault.{Fault}
use Rattle.gt_types.specs.declared.faults.Stop.{Stop}
use Rattle.gt_types.specs.declared.faults.Stop.TheVariants.{At}
use Rattle.gt_expr.specs.declared.TheConstants.{MAX_PARTS, BAD_EXPR, EXPR_TOO_LARGE}
use Rattle.gt_expr.specs.declared.part.Part.{Part}
use Rattle.gt_expr.specs.declared.raw.RawExpr.{RawExpr}
use Rattle.gt_expr.specs.Parts.{parts_of}
use Rattle.gt_expr.specs.Reading.{tree_of}
use Rattle.gt_expr.specs.Expression.{IsTooLarge, HasTree, IsExpression, IsRefused, IsStopped, IsUnlessMemory, fault_at, tree_or_fault, expression_of}
use Rattle.gt_expr.proofs.Derived.{tree_of-derived}
use Rattle.gt_expr.specs.Grammar.{Derives}
use Rattle.gt_expr.specs.Spelling.{Spells}
use Rattle.gt_expr.specs.declared.part.Line.TheVariants.{Conditional}
use Rattle.gt_expr.proofs.Again.{derived-tree_of}
use Rattle.gt_expr.proofs.Spelled.{parts_of-spelled}

-- no text has two trees
pub HasTree-one : (text : List ℕ) (s t : RawExpr) → HasTree text s → HasTree text t → s ≡ t
HasTree-one text s t a b =
    let same : Some s ≡ Some t = sym (derived-tree_of (parts_of text) s a) ∙ derived-tree_of (parts_of text) t b in cc

-- a tree that is spelled in few parts is the tree of its text
pub IsExpression-spelled : (text : List ℕ) (ps : List Part) (t : RawExpr) → Spells text ps → Derives Conditional ps t → length ps ≤ MAX_PARTS → IsExpression text t
IsExpression-spelled text ps t s d few =
    let parts = parts_of-spelled s in
    record { few = λ large. absurd (omega (arith, ap length parts)); has_tree = rw parts d }

module _ (text : List ℕ) (ps : List Part) (are : ps ≡ parts_of text) where
  pub is_expression : (t : RawExpr) → ¬ IsTooLarge text → tree_of ps ≡ Some t → IsExpression text t
  is_expression t few read = record { few = few; has_tree = rw (← are) (tree_of-derived ps t read) }

  pub has_no_tree : tree_of ps ≡ None → (t : RawExpr) → ¬ HasTree text t
  has_no_tree none t tree =
      let read : tree_of ps ≡ Some t = ap tree_of are ∙ derived-tree_of (parts_of text) t tree in
      let apart : None ≡ Some t = sym none ∙ read in absurd cc

  pub refuses_it : (file at : ℕ) (stop : Stop) → ¬ IsTooLarge text → tree_of ps ≡ None → stop ≡ At (fault_at BAD_EXPR file at) → IsStopped text file at stop
  refuses_it file at stop few none e = rw e (inr (refl, few, has_no_tree none))

  pub reads_it : (s : RawExpr) → tree_of ps ≡ Some s → (t : RawExpr) → IsExpression text t → IsUnlessMemory (Ok s) (Ok t)
  reads_it s read t is =
      let same : s ≡ t = HasTree-one text s t (rw (← are) (tree_of-derived ps s read)) is.has_tree in
      inr (ap (λ x. Ok x) same)

-- ---- the answer as a function of the text

expression_of-large : (text : List ℕ) → IsTooLarge text → expression_of text ≡ Err EXPR_TOO_LARGE
expression_of-large text large = rw (lt-ltb MAX_PARTS (length (parts_of text)) large) refl

expression_of-few : (text : List ℕ) → length (parts_of text) ≤ MAX_PARTS → expression_of text ≡ tree_or_fault (tree_of (parts_of text))
expression_of-few text few = rw (le-ltb MAX_PARTS (length (parts_of text)) few) refl

few_parts : (text : List ℕ) → ¬ IsTooLarge text → length (parts_of text) ≤ MAX_PARTS
few_parts text few = elim (cases_lt MAX_PARTS (length (parts_of text))) [ inl large ↦ absurd (few large) | inr small ↦ small ]

not_large : (text : List ℕ) → length (parts_of text) ≤ MAX_PARTS → ¬ IsTooLarge text
not_large text few large = omega arith

tree_or_fault-Ok : (read : Option RawExpr) (t : RawExpr) → tree_or_fault read ≡ Ok t → read ≡ Some t
tree_or_fault-Ok (Some s) t e =
    let same : s ≡ t = cc in ap (λ x. Some x) same
tree_or_fault-Ok None t e = absurd cc

tree_or_fault-Err : (read : Option RawExpr) (number : ℕ) → tree_or_fault read ≡ Err number → (number ≡ BAD_EXPR) × (read ≡ None)
tree_or_fault-Err (Some s) number e = absurd cc
tree_or_fault-Err None number e =
    let same : BAD_EXPR ≡ number = cc in (sym same, refl)

no_tree_read : (text : List ℕ) (read : Option RawExpr) → tree_of (parts_of text) ≡ read → ((t : RawExpr) → ¬ HasTree text t) → read ≡ None
no_tree_read text (Some t) e none = absurd (none t (tree_of-derived (parts_of text) t e))
no_tree_read text None e none = refl

-- an expression's tree is what the function gives
pub expression_of-tree : (text : List ℕ) (t : RawExpr) → IsExpression text t → expression_of text ≡ Ok t
expression_of-tree text t is =
    expression_of-few text (few_parts text is.few) ∙ ap tree_or_fault (derived-tree_of (parts_of text) t is.has_tree)

-- a tree that the function gives is the text's
pub IsExpression-expression_of : (text : List ℕ) (t : RawExpr) → expression_of text ≡ Ok t → IsExpression text t
IsExpression-expression_of text t e = elim (cases_lt MAX_PARTS (length (parts_of text))) [
  | inl large ↦
      let apart : Err EXPR_TOO_LARGE ≡ Ok t = sym (expression_of-large text large) ∙ e in absurd cc
  | inr few ↦
      record {
        few = not_large text few;
        has_tree = tree_of-derived (parts_of text) t (tree_or_fault-Ok (tree_of (parts_of text)) t (sym (expression_of-few text few) ∙ e));
      }
]

-- the number of a text's fault is what the function gives
pub expression_of-refused : (text : List ℕ) (file at : ℕ) (fault : Fault) → IsRefused text file at fault → expression_of text ≡ Err fault.number
expression_of-refused text file at fault (inl (e, large)) = rw e (expression_of-large text large)
expression_of-refused text file at fault (inr (e, few, none)) =
    rw e (expression_of-few text (few_parts text few) ∙ ap tree_or_fault (no_tree_read text (tree_of (parts_of text)) refl none))

-- a number that the function gives is that of a fault of the text
pub IsRefused-expression_of : (text : List ℕ) (number file at : ℕ) → expression_of text ≡ Err number → IsRefused text file at (fault_at number file at)
IsRefused-expression_of text number file at e = elim (cases_lt MAX_PARTS (length (parts_of text))) [
  | inl large ↦
      let both : Err EXPR_TOO_LARGE ≡ Err number = sym (expression_of-large text large) ∙ e in
      let same : EXPR_TOO_LARGE ≡ number = cc in
      inl (ap (λ n. fault_at n file at) (sym same), large)
  | inr few ↦
      let bad = tree_or_fault-Err (tree_of (parts_of text)) number (sym (expression_of-few text few) ∙ e) in
      inr (ap (λ n. fault_at n file at) bad.0, not_large text few, has_no_tree text (parts_of text) refl bad.1)
]
