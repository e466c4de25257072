-- The plain form of a type: it has the words of the type, and the type is read from it.
use Rattle.std.proofs.Common.{◌≡◌, ℕ, Bool, true, false, List, [], ◌∷◌, ◌++◌, Option, Some, None, slice_get, refl, sym, ap, ap₂, ◌∙◌, subst}
use Rattle.std.specs.List.{list_all}
use Rattle.std.specs.Prelude.{All, codes, encode_utf8_all}
use Rattle.std.proofs.lemmas.Bool.{and_from, false≢true}
use Rattle.std.proofs.lemmas.List.Elements.{All-head, All-tail}
use Rattle.gt_types.specs.declared.expressions.Expr.{Expr}
use Rattle.gt_types.specs.declared.types.TypeId.{TypeId}
use Rattle.gt_types.specs.declared.types.Scalar.{Scalar}
use Rattle.gt_types.specs.declared.types.Target.{Target}
use Rattle.gt_types.specs.declared.types.Target.TheVariants as target
use Rattle.gt_types.specs.declared.types.PtrKind.{PtrKind}
use Rattle.gt_types.specs.declared.types.PtrKind.TheVariants as kind
use Rattle.gt_types.specs.declared.types.Ty.{Ty}
use Rattle.gt_types.specs.declared.types.Ty.TheFolds.{fold-Ty, fold-roll-Ty}
use Rattle.gt_types.specs.declared.types.Ty.TheOpen as layer
use Rattle.gt_types.specs.declared.types.Ty.TheOpen.{Ty-F}
use Rattle.gt_types.specs.declared.types.Ty.TheVariants as ty
use Rattle.gt_types.specs.declared.program.Structure.{Structure}
use Rattle.gt_types.specs.declared.program.Program.{Program}
use Rattle.gt_types.specs.Names.{is_name_character}
use Rattle.gt_types.specs.Shapes.{has_target}
use Rattle.gt_digits.specs.Digits.{decimal}
use Rattle.gt_canon.specs.Lines.{spaced}
use Rattle.gt_canon.specs.Names.{name_if_structure, structure_name}
use Rattle.gt_canon.specs.Expressions.{expression_text}
use Rattle.gt_canon.specs.Types.{scalar_word, desc_word, pointer_words, reorder_words, type_step, type_words}
use Rattle.gt_canon.proofs.Trees.{Tree, written}
use Rattle.gt_canon.proofs.Forms.{Goal, nodes, pointers, strings, Form, number, bits, raw, text, sized, plain, many, sorted, atomic, undef, node, arr, tail, desc_then, form_then, is_good_desc, is_good_form}
use Rattle.gt_canon.proofs.Inductions.{each_type}
use Rattle.gt_canon.proofs.ExprTrees.{tree_of, tree_text, tree_good, expr_of, expr_of-tree, FindsRoots, IsWritable, spaced-cons}

-- ---- the form

abbrev pub raw_structure : Option Structure → List ℕ
raw_structure (Some s) = s.name
raw_structure None = []

-- the characters of a structure's name
abbrev pub name_at : Program → TypeId → List ℕ
name_at program id = raw_structure (slice_get program.structures id.0)

abbrev goal_of : Program → Target → Goal
goal_of program (target.Node id) = nodes (name_at program id)
goal_of program (target.Pointers id) = pointers (name_at program id)
goal_of program target.Strings = strings

-- that of a pointer which headers can give; another is read as one of them
abbrev pub pointer_form : Program → Option Target → PtrKind → Form
pointer_form program (Some (target.Node id)) kind.Plain = plain (name_at program id)
pointer_form program (Some (target.Pointers id)) kind.Plain = undef
pointer_form program (Some target.Strings) kind.Plain = undef
pointer_form program None kind.Plain = undef
pointer_form program (Some t) (kind.Length count) = many (tree_of program count) (goal_of program t)
pointer_form program None (kind.Length count) = undef
pointer_form program t kind.Atomic = atomic
pointer_form program t kind.Undef = undef

abbrev pub sorted_if : Bool → Form → Form
sorted_if true f = sorted f
sorted_if false f = f

abbrev pub desc_of : Program → Option Expr → Option Tree
desc_of program (Some e) = Some (tree_of program e)
desc_of program None = None

abbrev pub form_step : Program → Ty-F Form → Form
form_step program (layer.Num scalar) = number scalar
form_step program (layer.Bits unit count) = bits unit count
form_step program (layer.Opaque size align) = raw size align
form_step program (layer.Str None) = text
form_step program (layer.Str (Some count)) = sized (tree_of program count)
form_step program (layer.Ptr t kind reorder) = sorted_if reorder (pointer_form program t kind)
form_step program (layer.Node id desc) = node (name_at program id) (desc_of program desc)
form_step program (layer.Arr n elem) = arr n elem
form_step program (layer.Tail count elem) = tail (tree_of program count) elem

abbrev pub form_of : Program → Ty → Form
form_of program = fold-Ty Form (form_step program)

-- ---- what a type names

-- the structures
abbrev pub target_ids : Option Target → List TypeId
target_ids (Some (target.Node id)) = id ∷ []
target_ids (Some (target.Pointers id)) = id ∷ []
target_ids (Some target.Strings) = []
target_ids None = []

abbrev pub ids_step : Ty-F (List TypeId) → List TypeId
ids_step (layer.Num scalar) = []
ids_step (layer.Bits unit count) = []
ids_step (layer.Opaque size align) = []
ids_step (layer.Str count) = []
ids_step (layer.Ptr t kind reorder) = target_ids t
ids_step (layer.Node id desc) = id ∷ []
ids_step (layer.Arr n elem) = elem
ids_step (layer.Tail count elem) = elem

abbrev pub ids_of : Ty → List TypeId
ids_of = fold-Ty (List TypeId) ids_step

-- the expressions
abbrev pub option_exprs : Option Expr → List Expr
option_exprs (Some e) = e ∷ []
option_exprs None = []

abbrev pub kind_exprs : PtrKind → List Expr
kind_exprs kind.Plain = []
kind_exprs (kind.Length count) = count ∷ []
kind_exprs kind.Atomic = []
kind_exprs kind.Undef = []

abbrev pub exprs_step : Ty-F (List Expr) → List Expr
exprs_step (layer.Num scalar) = []
exprs_step (layer.Bits unit count) = []
exprs_step (layer.Opaque size align) = []
exprs_step (layer.Str count) = option_exprs count
exprs_step (layer.Ptr t kind reorder) = kind_exprs kind
exprs_step (layer.Node id desc) = option_exprs desc
exprs_step (layer.Arr n elem) = elem
exprs_step (layer.Tail count elem) = count ∷ elem

abbrev pub exprs_of : Ty → List Expr
exprs_of = fold-Ty (List Expr) exprs_step

-- whether each pointer has a target as headers give it
abbrev pub targets_step : Ty-F Bool → Bool
targets_step (layer.Num scalar) = true
targets_step (layer.Bits unit count) = true
targets_step (layer.Opaque size align) = true
targets_step (layer.Str count) = true
targets_step (layer.Ptr t kind reorder) = has_target t kind reorder
targets_step (layer.Node id desc) = true
targets_step (layer.Arr n elem) = elem
targets_step (layer.Tail count elem) = elem

abbrev pub has_targets : Ty → Bool
has_targets = fold-Ty Bool targets_step

-- a structure's name is one, and is found at its place
pub record KnowsId (program : Program) (place : List ℕ → ℕ) (id : TypeId) : Type 0 where
  pub found : place (name_at program id) ≡ id.0
  pub name : list_all is_name_character (name_at program id) ≡ true

pub record KnowsExpr (program : Program) (place : List ℕ → ℕ) (e : Expr) : Type 0 where
  pub found : FindsRoots program place e
  pub writable : IsWritable program e

-- all that a type names is found by its name
pub record Knows (program : Program) (nodes_place roots_place : List ℕ → ℕ) (t : Ty) : Type 0 where
  pub targets : has_targets t ≡ true
  pub ids : All (KnowsId program nodes_place) (ids_of t)
  pub exprs : All (KnowsExpr program roots_place) (exprs_of t)

-- ---- folds at each variant

pub at-num : {A : Type 0} (step : Ty-F A → A) (n : Scalar) → fold-Ty A step (ty.Num n) ≡ step (layer.Num n)
at-num {A} step n = ap (fold-Ty A step) (sym (ty.rolls-Num n)) ∙ fold-roll-Ty A step (layer.Num n)

pub at-bits : {A : Type 0} (step : Ty-F A → A) (u : Scalar) (n : ℕ) → fold-Ty A step (ty.Bits u n) ≡ step (layer.Bits u n)
at-bits {A} step u n = ap (fold-Ty A step) (sym (ty.rolls-Bits u n)) ∙ fold-roll-Ty A step (layer.Bits u n)

pub at-opaque : {A : Type 0} (step : Ty-F A → A) (m n : ℕ) → fold-Ty A step (ty.Opaque m n) ≡ step (layer.Opaque m n)
at-opaque {A} step m n = ap (fold-Ty A step) (sym (ty.rolls-Opaque m n)) ∙ fold-roll-Ty A step (layer.Opaque m n)

pub at-str : {A : Type 0} (step : Ty-F A → A) (e : Option Expr) → fold-Ty A step (ty.Str e) ≡ step (layer.Str e)
at-str {A} step e = ap (fold-Ty A step) (sym (ty.rolls-Str e)) ∙ fold-roll-Ty A step (layer.Str e)

pub at-ptr : {A : Type 0} (step : Ty-F A → A) (t : Option Target) (k : PtrKind) (r : Bool) → fold-Ty A step (ty.Ptr t k r) ≡ step (layer.Ptr t k r)
at-ptr {A} step t k r = ap (fold-Ty A step) (sym (ty.rolls-Ptr t k r)) ∙ fold-roll-Ty A step (layer.Ptr t k r)

pub at-node : {A : Type 0} (step : Ty-F A → A) (id : TypeId) (d : Option Expr) → fold-Ty A step (ty.Node id d) ≡ step (layer.Node id d)
at-node {A} step id d = ap (fold-Ty A step) (sym (ty.rolls-Node id d)) ∙ fold-roll-Ty A step (layer.Node id d)

pub at-arr : {A : Type 0} (step : Ty-F A → A) (n : ℕ) (t : Ty) → fold-Ty A step (ty.Arr n t) ≡ step (layer.Arr n (fold-Ty A step t))
at-arr {A} step n t = ap (fold-Ty A step) (sym (ty.rolls-Arr n t)) ∙ fold-roll-Ty A step (layer.Arr n t)

pub at-tail : {A : Type 0} (step : Ty-F A → A) (e : Expr) (t : Ty) → fold-Ty A step (ty.Tail e t) ≡ step (layer.Tail e (fold-Ty A step t))
at-tail {A} step e t = ap (fold-Ty A step) (sym (ty.rolls-Tail e t)) ∙ fold-roll-Ty A step (layer.Tail e t)

-- ---- its words

encoded_structure : (s : Option Structure) → encode_utf8_all (raw_structure s) ≡ name_if_structure s
encoded_structure (Some s) = refl
encoded_structure None = refl

pub encoded_name : (program : Program) (id : TypeId) → encode_utf8_all (name_at program id) ≡ structure_name program id
encoded_name program id = encoded_structure (slice_get program.structures id.0)

pub one_word : (a s : List ℕ) → 32 ∷ (a ++ s) ≡ spaced (a ∷ []) ++ s
one_word a s = sym (spaced-cons a [] s)

pub two_words : (a b s : List ℕ) → 32 ∷ (a ++ (32 ∷ (b ++ s))) ≡ spaced (a ∷ b ∷ []) ++ s
two_words a b s = ap (λ l. 32 ∷ (a ++ l)) (one_word b s) ∙ sym (spaced-cons a (b ∷ []) s)

pub three_words : (a b c s : List ℕ) → 32 ∷ (a ++ (32 ∷ (b ++ (32 ∷ (c ++ s))))) ≡ spaced (a ∷ b ∷ c ∷ []) ++ s
three_words a b c s = ap (λ l. 32 ∷ (a ++ l)) (two_words b c s) ∙ sym (spaced-cons a (b ∷ c ∷ []) s)

four_words : (a b c d s : List ℕ) → 32 ∷ (a ++ (32 ∷ (b ++ (32 ∷ (c ++ (32 ∷ (d ++ s))))))) ≡ spaced (a ∷ b ∷ c ∷ d ∷ []) ++ s
four_words a b c d s = ap (λ l. 32 ∷ (a ++ l)) (three_words b c d s) ∙ sym (spaced-cons a (b ∷ c ∷ d ∷ []) s)

two_more : (a b : List ℕ) (ws : List (List ℕ)) (s : List ℕ) → 32 ∷ (a ++ (32 ∷ (b ++ (spaced ws ++ s)))) ≡ spaced (a ∷ b ∷ ws) ++ s
two_more a b ws s = ap (λ l. 32 ∷ (a ++ l)) (sym (spaced-cons b ws s)) ∙ sym (spaced-cons a (b ∷ ws) s)

pub desc_text : (program : Program) (d : Option Expr) (s : List ℕ) → desc_then (desc_of program d) s ≡ desc_word program d ++ s
desc_text program (Some e) s = tree_text program e s
desc_text program None s = refl

len_text :
    (program : Program) (count : Expr) (t : List ℕ) → 32 ∷ (codes "len" ++ (32 ∷ written (tree_of program count) t))
    ≡ 32 ∷ (codes "len" ++ (32 ∷ (expression_text program count ++ t)))
len_text program count t = ap (λ l. 32 ∷ (codes "len" ++ (32 ∷ l))) (tree_text program count t)

pointer_text :
    (program : Program) (t : Option Target) (k : PtrKind) (reorder : Bool) (s : List ℕ) → has_target t k reorder ≡ true
    → form_then (pointer_form program t k) s ≡ spaced (pointer_words program t k) ++ s
pointer_text program (Some (target.Node id)) kind.Plain reorder s h =
    ap (λ l. 32 ∷ (codes "ptr" ++ (32 ∷ (l ++ s)))) (encoded_name program id) ∙ two_words (codes "ptr") (structure_name program id) s
pointer_text program (Some (target.Node id)) (kind.Length count) reorder s h =
    len_text program count (32 ∷ (codes "node" ++ (32 ∷ (encode_utf8_all (name_at program id) ++ s))))
    ∙ ap (λ l. 32 ∷ (codes "len" ++ (32 ∷ (expression_text program count ++ (32 ∷ (codes "node" ++ (32 ∷ (l ++ s)))))))) (encoded_name program id)
    ∙ four_words (codes "len") (expression_text program count) (codes "node") (structure_name program id) s
pointer_text program (Some (target.Pointers id)) (kind.Length count) reorder s h =
    len_text program count (32 ∷ (codes "ptr" ++ (32 ∷ (encode_utf8_all (name_at program id) ++ s))))
    ∙ ap (λ l. 32 ∷ (codes "len" ++ (32 ∷ (expression_text program count ++ (32 ∷ (codes "ptr" ++ (32 ∷ (l ++ s)))))))) (encoded_name program id)
    ∙ four_words (codes "len") (expression_text program count) (codes "ptr") (structure_name program id) s
pointer_text program (Some target.Strings) (kind.Length count) reorder s h =
    len_text program count (32 ∷ (codes "str" ++ s)) ∙ three_words (codes "len") (expression_text program count) (codes "str") s
pointer_text program None kind.Atomic reorder s h = one_word (codes "atomic") s
pointer_text program None kind.Undef reorder s h = one_word (codes "undef") s
pointer_text program t k reorder s h = absurd (false≢true h)

sorted_text :
    (program : Program) (reorder : Bool) (f : Form) (ws : List (List ℕ)) (s : List ℕ) → form_then f s ≡ spaced ws ++ s
    → form_then (sorted_if reorder f) s ≡ spaced (reorder_words reorder ++ ws) ++ s
sorted_text program true f ws s e = ap (λ l. 32 ∷ (codes "reorder" ++ l)) e ∙ sym (spaced-cons (codes "reorder") ws s)
sorted_text program false f ws s e = e

abbrev HasWords : Program → Ty → Type 0
HasWords program t = (s : List ℕ) → has_targets t ≡ true → form_then (form_of program t) s ≡ spaced (type_words program t) ++ s

str_text : (program : Program) (count : Option Expr) → HasWords program (ty.Str count)
str_text program None s h =
    ap (λ f. form_then f s) (at-str (form_step program) None) ∙ one_word (codes "str") s ∙ sym (ap (λ w. spaced w ++ s) (at-str (type_step program) None))
str_text program (Some count) s h =
    ap (λ f. form_then f s) (at-str (form_step program) (Some count))
    ∙ ap (λ l. 32 ∷ (codes "strlen" ++ (32 ∷ l))) (tree_text program count s)
    ∙ two_words (codes "strlen") (expression_text program count) s
    ∙ sym (ap (λ w. spaced w ++ s) (at-str (type_step program) (Some count)))

pub form_text : (program : Program) (t : Ty) → HasWords program t
form_text program =
    let form = form_step program in
    let words = type_step program in
    each_type (HasWords program) (record {
      num = λ n s h.
          ap (λ f. form_then f s) (at-num form n) ∙ one_word (scalar_word n) s ∙ sym (ap (λ w. spaced w ++ s) (at-num words n));
      bits = λ u n s h.
          ap (λ f. form_then f s) (at-bits form u n)
          ∙ three_words (codes "bits") (scalar_word u) (decimal n) s
          ∙ sym (ap (λ w. spaced w ++ s) (at-bits words u n));
      opaque = λ m n s h.
          ap (λ f. form_then f s) (at-opaque form m n)
          ∙ three_words (codes "raw") (decimal m) (decimal n) s
          ∙ sym (ap (λ w. spaced w ++ s) (at-opaque words m n));
      str = str_text program;
      ptr = λ t k r s h.
          ap (λ f. form_then f s) (at-ptr form t k r)
          ∙ sorted_text program r (pointer_form program t k) (pointer_words program t k) s
          (pointer_text program t k r s (sym (at-ptr targets_step t k r) ∙ h))
          ∙ sym (ap (λ w. spaced w ++ s) (at-ptr words t k r));
      node = λ id d s h.
          ap (λ f. form_then f s) (at-node form id d)
          ∙ ap (λ l. 32 ∷ (codes "node" ++ (32 ∷ (l ++ (32 ∷ desc_then (desc_of program d) s))))) (encoded_name program id)
          ∙ ap (λ l. 32 ∷ (codes "node" ++ (32 ∷ (structure_name program id ++ (32 ∷ l))))) (desc_text program d s)
          ∙ three_words (codes "node") (structure_name program id) (desc_word program d) s
          ∙ sym (ap (λ w. spaced w ++ s) (at-node words id d));
      arr = λ n t ht s h.
          ap (λ f. form_then f s) (at-arr form n t)
          ∙ ap (λ l. 32 ∷ (codes "arr" ++ (32 ∷ (decimal n ++ l)))) (ht s (sym (at-arr targets_step n t) ∙ h))
          ∙ two_more (codes "arr") (decimal n) (type_words program t) s
          ∙ sym (ap (λ w. spaced w ++ s) (at-arr words n t));
      tail = λ e t ht s h.
          ap (λ f. form_then f s) (at-tail form e t)
          ∙ ap (λ l. 32 ∷ (codes "tail" ++ (32 ∷ written (tree_of program e) l))) (ht s (sym (at-tail targets_step e t) ∙ h))
          ∙ ap (λ l. 32 ∷ (codes "tail" ++ (32 ∷ l))) (tree_text program e (spaced (type_words program t) ++ s))
          ∙ two_more (codes "tail") (expression_text program e) (type_words program t) s
          ∙ sym (ap (λ w. spaced w ++ s) (at-tail words e t));
    })

-- ---- the type of a form, by the places of names

abbrev pub numbered : ℕ → TypeId
numbered i = record { 0 = i }

abbrev target_of : (List ℕ → ℕ) → Goal → Target
target_of place (nodes w) = target.Node (numbered (place w))
target_of place (pointers w) = target.Pointers (numbered (place w))
target_of place strings = target.Strings

abbrev pub desc_read : (List ℕ → ℕ) → Option Tree → Option Expr
desc_read place (Some e) = Some (expr_of place e)
desc_read place None = None

abbrev pub type_of : (nodes_place roots_place : List ℕ → ℕ) → Bool → Form → Ty
type_of f g r (number n) = ty.Num n
type_of f g r (bits u n) = ty.Bits u n
type_of f g r (raw m n) = ty.Opaque m n
type_of f g r text = ty.Str None
type_of f g r (sized e) = ty.Str (Some (expr_of g e))
type_of f g r (plain w) = ty.Ptr (Some (target.Node (numbered (f w)))) kind.Plain r
type_of f g r (many e goal) = ty.Ptr (Some (target_of f goal)) (kind.Length (expr_of g e)) r
type_of f g r (sorted x) = type_of f g true x
type_of f g r atomic = ty.Ptr None kind.Atomic r
type_of f g r undef = ty.Ptr None kind.Undef r
type_of f g r (node w d) = ty.Node (numbered (f w)) (desc_read g d)
type_of f g r (arr n x) = ty.Arr n (type_of f g false x)
type_of f g r (tail e x) = ty.Tail (expr_of g e) (type_of f g false x)

pub desc_back :
    (program : Program) (g : List ℕ → ℕ) (d : Option Expr) → All (KnowsExpr program g) (option_exprs d) → desc_read g (desc_of program d) ≡ d
desc_back program g (Some e) h = ap Some (expr_of-tree program g e (All-head (KnowsExpr program g) e [] h).found)
desc_back program g None h = refl

pointer_back :
    (program : Program) (f g : List ℕ → ℕ) (t : Option Target) (k : PtrKind) (r reorder : Bool) → has_target t k reorder ≡ true
    → All (KnowsId program f) (target_ids t) → All (KnowsExpr program g) (kind_exprs k) → type_of f g r (pointer_form program t k) ≡ ty.Ptr t k r
pointer_back program f g (Some (target.Node id)) kind.Plain r reorder h i e =
    ap (λ n. ty.Ptr (Some (target.Node (numbered n))) kind.Plain r) (All-head (KnowsId program f) id [] i).found
pointer_back program f g (Some (target.Node id)) (kind.Length count) r reorder h i e =
    ap₂ (λ n c. ty.Ptr (Some (target.Node (numbered n))) (kind.Length c) r) (All-head (KnowsId program f) id [] i).found
    (expr_of-tree program g count (All-head (KnowsExpr program g) count [] e).found)
pointer_back program f g (Some (target.Pointers id)) (kind.Length count) r reorder h i e =
    ap₂ (λ n c. ty.Ptr (Some (target.Pointers (numbered n))) (kind.Length c) r) (All-head (KnowsId program f) id [] i).found
    (expr_of-tree program g count (All-head (KnowsExpr program g) count [] e).found)
pointer_back program f g (Some target.Strings) (kind.Length count) r reorder h i e =
    ap (λ c. ty.Ptr (Some target.Strings) (kind.Length c) r) (expr_of-tree program g count (All-head (KnowsExpr program g) count [] e).found)
pointer_back program f g None kind.Atomic r reorder h i e = refl
pointer_back program f g None kind.Undef r reorder h i e = refl
pointer_back program f g t k r reorder h i e = absurd (false≢true h)

sorted_back : (f g : List ℕ → ℕ) (r : Bool) (x : Form) → type_of f g false (sorted_if r x) ≡ type_of f g r x
sorted_back f g true x = refl
sorted_back f g false x = refl

abbrev ReadsBack : Program → (List ℕ → ℕ) → (List ℕ → ℕ) → Ty → Type 0
ReadsBack program f g t = Knows program f g t → type_of f g false (form_of program t) ≡ t

str_back : (program : Program) (f g : List ℕ → ℕ) (count : Option Expr) → ReadsBack program f g (ty.Str count)
str_back program f g None h = ap (type_of f g false) (at-str (form_step program) None)
str_back program f g (Some count) h =
    ap (type_of f g false) (at-str (form_step program) (Some count))
    ∙ ap (λ e. ty.Str (Some e))
    (expr_of-tree program g count (All-head (KnowsExpr program g) count [] (subst (All (KnowsExpr program g)) (at-str exprs_step (Some count)) h.exprs)).found)

arr_known : (program : Program) (f g : List ℕ → ℕ) (n : ℕ) (t : Ty) → Knows program f g (ty.Arr n t) → Knows program f g t
arr_known program f g n t h = record {
  targets = sym (at-arr targets_step n t) ∙ h.targets;
  ids = subst (All (KnowsId program f)) (at-arr ids_step n t) h.ids;
  exprs = subst (All (KnowsExpr program g)) (at-arr exprs_step n t) h.exprs;
}

tail_known : (program : Program) (f g : List ℕ → ℕ) (e : Expr) (t : Ty) → Knows program f g (ty.Tail e t) → Knows program f g t × KnowsExpr program g e
tail_known program f g e t h =
    let all = subst (All (KnowsExpr program g)) (at-tail exprs_step e t) h.exprs in (
      record {
        targets = sym (at-tail targets_step e t) ∙ h.targets;
        ids = subst (All (KnowsId program f)) (at-tail ids_step e t) h.ids;
        exprs = All-tail (KnowsExpr program g) e (exprs_of t) all;
      },
      All-head (KnowsExpr program g) e (exprs_of t) all,
    )

pub type_of-form : (program : Program) (f g : List ℕ → ℕ) (t : Ty) → ReadsBack program f g t
type_of-form program f g =
    let form = form_step program in
    let back = type_of f g false in
    each_type (ReadsBack program f g) (record {
      num = λ n h. ap back (at-num form n);
      bits = λ u n h. ap back (at-bits form u n);
      opaque = λ m n h. ap back (at-opaque form m n);
      str = str_back program f g;
      ptr = λ t k r h.
          ap back (at-ptr form t k r)
          ∙ sorted_back f g r (pointer_form program t k)
          ∙ pointer_back program f g t k r r (sym (at-ptr targets_step t k r) ∙ h.targets)
          (subst (All (KnowsId program f)) (at-ptr ids_step t k r) h.ids)
          (subst (All (KnowsExpr program g)) (at-ptr exprs_step t k r) h.exprs);
      node = λ id d h.
          ap back (at-node form id d)
          ∙ ap₂ (λ n x. ty.Node (numbered n) x)
          (All-head (KnowsId program f) id [] (subst (All (KnowsId program f)) (at-node ids_step id d) h.ids)).found
          (desc_back program g d (subst (All (KnowsExpr program g)) (at-node exprs_step id d) h.exprs));
      arr = λ n t ht h. ap back (at-arr form n t) ∙ ap (λ x. ty.Arr n x) (ht (arr_known program f g n t h));
      tail = λ e t ht h.
          let parts = tail_known program f g e t h in
          ap back (at-tail form e t) ∙ ap₂ (λ x y. ty.Tail x y) (expr_of-tree program g e parts.1.found) (ht parts.0);
    })

-- ---- its names

pub desc_good :
    (program : Program) (g : List ℕ → ℕ) (d : Option Expr) → All (KnowsExpr program g) (option_exprs d) → is_good_desc (desc_of program d) ≡ true
desc_good program g (Some e) h = tree_good program e (All-head (KnowsExpr program g) e [] h).writable
desc_good program g None h = refl

pointer_good :
    (program : Program) (f g : List ℕ → ℕ) (t : Option Target) (k : PtrKind) → All (KnowsId program f) (target_ids t)
    → All (KnowsExpr program g) (kind_exprs k) → is_good_form (pointer_form program t k) ≡ true
pointer_good program f g (Some (target.Node id)) kind.Plain i e = (All-head (KnowsId program f) id [] i).name
pointer_good program f g (Some (target.Node id)) (kind.Length count) i e =
    and_from _ _ (tree_good program count (All-head (KnowsExpr program g) count [] e).writable) (All-head (KnowsId program f) id [] i).name
pointer_good program f g (Some (target.Pointers id)) (kind.Length count) i e =
    and_from _ _ (tree_good program count (All-head (KnowsExpr program g) count [] e).writable) (All-head (KnowsId program f) id [] i).name
pointer_good program f g (Some target.Strings) (kind.Length count) i e =
    and_from _ _ (tree_good program count (All-head (KnowsExpr program g) count [] e).writable) refl
pointer_good program f g None kind.Plain i e = refl
pointer_good program f g None (kind.Length count) i e = refl
pointer_good program f g None kind.Atomic i e = refl
pointer_good program f g None kind.Undef i e = refl
pointer_good program f g t k i e = refl

sorted_good : (r : Bool) (x : Form) → is_good_form (sorted_if r x) ≡ is_good_form x
sorted_good true x = refl
sorted_good false x = refl

abbrev IsGoodType : Program → (List ℕ → ℕ) → (List ℕ → ℕ) → Ty → Type 0
IsGoodType program f g t = Knows program f g t → is_good_form (form_of program t) ≡ true

str_good : (program : Program) (f g : List ℕ → ℕ) (count : Option Expr) → IsGoodType program f g (ty.Str count)
str_good program f g None h = ap is_good_form (at-str (form_step program) None)
str_good program f g (Some count) h =
    ap is_good_form (at-str (form_step program) (Some count))
    ∙ tree_good program count
    (All-head (KnowsExpr program g) count [] (subst (All (KnowsExpr program g)) (at-str exprs_step (Some count)) h.exprs)).writable

pub form_good : (program : Program) (f g : List ℕ → ℕ) (t : Ty) → IsGoodType program f g t
form_good program f g =
    let form = form_step program in
    each_type (IsGoodType program f g) (record {
      num = λ n h. ap is_good_form (at-num form n);
      bits = λ u n h. ap is_good_form (at-bits form u n);
      opaque = λ m n h. ap is_good_form (at-opaque form m n);
      str = str_good program f g;
      ptr = λ t k r h.
          ap is_good_form (at-ptr form t k r)
          ∙ sorted_good r (pointer_form program t k)
          ∙ pointer_good program f g t k (subst (All (KnowsId program f)) (at-ptr ids_step t k r) h.ids)
          (subst (All (KnowsExpr program g)) (at-ptr exprs_step t k r) h.exprs);
      node = λ id d h.
          ap is_good_form (at-node form id d)
          ∙ and_from _ _ (All-head (KnowsId program f) id [] (subst (All (KnowsId program f)) (at-node ids_step id d) h.ids)).name
          (desc_good program g d (subst (All (KnowsExpr program g)) (at-node exprs_step id d) h.exprs));
      arr = λ n t ht h. ap is_good_form (at-arr form n t) ∙ ht (arr_known program f g n t h);
      tail = λ e t ht h.
          let parts = tail_known program f g e t h in
          ap is_good_form (at-tail form e t) ∙ and_from _ _ (tree_good program e parts.1.writable) (ht parts.0);
    })
