-- What a good graph says of its plain data, and they of it.
use Rattle.std.proofs.Common.{◌≡◌, ◌≢◌, ◌<◌, ℕ, Bool, false, List, IsTrue, map, length, refl, ap, sym, subst, ◌∙◌}
use Rattle.std.specs.Prelude.{ℤ, pos, negsuc, All, AllPairs}
use Rattle.std.specs.Bool.{Decides}
use Rattle.std.proofs.lemmas.Bool.{false≢true, ltb-true}
use Rattle.std.proofs.lemmas.List.Elements.{All-map, All-weaker}
use Rattle.gt_types.specs.declared.types.Scalar.{Scalar}
use Rattle.gt_types.specs.declared.types.Scalar.TheVariants as scalar
use Rattle.gt_types.specs.declared.types.Width.TheVariants.{W1}
use Rattle.gt_types.specs.declared.types.Ty.{Ty}
use Rattle.gt_types.specs.declared.types.Ty.TheVariants as ty
use Rattle.gt_types.specs.declared.types.Ty.TheVariants.{outs-Num}
use Rattle.gt_types.specs.declared.program.Program.{Program}
use Rattle.gt_types.specs.Shapes.{bits_of}
use Rattle.gt_tree.specs.Numbers.{is_signed, has_room}
use Rattle.gt_tree.specs.Trees.{Tree, Num, Row, Trees, End, And, count}
use Rattle.gt_tree.specs.Blocks.{Chars, Blocks, element_type}
use Rattle.gt_tree.specs.Scopes.{Scope, outside}
use Rattle.gt_tree.specs.Fits.{Fits, EachFits, BlockFits, EndsAs}
use Rattle.gt_value.specs.Values.{tree_of}
use Rattle.gt_value.specs.Names.{kind_of}
use Rattle.gt_graph.specs.Objects as typed
use Rattle.gt_graph.specs.Good.{IsObject, IsGraph}
use Rattle.heap_table.specs.declared.graphs.Object.{Object}
use Rattle.heap_table.specs.declared.graphs.Graph.{Graph}
use Rattle.heap_table.specs.Graphs.{object_of, objects_of, blocks_in, values_of, graph_of, IsByte, AreBytes, IsText, HasText}
use Rattle.heap_table.specs.Good.{PartsFit, AreGoodPairs, IsGoodInside}
use Rattle.heap_table.proofs.Pairing.{unmapped, pairs_mapped, pairs_unmapped}

-- ---- objects of characters are texts

byte_number : (n : ℤ) → IsTrue (has_room false 8 n) → (m : ℕ) × (m < 256) × (n ≡ pos m)
byte_number (pos m) room = (m, ltb-true m 256 room, refl)
byte_number (negsuc m) room = absurd (cc)

module _ {program : Program} {blocks : Blocks} {capacity : ℕ} {scope : Scope} where
  number_tree : (number : Scalar) {tree : Tree} → Fits program blocks capacity scope (ty.Num number) tree → (n : ℤ) × (tree ≡ Num n) × IsTrue (has_room (is_signed number) (bits_of number) n)
  number_tree number (Fits.number {n} room) = (n, refl, room)
  number_tree number (Fits.null p) = absurd (false≢true p)
  number_tree number (Fits.to m) = absurd m
  number_tree number (Fits.array e many each) = let o = outs-Num number in absurd (cc)
  number_tree number (Fits.tail e value le many each) = let o = outs-Num number in absurd (cc)

  byte_tree : {tree : Tree} → Fits program blocks capacity scope (ty.Num (scalar.Int W1 false)) tree → IsByte tree
  byte_tree fit =
      let n = number_tree (scalar.Int W1 false) fit in
      let m = byte_number n.0 n.2 in
      (m.0, m.1, n.1 ∙ ap Num m.2)

  bytes_fit : {trees : Trees} → EachFits program blocks capacity scope (ty.Num (scalar.Int W1 false)) trees → AreBytes trees
  bytes_fit EachFits.no_more = tt
  bytes_fit (EachFits.one_more fit each) = (byte_tree fit, bytes_fit each)

has_text : (program : Program) (g : typed.Graph) (o : Object) → IsObject program g (object_of o) → HasText o
has_text program g o is = record {
  text = λ kind.
      let fits = is.fits in
      record {
        bytes = fits.trees;
        row = fits.row;
        as_many = fits.as_many;
        each = bytes_fit (subst (λ k. EachFits program (typed.blocks_of g.objects) o.capacity (outside g.statics) (element_type program k) fits.trees) kind fits.each);
        ends = subst (λ k. EndsAs k fits.trees) kind fits.ends;
      };
}

pub texts : (program : Program) (g : Graph) → IsGraph program (graph_of g) → All HasText g.objects.items
texts program g is =
    All-weaker (λ (o : Object). IsObject program (graph_of g) (object_of o)) HasText (has_text program (graph_of g)) g.objects.items
    (unmapped (IsObject program (graph_of g)) object_of g.objects.items is.objects)

-- ---- the parts of a graph

pub inside : (program : Program) (g : Graph) → IsGraph program (graph_of g) → IsGoodInside program g
inside program g is = record {
  distinct = pairs_unmapped (λ (o p : typed.Object). o.id ≢ p.id) object_of g.objects.items is.distinct;
  objects = unmapped (IsObject program (graph_of g)) object_of g.objects.items is.objects;
  statics = is.statics;
  pairs = record { pairs = is.pairs; few_pairs = is.few_pairs };
}

pub whole : (program : Program) (g : Graph) → IsGoodInside program g → IsGraph program (graph_of g)
whole program g is = record {
  distinct = pairs_mapped (λ (o p : typed.Object). o.id ≢ p.id) object_of g.objects.items is.distinct;
  objects = All-map (IsObject program (graph_of g)) object_of g.objects.items is.objects;
  statics = is.statics;
  pairs = is.pairs.pairs;
  few_pairs = is.pairs.few_pairs;
}

pub decided : (program : Program) (g : Graph) (r : Bool) → Decides r (IsGoodInside program g) → Decides r (IsGraph program (graph_of g))
decided program g r d = ((λ h. whole program g (d.0 h)), (λ is. d.1 (inside program g is)))

pub no_graph : (program : Program) (g : Graph) → ¬ All HasText g.objects.items → Decides false (IsGraph program (graph_of g))
no_graph program g off = ((λ h. absurd (cc)), (λ is. absurd (off (texts program g is))))

-- ---- the value of an object

module _ (program : Program) (blocks : Blocks) (statics : Trees) (o : Object) where
  abbrev pub Fit : Type 0
  Fit = BlockFits program blocks statics (kind_of o.kind) o.count o.capacity (tree_of o.value)

  pub no_row : ((parts : Trees) → tree_of o.value ≢ Row parts) → Decides false Fit
  no_row off = ((λ h. absurd (cc)), (λ fits. absurd (off fits.trees fits.row)))

  same_parts : (parts : Trees) → tree_of o.value ≡ Row parts → (fits : Fit) → fits.trees ≡ parts
  same_parts parts row fits = let two : Row fits.trees ≡ Row parts = sym fits.row ∙ row in cc

  pub uneven : (parts : Trees) → tree_of o.value ≡ Row parts → count parts ≢ o.count → Decides false Fit
  uneven parts row off = ((λ h. absurd (cc)), (λ fits. absurd (off (sym (ap count (same_parts parts row fits)) ∙ fits.as_many))))

  pub by_parts : (parts : Trees) (r : Bool) → tree_of o.value ≡ Row parts → count parts ≡ o.count → Decides r (PartsFit program blocks statics o parts) → Decides r Fit
  by_parts parts r row many d = (
    (λ h. let fit = d.0 h in record { trees = parts; row = row; as_many = many; each = fit.each; ends = fit.ends }),
    (λ fits. let same = same_parts parts row fits in d.1 (record {
      each = subst (λ ts. EachFits program blocks o.capacity (outside statics) (element_type program (kind_of o.kind)) ts) same fits.each;
      ends = subst (λ ts. EndsAs (kind_of o.kind) ts) same fits.ends;
    })),
  )
