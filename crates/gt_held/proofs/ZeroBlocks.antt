-- Blocks of which each element is zero.
use Rattle.std.proofs.Common.{◌≡◌, ℕ, zero, suc, ◌<◌, Bool, pos, refl, sym, ap, subst, arith}
use Rattle.std.specs.Prelude.{nat_lt, Result, Ok, Err, IfOk}
use Rattle.std.specs.declared.alloc.AllocError.{AllocError}
use Rattle.std.specs.Bool.{Decides}
use Rattle.gt_types.specs.declared.types.TypeId.{TypeId}
use Rattle.gt_types.specs.declared.types.Ty.{Ty}
use Rattle.gt_types.specs.declared.program.Program.{Program}
use Rattle.gt_tree.specs.Trees.{Tree, Num, Null, Row, Trees, End, And, IsZero, AreZero, count}
use Rattle.gt_tree.specs.Blocks.{Kind, Nodes, Pointers, Strings, Chars, Raw, Blocks, element_type}
use Rattle.gt_tree.specs.Scopes.{outside}
use Rattle.gt_tree.specs.Fits.{Fits, EachFits, EndsInZero, EndsAs, IsZeroOf}
use Rattle.gt_value.specs.declared.names.BlockKind.{BlockKind}
use Rattle.gt_value.specs.declared.names.BlockKind.TheVariants as told
use Rattle.gt_value.specs.Names.{kind_of}
use Rattle.gt_graph.specs.Objects.{Graph, blocks_of}
use Rattle.gt_held.specs.Zeros.{HasZero, HasZeroElement}

-- a value so many times
abbrev pub same_all : Tree → ℕ → Trees
same_all t zero = End
same_all t (suc n) = And t (same_all t n)

count-same : (t : Tree) (n : ℕ) → count (same_all t n) ≡ n
count-same t zero = refl
count-same t (suc n) = ap (λ k. suc k) (count-same t n)

zeros-same : (t : Tree) (n : ℕ) → IsZero t → AreZero (same_all t n)
zeros-same t zero z = tt
zeros-same t (suc n) z = (z, zeros-same t n z)

ends-same : (n : ℕ) → EndsInZero (same_all (Num (pos 0)) (suc n))
ends-same zero = refl
ends-same (suc n) = ends-same n

module _ (program : Program) (g : Graph) (capacity : ℕ) where
  each-same : {type : Ty} (t : Tree) (n : ℕ) → Fits program (blocks_of g.objects) capacity (outside g.statics) type t
      → EachFits program (blocks_of g.objects) capacity (outside g.statics) type (same_all t n)
  each-same t zero fits = EachFits.no_more
  each-same t (suc n) fits = EachFits.one_more fits (each-same t n fits)

  -- elements of which one can be zero
  pub zero-block : (kind : Kind) (n : ℕ) (t : Tree) → IsZeroOf program (blocks_of g.objects) g.statics capacity (element_type program kind) t → EndsAs kind (same_all t n)
      → HasZero program g kind n capacity
  zero-block kind n t is ends = (
    Row (same_all t n),
    record {
      fits = record { trees = same_all t n; row = refl; as_many = count-same t n; each = each-same t n is.fits; ends = ends };
      zero = zeros-same t n is.zero;
    },
  )

  first-zero : {type : Ty} (trees : Trees) (n : ℕ) → count trees ≡ suc n → EachFits program (blocks_of g.objects) capacity (outside g.statics) type trees → AreZero trees
      → HasZeroElement program (blocks_of g.objects) g.statics capacity type
  first-zero End n many each zeros = absurd (cc)
  first-zero (And t trees) n many (EachFits.one_more fits rest) zeros = (t, record { fits = fits; zero = zeros.0 })

  -- the first of zero elements is zero
  pub zero-element : (kind : Kind) (n : ℕ) → 0 < n → HasZero program g kind n capacity → HasZeroElement program (blocks_of g.objects) g.statics capacity (element_type program kind)
  zero-element kind zero some has = absurd (omega (arith, some))
  zero-element kind (suc n) some has =
      let fits = has.1.fits in
      first-zero fits.trees n fits.as_many fits.each (subst IsZero fits.row has.1.zero)

  -- structures are as one of them
  pub nodes-decide : (b : Bool) (node : TypeId) (n : ℕ) → 0 < n → Decides b (HasZeroElement program (blocks_of g.objects) g.statics capacity (element_type program (Nodes node)))
      → Decides b (HasZero program g (Nodes node) n capacity)
  nodes-decide b node n some decides = (
    λ holds. let one = decides.0 holds in zero-block (Nodes node) n one.0 one.1 tt,
    λ has. decides.1 (zero-element (Nodes node) n some has),
  )

  pub no-nodes : (node : TypeId) → HasZero program g (Nodes node) 0 capacity
  no-nodes node = (Row End, record { fits = record { trees = End; row = refl; as_many = refl; each = EachFits.no_more; ends = tt }; zero = tt })

  pub zero-pointers : (node : TypeId) (n : ℕ) → HasZero program g (Pointers node) n capacity
  zero-pointers node n = zero-block (Pointers node) n Null (record { fits = Fits.null refl; zero = tt }) tt

  pub zero-strings : (n : ℕ) → HasZero program g Strings n capacity
  zero-strings n = zero-block Strings n Null (record { fits = Fits.null refl; zero = tt }) tt

  pub zero-raw : (n : ℕ) → HasZero program g Raw n capacity
  zero-raw n = zero-block Raw n (Num (pos 0)) (record { fits = Fits.number refl; zero = refl }) tt

  pub chars-decide : (n : ℕ) → Decides (nat_lt 0 n) (HasZero program g Chars n capacity)
  chars-decide zero = (λ never. cc, λ has. absurd (none-ends has.1.fits.trees has.1.fits.as_many has.1.fits.ends))
    where
      none-ends : (trees : Trees) → count trees ≡ 0 → ¬ EndsInZero trees
      none-ends End many ends = ends
      none-ends (And t trees) many ends = absurd (cc)
  chars-decide (suc n) = (
    λ _. zero-block Chars (suc n) (Num (pos 0)) (record { fits = Fits.number refl; zero = refl }) (ends-same n),
    λ _. (grind arith),
  )

-- ---- answers

module _ (program : Program) (kind : BlockKind) (n capacity : ℕ) where
  -- what one structure answers is the answer for so many
  pub nodes-answer : (node : TypeId) → kind ≡ told.Nodes node → 0 < n → (result : Result Bool AllocError)
      → IfOk result (λ has. (blocks : Blocks) (statics : Trees) → Decides has (HasZeroElement program blocks statics capacity (element_type program (kind_of kind))))
      → IfOk result (λ has. (g : Graph) → Decides has (HasZero program g (kind_of kind) n capacity))
  nodes-answer node is some (Ok has) decides = λ g.
      subst (λ (k : BlockKind). Decides has (HasZero program g (kind_of k) n capacity)) (sym is)
      (nodes-decide program g capacity has node n some
      (subst (λ (k : BlockKind). Decides has (HasZeroElement program (blocks_of g.objects) g.statics capacity (element_type program (kind_of k)))) is (decides (blocks_of g.objects) g.statics)))
  nodes-answer node is some (Err e) decides = tt

  pub nodes-nought : (node : TypeId) → kind ≡ told.Nodes node → n ≡ 0 → (g : Graph) → HasZero program g (kind_of kind) n capacity
  nodes-nought node is nought g =
      subst (λ (k : BlockKind). HasZero program g (kind_of k) n capacity) (sym is) (subst (λ m. HasZero program g (Nodes node) m capacity) (sym nought) (no-nodes program g capacity node))

  pub pointers-zero : (node : TypeId) → kind ≡ told.Pointers node → (g : Graph) → HasZero program g (kind_of kind) n capacity
  pointers-zero node is g = subst (λ (k : BlockKind). HasZero program g (kind_of k) n capacity) (sym is) (zero-pointers program g capacity node n)

  pub strings-zero : kind ≡ told.Strings → (g : Graph) → HasZero program g (kind_of kind) n capacity
  strings-zero is g = subst (λ (k : BlockKind). HasZero program g (kind_of k) n capacity) (sym is) (zero-strings program g capacity n)

  pub raw-zero : kind ≡ told.Raw → (g : Graph) → HasZero program g (kind_of kind) n capacity
  raw-zero is g = subst (λ (k : BlockKind). HasZero program g (kind_of k) n capacity) (sym is) (zero-raw program g capacity n)

  pub chars-answer : kind ≡ told.Chars → (g : Graph) → Decides (nat_lt 0 n) (HasZero program g (kind_of kind) n capacity)
  chars-answer is g = subst (λ (k : BlockKind). Decides (nat_lt 0 n) (HasZero program g (kind_of k) n capacity)) (sym is) (chars-decide program g capacity n)
