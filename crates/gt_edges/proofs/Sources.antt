-- Values of elements of blocks and of roots stand in the bytes of a space.
use Rattle.std.proofs.Common.{◌≡◌, ℕ, ◌-◌, ◌^◌, ◌<◌, refl, sym, subst, ◌∙◌, arith, Bor, length-drop}
use Rattle.gt_types.specs.declared.types.TypeId.{TypeId}
use Rattle.gt_types.specs.declared.program.Structure.{Structure}
use Rattle.gt_types.specs.declared.program.Program.{Program}
use Rattle.gt_types.specs.Contains.{HasStructure}
use Rattle.gt_types.specs.Settled.{Settled}
use Rattle.gt_layout.specs.declared.planes.Layouts.{Layouts}
use Rattle.gt_layout.specs.Capacity.{SizeAt}
use Rattle.gt_layout.specs.Planes.{IsLaidOut}
use Rattle.gt_space.specs.Range.{Range, IsSpace, IsInside, bytes_at}
use Rattle.gt_tree.specs.Trees.{Tree, Trees}
use Rattle.gt_tree.specs.Blocks.{Kind, Nodes, Pointers, Strings, Chars, Raw, Blocks, element_type}
use Rattle.gt_tree.specs.Scopes.{outside}
use Rattle.gt_tree.specs.FixedLaws.{MayHold, AreAddresses, IsValueOf}
use Rattle.gt_tree.proofs.Sizes.{sizes-one}
use Rattle.gt_value.specs.declared.sources.Source.{Source}
use Rattle.gt_value.specs.Bytes.{itself, Takes}
use Rattle.gt_value.specs.Reading.{outside_all, end_from}
use Rattle.gt_value.specs.Finding.{StandsIn}
use Rattle.gt_value.proofs.StandingStarts.{block-starts_in}

-- a reference to a value
abbrev to : {X : Type 0} → X → Bor X
to x = record { ref_ptr = (0, 0); now = x }

-- the bytes of a space from a place on
abbrev pub source_of : Program → Layouts → Range → ℕ → Source
source_of program layouts range from = record { program = to program; layouts = to layouts; space = to range; from = from }

-- a space has fewer than 2^32 bits
pub few-bits : (range : Range) (from : ℕ) → IsSpace range → end_from range from < 2 ^ 32
few-bits range from space = let l = length-drop from range.bytes in omega (arith, l, space.starts, space.ends)

-- ---- elements of blocks

module _ (program : Program) (layouts : Layouts) (settled : Settled program) (laid : IsLaidOut program layouts) (capacity : ℕ) where
  node-size : (node : TypeId) (s : Structure) → HasStructure program node s → (size other : ℕ) → SizeAt program layouts.structures capacity node size → SizeAt program layouts.structures capacity node other → size ≡ other
  node-size node s has size other a b =
      let one = sizes-one program layouts settled laid capacity node s has in
      one.2 size a ∙ sym (one.2 other b)

  -- an element takes one number of bytes
  size-one : (kind : Kind) → MayHold program kind → (size other : ℕ) → Takes program layouts capacity (element_type program kind) size → Takes program layouts capacity (element_type program kind) other → size ≡ other
  size-one (Nodes node) may size other (a, at, e) (b, bt, f) = let same = node-size node may.0 may.1 a b at bt in omega (arith, e, f, same)
  size-one (Pointers node) may size other a b = omega (arith, a, b)
  size-one Strings may size other a b = omega (arith, a, b)
  size-one Chars may size other a b = omega (arith, a, b)
  size-one Raw may size other a b = omega (arith, a, b)

  -- an element for which the bytes stand stands at their begin
  pub element-stands : (blocks : Blocks) (statics : Trees) (kind : Kind) (size : ℕ) (range : Range) (address : ℕ) (value : Tree) → IsSpace range → AreAddresses blocks itself → MayHold program kind → capacity < 2 ^ 32
      → Takes program layouts capacity (element_type program kind) size → IsInside range address size → IsValueOf program layouts blocks statics kind capacity itself 0 (bytes_at range address size) value
      → StandsIn (source_of program layouts range (address - range.start)) outside_all (outside statics) (element_type program kind) 0 value
  element-stands blocks statics kind size range address value space addresses may few takes inside is =
      block-starts_in (source_of program layouts range (address - range.start)) program layouts range refl refl refl settled laid (few-bits range (address - range.start) space) capacity (element_type program kind) address value statics few refl
      (λ other its. subst (IsInside range address) (size-one kind may size other takes its) inside)
      (record { kind = kind; held = may; of_kind = refl; size = size; takes = takes; blocks = blocks; statics = statics; addresses = addresses; is = is })
