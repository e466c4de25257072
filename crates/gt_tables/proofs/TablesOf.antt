-- What the tables that are made serve.
use Rattle.std.proofs.Common.{◌≡◌, ◌∙◌, ℕ, ◌+◌, ◌<◌, Bool, true, false, List, [], ◌∷◌, ◌++◌, length, refl, ap, sym, subst, Option, Some, None, get_or, ◌⊎◌, inl, inr, arith}
use Rattle.std.specs.Prelude.{IsSome, All, slice_get}
use Rattle.std.specs.BTreeMap.{get}
use Rattle.std.proofs.lemmas.List.Elements.{All-nil}
use Rattle.std.specs.Bool.{Decides}
use Rattle.std.proofs.lemmas.List.{append-nil, get_or_append_left}
use Rattle.std.proofs.lemmas.Option.{slice_get_within, slice_get-get_or}
use Rattle.gt_types.specs.declared.expressions.Expr.{Expr}
use Rattle.gt_types.specs.declared.types.TypeId.{TypeId}
use Rattle.gt_types.specs.declared.program.Structure.{Structure}
use Rattle.gt_types.specs.declared.program.Program.{Program}
use Rattle.gt_types.specs.Contains.{HasStructure}
use Rattle.gt_types.specs.Paths.{IsInner, MayStand}
use Rattle.gt_types.specs.Settled.{Settled}
use Rattle.gt_layout.specs.Planes.{IsLaidOut}
use Rattle.gt_layout.specs.Excess.{IsWithin}
use Rattle.gt_space.specs.Range.{statics_start}
use Rattle.gt_layout.specs.declared.planes.Plane.{Plane}
use Rattle.gt_walk.specs.declared.rows.WalkRow.{WalkRow}
use Rattle.gt_walk.specs.declared.rows.WalkRow.TheVariants as row
use Rattle.gt_walk.specs.declared.tables.Tables.{Tables}
use Rattle.gt_walk.specs.Rows.{rows_of}
use Rattle.gt_edges.specs.Numbers.{first_part}
use Rattle.gt_edges.specs.Walks.{outside, IsRowOf, AreWalksOf}
use Rattle.gt_tables.specs.declared.sources.Part.{Part}
use Rattle.gt_tables.specs.declared.sources.Source.{Source}
use Rattle.gt_tables.specs.declared.parts.Case.{Case}
use Rattle.gt_tables.specs.declared.parts.Parts.{Parts}
use Rattle.gt_tables.specs.Sharing.{ReadsOutermost}
use Rattle.gt_edges.specs.Tables.{AreNumbered}
use Rattle.gt_edges.specs.Notes.{chain_offset, HasNote, AreBlockWalks}
use Rattle.gt_tables.specs.Building.{part_cmp, case_cmp, HaveWalks, IsSource, Tell, AreRows, Shallow, AreParts, Grows, AreServed, flag_at, ServesWalk, ServesWalks, IsPointerWalk, ServesPointers, ServesRoots}
use Rattle.gt_tables.proofs.ServingBlocks.{one-structure, one-plane, walk-on}

-- ---- whether a structure may stand alone

module _ (program : Program) (node : TypeId) (s : Structure) (has : HasStructure program node s) where
  stand-cases : (flag : Bool) → Decides flag (IsInner program node) → (is_union : Bool) → s.is_union ≡ is_union → (desc : Option Expr) → s.desc ≡ desc → MayStand program node ⊎ (¬ MayStand program node)
  stand-cases true decides is_union union-is desc desc-is = inr (λ may. may.2 (decides.0 refl))
  stand-cases false decides false union-is desc desc-is = inl (s, has, (λ inner. absurd (cc (decides.1 inner))), (λ union. absurd (cc (union, union-is))))
  stand-cases false decides true union-is (Some e) desc-is = inl (s, has, (λ inner. absurd (cc (decides.1 inner))), (λ union. subst (λ o. IsSome o) (sym desc-is) refl))
  stand-cases false decides true union-is None desc-is = inr (λ may.
      let some = subst (λ x. x.is_union ≡ true → IsSome x.desc) (one-structure program node may.0 s may.1 has) may.3 union-is in
      let none = subst (λ o. IsSome o) desc-is some in
      cc)

-- ---- walks of tables

module _ (source : Source) (source-is : IsSource source) (tables : Tables) (walks parts : List (List WalkRow)) (is : tables.walks ≡ walks ++ parts) (long : length walks ≡ first_part source.program.now)
    (serves : ServesWalks source parts walks) (pointers : ServesPointers source.program.now (length source.program.now.structures) walks) where
  have : HaveWalks (first_part source.program.now) parts tables
  have = record { front = walks; rest = []; is = is ∙ ap (λ l. walks ++ l) (sym (append-nil parts)); long = long }

  rows-at : (k : ℕ) → k < length walks → slice_get walks k ≡ Some (rows_of tables k)
  rows-at k lt = slice_get-get_or walks k [] lt ∙ ap Some (sym (ap (λ ws. get_or ws k []) is ∙ get_or_append_left walks parts [] k lt))

  walk-serves : (node : TypeId) (s : Structure) → HasStructure source.program.now node s → ServesWalk source parts node (rows_of tables node.0)
  walk-serves node s has =
      let within = slice_get_within source.program.now.structures node.0 s has in
      serves node (rows_of tables node.0) within (rows-at node.0 (omega (arith, within, long)))

  pointer-is : (node : TypeId) (s : Structure) → HasStructure source.program.now node s → IsPointerWalk source.program.now node (rows_of tables (length source.program.now.structures + node.0))
  pointer-is node s has =
      let within = slice_get_within source.program.now.structures node.0 s has in
      pointers node (rows_of tables (length source.program.now.structures + node.0)) within (rows-at (length source.program.now.structures + node.0) (omega (arith, within, long)))

  stands-or-not : (node : TypeId) (s : Structure) → HasStructure source.program.now node s → MayStand source.program.now node ⊎ (¬ MayStand source.program.now node)
  stands-or-not node s has = stand-cases source.program.now node s has (flag_at source.inner.now node.0) (source-is.inner node s has) s.is_union refl s.desc refl

  has-note : (node : TypeId) (s : Structure) (plane : Plane) → HasStructure source.program.now node s → slice_get source.layouts.now.structures node.0 ≡ Some plane
      → HasNote tables node.0 plane.size (chain_offset source.program.now source.layouts.now.structures node s)
  has-note node s plane has got = elim (stands-or-not node s has) [
    | inl may ↦
        let walk = (walk-serves node s has).stands s has may in
        let same = one-plane source.layouts.now.structures node.0 walk.plane plane walk.plane_is got in
        (walk.rest, walk.is ∙ ap (λ (p : Plane). row.Note p.size (chain_offset source.program.now source.layouts.now.structures node s) ∷ walk.rest) same)
    | inr never ↦ ([], (walk-serves node s has).inner s plane has got never)
  ]

  pub block-walks-of : AreBlockWalks source.program.now source.layouts.now.structures tables
  block-walks-of = record {
    structures = has-note;
    inner = λ node s plane has got never. (walk-serves node s has).inner s plane has got never;
    pointers = λ node may. (pointer-is node may.0 may.1).stands may;
    no_pointers = λ node s has never. (pointer-is node s has).inner never;
  }

  pub walks-of : AreNumbered source.program.now tables → ServesRoots source parts (length source.program.now.roots) tables.roots → AreWalksOf source.program.now source.layouts.now tables
  walks-of numbered roots = record {
    structures = λ node s may has.
        let walk = (walk-serves node s has).stands s has may in
        record {
          size = walk.plane.size;
          chain = chain_offset source.program.now source.layouts.now.structures node s;
          rows = walk.rest;
          is = walk.is;
          are = walk.are tables have;
        };
    pointers = λ node may. (pointer-is node may.0 may.1).stands may;
    strings = numbered.strings;
    unscanned = numbered.unscanned;
    roots = λ place walk r spot got plain found where_is.
        let w = roots.serves place walk r spot (slice_get_within source.program.now.roots place r got) got plain found where_is tables have in
        record {
          late = w.3;
          line = w.2.line;
          is = w.1 ∙ w.2.is;
          of_root = subst (λ n. IsRowOf source.program.now source.layouts.now tables outside r.ty (n + spot.offset) w.2.line) source-is.start (w.2.of_root tables have);
        };
  }

-- ---- what is built

pub is-source : (source : Source) → Settled source.program.now → IsLaidOut source.program.now source.layouts.now → IsWithin source.program.now source.layouts.now → source.structures ≡ length source.program.now.structures
    → (inner readers : List Bool) → source.inner.now ≡ inner → Tell source.program.now inner (IsInner source.program.now) → source.readers.now ≡ readers
    → Tell source.program.now readers (ReadsOutermost source.program.now) → source.start ≡ statics_start source.layouts.now.statics.size → IsSource source
is-source source settled laid within count inner readers inner-is tell readers-is reads start = record {
  settled = settled;
  laid = laid;
  within = within;
  count = count;
  inner = subst (λ flags. Tell source.program.now flags (IsInner source.program.now)) (sym inner-is) tell;
  readers = subst (λ flags. Tell source.program.now flags (ReadsOutermost source.program.now)) (sym readers-is) reads;
  start = start;
}

-- where there are no parts yet
pub no-parts : (program : Program) (parts : Parts) → parts.walks.items ≡ [] → ((part : Part) → get part_cmp parts.known part ≡ None) → ((case : Case) → get case_cmp parts.cases case ≡ None)
    → AreParts program parts
no-parts program parts walks known cases =
    let P = AreRows (first_part program) parts.walks.items Shallow in
    record {
      known = λ part walk there. absurd (cc (known part, there));
      rows = subst (All P) (sym walks) (All-nil P);
      turns = λ case place turn there le. absurd (cc (cases case, there));
    }

pub none-served : (source : Source) (parts : Parts) → ((part : Part) → get part_cmp parts.known part ≡ None) → AreServed source parts
none-served source parts known = record { known = λ part walk lies node desc there is placed. absurd (cc (known part, there)) }

-- the walks of the program, with the parts that the blocks made, and then the roots
pub made-walks : (source : Source) (tables : Tables) (walks : List (List WalkRow)) (a b : Parts) (roots : List ℕ) → ServesRoots source b.walks.items (length source.program.now.roots) roots → IsSource source
    → Grows source.program.now a b → ServesWalks source a.walks.items walks → ServesPointers source.program.now (length source.program.now.structures) walks → tables.walks ≡ walks ++ b.walks.items
    → length walks ≡ first_part source.program.now → tables.roots ≡ roots → AreNumbered source.program.now tables
    → AreWalksOf source.program.now source.layouts.now tables × AreBlockWalks source.program.now source.layouts.now.structures tables
made-walks source tables walks a b roots serves-roots source-is grows serves pointers is long roots-are numbered =
    let parts = b.walks.items in
    let later : ServesWalks source parts walks = λ node rows within got. walk-on source a b grows node rows (serves node rows within got) in
    let named = subst (ServesRoots source parts (length source.program.now.roots)) (sym roots-are) serves-roots in
    (walks-of source source-is tables walks parts is long later pointers numbered named, block-walks-of source source-is tables walks parts is long later pointers)
