-- What a program contains by value, the draft that it is made of does.
use Rattle.std.proofs.Common.{◌≡◌, ◌≢◌, ◌∙◌, ℕ, zero, suc, ◌≤◌, Bool, List, [], Option, Some, sym, ap, subst, arith}
use Rattle.std.specs.Prelude.{AllPairs, Contains, slice_get}
use Rattle.std.specs.Option.{option_map_or}
use Rattle.gt_types.specs.declared.limits.TheConstants.{MAX_DEPTH}
use Rattle.gt_types.specs.declared.types.TypeId.{TypeId}
use Rattle.gt_types.specs.declared.program.Field.{Field}
use Rattle.gt_types.specs.declared.program.Structure.{Structure}
use Rattle.gt_types.specs.declared.program.Program.{Program}
use Rattle.gt_types.specs.Contains.{HasStructure, ContainsStructure, ContainsAtDepth, Nests, once, deeper, held_by}
use Rattle.gt_layout.specs.declared.planes.Plane.{Plane}
use Rattle.gt_drafts.specs.declared.draft.Draft.{Draft}
use Rattle.gt_drafts.specs.declared.draft.DraftField.{DraftField}
use Rattle.gt_drafts.specs.declared.draft.DraftStructure.{DraftStructure}
use Rattle.gt_drafts.specs.Shapes.{Holds, directly, through, IsNested, held_at, held_in, held_type}
use Rattle.gt_markers.specs.Expressions.{constants}
use Rattle.gt_markers.specs.Sound.{IsSound, IsSoundField, IsSoundStructure}
use Rattle.gt_declare.specs.Programs.{field_of, field_type, program_by}
use Rattle.gt_declare.proofs.FieldTypes.{field_part}
use Rattle.gt_settled.proofs.Beginnings.{Shallow}
use Rattle.gt_settled.proofs.Lists.{at_place, in_filtered, in_list, pairs_map, place_of}
use Rattle.gt_settled.proofs.Made.{field_drafted, structure_drafted}

pub held_made : (draft : Draft) (planes : List Plane) (in_union : Bool) (df : DraftField) (inner : TypeId) → IsSoundField draft in_union df → held_by (field_type draft planes df) ≡ Some inner
    → held_type df.ty ≡ Some inner.0
held_made draft planes in_union df inner sound held =
    (field_part (λ n. Unit {0}) (λ n good. tt) planes df.ty (λ id is. tt) (constants draft) draft df.options sound.type.bits).held inner held

module _ (draft : Draft) (planes : List Plane) (program : Program) (is : program ≡ program_by draft planes) (sound : IsSound draft) where
  pub structure_sound : (place : ℕ) (ds : DraftStructure) → slice_get draft.structures place ≡ Some ds → IsSoundStructure draft ds
  structure_sound place ds e = at_place (IsSoundStructure draft) draft.structures place ds sound.structures e

  pub field_sound : (place : ℕ) (ds : DraftStructure) (k : ℕ) (df : DraftField) → slice_get draft.structures place ≡ Some ds → slice_get ds.fields k ≡ Some df → IsSoundField draft ds.is_union df
  field_sound place ds k df e at = at_place (IsSoundField draft ds.is_union) ds.fields k df (structure_sound place ds e).fields at

  pub contains_drafted : (outer inner : TypeId) → ContainsStructure program outer inner → Contains (held_at draft.structures outer.0) inner.0
  contains_drafted outer inner (s, f, there, inside, held) =
      let made = structure_drafted draft planes program is outer.0 s there in
      let at = place_of s.fields f inside in
      let field = field_drafted draft planes outer.0 made.0 s made.1 at.0 f at.1 in
      let holds = held_made draft planes made.0.is_union field.0 inner (field_sound outer.0 made.0 at.0 field.0 made.1.drafted field.1) (sym (ap (λ (g : Field). held_by g.ty) field.2) ∙ held) in
      let within = in_filtered (λ (g : DraftField). held_type g.ty) made.0.fields field.0 inner.0 (in_list made.0.fields at.0 field.0 field.1) holds in
      subst (λ (o : Option DraftStructure). Contains (option_map_or held_in o []) inner.0) (sym made.1.drafted) within

  nests_drafted : (n : ℕ) (outer inner : TypeId) → Nests program n outer inner → IsNested draft.structures n outer.0
  nests_drafted n outer inner (once {inner = next} contains) = (next.0, contains_drafted outer next contains, tt)
  nests_drafted n outer inner (deeper {n = m} {next = next} {inner = end} contains nests) = (next.0, contains_drafted outer next contains, nests_drafted m next end nests)

  holds_drafted : (n : ℕ) (outer inner : TypeId) → Nests program n outer inner → Holds draft.structures outer.0 inner.0
  holds_drafted n outer inner (once contains) = directly (contains_drafted outer inner contains)
  holds_drafted n outer inner (deeper {n = m} {next = next} contains nests) = through (contains_drafted outer next contains) (holds_drafted m next inner nests)

  pub no_cycle : (id : TypeId) → ¬ ContainsAtDepth program id id
  no_cycle id (n, nests) = sound.no_cycle id.0 (holds_drafted n id id nests)

  pub depth : (n : ℕ) (outer inner : TypeId) → Nests program n outer inner → n ≤ MAX_DEPTH
  depth n outer inner nests = sound.depth n outer.0 (nests_drafted n outer inner nests)

  shallow_by : (n : ℕ) (id : TypeId) → ¬ IsNested draft.structures n id.0 → Shallow program n id
  unfolding Shallow
  shallow_by zero id never = never tt
  shallow_by (suc n) id never = λ inner contains. shallow_by n inner (λ nested. never (inner.0, contains_drafted id inner contains, nested))

  pub shallow : (id : TypeId) → Shallow program (suc MAX_DEPTH) id
  shallow id = shallow_by (suc MAX_DEPTH) id (λ nested. let deep = sound.depth (suc MAX_DEPTH) id.0 nested in omega (arith, deep))

  pub distinct : (id : TypeId) (s : Structure) → HasStructure program id s → AllPairs (λ f g. f.name ≢ g.name) s.fields
  distinct id s there =
      let made = structure_drafted draft planes program is id.0 s there in
      subst (λ (t : Structure). AllPairs (λ (f g : Field). f.name ≢ g.name) t.fields) (sym made.1.same)
      (pairs_map (λ (f g : Field). f.name ≢ g.name) (field_of draft planes made.0.is_union) made.0.fields (structure_sound id.0 made.0 made.1.drafted).distinct)
