-- The tables of a program.
use Rattle.std.specs.Prelude.{◌≡◌, ◌≤◌, false, [], ◌∷◌, None, map, length}
use Rattle.std.specs.List.{filter}
use Rattle.gt_types.specs.declared.program.Program.{Program}
use Rattle.gt_types.specs.declared.program.Cache.{Cache}
use Rattle.gt_layout.specs.declared.planes.Layouts.{Layouts}
use Rattle.gt_space.specs.Range.{statics_start}
use Rattle.gt_walk.specs.declared.tables.CacheWalks.{CacheWalks}
use Rattle.gt_walk.specs.declared.tables.Tables.{Tables}
use Rattle.gt_walk.specs.declared.rows.Count.TheVariants.{Fixed}
use Rattle.gt_walk.specs.declared.rows.WalkRow.TheVariants.{Note, Ptr}
use Rattle.gt_walk.specs.Rows.{rows_of}
use Rattle.gt_walk.specs.Nested.{IsNested}
use Rattle.gt_tree.specs.Blocks.{Strings, Chars}
use Rattle.gt_edges.specs.Numbers.{first_part, walk_of}
use Rattle.gt_edges.specs.Notes.{AreBlockWalks}
use Rattle.gt_edges.specs.Edges.{has_walk, GivesElements, GivesRoots}
use Rattle.gt_edges.specs.Walks.{AreWalksOf}
use Rattle.gt_edges.specs.Deletable.{deletable_words}

-- the walks of the structures that a cache names
abbrev pub cache_walks : Cache → CacheWalks
cache_walks c = record { key = c.key.0; value = c.value.0 }

-- The walks that each program has: those of blocks stand first; a string pointer names characters, of which none is walked; and what is
-- never scanned has a note alone. Each root that is not deletable has a walk. Caches name the walks of their structures.
pub record AreNumbered (program : Program) (tables : Tables) : Type 0 where
  pub all : first_part program ≤ length tables.walks
  pub strings : rows_of tables (walk_of program Strings) ≡ Note 8 None ∷ Ptr 0 (walk_of program Chars) (Fixed 0) false ∷ []
  pub unscanned : rows_of tables (walk_of program Chars) ≡ Note 1 None ∷ []
  pub roots : length tables.roots ≡ length (filter has_walk program.roots)
  pub caches : tables.caches ≡ map cache_walks program.caches

-- The tables of a program: they are nested, walks are numbered, have the notes and the rows of what they serve, and give the edges of
-- elements and of roots, and the pointers of deletable roots are listed.
pub record AreTables (program : Program) (layouts : Layouts) (tables : Tables) : Type 0 where
  pub nested : IsNested tables
  pub numbered : AreNumbered program tables
  pub blocks : AreBlockWalks program layouts.structures tables
  pub walks : AreWalksOf program layouts tables
  pub elements : GivesElements program layouts tables
  pub roots : GivesRoots program layouts tables
  pub deletable : tables.deletable ≡ deletable_words layouts.structures (statics_start layouts.statics.size) program.roots layouts.statics.fields
