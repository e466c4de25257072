-- What an index of a program knows of its names.
use Rattle.std.specs.Prelude.{◌≡◌, ℕ, List}
use Rattle.std.specs.List.{position_from}
use Rattle.std.specs.Str.{bytes_eq}
use Rattle.gt_types.specs.declared.program.Program.{Program}
use Rattle.gt_names.specs.Entries.{value_in}
use Rattle.gt_paths.specs.Indexes.{IsIndexOf}
use Rattle.gt_next.specs.Paths.{root_of}
use Rattle.gt_next.specs.Caching.{cache_of}
use Rattle.gt_kinds.specs.declared.index.ProgramNames.{ProgramNames}

-- each name has the place of the first structure, root, cache or typedef of this name, and which structures may stand alone is known
pub record AreNamesOf (program : Program) (names : ProgramNames) : Type 0 where
  pub tags : (name : List ℕ) → value_in names.tags name ≡ position_from (λ s. bytes_eq s.name name) 0 program.structures
  pub roots : (name : List ℕ) → value_in names.roots name ≡ root_of program name
  pub caches : (name : List ℕ) → value_in names.caches name ≡ cache_of program name
  pub words : (name : List ℕ) → value_in names.words name ≡ position_from (λ w. bytes_eq w.name name) 0 program.words
  pub standing : IsIndexOf program names.standing
