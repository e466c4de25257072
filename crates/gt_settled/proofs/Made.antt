-- The parts of a program that is made of a draft.
use Rattle.std.proofs.Common.{◌≡◌, ◌∙◌, ℕ, zero, suc, ◌+◌, ◌≤◌, List, [], ◌∷◌, length, map, Option, Some, None, refl, sym, ap, subst, arith}
use Rattle.std.specs.Prelude.{filter_map, slice_get}
use Rattle.std.proofs.lemmas.Option.{none-some, same_Some, slice_get_within}
use Rattle.gt_types.specs.declared.program.Chain.{Chain}
use Rattle.gt_types.specs.declared.program.Field.{Field}
use Rattle.gt_types.specs.declared.program.Root.{Root}
use Rattle.gt_types.specs.declared.program.Structure.{Structure}
use Rattle.gt_types.specs.declared.program.Program.{Program}
use Rattle.gt_layout.specs.declared.planes.Plane.{Plane}
use Rattle.gt_drafts.specs.declared.draft.Draft.{Draft}
use Rattle.gt_drafts.specs.declared.draft.DraftField.{DraftField}
use Rattle.gt_drafts.specs.declared.draft.DraftRoot.{DraftRoot}
use Rattle.gt_drafts.specs.declared.draft.DraftStructure.{DraftStructure}
use Rattle.gt_markers.specs.Typing.{node}
use Rattle.gt_declare.specs.Programs.{all_unchained, chain_of, field_of, program_by, root_of, unchained, with_chains}
use Rattle.gt_declare.proofs.Wholes.{chained_length}
use Rattle.gt_settled.proofs.Lists.{map_at}

-- ---- structures

chained : (all : List Structure) (k : ℕ) (ds : List DraftStructure) (u : DraftStructure → Structure) (place : ℕ) (d : DraftStructure) → slice_get ds place ≡ Some d → (n : ℕ) → n ≡ k + place
    → slice_get (with_chains all k ds (map u ds)) place ≡ Some (record (u d) { chains = filter_map (chain_of all (node n)) d.options })
unfolding with_chains
chained all k [] u place d e n is = absurd (none-some d e)
chained all k (x ∷ ds) u zero d e n is =
    let here : k ≡ n = omega (arith, is) in
    ap (λ (c : DraftStructure). let made : Structure = record (u c) { chains = filter_map (chain_of all (node k)) c.options } in Some made) (same_Some x d e)
    ∙ ap (λ (m : ℕ). let made : Structure = record (u d) { chains = filter_map (chain_of all (node m)) d.options } in Some made) here
chained all k (x ∷ ds) u (suc place) d e n is = chained all (1 + k) ds u place d e n (omega (arith, is))

-- a structure as the draft has it, and as the program has it
pub record IsMade (draft : Draft) (planes : List Plane) (place : ℕ) (ds : DraftStructure) (s : Structure) : Type 0 where
  pub drafted : slice_get draft.structures place ≡ Some ds
  pub chains : List Chain
  pub chained : chains ≡ filter_map (chain_of (all_unchained draft planes) (node place)) ds.options
  pub same : s ≡ record (unchained draft planes ds) { chains = chains }

module _ (draft : Draft) (planes : List Plane) (program : Program) (is : program ≡ program_by draft planes) where
  pub structure_at : (place : ℕ) (ds : DraftStructure) → slice_get draft.structures place ≡ Some ds → (s : Structure) × (slice_get program.structures place ≡ Some s) × IsMade draft planes place ds s
  structure_at place ds e =
      let chains = filter_map (chain_of (all_unchained draft planes) (node place)) ds.options in
      let s : Structure = record (unchained draft planes ds) { chains = chains } in (
        s,
        ap (λ (p : Program). slice_get p.structures place) is ∙ chained (all_unchained draft planes) 0 draft.structures (unchained draft planes) place ds e place (omega arith),
        record { drafted = e; chains = chains; chained = refl; same = refl },
      )

  pub structures_length : length program.structures ≡ length draft.structures
  structures_length = ap (λ (p : Program). length p.structures) is ∙ chained_length (all_unchained draft planes) 0 draft.structures (unchained draft planes)

  drafted_by : (place : ℕ) (s : Structure) (o : Option DraftStructure) → slice_get draft.structures place ≡ o → slice_get program.structures place ≡ Some s → (ds : DraftStructure) × IsMade draft planes place ds s
  drafted_by place s None e there =
      let within = slice_get_within program.structures place s there in
      absurd (some_there draft.structures place e (omega (arith, within, structures_length)))
    where
      some_there : (xs : List DraftStructure) (k : ℕ) → slice_get xs k ≡ None → suc k ≤ length xs → ⊥
      some_there [] k e within = omega (arith, within)
      some_there (x ∷ xs) zero e within = cc
      some_there (x ∷ xs) (suc k) e within = some_there xs k e (omega (arith, within))
  drafted_by place s (Some ds) e there =
      let made = structure_at place ds e in
      (ds, subst (λ (t : Structure). IsMade draft planes place ds t) (same_Some made.0 s (sym made.1 ∙ there)) made.2)

  pub structure_drafted : (place : ℕ) (s : Structure) → slice_get program.structures place ≡ Some s → (ds : DraftStructure) × IsMade draft planes place ds s
  structure_drafted place s there = drafted_by place s (slice_get draft.structures place) refl there

  pub root_drafted : (place : ℕ) (r : Root) → slice_get program.roots place ≡ Some r → (dr : DraftRoot) × (slice_get draft.roots place ≡ Some dr) × (r ≡ root_of draft planes dr)
  root_drafted place r there = map_at (root_of draft planes) draft.roots place r (sym (ap (λ (p : Program). slice_get p.roots place) is) ∙ there)

-- the fields of a structure
pub field_drafted : (draft : Draft) (planes : List Plane) (place : ℕ) (ds : DraftStructure) (s : Structure) → IsMade draft planes place ds s → (k : ℕ) (f : Field) → slice_get s.fields k ≡ Some f
    → (df : DraftField) × (slice_get ds.fields k ≡ Some df) × (f ≡ field_of draft planes ds.is_union df)
field_drafted draft planes place ds s made k f there =
    map_at (field_of draft planes ds.is_union) ds.fields k f (sym (ap (λ (t : Structure). slice_get t.fields k) made.same) ∙ there)
