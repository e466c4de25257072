-- The outermost structure around a place is one of the program, and is or contains what lies there.
use Rattle.std.proofs.Common.{◌≡◌, ◌∙◌, ℕ, suc, ap, sym, subst, refl, inl, inr, Option, Some, None}
use Rattle.std.proofs.lemmas.Option.{slice_get_within, get_or_from_slice_get}
use Rattle.gt_types.specs.declared.expressions.Expr.{Expr}
use Rattle.gt_types.specs.declared.types.TypeId.{TypeId}
use Rattle.gt_types.specs.declared.types.Ty.TheVariants as ty
use Rattle.gt_types.specs.declared.program.Structure.{Structure}
use Rattle.gt_types.specs.declared.program.Program.{Program}
use Rattle.gt_types.specs.Contains.{HasStructure, ContainsStructure, Nests, once, deeper, itself}
use Rattle.gt_tree.proofs.Types.{innermost-node}
use Rattle.gt_edges.specs.Walks.{first_of}
use Rattle.gt_tables.specs.declared.sources.Lies.{Lies}
use Rattle.gt_tables.specs.declared.sources.Site.{Site}
use Rattle.gt_tables.specs.Building.{IsSiteOf, IsPlaced, around_of}
use Rattle.gt_tables.specs.Sharing.{IsAtOrAround, Encloses}

-- one more structure, at the inner end
nests-more : (program : Program) {n : ℕ} {outer inner : TypeId} (next : TypeId) → Nests program n outer inner → ContainsStructure program inner next → Nests program (suc n) outer next
nests-more program next (once c) more = deeper c (once more)
nests-more program next (deeper c rest) more = deeper c (nests-more program next rest more)

around-more : (program : Program) (outer inner next : TypeId) → IsAtOrAround program outer inner → ContainsStructure program inner next → IsAtOrAround program outer next
around-more program outer inner next (inl same) more = inr (1, once (subst (λ n. ContainsStructure program n next) (sym same) more))
around-more program outer inner next (inr nests) more = inr (suc nests.0, nests-more program next nests.1 more)

module _ (program : Program) (lies : Lies) (node : TypeId) (desc : Option Expr) (placed : IsPlaced program lies (ty.Node node desc)) where
  -- the structure at a site contains the part
  contains-part : (site : Site) → IsSiteOf program lies.around (Some site) (ty.Node node desc) → ContainsStructure program (record { 0 = site.container }) node
  contains-part site (s, f, here, has, got, same) =
      (s, f, has, (site.field, slice_get_within s.fields site.field f got, get_or_from_slice_get s.fields site.field f f got), ap itself same ∙ ap itself (innermost-node node desc))

  -- around a site there is an outermost structure, which is or contains the one at the site
  pub encloses-site : (site : Site) → lies.site ≡ Some site → Encloses program (first_of (around_of lies.around).outermost node) (record { 0 = site.container })
  encloses-site site e =
      let at : IsSiteOf program lies.around (Some site) (ty.Node node desc) = subst (λ o. IsSiteOf program lies.around o (ty.Node node desc)) e placed.site in
      let found = placed.around.inside (record { 0 = site.container }) at.2 in
      subst (λ o. Encloses program o (record { 0 = site.container })) (sym (ap (λ o. first_of o node) found.1)) found.2

  encloses-by : (o : Option Site) → lies.site ≡ o → ((s : Structure) × HasStructure program node s) → Encloses program (first_of (around_of lies.around).outermost node) node
  encloses-by None e there =
      let here : lies.around.here ≡ None = subst (λ o. IsSiteOf program lies.around o (ty.Node node desc)) e placed.site in
      let none = (placed.around.outside here).1 in
      subst (λ o. Encloses program o node) (sym (ap (λ o. first_of o node) none)) (there, inl refl)
  encloses-by (Some site) e there =
      let at : IsSiteOf program lies.around (Some site) (ty.Node node desc) = subst (λ o. IsSiteOf program lies.around o (ty.Node node desc)) e placed.site in
      let outer = encloses-site site e in
      (outer.0, around-more program (first_of (around_of lies.around).outermost node) (record { 0 = site.container }) node outer.1 (contains-part site at))

  -- and the outermost structure is or contains the part
  pub encloses-part : ((s : Structure) × HasStructure program node s) → Encloses program (first_of (around_of lies.around).outermost node) node
  encloses-part there = encloses-by lies.site refl there
