use Rattle.std.proofs.Common.{Some, ap, sym, ◌∙◌}
use Rattle.std.specs.Prelude.{nat_eq}
use Rattle.std.specs.Option.{option_eq}
use Rattle.std.proofs.lemmas.Bool.{false≢true}
use Rattle.gt_pages.specs.declared.pages.TheConstants.{CACHED}
use Rattle.gt_pages.proofs.store.Store.cached_for.Goals as goal

pub returns-clause-own : goal.returns-clause-own
returns-clause-own c = λ held.
    absurd (false≢true (sym c.if-eq.false ∙ c.eq.ensures ∙ ap (λ o. option_eq nat_eq o (Some CACHED)) (c.list_of.ensures.one CACHED held)))
