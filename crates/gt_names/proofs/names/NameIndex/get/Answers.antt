use Rattle.std.proofs.Common.{◌≡◌, ◌≢◌, ◌∙◌, ℕ, Option, Some, None, Bor, ap, ap₂, sym, refl, position}
use Rattle.std.specs.Option.{option_copied, option_or}
use Rattle.std.specs.Str.{bytes_eq}
use Rattle.gt_names.specs.Places.{hash_number, first_with, place_at}
use Rattle.gt_names.proofs.names.NameIndex.get.Goals as goal

none_lent : (o : Option (Bor ℕ)) → ((x : Bor ℕ) → o ≢ Some x) → option_copied o ≡ None
none_lent None h = refl
none_lent (Some x) h = absurd (h x refl)

pub returns-clause-place : goal.returns-clause-place
returns-clause-place c =
    c.place_by_hash.ensures.place
    ∙ ap₂ (λ names o. place_at names c.args.name.now o) c.deref.ensures.value (c.self.invariant.first (hash_number c.args.name.now))
    ∙ ap (λ o. option_or o (place_at c.self.inside.names.items c.args.name.now (first_with c.self.inside.names.items (hash_number c.args.name.now)))) (sym (sym c.get.ensures.value ∙ none_lent c.get.result c.in_default.not-Some))
    ∙ c.self.invariant.found c.args.name.now
    ∙ ap (position (λ other. bytes_eq other c.args.name.now)) c.self.view_is
