use Rattle.std.proofs.Common.{◌≡◌, ◌∙◌, ℕ, true, false, Option, Some, None, List, [], ◌∷◌, ◌++◌, length, cond, position, ap, ap₂, sym, subst, refl, rules}
use Rattle.std.specs.Prelude.{◌==◌, is_some}
use Rattle.std.specs.Ordering.{nat_cmp}
use Rattle.std.specs.Str.{bytes_eq}
use Rattle.std.specs.BTreeMap.{get, is_at}
use Rattle.std.specs.Cmp.Lexicographic.{slice_cmp}
use Rattle.gt_names.specs.Places.{hash_number, number_in, first_with, AreIndexed}
use Rattle.gt_names.proofs.IndexLemmas.{indexed_new, indexed_crowded}
use Rattle.gt_names.proofs.names.NameIndex.push.Goals as goal

some_there : (o : Option ℕ) → is_some o ≡ true → (j : ℕ) × (o ≡ Some j)
some_there None h = absurd (cc)
some_there (Some j) h = (j, refl)

none_there : (o : Option ℕ) → is_some o ≡ false → o ≡ None
none_there None h = refl
none_there (Some j) h = absurd (cc)

pub invariant_of-self-then-is_some : goal.invariant_of-self-then-is_some
invariant_of-self-then-is_some c =
    let count : c.in_ok-number.number ≡ length c.self.inside.names.items = search rules in
    let are : AreIndexed c.make_room.new.self.places.items c.make_room.new.self.others c.self.inside.crowded c.self.inside.names.items = record {
      taken = c.make_room.ensures.taken;
      first = λ hash. c.make_room.ensures.first hash ∙ ap (λ names. first_with names hash) (c.deref.ensures.value ∙ c.reserve.ensures.items);
      found = c.self.invariant.found;
    } in
    let taken = some_there c.get.result (sym c.is_some.ensures ∙ c.if-is_some.true) in
    let puts : (q : List ℕ) → get (slice_cmp nat_cmp) c.insert.new.self q
    ≡ cond (is_at (slice_cmp nat_cmp c.args.name.now) q) (Some c.in_ok-number.number) (get (slice_cmp nat_cmp) c.self.inside.crowded q) = λ q.
    c.in_ok-insert.ensures.updates.0 q
    ∙ ap (λ key. cond (is_at (slice_cmp nat_cmp key) q) (Some c.in_ok-number.number) (get (slice_cmp nat_cmp) c.self.inside.crowded q)) c.in_ok-copy.ensures.same in
    subst (AreIndexed c.make_room.new.self.places.items c.make_room.new.self.others c.insert.new.self)
    (sym (c.push_reserved.ensures.items ∙ ap₂ (λ names name. names ++ name ∷ []) c.reserve.ensures.items c.in_ok-text.ensures.same))
    (indexed_crowded c.make_room.new.self.places.items c.make_room.new.self.others c.self.inside.crowded c.insert.new.self c.self.inside.names.items c.args.name.now c.in_ok-number.number taken.0
    are count (ap (position (λ other. bytes_eq other c.args.name.now)) c.self.view_is ∙ c.requires.new)
    (ap (number_in c.make_room.new.self.places.items c.make_room.new.self.others) (sym c.hash_of-hash.ensures.hash) ∙ sym c.get.ensures.number ∙ taken.1) puts)

pub invariant_of-self-2 : goal.invariant_of-self-2
invariant_of-self-2 c =
    let count : c.in_ok-number.number ≡ length c.self.inside.names.items = search rules in
    let are : AreIndexed c.make_room.new.self.places.items c.make_room.new.self.others c.self.inside.crowded c.self.inside.names.items = record {
      taken = c.make_room.ensures.taken;
      first = λ hash. c.make_room.ensures.first hash ∙ ap (λ names. first_with names hash) (c.deref.ensures.value ∙ c.reserve.ensures.items);
      found = c.self.invariant.found;
    } in
    let free : c.get.result ≡ None = none_there c.get.result (sym c.is_some.ensures ∙ c.if-is_some.false) in
    let puts : (other : ℕ) → number_in c.put.new.self.places.items c.put.new.self.others other
    ≡ cond (hash_number c.args.name.now == other) (Some c.in_ok-number.number) (number_in c.make_room.new.self.places.items c.make_room.new.self.others other) = λ other.
    c.in_ok-put.ensures.put other
    ∙ ap (λ hash. cond (hash == other) (Some c.in_ok-number.number) (number_in c.make_room.new.self.places.items c.make_room.new.self.others other)) c.hash_of-hash.ensures.hash in
    subst (AreIndexed c.put.new.self.places.items c.put.new.self.others c.self.inside.crowded)
    (sym (c.push_reserved-2.ensures.items ∙ ap₂ (λ names name. names ++ name ∷ []) c.reserve.ensures.items c.in_ok-text.ensures.same))
    (indexed_new c.make_room.new.self.places.items c.put.new.self.places.items c.make_room.new.self.others c.put.new.self.others c.self.inside.crowded c.self.inside.names.items c.args.name.now c.in_ok-number.number
    are count (ap (position (λ other. bytes_eq other c.args.name.now)) c.self.view_is ∙ c.requires.new)
    (ap (number_in c.make_room.new.self.places.items c.make_room.new.self.others) (sym c.hash_of-hash.ensures.hash) ∙ sym c.get.ensures.number ∙ free)
    puts c.put.ensures.taken)
