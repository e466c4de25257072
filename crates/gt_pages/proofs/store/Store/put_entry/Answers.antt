use Rattle.std.proofs.Common.{length, Some, ap, subst, refl, inl, inr, ◌∙◌, rules, arith}
use Rattle.std.proofs.lemmas.List.{with_items_is}
use Rattle.gt_bits.specs.Sets.{has}
use Rattle.gt_pages.specs.Tables.{Leads}
use Rattle.gt_pages.proofs.PlaceLemmas.{some_pages}
use Rattle.gt_pages.proofs.store.Store.put_entry.Goals as goal

pub insert-requires : goal.insert-requires
insert-requires c =
    let some = some_pages c.args.entry c.requires.listed c.requires.some in
    let room = c.requires.room in
    let words = c.requires.kept.start_words.0 in
    omega (arith, some, room, words)

pub index_mut-requires : goal.index_mut-requires
index_mut-requires c =
    let some = some_pages c.args.entry c.requires.listed c.requires.some in
    let room = c.requires.room in
    let len = c.requires.kept.entries in
    omega (arith, some, room, len)

pub returns : goal.returns
returns c =
    let free = with_items_is c.args.self.now.free c.remove_range.new.words (search rules) in
    let count = c.page_count-count.ensures in
    record {
      rest = refl;
      entries = refl;
      start_words = c.insert.ensures.len;
      start = c.insert.ensures.held;
      starts = c.insert.ensures.others;
      table = subst (λ n. Leads c.args.self.now.table c.args.page n (Some c.args.page) c.set.new.self) count c.set.ensures;
      free_words = ap (λ w. length w) free ∙ c.remove_range.ensures.len ∙ ap (λ w. length w) c.deref_mut.ensures.value;
      taken = λ j high low. ap (λ w. has w j) free ∙ c.remove_range.ensures.range j high (omega (arith, low, count));
      free = λ j out.
          ap (λ w. has w j) free
          ∙ c.remove_range.ensures.others j (elim out [ inl low ↦ inl low | inr high ↦ inr (omega (arith, high, count)) ])
          ∙ ap (λ w. has w j) c.deref_mut.ensures.value;
    }
